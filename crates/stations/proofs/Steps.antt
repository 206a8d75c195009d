-- The cases of an entry, of a step, of the pass from a reference on, and of the call; and that the tally never lacks room: no more is counted than the leaves that are left allow.
use Prim.Native.Nat.{ℕ, zero, suc, ◌+◌, ◌^◌, ◌/◌, ◌%◌, ◌≤◌, ◌<◌}
use mathlib.Core.Path.{◌≡◌, refl, sym, ap, subst, ◌∙◌}
use mathlib.Core.List.{List}
use mathlib.Core.Bool.{Bool, true, false}
use native.Mathlib.Omega.{arith}
use native.Mathlib.Nat.{sub-zero}
use lib.ListN.{length, take}
use borrow.Author.Tests.{lt-ltb, le-ltb}
use Rattle.stations.specs.Stations.{Totalled, starts_so, leaf_entry, no_entry, place_entry, entry_of, tally_one, tally_from, tally_list, tally_of, answer, total_check, total_of}
use Rattle.whole.specs.Check.{Checked}
use Rattle.lists.specs.Scan.{choose}
use Rattle.lists.specs.Compare.{begins}
use Rattle.lists.specs.Part.{between}
use Rattle.frames.specs.Kind.{leaf_size}
use Rattle.frames.specs.Frame.{FrameOf}
use Rattle.frames.specs.Place.{place_at, in_pool, start_at, key_at}
use Rattle.frames.specs.declared.frame.Frame.{Frame}
use Rattle.records.specs.Words.{tag_length, next_leaf_word}
use Rattle.records.specs.Own as own
use Rattle.art.specs.Stores.{Place, leaf_place}
use Rattle.tree.proofs.Arrivals.{leaf_named, inner_named}
use Rattle.tally.specs.declared.Tally.{Tally}
use Rattle.tally.specs.Tally.{Room, added_of, nothing}
use Rattle.whole.specs.Check as check
use Rattle.stations.specs.declared.Entry.{Entry}

-- ── at a leaf, by its length n ──
module _ (rec key bytes : List ℕ) where
  abbrev within : Bool → Bool
  within b = choose b false (begins bytes (take (tag_length rec) key))

  pub starts_long : {n : ℕ} → n ≡ tag_length rec → length key < n → false ≡ starts_so rec key bytes
  unfolding starts_so
  starts_long e h = ap within (sym (lt-ltb (length key) (tag_length rec) (omega arith)))

  pub starts_by : {n : ℕ} {b : Bool} → n ≡ tag_length rec → n ≤ length key → b ≡ begins bytes (between key 0 n) → b ≡ starts_so rec key bytes
  unfolding starts_so
  starts_by {n} e h l = l ∙ ap (λ (k : ℕ). begins bytes (take k key)) (sub-zero n ∙ e) ∙ ap within (sym (le-ltb (length key) (tag_length rec) (omega arith)))

  pub entry_by : {c : Bool} {total next : ℕ} → c ≡ starts_so rec key bytes → total ≡ own.total_of rec → next ≡ next_leaf_word rec → ◌≡◌ {A = Entry} (record { counts = c; total = total; next = next }) (leaf_entry rec key bytes)
  unfolding leaf_entry
  entry_by c t n = λ i. record { counts = c i; total = t i; next = n i }

-- ── at a reference ──
module _ (f : Frame) (words keys bytes : List ℕ) (ref : ℕ) where
  at_place : {x : Place} → place_at ref ≡ x → place_entry f words keys bytes x ≡ entry_of f words keys bytes ref
  unfolding entry_of
  at_place e = ap (place_entry f words keys bytes) (sym e)

  pub at_other : (ref % 8 ≡ 5 → ⊥) → no_entry ≡ entry_of f words keys bytes ref
  at_other k = at_place (inner_named ref k)

  module _ (k : ref % 8 ≡ 5) where
    abbrev leaf : Entry
    leaf = leaf_entry (between words (start_at f (leaf_place (ref / 8))) (start_at f (leaf_place (ref / 8)) + leaf_size)) (key_at f keys (ref / 8)) bytes

    leaf_by : {b : Bool} → in_pool f (place_at ref) ≡ b → choose b leaf no_entry ≡ entry_of f words keys bytes ref
    leaf_by p = ap (λ (b : Bool). choose b leaf no_entry) (sym p ∙ ap (in_pool f) (leaf_named ref k)) ∙ at_place (leaf_named ref k)

    pub at_outside : in_pool f (place_at ref) ≡ false → no_entry ≡ entry_of f words keys bytes ref
    at_outside p = leaf_by p

    pub at_leaf : {start : ℕ} {x : Entry} → in_pool f (place_at ref) ≡ true → start ≡ start_at f (place_at ref)
        → x ≡ leaf_entry (between words start (start + leaf_size)) (key_at f keys (ref / 8)) bytes → x ≡ entry_of f words keys bytes ref
    at_leaf p e h = h ∙ ap (λ (a : ℕ). leaf_entry (between words a (a + leaf_size)) (key_at f keys (ref / 8)) bytes) (e ∙ ap (start_at f) (leaf_named ref k)) ∙ leaf_by p

-- ── a step ──
pub one_by : (t : Tally) (e : Entry) {b : Bool} → e.counts ≡ b → choose b (added_of t e.total) t ≡ tally_one t e
unfolding tally_one
one_by t e q = ap (λ (b : Bool). choose b (added_of t e.total) t) (sym q)

-- with so many leaves left, none of which was counted, there is room for each
pub record Small (t : Tally) (left : ℕ) : Type 0 where
  pub counted : t.count + left < 2 ^ 32
  pub few : t.carries ≤ t.count
  pub low : t.low < 2 ^ 64

pub small_nothing : {t : Tally} {left : ℕ} → t ≡ nothing → left < 2 ^ 32 → Small t left
small_nothing {t} {left} e l = subst (λ (x : Tally). Small x left) (sym e) (record { counted = omega arith; few = omega arith; low = omega arith })

pub small_room : {t : Tally} {left : ℕ} → 0 < left → Small t left → Room t
small_room l s = record { counts = omega (arith, s.counted, l); carries = omega (arith, s.counted, s.few, l) }

pub small_one : (t : Tally) (e : Entry) {u : Tally} {n left : ℕ} → u ≡ tally_one t e → e.total < 2 ^ 64 → n ≡ suc left → Small t n → Small u left
unfolding tally_one added_of
small_one t e {left = left} q h l s = subst (λ (x : Tally). Small x left) (sym q) (go e.counts)
  where
    go : (b : Bool) → Small (choose b (added_of t e.total) t) left
    go true = record { counted = omega (arith, s.counted, l); few = omega (arith, s.few, s.low, h); low = omega arith }
    go false = record { counted = omega (arith, s.counted); few = s.few; low = s.low }

-- ── from a reference on ──
module _ (f : Frame) (words keys bytes : List ℕ) where
  pub from_next : {n left : ℕ} (t : Tally) (ref : ℕ) {u : Tally} (e : Entry) → n ≡ suc left → e ≡ entry_of f words keys bytes ref → u ≡ tally_one t e
      → tally_from f words keys bytes n t ref ≡ tally_from f words keys bytes left u e.next
  unfolding tally_from
  from_next {left = left} t ref e l i j =
      ap (λ (n : ℕ). tally_from f words keys bytes n t ref) l
      ∙ ap (λ (x : Entry). tally_from f words keys bytes left (tally_one t x) x.next) (sym i)
      ∙ ap (λ (x : Tally). tally_from f words keys bytes left x e.next) (sym j)

  pub from_over : (left : ℕ) (t : Tally) (ref : ℕ) → left ≤ 0 → tally_from f words keys bytes left t ref ≡ t
  unfolding tally_from
  from_over zero t ref l = refl
  from_over (suc left) t ref l = absurd (omega arith)

-- ── the call ──
-- along the list of a block, in the frame that its slices give
pub pass_by : {f : Frame} {w k words keys : List ℕ} (bytes : List ℕ) {t : Tally} → FrameOf f w k → (w ≡ words) × (k ≡ keys) → t ≡ tally_list f w k bytes → t ≡ tally_of words keys bytes
pass_by {w = w} {k} {words} bytes h q e =
    e
    ∙ ap (λ (g : Frame). tally_list g w k bytes) h.read
    ∙ ap (λ (l : List ℕ). tally_of l k bytes) q.0
    ∙ ap (λ (l : List ℕ). tally_of words l bytes) q.1

pub call_by : (words keys scratch bytes : List ℕ) {c : Checked} {s : List ℕ} {a : Totalled} → check.answer c s ≡ check.check_of words keys scratch → a ≡ total_check words keys bytes c
    → answer a s ≡ total_of words keys scratch bytes
unfolding total_of
call_by words keys scratch bytes {c} {s} {a} e h =
    ap (λ (x : Totalled). answer x s) h ∙ ap (λ (x : check.Answer). answer (total_check words keys bytes x.result) x.scratch) e
