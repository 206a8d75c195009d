-- The sums that marks are placed by, and how marking goes.
use Prim.Native.Nat.{ℕ, zero, suc, ◌+◌, ◌*◌, ◌/◌, ◌%◌, ◌≤◌, ◌<◌}
use mathlib.Core.Path.{◌≡◌, refl, sym, ap, ◌∙◌}
use mathlib.Core.List.{List, [], ◌∷◌}
use mathlib.Core.Bool.{Bool, true, false, ◌&&◌, and-false}
use native.Mathlib.Omega.{arith}
use native.Mathlib.Numerals.{add-one}
use lib.ListN.{length, get_or, set, length-set}
use lib.Dec.{eqb, ltb}
use borrow.Author.Tests.{lt-ltb, le-ltb, eq-eqb, ne_eqb, eqb-true, ltb-true}
use Rattle.lists.specs.Scan.{choose, how_many, nonzero}
use Rattle.lists.proofs.Tests.{both, count_le}
use Rattle.frames.specs.Frame.{Framed}
use Rattle.frames.specs.Place.{place_at, in_pool}
use Rattle.frames.specs.declared.frame.Frame.{Frame}
use Rattle.frames.proofs.Frames.{caps_most}
use Rattle.art.specs.Stores.{leaf_place, inner_place}
use Rattle.whole.specs.Marks.{sum_to, mark_at, unmarked, set_mark, fresh, reached}

-- ── sums ──
pub sum_suc : (k : ℕ) (l : List ℕ) → sum_to (suc k) l ≡ sum_to k l + get_or l k 0
sum_suc zero [] = refl
sum_suc (suc k) [] = refl
sum_suc zero (x ∷ xs) = omega arith
sum_suc (suc k) (x ∷ xs) = omega (arith, sum_suc k xs)

pub sum_next : (k : ℕ) (l : List ℕ) → sum_to (k + 1) l ≡ sum_to k l + get_or l k 0
sum_next k l = ap (λ (j : ℕ). sum_to j l) (add-one k) ∙ sum_suc k l

-- a capacity is at most 4,096, and so many together at most so many times that
pub sum_small : {f : Frame} → Framed f → (k : ℕ) → k ≤ 8 → sum_to k f.caps ≤ 4096 * k
sum_small w zero h = omega arith
sum_small {f} w (suc k) h =
    omega (arith, sum_suc k f.caps, sum_small w k (omega arith), caps_most w k (omega arith))

-- ── where a mark is ──
pub mark_by : (f : Frame) (ref : ℕ) → sum_to (ref % 8) f.caps + ref / 8 ≡ mark_at f (place_at ref)
mark_by f ref = go (eqb (ref % 8) 5) refl
  where
    go : (b : Bool) → eqb (ref % 8) 5 ≡ b → sum_to (ref % 8) f.caps + ref / 8 ≡ mark_at f (choose b (leaf_place (ref / 8)) (inner_place (ref % 8) (ref / 8)))
    go true e = ap (λ (k : ℕ). sum_to k f.caps + ref / 8) (eqb-true (ref % 8) 5 e)
    go false e = refl

-- ── a mark is set, or was, or is none ──
module _ (at : ℕ) (m : List ℕ) where
  pub mark_beyond : length m ≤ at → unmarked at m ≡ false
  mark_beyond h = ap (λ (b : Bool). b && eqb (get_or m at 0) 0) (le-ltb at (length m) h)

  pub mark_in : at < length m → eqb (get_or m at 0) 0 ≡ unmarked at m
  mark_in h = ap (λ (b : Bool). b && eqb (get_or m at 0) 0) (sym (lt-ltb at (length m) h))

  pub mark_on : at < length m → get_or m at 0 ≡ 0 → unmarked at m ≡ true
  mark_on h z = ap (λ (b : Bool). b && eqb (get_or m at 0) 0) (lt-ltb at (length m) h) ∙ eq-eqb _ _ z

  pub mark_off : (get_or m at 0 ≡ 0 → ⊥) → unmarked at m ≡ false
  mark_off z = ap (λ (b : Bool). ltb at (length m) && b) (ne_eqb _ _ z) ∙ and-false (ltb at (length m))

  pub set_on : unmarked at m ≡ true → set m at 1 ≡ set_mark at m
  set_on e = ap (λ (b : Bool). choose b (set m at 1) m) (sym e)

  pub set_off : unmarked at m ≡ false → m ≡ set_mark at m
  set_off e = ap (λ (b : Bool). choose b (set m at 1) m) (sym e)

-- ── a record is reached ──
module _ (f : Frame) (ref : ℕ) (m : List ℕ) where
  pub reach_in : in_pool f (place_at ref) ≡ true → unmarked (mark_at f (place_at ref)) m ≡ fresh f ref m
  unfolding fresh
  reach_in e = ap (λ (b : Bool). b && unmarked (mark_at f (place_at ref)) m) (sym e)

  pub reach_sets : in_pool f (place_at ref) ≡ true → set_mark (mark_at f (place_at ref)) m ≡ reached f ref m
  unfolding fresh reached
  reach_sets e = ap (λ (b : Bool). choose (b && unmarked (mark_at f (place_at ref)) m) (set m (mark_at f (place_at ref)) 1) m) (sym e)

  pub reach_out : in_pool f (place_at ref) ≡ false → (false ≡ fresh f ref m) × (m ≡ reached f ref m)
  unfolding fresh reached
  reach_out e =
      let o : fresh f ref m ≡ false = ap (λ (b : Bool). b && unmarked (mark_at f (place_at ref)) m) e in
      (sym o, ap (λ (b : Bool). choose b (set m (mark_at f (place_at ref)) 1) m) (sym o))

-- ── how many are marked ──
count_set : (m : List ℕ) (at : ℕ) → at < length m → get_or m at 0 ≡ 0 → how_many nonzero (set m at 1) ≡ suc (how_many nonzero m)
count_set [] at h e = absurd (omega arith)
count_set (x ∷ xs) zero h e = ap suc (ap (λ (b : Bool). choose b (suc (how_many nonzero xs)) (how_many nonzero xs)) (sym (le-ltb 0 x (omega arith))))
count_set (x ∷ xs) (suc at) h e = go (nonzero x) (count_set xs at (omega arith) e)
  where
    go : (b : Bool) → how_many nonzero (set xs at 1) ≡ suc (how_many nonzero xs)
        → choose b (suc (how_many nonzero (set xs at 1))) (how_many nonzero (set xs at 1)) ≡ suc (choose b (suc (how_many nonzero xs)) (how_many nonzero xs))
    go true ih = ap suc ih
    go false ih = ih

module _ (f : Frame) (ref : ℕ) (m : List ℕ) where
  -- one more, where the record is fresh
  pub fresh_parts : fresh f ref m ≡ true → (in_pool f (place_at ref) ≡ true) × (mark_at f (place_at ref) < length m) × (get_or m (mark_at f (place_at ref)) 0 ≡ 0)
  unfolding fresh
  fresh_parts e =
      let at = mark_at f (place_at ref) in
      let p = both (in_pool f (place_at ref)) (unmarked at m) e in
      let q = both (ltb at (length m)) (eqb (get_or m at 0) 0) p.1 in
      (p.0, ltb-true _ _ q.0, eqb-true _ _ q.1)

  pub reached_new : fresh f ref m ≡ true → reached f ref m ≡ set m (mark_at f (place_at ref)) 1
  unfolding reached
  reached_new e = ap (λ (b : Bool). choose b (set m (mark_at f (place_at ref)) 1) m) e

  pub reached_old : fresh f ref m ≡ false → reached f ref m ≡ m
  unfolding reached
  reached_old e = ap (λ (b : Bool). choose b (set m (mark_at f (place_at ref)) 1) m) e

  pub reached_count : fresh f ref m ≡ true → how_many nonzero (reached f ref m) ≡ suc (how_many nonzero m)
  reached_count e =
      let p = fresh_parts e in
      ap (how_many nonzero) (reached_new e) ∙ count_set m (mark_at f (place_at ref)) p.1 p.2

  pub reached_length : length (reached f ref m) ≡ length m
  reached_length = go (fresh f ref m) refl
    where
      go : (b : Bool) → fresh f ref m ≡ b → length (reached f ref m) ≡ length m
      go true e = ap length (reached_new e) ∙ length-set m (mark_at f (place_at ref)) 1
      go false e = ap length (reached_old e)

  -- a fresh record leaves room to count
  pub fresh_room : fresh f ref m ≡ true → how_many nonzero m < length m
  fresh_room e = omega (arith, reached_count e, reached_length, count_le nonzero (reached f ref m))

  pub reached_more : how_many nonzero m ≤ how_many nonzero (reached f ref m)
  reached_more = go (fresh f ref m) refl
    where
      go : (b : Bool) → fresh f ref m ≡ b → how_many nonzero m ≤ how_many nonzero (reached f ref m)
      go true e = omega (arith, reached_count e)
      go false e = omega (arith, ap (how_many nonzero) (reached_old e))
