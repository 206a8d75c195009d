-- The cases of the definition that takes a record and its row by turns, in the code's numbers; what is handed up is a leaf that was seen, and no more leaves are counted than
-- records are marked.
use Prim.Native.Nat.{ℕ, zero, suc, ◌+◌, ◌-◌, ◌≤◌, ◌<◌}
use mathlib.Core.Path.{◌≡◌, refl, sym, ap, subst, ◌∙◌}
use mathlib.Core.List.{List, [], ◌∷◌}
use mathlib.Core.Bool.{Bool, true, false, ◌&&◌}
use native.Mathlib.Omega.{arith}
use lib.ListN.{length, get_or}
use lib.Dec.{eqb, leb, ltb}
use borrow.Author.Tests.{eqb-false, leb-true, leb-false, ltb-true, le-leb, lt-leb}
use Rattle.lists.specs.Scan.{choose, how_many, nonzero}
use Rattle.lists.specs.Part.{between}
use Rattle.lists.proofs.Tests.{both}
use Rattle.frames.specs.Kind.{leaf_size}
use Rattle.frames.specs.Frame.{FrameOf}
use Rattle.frames.specs.Place.{place_at, in_pool}
use Rattle.frames.specs.declared.frame.Frame.{Frame}
use Rattle.frames.proofs.Frames.{limit_small}
use Rattle.records.specs.View.{rule_at}
use Rattle.records.specs.Row.{entry_from, Climbs, Entry}
use Rattle.std.specs.Prelude.{Some, None}
use Rattle.std.specs.declared.ops.ControlFlow.TheVariants.{Continue, Break}
use Rattle.whole.specs.Visit.{Turn, Visit, Way, way, leaf_visit, turn_of, turn_at, first_of, row_end, child_end, way_on, record_end, row_by, row_from, row_of, after_turn, record_by, row_way, Sees, Counted, RecordReady, RowReady}
use Rattle.records.proofs.Owns.{inner_rule}
use Rattle.records.proofs.RowRules.{row_rule}
use Rattle.art.specs.Stores.{Place, leaf_place, inner_place}
use Rattle.tree.specs.Arrive.{arrival_at, arrived, on_path, InnerFitsFrom}
use Rattle.whole.specs.Arrive.{There, inner_rec}
use Rattle.whole.specs.Marks.{fresh, reached}
use Rattle.tree.specs.Seen.{LeafSeen, tag_at}
use Rattle.tree.proofs.Leaves.{leaf_arrived}
use Rattle.whole.specs.Witness.{WitnessSeen, goes_on, stored_agrees}
use Rattle.tree.specs.declared.arrive.Arrival.{Arrival}
use Rattle.tree.specs.declared.arrive.Arrival.TheVariants.{Leaf, Inner, Broken}
use Rattle.whole.specs.declared.well_formed.Seen.{Seen}
use Rattle.whole.specs.declared.well_formed.Row.{Row}
use Rattle.whole.proofs.Marking.{reached_count, reached_more}
use Rattle.whole.proofs.Arrivals.{there}
use Rattle.whole.proofs.Turns.{first_seen}

-- ── what is done at a record ──
module _ (f : Frame) (words keys : List ℕ) (left ref depth : ℕ) (m : List ℕ) (s : Seen) where
  pub turn_old : fresh f ref m ≡ false → Break None ≡ turn_at f words keys left ref depth m s
  unfolding turn_at
  turn_old e = ap (λ (b : Bool). choose b (turn_of f words ref depth s (arrival_at f words keys left (place_at ref))) (Break None)) (sym e)

  pub turn_new : {a : Arrival} {t : Turn} → fresh f ref m ≡ true → a ≡ arrival_at f words keys left (place_at ref) → t ≡ turn_of f words ref depth s a → t ≡ turn_at f words keys left ref depth m s
  unfolding turn_at
  turn_new e h t =
      t ∙ ap (turn_of f words ref depth s) h
      ∙ ap (λ (b : Bool). choose b (turn_of f words ref depth s (arrival_at f words keys left (place_at ref))) (Break None)) (sym e)

-- ── where a record branches ──
pub record Branches (f : Frame) (words : List ℕ) (left depth : ℕ) (row : Row) : Type 0 where
  pub some : 0 < left
  pub there : InnerFitsFrom f.form words row.kind row.start
  pub shallow : row.depth ≤ depth + 128

module _ {f : Frame} {words keys : List ℕ} (w : FrameOf f words keys) (left ref depth : ℕ) (m : List ℕ) (s : Seen) where
  abbrev BranchesTo : Turn → Type 0
  BranchesTo (Continue row) = Branches f words left depth row
  BranchesTo (Break v) = Unit {0}

  branch_inner : (k start : ℕ) → InnerFitsFrom f.form words k start → 0 < left → BranchesTo (turn_of f words ref depth s (Inner k start))
  branch_inner k start h z =
      record {
        some = z;
        there = h;
        shallow = omega (arith, (inner_rule f.form k (inner_rec f.form words k start) h.fits.ok).head.short, limit_small w);
      }

  inner_picked : (x : Place) (b : Bool) (k start : ℕ) → in_pool f x && (rule_at f words keys x && on_path left x) ≡ b → choose b (arrived f x) Broken ≡ Inner k start → 0 < left
  inner_picked (leaf_place n) true k start e q = absurd (let z : ◌≡◌ {A = ℕ} 0 1 = cc in omega arith)
  inner_picked (inner_place j n) true k start e q =
      let p = both (in_pool f (inner_place j n)) (rule_at f words keys (inner_place j n) && ltb 0 left) e in
      ltb-true 0 left (both (rule_at f words keys (inner_place j n)) (ltb 0 left) p.1).1
  inner_picked x false k start e q = absurd (let z : ◌≡◌ {A = ℕ} 0 1 = cc in omega arith)

  inner_left : (x : Place) (k start : ℕ) → arrival_at f words keys left x ≡ Inner k start → 0 < left
  unfolding arrival_at
  inner_left x k start q = inner_picked x (in_pool f x && (rule_at f words keys x && on_path left x)) k start refl q

  branch_of : (a : Arrival) → arrival_at f words keys left (place_at ref) ≡ a → There f words a → BranchesTo (turn_of f words ref depth s a)
  branch_of (Leaf n start) e h = tt
  branch_of (Inner k start) e h = branch_inner k start h (inner_left (place_at ref) k start e)
  branch_of Broken e h = tt

  branch_at : (b : Bool) → BranchesTo (choose b (turn_of f words ref depth s (arrival_at f words keys left (place_at ref))) (Break None))
  branch_at true = branch_of (arrival_at f words keys left (place_at ref)) refl (there w left (place_at ref))
  branch_at false = tt

  pub branches : (row : Row) → turn_at f words keys left ref depth m s ≡ Continue row → Branches f words left depth row
  unfolding turn_at
  branches row e = subst BranchesTo e (branch_at (fresh f ref m))

pub from_all : (lo b : ℕ) (cs : List (ℕ × ℕ)) → Climbs lo cs → b ≤ lo → row_from b cs ≡ cs
from_all lo b [] h l = refl
from_all lo b (c ∷ cs) h l = ap (λ (t : Bool). choose t (c ∷ cs) (row_from b cs)) (le-leb b c.0 (omega (arith, h.0.low)))

-- no child has a byte after 255
none_from : (lo b : ℕ) (cs : List (ℕ × ℕ)) → Climbs lo cs → 255 < b → row_from b cs ≡ []
none_from lo b [] h l = refl
none_from lo b (c ∷ cs) h l = ap (λ (t : Bool). choose t (c ∷ cs) (row_from b cs)) (lt-leb b c.0 (omega (arith, h.0.byte))) ∙ none_from (suc c.0) b cs h.1 l

-- what stands first from a byte on, and the rest
pub record Starts (b : ℕ) (cs : List (ℕ × ℕ)) (x r : ℕ) : Type 0 where
  pub low : b ≤ x
  pub byte : x < 256
  pub parts : row_from b cs ≡ (x, r) ∷ row_from (x + 1) cs

abbrev StartsAt : ℕ → List (ℕ × ℕ) → Entry → Type 0
StartsAt b cs (Some (x, r)) = Starts b cs x r
StartsAt b cs None = row_from b cs ≡ []

skip_starts : (b : ℕ) (c : ℕ × ℕ) (cs : List (ℕ × ℕ)) (en : Entry) → c.0 < b → StartsAt b cs en → StartsAt b (c ∷ cs) en
skip_starts b c cs (Some (x, r)) l h =
    record {
      low = h.low;
      byte = h.byte;
      parts =
          ap (λ (t : Bool). choose t (c ∷ cs) (row_from b cs)) (lt-leb b c.0 l)
          ∙ h.parts
          ∙ ap (λ (t : List (ℕ × ℕ)). (x, r) ∷ t) (ap (λ (t : Bool). choose t (c ∷ cs) (row_from (x + 1) cs)) (sym (lt-leb (x + 1) c.0 (omega (arith, h.low)))));
    }
skip_starts b c cs None l h = ap (λ (t : Bool). choose t (c ∷ cs) (row_from b cs)) (lt-leb b c.0 l) ∙ h

here_starts : (lo b : ℕ) (c : ℕ × ℕ) (cs : List (ℕ × ℕ)) → Climbs lo (c ∷ cs) → b ≤ c.0 → Starts b (c ∷ cs) c.0 c.1
here_starts lo b c cs h l =
    record {
      low = l;
      byte = h.0.byte;
      parts =
          ap (λ (t : Bool). choose t (c ∷ cs) (row_from b cs)) (le-leb b c.0 l)
          ∙ ap (λ (t : List (ℕ × ℕ)). (c.0, c.1) ∷ t)
          (sym
          (ap (λ (t : Bool). choose t (c ∷ cs) (row_from (c.0 + 1) cs)) (lt-leb (c.0 + 1) c.0 (omega arith))
          ∙ from_all (suc c.0) (c.0 + 1) cs h.1 (omega arith)));
    }

starts_at : (lo b : ℕ) (cs : List (ℕ × ℕ)) → Climbs lo cs → StartsAt b cs (entry_from b cs)
starts_at lo b [] h = refl
starts_at lo b (c ∷ cs) h = go (leb b c.0) refl (starts_at (suc c.0) b cs h.1)
  where
    go : (t : Bool) → leb b c.0 ≡ t → StartsAt b cs (entry_from b cs) → StartsAt b (c ∷ cs) (choose t (Some (c.0, c.1)) (entry_from b cs))
    go true e ih = here_starts lo b c cs h (leb-true b c.0 e)
    go false e ih = skip_starts b c cs (entry_from b cs) (leb-false b c.0 e) ih

module _ (f : Frame) (words : List ℕ) (row : Row) (h : InnerFitsFrom f.form words row.kind row.start) (b : ℕ) where
  pub row_starts : (x r : ℕ) → entry_from b (row_of f words row) ≡ Some (x, r) → Starts b (row_of f words row) x r
  row_starts x r e = subst (StartsAt b (row_of f words row)) e (starts_at 0 b (row_of f words row) (row_rule h.fits).climbs)

  pub row_ends : entry_from b (row_of f words row) ≡ None → row_from b (row_of f words row) ≡ []
  row_ends e = subst (StartsAt b (row_of f words row)) e (starts_at 0 b (row_of f words row) (row_rule h.fits).climbs)

  pub row_past : 255 < b → row_from b (row_of f words row) ≡ []
  row_past l = none_from 0 b (row_of f words row) (row_rule h.fits).climbs l

  pub row_whole : b ≡ 0 → row_from b (row_of f words row) ≡ row_of f words row
  row_whole e = from_all 0 b (row_of f words row) (row_rule h.fits).climbs (omega arith)

-- ── the turns of a record ──
module _ (f : Frame) (words keys : List ℕ) (left ref depth : ℕ) (m : List ℕ) (s : Seen) where
  pub record_done : (v : Visit) → turn_at f words keys left ref depth m s ≡ Break v → record_by f words keys left ref depth m s ≡ way v (reached f ref m)
  unfolding record_by
  record_done v = go left
    where
      go : (l : ℕ) → turn_at f words keys l ref depth m s ≡ Break v → record_by f words keys l ref depth m s ≡ way v (reached f ref m)
      go zero e = simp e
      go (suc l) e = simp e

  abbrev ends : Row → Way → Way
  ends row x = way (record_end f words keys row depth x.visit) x.marks

  pub record_branch : (row : Row) → turn_at f words keys left ref depth m s ≡ Continue row → Branches f words left depth row
      → record_by f words keys left ref depth m s
      ≡ way (record_end f words keys row depth (row_way f words keys (left - 1) row 256 0 (reached f ref m) s).visit) (row_way f words keys (left - 1) row 256 0 (reached f ref m) s).marks
  unfolding record_by
  record_branch row = go left
    where
      go : (l : ℕ) → turn_at f words keys l ref depth m s ≡ Continue row → Branches f words l depth row
          → record_by f words keys l ref depth m s ≡ ends row (row_way f words keys (l - 1) row 256 0 (reached f ref m) s)
      go zero e h = absurd (omega (arith, h.some))
      go (suc l) e h =
          let q : suc l - 1 ≡ l = omega arith in
          ap (λ (t : Turn). after_turn f words keys (λ row m'. row_by f words keys (record_by f words keys l) row.depth 0 (row_of f words row) m' s) depth t (reached f ref m)) e
          ∙ ap (λ (cs : List (ℕ × ℕ)). ends row (row_by f words keys (record_by f words keys l) row.depth 0 cs (reached f ref m) s)) (sym (row_whole f words row h.there (256 - 256) refl))
          ∙ ap (λ (k : ℕ). ends row (row_way f words keys k row 256 0 (reached f ref m) s)) (sym q)

-- ── the turns of a row, with so many places left ──
module _ (f : Frame) (words keys : List ℕ) (left : ℕ) (row : Row) (places w : ℕ) (m : List ℕ) (s : Seen) where
  pub row_end_lem : row_from (256 - places) (row_of f words row) ≡ [] → row_way f words keys left row places w m s ≡ way (row_end w s) m
  unfolding row_by
  row_end_lem e = ap (λ (cs : List (ℕ × ℕ)). row_by f words keys (record_by f words keys left) row.depth w cs m s) e

  module _ (x r : ℕ) (h : Starts (256 - places) (row_of f words row) x r) where
    abbrev child : Way
    child = record_by f words keys left r (row.depth + 1) m s

    row_child : row_way f words keys left row places w m s
        ≡ way_on (child_end f words keys row.depth x w child.visit) child.marks
        (λ y m' s'. row_way f words keys left row (255 - x) y m' s')
    unfolding row_by
    row_child =
        let past : x + 1 ≡ 256 - (255 - x) = omega (arith, h.byte) in
        ap (λ (cs : List (ℕ × ℕ)). row_by f words keys (record_by f words keys left) row.depth w cs m s) (h.parts ∙ ap (λ (b : ℕ). (x, r) ∷ row_from b (row_of f words row)) past)

    pub row_ill : child_end f words keys row.depth x w child.visit ≡ None
        → row_way f words keys left row places w m s ≡ way None child.marks
    row_ill e =
        row_child
        ∙ ap (λ (v : Visit). way_on v child.marks (λ y m' s'. row_way f words keys left row (255 - x) y m' s')) e

    pub row_well : (y : ℕ) (z : Seen) → child_end f words keys row.depth x w child.visit ≡ Some (y, z)
        → row_way f words keys left row places w m s ≡ row_way f words keys left row (255 - x) y child.marks z
    row_well y z e =
        row_child
        ∙ ap (λ (v : Visit). way_on v child.marks (λ y m' s'. row_way f words keys left row (255 - x) y m' s')) e

-- ── what is handed up ──
module _ (f : Frame) (words keys : List ℕ) where
  abbrev Kept : List ℕ → Visit → Type 0
  Kept m v = Sees f words keys v × Counted m v

  pub leaf_witness : {w : ℕ} → LeafSeen f words keys w → WitnessSeen f words keys w
  leaf_witness l = record { seen = λ e. l }

  pub no_witness : WitnessSeen f words keys 0
  no_witness = record { seen = λ e. absurd (e refl) }

  -- a leaf that is arrived at is one more, where it follows
  leaf_kept : (left ref : ℕ) (rec m : List ℕ) (s : Seen) (n start : ℕ) → arrival_at f words keys left (place_at ref) ≡ Leaf n start → fresh f ref m ≡ true → s.count ≤ how_many nonzero m
      → Kept (reached f ref m) (leaf_visit rec ref s)
  unfolding leaf_visit
  leaf_kept left ref rec m s n start e fr c = go (eqb (get_or rec 2 0) s.prev && eqb s.next ref)
    where
      go : (b : Bool) → Kept (reached f ref m) (choose b (Some (ref, record { prev = ref; next = get_or rec 3 0; count = s.count + 1 })) None)
      go true = (leaf_arrived f words keys left ref n start e, omega (arith, reached_count f ref m fr))
      go false = (tt, tt)

  child_kept : (e byte w : ℕ) (m : List ℕ) (v : Visit) → WitnessSeen f words keys w → Kept m v → Kept m (child_end f words keys e byte w v)
  child_kept e byte w m (Some (t, s)) h k = go (goes_on e (tag_at f words keys (first_of w t)) byte (tag_at f words keys t))
    where
      go : (b : Bool) → Kept m (choose b (Some (first_of w t, s)) None)
      go true = (first_seen h k.0 refl, k.1)
      go false = (tt, tt)
  child_kept e byte w m None h k = (tt, tt)

  end_kept : (row : Row) (depth : ℕ) (m : List ℕ) (v : Visit) → Kept m v → Kept m (record_end f words keys row depth v)
  end_kept row depth m (Some (w, s)) k = go (stored_agrees depth _ (tag_at f words keys w))
    where
      go : (b : Bool) → Kept m (choose b (Some (w, s)) None)
      go true = k
      go false = (tt, tt)
  end_kept row depth m None k = (tt, tt)

  rows_kept : (w : ℕ) (m : List ℕ) (s : Seen) → WitnessSeen f words keys w → s.count ≤ how_many nonzero m → Kept m (row_end w s)
  unfolding row_end
  rows_kept w m s h c = go (eqb w 0) refl
    where
      go : (b : Bool) → eqb w 0 ≡ b → Kept m (choose b None (Some (w, s)))
      go true e = (tt, tt)
      go false e = (h.seen (eqb-false w 0 e), c)

  abbrev KeptBy : (ℕ → ℕ → List ℕ → Seen → Way) → Type 0
  KeptBy g = (ref depth : ℕ) (m : List ℕ) (s : Seen) → s.count ≤ how_many nonzero m → Kept (g ref depth m s).marks (g ref depth m s).visit

  on_kept : (v : Visit) (m : List ℕ) (go : ℕ → List ℕ → Seen → Way) → Kept m v
      → ((w : ℕ) (s : Seen) → WitnessSeen f words keys w → s.count ≤ how_many nonzero m → Kept (go w m s).marks (go w m s).visit) → Kept (way_on v m go).marks (way_on v m go).visit
  on_kept (Some (w, s)) m go k h = h w s (leaf_witness k.0) k.1
  on_kept None m go k h = (tt, tt)

  pub row_kept : (g : ℕ → ℕ → List ℕ → Seen → Way) → KeptBy g → (e w : ℕ) (cs : List (ℕ × ℕ)) (m : List ℕ) (s : Seen) → WitnessSeen f words keys w → s.count ≤ how_many nonzero m
      → Kept (row_by f words keys g e w cs m s).marks (row_by f words keys g e w cs m s).visit
  unfolding row_by
  row_kept g k e w [] m s h c = rows_kept w m s h c
  row_kept g k e w (x ∷ cs) m s h c =
      let y : Way = g x.1 (e + 1) m s in
      on_kept (child_end f words keys e x.0 w y.visit) y.marks (λ t m' s'. row_by f words keys g e t cs m' s') (child_kept e x.0 w y.marks y.visit h (k x.1 (e + 1) m s c))
      (λ t s' h' c'. row_kept g k e t cs y.marks s' h' c')

  turn_kept : (left ref depth : ℕ) (m : List ℕ) (s : Seen) (check : Row → List ℕ → Way) → ((row : Row) → Kept (check row (reached f ref m)).marks (check row (reached f ref m)).visit)
      → s.count ≤ how_many nonzero m
      → Kept (after_turn f words keys check depth (turn_at f words keys left ref depth m s) (reached f ref m)).marks (after_turn f words keys check depth (turn_at f words keys left ref depth m s) (reached f ref m)).visit
  unfolding turn_at
  turn_kept left ref depth m s check k c = go (fresh f ref m) refl (arrival_at f words keys left (place_at ref)) refl
    where
      go : (b : Bool) → fresh f ref m ≡ b → (a : Arrival) → arrival_at f words keys left (place_at ref) ≡ a
          → Kept (after_turn f words keys check depth (choose b (turn_of f words ref depth s a) (Break None)) (reached f ref m)).marks
          (after_turn f words keys check depth (choose b (turn_of f words ref depth s a) (Break None)) (reached f ref m)).visit
      go false e a q = (tt, tt)
      go true e (Leaf n start) q = leaf_kept left ref (between words start (start + leaf_size)) m s n start q e c
      go true e (Inner kind start) q =
          let row : Row = record { kind = kind; start = start; depth = depth + get_or (inner_rec f.form words kind start) 2 0 } in
          end_kept row depth (check row (reached f ref m)).marks (check row (reached f ref m)).visit (k row)
      go true e Broken q = (tt, tt)

  pub record_kept : (left : ℕ) → KeptBy (record_by f words keys left)
  unfolding record_by
  record_kept zero ref depth m s c =
      turn_kept 0 ref depth m s (λ row m'. row_by f words keys (λ ref depth m s. way None m) row.depth 0 (row_of f words row) m' s)
      (λ row. row_kept (λ ref depth m s. way None m) (λ ref depth m s c. (tt, tt)) row.depth 0 (row_of f words row) (reached f ref m) s no_witness (omega (arith, reached_more f ref m))) c
  record_kept (suc left) ref depth m s c =
      turn_kept (suc left) ref depth m s (λ row m'. row_by f words keys (record_by f words keys left) row.depth 0 (row_of f words row) m' s)
      (λ row. row_kept (record_by f words keys left) (record_kept left) row.depth 0 (row_of f words row) (reached f ref m) s no_witness (omega (arith, reached_more f ref m))) c

-- ── the turns of `check_record`, by what its calls gave ──
module _ {f : Frame} {words keys : List ℕ} (w : FrameOf f words keys) {left depth : ℕ} {s : Seen} {m : List ℕ} (q : RecordReady left depth s m) (ref : ℕ) where
  abbrev Record_answers : Visit → List ℕ → Type 0
  Record_answers v m' = (v ≡ (record_by f words keys left ref depth m s).visit) × (m' ≡ (record_by f words keys left ref depth m s).marks)

  -- the record is reached, which leaves the marks m', and its row is to be gone over
  pub record RowNext (row : Row) (m' : List ℕ) : Type 0 where
    pub turn : turn_at f words keys left ref depth m s ≡ Continue row
    pub marks : m' ≡ reached f ref m

  module _ {t : Turn} {m' : List ℕ} (a : (t ≡ turn_at f words keys left ref depth m s) × (m' ≡ reached f ref m)) where
    pub row_next : {row : Row} → t ≡ Continue row → RowNext row m'
    row_next e = record { turn = sym a.0 ∙ e; marks = a.1 }

    pub record_stops : {v : Visit} → t ≡ Break v → Record_answers v m'
    record_stops {v} e =
        let d = record_done f words keys left ref depth m s v (sym a.0 ∙ e) in
        (sym (ap (λ (x : Way). x.visit) d), a.1 ∙ sym (ap (λ (x : Way). x.marks) d))

module _ {f : Frame} {words keys : List ℕ} {w : FrameOf f words keys} {left depth : ℕ} {s : Seen} {m : List ℕ} {q : RecordReady left depth s m} {ref : ℕ} {row : Row} {m' : List ℕ} (h : RowNext w q ref row m') where
  branch_here : Branches f words left depth row
  branch_here = branches w left ref depth m s row h.turn

  pub some_left : 0 < left
  some_left = branch_here.some

  -- the row can be gone over, with one record less left on the path
  pub row_ready : RowReady f words keys (left - 1) row 256 0 s m'
  row_ready =
      record {
        there = branch_here.there;
        within = omega arith;
        witness = no_witness f words keys;
        counted = omega (arith, q.counted, ap (how_many nonzero) h.marks, reached_more f ref m);
        shallow = omega (arith, branch_here.some, branch_here.shallow, q.shallow);
      }

  module _ {v : Visit} {mr : List ℕ} (a : (v ≡ (row_way f words keys (left - 1) row 256 0 m' s).visit) × (mr ≡ (row_way f words keys (left - 1) row 256 0 m' s).marks)) where
    pub row_sees : Sees f words keys v
    row_sees =
        subst (Sees f words keys) (sym a.0)
        (row_kept f words keys (record_by f words keys (left - 1)) (record_kept f words keys (left - 1)) row.depth 0 (row_from (256 - 256) (row_of f words row)) m' s (no_witness f words keys) row_ready.counted).0

    pub record_closes : {r : Visit} → r ≡ record_end f words keys row depth v → Record_answers w q ref r mr
    record_closes {r} e =
        let whole = record_branch f words keys left ref depth m s row h.turn branch_here in
        let at : row_way f words keys (left - 1) row 256 0 m' s ≡ row_way f words keys (left - 1) row 256 0 (reached f ref m) s =
        ap (λ (x : List ℕ). row_way f words keys (left - 1) row 256 0 x s) h.marks in (
          e ∙ ap (record_end f words keys row depth) (a.0 ∙ ap (λ (x : Way). x.visit) at) ∙ sym (ap (λ (x : Way). x.visit) whole),
          a.1 ∙ ap (λ (x : Way). x.marks) at ∙ sym (ap (λ (x : Way). x.marks) whole),
        )

-- ── the turns of the loop of `check_row`, by what its calls gave ──
-- with the marks and leaves so far, the row with so many places left answers what the whole row does with those at the start
pub record Going (f : Frame) (words keys : List ℕ) (left : ℕ) (row : Row) (m₀ : List ℕ) (s₀ : Seen) (places w : ℕ) (m : List ℕ) (s : Seen) : Type 0 where
  pub ready : RowReady f words keys left row places w s m
  pub same_answer : row_way f words keys left row places w m s ≡ row_way f words keys left row 256 0 m₀ s₀
  pub same_length : length m ≡ length m₀

module _ {f : Frame} {words keys : List ℕ} {left : ℕ} {row : Row} {m₀ : List ℕ} {s₀ : Seen} {places w : ℕ} {m : List ℕ} {s : Seen} (g : Going f words keys left row m₀ s₀ places w m s) where
  abbrev Row_answers : Visit → List ℕ → Type 0
  Row_answers v m' = (v ≡ (row_way f words keys left row 256 0 m₀ s₀).visit) × (m' ≡ (row_way f words keys left row 256 0 m₀ s₀).marks)

  ends_here : {r : Visit} → row_from (256 - places) (row_of f words row) ≡ [] → r ≡ row_end w s → Row_answers r m
  ends_here e h =
      let q = sym g.same_answer ∙ row_end_lem f words keys left row places w m s e in
      (h ∙ sym (ap (λ (x : Way). x.visit) q), sym (ap (λ (x : Way). x.marks) q))

  pub row_over : {r : Visit} → places ≤ 0 → r ≡ row_end w s → Row_answers r m
  row_over l h = ends_here (row_past f words row g.ready.there (256 - places) (omega arith)) h

  pub row_stops : {c : Entry} {r : Visit} → c ≡ entry_from (256 - places) (row_of f words row) → c ≡ None → r ≡ row_end w s → Row_answers r m
  row_stops a e h = ends_here (row_ends f words row g.ready.there (256 - places) (sym a ∙ e)) h

  -- the next child is found: its byte and its reference
  pub record ChildNext (x r : ℕ) : Type 0 where
    pub starts : Starts (256 - places) (row_of f words row) x r

  pub child_next : {c : Entry} {x r : ℕ} → c ≡ entry_from (256 - places) (row_of f words row) → c ≡ Some (x, r) → ChildNext x r
  child_next {c} {x} {r} a e = record { starts = row_starts f words row g.ready.there (256 - places) x r (sym a ∙ e) }

module _ {f : Frame} {words keys : List ℕ} {left : ℕ} {row : Row} {m₀ : List ℕ} {s₀ : Seen} {places w : ℕ} {m : List ℕ} {s : Seen} {g : Going f words keys left row m₀ s₀ places w m s} {x r : ℕ}
    (h : ChildNext g x r) where
  pub child_ready : RecordReady left (row.depth + 1) s m
  child_ready = record { counted = g.ready.counted; shallow = g.ready.shallow }

  -- the child is checked, with this answer and these marks
  pub record Visited (v : Visit) (m' : List ℕ) : Type 0 where
    pub visit : v ≡ (record_by f words keys left r (row.depth + 1) m s).visit
    pub marks : m' ≡ (record_by f words keys left r (row.depth + 1) m s).marks
    pub same_length : length m' ≡ length m₀

  pub child_visited : {v : Visit} {m' : List ℕ} → (v ≡ (record_by f words keys left r (row.depth + 1) m s).visit) × (m' ≡ (record_by f words keys left r (row.depth + 1) m s).marks)
      → length m' ≡ length m → Visited v m'
  child_visited a l = record { visit = a.0; marks = a.1; same_length = l ∙ g.same_length }

module _ {f : Frame} {words keys : List ℕ} {left : ℕ} {row : Row} {m₀ : List ℕ} {s₀ : Seen} {places w : ℕ} {m : List ℕ} {s : Seen} {g : Going f words keys left row m₀ s₀ places w m s} {x r : ℕ}
    {h : ChildNext g x r} {v : Visit} {m' : List ℕ} (a : Visited h v m') where
  visit_kept : Kept f words keys m' v
  visit_kept =
      let k = record_kept f words keys left r (row.depth + 1) m s g.ready.counted in
      (subst (Sees f words keys) (sym a.visit) k.0, subst (λ (l : List ℕ). Counted l v) (sym a.marks) (subst (Counted (record_by f words keys left r (row.depth + 1) m s).marks) (sym a.visit) k.1))

  pub child_sees : Sees f words keys v
  child_sees = visit_kept.0

  module _ {y : Visit} (ye : y ≡ child_end f words keys row.depth x w v) where
    ended : child_end f words keys row.depth x w (record_by f words keys left r (row.depth + 1) m s).visit ≡ y
    ended = ap (child_end f words keys row.depth x w) (sym a.visit) ∙ sym ye

    pub row_breaks : y ≡ None → Row_answers g None m'
    row_breaks i =
        let q = sym g.same_answer ∙ row_ill f words keys left row places w m s x r h.starts (ended ∙ i) in
        (sym (ap (λ (x : Way). x.visit) q), a.marks ∙ sym (ap (λ (x : Way). x.marks) q))

    pub row_goes : {u : ℕ} {z : Seen} → y ≡ Some (u, z) → Going f words keys left row m₀ s₀ (255 - x) u m' z
    row_goes {u} {z} i =
        let k = child_kept f words keys row.depth x w m' v g.ready.witness visit_kept in
        let j : Kept f words keys m' (Some (u, z)) = subst (Kept f words keys m') (sym ye ∙ i) k in
        record {
          ready =
              record {
                there = g.ready.there;
                within = omega arith;
                witness = leaf_witness f words keys j.0;
                counted = j.1;
                shallow = g.ready.shallow;
              };
          same_answer =
              ap (λ (l : List ℕ). row_way f words keys left row (255 - x) u l z) a.marks
              ∙ sym (row_well f words keys left row places w m s x r h.starts u z (ended ∙ i))
              ∙ g.same_answer;
          same_length = a.same_length;
        }
