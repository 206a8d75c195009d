-- Insert and delete as lists of writes in which an upper record is written only where its child has moved: that is the parent of the changed record.
use Rattle.std.proofs.Math.Logic.{ite}
use Rattle.std.specs.Prelude.{Bool, true, false, [], ◌∷◌, ◌++◌, ℕ, length, take}
use Rattle.std.proofs.Math.Option.{Option}
use Rattle.std.proofs.Math.Decide.{ℕ_discrete}
use Rattle.art.specs.Tags.{Tag, tag_dec}
use Rattle.art.specs.Trees.{Tree, leaf, inner, Row, end, child}
use Rattle.art.specs.Changes.{Plan, Meet, same, short, long, part, meet, Has, has, grow_row}
use Rattle.art.specs.Deletes.{Home, lost_row, cut_row, graft, prune_row}
use Rattle.art.specs.Stores.{inner_place, unused, inner_cell, Edits, refs, cell, edits_leaf, edits_child, edits_inner}
use Rattle.art.specs.Drops.{re_edits, spot, settle_edits}
use Rattle.art.specs.Refs.{relink}

module _ {A : Type 0} where
  -- the child's writes, then the record itself where the row r' has the child elsewhere
  abbrev pub lean_up : (k n : ℕ) (run : Tag) (r : Row A) (x : ℕ) (r' : Row A) → Edits A → Edits A
  lean_up k n run r x r' es = es ++ relink (inner_place k n) (inner_cell (length run) (take 8 run) (refs r)) x (spot x r) (spot x r')

  -- ── insert ──
  -- where there is a child for the byte, its writes and then the record if the child has moved; else the writes of a new child
  abbrev pub lean_child : Plan → (p s : Tag) → A → (k n : ℕ) (run : Tag) (r : Row A) (x : ℕ) (u : Tag) → Dec (Has x r) → Row A → Edits A → Edits A
  lean_child pl p s a k n run r x u (yes h) r' es = lean_up k n run r x r' es
  lean_child pl p s a k n run r x u (no h) r' es = edits_child pl p s a k n run r x u (no h) r' es

  -- past the run, by the child for the next byte; where the tag parts from the run, a new branching; else nothing
  abbrev pub lean_inner : Plan → (p s : Tag) → A → (k n : ℕ) (run : Tag) (r : Row A) → Meet s run → (ℕ → Tag → Row A) → (ℕ → Tag → Edits A) → Edits A
  lean_inner pl p s a k n run r (same e) rec es = []
  lean_inner pl p s a k n run r (short y v e) rec es = []
  lean_inner pl p s a k n run r (long x u e) rec es = lean_child pl p s a k n run r x u (has x r) (rec x u) (es x u)
  lean_inner pl p s a k n run r (part c x u y v i j ne) rec es = edits_inner pl p s a k n run r (part c x u y v i j ne) rec es

  -- the writes of an insert of s below the path p, with an upper record among them only where its child has moved
  abbrev mutual
    pub lean : Tree A → Plan → Tag → Tag → A → Edits A
    lean (leaf n rest v) pl p s a = edits_leaf pl p s a n rest v (meet s rest)
    lean (inner k n run r) pl p s a = lean_inner pl p s a k n run r (meet s run) (λ x u. grow_row r pl x u a) (λ x u. lean_row r pl (p ++ run) x u a)

    -- those of the child for x, if the row has one
    pub lean_row : Row A → Plan → Tag → ℕ → Tag → A → Edits A
    lean_row end pl q x u a = []
    lean_row (child c t r) pl q x u a = ite (ℕ_discrete x c) (lean t pl (q ++ c ∷ []) u a) (lean_row r pl q x u a)

  -- ── delete, or a change to what is held ──
  -- a leaf that is left alone takes the place of its record as it stands
  abbrev pub lift_edits : (run p : Tag) (b : ℕ) → Tree A → Edits A
  lift_edits run p b (leaf m s a) = []
  lift_edits run p b (inner k n run' r) = (inner_place k n, cell p (graft (run ++ b ∷ []) (inner k n run' r))) ∷ []

  -- a record left with two children or more is freed, then written where it goes; one left with one is freed, and that child written again unless it is a leaf
  abbrev pub lean_settle : Home → (k n : ℕ) (run p : Tag) → Row A → Edits A
  lean_settle hm k n run p end = settle_edits hm k n run p end
  lean_settle hm k n run p (child b t end) = (inner_place k n, unused) ∷ lift_edits run p b t
  lean_settle hm k n run p (child b t (child c u r)) = settle_edits hm k n run p (child b t (child c u r))

  -- the lost child is freed, then its record settled; after a changed child its record is written only where the child has moved
  abbrev pub lean_drops_child : Home → (p : Tag) (k n : ℕ) (run : Tag) (r : Row A) (x : ℕ) → Bool → Row A → Edits A → Edits A
  lean_drops_child hm p k n run r x true r' es = (spot x r, unused) ∷ lean_settle hm k n run p (cut_row x r)
  lean_drops_child hm p k n run r x false r' es = lean_up k n run r x r' es

  -- past the run, by the child for the next byte; a tag that is not below the record writes nothing
  abbrev pub lean_drops_inner : (A → Option A) → Home → (p s : Tag) (k n : ℕ) (run : Tag) (r : Row A) → Meet s run → (ℕ → Tag → Row A) → (ℕ → Tag → Edits A) → Edits A
  lean_drops_inner f hm p s k n run r (same e) rec es = []
  lean_drops_inner f hm p s k n run r (short y v e) rec es = []
  lean_drops_inner f hm p s k n run r (long x u e) rec es = lean_drops_child hm p k n run r x (lost_row f r x u) (rec x u) (es x u)
  lean_drops_inner f hm p s k n run r (part c x u y v i j ne) rec es = []

  -- the writes of a change at s below the path p, with an upper record among them only where its child has moved
  abbrev mutual
    pub lean_drops : Tree A → (A → Option A) → Home → Tag → Tag → Edits A
    lean_drops (leaf n rest a) f hm p s = ite (tag_dec s rest) (re_edits n (p ++ rest) (f a)) []
    lean_drops (inner k n run r) f hm p s = lean_drops_inner f hm p s k n run r (meet s run) (λ x u. prune_row r f hm x u) (λ x u. lean_drops_row r f hm (p ++ run) x u)

    -- those of the child for x, if the row has one
    pub lean_drops_row : Row A → (A → Option A) → Home → Tag → ℕ → Tag → Edits A
    lean_drops_row end f hm q x u = []
    lean_drops_row (child c t r) f hm q x u = ite (ℕ_discrete x c) (lean_drops t f hm (q ++ c ∷ []) u) (lean_drops_row r f hm q x u)
