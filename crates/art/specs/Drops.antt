-- Delete, or a change to what is held, as a short list of writes to a store.
use Rattle.std.specs.Prelude.{◌≡◌, ◌⊎◌, Bool, true, false, [], ◌∷◌, ◌++◌, ℕ, length, take}
use Rattle.std.proofs.Math.Logic.{ite}
use Rattle.std.proofs.Math.Option.{Option, none, some}
use Rattle.std.proofs.Math.Decide.{ℕ_discrete}
use Rattle.art.specs.Tags.{Tag, tag_dec}
use Rattle.art.specs.Trees.{Tree, leaf, inner, Row, end, child, count}
use Rattle.art.specs.Changes.{Meet, same, short, long, part, meet}
use Rattle.art.specs.Deletes.{Home, lost_row, cut_row, graft, prune_row}
use Rattle.art.specs.Stores.{Place, leaf_place, inner_place, unused, leaf_cell, inner_cell, Store, Edits, apply, root, refs, cell, store, store_row, Clear, Separate, Once, OnceRow}

-- the place of a record that has lost a child
abbrev pub new_home : Home → ℕ → ℕ → ℕ → Place
new_home hm k n l = inner_place (hm k n l).0 (hm k n l).1

module _ {A : Type 0} where
  -- such a place is unused in τ, or the record stays where it is
  abbrev pub Roomy : Home → Store A → Type 0
  Roomy hm τ = (k n l : ℕ) → (new_home hm k n l ≡ inner_place k n) ⊎ (τ (new_home hm k n l) ≡ unused)

  -- ── the writes ──
  -- a leaf is written where what it holds is changed
  abbrev pub re_edits : ℕ → Tag → Option A → Edits A
  re_edits n t none = []
  re_edits n t (some b) = (leaf_place n, leaf_cell t b) ∷ []

  -- the place of the child for x
  abbrev pub spot : ℕ → Row A → Place
  spot x end = leaf_place 0
  spot x (child c t r) = ite (ℕ_discrete x c) (root t) (spot x r)

  -- a record that has lost a child: freed, then written where it goes; or freed, with its one child left written in its place on the path
  abbrev pub settle_edits : Home → (k n : ℕ) (run p : Tag) → Row A → Edits A
  settle_edits hm k n run p end = (inner_place k n, inner_cell (length run) (take 8 run) []) ∷ []
  settle_edits hm k n run p (child b t end) = (inner_place k n, unused) ∷ (root t, cell p (graft (run ++ b ∷ []) t)) ∷ []
  settle_edits hm k n run p (child b t (child c u r)) =
      let r' : Row A = child b t (child c u r) in
      (inner_place k n, unused) ∷ (new_home hm k n (count r'), inner_cell (length run) (take 8 run) (refs r')) ∷ []

  -- the lost child is freed first; a changed child leaves its record to be written after it
  abbrev pub drops_child : Home → (p : Tag) (k n : ℕ) (run : Tag) (r : Row A) (x : ℕ) → Bool → Row A → Edits A → Edits A
  drops_child hm p k n run r x true r' es = (spot x r, unused) ∷ settle_edits hm k n run p (cut_row x r)
  drops_child hm p k n run r x false r' es = es ++ (inner_place k n, inner_cell (length run) (take 8 run) (refs r')) ∷ []

  -- a tag that is not below the record writes nothing
  abbrev pub drops_inner : (A → Option A) → Home → (p s : Tag) (k n : ℕ) (run : Tag) (r : Row A) → Meet s run → (ℕ → Tag → Row A) → (ℕ → Tag → Edits A) → Edits A
  drops_inner f hm p s k n run r (same e) rec es = []
  drops_inner f hm p s k n run r (short y v e) rec es = []
  drops_inner f hm p s k n run r (long x u e) rec es = drops_child hm p k n run r x (lost_row f r x u) (rec x u) (es x u)
  drops_inner f hm p s k n run r (part c x u y v i j ne) rec es = []

  -- the writes of a change at s
  abbrev mutual
    pub drops : Tree A → (A → Option A) → Home → Tag → Tag → Edits A
    drops (leaf n rest a) f hm p s = ite (tag_dec s rest) (re_edits n (p ++ rest) (f a)) []
    drops (inner k n run r) f hm p s = drops_inner f hm p s k n run r (meet s run) (λ x u. prune_row r f hm x u) (λ x u. drops_row r f hm (p ++ run) x u)

    -- those of the child for x, if the row has one
    pub drops_row : Row A → (A → Option A) → Home → Tag → ℕ → Tag → Edits A
    drops_row end f hm q x u = []
    drops_row (child c t r) f hm q x u = ite (ℕ_discrete x c) (drops t f hm (q ++ c ∷ []) u) (drops_row r f hm q x u)

  -- ── what holds of a tree, and of a row, that is changed by writes ──
  -- the writes make the store of t', in free places beside any other store, and no place stands twice
  pub record TreeDone (t t' : Tree A) (es : Edits A) (p : Tag) (hm : Home) : Type 0 where
    pub made : store t' p ≡ apply (store t p) es
    pub clear : (τ : Store A) → Separate (store t p) τ → Roomy hm τ → Clear τ es
    pub once : Once t' p

  -- and so for a row
  pub record RowDone (r r' : Row A) (es : Edits A) (q : Tag) (hm : Home) : Type 0 where
    pub made : store_row r' q ≡ apply (store_row r q) es
    pub clear : (τ : Store A) → Separate (store_row r q) τ → Roomy hm τ → Clear τ es
    pub once : OnceRow r' q
