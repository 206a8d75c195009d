-- Writing an upper record only where its child has moved makes the same store as writing every record on the way, since the others are written as they stand.
use mathlib.Core.Path.{◌≡◌, refl, sym, ap, ◌∙◌}
use mathlib.Core.Logic.{◌≢◌, ite}
use mathlib.Core.Bool.{Bool, true, false}
use mathlib.Core.Option.{Option}
use mathlib.Core.List.{[], ◌∷◌, ◌++◌, append_assoc}
use Prim.Native.Nat.{ℕ}
use native.Mathlib.Decide.{ℕ_discrete}
use lib.ListN.{length, take}
use Rattle.art.specs.Tags.{Tag}
use Rattle.art.specs.Trees.{Tree, leaf, inner, Row, end, child}
use Rattle.art.specs.Changes.{Plan, Meet, same, short, long, part, meet, Has, has, grow, grow_row}
use Rattle.art.specs.Deletes.{Home, lost_row, cut_row, prune, prune_row}
use Rattle.art.specs.Stores.{Place, leaf_place, inner_place, Cell, unused, leaf_cell, inner_cell, Store, Edits, write, empty, apply, refs, store, store_row, Once, OnceRow, Fresh, edits, edits_row, edits_child, edits_inner}
use Rattle.art.specs.Walks.{Shows, ShowsRow}
use Rattle.art.specs.Drops.{Roomy, spot, settle_edits, drops, drops_row, drops_child, drops_inner}
use Rattle.art.specs.Refs.{re_ref, relink}
use Rattle.art.specs.Lean.{lean_up, lean_child, lean_inner, lean, lean_row, lean_settle, lean_drops_child, lean_drops_inner, lean_drops, lean_drops_row}
use Rattle.art.proofs.Stores.{leaf_inner, or_unused, write_same, write_other, write_id, used_not, apply_append, apply_clear, edits_row_clear, separate_sym, single_separate, fresh_single, fresh_under, fresh_left, fresh_right, store_grow}
use Rattle.art.proofs.Walks.{store_shows}
use Rattle.art.proofs.Drops.{cut_store, roomy_single, roomy_under, roomy_left, roomy_right, drops_done, drops_row_done}
use Rattle.art.proofs.Refs.{grow_refs, prune_refs, relink_same}

module _ {A : Type 0} where
  same_up : (σ : Store A) (k n : ℕ) (run : Tag) (r : Row A) (x : ℕ) (r' : Row A) (es fs : Edits A) → apply σ es ≡ apply σ fs → apply σ fs (inner_place k n) ≡ inner_cell (length run) (take 8 run) (refs r)
      → refs r' ≡ re_ref (refs r) x (spot x r') → apply σ (lean_up k n run r x r' es) ≡ apply σ (fs ++ (inner_place k n, inner_cell (length run) (take 8 run) (refs r')) ∷ [])
  same_up σ k n run r x r' es fs e h i =
      apply_append σ es _
      ∙ ap (λ (τ : Store A). apply τ (relink (inner_place k n) (inner_cell (length run) (take 8 run) (refs r)) x (spot x r) (spot x r'))) e
      ∙ relink_same (apply σ fs) (inner_place k n) (length run) (take 8 run) r r' x h i
      ∙ sym (apply_append σ fs _)

  same_pick : {P : Type 0} (σ : Store A) (d : Dec P) (es es' fs fs' : Edits A) → apply σ es ≡ apply σ es' → apply σ fs ≡ apply σ fs' → apply σ (ite d es fs) ≡ apply σ (ite d es' fs')
  same_pick σ (yes p) es es' fs fs' h k = h
  same_pick σ (no n) es es' fs fs' h k = k

  -- ── insert ──
  same_inner : (σ : Store A) (pl : Plan) (p s : Tag) (a : A) (k n : ℕ) (run : Tag) (r : Row A) (m : Meet s run) (rec : ℕ → Tag → Row A) (es fs : ℕ → Tag → Edits A)
      → ((x : ℕ) (u : Tag) → apply σ (es x u) ≡ apply σ (fs x u)) → ((x : ℕ) (u : Tag) → apply σ (fs x u) (inner_place k n) ≡ inner_cell (length run) (take 8 run) (refs r))
      → ((x : ℕ) (u : Tag) → refs (rec x u) ≡ re_ref (refs r) x (spot x (rec x u)))
      → apply σ (lean_inner pl p s a k n run r m rec es) ≡ apply σ (edits_inner pl p s a k n run r m rec fs)
  same_inner σ pl p s a k n run r (same e) rec es fs h c w = refl
  same_inner σ pl p s a k n run r (short y v e) rec es fs h c w = refl
  same_inner σ pl p s a k n run r (part c x u y v i j ne) rec es fs h d w = refl
  same_inner σ pl p s a k n run r (long x u e) rec es fs h c w = go (has x r)
    where
      go : (d : Dec (Has x r)) → apply σ (lean_child pl p s a k n run r x u d (rec x u) (es x u)) ≡ apply σ (edits_child pl p s a k n run r x u d (rec x u) (fs x u))
      go (yes i) = same_up σ k n run r x (rec x u) (es x u) (fs x u) (h x u) (c x u) (w x u)
      go (no i) = refl

  mutual
    -- on a store that shows the tree, the lean writes of an insert make the same store as the full ones
    pub lean_same : (t : Tree A) (pl : Plan) (p s : Tag) (a : A) → Once t p → Fresh pl (store t p) → (σ : Store A) → Shows t p σ → apply σ (lean t pl p s a) ≡ apply σ (edits t pl p s a)
    lean_same (leaf n rest v) pl p s a o f σ h = refl
    lean_same (inner k n run r) pl p s a o f σ h =
        let ρ : Store A = store_row r (p ++ run) in
        let here : Place = inner_place k n in
        let old : Cell A = inner_cell (length run) (take 8 run) (refs r) in
        same_inner σ pl p s a k n run r (meet s run) (λ x u. grow_row r pl x u a) (λ x u. lean_row r pl (p ++ run) x u a) (λ x u. edits_row r pl (p ++ run) x u a)
        (λ x u. lean_row_same r pl (p ++ run) x u a o.1 (fresh_under pl ρ here old tt f) σ h.1)
        (λ x u. apply_clear here old tt (edits_row r pl (p ++ run) x u a) σ
        (edits_row_clear r pl (p ++ run) x u a (write empty here old) o.1 (separate_sym (write empty here old) ρ (single_separate ρ here old o.0)) (fresh_single pl ρ here old f)) ∙ h.0)
        (λ x u. grow_refs r pl x u a)

    -- and so for a row
    pub lean_row_same : (r : Row A) (pl : Plan) (q : Tag) (x : ℕ) (u : Tag) (a : A) → OnceRow r q → Fresh pl (store_row r q) → (σ : Store A) → ShowsRow r q σ → apply σ (lean_row r pl q x u a) ≡ apply σ (edits_row r pl q x u a)
    lean_row_same end pl q x u a o f σ h = refl
    lean_row_same (child c t r) pl q x u a o f σ h =
        same_pick σ (ℕ_discrete x c) _ _ _ _
        (lean_same t pl (q ++ c ∷ []) u a o.0 (fresh_left pl (store t (q ++ c ∷ [])) (store_row r q) f) σ h.0)
        (lean_row_same r pl q x u a o.2 (fresh_right pl (store t (q ++ c ∷ [])) (store_row r q) f) σ h.1)

  -- the lean writes of an insert make the store of the grown tree
  pub lean_grow : (t : Tree A) (pl : Plan) (p s : Tag) (a : A) → Once t p → Fresh pl (store t p) → apply (store t p) (lean t pl p s a) ≡ store (grow t pl s a) p
  lean_grow t pl p s a o f = lean_same t pl p s a o f (store t p) (store_shows t p o) ∙ sym (store_grow t pl p s a o f)

  -- ── delete, or a change to what is held ──
  -- a row without one of its children is still shown
  pub cut_shows : (x : ℕ) (r : Row A) (q : Tag) (σ : Store A) → ShowsRow r q σ → ShowsRow (cut_row x r) q σ
  cut_shows x end q σ h = tt
  cut_shows x (child c t r) q σ h = go (ℕ_discrete x c) (cut_shows x r q σ h.1)
    where
      go : (d : Dec (x ≡ c)) → ShowsRow (cut_row x r) q σ → ShowsRow (ite d r (child c t (cut_row x r))) q σ
      go (yes e) ih = h.1
      go (no n) ih = (h.0, ih)

  -- the leaf that is left alone has its cell already
  settle_same : (σ : Store A) (f : A → Option A) (hm : Home) (p : Tag) (k n : ℕ) (run : Tag) (r : Row A) (x : ℕ) (u : Tag) → lost_row f r x u ≡ true → OnceRow r (p ++ run) → ShowsRow r (p ++ run) σ
      → apply σ ((spot x r, unused) ∷ lean_settle hm k n run p (cut_row x r)) ≡ apply σ ((spot x r, unused) ∷ settle_edits hm k n run p (cut_row x r))
  settle_same σ f hm p k n run r x u l o h = go (cut_row x r) (cut_store f r x u (p ++ run) l o).0 (cut_shows x r (p ++ run) σ h)
    where
      q : Tag
      q = p ++ run

      τ : Store A
      τ = write σ (spot x r) unused

      here : Place
      here = inner_place k n

      go : (r' : Row A) → store_row r' q ≡ write (store_row r q) (spot x r) unused → ShowsRow r' q σ → apply τ (lean_settle hm k n run p r') ≡ apply τ (settle_edits hm k n run p r')
      go end i h = refl
      go (child b (inner k' n' run' r') end) i h = refl
      go (child b (leaf m s a) end) i h =
          let c : Cell A = leaf_cell (q ++ b ∷ [] ++ s) a in
          let own : write empty (leaf_place m) c (leaf_place m) ≡ c = write_same empty (leaf_place m) c in
          let off : leaf_place m ≢ spot x r = λ e. used_not c tt (sym own ∙ sym (or_unused (write empty (leaf_place m) c (leaf_place m))) ∙ ap (λ (ρ : Store A). ρ (leaf_place m)) i ∙ ap (write (store_row r q) (spot x r) unused) e ∙ write_same (store_row r q) (spot x r) unused) in
          sym (write_id (write τ here unused) (leaf_place m) _
          (write_other τ here unused (leaf_place m) (leaf_inner m k n) ∙ write_other σ (spot x r) unused (leaf_place m) off ∙ h.0 ∙ ap (λ (t : Tag). leaf_cell t a) (simp append_assoc)))
      go (child b t (child c u r')) i h = refl

  same_drops_inner : (σ : Store A) (f : A → Option A) (hm : Home) (p s : Tag) (k n : ℕ) (run : Tag) (r : Row A) (m : Meet s run) (rec : ℕ → Tag → Row A) (es fs : ℕ → Tag → Edits A)
      → ((x : ℕ) (u : Tag) → apply σ (es x u) ≡ apply σ (fs x u)) → ((x : ℕ) (u : Tag) → apply σ (fs x u) (inner_place k n) ≡ inner_cell (length run) (take 8 run) (refs r))
      → ((x : ℕ) (u : Tag) → refs (rec x u) ≡ re_ref (refs r) x (spot x (rec x u))) → OnceRow r (p ++ run) → ShowsRow r (p ++ run) σ
      → apply σ (lean_drops_inner f hm p s k n run r m rec es) ≡ apply σ (drops_inner f hm p s k n run r m rec fs)
  same_drops_inner σ f hm p s k n run r (same e) rec es fs h c w o j = refl
  same_drops_inner σ f hm p s k n run r (short y v e) rec es fs h c w o j = refl
  same_drops_inner σ f hm p s k n run r (part c x u y v i j ne) rec es fs h d w o z = refl
  same_drops_inner σ f hm p s k n run r (long x u e) rec es fs h c w o z = go (lost_row f r x u) refl
    where
      go : (b : Bool) → lost_row f r x u ≡ b → apply σ (lean_drops_child hm p k n run r x b (rec x u) (es x u)) ≡ apply σ (drops_child hm p k n run r x b (rec x u) (fs x u))
      go true i = settle_same σ f hm p k n run r x u i o z
      go false i = same_up σ k n run r x (rec x u) (es x u) (fs x u) (h x u) (c x u) (w x u)

  mutual
    -- on a store that shows the tree, the lean writes of a delete make the same store as the full ones
    pub lean_drops_same : (t : Tree A) (f : A → Option A) (hm : Home) (p s : Tag) → Once t p → Roomy hm (store t p) → (σ : Store A) → Shows t p σ → apply σ (lean_drops t f hm p s) ≡ apply σ (drops t f hm p s)
    lean_drops_same (leaf n rest a) f hm p s o w σ h = refl
    lean_drops_same (inner k n run r) f hm p s o w σ h =
        let ρ : Store A = store_row r (p ++ run) in
        let here : Place = inner_place k n in
        let old : Cell A = inner_cell (length run) (take 8 run) (refs r) in
        same_drops_inner σ f hm p s k n run r (meet s run) (λ x u. prune_row r f hm x u) (λ x u. lean_drops_row r f hm (p ++ run) x u) (λ x u. drops_row r f hm (p ++ run) x u)
        (λ x u. lean_drops_row_same r f hm (p ++ run) x u o.1 (roomy_under hm ρ here old tt w) σ h.1)
        (λ x u. apply_clear here old tt (drops_row r f hm (p ++ run) x u) σ
        ((drops_row_done r f hm (p ++ run) x u o.1 (roomy_under hm ρ here old tt w)).clear (write empty here old) (separate_sym (write empty here old) ρ (single_separate ρ here old o.0)) (roomy_single hm ρ here old w)) ∙ h.0)
        (λ x u. prune_refs r f hm x u) o.1 h.1

    -- and so for a row
    pub lean_drops_row_same : (r : Row A) (f : A → Option A) (hm : Home) (q : Tag) (x : ℕ) (u : Tag) → OnceRow r q → Roomy hm (store_row r q) → (σ : Store A) → ShowsRow r q σ
        → apply σ (lean_drops_row r f hm q x u) ≡ apply σ (drops_row r f hm q x u)
    lean_drops_row_same end f hm q x u o w σ h = refl
    lean_drops_row_same (child c t r) f hm q x u o w σ h =
        same_pick σ (ℕ_discrete x c) _ _ _ _
        (lean_drops_same t f hm (q ++ c ∷ []) u o.0 (roomy_left hm (store t (q ++ c ∷ [])) (store_row r q) w) σ h.0)
        (lean_drops_row_same r f hm q x u o.2 (roomy_right hm (store t (q ++ c ∷ [])) (store_row r q) w) σ h.1)

  -- the lean writes of a delete make the store of the pruned tree
  pub lean_prune : (t : Tree A) (f : A → Option A) (hm : Home) (p s : Tag) → Once t p → Roomy hm (store t p) → apply (store t p) (lean_drops t f hm p s) ≡ store (prune t f hm s) p
  lean_prune t f hm p s o w = lean_drops_same t f hm p s o w (store t p) (store_shows t p o) ∙ sym (drops_done t f hm p s o w).made
