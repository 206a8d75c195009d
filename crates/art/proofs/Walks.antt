-- The walk over a store, with records enough left, is the walk over the tree that the store shows, and finds what its listing holds.
use mathlib.Core.Path.{◌≡◌, refl, ap, ap₂, ◌∙◌}
use mathlib.Core.Logic.{◌⊎◌, inl, inr, ite}
use mathlib.Core.Bool.{Bool, false, ◌||◌}
use mathlib.Core.Option.{Option, none}
use mathlib.Core.List.{[], ◌∷◌, ◌++◌}
use Prim.Native.Nat.{ℕ, zero, suc, ◌+◌, ◌<◌}
use native.Mathlib.Decide.{ℕ_discrete, dec_le}
use native.Mathlib.Omega.{arith}
use lib.ListN.{length, take, drop, get_or}
use lib.Dec.{ltb}
use Rattle.art.specs.Tags.{Tag, Aim}
use Rattle.art.specs.Listings.{find}
use Rattle.art.specs.Trees.{Tree, leaf, inner, Row, end, child, contents, Good}
use Rattle.art.proofs.Nodes.{walk_is_find}
use Rattle.art.specs.Nodes.{show, show_row, walk, walk_row, meets_dec}
use Rattle.art.specs.Drawings.{longest}
use Rattle.art.proofs.Facts.{height_bound}
use Rattle.art.specs.Facts.{height, row_height}
use Rattle.art.proofs.Stores.{write_same, write_other}
use Rattle.art.specs.Stores.{Place, leaf_place, inner_place, Cell, unused, leaf_cell, inner_cell, Store, empty, or_cell, combined, write, store, store_row, root, refs, Used, Once, OnceRow, Separate}
use Rattle.art.specs.Walks.{walk_refs, walk_cell, walk_store, Shows, ShowsRow}

module _ {A : Type 0} where
  -- τ has what σ has
  abbrev Within : Store A → Store A → Type 0
  Within σ τ = (q : Place) → Used (σ q) → τ q ≡ σ q

  mutual
    shows_within : (t : Tree A) (p : Tag) (σ τ : Store A) → Within σ τ → Shows t p σ → Shows t p τ
    shows_within (leaf n s a) p σ τ w h = w (leaf_place n) (rw h tt) ∙ h
    shows_within (inner k n run r) p σ τ w h = (w (inner_place k n) (rw h.0 tt) ∙ h.0, shows_row_within r (p ++ run) σ τ w h.1)

    shows_row_within : (r : Row A) (q : Tag) (σ τ : Store A) → Within σ τ → ShowsRow r q σ → ShowsRow r q τ
    shows_row_within end q σ τ w h = tt
    shows_row_within (child b t r) q σ τ w h = (shows_within t (q ++ b ∷ []) σ τ w h.0, shows_row_within r q σ τ w h.1)

  within_left : (σ τ : Store A) → Within σ (combined σ τ)
  within_left σ τ q u = go (σ q) u
    where
      go : (c : Cell A) → Used c → or_cell c (τ q) ≡ c
      go unused v = elim v [ ]
      go (leaf_cell t a) v = refl
      go (inner_cell n st rs) v = refl

  within_right : (σ τ : Store A) → Separate σ τ → Within τ (combined σ τ)
  within_right σ τ d q u = go (d q)
    where
      go : (σ q ≡ unused) ⊎ (τ q ≡ unused) → or_cell (σ q) (τ q) ≡ τ q
      go (inl e) = ap (λ (c : Cell A). or_cell c (τ q)) e
      go (inr e) = absurd (rw e at u)

  within_write : (σ : Store A) (x : Place) (c : Cell A) → σ x ≡ unused → Within σ (write σ x c)
  within_write σ x c h q u = write_other σ x c q (λ e. rw (ap σ e ∙ h) at u)

  mutual
    -- the store of a tree with no place twice shows the tree
    pub store_shows : (t : Tree A) (p : Tag) → Once t p → Shows t p (store t p)
    store_shows (leaf n s a) p o = write_same empty (leaf_place n) (leaf_cell (p ++ s) a)
    store_shows (inner k n run r) p o =
        let ρ : Store A = store_row r (p ++ run) in
        let c : Cell A = inner_cell (length run) (take 8 run) (refs r) in
        (write_same ρ (inner_place k n) c, shows_row_within r (p ++ run) ρ (write ρ (inner_place k n) c) (within_write ρ (inner_place k n) c o.0) (store_shows_row r (p ++ run) o.1))

    -- and so for a row
    pub store_shows_row : (r : Row A) (q : Tag) → OnceRow r q → ShowsRow r q (store_row r q)
    store_shows_row end q o = tt
    store_shows_row (child b t r) q o =
        let σ : Store A = store t (q ++ b ∷ []) in
        let τ : Store A = store_row r q in (
          shows_within t (q ++ b ∷ []) σ (combined σ τ) (within_left σ τ) (store_shows t (q ++ b ∷ []) o.0),
          shows_row_within r q τ (combined σ τ) (within_right σ τ o.1) (store_shows_row r q o.2),
        )

  -- ── the two walks ──
  mutual
    -- the walk over a store that shows a tree is the walk over what the records show of it
    pub walk_shown : (t : Tree A) (p : Tag) (σ : Store A) → Shows t p σ → (f : ℕ) → height t < f → (m : Aim) (d : ℕ) (sk : Bool) (s : Tag)
        → walk_store f σ (root t) m d sk s ≡ walk (show p t) m d sk s
    walk_shown (leaf n x a) p σ h zero l m d sk s = absurd (omega arith)
    walk_shown (inner k n run r) p σ h zero l m d sk s = absurd (omega arith)
    walk_shown (leaf n x a) p σ h (suc f) l m d sk s = ap (λ (c : Cell A). walk_cell c m d sk s (λ y e sk'. walk_store f σ y m e sk' s)) h
    walk_shown (inner k n run r) p σ h (suc f) l m d sk s =
        ap (λ (c : Cell A). walk_cell c m d sk s (λ y e sk'. walk_store f σ y m e sk' s)) h.0
        ∙ ap (λ (o : Option A). ite (meets_dec sk (take 8 run) (drop d s)) (ite (dec_le (length s) (d + length run)) none o) none)
        (walk_row_shown r (p ++ run) σ h.1 f (omega arith) m (get_or s (d + length run) 0) (suc (d + length run)) (sk || ltb 8 (length run)) s)

    -- and so for a row
    pub walk_row_shown : (r : Row A) (q : Tag) (σ : Store A) → ShowsRow r q σ → (f : ℕ) → row_height r < f → (m : Aim) (b d : ℕ) (sk : Bool) (s : Tag)
        → walk_refs (refs r) b (λ y. walk_store f σ y m d sk s) ≡ walk_row (show_row q r) m b d sk s
    walk_row_shown end q σ h f l m b d sk s = refl
    walk_row_shown (child c t r) q σ h f l m b d sk s =
        ap₂ (ite (ℕ_discrete b c)) (walk_shown t (q ++ c ∷ []) σ h.0 f (omega arith) m d sk s) (walk_row_shown r q σ h.1 f (omega arith) m b d sk s)

  -- the search over a store with more records left than the longest tag has bytes finds what the listing holds
  pub search_is_find : (t : Tree A) → Good t → Once t [] → (f : ℕ) → longest (contents t) < f → (m : Aim) (s : Tag) → walk_store f (store t []) (root t) m 0 false s ≡ find m s (contents t)
  search_is_find t g o f l m s = walk_shown t [] (store t []) (store_shows t [] o) f (omega (arith, height_bound t g)) m 0 false s ∙ walk_is_find t g m s
