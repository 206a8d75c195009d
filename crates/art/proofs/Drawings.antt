-- A good tree draws what its tags alone draw, so that the tags decide the drawing.
use mathlib.Core.Path.{◌≡◌, refl, sym, ap, ap₂, ◌∙◌}
use mathlib.Core.Logic.{◌≢◌, ite, if_pos, if_neg}
use mathlib.Core.List.{[], ◌∷◌, ◌++◌, append-nil}
use Prim.Native.Nat.{ℕ, zero, suc, ◌<◌}
use native.Mathlib.Decide.{ℕ_discrete}
use native.Mathlib.Omega.{arith}
use lib.ListN.{length, take, length-append}
use Rattle.art.specs.Tags.{Tag, Listing}
use Rattle.art.proofs.Listings.{every_imp, every_of_under, every_left, every_right, strip_under}
use Rattle.art.specs.Listings.{Every, under, strip}
use Rattle.art.proofs.Trees.{row_above}
use Rattle.art.specs.Trees.{Tree, leaf, inner, Row, end, child, contents, row_contents, Good, GoodRow, Many, HeadAbove}
use Rattle.art.specs.Drawings.{branch, kid, common, Groups, shared_with, shared_run, add, add_entry, groups, kids_of, draw_at, longest, draw, sketch, sketch_row, Filled, Two, Some}

-- two tags below a path share the path and what they share from there on
pub common_under : (p s t : Tag) → common (p ++ s) (p ++ t) ≡ p ++ common s t
common_under [] s t = refl
common_under (x ∷ p) s t = if_pos (ℕ_discrete x x) refl _ _ ∙ ap (λ (r : Tag). x ∷ r) (common_under p s t)

-- tags with different first bytes share nothing
pub common_apart : (x y : ℕ) (s t : Tag) → x ≢ y → common (x ∷ s) (y ∷ t) ≡ []
common_apart x y s t n = if_neg (ℕ_discrete x y) n _ _

module _ {A : Type 0} where
  -- a filled listing is filled below a path
  pub filled_under : (p : Tag) (l : Listing A) → Filled l → Filled (under p l)
  filled_under p [] h = elim h [ ]
  filled_under p (e ∷ l) h = tt

  filled_append : (l m : Listing A) → Filled l → Filled (l ++ m)
  filled_append [] m h = elim h [ ]
  filled_append (e ∷ l) m h = tt

  two_append : (l m : Listing A) → Filled l → Filled m → Two (l ++ m)
  two_append (e ∷ []) [] h k = elim k [ ]
  two_append [] m h k = elim h [ ]
  two_append (e ∷ []) (x ∷ m) h k = tt
  two_append (e ∷ e' ∷ l) m h k = tt

  two_under : (p : Tag) (l : Listing A) → Two l → Two (under p l)
  two_under p (e ∷ []) h = elim h [ ]
  two_under p [] h = elim h [ ]
  two_under p (e ∷ e' ∷ l) h = tt

  -- a row of two or more has a child
  pub many_some : (r : Row A) → Many r → Some r
  many_some end h = omega arith
  many_some (child b t r) h = tt

  mutual
    -- a good tree holds a tag
    pub filled : (t : Tree A) → Good t → Filled (contents t)
    filled (leaf n s a) g = tt
    filled (inner k n run r) g = filled_under run (row_contents r) (some_filled r g.1 (many_some r g.0))

    -- and so does a row with a child
    pub some_filled : (r : Row A) → GoodRow r → Some r → Filled (row_contents r)
    some_filled end g h = elim h [ ]
    some_filled (child b t r) g h = filled_append (under (b ∷ []) (contents t)) (row_contents r) (filled_under (b ∷ []) (contents t) (filled t g.0))

  -- ── the shared run ──
  shared_with_nil : (l : Listing A) → shared_with [] l ≡ []
  shared_with_nil [] = refl
  shared_with_nil (e ∷ l) = shared_with_nil l

  shared_with_under : (p s : Tag) (l : Listing A) → shared_with (p ++ s) (under p l) ≡ p ++ shared_with s l
  shared_with_under p s [] = refl
  shared_with_under p s (e ∷ l) = ap (λ (x : Tag). shared_with x (under p l)) (common_under p s e.0) ∙ shared_with_under p (common s e.0) l

  shared_under : (p : Tag) (l : Listing A) → Filled l → shared_run (under p l) ≡ p ++ shared_run l
  shared_under p [] h = elim h [ ]
  shared_under p (e ∷ l) h = shared_with_under p e.0 l

  shared_apart : (b : ℕ) (s : Tag) (l m : Listing A) → Filled m → Every (HeadAbove b) m → shared_with (b ∷ s) (under (b ∷ []) l ++ m) ≡ []
  shared_apart b s [] [] f h = elim f [ ]
  shared_apart b s [] (e ∷ m) f h = go e.0 h.0
    where
      go : (x : Tag) → HeadAbove b x → shared_with (common (b ∷ s) x) m ≡ []
      go [] k = elim k [ ]
      go (c ∷ x) k = ap (λ (x : Tag). shared_with x m) (common_apart b c s x (omega arith)) ∙ shared_with_nil m
  shared_apart b s (e ∷ l) m f h = ap (λ (x : Tag). shared_with x (under (b ∷ []) l ++ m)) (common_under (b ∷ []) s e.0) ∙ shared_apart b (common s e.0) l m f h

  shared_child : (b : ℕ) (l m : Listing A) → Filled l → Filled m → Every (HeadAbove b) m → shared_run (under (b ∷ []) l ++ m) ≡ []
  shared_child b [] m f k h = elim f [ ]
  shared_child b (e ∷ l) m f k h = shared_apart b e.0 l m k h

  shared_row : (r : Row A) → Many r → GoodRow r → shared_run (row_contents r) ≡ []
  shared_row end h g = absurd (omega arith)
  shared_row (child b t end) h g = absurd (omega arith)
  shared_row (child b t (child c u r)) h g = shared_child b (contents t) (row_contents (child c u r)) (filled t g.0) (some_filled (child c u r) g.2 tt) (row_above b (child c u r) g.1)

  two_row : (r : Row A) → Many r → GoodRow r → Two (row_contents r)
  two_row end h g = omega arith
  two_row (child b t end) h g = absurd (omega arith)
  two_row (child b t (child c u r)) h g = two_append (under (b ∷ []) (contents t)) (row_contents (child c u r)) (filled_under (b ∷ []) (contents t) (filled t g.0)) (some_filled (child c u r) g.2 tt)

  -- ── the groups ──
  abbrev FirstAbove : ℕ → Groups A → Type 0
  FirstAbove b [] = Unit {0}
  FirstAbove b (g ∷ gs) = b < g.0

  first_above : (b : ℕ) (m : Listing A) → Every (HeadAbove b) m → FirstAbove b (groups m)
  first_above b [] h = tt
  first_above b (e ∷ m) h = go e.0 h.0
    where
      at : (c : ℕ) (x : Tag × A) (gs : Groups A) → b < c → FirstAbove b (add c x gs)
      at c x [] k = k
      at c x (g ∷ gs) k = pick (ℕ_discrete c g.0)
        where
          pick : (d : Dec (c ≡ g.0)) → FirstAbove b (ite d ((g.0, x ∷ g.1) ∷ gs) ((c, x ∷ []) ∷ g ∷ gs))
          pick (yes i) = omega arith
          pick (no n) = k

      go : (x : Tag) → HeadAbove b x → FirstAbove b (add_entry x e.1 (groups m))
      go [] k = elim k [ ]
      go (c ∷ x) k = at c (x, e.1) (groups m) k

  add_apart : (b : ℕ) (e : Tag × A) (gs : Groups A) → FirstAbove b gs → add b e gs ≡ (b, e ∷ []) ∷ gs
  add_apart b e [] h = refl
  add_apart b e (g ∷ gs) h = if_neg (ℕ_discrete b g.0) (omega arith) _ _

  groups_child : (b : ℕ) (l m : Listing A) → Filled l → Every (HeadAbove b) m → groups (under (b ∷ []) l ++ m) ≡ (b, l) ∷ groups m
  groups_child b [] m f h = elim f [ ]
  groups_child b (e ∷ []) m f h = add_apart b e (groups m) (first_above b m h)
  groups_child b (e ∷ e' ∷ l) m f h = rw (groups_child b (e' ∷ l) m tt h) (if_pos (ℕ_discrete b b) refl _ _)

  -- ── theorem D ──
  draw_two : (f : ℕ) (p : Tag) (l : Listing A) → Two l → draw_at (suc f) p l
      ≡ branch (length (shared_run l)) (take 8 (shared_run l)) (kids_of (λ b g. draw_at f (p ++ shared_run l ++ b ∷ []) g) (groups (strip (length (shared_run l)) l)))
  draw_two f p (e ∷ []) h = elim h [ ]
  draw_two f p [] h = elim h [ ]
  draw_two f p (e ∷ e' ∷ l) h = refl

  draw_inner : (f : ℕ) (p run : Tag) (r : Row A) → Many r → GoodRow r → draw_at (suc f) p (under run (row_contents r))
      ≡ branch (length run) (take 8 run) (kids_of (λ b g. draw_at f (p ++ run ++ b ∷ []) g) (groups (row_contents r)))
  draw_inner f p run r h g =
      let l : Listing A = under run (row_contents r) in
      let e : shared_run l ≡ run = shared_under run (row_contents r) (some_filled r g (many_some r h)) ∙ rw (shared_row r h g) (append-nil run) in
      draw_two f p l (two_under run (row_contents r) (two_row r h g)) ∙ rw (e, strip_under run (row_contents r))

  none_short : (l : Listing A) → Filled l → Every (λ s. length s < 0) l → ⊥
  none_short [] f h = elim f [ ]
  none_short (e ∷ l) f h = omega arith

  shorter : (b f : ℕ) (l : Listing A) → Every (λ s. length s < suc f) (under (b ∷ []) l) → Every (λ s. length s < f) l
  shorter b f l h = every_imp _ _ (λ s k. omega arith) l (every_of_under (λ s. length s < suc f) (b ∷ []) l h)

  mutual
    -- below a path, a tree draws what its tags draw, with more steps left than the longest tag has bytes
    pub sketch_draw : (t : Tree A) → Good t → (f : ℕ) → Every (λ s. length s < f) (contents t) → (p : Tag) → sketch p t ≡ draw_at f p (contents t)
    sketch_draw (leaf n s a) g zero h p = absurd (omega arith)
    sketch_draw (leaf n s a) g (suc f) h p = refl
    sketch_draw (inner k n run r) g zero h p = absurd (none_short (under run (row_contents r)) (filled_under run (row_contents r) (some_filled r g.1 (many_some r g.0))) h)
    sketch_draw (inner k n run r) g (suc f) h p =
        let short : Every (λ s. length s < suc f) (row_contents r) = every_imp _ _ (λ s k. omega (arith, length-append run s)) (row_contents r) (every_of_under (λ s. length s < suc f) run (row_contents r) h) in
        ap (branch (length run) (take 8 run)) (sketch_draw_row r g.1 f short (p ++ run)) ∙ sym (draw_inner f p run r g.0 g.1)

    -- and a row what the groups of its tags by their first byte draw
    pub sketch_draw_row : (r : Row A) → GoodRow r → (f : ℕ) → Every (λ s. length s < suc f) (row_contents r) → (q : Tag)
        → sketch_row q r ≡ kids_of (λ b g. draw_at f (q ++ b ∷ []) g) (groups (row_contents r))
    sketch_draw_row end g f h q = refl
    sketch_draw_row (child b t r) g f h q = rw (groups_child b (contents t) (row_contents r) (filled t g.0) (row_above b r g.1))
        (ap₂ (kid b) (sketch_draw t g.0 f (shorter b f (contents t) (every_left _ (under (b ∷ []) (contents t)) (row_contents r) h)) (q ++ b ∷ []))
        (sketch_draw_row r g.2 f (every_right _ (under (b ∷ []) (contents t)) (row_contents r) h) q))

  longest_above : (l : Listing A) (f : ℕ) → longest l < f → Every (λ s. length s < f) l
  longest_above [] f h = tt
  longest_above (e ∷ l) f h = (omega arith, longest_above l f (omega arith))

  -- a good tree draws what its tags alone draw
  pub sketch_is_draw : (t : Tree A) → Good t → sketch [] t ≡ draw (contents t)
  sketch_is_draw t g = sketch_draw t g (suc (longest (contents t))) (longest_above (contents t) (suc (longest (contents t))) (omega arith)) []
