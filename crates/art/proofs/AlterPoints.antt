-- What is held at the point of a tag is what the listing holds for it, and a change of it is the one write of that leaf.
use mathlib.Core.Path.{◌≡◌, refl, sym, ap, ap₂, ◌∙◌}
use mathlib.Core.Logic.{inl, ◌≢◌, ite, if_pos, if_neg}
use mathlib.Core.Bool.{Bool, false}
use mathlib.Core.Option.{Option, none, some}
use mathlib.Core.List.{[], ◌∷◌, ◌++◌, append_assoc, append-nil, head-eq_of_cons-eq, append_cancel_left}
use Prim.Native.Nat.{ℕ, ◌<◌}
use native.Mathlib.Decide.{ℕ_discrete}
use native.Mathlib.Omega.{arith}
use lib.ListN.{length, take, length-append}
use Rattle.art.specs.Tags.{Tag, Listing, tag_dec, exact, fits_dec}
use Rattle.art.specs.Listings.{under, find, lookup}
use Rattle.art.specs.Trees.{Tree, leaf, inner, Row, end, child, contents, row_contents, Good, GoodRow, HeadAbove}
use Rattle.art.specs.Facts.{height}
use Rattle.art.specs.Changes.{Meet, same, short, long, part, meet}
use Rattle.art.specs.Deletes.{Home, stay, lost, lost_row, prune, prune_row, prune_inner, prune_child, drop_whole, change}
use Rattle.art.specs.Stores.{Place, leaf_place, inner_place, Cell, inner_cell, Store, Edits, apply, root, refs, store, Once}
use Rattle.art.specs.Walks.{Shows}
use Rattle.art.specs.Drops.{spot}
use Rattle.art.specs.Refs.{relink}
use Rattle.art.specs.Lean.{lean_drops, lean_drops_row, lean_drops_inner, lean_drops_child}
use Rattle.art.specs.Points.{Up, top, Point, cell_held, point, point_held, re_held, alter_at, store_of, root_of}
use Rattle.art.proofs.Listings.{every_all, every_imp, every_under, find_none, find_left, find_right, find_exact, ite_iff}
use Rattle.art.proofs.Trees.{row_above, row_filled}
use Rattle.art.proofs.Walks.{store_shows}
use Rattle.art.proofs.Refs.{at_kid, at_none, spot_kid, relink_none}
use Rattle.art.proofs.Lean.{lean_prune}
use Rattle.art.proofs.Reach.{short_differs, long_differs, part_differs, Reach, held_leaf, short_leaf, long_leaf, part_leaf, same_run, short_run, part_run, no_kid, a_kid, seek_reaches}
use Rattle.art.proofs.DeletePoints.{drops_kid, prune_spot, re_leaf_root}

module _ {A : Type 0} where
  -- ── a change of what is held ──
  -- a change that leaves no tag out loses no tree whole
  pub alter_whole : (g : A → A) (t : Tree A) (u : Tag) → lost (λ a. some (g a)) t u ≡ false
  alter_whole g (leaf n rest v) u = go (tag_dec u rest)
    where
      go : (d : Dec (u ≡ rest)) → ite {C = Bool} d false false ≡ false
      go (yes e) = refl
      go (no n) = refl
  alter_whole g (inner k n run r) u = refl

  alter_row_whole : (g : A → A) (r : Row A) (x : ℕ) (u : Tag) → lost_row (λ a. some (g a)) r x u ≡ false
  alter_row_whole g end x u = refl
  alter_row_whole g (child c t r) x u = go (ℕ_discrete x c) (alter_row_whole g r x u)
    where
      go : (d : Dec (x ≡ c)) → lost_row (λ a. some (g a)) r x u ≡ false → ite d (lost (λ a. some (g a)) t u) (lost_row (λ a. some (g a)) r x u) ≡ false
      go (yes e) ih = alter_whole g t u
      go (no n) ih = ih

  module _ (g : A → A) where
    abbrev to : A → Option A
    to a = some (g a)

    alter_root : (hm : Home) (t : Tree A) (u : Tag) → root (prune t to hm u) ≡ root t
    alter_root hm (leaf n rest v) u = re_leaf_root n rest v (some (g v)) (tag_dec u rest)
    alter_root hm (inner k n run r) u = go (meet u run)
      where
        go : (m : Meet u run) → root (prune_inner to hm u k n run r m (λ x v. prune_row r to hm x v)) ≡ inner_place k n
        go (same e) = refl
        go (short y v e) = refl
        go (long x v e) = ap (λ (b : Bool). root (prune_child hm k n run r x b (prune_row r to hm x v))) (alter_row_whole g r x v)
        go (part c x i y j e e' ne) = refl

    -- no record moves, so that it does not matter where one would go
    home_inner : (hm hm' : Home) (k n : ℕ) (run : Tag) (r : Row A) (u : Tag) (m : Meet u run) (rec rec' : ℕ → Tag → Row A) → ((x : ℕ) (v : Tag) → rec x v ≡ rec' x v)
        → prune_inner to hm u k n run r m rec ≡ prune_inner to hm' u k n run r m rec'
    home_inner hm hm' k n run r u (same e) rec rec' h = refl
    home_inner hm hm' k n run r u (short y v e) rec rec' h = refl
    home_inner hm hm' k n run r u (long x v e) rec rec' h =
        ap (λ (b : Bool). prune_child hm k n run r x b (rec x v)) (alter_row_whole g r x v) ∙ ap (inner k n run) (h x v) ∙ sym (ap (λ (b : Bool). prune_child hm' k n run r x b (rec' x v)) (alter_row_whole g r x v))
    home_inner hm hm' k n run r u (part c x i y j e e' ne) rec rec' h = refl

    mutual
      -- and makes the same tree whatever homes are offered
      any_home : (t : Tree A) (hm hm' : Home) (u : Tag) → prune t to hm u ≡ prune t to hm' u
      any_home (leaf n rest v) hm hm' u = refl
      any_home (inner k n run r) hm hm' u = home_inner hm hm' k n run r u (meet u run) (λ x v. prune_row r to hm x v) (λ x v. prune_row r to hm' x v) (λ x v. any_row_home r hm hm' x v)

      any_row_home : (r : Row A) (hm hm' : Home) (x : ℕ) (u : Tag) → prune_row r to hm x u ≡ prune_row r to hm' x u
      any_row_home end hm hm' x u = refl
      any_row_home (child c t r) hm hm' x u = ap₂ (λ (t' : Tree A) (r' : Row A). ite (ℕ_discrete x c) (child c t' r) (child c t r')) (any_home t hm hm' u) (any_row_home r hm hm' x u)

    module _ (σ : Store A) (hm : Home) where
      abbrev inner_alters : (p u : Tag) (k n : ℕ) (run : Tag) (r : Row A) → Meet u run → Edits A
      inner_alters p u k n run r m = lean_drops_inner to hm p u k n run r m (λ x v. prune_row r to hm x v) (λ x v. lean_drops_row r to hm (p ++ run) x v)

      -- nothing is written above a child that stays where it is
      above_stays : (p u : Tag) (k n : ℕ) (run : Tag) (r : Row A) (x : ℕ) (w : Tag) (e : u ≡ run ++ x ∷ w) → meet u run ≡ long x w e → (es : Edits A) (y : Place)
          → lean_drops_row r to hm (p ++ run) x w ≡ es → spot x r ≡ y → spot x (prune_row r to hm x w) ≡ y → inner_alters p u k n run r (meet u run) ≡ es
      above_stays p u k n run r x w e em es y writes was is =
          let here : Place = inner_place k n in
          let old : Cell A = inner_cell (length run) (take 8 run) (refs r) in
          ap (inner_alters p u k n run r) em
          ∙ ap (λ (b : Bool). lean_drops_child hm p k n run r x b (prune_row r to hm x w) (lean_drops_row r to hm (p ++ run) x w)) (alter_row_whole g r x w)
          ∙ ap (λ (l : Edits A). l ++ relink here old x (spot x r) (spot x (prune_row r to hm x w))) writes
          ∙ ap₂ (λ (a b : Place). es ++ relink here old x a b) was is
          ∙ ap (λ (l : Edits A). es ++ l) (relink_none here old x y) ∙ append-nil es

      reach_alters : {t : Tree A} {p u : Tag} {upper up : Up} {pt : Point} → Reach σ t p u upper up pt → alter_at σ g pt ≡ lean_drops t to hm p u
      reach_alters (held_leaf {n} {rest} {v} {p} {u} e em h) = ap (λ (c : Cell A). (leaf_place n, re_held g c) ∷ []) h ∙ sym (if_pos (tag_dec u rest) e _ _)
      reach_alters (short_leaf {n} {rest} {v} {p} {u} y w e em) = sym (if_neg (tag_dec u rest) (short_differs u rest y w e) _ _)
      reach_alters (long_leaf {n} {rest} {v} {p} {u} x w e em) = sym (if_neg (tag_dec u rest) (long_differs u rest x w e) _ _)
      reach_alters (part_leaf {n} {rest} {v} {p} {u} c x i y j e e' ne em h) = sym (if_neg (tag_dec u rest) (part_differs u rest c x i y j e e' ne) _ _)
      reach_alters (same_run {k} {n} {run} {r} {p} {u} e em) = sym (ap (inner_alters p u k n run r) em)
      reach_alters (short_run {k} {n} {run} {r} {p} {u} y w e em) = sym (ap (inner_alters p u k n run r) em)
      reach_alters (part_run {k} {n} {run} {r} {p} {u} c x i y j e e' ne em h w z ew) = sym (ap (inner_alters p u k n run r) em)
      reach_alters (no_kid {k} {n} {run} {r} {p} {u} x w e em nh eh h) =
          sym (above_stays p u k n run r x w e em [] (leaf_place 0) (drops_kid to hm r (p ++ run) x w ∙ at_none [] (λ c t. lean_drops t to hm (p ++ run ++ c ∷ []) w) x r nh)
          (spot_kid x r ∙ at_none (leaf_place 0) (λ c t. root t) x r nh) (prune_spot to hm r x w ∙ at_none (leaf_place 0) (λ c t. root (prune t to hm w)) x r nh))
      reach_alters (a_kid {k} {n} {run} {r} {p} {u} x w e em i eh h hr kid b) =
          reach_alters b
          ∙ sym (above_stays p u k n run r x w e em (lean_drops kid.tree to hm (p ++ run ++ x ∷ []) w) (root kid.tree)
          (drops_kid to hm r (p ++ run) x w ∙ kid.picks (Edits A) [] (λ c t. lean_drops t to hm (p ++ run ++ c ∷ []) w))
          (spot_kid x r ∙ kid.picks Place (leaf_place 0) (λ c t. root t))
          (prune_spot to hm r x w ∙ kid.picks Place (leaf_place 0) (λ c t. root (prune t to hm w)) ∙ alter_root hm kid.tree w))

  -- the one write at the point of a held tag makes the store of the tree that holds another total for it; where the tag is not held there is none
  pub alter_makes : (f : ℕ) (t : Tree A) → Good t → Once t [] → height t < f → (g : A → A) (hm : Home) (s : Tag)
      → apply (store t []) (alter_at (store t []) g (point f (store t []) (root t) s)) ≡ store_of (change t (λ a. some (g a)) hm s)
  alter_makes f t g o l h hm s =
      let σ : Store A = store t [] in
      ap (apply σ) (reach_alters h σ stay (seek_reaches f f σ t g [] s s refl (store_shows t [] o) l l top top))
      ∙ lean_prune t (λ a. some (h a)) stay [] s o (λ k n l. inl refl)
      ∙ ap (λ (u : Tree A). store u []) (any_home h t stay hm s)
      ∙ sym (ap (λ (b : Bool). store_of (drop_whole b (prune t (λ a. some (h a)) hm s))) (alter_whole h t s))

  -- and the root stays
  pub alter_moves : (t : Tree A) (g : A → A) (hm : Home) (s : Tag) → root_of (change t (λ a. some (g a)) hm s) ≡ some (root t)
  alter_moves t g hm s = ap (λ (b : Bool). root_of (drop_whole b (prune t (λ a. some (g a)) hm s))) (alter_whole g t s) ∙ ap some (alter_root g hm t s)

  -- ── what is held ──
  find_under : (p s : Tag) (l : Listing A) → find exact (p ++ s) (under p l) ≡ find exact s l
  find_under p s [] = refl
  find_under p s (e ∷ l) =
      ite_iff (fits_dec exact (p ++ s) (p ++ e.0)) (fits_dec exact s e.0) (append_cancel_left p s e.0) (ap (λ (z : Tag). p ++ z)) _ _
      ∙ ap (ite (fits_dec exact s e.0) (some e.1)) (find_under p s l)

  find_row : (r : Row A) → GoodRow r → (x : ℕ) (u : Tag) → find exact (x ∷ u) (row_contents r) ≡ at_kid none (λ c t. find exact u (contents t)) x r
  find_row end g x u = refl
  find_row (child c t r) g x u = go (ℕ_discrete x c) (find_row r g.2 x u)
    where
      kids : Listing A
      kids = under (c ∷ []) (contents t)

      later : x ≡ c → (z : Tag) → HeadAbove c z → x ∷ u ≢ z
      later i [] h e = elim h [ ]
      later i (d ∷ z) h e = let j = head-eq_of_cons-eq e in omega arith

      go : (d : Dec (x ≡ c)) → find exact (x ∷ u) (row_contents r) ≡ at_kid none (λ c t. find exact u (contents t)) x r
          → find exact (x ∷ u) (kids ++ row_contents r) ≡ ite d (find exact u (contents t)) (at_kid none (λ c t. find exact u (contents t)) x r)
      go (yes e) ih =
          find_left exact (x ∷ u) kids (row_contents r) (every_imp _ _ (later e) (row_contents r) (row_above c r g.1))
          ∙ ap (λ (b : ℕ). find exact (b ∷ u) kids) e ∙ find_under (c ∷ []) u (contents t)
      go (no n) ih = find_right exact (x ∷ u) kids (row_contents r) (every_under (λ z. x ∷ u ≢ z) (c ∷ []) (contents t) (every_all _ (λ z e. n (head-eq_of_cons-eq e)) (contents t))) ∙ ih

  -- a tag that does not go on past the run is none of those below
  not_below : (s run : Tag) (r : Row A) → ((z : Tag) → 0 < length z → s ≢ run ++ z) → none ≡ find exact s (under run (row_contents r))
  not_below s run r h = sym (find_none exact s (under run (row_contents r)) (every_under (λ t. s ≢ t) run (row_contents r) (every_imp _ _ h (row_contents r) (row_filled r))))

  reach_held : {σ : Store A} {t : Tree A} {p u : Tag} {upper up : Up} {pt : Point} → Good t → Reach σ t p u upper up pt → point_held σ pt ≡ find exact u (contents t)
  reach_held g (held_leaf {n} {rest} {v} {p} {u} e em h) = ap cell_held h ∙ sym (if_pos (fits_dec exact u rest) e _ _)
  reach_held g (short_leaf {n} {rest} {v} {p} {u} y w e em) = sym (if_neg (fits_dec exact u rest) (short_differs u rest y w e) _ _)
  reach_held g (long_leaf {n} {rest} {v} {p} {u} x w e em) = sym (if_neg (fits_dec exact u rest) (long_differs u rest x w e) _ _)
  reach_held g (part_leaf {n} {rest} {v} {p} {u} c x i y j e e' ne em h) = sym (if_neg (fits_dec exact u rest) (part_differs u rest c x i y j e e' ne) _ _)
  reach_held g (same_run {k} {n} {run} {r} {p} {u} e em) = not_below u run r (λ z h i. omega (arith, simp length-append at (ap length (sym e ∙ i))))
  reach_held g (short_run {k} {n} {run} {r} {p} {u} y w e em) = not_below u run r (λ z h i. omega (arith, simp length-append at (ap length i), simp length-append at (ap length e)))
  reach_held g (part_run {k} {n} {run} {r} {p} {u} c x i y j e e' ne em h w q ew) =
      not_below u run r (λ z l a. part_differs u (run ++ z) c x i y (j ++ z) e (ap (λ (b : Tag). b ++ z) e' ∙ append_assoc c (y ∷ j) z) ne a)
  reach_held g (no_kid {k} {n} {run} {r} {p} {u} x w e em nh eh h) =
      sym (ap (λ (z : Tag). find exact z (under run (row_contents r))) e ∙ find_under run (x ∷ w) (row_contents r) ∙ find_row r g.1 x w ∙ at_none none (λ c t. find exact w (contents t)) x r nh)
  reach_held g (a_kid {k} {n} {run} {r} {p} {u} x w e em i eh h hr kid b) =
      reach_held kid.good b
      ∙ sym (ap (λ (z : Tag). find exact z (under run (row_contents r))) e ∙ find_under run (x ∷ w) (row_contents r) ∙ find_row r g.1 x w ∙ kid.picks (Option A) none (λ c t. find exact w (contents t)))

  -- what is held at the point of a tag is what the listing holds for it, none where it does not hold it
  pub point_finds : (f : ℕ) (σ : Store A) (t : Tree A) → Good t → Shows t [] σ → height t < f → (s : Tag) → point_held σ (point f σ (root t) s) ≡ lookup s (contents t)
  point_finds f σ t g h l s = reach_held g (seek_reaches f f σ t g [] s s refl h l l top top) ∙ find_exact s (contents t)
