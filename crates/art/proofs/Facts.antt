-- Bounds that the tags put on a tree, and histories: any run of calls makes the tree of the tags that the calls define.
use mathlib.Core.Path.{◌≡◌, refl, ap, ap₂, ◌∙◌}
use mathlib.Core.Option.{Option, none, some}
use mathlib.Core.List.{List, [], ◌∷◌, ◌++◌}
use Prim.Native.Nat.{suc, ◌+◌, ◌-◌, ◌≤◌, ◌<◌, max}
use native.Mathlib.Omega.{arith}
use lib.ListN.{length, length-append}
use Rattle.art.specs.Tags.{Tag, Listing}
use Rattle.art.specs.Listings.{under}
use Rattle.art.specs.Trees.{Tree, leaf, inner, Row, end, child, contents, row_contents, Good, GoodRow}
use Rattle.art.proofs.Drawings.{filled, some_filled, many_some, sketch_is_draw}
use Rattle.art.specs.Drawings.{Filled, Some, longest, sketch, sketch_row, draw}
use Rattle.art.proofs.Changes.{grow_contents, grow_good}
use Rattle.art.specs.Changes.{Plan}
use Rattle.art.proofs.Deletes.{change_held, change_sane}
use Rattle.art.specs.Deletes.{stay, held, Sane}
use Rattle.art.proofs.Verdicts.{judge_is, free_apart}
use Rattle.art.specs.Verdicts.{Verdict, known, clash, free, judge}
use Rattle.art.specs.Facts.{height, row_height, forks, row_forks, branchings, kids_branchings, Call, insert, delete, put_room, insert_listing, step_listing, insert_tree, first_leaf, step, run_all, run_listing, drawn}

module _ {A : Type 0} where
  -- ── no path has more inner records than the longest tag has bytes ──
  longest_append : (l m : Listing A) → longest (l ++ m) ≡ max (longest l) (longest m)
  longest_append [] m = omega arith
  longest_append (e ∷ l) m = omega (arith, longest_append l m)

  longest_under : (p : Tag) (l : Listing A) → Filled l → longest (under p l) ≡ length p + longest l
  longest_under p [] f = elim f [ ]
  longest_under p (e ∷ []) f = omega (arith, length-append p e.0)
  longest_under p (e ∷ e' ∷ l) f = omega (arith, length-append p e.0, longest_under p (e' ∷ l) tt)

  some_longest : (r : Row A) → GoodRow r → Some r → 0 < longest (row_contents r)
  some_longest end g h = elim h [ ]
  some_longest (child b t r) g h = omega (arith, longest_append (under (b ∷ []) (contents t)) (row_contents r), longest_under (b ∷ []) (contents t) (filled t g.0))

  mutual
    -- no path has more inner records than the longest tag has bytes
    pub height_bound : (t : Tree A) → Good t → height t ≤ longest (contents t)
    height_bound (leaf n s a) g = omega arith
    height_bound (inner k n run r) g =
        let some = some_filled r g.1 (many_some r g.0) in
        omega (arith, longest_under run (row_contents r) some, row_height_bound r g.1, some_longest r g.1 (many_some r g.0))

    -- and below a row it has one less
    pub row_height_bound : (r : Row A) → GoodRow r → row_height r ≤ longest (row_contents r) - 1
    row_height_bound end g = omega arith
    row_height_bound (child b t r) g =
        omega (arith, longest_append (under (b ∷ []) (contents t)) (row_contents r), longest_under (b ∷ []) (contents t) (filled t g.0), height_bound t g.0, row_height_bound r g.2)

  mutual
    -- a tree has as many inner records as it draws branchings
    pub forks_drawn : (t : Tree A) (p : Tag) → forks t ≡ branchings (sketch p t)
    forks_drawn (leaf n s a) p = refl
    forks_drawn (inner k n run r) p = ap suc (row_forks_drawn r (p ++ run))

    -- and so has a row
    pub row_forks_drawn : (r : Row A) (q : Tag) → row_forks r ≡ kids_branchings (sketch_row q r)
    row_forks_drawn end q = refl
    row_forks_drawn (child b t r) q = ap₂ ◌+◌ (forks_drawn t (q ++ b ∷ [])) (row_forks_drawn r q)

  -- the tags alone say how many inner records are used
  pub used_inner_lem : (t : Tree A) → Good t → forks t ≡ branchings (draw (contents t))
  used_inner_lem t g = forks_drawn t [] ∙ ap branchings (sketch_is_draw t g)

  first_leaf_held : (s : Tag) (a : A) (room : Option Plan) → (Sane (first_leaf s a room)) × (held (first_leaf s a room) ≡ put_room s a room [])
  first_leaf_held s a none = (tt, refl)
  first_leaf_held s a (some pl) = (tt, refl)

  insert_held : (t : Tree A) → Good t → (s : Tag) (a : A) (f : A → A) (room : Option Plan) (v : Verdict) → judge s (contents t) ≡ v
      → (Sane (insert_tree v t s a f room)) × (held (insert_tree v t s a f room) ≡ insert_listing v s a f room (contents t))
  insert_held t g s a f room known e = (change_sane t g (λ x. some (f x)) stay s, change_held t g (λ x. some (f x)) stay s)
  insert_held t g s a f room clash e = (g, refl)
  insert_held t g s a f none free e = (g, refl)
  insert_held t g s a f (some pl) free e = (grow_good t g pl s a, grow_contents t g pl s a (free_apart s (contents t) e))

  -- a call makes of what a directory holds what it makes of the listing, and leaves the tree good
  pub step_held : (o : Option (Tree A)) (c : Call A) → Sane o → (Sane (step o c)) × (held (step o c) ≡ step_listing (held o) c)
  step_held none (insert s a f room) g = first_leaf_held s a room
  step_held none (delete s hm) g = (tt, refl)
  step_held (some t) (insert s a f room) g = rw (judge_is t g s) (insert_held t g s a f room (judge s (contents t)) refl)
  step_held (some t) (delete s hm) g = (change_sane t g (λ x. none) hm s, change_held t g (λ x. none) hm s)

  -- and so does any run of calls
  pub run_held : (o : Option (Tree A)) (cs : List (Call A)) → Sane o → (Sane (run_all o cs)) × (held (run_all o cs) ≡ run_listing (held o) cs)
  run_held o [] g = (g, refl)
  run_held o (c ∷ cs) g =
      let s = step_held o c g in
      let r = run_held (step o c) cs s.0 in
      (r.0, r.1 ∙ ap (λ (l : Listing A). run_listing l cs) s.1)

  drawn_is_draw : (o : Option (Tree A)) → Sane o → drawn o ≡ draw (held o)
  drawn_is_draw none g = refl
  drawn_is_draw (some t) g = sketch_is_draw t g

  -- any history from the empty directory draws what the accepted changes define
  pub history : (cs : List (Call A)) → drawn (run_all none cs) ≡ draw (run_listing [] cs)
  history cs = let r = run_held none cs tt in drawn_is_draw (run_all none cs) r.0 ∙ ap draw r.1
