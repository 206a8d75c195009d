-- The point of a tag says whether it is held, clashes or is free, and the writes at the point make the store of the grown tree.
use mathlib.Core.Path.{◌≡◌, refl, sym, ap, ap₂, ◌∙◌}
use mathlib.Core.Logic.{ite}
use mathlib.Core.Option.{some}
use mathlib.Core.List.{[], ◌∷◌, ◌++◌, append_assoc, append-nil}
use Prim.Native.Nat.{ℕ, suc, ◌+◌, ◌-◌, ◌<◌}
use native.Mathlib.Decide.{ℕ_discrete}
use native.Mathlib.Omega.{arith}
use lib.ListN.{length, take, drop, get_or, length-append}
use lib.Seq.{take-append_seam, drop-append_seam, drop_at}
use Rattle.art.specs.Tags.{Tag}
use Rattle.art.specs.Trees.{Tree, leaf, inner, Row, end, child, contents, Good}
use Rattle.art.specs.Facts.{height}
use Rattle.art.specs.Changes.{Plan, Meet, Has, pair, grow, grow_row, grow_leaf, grow_inner, grow_child}
use Rattle.art.specs.Verdicts.{Verdict, free, verdict, judge_inner, judge, judge_tree, judge_row}
use Rattle.art.specs.Stores.{Place, cell_tag, leaf_place, inner_place, home_place, Cell, unused, inner_cell, Store, Edits, apply, root, refs, store, Once, Fresh, new_leaf, edits_leaf}
use Rattle.art.specs.Walks.{Shows}
use Rattle.art.specs.Drops.{spot}
use Rattle.art.specs.Refs.{Refs, pair_ref, relink}
use Rattle.art.specs.Lean.{lean, lean_row, lean_inner, lean_child}
use Rattle.art.specs.Points.{Up, top, via, Point, fork_place, store_tag, point, point_verdict, relink_up, trim, add_cell, insert_at, new_root, insert_root}
use Rattle.art.proofs.Verdicts.{judge_is}
use Rattle.art.proofs.Walks.{store_shows}
use Rattle.art.proofs.Refs.{at_kid, at_none, grow_swap, spot_kid, spot_swap, pair_refs, add_refs, relink_none}
use Rattle.art.proofs.Lean.{lean_grow}
use Rattle.art.proofs.Reach.{next_byte, Reach, held_leaf, short_leaf, long_leaf, part_leaf, same_run, short_run, part_run, no_kid, a_kid, seek_reaches}

-- a root that stays
pub stays : (up : Up) (y x : Place) → (up ≡ top → y ≡ x) → y ≡ new_root up y x
stays top y x h = h refl
stays (via k n b) y x h = refl

module _ {A : Type 0} where
  -- ── the verdict ──
  judge_kid : (r : Row A) (x : ℕ) (u : Tag) → judge_row r x u ≡ at_kid free (λ c t. judge_tree t u) x r
  judge_kid end x u = refl
  judge_kid (child c t r) x u = ap (ite (ℕ_discrete x c) (judge_tree t u)) (judge_kid r x u)

  reach_verdict : {σ : Store A} {t : Tree A} {p u : Tag} {upper up : Up} {pt : Point} → Reach σ t p u upper up pt → point_verdict pt ≡ some (judge_tree t u)
  reach_verdict (held_leaf e em h) = ap (λ m. some (verdict m)) (sym em)
  reach_verdict (short_leaf y w e em) = ap (λ m. some (verdict m)) (sym em)
  reach_verdict (long_leaf x w e em) = ap (λ m. some (verdict m)) (sym em)
  reach_verdict (part_leaf c x i y j e e' ne em h) = ap (λ m. some (verdict m)) (sym em)
  reach_verdict (same_run {r = r} e em) = ap (λ m. some (judge_inner m (λ x u. judge_row r x u))) (sym em)
  reach_verdict (short_run {r = r} y w e em) = ap (λ m. some (judge_inner m (λ x u. judge_row r x u))) (sym em)
  reach_verdict (part_run {r = r} c x i y j e e' ne em h w z ew) = ap (λ m. some (judge_inner m (λ x u. judge_row r x u))) (sym em)
  reach_verdict (no_kid {r = r} x w e em nh eh h) =
      ap some (sym (at_none free (λ c t. judge_tree t w) x r nh) ∙ sym (judge_kid r x w)) ∙ ap (λ m. some (judge_inner m (λ x u. judge_row r x u))) (sym em)
  reach_verdict (a_kid {r = r} x w e em i eh h hr kid k) =
      reach_verdict k ∙ ap some (sym (kid.picks Verdict free (λ c t. judge_tree t w)) ∙ sym (judge_kid r x w)) ∙ ap (λ m. some (judge_inner m (λ x u. judge_row r x u))) (sym em)

  -- the point in a shown tree says of a tag what its listing says: held, clashing or free
  pub point_judges : (f : ℕ) (σ : Store A) (t : Tree A) → Good t → Shows t [] σ → height t < f → (s : Tag) → point_verdict (point f σ (root t) s) ≡ some (judge s (contents t))
  point_judges f σ t g h l s = reach_verdict (seek_reaches f f σ t g [] s s refl h l l top top) ∙ ap some (judge_is t g s)

  -- ── the writes ──
  -- where the child keeps its place, the record above is not written
  pub relink_up_none : (σ : Store A) (up : Up) (y : Place) → relink_up σ up y y ≡ []
  relink_up_none σ top y = refl
  relink_up_none σ (via k n b) y = relink_none (inner_place k n) (σ (inner_place k n)) b y

  -- the new branching, read off the two tags
  fork_cell : (p c : Tag) (x : ℕ) (i : Tag) (y : ℕ) (j s t : Tag) (N X : Place) → s ≡ p ++ (c ++ x ∷ i) → t ≡ p ++ (c ++ y ∷ j)
      → ◌≡◌ {A = Cell A} (inner_cell (length c) (take 8 (take (length c) (drop (length p) s))) (pair_ref (get_or s (length p + length c) 0) N (get_or t (length p + length c) 0) X)) (inner_cell (length c) (take 8 c) (pair_ref x N y X))
  fork_cell p c x i y j s t N X es et =
      let run : take (length c) (drop (length p) s) ≡ c = ap (λ (z : Tag). take (length c) (drop (length p) z)) es ∙ ap (take (length c)) (drop-append_seam p (c ++ x ∷ i)) ∙ take-append_seam c (x ∷ i) in
      rw (run, next_byte p c x i s es, next_byte p c y j t et)

  -- what is left of the run below it
  trim_cell : (p c : Tag) (y : ℕ) (j run z t : Tag) (rs : Refs) → run ≡ c ++ y ∷ j → t ≡ p ++ (run ++ z)
      → trim {A = A} t (length p) (length c) (inner_cell (length run) (take 8 run) rs) ≡ inner_cell (length j) (take 8 j) rs
  trim_cell p c y j run z t rs e et =
      let left : length run - suc (length c) ≡ length j = omega (arith, ap length e, length-append c (y ∷ j)) in
      let path : t ≡ (p ++ (c ++ y ∷ [])) ++ (j ++ z) = et ∙ ap (λ (q : Tag). p ++ (q ++ z)) e ∙ simp append_assoc in
      let deep : length (p ++ (c ++ y ∷ [])) ≡ suc (length p + length c) = omega (arith, length-append p (c ++ y ∷ []), length-append c (y ∷ [])) in
      let rest : drop (suc (length p + length c)) t ≡ j ++ z = ap (drop (suc (length p + length c))) path ∙ drop_at (p ++ (c ++ y ∷ [])) (j ++ z) _ deep in
      ap₂ (λ (l : ℕ) (q : Tag). inner_cell l (take 8 (take l q)) rs) left rest ∙ ap (λ (q : Tag). inner_cell (length j) (take 8 q) rs) (take-append_seam j z)

  lean_kid : (r : Row A) (pl : Plan) (q : Tag) (x : ℕ) (u : Tag) (a : A) → lean_row r pl q x u a ≡ at_kid [] (λ c t. lean t pl (q ++ c ∷ []) u a) x r
  lean_kid end pl q x u a = refl
  lean_kid (child c t r) pl q x u a = ap (ite (ℕ_discrete x c) (lean t pl (q ++ c ∷ []) u a)) (lean_kid r pl q x u a)

  module _ (σ : Store A) (pl : Plan) (a : A) where
    -- an inner record's writes, and where it is then, by how the tag meets its run
    abbrev inner_writes : (p u : Tag) (k n : ℕ) (run : Tag) (r : Row A) (up : Up) → Meet u run → Edits A
    inner_writes p u k n run r up m =
        lean_inner pl p u a k n run r m (λ x v. grow_row r pl x v a) (λ x v. lean_row r pl (p ++ run) x v a)
        ++ relink_up σ up (inner_place k n) (root (grow_inner pl u a k n run r m (λ x v. grow_row r pl x v a)))

    abbrev kid_writes : (p u : Tag) (k n : ℕ) (run : Tag) (r : Row A) (up : Up) (x : ℕ) (w : Tag) → Dec (Has x r) → Edits A
    kid_writes p u k n run r up x w d =
        lean_child pl p u a k n run r x w d (grow_row r pl x w a) (lean_row r pl (p ++ run) x w a) ++ relink_up σ up (inner_place k n) (root (grow_child pl k n run r x w a d (grow_row r pl x w a)))

    abbrev leaf_writes : (p u : Tag) (n : ℕ) (rest : Tag) (v : A) (up : Up) → Meet u rest → Edits A
    leaf_writes p u n rest v up m = edits_leaf pl p u a n rest v m ++ relink_up σ up (leaf_place n) (root (grow_leaf pl u a n rest v m))

    reach_writes : {t : Tree A} {p u : Tag} {upper up : Up} {pt : Point} → Reach σ t p u upper up pt → (s : Tag) → s ≡ p ++ u
        → insert_at σ pl s a pt ≡ lean t pl p u a ++ relink_up σ up (root t) (root (grow t pl u a))
    reach_writes (held_leaf {n} {rest} {v} {p} {u} {upper} {up} e em h) s es = sym (ap (leaf_writes p u n rest v up) em ∙ relink_up_none σ up (leaf_place n))
    reach_writes (short_leaf {n} {rest} {v} {p} {u} {upper} {up} y w e em) s es = sym (ap (leaf_writes p u n rest v up) em ∙ relink_up_none σ up (leaf_place n))
    reach_writes (long_leaf {n} {rest} {v} {p} {u} {upper} {up} x w e em) s es = sym (ap (leaf_writes p u n rest v up) em ∙ relink_up_none σ up (leaf_place n))
    reach_writes (part_leaf {n} {rest} {v} {p} {u} {upper} {up} c x i y j e e' ne em h) s es =
        let N : Place = leaf_place pl.leaf_number in
        ap₂ (λ (q : Tag) (d : Cell A). new_leaf pl q a ∷ (fork_place pl, d) ∷ relink_up σ up (leaf_place n) (fork_place pl)) es
        (fork_cell p c x i y j s (store_tag σ n) N (leaf_place n) (es ∙ ap (λ (q : Tag). p ++ q) e) (ap cell_tag h ∙ ap (λ (q : Tag). p ++ q) e')
        ∙ ap (λ (rs : Refs). inner_cell (length c) (take 8 c) rs) (sym (pair_refs x (leaf pl.leaf_number i a) y (leaf n j v))))
        ∙ sym (ap (leaf_writes p u n rest v up) em)
    reach_writes (same_run {k} {n} {run} {r} {p} {u} {upper} {up} e em) s es = sym (ap (inner_writes p u k n run r up) em ∙ relink_up_none σ up (inner_place k n))
    reach_writes (short_run {k} {n} {run} {r} {p} {u} {upper} {up} y w e em) s es = sym (ap (inner_writes p u k n run r up) em ∙ relink_up_none σ up (inner_place k n))
    reach_writes (part_run {k} {n} {run} {r} {p} {u} {upper} {up} c x i y j e e' ne em h w z ew) s es =
        let N : Place = leaf_place pl.leaf_number in
        let here : Place = inner_place k n in
        let old : trim (store_tag σ w) (length p) (length c) (σ here) ≡ inner_cell (length j) (take 8 j) (refs r) = ap (trim (store_tag σ w) (length p) (length c)) h ∙ trim_cell p c y j run z (store_tag σ w) (refs r) e' ew in
        let two : store_tag σ w ≡ p ++ (c ++ y ∷ (j ++ z)) = ew ∙ ap (λ (q : Tag). p ++ (q ++ z)) e' ∙ ap (λ (q : Tag). p ++ q) (append_assoc c (y ∷ j) z) in
        let below : Cell A = inner_cell (length j) (take 8 j) (refs r) in
        let new : Cell A = inner_cell (length c) (take 8 c) (refs (pair x (leaf pl.leaf_number i a) y (inner k n j r))) in
        ap₂ (λ (o d : Cell A). (here, o) ∷ new_leaf pl s a ∷ (fork_place pl, d) ∷ relink_up σ up here (fork_place pl)) old
        (fork_cell p c x i y (j ++ z) s (store_tag σ w) N here (es ∙ ap (λ (q : Tag). p ++ q) e) two
        ∙ ap (λ (rs : Refs). inner_cell (length c) (take 8 c) rs) (sym (pair_refs x (leaf pl.leaf_number i a) y (inner k n j r))))
        ∙ ap (λ (q : Tag). (here, below) ∷ new_leaf pl q a ∷ (fork_place pl, new) ∷ relink_up σ up here (fork_place pl)) es
        ∙ sym (ap (inner_writes p u k n run r up) em)
    reach_writes (no_kid {k} {n} {run} {r} {p} {u} {upper} {up} x w e em nh eh h) s es =
        let N : Place = leaf_place pl.leaf_number in
        let here : Place = inner_place k n in
        ap₂ (λ (q : Tag) (d : Cell A). new_leaf pl q a ∷ (here, unused) ∷ (home_place pl k n, d) ∷ relink_up σ up here (home_place pl k n)) es
        (ap (add_cell x N) h ∙ ap (λ (rs : Refs). inner_cell (length run) (take 8 run) rs) (sym (add_refs x (leaf pl.leaf_number w a) r)))
        ∙ sym (ap (inner_writes p u k n run r up) em
        ∙ ap (kid_writes p u k n run r up x w) eh)
    reach_writes (a_kid {k} {n} {run} {r} {p} {u} {upper} {up} x w e em i eh h hr kid b) s es =
        let here : Place = inner_place k n in
        let old : Cell A = inner_cell (length run) (take 8 run) (refs r) in
        let es' : s ≡ p ++ run ++ x ∷ [] ++ w = es ∙ ap (λ (q : Tag). p ++ q) e ∙ simp append_assoc in
        let writes : lean_row r pl (p ++ run) x w a ≡ lean kid.tree pl (p ++ run ++ x ∷ []) w a = lean_kid r pl (p ++ run) x w a ∙ kid.picks (Edits A) [] (λ c t. lean t pl (p ++ run ++ c ∷ []) w a) in
        let was : spot x r ≡ root kid.tree = spot_kid x r ∙ kid.picks Place (leaf_place 0) (λ c t. root t) in
        let is : spot x (grow_row r pl x w a) ≡ root (grow kid.tree pl w a) = ap (spot x) (grow_swap r pl x w a) ∙ spot_swap (λ t. grow t pl w a) x r ∙ kid.picks Place (leaf_place 0) (λ c t. root (grow t pl w a)) in
        reach_writes b s es'
        ∙ ap₂ (λ (l : Edits A) (c : Cell A). l ++ relink here c x (root kid.tree) (root (grow kid.tree pl w a))) (sym writes) h
        ∙ ap₂ (λ (y z : Place). lean_row r pl (p ++ run) x w a ++ relink here old x y z) (sym was) (sym is)
        ∙ sym (append-nil _)
        ∙ sym (ap (inner_writes p u k n run r up) em
        ∙ ap (kid_writes p u k n run r up x w) eh
        ∙ ap (λ (l : Edits A). (lean_row r pl (p ++ run) x w a ++ relink here old x (spot x r) (spot x (grow_row r pl x w a))) ++ l) (relink_up_none σ up here))

    -- the root afterwards, where y is the root of the whole, by how the tag meets a leaf or a run
    abbrev leaf_lands : (y : Place) (u : Tag) (n : ℕ) (rest : Tag) (v : A) (up : Up) → Meet u rest → Place
    leaf_lands y u n rest v up m = new_root up y (root (grow_leaf pl u a n rest v m))

    abbrev inner_lands : (y : Place) (u : Tag) (k n : ℕ) (run : Tag) (r : Row A) (up : Up) → Meet u run → Place
    inner_lands y u k n run r up m = new_root up y (root (grow_inner pl u a k n run r m (λ x v. grow_row r pl x v a)))

    abbrev kid_lands : (y : Place) (k n : ℕ) (run : Tag) (r : Row A) (up : Up) (x : ℕ) (w : Tag) → Dec (Has x r) → Place
    kid_lands y k n run r up x w d = new_root up y (root (grow_child pl k n run r x w a d (grow_row r pl x w a)))

    reach_root : {t : Tree A} {p u : Tag} {upper up : Up} {pt : Point} → Reach σ t p u upper up pt → (y : Place) → (up ≡ top → y ≡ root t) → insert_root pl pt y ≡ new_root up y (root (grow t pl u a))
    reach_root (held_leaf {n} {rest} {v} {p} {u} {upper} {up} e em h) y i = stays up y _ i ∙ sym (ap (leaf_lands y u n rest v up) em)
    reach_root (short_leaf {n} {rest} {v} {p} {u} {upper} {up} b w e em) y i = stays up y _ i ∙ sym (ap (leaf_lands y u n rest v up) em)
    reach_root (long_leaf {n} {rest} {v} {p} {u} {upper} {up} x w e em) y i = stays up y _ i ∙ sym (ap (leaf_lands y u n rest v up) em)
    reach_root (part_leaf {n} {rest} {v} {p} {u} {upper} {up} c x b z j e e' ne em h) y i = sym (ap (leaf_lands y u n rest v up) em)
    reach_root (same_run {k} {n} {run} {r} {p} {u} {upper} {up} e em) y i = stays up y _ i ∙ sym (ap (inner_lands y u k n run r up) em)
    reach_root (short_run {k} {n} {run} {r} {p} {u} {upper} {up} b w e em) y i = stays up y _ i ∙ sym (ap (inner_lands y u k n run r up) em)
    reach_root (part_run {k} {n} {run} {r} {p} {u} {upper} {up} c x b z j e e' ne em h w q ew) y i = sym (ap (inner_lands y u k n run r up) em)
    reach_root (no_kid {k} {n} {run} {r} {p} {u} {upper} {up} x w e em nh eh h) y i =
        sym (ap (inner_lands y u k n run r up) em ∙ ap (kid_lands y k n run r up x w) eh)
    reach_root (a_kid {k} {n} {run} {r} {p} {u} {upper} {up} x w e em j eh h hr kid b) y i =
        reach_root b y (λ q. let z : ◌≡◌ {A = ℕ} 0 1 = cc in absurd (omega arith))
        ∙ stays up y _ i
        ∙ sym (ap (inner_lands y u k n run r up) em ∙ ap (kid_lands y k n run r up x w) eh)

  -- the writes at the point of a tag make the store of the grown tree
  pub insert_makes : (f : ℕ) (t : Tree A) → Good t → Once t [] → height t < f → (pl : Plan) → Fresh pl (store t []) → (s : Tag) (a : A)
      → apply (store t []) (insert_at (store t []) pl s a (point f (store t []) (root t) s)) ≡ store (grow t pl s a) []
  insert_makes f t g o l pl fr s a =
      let σ : Store A = store t [] in
      ap (apply σ) (reach_writes σ pl a (seek_reaches f f σ t g [] s s refl (store_shows t [] o) l l top top) s refl ∙ append-nil (lean t pl [] s a)) ∙ lean_grow t pl [] s a o fr

  -- and the root that the point says is the grown tree's
  pub insert_moves : (f : ℕ) (σ : Store A) (t : Tree A) → Good t → Shows t [] σ → height t < f → (pl : Plan) (s : Tag) (a : A) → insert_root pl (point f σ (root t) s) (root t) ≡ root (grow t pl s a)
  insert_moves f σ t g h l pl s a = reach_root σ pl a (seek_reaches f f σ t g [] s s refl h l l top top) (root t) (λ i. refl)
