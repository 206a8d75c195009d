-- The point of a tag holds what the listing holds for it, and the writes at the point make the store of the tree without the tag, or with another total.
use mathlib.Core.Path.{◌≡◌, refl, sym, ap, ap₂, ◌∙◌}
use mathlib.Core.Logic.{◌≢◌, ite, if_pos, if_neg}
use mathlib.Core.Bool.{Bool, true, false}
use mathlib.Core.Option.{Option, none, some}
use mathlib.Core.List.{List, [], ◌∷◌, ◌++◌, append_assoc, append-nil}
use Prim.Native.Nat.{ℕ, zero, suc, ◌≤◌, ◌<◌}
use native.Mathlib.Decide.{ℕ_discrete}
use native.Mathlib.Omega.{arith}
use lib.ListN.{length, take, length-append}
use lib.Seq.{take-take}
use Rattle.art.specs.Tags.{Tag, tag_dec}
use Rattle.art.specs.Trees.{Tree, leaf, inner, Row, end, child, Good}
use Rattle.art.specs.Facts.{height}
use Rattle.art.specs.Changes.{Meet, meet}
use Rattle.art.specs.Deletes.{Home, is_none, lost, lost_row, cut_row, settle, re_leaf, prune, prune_row, prune_inner, prune_child, drop_whole, change}
use Rattle.art.specs.Stores.{Place, leaf_place, inner_place, Cell, unused, leaf_cell, inner_cell, Store, Edits, empty, write, apply, root, refs, store, Once}
use Rattle.art.specs.Walks.{Shows, ShowsRow}
use Rattle.art.specs.Drops.{new_home, Roomy, spot}
use Rattle.art.specs.Refs.{Refs, cut_ref, relink}
use Rattle.art.specs.Lean.{lean_settle, lean_drops, lean_drops_row, lean_drops_inner, lean_drops_child}
use Rattle.art.specs.Points.{Up, top, via, Point, holds, cell_refs, point, relink_up, new_root, settle_place, merge, settle_refs, settle_cell, settled, delete_at, delete_root, store_of, root_of}
use Rattle.art.proofs.Deletes.{false_true}
use Rattle.art.proofs.Stores.{write_write, write_id}
use Rattle.art.proofs.Walks.{store_shows}
use Rattle.art.proofs.Refs.{at_kid, at_none, prune_swap, spot_kid, spot_swap, cut_refs, count_refs, relink_none}
use Rattle.art.proofs.Lean.{cut_shows, lean_prune}
use Rattle.art.proofs.Reach.{short_differs, long_differs, part_differs, Reach, held_leaf, short_leaf, long_leaf, part_leaf, same_run, short_run, part_run, no_kid, a_kid, seek_reaches}
use Rattle.art.proofs.InsertPoints.{stays, relink_up_none}

-- ── eight bytes of a joined prefix need only eight of each part ──
take_left : (n : ℕ) (s t : Tag) → take n (take n s ++ t) ≡ take n (s ++ t)
take_left zero s t = refl
take_left (suc n) [] t = refl
take_left (suc n) (x ∷ s) t = ap (λ (l : Tag). x ∷ l) (take_left n s t)

take_right : (n m : ℕ) (s t : Tag) → n ≤ m → take n (s ++ take m t) ≡ take n (s ++ t)
take_right n m [] t h = take-take n m t h
take_right zero m (x ∷ s) t h = refl
take_right (suc n) m (x ∷ s) t h = ap (λ (l : Tag). x ∷ l) (take_right n m s t (omega arith))

no_loss : (b : Bool) (u rest : Tag) → u ≢ rest → ite {C = Bool} (tag_dec u rest) b false ≡ true → ⊥
no_loss b u rest ne l = false_true (sym (if_neg (tag_dec u rest) ne b false) ∙ l)

module _ {A : Type 0} where
  merge_cell : (run : Tag) (b : ℕ) (run' : Tag) (rs : Refs)
      → merge {A = A} (length run) (take 8 run) b (inner_cell (length run') (take 8 run') rs) ≡ inner_cell (length (run ++ b ∷ [] ++ run')) (take 8 (run ++ b ∷ [] ++ run')) rs
  merge_cell run b run' rs =
      ap₂ (λ (l : ℕ) (st : List ℕ). inner_cell l st rs)
      (omega (arith, length-append (run ++ b ∷ []) run', length-append run (b ∷ [])))
      (take_left 8 run (b ∷ take 8 run') ∙ ap (take 8) (sym (append_assoc run (b ∷ []) (take 8 run'))) ∙ take_right 8 8 (run ++ b ∷ []) run' (omega arith))

  -- ── a record that has lost a child ──
  settle_is : (σ : Store A) (hm : Home) (k n : ℕ) (run p : Tag) (r : Row A) → ShowsRow r (p ++ run) σ → settle_refs σ hm k n (length run) (take 8 run) (refs r) ≡ lean_settle hm k n run p r
  settle_is σ hm k n run p end h = refl
  settle_is σ hm k n run p (child b (leaf m s a) end) h = refl
  settle_is σ hm k n run p (child b (inner k' n' run' r) end) h = ap (λ (c : Cell A). (inner_place k n, unused) ∷ (inner_place k' n', c) ∷ []) (ap (merge (length run) (take 8 run) b) h.0.0 ∙ merge_cell run b run' (refs r))
  settle_is σ hm k n run p (child b t (child c u r)) h =
      ap (λ (l : ℕ). (inner_place k n, unused) ∷ (new_home hm k n (suc (suc l)), inner_cell (length run) (take 8 run) (refs (child b t (child c u r)))) ∷ []) (count_refs r)

  settle_root : (hm : Home) (k n : ℕ) (run : Tag) (r : Row A) → settle_place hm k n (refs r) ≡ root (settle hm k n run r)
  settle_root hm k n run end = refl
  settle_root hm k n run (child b (leaf m s a) end) = refl
  settle_root hm k n run (child b (inner k' n' run' r) end) = refl
  settle_root hm k n run (child b t (child c u r)) = ap (λ (l : ℕ). new_home hm k n (suc (suc l))) (count_refs r)

  -- ── at the child for a byte ──
  -- whether the child for a byte is lost whole, said of the child itself
  pub lost_kid : (f : A → Option A) (r : Row A) (x : ℕ) (u : Tag) → lost_row f r x u ≡ at_kid false (λ c t. lost f t u) x r
  lost_kid f end x u = refl
  lost_kid f (child c t r) x u = ap (ite (ℕ_discrete x c) (lost f t u)) (lost_kid f r x u)

  -- the writes to a row are those to the child for the byte
  pub drops_kid : (f : A → Option A) (hm : Home) (r : Row A) (q : Tag) (x : ℕ) (u : Tag) → lean_drops_row r f hm q x u ≡ at_kid [] (λ c t. lean_drops t f hm (q ++ c ∷ []) u) x r
  drops_kid f hm end q x u = refl
  drops_kid f hm (child c t r) q x u = ap (ite (ℕ_discrete x c) (lean_drops t f hm (q ++ c ∷ []) u)) (drops_kid f hm r q x u)

  -- the place of the child for a byte in a pruned row is that of the pruned child
  pub prune_spot : (f : A → Option A) (hm : Home) (r : Row A) (x : ℕ) (u : Tag) → spot x (prune_row r f hm x u) ≡ at_kid (leaf_place 0) (λ c t. root (prune t f hm u)) x r
  prune_spot f hm r x u = ap (spot x) (prune_swap r f hm x u) ∙ spot_swap (λ t. prune t f hm u) x r

  -- a leaf keeps its place when what it holds changes
  pub re_leaf_root : {P : Type 0} (n : ℕ) (rest : Tag) (a : A) (o : Option A) (d : Dec P) → root (ite d (re_leaf n rest a o) (leaf n rest a)) ≡ leaf_place n
  re_leaf_root n rest a none (yes e) = refl
  re_leaf_root n rest a (some b) (yes e) = refl
  re_leaf_root n rest a o (no e) = refl

  -- a tree that is lost whole is the leaf that holds the tag
  lost_held : {σ : Store A} {t : Tree A} {p u : Tag} {upper up : Up} {pt : Point} (f : A → Option A) → Reach σ t p u upper up pt → lost f t u ≡ true → (m : ℕ) × (pt ≡ holds upper up m) × (root t ≡ leaf_place m)
  lost_held f (held_leaf {n} e em h) l = (n, refl, refl)
  lost_held f (short_leaf {n} {rest} {v} {p} {u} y w e em) l = absurd (no_loss (is_none (f v)) u rest (short_differs u rest y w e) l)
  lost_held f (long_leaf {n} {rest} {v} {p} {u} x w e em) l = absurd (no_loss (is_none (f v)) u rest (long_differs u rest x w e) l)
  lost_held f (part_leaf {n} {rest} {v} {p} {u} c x i y j e e' ne em h) l = absurd (no_loss (is_none (f v)) u rest (part_differs u rest c x i y j e e' ne) l)
  lost_held f (same_run e em) l = false_true l
  lost_held f (short_run y w e em) l = false_true l
  lost_held f (part_run c x i y j e e' ne em h w z ew) l = false_true l
  lost_held f (no_kid x w e em nh eh h) l = false_true l
  lost_held f (a_kid x w e em i eh h hr kid k) l = false_true l

  -- ── delete ──
  abbrev out : A → Option A
  out a = none

  module _ (σ : Store A) (hm : Home) where
    abbrev inner_drops : (p u : Tag) (k n : ℕ) (run : Tag) (r : Row A) (up : Up) → Meet u run → Edits A
    inner_drops p u k n run r up m =
        lean_drops_inner out hm p u k n run r m (λ x v. prune_row r out hm x v) (λ x v. lean_drops_row r out hm (p ++ run) x v)
        ++ relink_up σ up (inner_place k n) (root (prune_inner out hm u k n run r m (λ x v. prune_row r out hm x v)))

    abbrev kid_drops : (p : Tag) (k n : ℕ) (run : Tag) (r : Row A) (up : Up) (x : ℕ) (w : Tag) → Bool → Edits A
    kid_drops p k n run r up x w b =
        lean_drops_child hm p k n run r x b (prune_row r out hm x w) (lean_drops_row r out hm (p ++ run) x w)
        ++ relink_up σ up (inner_place k n) (root (prune_child hm k n run r x b (prune_row r out hm x w)))

    -- a leaf that does not hold the tag
    leaf_stays : (n : ℕ) (rest : Tag) (v : A) (p u : Tag) (up : Up) → lost out (leaf n rest v) u ≡ false → lean_drops (leaf n rest v) out hm p u ++ relink_up σ up (leaf_place n) (root (prune (leaf n rest v) out hm u)) ≡ []
    leaf_stays n rest v p u up l = go (tag_dec u rest) l
      where
        go : (d : Dec (u ≡ rest)) → ite {C = Bool} d true false ≡ false → ite {C = Edits A} d [] [] ++ relink_up σ up (leaf_place n) (root (ite d (leaf n rest v) (leaf n rest v))) ≡ []
        go (yes e) i = false_true (sym i)
        go (no e) i = relink_up_none σ up (leaf_place n)

    reach_drops : {t : Tree A} {p u : Tag} {upper up : Up} {pt : Point} → Reach σ t p u upper up pt → lost out t u ≡ false
        → delete_at σ hm pt ≡ lean_drops t out hm p u ++ relink_up σ up (root t) (root (prune t out hm u))
    reach_drops (held_leaf {n} {rest} {v} {p} {u} {upper} {up} e em h) l = false_true (sym l ∙ if_pos (tag_dec u rest) e true false)
    reach_drops (short_leaf {n} {rest} {v} {p} {u} {upper} {up} y w e em) l = sym (leaf_stays n rest v p u up l)
    reach_drops (long_leaf {n} {rest} {v} {p} {u} {upper} {up} x w e em) l = sym (leaf_stays n rest v p u up l)
    reach_drops (part_leaf {n} {rest} {v} {p} {u} {upper} {up} c x i y j e e' ne em h) l = sym (leaf_stays n rest v p u up l)
    reach_drops (same_run {k} {n} {run} {r} {p} {u} {upper} {up} e em) l = sym (ap (inner_drops p u k n run r up) em ∙ relink_up_none σ up (inner_place k n))
    reach_drops (short_run {k} {n} {run} {r} {p} {u} {upper} {up} y w e em) l = sym (ap (inner_drops p u k n run r up) em ∙ relink_up_none σ up (inner_place k n))
    reach_drops (part_run {k} {n} {run} {r} {p} {u} {upper} {up} c x i y j e e' ne em h w z ew) l = sym (ap (inner_drops p u k n run r up) em ∙ relink_up_none σ up (inner_place k n))
    reach_drops (no_kid {k} {n} {run} {r} {p} {u} {upper} {up} x w e em nh eh h) l =
        let here : Place = inner_place k n in
        let old : Cell A = inner_cell (length run) (take 8 run) (refs r) in
        let no_loss : lost_row out r x w ≡ false = lost_kid out r x w ∙ at_none false (λ c t. lost out t w) x r nh in
        let none_written : lean_drops_row r out hm (p ++ run) x w ≡ [] = drops_kid out hm r (p ++ run) x w ∙ at_none [] (λ c t. lean_drops t out hm (p ++ run ++ c ∷ []) w) x r nh in
        let was : spot x r ≡ leaf_place 0 = spot_kid x r ∙ at_none (leaf_place 0) (λ c t. root t) x r nh in
        let is : spot x (prune_row r out hm x w) ≡ leaf_place 0 = prune_spot out hm r x w ∙ at_none (leaf_place 0) (λ c t. root (prune t out hm w)) x r nh in
        sym (ap (inner_drops p u k n run r up) em ∙ ap (kid_drops p k n run r up x w) no_loss
        ∙ ap₂ (λ (a b : Edits A). (a ++ relink here old x (spot x r) (spot x (prune_row r out hm x w))) ++ b) none_written (relink_up_none σ up here)
        ∙ ap₂ (λ (y z : Place). relink here old x y z ++ []) was is
        ∙ append-nil _ ∙ relink_none here old x (leaf_place 0))
    reach_drops (a_kid {k} {n} {run} {r} {p} {u} {upper} {up} {pt} x w e em i eh h hr kid b) l = go (lost out kid.tree w) refl (λ q. reach_drops b q)
      where
        here : Place
        here = inner_place k n

        old : Cell A
        old = inner_cell (length run) (take 8 run) (refs r)

        loss : lost_row out r x w ≡ lost out kid.tree w
        loss = lost_kid out r x w ∙ kid.picks Bool false (λ c t. lost out t w)

        was : spot x r ≡ root kid.tree
        was = spot_kid x r ∙ kid.picks Place (leaf_place 0) (λ c t. root t)

        whole : (q : Bool) → lost out kid.tree w ≡ q → inner_drops p u k n run r up (meet u run) ≡ kid_drops p k n run r up x w q
        whole q j = ap (inner_drops p u k n run r up) em ∙ ap (kid_drops p k n run r up x w) (loss ∙ j)

        go : (q : Bool) → lost out kid.tree w ≡ q
            → (lost out kid.tree w ≡ false → delete_at σ hm pt ≡ lean_drops kid.tree out hm (p ++ run ++ x ∷ []) w ++ relink_up σ (via k n x) (root kid.tree) (root (prune kid.tree out hm w)))
            → delete_at σ hm pt ≡ inner_drops p u k n run r up (meet u run)
        go true j ih =
            let m = lost_held out b j in
            let gone : spot x r ≡ leaf_place m.0 = was ∙ m.2 in
            let left : cut_ref x (cell_refs (σ here)) ≡ refs (cut_row x r) = ap (λ (c : Cell A). cut_ref x (cell_refs c)) h ∙ sym (cut_refs x r) in
            let settles : settle_cell σ hm k n x (σ here) ≡ lean_settle hm k n run p (cut_row x r) =
            ap (settle_cell σ hm k n x) h ∙ ap (settle_refs σ hm k n (length run) (take 8 run)) (sym (cut_refs x r)) ∙ settle_is σ hm k n run p (cut_row x r) (cut_shows x r (p ++ run) σ hr) in
            let at : settled σ hm k n x ≡ root (settle hm k n run (cut_row x r)) = ap (settle_place hm k n) left ∙ settle_root hm k n run (cut_row x r) in
            ap (delete_at σ hm) m.1
            ∙ ap₂ (λ (es : Edits A) (y : Place). (leaf_place m.0, unused) ∷ (es ++ relink_up σ up here y)) settles at
            ∙ ap (λ (y : Place). (y, unused) ∷ (lean_settle hm k n run p (cut_row x r) ++ relink_up σ up here (root (settle hm k n run (cut_row x r))))) (sym gone)
            ∙ sym (whole true j)
        go false j ih =
            let writes : lean_drops_row r out hm (p ++ run) x w ≡ lean_drops kid.tree out hm (p ++ run ++ x ∷ []) w = drops_kid out hm r (p ++ run) x w ∙ kid.picks (Edits A) [] (λ c t. lean_drops t out hm (p ++ run ++ c ∷ []) w) in
            let is : spot x (prune_row r out hm x w) ≡ root (prune kid.tree out hm w) = prune_spot out hm r x w ∙ kid.picks Place (leaf_place 0) (λ c t. root (prune t out hm w)) in
            ih j
            ∙ ap₂ (λ (es : Edits A) (c : Cell A). es ++ relink here c x (root kid.tree) (root (prune kid.tree out hm w))) (sym writes) h
            ∙ ap₂ (λ (y z : Place). lean_drops_row r out hm (p ++ run) x w ++ relink here old x y z) (sym was) (sym is)
            ∙ sym (append-nil _)
            ∙ sym (whole false j ∙ ap (λ (es : Edits A). (lean_drops_row r out hm (p ++ run) x w ++ relink here old x (spot x r) (spot x (prune_row r out hm x w))) ++ es) (relink_up_none σ up here))

    -- the root afterwards, where y is the root of the whole, by how the tag meets a run
    abbrev inner_left : (y : Place) (u : Tag) (k n : ℕ) (run : Tag) (r : Row A) (up : Up) → Meet u run → Option Place
    inner_left y u k n run r up m = some (new_root up y (root (prune_inner out hm u k n run r m (λ x v. prune_row r out hm x v))))

    abbrev kid_left : (y : Place) (k n : ℕ) (run : Tag) (r : Row A) (up : Up) (x : ℕ) (w : Tag) → Bool → Option Place
    kid_left y k n run r up x w b = some (new_root up y (root (prune_child hm k n run r x b (prune_row r out hm x w))))

    leaf_left : (y : Place) (u : Tag) (n : ℕ) (rest : Tag) (v : A) (up : Up) → (up ≡ top → y ≡ leaf_place n) → some y ≡ some (new_root up y (root (prune (leaf n rest v) out hm u)))
    leaf_left y u n rest v up i = ap some (stays up y (leaf_place n) i ∙ ap (new_root up y) (sym (re_leaf_root n rest v none (tag_dec u rest))))

    reach_drops_root : {t : Tree A} {p u : Tag} {upper up : Up} {pt : Point} → Reach σ t p u upper up pt → lost out t u ≡ false → (y : Place) → (up ≡ top → y ≡ root t)
        → delete_root σ hm pt y ≡ some (new_root up y (root (prune t out hm u)))
    reach_drops_root (held_leaf {n} {rest} {v} {p} {u} {upper} {up} e em h) l y i = false_true (sym l ∙ if_pos (tag_dec u rest) e true false)
    reach_drops_root (short_leaf {n} {rest} {v} {p} {u} {upper} {up} z w e em) l y i = leaf_left y u n rest v up i
    reach_drops_root (long_leaf {n} {rest} {v} {p} {u} {upper} {up} x w e em) l y i = leaf_left y u n rest v up i
    reach_drops_root (part_leaf {n} {rest} {v} {p} {u} {upper} {up} c x b z j e e' ne em h) l y i = leaf_left y u n rest v up i
    reach_drops_root (same_run {k} {n} {run} {r} {p} {u} {upper} {up} e em) l y i = ap some (stays up y _ i) ∙ sym (ap (inner_left y u k n run r up) em)
    reach_drops_root (short_run {k} {n} {run} {r} {p} {u} {upper} {up} z w e em) l y i = ap some (stays up y _ i) ∙ sym (ap (inner_left y u k n run r up) em)
    reach_drops_root (part_run {k} {n} {run} {r} {p} {u} {upper} {up} c x b z j e e' ne em h w q ew) l y i =
        ap some (stays up y _ i) ∙ sym (ap (inner_left y u k n run r up) em)
    reach_drops_root (no_kid {k} {n} {run} {r} {p} {u} {upper} {up} x w e em nh eh h) l y i =
        let no_loss : lost_row out r x w ≡ false = lost_kid out r x w ∙ at_none false (λ c t. lost out t w) x r nh in
        ap some (stays up y _ i)
        ∙ sym (ap (inner_left y u k n run r up) em ∙ ap (kid_left y k n run r up x w) no_loss)
    reach_drops_root (a_kid {k} {n} {run} {r} {p} {u} {upper} {up} {pt} x w e em j eh h hr kid b) l y i = go (lost out kid.tree w) refl (λ q c. reach_drops_root b q y c)
      where
        loss : lost_row out r x w ≡ lost out kid.tree w
        loss = lost_kid out r x w ∙ kid.picks Bool false (λ c t. lost out t w)

        whole : (q : Bool) → lost out kid.tree w ≡ q → inner_left y u k n run r up (meet u run) ≡ kid_left y k n run r up x w q
        whole q a = ap (inner_left y u k n run r up) em ∙ ap (kid_left y k n run r up x w) (loss ∙ a)

        go : (q : Bool) → lost out kid.tree w ≡ q → (lost out kid.tree w ≡ false → (via k n x ≡ top → y ≡ root kid.tree) → delete_root σ hm pt y ≡ some y)
            → delete_root σ hm pt y ≡ inner_left y u k n run r up (meet u run)
        go true a ih =
            let m = lost_held out b a in
            let left : cut_ref x (cell_refs (σ (inner_place k n))) ≡ refs (cut_row x r) = ap (λ (c : Cell A). cut_ref x (cell_refs c)) h ∙ sym (cut_refs x r) in
            ap (λ (q : Point). delete_root σ hm q y) m.1 ∙ ap (λ (z : Place). some (new_root up y z)) (ap (settle_place hm k n) left ∙ settle_root hm k n run (cut_row x r)) ∙ sym (whole true a)
        go false a ih = ih a (λ q. let z : ◌≡◌ {A = ℕ} 0 1 = cc in absurd (omega arith)) ∙ ap some (stays up y _ i) ∙ sym (whole false a)

  -- a lost tree is one leaf, and its store one cell
  lost_store : (f : A → Option A) (t : Tree A) (s : Tag) → lost f t s ≡ true → write (store t []) (root t) unused ≡ empty
  lost_store f (leaf n rest v) s l = write_write empty (leaf_place n) (leaf_cell rest v) unused ∙ write_id empty (leaf_place n) unused refl
  lost_store f (inner k n run r) s l = false_true l

  -- the writes of a delete at the point of a tag make the store of the tree without it: none at all where it is not held, and the empty store where it was the only one
  pub delete_makes : (f : ℕ) (t : Tree A) → Good t → Once t [] → height t < f → (hm : Home) → Roomy hm (store t []) → (s : Tag)
      → apply (store t []) (delete_at (store t []) hm (point f (store t []) (root t) s)) ≡ store_of (change t (λ a. none) hm s)
  delete_makes f t g o l hm w s = go (lost out t s) refl
    where
      σ : Store A
      σ = store t []

      way : Reach σ t [] s top top (point f σ (root t) s)
      way = seek_reaches f f σ t g [] s s refl (store_shows t [] o) l l top top

      go : (b : Bool) → lost out t s ≡ b → apply σ (delete_at σ hm (point f σ (root t) s)) ≡ store_of (drop_whole b (prune t out hm s))
      go true i = let m = lost_held out way i in ap (λ (q : Point). apply σ (delete_at σ hm q)) m.1 ∙ ap (λ (y : Place). write σ y unused) (sym m.2) ∙ lost_store out t s i
      go false i = ap (apply σ) (reach_drops σ hm way i ∙ append-nil (lean_drops t out hm [] s)) ∙ lean_prune t out hm [] s o w

  -- and the root that the point says is the root of that tree
  pub delete_moves : (f : ℕ) (σ : Store A) (t : Tree A) → Good t → Shows t [] σ → height t < f → (hm : Home) (s : Tag) → delete_root σ hm (point f σ (root t) s) (root t) ≡ root_of (change t (λ a. none) hm s)
  delete_moves f σ t g h l hm s = go (lost out t s) refl
    where
      way : Reach σ t [] s top top (point f σ (root t) s)
      way = seek_reaches f f σ t g [] s s refl h l l top top

      go : (b : Bool) → lost out t s ≡ b → delete_root σ hm (point f σ (root t) s) (root t) ≡ root_of (drop_whole b (prune t out hm s))
      go true i = let m = lost_held out way i in ap (λ (q : Point). delete_root σ hm q (root t)) m.1
      go false i = reach_drops_root σ hm way i (root t) (λ j. refl)
