-- What a new tag lacks at its point is what it lacks by its tree: the way of a tag that is free to go in ends where it parts from a run or a leaf, or at a record with no child for its next byte.
use Prim.Native.Nat.{ℕ, suc, ◌≤◌}
use mathlib.Core.Path.{◌≡◌, refl, sym, ap, ◌∙◌}
use mathlib.Core.Logic.{ite, if_pos, if_neg}
use mathlib.Core.List.{[], ◌∷◌, ◌++◌, head-eq_of_cons-eq}
use mathlib.Core.Option.{Option, none, some}
use native.Mathlib.Decide.{ℕ_discrete}
use native.Mathlib.Omega.{arith}
use lib.ListN.{length, drop}
use lib.Seq.{drop-append_seam}
use Rattle.frames.specs.Kind.{children_of}
use Rattle.frames.specs.declared.frame.Frame.{Frame}
use Rattle.records.specs.View.{Held}
use Rattle.art.specs.Tags.{Tag, begins_dec}
use Rattle.art.specs.Trees.{Tree, inner, Row, end, child, count, contents, Good}
use Rattle.art.specs.Verdicts.{free, judge}
use Rattle.art.specs.Facts.{height}
use Rattle.art.specs.Stores.{Cell, Store, root, store, Once}
use Rattle.art.specs.Points as art
use Rattle.art.specs.Points.{Up, top, point, point_verdict, cell_refs}
use Rattle.art.proofs.Tags.{part_not_begins}
use Rattle.art.proofs.Walks.{store_shows}
use Rattle.art.proofs.Refs.{at_kid, at_none, count_refs}
use Rattle.art.proofs.Reach.{Reach, held_leaf, short_leaf, long_leaf, part_leaf, same_run, short_run, part_run, no_kid, a_kid, seek_reaches}
use Rattle.art.proofs.InsertPoints.{point_judges}
use Rattle.insert.specs.Room.{InnersFull, Lacks, joins, joins_row, Lacking}

-- ── the branching that a tag joins ──
joins_kid : (here : ℕ × ℕ) (r : Row Held) (x : ℕ) (u : Tag) → joins_row here r (x ∷ u) ≡ at_kid (some here) (λ c t. joins t u) x r
joins_kid here end x u = refl
joins_kid here (child c t r) x u = go (ℕ_discrete x c) (joins_kid here r x u)
  where
    go : (d : Dec (x ≡ c)) → joins_row here r (x ∷ u) ≡ at_kid (some here) (λ c t. joins t u) x r
        → ite (begins_dec (c ∷ []) (x ∷ u)) (joins t u) (joins_row here r (x ∷ u)) ≡ ite d (joins t u) (at_kid (some here) (λ c t. joins t u) x r)
    go (yes e) ih = if_pos (begins_dec (c ∷ []) (x ∷ u)) (u, ap (λ (b : ℕ). b ∷ u) e) _ _
    go (no n) ih = if_neg (begins_dec (c ∷ []) (x ∷ u)) (λ b. n (head-eq_of_cons-eq b.1)) _ _ ∙ ih

-- past its run a record is left by the next byte
joins_past : (k n : ℕ) (run : Tag) (r : Row Held) (s : Tag) (x : ℕ) (u : Tag) → s ≡ run ++ x ∷ u → joins (inner k n run r) s ≡ at_kid (some (k, count r)) (λ c t. joins t u) x r
joins_past k n run r s x u e =
    if_pos (begins_dec run s) (x ∷ u, e) _ _
    ∙ ap (joins_row (k, count r) r) (ap (drop (length run)) e ∙ drop-append_seam run (x ∷ u))
    ∙ joins_kid (k, count r) r x u

-- ── at the end of the way ──
module _ (f : Frame) (σ : Store Held) where
  -- the record that it wants, given what it joins, is not to be had
  abbrev Unmet : Option (ℕ × ℕ) → Type 0
  Unmet o = elim o [ none ↦ InnersFull f σ 1 | some b ↦ (children_of b.0 ≤ b.1) × InnersFull f σ (suc b.0) ]

  reach_lacks : {t : Tree Held} {p u : Tag} {upper up : Up} {pt : art.Point} → Reach σ t p u upper up pt → point_verdict pt ≡ some free → Lacks f σ pt ≡ Unmet (joins t u)
  reach_lacks (held_leaf e em h) v = let z : ◌≡◌ {A = ℕ} 0 1 = cc in absurd (omega arith)
  reach_lacks (short_leaf y w e em) v = let z : ◌≡◌ {A = ℕ} 0 1 = cc in absurd (omega arith)
  reach_lacks (long_leaf x w e em) v = let z : ◌≡◌ {A = ℕ} 0 1 = cc in absurd (omega arith)
  reach_lacks (part_leaf c x i y j e e' ne em h) v = refl
  reach_lacks (same_run e em) v = let z : ◌≡◌ {A = ℕ} 0 1 = cc in absurd (omega arith)
  reach_lacks (short_run y w e em) v = let z : ◌≡◌ {A = ℕ} 0 1 = cc in absurd (omega arith)
  reach_lacks (part_run {k} {n} {run} {r} {p} {u} c x i y j e e' ne em h w z ew) v = ap Unmet (sym (if_neg (begins_dec run u) (part_not_begins u run c x i y j e e' ne) _ _))
  reach_lacks (no_kid {k} {n} {run} {r} {p} {u} x w e em nh eh h) v =
      ap (λ (m : ℕ). (children_of k ≤ m) × InnersFull f σ (suc k)) (ap (λ (c : Cell Held). length (cell_refs c)) h ∙ count_refs r)
      ∙ ap Unmet (sym (joins_past k n run r u x w e ∙ at_none (some (k, count r)) (λ c t. joins t w) x r nh))
  reach_lacks (a_kid {k} {n} {run} {r} {p} {u} x w e em i eh h hr kid b) v =
      reach_lacks b v ∙ ap Unmet (sym (joins_past k n run r u x w e ∙ kid.picks (Option (ℕ × ℕ)) (some (k, count r)) (λ c t. joins t w)))

pub lacking_is : (f : Frame) (t : Tree Held) → Good t → Once t [] → (tag : Tag) → judge tag (contents t) ≡ free → Lacks f (store t []) (point (suc (height t)) (store t []) (root t) tag) ≡ Lacking f (some t) tag
lacking_is f t g o tag e =
    let σ : Store Held = store t [] in
    let shows = store_shows t [] o in
    reach_lacks f σ (seek_reaches (suc (height t)) (suc (height t)) σ t g [] tag tag refl shows (omega arith) (omega arith) top top)
    (point_judges (suc (height t)) σ t g shows (omega arith) tag ∙ ap some e)
