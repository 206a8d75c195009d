-- Each entry of the sorted list stands in its leaf, which obeys its rule; so no path has more inner records than a tag may have bytes.
use Prim.Native.Nat.{ℕ, ◌≤◌}
use mathlib.Core.Path.{◌≡◌, refl, sym, ap, subst, ◌∙◌, fun_ext}
use mathlib.Core.Logic.{◌⊎◌, inl, inr}
use mathlib.Core.List.{List, [], ◌∷◌, ◌++◌, append_assoc}
use mathlib.Core.Bool.{true}
use mathlib.Core.Option.{Option, none, some}
use native.Mathlib.Omega.{arith}
use Rattle.std.specs.Prelude.{Err}
use Rattle.refusals.specs.declared.Refusal.TheVariants.{Missing}
use Rattle.tree.specs.Answer.{Found}
use lib.ListN.{length}
use Rattle.frames.specs.Frame.{FrameOf, root_word}
use Rattle.frames.specs.Place.{place_at}
use Rattle.frames.specs.declared.frame.Frame.{Frame}
use Rattle.frames.proofs.Places.{inner_kind}
use Rattle.records.specs.View.{Held, cell_of, rule_at}
use Rattle.tree.specs.Arrive.{from_root}
use Rattle.tree.proofs.Arrivals.{root_none, root_walk}
use Rattle.art.specs.Tags.{Tag, Listing}
use Rattle.art.specs.Listings.{Sorted, under}
use Rattle.art.specs.Trees.{Tree, leaf, inner, Row, end, child, contents, row_contents}
use Rattle.art.specs.Drawings.{longest}
use Rattle.art.specs.Facts.{height}
use Rattle.art.specs.Deletes.{held}
use Rattle.art.specs.Members.{In}
use Rattle.art.specs.Chain.{Numbered, NumberedRow, numbers, leaves_of}
use Rattle.art.specs.Stores.{Place, leaf_place, inner_place, leaf_cell, Store, Used, root}
use Rattle.art.specs.Walks.{Shows, ShowsRow}
use Rattle.art.proofs.Members.{in_append}
use Rattle.art.proofs.Trees.{sorted}
use Rattle.art.proofs.Facts.{height_bound}
use Rattle.art.proofs.Walks.{store_shows}
use Rattle.art.proofs.Leaves.{shows_numbered, numbers_are}
use Rattle.view.specs.Seen.{LeafShows, LeafObeys}
use Rattle.view.proofs.Views.{used_place, cell_used}
use Rattle.view.proofs.Seen.{seen_leaf, leaf_obeys}
use Rattle.reading.specs.Shown.{Shown}

-- ── a store that shows a tree has each entry of its listing in a leaf ──
module _ {A : Type 0} where
  in_under : (p : Tag) (l : Listing A) (e : Tag × A) → In e (under p l) → (x : Tag × A) × (e ≡ (p ++ x.0, x.1)) × In x l
  in_under p [] e x' = elim x' [ ]
  in_under p (y ∷ l) e (inl i) = (y, i, inl refl)
  in_under p (y ∷ l) e (inr i) = let u = in_under p l e i in (u.0, u.1, inr u.2)

  pub shown_root : (σ : Store A) (p : Tag) (t : Tree A) → Shows t p σ → Used (σ (root t))
  shown_root σ p (leaf n s a) h = rw h tt
  shown_root σ p (inner k n run r) h = rw h.0 tt

  module _ (number : A → ℕ) (σ : Store A) where
    -- the entry, below the path p, is in its leaf
    abbrev Stored : Tag → Tag × A → Type 0
    Stored p e = σ (leaf_place (number e.1)) ≡ leaf_cell (p ++ e.0) e.1

    -- an entry that is one below q, with q after the path
    stored_under : (p q : Tag) (e x : Tag × A) → e ≡ (q ++ x.0, x.1) → Stored (p ++ q) x → Stored p e
    stored_under p q e x i h = subst (Stored p) (sym i) (h ∙ ap (λ (s : Tag). leaf_cell s x.1) (append_assoc p q x.0))

    stored_child : (b : ℕ) (t : Tree A) (r : Row A) (q : Tag) (e : Tag × A) → ((x : Tag × A) → In x (contents t) → Stored (q ++ b ∷ []) x)
        → (In e (row_contents r) → Stored q e) → In e (under (b ∷ []) (contents t)) ⊎ In e (row_contents r) → Stored q e
    stored_child b t r q e f g (inl i) = let u = in_under (b ∷ []) (contents t) e i in stored_under q (b ∷ []) e u.0 u.1 (f u.0 u.2)
    stored_child b t r q e f g (inr i) = g i

    mutual
      stored_entry : (t : Tree A) (p : Tag) → Numbered number t → Shows t p σ → (e : Tag × A) → In e (contents t) → Stored p e
      stored_entry (leaf n s a) p m h e (inr x7) = elim x7 [ ]
      stored_entry (leaf n s a) p m h e (inl i) = subst (Stored p) (sym i) (ap (λ (n : ℕ). σ (leaf_place n)) m ∙ h)
      stored_entry (inner k n run r) p m h e i =
          let u = in_under run (row_contents r) e i in
          stored_under p run e u.0 u.1 (stored_row r (p ++ run) m h.1 u.0 u.2)

      stored_row : (r : Row A) (q : Tag) → NumberedRow number r → ShowsRow r q σ → (e : Tag × A) → In e (row_contents r) → Stored q e
      stored_row end q m h e i = elim i [ ]
      stored_row (child b t r) q m h e i =
          stored_child b t r q e (λ x j. stored_entry t (q ++ b ∷ []) m.0 h.0 x j) (λ j. stored_row r q m.1 h.1 e j)
          (in_append e (under (b ∷ []) (contents t)) (row_contents r) i)

  longest_in : (n : ℕ) (l : Listing A) → ((e : Tag × A) → In e l → length e.0 ≤ n) → longest l ≤ n
  longest_in n [] h = omega arith
  longest_in n (e ∷ l) h = omega (arith, h e (inl refl), longest_in n l (λ x i. h x (inr i)))

-- ── a block that shows a directory ──
-- reference 0 names no used place
pub zero_unused : {f : Frame} {words keys : List ℕ} → FrameOf f words keys → Used (cell_of f words keys (place_at 0)) → ⊥
zero_unused {f} {words} {keys} w u =
    let k = inner_kind w 0 0 (used_place f words keys (inner_place 0 0) u).0 in
    omega (arith, k.0)

pub tree_shows : {f : Frame} {words keys : List ℕ} {t : Tree Held} → Shown f words keys (some t) → Shows t [] (cell_of f words keys)
tree_shows {f} {words} {keys} {t} s = subst (λ (σ : Store Held). Shows t [] σ) (sym (fun_ext s.cells)) (store_shows t [] s.once)

tree_numbered : {f : Frame} {words keys : List ℕ} {t : Tree Held} → Shown f words keys (some t) → Numbered (λ h. h.number) t
tree_numbered {f} {words} {keys} {t} s =
    shows_numbered (λ h. h.number) (cell_of f words keys) (λ n tag a h. (seen_leaf f words keys n tag a h).number_is) t [] (tree_shows s)

-- the leaves in order are the numbers of the list
pub numbers_held : {f : Frame} {words keys : List ℕ} {d : Option (Tree Held)} → Shown f words keys d → numbers (λ (h : Held). h.number) (held d) ≡ leaves_of d
numbers_held {d = none} s = refl
numbers_held {d = some t} s = numbers_are (λ h. h.number) t (tree_numbered s)

-- the list is in order: each tag comes before all later ones, and begins none of them
pub held_sorted : {f : Frame} {words keys : List ℕ} {d : Option (Tree Held)} → Shown f words keys d → Sorted (held d)
held_sorted {d = none} s = tt
held_sorted {d = some t} s = sorted t s.good

-- the leaf of an entry holds its tag, its number and its total
pub entry_seen : {f : Frame} {words keys : List ℕ} {d : Option (Tree Held)} → Shown f words keys d → (e : Tag × Held) → In e (held d)
    → LeafShows f words keys e.1.number e.0 e.1
entry_seen {d = none} s e i = elim i [ ]
entry_seen {f} {words} {keys} {d = some t} s e i =
    seen_leaf f words keys e.1.number e.0 e.1 (stored_entry (λ h. h.number) (cell_of f words keys) t [] (tree_numbered s) (tree_shows s) e i)

-- and obeys its rule
pub entry_rule : {f : Frame} {words keys : List ℕ} {d : Option (Tree Held)} (s : Shown f words keys d) (e : Tag × Held) → In e (held d)
    → rule_at f words keys (leaf_place e.1.number) ≡ true
entry_rule {f} {words} {keys} s e i =
    let l = entry_seen s e i in
    s.rules (leaf_place e.1.number) (cell_used f words keys (leaf_place e.1.number) l.pool l.used)

pub entry_obeys : {f : Frame} {words keys : List ℕ} {d : Option (Tree Held)} (s : Shown f words keys d) (e : Tag × Held) → In e (held d)
    → LeafObeys f words keys e.1.number e.0
entry_obeys s e i = leaf_obeys s.frame (entry_seen s e i) (entry_rule s e i)

-- no tag is longer than the form allows, and so no path has more inner records
pub tags_short : {f : Frame} {words keys : List ℕ} {t : Tree Held} → Shown f words keys (some t) → longest (contents t) ≤ f.form.limit
tags_short {f} {words} {keys} {t} s = longest_in f.form.limit (contents t) (λ e i. (entry_obeys s e i).short)

pub few_inner : {f : Frame} {words keys : List ℕ} {t : Tree Held} → Shown f words keys (some t) → height t ≤ f.form.limit
few_inner {f} {words} {keys} {t} s = omega (arith, height_bound t s.good, tags_short s)

-- the trailer's root is not 0 where there is a tree, so a call that begins there walks; and answers that there is no tag where there is none
pub root_some : {f : Frame} {words keys : List ℕ} {t : Tree Held} → Shown f words keys (some t) → (walked : Frame → Found) → from_root words keys walked ≡ walked f
root_some {f} {words} {keys} {t} s walked =
    let used = shown_root (cell_of f words keys) [] t (tree_shows s) in
    sym (root_walk words keys walked s.frame (root_word words) refl
    (λ z. zero_unused s.frame (subst (λ (x : Place). Used (cell_of f words keys x)) (sym s.rooted ∙ ap place_at z) used)))

pub root_empty : {f : Frame} {words keys : List ℕ} → Shown f words keys none → (walked : Frame → Found) → from_root words keys walked ≡ Err Missing
root_empty {f} {words} {keys} s walked = sym (root_none words keys walked s.frame (root_word words) refl s.rooted)
