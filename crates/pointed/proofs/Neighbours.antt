-- Each leaf of a tree that a block shows is in use and holds its own number, so what comes first or last in a part of the leaf list is a leaf in use, or an end of the list.
use Prim.Native.Nat.{ℕ}
use mathlib.Core.Path.{refl, sym, subst}
use mathlib.Core.Logic.{inl, inr}
use mathlib.Core.List.{List, [], ◌∷◌}
use mathlib.Core.Option.{Option, none, some}
use Rattle.frames.specs.declared.frame.Frame.{Frame}
use Rattle.records.specs.View.{Held, cell_of}
use Rattle.art.specs.Trees.{Tree}
use Rattle.art.specs.Members.{In}
use Rattle.art.specs.Stores.{leaf_place, Used}
use Rattle.art.specs.Chain.{Numbered, leaf_ref, end_of, head_of, leaves_of}
use Rattle.art.proofs.Leaves.{leaf_spot, shows_numbered}
use Rattle.art.proofs.Passes.{store_on}
use Rattle.view.specs.Links.{UsedOrEnd}
use Rattle.view.proofs.Seen.{seen_leaf}
use Rattle.reading.specs.Shown.{Shown}
use Rattle.reading.proofs.Entries.{tree_shows}

-- the number that is held
abbrev pub number_of : Held → ℕ
number_of h = h.number

pub numbered : {f : Frame} {words keys : List ℕ} {t : Tree Held} → Shown f words keys (some t) → Numbered number_of t
numbered {f} {words} {keys} {t} s = shows_numbered number_of (cell_of f words keys) (λ m v h e. (seen_leaf f words keys m v h e).number_is) t [] (tree_shows s)

pub leaf_used : {f : Frame} {words keys : List ℕ} {d : Option (Tree Held)} → Shown f words keys d → (n : ℕ) → In n (leaves_of d) → Used (cell_of f words keys (leaf_place n))
leaf_used {d = none} s n i = elim i [ ]
leaf_used {d = some t} s n i = subst Used (sym (s.cells (leaf_place n))) (store_on t [] (leaf_place n) (leaf_spot t n i))

-- the ends of a list of leaves of the tree
module _ {f : Frame} {words keys : List ℕ} {d : Option (Tree Held)} (s : Shown f words keys d) where
  pub head_used : (l : List ℕ) → ((n : ℕ) → In n l → In n (leaves_of d)) → UsedOrEnd f words keys (head_of l)
  head_used [] h = inl refl
  head_used (n ∷ l) h = inr (n, refl, leaf_used s n (h n (inl refl)))

  end_used : (ref : ℕ) (l : List ℕ) → UsedOrEnd f words keys ref → ((n : ℕ) → In n l → In n (leaves_of d)) → UsedOrEnd f words keys (end_of ref l)
  end_used ref [] u h = u
  end_used ref (n ∷ l) u h = end_used (leaf_ref n) l (inr (n, refl, leaf_used s n (h n (inl refl)))) (λ m i. h m (inr i))

  pub last_used : (l : List ℕ) → ((n : ℕ) → In n l → In n (leaves_of d)) → UsedOrEnd f words keys (end_of 0 l)
  last_used l h = end_used 0 l (inl refl) h
