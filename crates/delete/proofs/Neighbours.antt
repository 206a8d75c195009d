-- The neighbours of a held tag's leaf in the leaf list are leaves in use, or the ends of the list.
use Prim.Native.Nat.{ℕ}
use mathlib.Core.Path.{◌≡◌, sym, subst}
use mathlib.Core.Logic.{inr}
use mathlib.Core.List.{List, ◌∷◌}
use mathlib.Core.Option.{some}
use Rattle.frames.specs.declared.frame.Frame.{Frame}
use Rattle.records.specs.View.{Held}
use Rattle.art.specs.Deletes.{stay}
use Rattle.art.specs.Tags.{Tag}
use Rattle.art.specs.Trees.{Tree, contents}
use Rattle.art.specs.Listings.{lookup}
use Rattle.art.specs.Members.{In}
use Rattle.art.specs.Chain.{Linked}
use Rattle.art.proofs.Members.{in_left, in_right}
use Rattle.art.proofs.Chains.{linked_here}
use Rattle.art.proofs.Leaves.{cut_leaves}
use Rattle.view.specs.Links.{UsedOrEnd, links_of}
use Rattle.reading.specs.Shown.{Shown}
use Rattle.pointed.proofs.Neighbours.{number_of, numbered, head_used, last_used}

pub ends_used : {f : Frame} {words keys : List ℕ} {t : Tree Held} → Shown f words keys (some t) → (tag : Tag) (a : Held) → lookup tag (contents t) ≡ some a
    → UsedOrEnd f words keys ((links_of f words).prev a.number) × UsedOrEnd f words keys ((links_of f words).next a.number)
ends_used {f} {words} {keys} {t} s tag a e =
    let parts = cut_leaves number_of t s.good (numbered s) stay tag a e in
    let here = linked_here (links_of f words) parts.0 a.number parts.1 (subst (Linked (links_of f words) 0) parts.2 s.linked) in (
      subst (UsedOrEnd f words keys) (sym here.0) (last_used s parts.0 (λ n i. subst (In n) (sym parts.2) (in_left n parts.0 (a.number ∷ parts.1) i))),
      subst (UsedOrEnd f words keys) (sym here.1) (head_used s parts.1 (λ n i. subst (In n) (sym parts.2) (in_right n parts.0 (a.number ∷ parts.1) (inr i)))),
    )
