-- Every case of a walk is met on a small block, most of them damaged, and the call gives the case's number.
use Prim.Native.Nat.{ℕ, zero, suc, ◌+◌}
use mathlib.Core.Path.{◌≡◌, refl, subst}
use mathlib.Core.List.{List, [], ◌∷◌}
use mathlib.Core.Bool.{true}
use native.Mathlib.Omega.{arith}
use Rattle.prefix.specs.declared.lookup.PrefixMatchBehavior.TheVariants.{Pessimistic}
use Rattle.frames.specs.Frame.{frame}
use Rattle.art.specs.Tags.{Tag}
use Rattle.art.specs.Stores.{Place, leaf_place, inner_place}
use Rattle.tree.specs.declared.minmax.Edge.{Edge}
use Rattle.tree.specs.declared.minmax.Edge.TheVariants.{Low}
use Rattle.pointed.proofs.Points.{tag_bytes}
use Rattle.demands.specs.Calls.{query, search, prefix_search, minimum, maximum}
use Rattle.demands.specs.Histories.{Block}
use Rattle.demands.specs.Due as due
use Rattle.demands.specs.Way as way
use Rattle.demands.specs.Way.{stands, Comes, Descends}
use Rattle.instances.specs.Opened.{opened}
use Rattle.instances.specs.Blocks.{bare, two, overlong, afar, ring, long, lend, A, B, C, AB}
use Rattle.instances.specs.Lines.{Line, line, Dues, Given, Byted, ◌then◌}
use Rattle.instances.proofs.Numbers.{dues_given}

-- on a block: where a walk comes to, and a record that stands
abbrev Coming : Block → Tag → (left : ℕ) → Place → (depth : ℕ) → Type 0
Coming b t left x depth = Comes (frame b.words) b.words b.keys t left x depth Pessimistic

abbrev Descending : Block → Edge → (left : ℕ) → Place → Type 0
Descending b edge left x = Descends (frame b.words) b.words b.keys edge left x

abbrev Standing : Block → Place → Type 0
Standing b x = stands (frame b.words) b.words b.keys x ≡ true

abbrev top : Place
top = inner_place 1 0

top_stands : Standing two top
unfolding opened
top_stands = refl

first_stands : Standing two (leaf_place 0)
unfolding opened
first_stands = refl

-- ── one record and its two leaves ──
to_top : (t : Tag) → Coming two t 64 top 0
unfolding opened
to_top t = way.at_root (λ e. omega arith)

past_first : Coming two AB 63 (leaf_place 0) 1
unfolding opened
past_first = way.down (to_top AB) top_stands refl (λ e. omega arith)

-- ── damage: a leaf that is too long by its word 1, a root that no pool has, a record that is its own child ──
overlong_top : Standing overlong top
unfolding opened
overlong_top = refl

to_overlong : Coming overlong A 63 (leaf_place 0) 1
unfolding opened
to_overlong = way.down {left = 63} {n = 0} (way.at_root (λ e. omega arith)) overlong_top refl (λ e. omega arith)

overlong_last : Standing overlong (leaf_place 1)
unfolding opened
overlong_last = refl

to_overlong_last : Coming overlong B 63 (leaf_place 1) 1
unfolding opened
to_overlong_last = way.down {left = 63} {n = 0} (way.at_root (λ e. omega arith)) overlong_top refl (λ e. omega arith)

ring_top : Standing ring top
unfolding opened
ring_top = refl

-- round and round, until no inner record is left on the path
around : (passed left : ℕ) → passed + left ≡ 64 → Descending ring Low left top
unfolding opened
around zero left e =
    let all : 64 ≡ left = omega (arith, e) in
    subst (λ (m : ℕ). Descending ring Low m top) all (way.root (λ z. omega arith))
around (suc passed) left e = way.child {left = left} {k = 1} {n = 0} (around passed (suc left) (omega (arith, e))) ring_top

-- ── a line for each case ──
abbrev walks : List Line
walks =
    line (query (search A)) (lend bare 0) 1
    ∷ line (query (search A)) (lend afar 0) 6
    ∷ line (query (search A)) (lend overlong 0) 6
    ∷ line (query (search B)) (lend overlong 0) 0
    ∷ line (query (search A)) (lend long 0) 1
    ∷ line (query (search C)) (lend two 0) 1
    ∷ line (query (search AB)) (lend two 0) 1
    ∷ line (query (prefix_search AB)) (lend two 0) 0
    ∷ line (query minimum) (lend bare 0) 1
    ∷ line (query minimum) (lend ring 0) 6
    ∷ line (query maximum) (lend ring 0) 0
    ∷ []

walks_due : Dues walks
unfolding opened
walks_due =
    due.search_walked refl (way.no_root refl)
    then due.search_walked refl (way.damage {left = 64} {depth = 0} {b = Pessimistic} (way.at_root (λ e. omega arith)) (way.fallen refl))
    then due.search_walked refl (way.damage to_overlong (way.fallen refl))
    then due.search_walked refl (way.the_leaf to_overlong_last overlong_last refl)
    then due.search_walked refl (way.off_prefix {left = 63} {k = 1} {n = 0} {depth = 0} {b = Pessimistic} (way.at_root (λ e. omega arith)) refl refl)
    then due.search_walked refl (way.no_child (to_top C) top_stands refl refl)
    then due.search_walked refl (way.other_leaf past_first first_stands refl)
    then due.prefix_walked refl (way.the_leaf past_first first_stands refl)
    then due.minimum_walked refl (way.rootless refl)
    then due.minimum_walked refl (way.broken_off (around 64 0 refl) way.none_left)
    then due.maximum_walked refl (way.a_leaf {left = 63} {n = 1} (way.child {left = 63} {k = 1} {n = 0} (way.root (λ e. omega arith)) ring_top) refl)
    then tt

byted : Byted walks
byted =
    tag_bytes A refl then tag_bytes A refl then tag_bytes A refl then tag_bytes B refl then tag_bytes A refl then tag_bytes C refl then tag_bytes AB refl then tag_bytes AB refl
    then tt then tt then tt then tt

walks_given : Given walks
walks_given = dues_given walks byted walks_due
