-- Search and prefix search: the walk from the root, on any words and key bytes.
use Rattle.std.specs.declared.ops.ControlFlow.{ControlFlow}
use Rattle.std.specs.Prelude.{ℕ, zero, suc, ◌+◌, ◌*◌, min, List, Bool, length, get_or, eqb, Err}
use Rattle.std.specs.declared.ops.ControlFlow.TheVariants.{Continue, Break}
use Rattle.refusals.specs.declared.Refusal.TheVariants.{Damaged, Missing}
use Rattle.tree.specs.Answer.{Found, leaf_found}
use Rattle.lists.specs.Scan.{choose}
use Rattle.lists.specs.Compare.{same, begins}
use Rattle.lists.specs.Part.{between}
use Rattle.prefix.specs.Match.{match_of}
use Rattle.prefix.specs.declared.lookup.PrefixMatchBehavior.{PrefixMatchBehavior}
use Rattle.prefix.specs.declared.lookup.PrefixMatchBehavior.TheVariants.{Pessimistic, Optimistic}
use Rattle.prefix.specs.declared.lookup.PrefixMatch.{PrefixMatch}
use Rattle.prefix.specs.declared.lookup.PrefixMatch.TheVariants.{On, Off}
use Rattle.frames.specs.Kind.{leaf_size}
use Rattle.frames.specs.Form.{record_words}
use Rattle.records.specs.Words.{tag_length}
use Rattle.records.specs.Own.{prefix_at, child_at}
use Rattle.frames.specs.Frame.{root_word}
use Rattle.frames.specs.Place.{place_at}
use Rattle.frames.specs.declared.form.Form.{Form}
use Rattle.frames.specs.declared.frame.Frame.{Frame}
use Rattle.tree.specs.Arrive.{arrival_at, from_root}
use Rattle.tree.specs.declared.arrive.Arrival.{Arrival}
use Rattle.tree.specs.declared.arrive.Arrival.TheVariants.{Leaf, Inner, Broken}
use Rattle.tree.specs.declared.lookup.Aim.{Aim}
use Rattle.tree.specs.declared.lookup.Aim.TheVariants.{Exact, Begin}

-- ── at a leaf ──
-- once bytes were skipped comparing begins at the first byte; before, at the depth, or where the shorter of the two ends if it ends above
abbrev pub compare_from : ℕ → ℕ → ℕ → PrefixMatchBehavior → ℕ
compare_from given len depth Optimistic = 0
compare_from given len depth Pessimistic = min depth (min given len)

-- search asks that both are the same, prefix search that the given bytes go on from the leaf's
abbrev pub fits : Aim → List ℕ → List ℕ → Bool
fits Exact given held = same given held
fits Begin given held = begins held given

-- the leaf's tag against the given one, from there on
abbrev pub leaf_fits : List ℕ → List ℕ → List ℕ → Aim → ℕ → PrefixMatchBehavior → Bool
leaf_fits rec key tag aim depth behavior =
    let from = compare_from (length tag) (tag_length rec) depth behavior in
    fits aim (between tag from (length tag)) (between key from (tag_length rec))

-- the leaf is found where it fits, else nothing is
unfoldable pub leaf_answer : List ℕ → List ℕ → List ℕ → Aim → ℕ → ℕ → PrefixMatchBehavior → Found
leaf_answer rec key tag aim n depth behavior = choose (leaf_fits rec key tag aim depth behavior) (leaf_found n rec) (Err Missing)

-- ── at an inner record ──
-- a reference to go on at, its depth, and whether bytes were skipped; or the answer
abbrev pub Step : Type 0
Step = ControlFlow Found (ℕ × ℕ × PrefixMatchBehavior)

-- on to the child at this depth; where there is none nothing is found
abbrev pub child_step : ℕ → ℕ → PrefixMatchBehavior → Step
child_step child depth behavior = choose (eqb child 0) (Break (Err Missing)) (Continue (child, depth, behavior))

-- past the prefix by the child for the next byte; where comparing leaves the prefix nothing is found
abbrev pub after_match : Form → ℕ → List ℕ → List ℕ → PrefixMatch → Step
after_match form kind rec tag (On d behavior) = child_step (child_at form kind rec (get_or tag d 0)) (d + 1) behavior
after_match form kind rec tag (Off agreed) = Break (Err Missing)

-- by what comparing its prefix gives
unfoldable pub inner_step : Form → ℕ → List ℕ → List ℕ → ℕ → PrefixMatchBehavior → Step
inner_step form kind rec tag depth behavior = after_match form kind rec tag (match_of (prefix_at form rec) tag depth behavior)

-- ── the walk ──
-- at a leaf, at an inner record, or where the way is broken
abbrev pub step_from : Frame → List ℕ → List ℕ → List ℕ → Aim → ℕ → PrefixMatchBehavior → Arrival → Step
step_from f words keys tag aim depth behavior (Leaf n start) =
    Break (leaf_answer (between words start (start + leaf_size)) (between keys (n * f.form.limit) (n * f.form.limit + f.form.limit)) tag aim n depth behavior)
step_from f words keys tag aim depth behavior (Inner kind start) =
    inner_step f.form kind (between words start (start + record_words f.form kind)) tag depth behavior
step_from f words keys tag aim depth behavior Broken = Break (Err Damaged)

-- a reference to go on at and its depth, or the answer; with so many inner records left on the path
unfoldable pub step_of : Frame → List ℕ → List ℕ → List ℕ → Aim → ℕ → ℕ → ℕ → PrefixMatchBehavior → Step
step_of f words keys tag aim left ref depth behavior = step_from f words keys tag aim depth behavior (arrival_at f words keys left (place_at ref))

-- the answer of a step that goes no further; one that would go on is damage
abbrev pub ended_of : Step → Found
ended_of (Continue (r, d, s)) = Err Damaged
ended_of (Break a) = a

-- step by step, with so many inner records left on the path
unfoldable pub walk_of : Frame → List ℕ → List ℕ → List ℕ → Aim → ℕ → ℕ → ℕ → PrefixMatchBehavior → Found
walk_of f words keys tag aim zero ref depth behavior = ended_of (step_of f words keys tag aim 0 ref depth behavior)
walk_of f words keys tag aim (suc left) ref depth behavior =
    elim (step_of f words keys tag aim (suc left) ref depth behavior) [ Continue (r, d, s) ↦ walk_of f words keys tag aim left r d s | Break a ↦ a ]

-- from the root at depth 0, no byte skipped, with as many inner records on a path as the longest tag has bytes
abbrev pub find_of : List ℕ → List ℕ → List ℕ → Aim → Found
find_of words keys tag aim = from_root words keys (λ f. walk_of f words keys tag aim f.form.limit (root_word words) 0 Pessimistic)

-- search: the leaf that has the whole tag
abbrev pub search_of : List ℕ → List ℕ → List ℕ → Found
search_of words keys tag = find_of words keys tag Exact

-- prefix search: the leaf whose tag begins the given bytes
abbrev pub prefix_search_of : List ℕ → List ℕ → List ℕ → Found
prefix_search_of words keys tag = find_of words keys tag Begin
