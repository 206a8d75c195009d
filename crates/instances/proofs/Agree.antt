-- Two tags, AB and Ac, under a record with the run A: every tag below has the run and its child byte, so the theorems on such records say what they hold and draw.
-- And so for the records of a sound block, with two tags that share ten bytes, of which eight are stored.
use Prim.Native.Nat.{ℕ}
use mathlib.Core.Path.{◌≡◌, refl, subst}
use mathlib.Core.List.{[], ◌∷◌}
use mathlib.Core.Option.{some}
use mathlib.Core.Bool.{false}
use native.Mathlib.Omega.{arith}
use Rattle.art.specs.Tags.{Tag, Listing, exact}
use Rattle.art.specs.Listings.{Sorted}
use Rattle.art.specs.Trees.{Tree, leaf, inner, end, child, Good}
use Rattle.art.specs.Nodes.{Node, leaf_node, inner_node, end_node, child_node, walk}
use Rattle.art.specs.Drawings.{Drawing, one, branch, kid, done, draw}
use Rattle.art.specs.Agree.{Agrees, OfTree, ShowsNode, AgreesFrom}
use Rattle.art.proofs.Agree.{agrees_seen, seen_agrees, agrees_sorted, agrees_find, agrees_draw}
use Rattle.frames.specs.Frame.{frame}
use Rattle.records.specs.View.{Held, cell_of}
use Rattle.whole.proofs.Sounds.{sound_agrees}
use Rattle.instances.specs.Opened.{opened}
use Rattle.instances.specs.Blocks.{long, J1, J2, holding}
use Rattle.instances.proofs.Sounds.{long_sound, long_tree}

abbrev AB : Tag
AB = 65 ∷ 66 ∷ []

abbrev Ac : Tag
Ac = 65 ∷ 67 ∷ []

abbrev record_of_two : Node ℕ
record_of_two = inner_node 1 0 1 (65 ∷ []) (child_node 66 (leaf_node 0 AB 7) (child_node 67 (leaf_node 1 Ac 8) end_node))

abbrev tags : Listing ℕ
tags = (AB, 7) ∷ (Ac, 8) ∷ []

abbrev picture : Drawing ℕ
picture = branch 1 (65 ∷ []) (kid 66 (one AB 7) (kid 67 (one Ac 8) done))

agrees : Agrees record_of_two []
agrees = (65 ∷ [], refl, refl, omega arith, (([], refl), (omega arith, tt), (([], refl), tt, tt)))

seen : OfTree record_of_two []
seen = agrees_seen record_of_two [] agrees

-- the other way round, from its tree
abbrev tree_of_two : Tree ℕ
tree_of_two = inner 1 0 (65 ∷ []) (child 66 (leaf 0 [] 7) (child 67 (leaf 1 [] 8) end))

tree_good : Good tree_of_two
tree_good = (omega arith, (tt, (omega arith, tt), (tt, tt, tt)))

agrees_again : Agrees record_of_two []
agrees_again = seen_agrees tree_of_two [] tree_good

in_order : Sorted tags
in_order = agrees_sorted record_of_two agrees

finds : walk record_of_two exact 0 false Ac ≡ some 8
unfolding opened
finds = agrees_find record_of_two agrees exact Ac

draws : picture ≡ draw tags
draws = agrees_draw record_of_two agrees

-- the block's record stores A to H of the run, and both tags have I and J too
abbrev long_record : Node Held
long_record =
    inner_node 1 0 10 (65 ∷ 66 ∷ 67 ∷ 68 ∷ 69 ∷ 70 ∷ 71 ∷ 72 ∷ []) (child_node 49 (leaf_node 0 J1 (holding 0 1)) (child_node 50 (leaf_node 1 J2 (holding 1 2)) end_node))

long_agrees : ShowsNode long_record (cell_of (frame long.words) long.words long.keys) × Agrees long_record []
long_agrees = subst (AgreesFrom (cell_of (frame long.words) long.words long.keys)) long_tree (sound_agrees long_sound)
