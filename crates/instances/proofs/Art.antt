-- The mathematics on two trees: ABCDEFGHIJ1 and ABCDEFGHIJ2, whose run is longer than what is stored of it, and these with AX. What is asked of the trees comes from the blocks that hold them.
use Prim.Native.Nat.{ℕ, suc, ◌≤◌}
use mathlib.Core.Path.{◌≡◌, refl, subst}
use mathlib.Core.Logic.{inl, inr}
use mathlib.Core.List.{List, [], ◌∷◌}
use mathlib.Core.Option.{Option, none, some}
use mathlib.Core.Bool.{false}
use native.Mathlib.Omega.{arith}
use lib.ListN.{length}
use Rattle.records.specs.View.{Held}
use Rattle.art.specs.Tags.{Before, Less, Begins, exact}
use Rattle.art.specs.Listings.{Every, Sorted}
use Rattle.art.specs.Puts.{Apart}
use Rattle.art.specs.Trees.{Tree, leaf, inner, child, end, contents, Good}
use Rattle.art.specs.Drawings.{one, branch, kid, done, sketch, draw}
use Rattle.art.specs.Changes.{Plan, grow}
use Rattle.art.specs.Deletes.{held, Sane, change, stay}
use Rattle.art.specs.Orders.{least, greatest, from}
use Rattle.art.specs.Verdicts.{free, judge_tree}
use Rattle.art.specs.Facts as facts
use Rattle.art.specs.Facts.{branchings, run_all, drawn}
use Rattle.art.specs.Stores.{leaf_place, inner_place, leaf_cell, Store, Once, Fresh, apply, root, store}
use Rattle.art.specs.Walks.{walk_store, Shows}
use Rattle.art.specs.ReadBack.{read, tree_of}
use Rattle.art.specs.Chain.{Links, Linked, leaves_of, link_in, link_out}
use Rattle.art.specs.Drops.{Roomy}
use Rattle.art.specs.Calls.{call_edits, call_root, OnceOf}
use Rattle.art.specs.Points.{via, top, holds, fork, point, point_verdict, point_held, insert_at, insert_root, delete_at, delete_root, ForkFits}
use Rattle.art.specs.Visit.{start_state, passed, visit, and_then}
use Rattle.art.specs.Witness.{by_number, probe}
use Rattle.art.specs.Check.{Ended, Checked}
use Rattle.art.specs.Chain as chain
use Rattle.art.proofs.Tags.{before_less, before_not_begins, before_not_begun, before_of}
use Rattle.art.proofs.Trees.{sorted}
use Rattle.art.proofs.Walks.{search_is_find, store_shows}
use Rattle.art.proofs.Orders.{least_first, greatest_last, from_after}
use Rattle.art.proofs.Verdicts.{judge_is}
use Rattle.art.proofs.Drawings.{sketch_is_draw}
use Rattle.art.proofs.Facts.{used_inner_lem, height_bound, history}
use Rattle.art.proofs.Changes.{grow_contents, grow_good}
use Rattle.art.proofs.Deletes.{change_held, change_sane}
use Rattle.art.proofs.ReadBack.{read_shown, shown_once}
use Rattle.art.proofs.InsertPoints.{point_judges, insert_makes, insert_moves}
use Rattle.art.proofs.AlterPoints.{point_finds, alter_makes}
use Rattle.art.proofs.FitPoints.{point_fits}
use Rattle.art.proofs.DeletePoints.{delete_makes, delete_moves}
use Rattle.art.proofs.Stores.{once_grow}
use Rattle.art.proofs.Calls.{call_makes, call_moves, call_once}
use Rattle.art.proofs.Leaves.{grow_linked, cut_linked}
use Rattle.art.proofs.Counts.{grow_count, cut_count, change_count}
use Rattle.art.proofs.Witnesses.{root_visit, number_tells}
use Rattle.art.proofs.Checks.{check_sound, sound_check}
use Rattle.view.specs.Links.{links_of}
use Rattle.frames.specs.Frame.{frame}
use Rattle.instances.specs.Opened.{opened}
use Rattle.instances.specs.Blocks.{CtoJ, long, parted, J1, J2, AX, holding, entry, long_tags, parted_tags}
use Rattle.instances.proofs.Sounds.{long_sound, parted_sound, long_tree, parted_tree}

-- ── ABCDEFGHIJ1 comes before AX, by its second byte ──
J1_before : Before J1 AX
J1_before = inr (refl, inl (omega arith))

J1_less : Less J1 AX
J1_less = before_less J1 AX J1_before

not_beginning : ¬ Begins J1 AX
not_beginning = before_not_begins J1 AX J1_before

not_begun : ¬ Begins AX J1
not_begun = before_not_begun J1 AX J1_before

J1_again : Before J1 AX
J1_again = before_of J1 AX J1_less not_beginning

-- ── the two trees: good, and no record twice ──
abbrev σ : Store Held
σ = store long_tags []

abbrev τ : Store Held
τ = store parted_tags []

long_good : Good long_tags
long_good = subst Sane long_tree long_sound.good

long_once : Once long_tags []
long_once = subst OnceOf long_tree long_sound.once

parted_good : Good parted_tags
parted_good = subst Sane parted_tree parted_sound.good

parted_once : Once parted_tags []
parted_once = subst OnceOf parted_tree parted_sound.once

long_shows : Shows long_tags [] σ
long_shows = store_shows long_tags [] long_once

parted_shows : Shows parted_tags [] τ
parted_shows = store_shows parted_tags [] parted_once

-- ── what they hold, find and draw ──
in_order : Sorted (entry J1 0 1 ∷ entry J2 1 2 ∷ entry AX 2 3 ∷ [])
in_order = sorted parted_tags parted_good

-- ABCDEFGHXX1 differs only in bytes that are skipped
J2_found : walk_store 12 σ (inner_place 1 0) exact 0 false J2 ≡ some (holding 1 2)
unfolding opened
J2_found = search_is_find long_tags long_good long_once 12 (omega arith) exact J2

XX1_missing : walk_store 12 σ (inner_place 1 0) exact 0 false (65 ∷ 66 ∷ 67 ∷ 68 ∷ 69 ∷ 70 ∷ 71 ∷ 72 ∷ 88 ∷ 88 ∷ 49 ∷ []) ≡ none
unfolding opened
XX1_missing = search_is_find long_tags long_good long_once 12 (omega arith) exact (65 ∷ 66 ∷ 67 ∷ 68 ∷ 69 ∷ 70 ∷ 71 ∷ 72 ∷ 88 ∷ 88 ∷ 49 ∷ [])

first : least parted_tags ≡ some (holding 0 1)
first = least_first parted_tags parted_good

last : greatest parted_tags ≡ some (holding 2 3)
last = greatest_last parted_tags

after_AC : from parted_tags (65 ∷ 67 ∷ []) ≡ some (holding 2 3)
unfolding opened
after_AC = from_after parted_tags parted_good (65 ∷ 67 ∷ [])

AX_free : judge_tree long_tags AX ≡ free
unfolding opened
AX_free = judge_is long_tags long_good AX

long_draws : sketch [] long_tags ≡ branch 10 (65 ∷ 66 ∷ 67 ∷ 68 ∷ 69 ∷ 70 ∷ 71 ∷ 72 ∷ []) (kid 49 (one J1 (holding 0 1)) (kid 50 (one J2 (holding 1 2)) done))
unfolding opened
long_draws = sketch_is_draw long_tags long_good

two_records : 2 ≡ branchings (draw (entry J1 0 1 ∷ entry J2 1 2 ∷ entry AX 2 3 ∷ []))
two_records = used_inner_lem parted_tags parted_good

low : 2 ≤ 11
low = height_bound parted_tags parted_good

read_back : tree_of (read 3 τ [] (inner_place 1 1)) ≡ some parted_tags
read_back = read_shown parted_tags parted_good [] τ parted_shows 3 (omega arith)

only_one : (t : Tree Held) → Good t → Shows t [] τ → root t ≡ inner_place 1 1 → t ≡ parted_tags
only_one t g h e = shown_once t parted_tags g parted_good [] τ h parted_shows e

-- ── AX put in, with a fresh leaf and a fresh record ──
abbrev plan : Plan
plan = record { leaf_number = 2; fork_kind = 1; fork_number = 1; home = λ k n. (k, n) }

fresh : Fresh plan σ
unfolding opened
fresh = (refl, refl, λ k n. inl refl)

-- no held tag begins it, and it begins none
apart : Every (Apart AX) (entry J1 0 1 ∷ entry J2 1 2 ∷ [])
apart = (inr (inr (refl, inl (omega arith))), (inr (inr (refl, inl (omega arith))), tt))

put_holds : contents (grow long_tags plan AX (holding 2 3)) ≡ entry J1 0 1 ∷ entry J2 1 2 ∷ entry AX 2 3 ∷ []
unfolding opened
put_holds = grow_contents long_tags long_good plan AX (holding 2 3) apart

put_good : Good (grow long_tags plan AX (holding 2 3))
put_good = grow_good long_tags long_good plan AX (holding 2 3)

put_counts : length (contents (grow long_tags plan AX (holding 2 3))) ≡ 3
put_counts = grow_count long_tags long_good plan AX (holding 2 3) apart

-- its point is within the run, after one byte
put_judged : point_verdict (point 2 σ (inner_place 1 0) AX) ≡ some free
unfolding opened
put_judged = point_judges 2 σ long_tags long_good long_shows (omega arith) AX

put_fits : ForkFits σ AX top (inner_place 1 0) 0 0 1
unfolding opened
put_fits = point_fits σ 2 long_tags long_good long_shows (omega arith) AX

-- the writes there make the store of the other tree, with a root of its own
put_makes : apply σ (insert_at σ plan AX (holding 2 3) (fork top (inner_place 1 0) 0 0 1)) ≡ τ
unfolding opened
put_makes = insert_makes 2 long_tags long_good long_once (omega arith) plan fresh AX (holding 2 3)

put_moves : insert_root plan (fork top (inner_place 1 0) 0 0 1) (inner_place 1 0) ≡ inner_place 1 1
unfolding opened
put_moves = insert_moves 2 σ long_tags long_good long_shows (omega arith) plan AX (holding 2 3)

put_once : Once parted_tags []
unfolding opened
put_once = once_grow long_tags plan [] AX (holding 2 3) long_once fresh

-- ── AX left out, each record staying where it is ──
roomy : Roomy stay τ
roomy k n l = inl refl

cut_holds : held (change parted_tags (λ h. none) stay AX) ≡ entry J1 0 1 ∷ entry J2 1 2 ∷ []
unfolding opened
cut_holds = change_held parted_tags parted_good (λ h. none) stay AX

cut_sane : Good long_tags
unfolding opened
cut_sane = change_sane parted_tags parted_good (λ h. none) stay AX

cut_counts : suc (length (held (change parted_tags (λ h. none) stay AX))) ≡ 3
unfolding opened
cut_counts = cut_count parted_tags parted_good stay AX (holding 2 3) refl

cut_found : point_held τ (point 3 τ (inner_place 1 1) AX) ≡ some (holding 2 3)
unfolding opened
cut_found = point_finds 3 τ parted_tags parted_good parted_shows (omega arith) AX

cut_makes : apply τ (delete_at τ stay (holds top (via 1 1 88) 2)) ≡ σ
unfolding opened
cut_makes = delete_makes 3 parted_tags parted_good parted_once (omega arith) stay roomy AX

cut_moves : delete_root τ stay (holds top (via 1 1 88) 2) (inner_place 1 1) ≡ some (inner_place 1 0)
unfolding opened
cut_moves = delete_moves 3 τ parted_tags parted_good parted_shows (omega arith) stay AX

-- the same of the call: its writes, its root, and that no place stands twice
cut_calls : apply τ (call_edits 3 τ (some (inner_place 1 1)) (facts.delete AX stay)) ≡ σ
unfolding opened
cut_calls = call_makes 3 (some parted_tags) parted_good parted_once (omega arith) (facts.delete AX stay) roomy

cut_roots : call_root 3 τ (some (inner_place 1 1)) (facts.delete AX stay) ≡ some (inner_place 1 0)
unfolding opened
cut_roots = call_moves 3 (some parted_tags) parted_good parted_once (omega arith) (facts.delete AX stay)

cut_once : Once long_tags []
unfolding opened
cut_once = call_once (some parted_tags) parted_once (facts.delete AX stay) roomy

-- ── another total for J1: one write ──
abbrev nine : Held → Held
nine h = holding h.number 9

re_makes : apply τ ((leaf_place 0, leaf_cell J1 (holding 0 9)) ∷ [])
    ≡ store (inner 1 1 (65 ∷ []) (child 66 (inner 1 0 CtoJ (child 49 (leaf 0 [] (holding 0 9)) (child 50 (leaf 1 [] (holding 1 2)) end))) (child 88 (leaf 2 [] (holding 2 3)) end))) []
unfolding opened
re_makes = alter_makes 3 parted_tags parted_good parted_once (omega arith) nine stay J1

re_counts : length (held (change parted_tags (λ h. some (nine h)) stay J1)) ≡ 3
re_counts = change_count parted_tags parted_good nine stay J1

-- ── the leaf list: AX linked in after leaf 1, and out again ──
abbrev long_links : Links
long_links = links_of (frame long.words) long.words

abbrev parted_links : Links
parted_links = links_of (frame parted.words) parted.words

long_linked : Linked long_links 0 (0 ∷ 1 ∷ [])
long_linked = subst (λ (d : Option (Tree Held)). Linked long_links 0 (leaves_of d)) long_tree long_sound.linked

parted_linked : Linked parted_links 0 (0 ∷ 1 ∷ 2 ∷ [])
parted_linked = subst (λ (d : Option (Tree Held)). Linked parted_links 0 (leaves_of d)) parted_tree parted_sound.linked

put_linked : Linked (link_in long_links 2 13 0) 0 (0 ∷ 1 ∷ 2 ∷ [])
unfolding opened
put_linked = grow_linked (λ h. h.number) long_links long_tags long_good long_once (refl, (refl, tt)) plan AX (holding 2 3) refl apart refl long_linked

cut_linked_out : Linked (link_out parted_links 2) 0 (0 ∷ 1 ∷ [])
unfolding opened
cut_linked_out = cut_linked (λ h. h.number) parted_links parted_tags parted_good parted_once ((refl, (refl, tt)), (refl, tt)) stay AX (holding 2 3) refl parted_linked

-- ── a history: J1 and J2 in, AX refused for want of room, J1 out ──
abbrev calls : List (facts.Call Held)
calls = facts.insert J1 (holding 0 1) nine (some plan) ∷ facts.insert J2 (holding 1 2) nine (some plan) ∷ facts.insert AX (holding 2 3) nine none ∷ facts.delete J1 stay ∷ []

calls_draw : drawn (run_all none calls) ≡ one J2 (holding 1 2)
unfolding opened
calls_draw = history calls

-- ── the check's way through the store: it ends well, and so the store is a tree's ──
visited : visit (chain.follows parted_links) 3 τ [] (inner_place 1 1) start_state ≡ and_then (probe (by_number τ) (chain.follows parted_links) 3 τ 0 (inner_place 1 1) start_state) (λ h. some h.1)
visited = root_visit (by_number τ) (chain.follows parted_links) τ (number_tells τ) 3 (inner_place 1 1) start_state

ends_well : (w : ℕ) × (probe (by_number τ) (chain.follows parted_links) 3 τ 0 (inner_place 1 1) start_state ≡ some (w, passed parted_tags start_state)) × Ended parted_links τ 3 (passed parted_tags start_state)
ends_well = sound_check (by_number τ) parted_links τ (number_tells τ) 3 3 parted_tags parted_good parted_once (λ x. refl) parted_linked refl (omega arith)

then_tree : Checked parted_links τ 3 (inner_place 1 1)
then_tree = check_sound (by_number τ) parted_links τ (number_tells τ) 3 3 (inner_place 1 1) (ends_well.0, passed parted_tags start_state) ends_well.1 ends_well.2
