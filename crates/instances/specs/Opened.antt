-- The definitions that a call computes through, crate by crate and then under one name: to unfold `opened` is to unfold them all, so that what is said of written-out words holds by computing.
use Rattle.std.proofs.Math.Decide.{ℕ_discrete, dec_le, dec_lt}
use Rattle.lists.specs.Edit.{shift_in, shift_out}
use Rattle.lists.specs.Part.{splice}
use Rattle.prefix.specs.Match.{length_match, match_of}
use Rattle.prefix.specs.Run.{prefix_of, ltrim_of, split_of, push_of, merge_of}
use Rattle.art.specs.Changes.{meet, has}
use Rattle.art.specs.Nodes.{meets_dec}
use Rattle.art.specs.Puts.{less_dec}
use Rattle.art.specs.Tags.{order, tag_dec, begins_dec, fits_dec}
use Rattle.frames.specs.Form.{form_known, form_of, pack_of, unpack_of, stored_of}
use Rattle.frames.specs.Frame.{form_fits, trailer_fits, frame_fits, frame_of}
use Rattle.frames.specs.Kind.{kind_row, kind_for}
use Rattle.records.specs.Own.{prefix_at, head_ok, sorted_ok, indirect_ok, direct_ok, body_ok, inner_ok, sorted_child, indirect_child, child_of, child_at, leaf_ok, total_of}
use Rattle.records.specs.Row.{body_row}
use Rattle.records.specs.View.{cell_of}
use Rattle.edits.specs.Body.{sorted_add, sorted_remove, sorted_replace, slot_add, slot_remove, slot_replace, body_change, sorted_spread, slot_spread, body_spread, sorted_body, slot_body, body_of}
use Rattle.edits.specs.Head.{set_prefix, set_head}
use Rattle.edits.specs.Record.{change_of, spread_of, build_rec}
use Rattle.pools.specs.Leaf.{leaf_words, set_total}
use Rattle.pools.specs.Link.{set_trailer, set_next, set_previous, set_link}
use Rattle.pools.specs.Pool.{lowest_free, free_kind}
use Rattle.pools.specs.Start.{start_fits, start_fits_in, trailer_words, start_of}
use Rattle.view.specs.Links.{links_of}
use Rattle.tree.specs.Arrive.{arrival_at, with_frame}
use Rattle.tree.specs.Edge.{edge_ref, edge_step, edge_of}
use Rattle.leaves.specs.Leaf.{leaf_state, next_of, tag_len}
use Rattle.tree.specs.Walk as walk
use Rattle.whole.specs.Check.{root_way, way_well, whole_by, whole_of, check_of}
use Rattle.whole.specs.Marks.{places_in, fresh, reached}
use Rattle.whole.specs.Sweep.{swept_at, swept_pool, swept}
use Rattle.whole.specs.Visit.{leaf_visit, turn_at, row_end, row_by, record_by}
use Rattle.tree.specs.Seen.{tag_at}
use Rattle.whole.specs.Witness.{goes_on, stored_agrees}
use Rattle.range.specs.Range as range
use Rattle.tally.specs.Tally.{added_of}
use Rattle.stations.specs.Stations.{starts_so, leaf_entry, entry_of, tally_one, tally_from, total_of as stationOf}
use Rattle.points.specs.Point as points
use Rattle.writes.specs.At.{change_at, prefixed_at, branch_at, move_at, drop_at, clear_at}
use Rattle.writes.specs.Leaf.{leaf_in, key_in, leaf_out, key_out, total_at}
use Rattle.insert.specs.Apply.{grown, forked, hung, new_words}
use Rattle.insert.specs.Insert.{insert_sound, insert_checked, too_long, insert_of}
use Rattle.insert.specs.Plan as insert-plan
use Rattle.delete.specs.Apply.{merged, shrunk, pruned, gone_words}
use Rattle.delete.specs.Delete.{delete_sound, delete_checked, delete_of}
use Rattle.delete.specs.Plan as delete-plan

-- of lists and prefix, with the tests on numbers: writing into a list, and a prefix compared, cut and joined
unfoldable pub lists_opened : Unit {0}
unfolding ℕ_discrete dec_le dec_lt shift_in shift_out splice length_match match_of prefix_of ltrim_of split_of push_of merge_of
lists_opened = tt

-- of art: how tags compare, and whether a row has a byte
unfoldable pub art_opened : Unit {0}
unfolding meet has meets_dec less_dec order tag_dec begins_dec fits_dec
art_opened = tt

-- of frames: the form, the frame and the kinds
unfoldable pub frames_opened : Unit {0}
unfolding form_known form_of pack_of unpack_of stored_of form_fits trailer_fits frame_fits frame_of kind_row kind_for
frames_opened = tt

-- of records: a record's own rule, its children and its cell
unfoldable pub records_opened : Unit {0}
unfolding prefix_at head_ok sorted_ok indirect_ok direct_ok body_ok inner_ok sorted_child indirect_child child_of child_at leaf_ok total_of body_row cell_of
records_opened = tt

-- of edits: a record's head and body written and changed
unfoldable pub edits_opened : Unit {0}
unfolding sorted_add sorted_remove sorted_replace slot_add slot_remove slot_replace body_change sorted_spread slot_spread body_spread sorted_body slot_body body_of set_prefix set_head change_of spread_of build_rec
edits_opened = tt

-- of pools and view: leaves, links, free records and start
unfoldable pub pools_opened : Unit {0}
unfolding leaf_words set_total set_trailer set_next set_previous lowest_free free_kind start_fits start_fits_in trailer_words start_of set_link links_of
pools_opened = tt

-- of tree and leaves: the walks, and the calls on a leaf number
unfoldable pub tree_opened : Unit {0}
unfolding arrival_at with_frame edge_ref edge_step edge_of leaf_state next_of tag_len walk.leaf_answer walk.inner_step walk.step_of walk.walk_of
tree_opened = tt

-- of whole: the check
unfoldable pub whole_opened : Unit {0}
unfolding root_way way_well whole_by whole_of check_of places_in fresh reached swept_at swept_pool swept leaf_visit turn_at row_end row_by record_by tag_at goes_on stored_agrees
whole_opened = tt

-- of range and points: first-at-or-after, and where a tag belongs
unfoldable pub points_opened : Unit {0}
unfolding range.below range.leaf_step range.step_of range.after_from range.after_of points.leaf_point points.run_of points.inner_step points.step_of points.point_from points.point_of
points_opened = tt

-- of tally and stations: station total
unfoldable pub stations_opened : Unit {0}
unfolding added_of starts_so leaf_entry entry_of tally_one tally_from stationOf
stations_opened = tt

-- of writes: a record or a leaf written at its place
unfoldable pub writes_opened : Unit {0}
unfolding change_at prefixed_at branch_at move_at drop_at clear_at leaf_in key_in leaf_out key_out total_at
writes_opened = tt

-- of insert and delete: their plans, and what these make
unfoldable pub calls_opened : Unit {0}
unfolding grown forked hung new_words insert_sound insert_checked too_long insert_of insert-plan.into_choice insert-plan.fork_choice insert-plan.leaf_plan insert-plan.point_plan insert-plan.plan_of merged shrunk pruned gone_words delete_sound delete_checked delete_of delete-plan.other_entry delete-plan.shrink_cut delete-plan.cut_under delete-plan.point_plan delete-plan.plan_of
calls_opened = tt

-- all of them
unfoldable pub opened : Unit {0}
unfolding lists_opened art_opened frames_opened records_opened edits_opened pools_opened tree_opened whole_opened points_opened stations_opened writes_opened calls_opened
opened = tt
