-- The bench sheet holds: its rows have no variables, so that the definitions of the calls compute to what each row says.
use mathlib.Core.Path.{◌≡◌, refl}
use Rattle.prefix.specs.Run.{prefix_of, split_of, merge_of}
use Rattle.prefix.specs.Match.{match_of}
use Rattle.lists.specs.Part.{splice}
use Rattle.lists.specs.Edit.{shift_in, shift_out}
use Rattle.frames.specs.Kind.{kind_row}
use Rattle.frames.specs.Form.{form_known, form_of, pack_of, stored_of}
use Rattle.frames.specs.Frame.{form_fits, trailer_fits, frame_fits, frame_of}
use Rattle.records.specs.Own.{prefix_at, head_ok, sorted_ok, body_ok, inner_ok, sorted_child, child_of, child_at, leaf_ok, total_of}
use Rattle.records.specs.Row.{body_row}
use Rattle.records.specs.View.{cell_of}
use Rattle.edits.specs.Head.{set_prefix, set_head}
use Rattle.edits.specs.Body.{sorted_add, sorted_remove, body_change, sorted_body, body_of}
use Rattle.edits.specs.Record.{change_of, build_rec}
use Rattle.pools.specs.Pool.{lowest_free, free_kind}
use Rattle.pools.specs.Link.{set_trailer, set_link, set_next, set_previous}
use Rattle.pools.specs.Leaf.{leaf_words}
use Rattle.pools.specs.Start.{start_fits, start_fits_in, trailer_words, start_of}
use Rattle.tree.specs.Arrive.{arrival_at, with_frame}
use Rattle.tree.specs.Edge.{edge_ref, edge_step, edge_of}
use Rattle.tree.specs.Walk as walk
use Rattle.whole.specs.Marks.{places_in, fresh, reached}
use Rattle.tree.specs.Seen.{tag_at}
use Rattle.whole.specs.Witness.{goes_on, stored_agrees}
use Rattle.whole.specs.Visit.{leaf_visit, turn_at, row_end, row_by, record_by}
use Rattle.whole.specs.Sweep.{swept_at, swept_pool, swept}
use Rattle.whole.specs.Check.{root_way, way_well, whole_by, check_of}
use Rattle.range.specs.Range as range
use Rattle.points.specs.Point as points
use Rattle.writes.specs.At.{change_at, prefixed_at, branch_at, clear_at}
use Rattle.writes.specs.Leaf.{leaf_in, key_in, leaf_out, key_out}
use Rattle.insert.specs.Plan as insert-plan
use Rattle.insert.specs.Apply.{forked, hung, new_words}
use Rattle.insert.specs.Insert.{insert_sound, insert_checked, too_long, insert_of}
use Rattle.delete.specs.Plan as delete-plan
use Rattle.delete.specs.Apply.{merged, pruned, gone_words}
use Rattle.delete.specs.Delete.{delete_sound, delete_checked, delete_of}
use Rattle.art.specs.Tags.{order}
use Rattle.sheet.specs.Sheet.{came_from, came_all, rows}

-- rows a to l: what comes of each line is what is written there, and every block on the way is sound
pub sheet : came_all rows ≡ rows
unfolding prefix_of split_of merge_of match_of splice shift_in shift_out kind_row form_known form_of pack_of stored_of form_fits trailer_fits frame_fits frame_of prefix_at head_ok sorted_ok body_ok inner_ok sorted_child child_of child_at leaf_ok total_of body_row cell_of set_prefix set_head sorted_add sorted_remove body_change sorted_body body_of change_of build_rec lowest_free free_kind set_trailer set_link set_next set_previous leaf_words start_fits start_fits_in trailer_words start_of arrival_at with_frame edge_ref edge_step edge_of walk.leaf_answer walk.inner_step walk.step_of walk.walk_of places_in fresh reached tag_at goes_on stored_agrees leaf_visit turn_at row_end row_by record_by swept_at swept_pool swept root_way way_well whole_by check_of range.below range.leaf_step range.step_of range.after_from range.after_of points.leaf_point points.run_of points.inner_step points.step_of points.point_from points.point_of change_at prefixed_at branch_at clear_at leaf_in key_in leaf_out key_out insert-plan.into_choice insert-plan.fork_choice insert-plan.leaf_plan insert-plan.point_plan insert-plan.plan_of forked hung new_words insert_sound insert_checked too_long insert_of delete-plan.other_entry delete-plan.cut_under delete-plan.point_plan delete-plan.plan_of merged pruned gone_words delete_sound delete_checked delete_of order came_from came_all rows
sheet = refl
