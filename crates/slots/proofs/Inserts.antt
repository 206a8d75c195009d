-- The slots of kind 3 after the plan of an insert: each write leaves them, or writes the one slot number that the rule names, or builds them in byte order.
use Prim.Native.Nat.{ℕ, suc, ◌+◌, ◌-◌, ◌*◌, ◌/◌, ◌%◌, ◌≤◌, ◌<◌}
use mathlib.Core.Path.{◌≡◌, refl, sym, ap, subst, ◌∙◌}
use mathlib.Core.Logic.{◌≢◌}
use mathlib.Core.List.{List, []}
use mathlib.Core.Option.{Option, none, some}
use mathlib.Core.Bool.{Bool, true, false}
use native.Mathlib.Omega.{arith}
use lib.ListN.{length, get_or, drop}
use lib.Dec.{leb}
use borrow.Author.Tests.{leb-true}
use Rattle.std.specs.Prelude.{Ok}
use Rattle.insert.specs.declared.plan.Plan.TheVariants.{New, Over}
use Rattle.points.specs.There.{Up, UpThere, PointThere}
use Rattle.lists.specs.Scan.{choose, at_most, all_pass}
use Rattle.lists.specs.Part.{between}
use Rattle.lists.proofs.Tests.{all_at, all_take, all_between}
use Rattle.lists.proofs.Parts.{between_length}
use Rattle.prefix.specs.Run.{held, prefix_of, ltrim_of, split_of}
use Rattle.prefix.specs.declared.Prefix.{Prefix}
use Rattle.prefix.proofs.Eights.{eight_length}
use Rattle.prefix.proofs.Runs.{run_length}
use Rattle.frames.specs.Kind.{children_of}
use Rattle.frames.specs.Frame.{FrameOf, root_word, count_word, frame}
use Rattle.frames.specs.Place.{place_at, in_pool, record_at, key_at, kind_at}
use Rattle.frames.specs.declared.frame.Frame.{Frame}
use Rattle.frames.proofs.KindTable.{kind_rules}
use Rattle.frames.proofs.Places.{inner_kind, place_inner, ref_place}
use Rattle.records.specs.Words.{used_as}
use Rattle.records.specs.Own.{prefix_at, InnerFits}
use Rattle.records.specs.Row.{row_at, ref_for, direct_row, Climbs}
use Rattle.records.specs.View.{Held}
use Rattle.records.proofs.Owns.{inner_rule}
use Rattle.art.specs.Trees.{Tree}
use Rattle.art.specs.Refs.{Refs, find_ref}
use Rattle.art.specs.Stores.{Place, leaf_place, inner_place, place_dec, store}
use Rattle.art.specs.Chain.{Links, leaf_ref}
use Rattle.art.specs.Points.{store_of}
use Rattle.view.specs.Pools.{FreeAt}
use Rattle.view.proofs.Pools.{kind_free}
use Rattle.view.proofs.Trailers.{trailer_record, trailer_fits_lem}
use Rattle.pools.specs.Leaf.{set_total}
use Rattle.view.proofs.Leaves.{total_long}
use Rattle.edits.specs.declared.representation.Change.TheVariants as change
use Rattle.edits.specs.Body.{slot_for}
use Rattle.edits.specs.Record.{change_of, spread_of, build_rec}
use Rattle.edits.specs.Rows.{Row, row_pair}
use Rattle.edits.specs.Inner.{Inner}
use Rattle.edits.proofs.Inners.{inner_own, inner_size, inner_two, inner_climbs, inner_child, inner_fits, spread_of_lem, build_inner, move_inner}
use Rattle.edits.proofs.RowChanges.{pair_climbs}
use Rattle.reading.specs.Answers.{Bytes}
use Rattle.reading.specs.Shown.{Shown}
use Rattle.tree.specs.Seen.{length_at, tag_at}
use Rattle.whole.specs.Sound.{Sound}
use Rattle.points.specs.Point.{point_of}
use Rattle.points.proofs.There.{point_there}
use Rattle.points.specs.declared.insert_point.Point.TheVariants as point
use Rattle.points.proofs.Here.{place_kind}
use Rattle.writes.specs.At.{change_at, branch_at, move_at, clear_at, Roomy}
use Rattle.writes.specs.Leaf.{total_at}
use Rattle.writes.specs.Above.{link_up}
use Rattle.writes.specs.declared.leaf_node.Gap.{Gap}
use Rattle.writes.proofs.Spots.{frame_stores}
use Rattle.states.specs.State.{State}
use Rattle.states.proofs.Children.{find_none}
use Rattle.states.proofs.Standing.{ref_some, stands}
use Rattle.states.proofs.Sounds.{sound_state}
use Rattle.pointed.proofs.Sounds.{sound_shown}
use Rattle.insert.specs.Apply.{cut_at, grown, forked, hung, new_words, CutOrLeaf, ForkReady, GrowReady, SiteReady}
use Rattle.insert.specs.Plan as insert-plan
use Rattle.insert.specs.declared.plan.Site.{Site}
use Rattle.insert.specs.declared.plan.Site.TheVariants.{Root}
use Rattle.insert.proofs.Plans.{Planned, first, adds, grows, forks, plan_new}
use Rattle.insert.proofs.Ready.{bytes_all, into_fits, into_byte, insert_ready}
use Rattle.insert.proofs.Intos.{into_place}
use Rattle.insert.proofs.Overs.{plan_over}
use Rattle.insert.proofs.Prefixes.{run_fits}
use Rattle.slots.specs.Slots.{slotted_at, SlotsIn, in_kept, in_added, in_moved, in_branched, in_freed}
use Rattle.slots.proofs.Bodies.{slotted_of, no_slot, lowest_slot, add_slots, row_slot, built_slots, moved_slots}
use Rattle.slots.proofs.Writes.{used_kind, not_free, change_fits, change_away, change_here, link_fits, link_keeps, link_free, prefixed_fits, prefixed_keeps, clear_fits, clear_away, clear_used, clear_none, build_fits, build_away, build_here, leaf_record, leaf_in_record}

-- what is said of the slots goes by the inner records alone
in_as : {f : Frame} {words words₁ words₂ : List ℕ} {n : ℕ} → in_pool f (inner_place 3 n) ≡ true
    → ((k m : ℕ) → in_pool f (inner_place k m) ≡ true → record_at f words₂ (inner_place k m) ≡ record_at f words₁ (inner_place k m)) → SlotsIn f words words₁ n → SlotsIn f words words₂ n
in_as {f} {n = n} hx e (in_kept s) = in_kept (ap (slotted_of f.form) (e 3 n hx) ∙ s)
in_as {f} {n = n} hx e (in_added b k low used empty least s) = in_added b k low used empty least (ap (slotted_of f.form) (e 3 n hx) ∙ s)
in_as {f} {n = n} hx e (in_moved k m b row free pool used gone r low empty s) = in_moved k m b row free pool used (ap used_as (e k m pool) ∙ gone) r low empty (ap (slotted_of f.form) (e 3 n hx) ∙ s)
in_as {f} {n = n} hx e (in_branched row free two c s) = in_branched row free two c (ap (slotted_of f.form) (e 3 n hx) ∙ s)
in_as {f} {n = n} hx e (in_freed used s) = in_freed used (ap (slotted_of f.form) (e 3 n hx) ∙ s)

-- eight bytes are stored of what is left of a prefix
split_stored : (p : Prefix) (n : ℕ) (leaf : List ℕ) (depth : ℕ) → length (split_of p n leaf depth).stored ≡ 8
unfolding split_of ltrim_of
split_stored p n leaf depth = go (leb p.full.0 8)
  where
    go : (b : Bool) → length (choose b (ltrim_of p n) (prefix_of (between leaf (depth + n) (depth + p.full.0)))).stored ≡ 8
    go true = eight_length (drop n (held p))
    go false = run_length (between leaf (depth + n) (depth + p.full.0))

-- the record at a point, which has no child for the byte
record NoChild (f : Frame) (words : List ℕ) (ref byte : ℕ) : Type 0 where
  low : byte < 256
  place : place_at ref ≡ inner_place (ref % 8) (ref / 8)
  missing : ref_for byte (row_at f.form (ref % 8) (record_at f words (inner_place (ref % 8) (ref / 8)))) ≡ 0

into_none : {f : Frame} {words keys : List ℕ} {t : Tree Held} {links : Links} {root count : ℕ} → Shown f words keys (some t) → State f words keys (store t []) links root count
    → (tag : List ℕ) → Bytes tag → (up : Up) (ref byte : ℕ) → point_of f words keys tag (root_word words) ≡ point.Into up ref byte → NoChild f words ref byte
into_none {f} {words} s st tag bytes up ref byte e =
    let fits = into_fits s tag bytes up ref byte e in
    let h = stands st (ref % 8) (ref / 8) _ _ fits.rs fits.at_record.shown in
    record {
      low = into_byte s tag bytes up ref byte e;
      place = into_place st tag up ref byte fits;
      missing = find_none byte (row_at f.form (ref % 8) (record_at f words (inner_place (ref % 8) (ref / 8)))) (ap (λ (l : Refs). find_ref l byte) h.refs_are ∙ fits.missing);
    }

module _ {f : Frame} {words keys : List ℕ} (w : FrameOf f words keys) (n : ℕ) (hx : in_pool f (inner_place 3 n) ≡ true) where
  abbrev x : Place
  x = inner_place 3 n

  -- ── a child more in place ──
  add_in : (ref byte leaf : ℕ) → Roomy f words (place_at ref) → NoChild f words ref byte → SlotsIn f words (change_at f (place_at ref) byte (change.Add leaf) words) n
  add_in ref byte leaf r no_child = go (place_dec x (place_at ref))
    where
      go : Dec (x ≡ place_at ref) → SlotsIn f words (change_at f (place_at ref) byte (change.Add leaf) words) n
      go (no ne) = in_kept (ap (slotted_of f.form) (change_away w 3 n hx (place_at ref) r.here byte (change.Add leaf) ne))
      go (yes e) =
          let fits : InnerFits f.form 3 (record_at f words x) = subst (λ (y : Place). InnerFits f.form (kind_at y) (record_at f words y)) (sym e) r.here.fits in
          let room : get_or (record_at f words x) 1 0 < children_of 3 = subst (λ (y : Place). get_or (record_at f words y) 1 0 < children_of (kind_at y)) (sym e) r.room in
          let nothing : ref_for byte (row_at f.form 3 (record_at f words x)) ≡ 0 =
          subst (λ (y : Place). ref_for byte (row_at f.form (kind_at y) (record_at f words y)) ≡ 0) (sym (e ∙ no_child.place)) no_child.missing in
          in_added byte _ no_child.low (inner_rule f.form 3 (record_at f words x) fits.ok).head.kind_word (no_slot fits byte no_child.low (inner_child (inner_own fits) byte no_child.low ∙ nothing)) (lowest_slot fits room)
          (ap (slotted_of f.form) (change_here w 3 n hx (place_at ref) r.here byte (change.Add leaf) e) ∙ add_slots fits byte leaf no_child.low)

  -- ── a full record moved, with a child more ──
  module _ (up : Up) (ref next byte leaf k m : ℕ) (r : GrowReady f words up ref next byte leaf) (no_child : NoChild f words ref byte) (to : place_at next ≡ inner_place k m) (free : used_as (record_at f words (inner_place k m)) ≡ 0) where
    abbrev old : Place
    old = place_at ref

    abbrev home : Place
    home = place_at next

    abbrev rec : List ℕ
    rec = record_at f words old

    abbrev pre : Prefix
    pre = prefix_at f.form rec

    abbrev row : Row
    row = row_at f.form (kind_at old) rec

    own : Inner f.form (kind_at old) rec pre row
    own = inner_own r.moves.from.fits

    few : length row ≤ children_of (kind_at home)
    few = omega (arith, inner_size own, r.moves.room)

    -- the words as they are written, one record after the other
    abbrev moved : List ℕ
    moved = move_at f old home words

    abbrev added : List ℕ
    added = change_at f home byte (change.Add leaf) moved

    abbrev after : List ℕ
    after = clear_at f old added

    made : Inner f.form (kind_at home) (build_rec f.form (kind_at home) pre (direct_row (spread_of f.form (kind_at old) rec))) pre row
    made = move_inner (frame_stores w) own (kind_at home) r.moves.to.low r.moves.to.high few

    moved_fits : FrameOf f moved keys
    unfolding move_at
    moved_fits = build_fits w 3 n hx home r.moves.to pre (direct_row (spread_of f.form (kind_at old) rec)) made.fits.long

    moved_away : x ≢ home → record_at f moved x ≡ record_at f words x
    unfolding move_at
    moved_away ne = build_away w 3 n hx home r.moves.to pre (direct_row (spread_of f.form (kind_at old) rec)) made.fits.long ne

    moved_here : x ≡ home → record_at f moved x ≡ build_rec f.form 3 pre row
    unfolding move_at
    moved_here e = build_here w 3 n hx home r.moves.to pre (direct_row (spread_of f.form (kind_at old) rec)) made.fits.long e ∙ ap (build_rec f.form 3 pre) (spread_of_lem own).1

    added_fits : FrameOf f added keys
    added_fits = change_fits moved_fits 3 n hx home r.room.here byte (change.Add leaf)

    after_fits : FrameOf f after keys
    after_fits = clear_fits added_fits 3 n hx old r.moves.from.pool

    there : UpThere f after up
    unfolding grown
    there = r.above

    abbrev done : List ℕ
    done = link_up f up next after

    linked : slotted_at f done n ≡ slotted_at f after n
    linked = link_keeps after_fits n hx up next there

    grow_fits : FrameOf f done keys
    grow_fits = link_fits after_fits 3 n hx up next there

    row_is : row ≡ row_at f.form (ref % 8) (record_at f words (inner_place (ref % 8) (ref / 8)))
    row_is = ap (λ (y : Place). row_at f.form (kind_at y) (record_at f words y)) no_child.place

    old_pool : in_pool f (inner_place (ref % 8) (ref / 8)) ≡ true
    old_pool = ap (in_pool f) (sym no_child.place) ∙ r.moves.from.pool

    old_used : used_as (record_at f words (inner_place (ref % 8) (ref / 8))) ≡ ref % 8
    old_used = ap (λ (y : Place). used_as (record_at f words y)) (sym no_child.place) ∙ (inner_rule f.form (kind_at old) rec r.moves.from.fits.ok).head.kind_word ∙ place_kind ref

    old_gone : used_as (record_at f done (inner_place (ref % 8) (ref / 8))) ≡ 0
    old_gone = link_free after_fits (ref % 8) (ref / 8) old_pool up next there (clear_used added_fits (ref % 8) (ref / 8) old_pool old r.moves.from.pool (sym no_child.place))

    grow_in : SlotsIn f words done n
    grow_in = go (place_dec x home) (place_dec x old)
      where
        was_free : x ≡ home → (slotted_at f words n).used ≡ 0
        was_free e = ap (λ (y : Place). used_as (record_at f words y)) (e ∙ to) ∙ free

        go : Dec (x ≡ home) → Dec (x ≡ old) → SlotsIn f words done n
        go (yes e) (yes q) = absurd (not_free w 3 n hx old r.moves.from q (was_free e))
        go (yes e) (no ne) =
            let room : get_or (record_at f moved x) 1 0 < children_of 3 = subst (λ (y : Place). get_or (record_at f moved y) 1 0 < children_of (kind_at y)) (sym e) r.room.room in
            let less : length row ≤ children_of 3 = subst (λ (y : Place). length row ≤ children_of (kind_at y)) (sym e) few in
            let c = inner_climbs own in
            let built = build_inner f.form (frame_stores w) 3 pre row (omega arith) (omega arith) (inner_fits own) (inner_two own) less c in
            let more : length row < children_of 3 = omega (arith, inner_size built, ap (λ (l : List ℕ). get_or l 1 0) (moved_here e), room) in
            let nothing : slot_for byte row ≡ 0 = row_slot 0 byte row c (ap (ref_for byte) row_is ∙ no_child.missing) in
            in_moved (ref % 8) (ref / 8) byte row (was_free e) old_pool old_used old_gone row_is no_child.low nothing
            (linked ∙ ap (slotted_of f.form) (clear_away added_fits 3 n hx old r.moves.from.pool ne ∙ change_here moved_fits 3 n hx home r.room.here byte (change.Add leaf) e
            ∙ ap (λ (l : List ℕ). change_of f.form 3 l byte (change.Add leaf)) (moved_here e)) ∙ moved_slots f.form (frame_stores w) pre row (inner_fits own) (inner_two own) less c byte leaf no_child.low more)
        go (no ne) (yes q) =
            in_freed (used_kind w 3 n hx old r.moves.from q) (linked ∙ clear_none added_fits n hx old r.moves.from.pool q)
        go (no ne) (no nq) =
            in_kept (linked ∙ ap (slotted_of f.form) (clear_away added_fits 3 n hx old r.moves.from.pool nq ∙ change_away moved_fits 3 n hx home r.room.here byte (change.Add leaf) ne ∙ moved_away ne))

  -- ── a new branching ──
  -- the record below it with what is left of its prefix
  cut_fits : (y : Place) (c : ℕ) (t : List ℕ) (d : ℕ) → CutOrLeaf f words y c t d → FrameOf f (cut_at f y c t d words) keys
  cut_fits (leaf_place m) c t d h = w
  cut_fits (inner_place k m) c t d h =
      let p = prefix_at f.form (record_at f words (inner_place k m)) in
      prefixed_fits w 3 n hx (inner_place k m) h.here (split_of p (c + 1) t d) (split_stored p (c + 1) t d)

  cut_keeps : (y : Place) (c : ℕ) (t : List ℕ) (d : ℕ) → CutOrLeaf f words y c t d → slotted_at f (cut_at f y c t d words) n ≡ slotted_at f words n
  cut_keeps (leaf_place m) c t d h = refl
  cut_keeps (inner_place k m) c t d h =
      let p = prefix_at f.form (record_at f words (inner_place k m)) in
      prefixed_keeps w n hx (inner_place k m) h.here (split_of p (c + 1) t d) (split_stored p (c + 1) t d)

  module _ (tag : List ℕ) (tag_bytes : all_pass (at_most 255) tag ≡ true) (key-bytes : all_pass (at_most 255) keys ≡ true) (short : length tag ≤ f.form.limit)
      (up : Up) (below next witness d c leaf k m : ℕ) (some-leaf : 0 < leaf) (r : ForkReady f words keys tag up below next witness d c leaf)
      (to : place_at next ≡ inner_place k m) (free : used_as (record_at f words (inner_place k m)) ≡ 0) where
    abbrev branching : Place
    branching = place_at next

    abbrev met : List ℕ
    met = tag_at f words keys witness

    abbrev cut : List ℕ
    cut = cut_at f (place_at below) c met d words

    abbrev shared : Prefix
    shared = prefix_of (between tag d (d + c))

    abbrev pair : Row
    pair = row_pair (get_or tag (d + c) 0) leaf (get_or met (d + c) 0) below

    abbrev forking : List ℕ
    forking = branch_at f branching shared (get_or tag (d + c) 0) leaf (get_or met (d + c) 0) below cut

    met_bytes : all_pass (at_most 255) met ≡ true
    unfolding tag_at
    met_bytes =
        let a = witness / 8 * f.form.limit in
        all_take (at_most 255) (length_at f words witness) (key_at f keys (witness / 8)) (all_between (at_most 255) keys a (a + f.form.limit) key-bytes)

    two : (length pair ≡ 2) × Climbs 0 pair
    two =
        let a : get_or tag (d + c) 0 ≤ 255 = leb-true _ _ (all_at (at_most 255) tag tag_bytes (d + c) r.inside) in
        let b : get_or met (d + c) 0 ≤ 255 = leb-true _ _ (all_at (at_most 255) met met_bytes (d + c) r.inside_leaf) in
        let i : 0 < below = subst (λ (z : ℕ). 0 < z) (ref_place below) (ref_some w (place_at below) r.below_pool) in
        pair_climbs (get_or tag (d + c) 0) leaf (get_or met (d + c) 0) below r.parts (omega arith) (omega arith) some-leaf i

    branch_made : Inner f.form (kind_at branching) (build_rec f.form (kind_at branching) shared pair) shared pair
    branch_made =
        let size : length (between tag d (d + c)) ≡ d + c - d = between_length tag d (d + c) (omega arith) (omega (arith, r.inside)) in
        let fits = run_fits f.form (between tag d (d + c)) (omega (arith, size, r.inside)) (all_between (at_most 255) tag d (d + c) tag_bytes) in
        build_inner f.form (frame_stores w) (kind_at branching) shared pair r.to.low r.to.high fits (omega (arith, two.0))
        (omega (arith, two.0, (kind_rules (kind_at branching) r.to.low r.to.high).least)) two.1

    cut_now : FrameOf f cut keys
    cut_now = cut_fits (place_at below) c met d r.cut

    fork_now : FrameOf f forking keys
    unfolding branch_at
    fork_now = build_fits cut_now 3 n hx branching r.to shared pair branch_made.fits.long

    fork_there : UpThere f forking up
    unfolding forked
    fork_there = r.above

    fork_fits : FrameOf f (link_up f up next forking) keys
    fork_fits = link_fits fork_now 3 n hx up next fork_there

    fork_in : SlotsIn f words (link_up f up next forking) n
    unfolding branch_at
    fork_in = go (place_dec x branching)
      where
        go : Dec (x ≡ branching) → SlotsIn f words (link_up f up next forking) n
        go (no ne) =
            in_kept (link_keeps fork_now n hx up next fork_there ∙ ap (slotted_of f.form) (build_away cut_now 3 n hx branching r.to shared pair branch_made.fits.long ne)
            ∙ cut_keeps (place_at below) c met d r.cut)
        go (yes e) =
            let made : Inner f.form 3 (build_rec f.form 3 shared pair) shared pair = subst (λ (y : Place). Inner f.form (kind_at y) (build_rec f.form (kind_at y) shared pair) shared pair) (sym e) branch_made in
            in_branched pair (ap (λ (y : Place). used_as (record_at f words y)) (e ∙ to) ∙ free) two.0 two.1
            (link_keeps fork_now n hx up next fork_there ∙ ap (slotted_of f.form) (build_here cut_now 3 n hx branching r.to shared pair branch_made.fits.long e)
            ∙ built_slots f.form (frame_stores w) shared pair (inner_fits made) (inner_two made) (omega (arith, two.0, (kind_rules 3 (omega arith) (omega arith)).least)) two.1)

-- ── an insert ──
module _ {words keys : List ℕ} (z : Sound words keys) (tag : List ℕ) (bytes : Bytes tag) (n : ℕ) (hx : in_pool (frame words) (inner_place 3 n) ≡ true) where
  abbrev g : Frame
  g = frame words

  sound_frame : FrameOf g words keys
  sound_frame = record { read = refl; fits = z.fits }

  -- a record that a plan takes is free
  taken : (kind k m : ℕ) → FreeAt g words kind k m → (place_at (m * 8 + k) ≡ inner_place k m) × (used_as (record_at g words (inner_place k m)) ≡ 0)
  taken kind k m h = (place_inner k m (inner_kind sound_frame k m h.pool).1, h.free)

  module _ (key-bytes : Bytes keys) (short : length tag ≤ g.form.limit) (leaf : ℕ) where
    abbrev Hung : Site → Type 0
    Hung s = FrameOf g (hung g keys tag s (leaf_ref leaf) words) keys × SlotsIn g words (hung g keys tag s (leaf_ref leaf) words) n

    -- the first tag writes no inner record
    root_in : Hung Root
    unfolding hung
    root_in = (trailer_fits_lem sound_frame 11 (leaf_ref leaf) (omega arith) (omega arith), in_kept (ap (slotted_of g.form) (trailer_record sound_frame 11 (leaf_ref leaf) (inner_place 3 n) hx)))

    tree_in : {t : Tree Held} {links : Links} {root count : ℕ} → Shown g words keys (some t) → State g words keys (store t []) links root count → (s : Site) → Planned g words keys tag s
        → SiteReady g words keys tag s (leaf_ref leaf) → Hung s
    unfolding hung grown forked
    tree_in s st site (first e) r = root_in
    tree_in s st site (adds up ref byte u e room) r =
        (change_fits sound_frame 3 n hx (place_at ref) r.here byte (change.Add (leaf_ref leaf)), add_in sound_frame n hx ref byte (leaf_ref leaf) r (into_none s st tag bytes up ref byte e))
    tree_in s st site (grows up ref byte k m u e full fr) r =
        let c = into_none s st tag bytes up ref byte e in
        let h = taken (suc (ref % 8)) k m (kind_free g words (suc (ref % 8)) k m fr) in
        (grow_fits sound_frame n hx up ref (m * 8 + k) byte (leaf_ref leaf) k m r c h.0 h.1, grow_in sound_frame n hx up ref (m * 8 + k) byte (leaf_ref leaf) k m r c h.0 h.1)
    tree_in s st site (forks up ref witness d c k m u e fr) r =
        let h = taken 1 k m (kind_free g words 1 k m fr) in
        let tb = bytes_all tag bytes in
        let kb = bytes_all keys key-bytes in
        (fork_fits sound_frame n hx tag tb kb short up ref (m * 8 + k) witness d c (leaf_ref leaf) k m (omega arith) r h.0 h.1, fork_in sound_frame n hx tag tb kb short up ref (m * 8 + k) witness d c (leaf_ref leaf) k m (omega arith) r h.0 h.1)

    site_in : {links : Links} {root count : ℕ} (d : Option (Tree Held)) → Shown g words keys d → State g words keys (store_of d) links root count → (s : Site) → Planned g words keys tag s
        → SiteReady g words keys tag s (leaf_ref leaf) → Hung s
    site_in none s st site (first e) r = root_in
    site_in none s st site (adds up ref byte u e room) r = absurd (u s.rooted)
    site_in none s st site (grows up ref byte k m u e full fr) r = absurd (u s.rooted)
    site_in none s st site (forks up ref witness d c k m u e fr) r = absurd (u s.rooted)
    site_in (some t) s st site p r = tree_in s st site p r

    pub new_in : (s : Site) (gap : Gap) (total : ℕ) → insert-plan.plan_of g words keys tag ≡ Ok (New s leaf gap) → SlotsIn g words (new_words g keys tag total s leaf gap words) n
    unfolding new_words
    new_in s gap total e =
        let r = insert_ready z bytes key-bytes short s leaf gap e in
        let h = site_in z.tree (sound_shown z) (sound_state z) s (plan_new g words keys tag s leaf gap e).planned r.site_ready in
        in_as hx (λ k m pool. leaf_in_record h.0 k m pool leaf gap.previous gap.next r.pool r.before r.after (length tag) total (count_word words + 1)) h.1

  -- another total
  pub over_in : (leaf total : ℕ) → insert-plan.plan_of g words keys tag ≡ Ok (Over leaf) → SlotsIn g words (total_at g (leaf / 8) total words) n
  unfolding total_at
  over_in leaf total e =
      let h = plan_over g words keys tag leaf e in
      let pool : in_pool g (leaf_place (leaf / 8)) ≡ true = (subst (PointThere g words keys tag) h.point_is (point_there sound_frame tag (root_word words))).seen.pool in
      let rec = set_total total (record_at g words (leaf_place (leaf / 8))) in
      in_kept (ap (slotted_of g.form) (leaf_record sound_frame 3 n hx (leaf / 8) rec pool (total_long sound_frame (leaf / 8) pool total)))
