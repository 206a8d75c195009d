-- The slots of kind 3 after the plan of a delete: a child taken out in place clears its own slot number, a record that moves in is built in byte order, and every other write leaves them.
use Prim.Native.Nat.{ℕ, ◌+◌, ◌-◌, ◌*◌, ◌/◌, ◌%◌, ◌≤◌, ◌<◌}
use mathlib.Core.Path.{◌≡◌, refl, sym, ap, subst, ◌∙◌}
use mathlib.Core.Logic.{◌≢◌}
use mathlib.Core.List.{List, []}
use mathlib.Core.Option.{Option, none, some}
use mathlib.Core.Bool.{Bool, true, false}
use native.Mathlib.Omega.{arith}
use lib.ListN.{length, get_or, set}
use lib.Dec.{eqb, leb, ltb}
use borrow.Author.Tests.{leb-false, eqb-false}
use Rattle.lists.specs.Scan.{choose}
use Rattle.prefix.specs.Run.{merge_of}
use Rattle.prefix.specs.declared.Prefix.{Prefix}
use Rattle.prefix.proofs.Runs.{merge_length}
use Rattle.frames.specs.Kind.{children_of, mark_of}
use Rattle.frames.specs.Frame.{FrameOf, root_word, count_word, frame}
use Rattle.frames.specs.Place.{place_at, in_pool, record_at, kind_at}
use Rattle.frames.specs.declared.frame.Frame.{Frame}
use Rattle.frames.proofs.Places.{place_inner}
use Rattle.records.specs.Words.{used_as}
use Rattle.records.specs.Own.{prefix_at, child_at, InnerFits}
use Rattle.records.specs.Row.{row_at, ref_for, direct_row, Entry}
use Rattle.records.specs.View.{Held}
use Rattle.std.specs.Prelude.{Some, None, Ok, Err}
use Rattle.refusals.specs.declared.Refusal.TheVariants.{Missing}
use Rattle.points.specs.There.{Up, HasChild, UpThere}
use Rattle.records.proofs.Owns.{inner_rule}
use Rattle.art.specs.Trees.{Tree}
use Rattle.art.specs.Deletes.{held}
use Rattle.art.specs.Stores.{Place, leaf_place, inner_place, place_dec, store}
use Rattle.art.specs.Points as art
use Rattle.view.specs.Links.{links_of}
use Rattle.view.proofs.Pools.{lowest_free_lem}
use Rattle.view.proofs.Trailers.{trailer_record, trailer_fits_lem}
use Rattle.pools.specs.Pool.{lowest_free}
use Rattle.edits.specs.declared.representation.Change.TheVariants as change
use Rattle.edits.specs.Record.{spread_of, build_rec}
use Rattle.edits.specs.Rows.{Row, row_remove}
use Rattle.edits.specs.Inner.{Inner}
use Rattle.edits.proofs.Bodies.{spread_at_byte}
use Rattle.edits.proofs.Inners.{inner_own, inner_holds, inner_size, inner_climbs, inner_child, inner_fits, spread_of_lem, build_inner}
use Rattle.edits.proofs.RowChanges.{remove_length, remove_climbs, table_remove}
use Rattle.reading.specs.Answers.{Bytes}
use Rattle.reading.specs.Shown.{Shown}
use Rattle.whole.specs.Sound.{Sound}
use Rattle.points.specs.Point.{point_of}
use Rattle.points.specs.declared.insert_point.Point.{Point}
use Rattle.points.specs.declared.insert_point.Point.TheVariants as point
use Rattle.points.proofs.Here.{place_kind}
use Rattle.writes.specs.At.{change_at, drop_at, clear_at}
use Rattle.writes.specs.Above.{link_up}
use Rattle.writes.specs.declared.leaf_node.Gap.{Gap}
use Rattle.writes.proofs.Spots.{frame_stores}
use Rattle.states.specs.State.{State}
use Rattle.states.proofs.Steps.{state_byte}
use Rattle.states.proofs.Sounds.{sound_state}
use Rattle.pointed.specs.Told.{told}
use Rattle.pointed.proofs.Sounds.{sound_shown}
use Rattle.insert.proofs.Ready.{told_fits}
use Rattle.delete.specs.Plan.{merge_cut, other_entry, shrink_cut, cut_under, cut_of, point_plan, plan_of, Planned}
use Rattle.delete.specs.declared.plan.Plan.{Plan}
use Rattle.delete.specs.Apply.{joined_at, merged, shrunk, pruned, gone_words, JoinReady, MergeReady, ShrinkReady, CutReady}
use Rattle.delete.specs.declared.plan.Cut.{Cut}
use Rattle.delete.specs.declared.plan.Cut.TheVariants as cut
use Rattle.delete.proofs.Ready.{delete_ready}
use Rattle.slots.specs.Slots.{slotted_at, SlotsOut, out_kept, out_removed, out_moved, out_freed}
use Rattle.slots.proofs.Bodies.{slotted_of, child_slot, remove_slots, built_slots}
use Rattle.slots.proofs.Writes.{used_kind, not_free, change_fits, change_away, change_here, link_fits, link_keeps, prefixed_fits, prefixed_keeps, clear_fits, clear_away, clear_none, build_fits, build_away, build_here, leaf_out_record}

-- ── the plan taken apart ──
-- the cut under a record above a leaf: a move has three children or more, and goes to the lowest free record of a kind
data CutBy (f : Frame) (words : List ℕ) : Up → Cut → Type 0 where
  by_root : CutBy f words None cut.Root
  by_stay : (ref byte : ℕ) → CutBy f words (Some (ref, byte)) (cut.Stay ref byte)
  by_shrink : (upper : Up) (ref byte k : ℕ) → k ≡ ref % 8 - 1 → 3 ≤ get_or (record_at f words (place_at ref)) 1 0 → ltb (lowest_free f words k) (get_or f.caps k 0) ≡ true
      → CutBy f words (Some (ref, byte)) (cut.Shrink upper ref (lowest_free f words k * 8 + k) byte)
  by_merge : (upper : Up) (ref byte child other : ℕ) → CutBy f words (Some (ref, byte)) (cut.Merge upper ref child other)

cut_by : (f : Frame) (words : List ℕ) (upper up : Up) → CutBy f words up (cut_of f words upper up)
unfolding cut_under shrink_cut
cut_by f words upper None = by_root
cut_by f words upper (Some (ref, byte)) = go (leb count 2) refl (leb count (mark_of (ref % 8) + 1)) (ltb (lowest_free f words k) (get_or f.caps k 0)) refl
  where
    count : ℕ
    count = get_or (record_at f words (place_at ref)) 1 0

    k : ℕ
    k = ref % 8 - 1

    merge : (e : Entry) → CutBy f words (Some (ref, byte)) (merge_cut upper ref byte e)
    merge (Some (b, r)) = by_merge upper ref byte r b
    merge None = by_stay ref byte

    go : (t : Bool) → leb count 2 ≡ t → (u v : Bool) → ltb (lowest_free f words k) (get_or f.caps k 0) ≡ v → CutBy f words (Some (ref, byte))
        (choose t (merge_cut upper ref byte (other_entry byte (row_at f.form (ref % 8) (record_at f words (place_at ref))))) (choose u (choose v (cut.Shrink upper ref (lowest_free f words k * 8 + k) byte) (cut.Stay ref byte)) (cut.Stay ref byte)))
    go true e u v q = merge (other_entry byte (row_at f.form (ref % 8) (record_at f words (place_at ref))))
    go false e true true q = by_shrink upper ref byte k refl (omega (arith, leb-false count 2 e)) q
    go false e true false q = by_stay ref byte
    go false e false v q = by_stay ref byte

record Taken (f : Frame) (words keys tag : List ℕ) (c : Cut) : Type 0 where
  root : root_word words ≢ 0
  upper : Up
  up : Up
  leaf : ℕ
  point_is : point_of f words keys tag (root_word words) ≡ point.Holds upper up leaf
  cut_is : CutBy f words up c

-- equal plans make equal cuts
cut_same : {p q : Plan} → ◌≡◌ {A = Planned} (Ok p) (Ok q) → p.cut ≡ q.cut
cut_same {p} {q} e = let same : p ≡ q = cc in ap (λ (p : Plan). p.cut) same

plan_taken : (f : Frame) (words keys tag : List ℕ) (c : Cut) (n : ℕ) (gap : Gap) → plan_of f words keys tag ≡ Ok (record { cut = c; leaf = n; gap = gap }) → Taken f words keys tag c
unfolding plan_of point_plan
plan_taken f words keys tag c n gap e = go (eqb (root_word words) 0) refl e
  where
    by : root_word words ≢ 0 → (p : Point) → point_of f words keys tag (root_word words) ≡ p → point_plan f words p ≡ Ok (record { cut = c; leaf = n; gap = gap }) → Taken f words keys tag c
    by u (point.Holds upper up leaf) q h =
        record { root = u; upper = upper; up = up; leaf = leaf; point_is = q; cut_is = subst (CutBy f words up) (cut_same h) (cut_by f words upper up) }
    by u point.Clash q h = absurd (let i : ◌≡◌ {A = ℕ} 0 1 = cc in omega arith)
    by u (point.Into up ref byte) q h = absurd (let i : ◌≡◌ {A = ℕ} 0 1 = cc in omega arith)
    by u (point.Fork up ref leaf d k) q h = absurd (let i : ◌≡◌ {A = ℕ} 0 1 = cc in omega arith)
    by u point.Broken q h = absurd (let i : ◌≡◌ {A = ℕ} 0 1 = cc in omega arith)

    go : (t : Bool) → eqb (root_word words) 0 ≡ t → choose t (Err Missing) (point_plan f words (point_of f words keys tag (root_word words))) ≡ Ok (record { cut = c; leaf = n; gap = gap }) → Taken f words keys tag c
    go true t h = absurd (let i : ◌≡◌ {A = ℕ} 0 1 = cc in omega arith)
    go false t h = by (eqb-false (root_word words) 0 t) (point_of f words keys tag (root_word words)) refl h

module _ {f : Frame} {words keys : List ℕ} (w : FrameOf f words keys) (n : ℕ) (hx : in_pool f (inner_place 3 n) ≡ true) where
  abbrev x : Place
  x = inner_place 3 n

  -- ── a child less in place ──
  stay_out : (ref byte : ℕ) → byte < 256 → HasChild f words (place_at ref) byte → SlotsOut (slotted_at f words n) (slotted_at f (change_at f (place_at ref) byte change.Remove words) n)
  stay_out ref byte low r = go (place_dec x (place_at ref))
    where
      go : Dec (x ≡ place_at ref) → SlotsOut (slotted_at f words n) (slotted_at f (change_at f (place_at ref) byte change.Remove words) n)
      go (no ne) = out_kept (ap (slotted_of f.form) (change_away w 3 n hx (place_at ref) r.here byte change.Remove ne))
      go (yes e) =
          let fits : InnerFits f.form 3 (record_at f words x) = subst (λ (y : Place). InnerFits f.form (kind_at y) (record_at f words y)) (sym e) r.here.fits in
          let child : 0 < child_at f.form 3 (record_at f words x) byte = subst (λ (y : Place). 0 < child_at f.form (kind_at y) (record_at f words y) byte) (sym e) r.child in
          out_removed byte low (inner_rule f.form 3 (record_at f words x) fits.ok).head.kind_word (child_slot fits byte low child) (ap (slotted_of f.form) (change_here w 3 n hx (place_at ref) r.here byte change.Remove e) ∙ remove_slots fits byte low child)

  -- ── a record moved without a child ──
  module _ (upper : Up) (ref next byte k m : ℕ) (low : byte < 256) (three : 3 ≤ get_or (record_at f words (place_at ref)) 1 0) (r : ShrinkReady f words upper ref next byte)
      (to : place_at next ≡ inner_place k m) (free : used_as (record_at f words (inner_place k m)) ≡ 0) where
    abbrev old : Place
    old = place_at ref

    abbrev home : Place
    home = place_at next

    abbrev rec : List ℕ
    rec = record_at f words old

    abbrev pre : Prefix
    pre = prefix_at f.form rec

    abbrev row : Row
    row = row_at f.form (kind_at old) rec

    abbrev left : Row
    left = direct_row (set (spread_of f.form (kind_at old) rec) byte 0)

    own : Inner f.form (kind_at old) rec pre row
    own = inner_own r.drops.from.here.fits

    some_child : 0 < ref_for byte row
    some_child = omega (arith, inner_child own byte low, r.drops.from.child)

    left_is : left ≡ row_remove byte row
    unfolding spread_of
    left_is =
        let v = spread_of_lem own in
        table_remove byte (spread_of f.form (kind_at old) rec) v.0 low (omega (arith, spread_at_byte (inner_holds own) byte low, some_child)) ∙ ap (row_remove byte) v.1

    fewer : (2 ≤ length (row_remove byte row)) × (length (row_remove byte row) ≤ children_of (kind_at home))
    fewer =
        let size = remove_length byte row some_child in
        (omega (arith, inner_size own, three), omega (arith, inner_size own, r.drops.room))

    made : Inner f.form (kind_at home) (build_rec f.form (kind_at home) pre left) pre (row_remove byte row)
    made =
        subst (λ (l : Row). Inner f.form (kind_at home) (build_rec f.form (kind_at home) pre l) pre (row_remove byte row)) (sym left_is)
        (build_inner f.form (frame_stores w) (kind_at home) pre (row_remove byte row) r.drops.to.low r.drops.to.high (inner_fits own) fewer.0 fewer.1 (remove_climbs byte 0 row (inner_climbs own)))

    abbrev dropped : List ℕ
    dropped = drop_at f old home byte words

    abbrev after : List ℕ
    after = clear_at f old dropped

    dropped_fits : FrameOf f dropped keys
    unfolding drop_at
    dropped_fits = build_fits w 3 n hx home r.drops.to pre left made.fits.long

    dropped_away : x ≢ home → record_at f dropped x ≡ record_at f words x
    unfolding drop_at
    dropped_away ne = build_away w 3 n hx home r.drops.to pre left made.fits.long ne

    dropped_here : x ≡ home → record_at f dropped x ≡ build_rec f.form 3 pre (row_remove byte row)
    unfolding drop_at
    dropped_here e = build_here w 3 n hx home r.drops.to pre left made.fits.long e ∙ ap (build_rec f.form 3 pre) left_is

    after_fits : FrameOf f after keys
    after_fits = clear_fits dropped_fits 3 n hx old r.drops.from.here.pool

    there : UpThere f after upper
    unfolding shrunk
    there = r.above

    abbrev done : List ℕ
    done = link_up f upper next after

    linked : slotted_at f done n ≡ slotted_at f after n
    linked = link_keeps after_fits n hx upper next there

    shrink_fits : FrameOf f done keys
    shrink_fits = link_fits after_fits 3 n hx upper next there

    shrink_out : SlotsOut (slotted_at f words n) (slotted_at f done n)
    shrink_out = go (place_dec x home) (place_dec x old)
      where
        was_free : x ≡ home → (slotted_at f words n).used ≡ 0
        was_free e = ap (λ (y : Place). used_as (record_at f words y)) (e ∙ to) ∙ free

        go : Dec (x ≡ home) → Dec (x ≡ old) → SlotsOut (slotted_at f words n) (slotted_at f done n)
        go (yes e) (yes q) = absurd (not_free w 3 n hx old r.drops.from.here q (was_free e))
        go (yes e) (no ne) =
            let less : length (row_remove byte row) ≤ children_of 3 = subst (λ (y : Place). length (row_remove byte row) ≤ children_of (kind_at y)) (sym e) fewer.1 in
            out_moved (row_remove byte row) (was_free e) (remove_climbs byte 0 row (inner_climbs own))
            (linked ∙ ap (slotted_of f.form) (clear_away dropped_fits 3 n hx old r.drops.from.here.pool ne ∙ dropped_here e)
            ∙ built_slots f.form (frame_stores w) pre (row_remove byte row) (inner_fits own) fewer.0 less (remove_climbs byte 0 row (inner_climbs own)))
        go (no ne) (yes q) =
            out_freed (used_kind w 3 n hx old r.drops.from.here q) (linked ∙ clear_none dropped_fits n hx old r.drops.from.here.pool q)
        go (no ne) (no nq) = out_kept (linked ∙ ap (slotted_of f.form) (clear_away dropped_fits 3 n hx old r.drops.from.here.pool nq ∙ dropped_away ne))

  -- ── a record whose last child takes its place ──
  joined_fits : (y child : Place) (byte : ℕ) → JoinReady f words child → FrameOf f (joined_at f y child byte words) keys
  joined_fits y (leaf_place m) byte h = w
  joined_fits y (inner_place k m) byte h =
      let p = merge_of (prefix_at f.form (record_at f words y)) byte (prefix_at f.form (record_at f words (inner_place k m))) in
      prefixed_fits w 3 n hx (inner_place k m) h p (merge_length _ byte _)

  joined_keeps : (y child : Place) (byte : ℕ) → JoinReady f words child → slotted_at f (joined_at f y child byte words) n ≡ slotted_at f words n
  joined_keeps y (leaf_place m) byte h = refl
  joined_keeps y (inner_place k m) byte h =
      let p = merge_of (prefix_at f.form (record_at f words y)) byte (prefix_at f.form (record_at f words (inner_place k m))) in
      prefixed_keeps w n hx (inner_place k m) h p (merge_length _ byte _)

  module _ (upper : Up) (ref child byte : ℕ) (r : MergeReady f words upper ref child byte) where
    abbrev joined : List ℕ
    joined = joined_at f (place_at ref) (place_at child) byte words

    joined_now : FrameOf f joined keys
    joined_now = joined_fits (place_at ref) (place_at child) byte r.child_ready

    abbrev freed : List ℕ
    freed = clear_at f (place_at ref) joined

    freed_fits : FrameOf f freed keys
    freed_fits = clear_fits joined_now 3 n hx (place_at ref) r.here.pool

    merge_there : UpThere f freed upper
    unfolding merged
    merge_there = r.above

    merge_fits : FrameOf f (link_up f upper child freed) keys
    merge_fits = link_fits freed_fits 3 n hx upper child merge_there

    merge_out : SlotsOut (slotted_at f words n) (slotted_at f (link_up f upper child freed) n)
    merge_out = go (place_dec x (place_at ref))
      where
        go : Dec (x ≡ place_at ref) → SlotsOut (slotted_at f words n) (slotted_at f (link_up f upper child freed) n)
        go (yes e) =
            out_freed (used_kind w 3 n hx (place_at ref) r.here e)
            (link_keeps freed_fits n hx upper child merge_there ∙ clear_none joined_now n hx (place_at ref) r.here.pool e)
        go (no ne) =
            out_kept (link_keeps freed_fits n hx upper child merge_there ∙ ap (slotted_of f.form) (clear_away joined_now 3 n hx (place_at ref) r.here.pool ne)
            ∙ joined_keeps (place_at ref) (place_at child) byte r.child_ready)

-- ── a delete ──
module _ {words keys : List ℕ} (z : Sound words keys) (tag : List ℕ) (bytes : Bytes tag) (n : ℕ) (hx : in_pool (frame words) (inner_place 3 n) ≡ true) where
  abbrev g : Frame
  g = frame words

  sound_frame : FrameOf g words keys
  sound_frame = record { read = refl; fits = z.fits }

  -- the byte of the leaf's record is a byte
  byte_low : root_word words ≢ 0 → (upper : Up) (ref byte leaf : ℕ) → point_of g words keys tag (root_word words) ≡ point.Holds upper (Some (ref, byte)) leaf → byte < 256
  byte_low u upper ref byte leaf e = go z.tree (sound_shown z) (sound_state z)
    where
      go : (d : Option (Tree Held)) → Shown g words keys d → State g words keys (art.store_of d) (links_of g words) (root_word words) (length (held d)) → byte < 256
      go none s st = absurd (u s.rooted)
      go (some t) s st =
          let above = (subst (λ (p : Point). art.PointFits (store t []) tag (told p)) e (told_fits s tag bytes)).above in
          state_byte st (ref % 8) (ref / 8) above.len above.parent.stored above.rs byte _ above.parent.shown above.child

  abbrev Pruned : Cut → Type 0
  Pruned c = FrameOf g (pruned g c words) keys × SlotsOut (slotted_at g words n) (slotted_at g (pruned g c words) n)

  cut_out : root_word words ≢ 0 → (upper up : Up) (leaf : ℕ) (c : Cut) → point_of g words keys tag (root_word words) ≡ point.Holds upper up leaf → CutBy g words up c → CutReady g words c → Pruned c
  unfolding pruned shrunk merged
  cut_out u upper up leaf c e by_root r = (trailer_fits_lem sound_frame 11 0 (omega arith) (omega arith), out_kept (ap (slotted_of g.form) (trailer_record sound_frame 11 0 (inner_place 3 n) hx)))
  cut_out u upper up leaf c e (by_stay ref byte) r =
      (change_fits sound_frame 3 n hx (place_at ref) r.here byte change.Remove, stay_out sound_frame n hx ref byte (byte_low u upper ref byte leaf e) r)
  cut_out u upper up leaf c e (by_shrink above ref byte k q three room) r =
      let m = lowest_free g words k in
      let low = byte_low u upper ref byte leaf e in
      let high : k ≤ 4 = omega (arith, place_kind (m * 8 + k), r.drops.to.high) in
      let to = place_inner k m high in
      let pool : in_pool g (inner_place k m) ≡ true = ap (in_pool g) (sym to) ∙ r.drops.to.pool in
      let free = lowest_free_lem g words (inner_place k m) pool refl in
      (shrink_fits sound_frame n hx above ref (m * 8 + k) byte k m low three r to free, shrink_out sound_frame n hx above ref (m * 8 + k) byte k m low three r to free)
  cut_out u upper up leaf c e (by_merge above ref byte child other) r = (merge_fits sound_frame n hx above ref child other r, merge_out sound_frame n hx above ref child other r)

  pub gone_out : (c : Cut) (leaf : ℕ) (gap : Gap) → plan_of g words keys tag ≡ Ok (record { cut = c; leaf = leaf; gap = gap }) → SlotsOut (slotted_at g words n) (slotted_at g (gone_words g c leaf gap words) n)
  unfolding gone_words
  gone_out c leaf gap e =
      let r = delete_ready z tag bytes c leaf gap e in
      let t = plan_taken g words keys tag c leaf gap e in
      let h = cut_out t.root t.upper t.up t.leaf c t.point_is t.cut_is r.cut_ready in
      subst (SlotsOut (slotted_at g words n)) (sym (ap (slotted_of g.form) (leaf_out_record h.0 3 n hx leaf gap.previous gap.next r.pool r.before r.after (count_word words - 1)))) h.1
