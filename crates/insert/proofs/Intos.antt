-- A child more at a point: the record that takes it is there and has room, where it stands or moved to a larger kind, and the writes make these cells.
use Prim.Native.Nat.{ℕ, suc, ◌+◌, ◌*◌, ◌/◌, ◌%◌, ◌≤◌, ◌<◌}
use mathlib.Core.Path.{◌≡◌, sym, ap, subst, ◌∙◌}
use mathlib.Core.Logic.{◌≢◌}
use mathlib.Core.List.{List}
use mathlib.Core.Bool.{true}
use native.Mathlib.Omega.{arith}
use Rattle.points.specs.There.{Up, InnerFitsAt, UpThere}
use lib.ListN.{length, get_or}
use Rattle.states.proofs.OneCell.{used_pool}
use Rattle.frames.specs.Kind.{kind_row, children_of}
use Rattle.frames.specs.Place.{place_at, in_pool, record_at}
use Rattle.frames.specs.declared.frame.Frame.{Frame}
use Rattle.frames.proofs.KindTable.{by_kind}
use Rattle.frames.proofs.Places.{inner_kind, place_inner}
use Rattle.records.specs.View.{Held}
use Rattle.records.proofs.Owns.{inner_rule}
use Rattle.art.specs.Tags.{Tag}
use Rattle.art.specs.Stores.{Place, leaf_place, inner_place, Cell, unused, inner_cell, Store, write, apply, Used}
use Rattle.art.specs.Refs.{Refs, add_ref}
use Rattle.art.specs.Chain.{Links, leaf_ref}
use Rattle.art.specs.Points.{cell_refs, ChildAt, IntoFits}
use Rattle.art.proofs.Stores.{used_not, write_same, write_write, write_comm}
use Rattle.edits.specs.declared.representation.Change.TheVariants.{Add}
use Rattle.view.specs.Pools.{FreeAt}
use Rattle.writes.specs.At.{change_at, move_at, Roomy, Moves}
use Rattle.writes.specs.Above.{link_up}
use Rattle.states.specs.State.{State}
use Rattle.states.proofs.Steps.{state_here, state_count_word, state_zero, state_add, state_move, state_clear}
use Rattle.pointed.specs.Told.{up_told}
use Rattle.pointed.proofs.Ups.{UpSame, off_same, same_then, up_used, up_off, up_edits, up_root, inner_here, up_there, up_linked}
use Rattle.insert.specs.Apply.{grown, GrowReady}

-- a larger kind has room for more children
children_rise : (k j : ℕ) → 1 ≤ k → k < j → j ≤ 4 → children_of k < children_of j
unfolding kind_row
children_rise k j low less high = by_kind (λ i. i < j → children_of i < children_of j) (λ h. above h) (λ h. above_2 h) (λ h. above_3 h) (λ h. absurd (omega arith)) k low (omega arith) less
  where
    above : 1 < j → 4 < children_of j
    above h = by_kind (λ i. 1 < i → 4 < children_of i) (λ l. absurd (omega arith)) (λ l. omega arith) (λ l. omega arith) (λ l. omega arith) j (omega arith) high h

    above_2 : 2 < j → 16 < children_of j
    above_2 h = by_kind (λ i. 2 < i → 16 < children_of i) (λ l. absurd (omega arith)) (λ l. absurd (omega arith)) (λ l. omega arith) (λ l. omega arith) j (omega arith) high h

    above_3 : 3 < j → 48 < children_of j
    above_3 h = by_kind (λ i. 3 < i → 48 < children_of i) (λ l. absurd (omega arith)) (λ l. absurd (omega arith)) (λ l. absurd (omega arith)) (λ l. omega arith) j (omega arith) high h

module _ {f : Frame} {words keys : List ℕ} {σ : Store Held} {links : Links} {root count : ℕ} (s : State f words keys σ links root count)
    (tag : Tag) (up : Up) (ref byte : ℕ) (fits : IntoFits σ tag (up_told up) (ref % 8) (ref / 8) byte) where
  abbrev x : Place
  x = inner_place (ref % 8) (ref / 8)

  abbrev len : ℕ
  len = fits.len

  abbrev st : List ℕ
  st = fits.at_record.stored

  abbrev rs : Refs
  rs = fits.rs

  -- the record's cell with the leaf as a child more
  abbrev pub added : ℕ → Cell Held
  added n = inner_cell len st (add_ref byte (leaf_place n) rs)

  into_used : Used (σ x)
  into_used = subst Used (sym fits.at_record.shown) tt

  pub into_place : place_at ref ≡ x
  into_place = inner_here s ref into_used

  into_here : InnerFitsAt f words x
  into_here = state_here s (ref % 8) (ref / 8) len st rs fits.at_record.shown

  into_count : get_or (record_at f words x) 1 0 ≡ length rs
  into_count = state_count_word s (ref % 8) (ref / 8) len st rs fits.at_record.shown

  pub into_children : get_or (record_at f words (place_at ref)) 1 0 ≡ length (cell_refs (σ x))
  into_children =
      omega (arith, ap (λ (y : Place). get_or (record_at f words y) 1 0) into_place, into_count, ap (λ (c : Cell Held). length (cell_refs c)) fits.at_record.shown)

  -- ── in place ──
  module _ (room : get_or (record_at f words (place_at ref)) 1 0 < children_of (ref % 8)) where
    add_room : get_or (record_at f words x) 1 0 < children_of (ref % 8)
    add_room = subst (λ (y : Place). get_or (record_at f words y) 1 0 < children_of (ref % 8)) into_place room

    pub add_ready : Roomy f words (place_at ref)
    add_ready = subst (Roomy f words) (sym into_place) (record { here = into_here; room = add_room })

    pub add_state : byte < 256 → (n : ℕ) → in_pool f (leaf_place n) ≡ true → State f (change_at f (place_at ref) byte (Add (leaf_ref n)) words) keys (write σ x (added n)) links root count
    add_state low n pool =
        subst (λ (y : Place). State f (change_at f y byte (Add (leaf_ref n)) words) keys (write σ x (added n)) links root count) (sym into_place)
        (state_add s (ref % 8) (ref / 8) len st rs byte (leaf_place n) fits.at_record.shown fits.missing low (omega (arith, add_room, into_count)) pool)

  -- ── moved to a larger kind ──
  module _ (apart : (k n b : ℕ) (y : Place) → ChildAt σ k n b y → inner_place k n ≢ y) (low : byte < 256) (n : ℕ) (pool : in_pool f (leaf_place n) ≡ true)
      (j m : ℕ) (free : FreeAt f words (suc (ref % 8)) j m) where
    abbrev y : Place
    y = inner_place j m

    grow_kinds : (1 ≤ ref % 8) × (ref % 8 < j) × (j ≤ 4)
    grow_kinds = ((inner_kind s.frame (ref % 8) (ref / 8) (used_pool s x into_used)).0, free.from, (inner_kind s.frame j m free.pool).1)

    new_place : place_at (m * 8 + j) ≡ y
    new_place = place_inner j m grow_kinds.2

    new_free : σ y ≡ unused
    new_free = state_zero s y free.pool free.free

    other : x ≢ y
    other e = used_not (σ x) into_used (ap σ e ∙ new_free)

    grow_room : length rs < children_of j
    grow_room =
        omega (arith, children_rise (ref % 8) j grow_kinds.0 grow_kinds.1 grow_kinds.2, (inner_rule f.form (ref % 8) (record_at f words x) into_here.fits.ok).few, into_count)

    -- the three writes
    moved : State f (move_at f x y words) keys (write σ y (inner_cell len st rs)) links root count
    moved = state_move s (ref % 8) (ref / 8) len st rs j m fits.at_record.shown free.pool (omega (arith, grow_room))

    moved_cell : write σ y (inner_cell len st rs) y ≡ inner_cell len st rs
    moved_cell = write_same σ y (inner_cell len st rs)

    larger : State f (grown f x y byte (leaf_ref n) words) keys (write (write σ x unused) y (added n)) links root count
    unfolding grown
    larger =
        subst (λ (τ : Store Held). State f (grown f x y byte (leaf_ref n) words) keys τ links root count)
        (ap (λ (τ : Store Held). write τ x unused) (write_write σ y (inner_cell len st rs) (added n)) ∙ write_comm σ y x (added n) unused other)
        (state_clear (state_add moved j m len st rs byte (leaf_place n) moved_cell fits.missing low grow_room pool) (ref % 8) (ref / 8) (used_pool s x into_used))

    -- the record above is neither
    above_same : UpSame σ (write (write σ x unused) y (added n)) (up_told up)
    above_same =
        same_then σ (write σ x unused) (write (write σ x unused) y (added n)) (up_told up) (off_same σ (up_told up) x unused (up_off σ apart (up_told up) x fits.above))
        (off_same (write σ x unused) (up_told up) y (added n) (up_used σ (up_told up) x y fits.above new_free))

    there : UpThere f (grown f x y byte (leaf_ref n) words) up
    there = up_there larger σ up x above_same fits.above

    ready : Moves f words x y × Roomy f (move_at f x y words) y × UpThere f (grown f x y byte (leaf_ref n) words) up
    ready = (
      record { from = into_here; to = record { pool = free.pool; low = omega (arith, grow_kinds); high = grow_kinds.2 }; room = omega (arith, grow_room, into_count) },
      record { here = state_here moved j m len st rs moved_cell; room = omega (arith, state_count_word moved j m len st rs moved_cell, grow_room) },
      there,
    )

    pub grow_ready : GrowReady f words up ref (m * 8 + j) byte (leaf_ref n)
    grow_ready =
        let at : (p q : Place) → Type 0 = λ p q. Moves f words p q × Roomy f (move_at f p q words) q × UpThere f (grown f p q byte (leaf_ref n) words) up in
        let r : at (place_at ref) (place_at (m * 8 + j)) = subst (λ (p : Place). at p (place_at (m * 8 + j))) (sym into_place) (subst (at x) (sym new_place) ready) in
        record { moves = r.0; room = r.1; above = r.2 }

    pub grow_state : State f (link_up f up (m * 8 + j) (grown f (place_at ref) (place_at (m * 8 + j)) byte (leaf_ref n) words)) keys
        (apply (write (write σ x unused) y (added n)) (up_edits σ (up_told up) y)) links (up_root (up_told up) root (m * 8 + j)) count
    grow_state =
        let at : (p q : Place) → Type 0 = λ p q. State f (link_up f up (m * 8 + j) (grown f p q byte (leaf_ref n) words)) keys
        (apply (write (write σ x unused) y (added n)) (up_edits σ (up_told up) y)) links (up_root (up_told up) root (m * 8 + j)) count in
        subst (λ (p : Place). at p (place_at (m * 8 + j))) (sym into_place) (subst (at x) (sym new_place) (up_linked larger σ up x y above_same fits.above free.pool))
