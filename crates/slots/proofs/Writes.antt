-- What each write makes of the record at one place, and of its slots in kind 3: a write elsewhere leaves it, since places lie apart, and a write there is the change of its words.
use Prim.Native.Nat.{ℕ, ◌<◌}
use mathlib.Core.Path.{◌≡◌, refl, sym, ap, subst, ◌∙◌}
use mathlib.Core.Logic.{inl, inr, ◌≢◌}
use mathlib.Core.List.{List}
use mathlib.Core.Bool.{true}
use native.Mathlib.Omega.{arith}
use Rattle.std.specs.Prelude.{Some, None}
use Rattle.points.specs.There.{Up, InnerFitsAt, HasChild, UpThere}
use lib.ListN.{length, set, replicate, length-replicate}
use Rattle.lists.proofs.Tests.{zeros_at}
use Rattle.prefix.specs.declared.Prefix.{Prefix}
use Rattle.frames.specs.Form.{record_words}
use Rattle.frames.specs.Frame.{FrameOf}
use Rattle.frames.specs.Place.{place_at, in_pool, size_at, record_at, put_at, kind_at}
use Rattle.frames.specs.declared.frame.Frame.{Frame}
use Rattle.frames.proofs.Places.{record_length}
use Rattle.records.specs.Words.{used_as}
use Rattle.records.specs.Own.{child_at, InnerFits}
use Rattle.records.proofs.Owns.{inner_rule}
use Rattle.art.specs.Stores.{Place, leaf_place, inner_place, place_dec}
use Rattle.art.specs.Chain.{leaf_ref}
use Rattle.art.proofs.Stores.{leaf_inner}
use Rattle.pools.specs.Leaf.{leaf_words}
use Rattle.pools.specs.Link.{LeafOrEnd, set_trailer, set_link, set_next, set_previous}
use Rattle.view.specs.Links.{Direction}
use Rattle.view.proofs.Puts.{put_same, put_other, put_fits}
use Rattle.view.proofs.Trailers.{trailer_record, trailer_fits_lem}
use Rattle.view.proofs.Links.{next_way, previous_way, link_trailer, link_put, link_long, next_fits, previous_fits}
use Rattle.view.proofs.Leaves.{words_long}
use Rattle.edits.specs.declared.representation.Change.{Change}
use Rattle.edits.specs.declared.representation.Change.TheVariants.{Replace}
use Rattle.edits.specs.Head.{set_prefix}
use Rattle.edits.specs.Record.{change_of, build_rec}
use Rattle.edits.specs.Rows.{Row}
use Rattle.edits.proofs.Inners.{prefix_long}
use Rattle.writes.specs.At.{change_at, prefixed_at, clear_at, InnerPoolAt}
use Rattle.writes.specs.Above.{link_up}
use Rattle.writes.specs.Leaf.{leaf_in, leaf_out}
use Rattle.writes.proofs.Spots.{inner_size, frame_stores}
use Rattle.slots.specs.Slots.{slotted, slotted_at}
use Rattle.slots.proofs.Bodies.{slotted_of, change_long, replace_slots, prefix_slots, clear_slots}

module _ {f : Frame} {words keys : List ℕ} (w : FrameOf f words keys) (k n : ℕ) (hx : in_pool f (inner_place k n) ≡ true) where
  abbrev x : Place
  x = inner_place k n

  abbrev rec : List ℕ
  rec = record_at f words x

  -- one that obeys its rule has its kind in word 0, and is not free
  pub used_kind : (y : Place) → InnerFitsAt f words y → x ≡ y → used_as rec ≡ k
  used_kind y h e = let fits = subst (λ (z : Place). InnerFits f.form (kind_at z) (record_at f words z)) (sym e) h.fits in (inner_rule f.form k rec fits.ok).head.kind_word

  pub not_free : (y : Place) → InnerFitsAt f words y → x ≡ y → used_as rec ≢ 0
  not_free y h e z = omega (arith, z, used_kind y h e, ap kind_at e, h.fits.low)

  -- what holds of the record before, and of the one written where that is the place, holds after
  put_case : (P : List ℕ → Type 0) (y : Place) (new : List ℕ) → in_pool f y ≡ true → length new ≡ size_at f y → (x ≢ y → P rec) → (x ≡ y → P new) → P (record_at f (put_at f words y new) x)
  put_case P y new hy fit away here = go (place_dec x y)
    where
      go : Dec (x ≡ y) → P (record_at f (put_at f words y new) x)
      go (yes e) = subst P (sym (ap (record_at f (put_at f words y new)) e ∙ put_same w y new hy fit)) (here e)
      go (no ne) = subst P (sym (put_other w y new hy fit x hx ne)) (away ne)

  -- ── the children changed ──
  module _ (y : Place) (h : InnerFitsAt f words y) (b : ℕ) (change : Change) where
    changed_fit : length (change_of f.form (kind_at y) (record_at f words y) b change) ≡ size_at f y
    changed_fit = change_long h.fits b change ∙ sym (inner_size f y h.fits.high)

    pub change_fits : FrameOf f (change_at f y b change words) keys
    unfolding change_at
    change_fits = put_fits w y (change_of f.form (kind_at y) (record_at f words y) b change) h.pool changed_fit

    change_case : (P : List ℕ → Type 0) → (x ≢ y → P rec) → (x ≡ y → InnerFits f.form k rec → P (change_of f.form k rec b change)) → P (record_at f (change_at f y b change words) x)
    unfolding change_at
    change_case P away here =
        put_case P y (change_of f.form (kind_at y) (record_at f words y) b change) h.pool changed_fit away
        (λ e. subst (λ (z : Place). P (change_of f.form (kind_at z) (record_at f words z) b change)) e (here e (subst (λ (z : Place). InnerFits f.form (kind_at z) (record_at f words z)) (sym e) h.fits)))

    pub change_away : x ≢ y → record_at f (change_at f y b change words) x ≡ rec
    change_away ne = change_case (λ l. l ≡ rec) (λ q. refl) (λ e fits. absurd (ne e))

    pub change_here : x ≡ y → record_at f (change_at f y b change words) x ≡ change_of f.form k rec b change
    change_here e = change_case (λ l. l ≡ change_of f.form k rec b change) (λ ne. absurd (ne e)) (λ q fits. refl)

  pub link_fits : (up : Up) (ref : ℕ) → UpThere f words up → FrameOf f (link_up f up ref words) keys
  link_fits None ref h = trailer_fits_lem w 11 ref (omega arith) (omega arith)
  link_fits (Some (above, b)) ref h = change_fits (place_at above) h.here b (Replace ref)

  -- a free record stays free
  pub link_free : (up : Up) (ref : ℕ) → UpThere f words up → used_as rec ≡ 0 → used_as (record_at f (link_up f up ref words) x) ≡ 0
  link_free None ref h e = ap used_as (trailer_record w 11 ref x hx) ∙ e
  link_free (Some (above, b)) ref h e =
      change_case (place_at above) h.here b (Replace ref) (λ l. used_as l ≡ 0) (λ ne. e) (λ q fits. absurd (omega (arith, e, (inner_rule f.form k rec fits.ok).head.kind_word, fits.low)))

  -- ── another prefix ──
  module _ (y : Place) (h : InnerFitsAt f words y) (p : Prefix) (eight : length p.stored ≡ 8) where
    prefixed_fit : length (set_prefix f.form p (record_at f words y)) ≡ size_at f y
    prefixed_fit = prefix_long f.form (frame_stores w) p (record_at f words y) eight (omega (arith, h.fits.long)) ∙ record_length w y h.pool

    pub prefixed_fits : FrameOf f (prefixed_at f y p words) keys
    unfolding prefixed_at
    prefixed_fits = put_fits w y (set_prefix f.form p (record_at f words y)) h.pool prefixed_fit

  -- ── freed ──
  module _ (y : Place) (hy : in_pool f y ≡ true) where
    pub clear_fits : FrameOf f (clear_at f y words) keys
    unfolding clear_at
    clear_fits = put_fits w y (replicate (size_at f y) 0) hy (length-replicate (size_at f y) 0)

    pub clear_away : x ≢ y → record_at f (clear_at f y words) x ≡ rec
    unfolding clear_at
    clear_away ne = put_other w y (replicate (size_at f y) 0) hy (length-replicate (size_at f y) 0) x hx ne

    pub clear_here : x ≡ y → record_at f (clear_at f y words) x ≡ replicate (record_words f.form k) 0
    unfolding clear_at
    clear_here e =
        ap (record_at f (put_at f words y (replicate (size_at f y) 0))) e ∙ put_same w y (replicate (size_at f y) 0) hy (length-replicate (size_at f y) 0) ∙ ap (λ (z : Place). replicate (size_at f z) 0) (sym e)

    pub clear_used : x ≡ y → used_as (record_at f (clear_at f y words) x) ≡ 0
    clear_used e = ap used_as (clear_here e) ∙ zeros_at (record_words f.form k) 0

  -- ── built ──
  module _ (y : Place) (hy : InnerPoolAt f y) (p : Prefix) (row : Row) (long : length (build_rec f.form (kind_at y) p row) ≡ record_words f.form (kind_at y)) where
    built_fit : length (build_rec f.form (kind_at y) p row) ≡ size_at f y
    built_fit = long ∙ sym (inner_size f y hy.high)

    pub build_fits : FrameOf f (put_at f words y (build_rec f.form (kind_at y) p row)) keys
    build_fits = put_fits w y (build_rec f.form (kind_at y) p row) hy.pool built_fit

    pub build_away : x ≢ y → record_at f (put_at f words y (build_rec f.form (kind_at y) p row)) x ≡ rec
    build_away ne = put_other w y (build_rec f.form (kind_at y) p row) hy.pool built_fit x hx ne

    pub build_here : x ≡ y → record_at f (put_at f words y (build_rec f.form (kind_at y) p row)) x ≡ build_rec f.form k p row
    build_here e =
        ap (record_at f (put_at f words y (build_rec f.form (kind_at y) p row))) e ∙ put_same w y (build_rec f.form (kind_at y) p row) hy.pool built_fit
        ∙ ap (λ (z : Place). build_rec f.form (kind_at z) p row) (sym e)

  -- ── leaves and links ──
  link_record : {t i : ℕ} → Direction t i → (ref v : ℕ) → LeafOrEnd f ref → record_at f (set_link t i f ref v words) x ≡ rec
  link_record {t} {i} way ref v (inl e) = ap (λ (l : List ℕ). record_at f l x) (link_trailer w way v ref e) ∙ trailer_record w t v x hx
  link_record {t} {i} way ref v (inr u) =
      let y : Place = leaf_place u.0 in
      ap (λ (l : List ℕ). record_at f l x) (link_put w way v ref u.0 u.1) ∙ put_other w y (set (record_at f words y) i v) u.2 (link_long w way v u.0 u.2) x hx (λ e. leaf_inner u.0 k n (sym e))

  next_record : (ref v : ℕ) → LeafOrEnd f ref → record_at f (set_next f ref v words) x ≡ rec
  unfolding set_next
  next_record = link_record next_way

  previous_record : (ref v : ℕ) → LeafOrEnd f ref → record_at f (set_previous f ref v words) x ≡ rec
  unfolding set_previous
  previous_record = link_record previous_way

  pub leaf_record : (m : ℕ) (new : List ℕ) → in_pool f (leaf_place m) ≡ true → length new ≡ 6 → record_at f (put_at f words (leaf_place m) new) x ≡ rec
  leaf_record m new hm fit = put_other w (leaf_place m) new hm fit x hx (λ e. leaf_inner m k n (sym e))

-- a leaf put into the list, or taken out of it, and the count leave every inner record
module _ {f : Frame} {words keys : List ℕ} (w : FrameOf f words keys) (k n : ℕ) (hx : in_pool f (inner_place k n) ≡ true) (m previous next : ℕ) (hm : in_pool f (leaf_place m) ≡ true)
    (before : LeafOrEnd f previous) (after : LeafOrEnd f next) where
  pub leaf_in_record : (len total count : ℕ) → record_at f (set_trailer 14 count (leaf_in f m len previous next total words)) (inner_place k n) ≡ record_at f words (inner_place k n)
  unfolding leaf_in
  leaf_in_record len total count =
      let v = leaf_ref m in
      let w₁ = next_fits w previous v before in
      let w₂ = previous_fits w₁ next v after in
      let new = leaf_words len previous next total in
      let long = words_long len previous next total in
      trailer_record (put_fits w₂ (leaf_place m) new hm long) 14 count (inner_place k n) hx ∙ leaf_record w₂ k n hx m new hm long ∙ previous_record w₁ k n hx next v after ∙ next_record w k n hx previous v before

  pub leaf_out_record : (count : ℕ) → record_at f (set_trailer 14 count (leaf_out f m previous next words)) (inner_place k n) ≡ record_at f words (inner_place k n)
  unfolding leaf_out
  leaf_out_record count =
      let w₁ = next_fits w previous next before in
      let w₂ = previous_fits w₁ next previous after in
      let new : List ℕ = replicate 6 0 in
      trailer_record (put_fits w₂ (leaf_place m) new hm refl) 14 count (inner_place k n) hx ∙ leaf_record w₂ k n hx m new hm refl ∙ previous_record w₁ k n hx next previous after ∙ next_record w k n hx previous next before

-- ── the slots of a record of kind 3 ──
module _ {f : Frame} {words keys : List ℕ} (w : FrameOf f words keys) (n : ℕ) (hx : in_pool f (inner_place 3 n) ≡ true) where
  -- another reference for a child leaves them
  replace_keeps : (y : Place) (b r : ℕ) → HasChild f words y b → slotted_at f (change_at f y b (Replace r) words) n ≡ slotted_at f words n
  replace_keeps y b r h =
      change_case w 3 n hx y h.here b (Replace r) (λ l. slotted_of f.form l ≡ slotted_at f words n) (λ ne. refl)
      (λ e fits. replace_slots fits b r (subst (λ (z : Place). 0 < child_at f.form (kind_at z) (record_at f words z) b) (sym e) h.child))

  pub link_keeps : (up : Up) (ref : ℕ) → UpThere f words up → slotted_at f (link_up f up ref words) n ≡ slotted_at f words n
  link_keeps None ref h = ap (slotted_of f.form) (trailer_record w 11 ref (inner_place 3 n) hx)
  link_keeps (Some (above, b)) ref h = replace_keeps (place_at above) b ref h

  pub prefixed_keeps : (y : Place) → InnerFitsAt f words y → (p : Prefix) → length p.stored ≡ 8 → slotted_at f (prefixed_at f y p words) n ≡ slotted_at f words n
  unfolding prefixed_at
  prefixed_keeps y h p eight =
      put_case w 3 n hx (λ l. slotted_of f.form l ≡ slotted_at f words n) y (set_prefix f.form p (record_at f words y)) h.pool (prefixed_fit w 3 n hx y h p eight) (λ ne. refl)
      (λ e. subst (λ (z : Place). slotted_of f.form (set_prefix f.form p (record_at f words z)) ≡ slotted_at f words n) e
      (prefix_slots f.form (frame_stores w) p (record_at f words (inner_place 3 n)) eight (record_length w (inner_place 3 n) hx)))

  pub clear_none : (y : Place) → in_pool f y ≡ true → inner_place 3 n ≡ y → slotted_at f (clear_at f y words) n ≡ slotted 0 (replicate 256 0)
  clear_none y hy e = ap (slotted_of f.form) (clear_here w 3 n hx y hy e) ∙ clear_slots f.form
