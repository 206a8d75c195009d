-- A record is a part of the words, so what is done to the part is done at the place; and the form of a fitting frame stores eight prefix bytes.
use Prim.Native.Nat.{ℕ, ◌+◌, ◌*◌, ◌%◌, ◌≤◌, ◌<◌}
use mathlib.Core.Path.{◌≡◌, refl, sym, ap, ap₂, subst, ◌∙◌}
use mathlib.Core.List.{List}
use mathlib.Core.Bool.{true}
use native.Mathlib.Omega.{arith}
use lib.ListN.{length, get_or, replicate}
use mir.Syntax.{w32}
use mir.Val.{Fits}
use Rattle.lists.specs.Scan.{how_many, nonzero}
use Rattle.lists.specs.Part.{between, splice}
use Rattle.frames.specs.Kind.{children_of}
use Rattle.frames.specs.Form.{Stores, record_words}
use Rattle.frames.specs.Frame.{FrameOf, frame_of, trailer_of}
use Rattle.frames.specs.Place.{place_at, in_pool, start_at, size_at, record_at, put_at, put_key, kind_at}
use Rattle.frames.specs.declared.frame.Frame.{Frame}
use Rattle.frames.proofs.FormTable.{form_rules}
use Rattle.frames.proofs.Frames.{totals, limit_small}
use Rattle.frames.proofs.Places.{place_room, record_length, key_length}
use Rattle.records.specs.Own.{prefix_at, child_at}
use Rattle.records.proofs.Owns.{inner_rule}
use Rattle.art.specs.Chain.{leaf_ref}
use Rattle.art.specs.Stores.{Place, leaf_place, inner_place}
use Rattle.pools.specs.Leaf.{leaf_words}
use Rattle.pools.specs.Link.{set_next, set_previous}
use Rattle.edits.specs.declared.representation.Change.{Change}
use Rattle.edits.specs.declared.representation.Change.TheVariants.{Add, Remove, Replace}
use Rattle.edits.specs.Change.{Needs}
use Rattle.points.specs.There.{InnerFitsAt}
use Rattle.points.proofs.Here.{place_kind}
use Rattle.writes.specs.At.{Changes, InnerPoolAt}
use Rattle.writes.specs.Leaf.{leaf_in, leaf_out}

-- an inner record's place has the size of its kind
pub inner_size : (f : Frame) (x : Place) → kind_at x ≤ 4 → size_at f x ≡ record_words f.form (kind_at x)
inner_size f (leaf_place n) h = absurd (omega arith)
inner_size f (inner_place k n) h = refl

-- a record that is there has a place
pub here_place : {f : Frame} {words : List ℕ} {x : Place} → InnerFitsAt f words x → InnerPoolAt f x
here_place h = record { pool = h.pool; low = h.fits.low; high = h.fits.high }

-- the kind and the room of an inner place that a reference names
pub record Room (f : Frame) (words : List ℕ) (ref : ℕ) : Type 0 where
  pub low : 1 ≤ ref % 8
  pub high : ref % 8 ≤ 4
  pub size : size_at f (place_at ref) ≡ record_words f.form (ref % 8)
  pub ends : start_at f (place_at ref) + record_words f.form (ref % 8) + 16 ≤ length words

pub room_of : {f : Frame} {words keys : List ℕ} → FrameOf f words keys → (ref : ℕ) → InnerPoolAt f (place_at ref) → Room f words ref
room_of {f} {words} {keys} w ref h =
    let e = place_kind ref in
    let z : size_at f (place_at ref) ≡ record_words f.form (ref % 8) = inner_size f (place_at ref) h.high ∙ ap (record_words f.form) e in
    record {
      low = subst (λ (k : ℕ). 1 ≤ k) e h.low;
      high = subst (λ (k : ℕ). k ≤ 4) e h.high;
      size = z;
      ends = subst (λ (s : ℕ). start_at f (place_at ref) + s + 16 ≤ length words) z (place_room w (place_at ref) h.pool);
    }

-- a record's prefix is no longer than the form's limit
pub prefix_short : {f : Frame} {words : List ℕ} {x : Place} → InnerFitsAt f words x → (prefix_at f.form (record_at f words x)).full.0 ≤ f.form.limit
unfolding prefix_at
prefix_short {f} {words} {x} h = (inner_rule f.form (kind_at x) (record_at f words x) h.fits.ok).head.short

-- the part from a to e is the record at x
module _ (f : Frame) (words : List ℕ) (x : Place) {a e : ℕ} (start : a ≡ start_at f x) (end : e ≡ start_at f x + size_at f x) where
  pub part_record : between words a e ≡ record_at f words x
  part_record = ap₂ (between words) start end

  pub part_put : (p : List ℕ) → splice words a e p ≡ put_at f words x p
  part_put p = ap₂ (λ (i j : ℕ). splice words i j p) start end

-- of a record by its reference
module _ (f : Frame) (words : List ℕ) (ref : ℕ) {a e : ℕ} (start : a ≡ start_at f (place_at ref)) (end : e ≡ start_at f (place_at ref) + size_at f (place_at ref)) where
  -- what holds of the record holds of the part
  pub part_has : (P : ℕ → List ℕ → Type 0) → P (kind_at (place_at ref)) (record_at f words (place_at ref)) → P (ref % 8) (between words a e)
  part_has P h =
      subst (λ (k : ℕ). P k (between words a e)) (place_kind ref)
      (subst (P (kind_at (place_at ref))) (sym (part_record f words (place_at ref) start end)) h)

  -- what is made of the part is made of the record
  pub part_made : (g : ℕ → List ℕ → List ℕ) (p : List ℕ) → p ≡ g (ref % 8) (between words a e)
      → splice words a e p ≡ put_at f words (place_at ref) (g (kind_at (place_at ref)) (record_at f words (place_at ref)))
  part_made g p made =
      part_put f words (place_at ref) start end p
      ∙ ap (put_at f words (place_at ref)) (made ∙ ap₂ g (sym (place_kind ref)) (part_record f words (place_at ref) start end))

-- a record that a change can be made to is there, and has what the change needs
pub change_ready : (f : Frame) (words : List ℕ) (x : Place) (byte : ℕ) (change : Change) → Changes f words x byte change
    → InnerFitsAt f words x × Needs change (get_or (record_at f words x) 1 0 < children_of (kind_at x)) (0 < child_at f.form (kind_at x) (record_at f words x) byte)
change_ready f words x byte (Add ref) h = (h.here, h.room)
change_ready f words x byte Remove h = (h.here, h.child)
change_ready f words x byte (Replace ref) h = (h.here, h.child)

-- the words of an inner place
pub record_long : {f : Frame} {words keys : List ℕ} → FrameOf f words keys → (x : Place) → InnerPoolAt f x → length (record_at f words x) ≡ record_words f.form (kind_at x)
record_long {f} {words} {keys} w x h = record_length w x h.pool ∙ inner_size f x h.high

-- ── the form ──
pub frame_stores : {f : Frame} {words keys : List ℕ} → FrameOf f words keys → Stores f.form
unfolding frame_of
frame_stores {f} {words} {keys} w =
    subst (λ (g : Frame). Stores g.form) (sym w.read) (form_rules (get_or (trailer_of words) 0 0) (totals words keys w.fits).known).stores

-- a record can be built at the part, from these places
pub build_ready : {f : Frame} {words keys : List ℕ} → FrameOf f words keys → (ref a e : ℕ) → a ≡ start_at f (place_at ref)
    → e ≡ start_at f (place_at ref) + size_at f (place_at ref) → InnerPoolAt f (place_at ref)
    → (t : List ℕ) → how_many nonzero t ≤ children_of (kind_at (place_at ref))
    → (((1 ≤ ref % 8) × (ref % 8 ≤ 4)) × (length (between words a e) ≡ record_words f.form (ref % 8)))
    × (Stores f.form × (how_many nonzero t ≤ children_of (ref % 8)))
build_ready {f} {words} {keys} w ref a e start end h t few =
    let r = room_of w ref h in
    (((r.low, r.high), part_has f words ref start end (λ (k : ℕ) (l : List ℕ). length l ≡ record_words f.form k) (record_long w (place_at ref) h)), (frame_stores w, subst (λ (k : ℕ). how_many nonzero t ≤ children_of k) (place_kind ref) few))

-- ── leaves ──
-- a leaf's key bytes are a part of the key bytes
module _ {f : Frame} {words keys : List ℕ} (w : FrameOf f words keys) (n : ℕ) (h : in_pool f (leaf_place n) ≡ true) {a : ℕ} (start : a ≡ n * f.form.limit) where
  pub key_long : length (between keys a (a + f.form.limit)) ≡ f.form.limit
  key_long = ap (λ (i : ℕ). length (between keys i (i + f.form.limit))) start ∙ key_length w n h

  pub key_put : (p q : List ℕ) → p ≡ q → splice keys a (a + f.form.limit) p ≡ put_key f keys n q
  key_put p q e = ap₂ (λ (i : ℕ) (l : List ℕ). splice keys i (i + f.form.limit) l) start e

-- a word can hold the length of a tag
pub tag_fits : {f : Frame} {words keys : List ℕ} → FrameOf f words keys → (tag : List ℕ) → length tag ≤ f.form.limit → Fits w32 (length tag)
tag_fits w tag h = omega (arith, limit_small w)

-- a leaf is put in, and taken out, where its words are written after the links of its neighbours; next is what the one before then names
module _ (f : Frame) (p q : ℕ) (words : List ℕ) {l : List ℕ} where
  pub leaf_in_by : {ref next : ℕ} → l ≡ set_previous f q ref (set_next f p next words) → next ≡ ref
      → (n len total : ℕ) {out : List ℕ} → ref ≡ leaf_ref n → out ≡ put_at f l (leaf_place n) (leaf_words len p q total) → out ≡ leaf_in f n len p q total words
  unfolding leaf_in
  leaf_in_by h s n len total r e =
      e ∙ ap (λ (x : List ℕ). put_at f x (leaf_place n) (leaf_words len p q total)) (h ∙ ap₂ (λ (j k : ℕ). set_previous f q j (set_next f p k words)) r (s ∙ r))

  pub leaf_out_by : (n : ℕ) {out : List ℕ} → out ≡ put_at f l (leaf_place n) (replicate 6 0) → l ≡ set_previous f q p (set_next f p q words) → out ≡ leaf_out f n p q words
  unfolding leaf_out
  leaf_out_by n e h = e ∙ ap (λ (x : List ℕ). put_at f x (leaf_place n) (replicate 6 0)) h

-- a frame fits words that equal those that it fits
pub fits_words : {f : Frame} {l m keys : List ℕ} → FrameOf f l keys → m ≡ l → FrameOf f m keys
fits_words {f} {l} {m} {keys} w e = subst (λ (x : List ℕ). FrameOf f x keys) (sym e) w
