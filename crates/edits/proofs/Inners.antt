-- An inner record that obeys its rule, with its prefix and its row: what each change of a record makes of the two, and the cell it shows.
use Prim.Native.Nat.{ℕ, ◌+◌, ◌-◌, ◌≤◌, ◌<◌}
use mathlib.Core.Path.{◌≡◌, refl, sym, ap, ap₂, subst, ◌∙◌}
use mathlib.Core.List.{List, [], ◌++◌, append-nil}
use mathlib.Core.Bool.{Bool, true}
use native.Mathlib.Omega.{arith}
use lib.ListN.{length, get_or, set, replicate, length-set, length-append, length-replicate, get_or-append}
use lib.Seq.{get_or-set_same, get_or-set_other}
use borrow.Author.Tests.{eq-eqb, ne_eqb, le-leb}
use Rattle.lists.specs.Scan.{choose, at_most, all_pass, nonzero, how_many}
use Rattle.lists.specs.Part.{between}
use Rattle.lists.proofs.Tests.{and_both}
use Rattle.lists.proofs.Parts.{between_left, between_middle, between_set_before, splice_length, splice_same, splice_before, splice_after, splice_at_before}
use Rattle.prefix.specs.Run.{capped, held}
use Rattle.prefix.specs.declared.Prefix.{Prefix}
use Rattle.frames.specs.Kind.{children_of, body_words}
use Rattle.frames.specs.Form.{header, record_words, Stores, pack_of, unpack_of, stored_of}
use Rattle.frames.proofs.FormTable.{stored_eight, pack_length, unpack_pack, stored_part}
use Rattle.records.specs.Own.{prefix_at, head_ok, body_ok, body_part, inner_ok, child_at, InnerFits}
use Rattle.records.specs.Row.{body_row, row_at, ref_for, direct_row, Climbs}
use Rattle.records.specs.View.{Held, places, inner_cell_of}
use Rattle.frames.specs.declared.form.Form.{Form}
use Rattle.records.proofs.Owns.{InnerRule, inner_rule, body_fits}
use Rattle.art.specs.Stores.{Cell, unused, inner_cell}
use Rattle.edits.specs.declared.representation.Change.{Change}
use Rattle.edits.specs.Change.{count_in}
use Rattle.edits.specs.Head.{set_prefix, set_head}
use Rattle.edits.specs.Body.{body_change, body_of}
use Rattle.edits.specs.Record.{with_body, change_of, spread_of, build_rec}
use Rattle.edits.specs.Inner.{PrefixFits, Inner}
use Rattle.edits.specs.Rows.{Row, row_change, Takes}
use Rattle.edits.proofs.Shown.{Holds, holds_size, holds_climbs, holds_child}
use Rattle.edits.proofs.Bodies.{holds_change, holds_built, spread_length_is, spread_shows, spread_count}

-- the cell of this length, prefix and row
abbrev shown : ℕ → Prefix → Row → Cell Held
shown n p row = inner_cell n (held p) (places row)

-- one that obeys its rule has its own prefix and row
pub inner_own : {form : Form} {kind : ℕ} {rec : List ℕ} → InnerFits form kind rec → Inner form kind rec (prefix_at form rec) (row_at form kind rec)
inner_own w = record { fits = w; prefix = refl; shows = refl }

-- ── what it says of the record's words ──
module _ {form : Form} {kind : ℕ} {rec : List ℕ} {p : Prefix} {row : Row} (i : Inner form kind rec p row) where
  rule : InnerRule form kind rec
  rule = inner_rule form kind rec i.fits.ok

  pub inner_holds : Holds kind (body_part form kind rec) (get_or rec 1 0) row
  inner_holds = record { fits = body_fits i.fits; shows = i.shows }

  pub inner_kind : get_or rec 0 0 ≡ kind
  inner_kind = rule.head.kind_word

  pub inner_size : length row ≡ get_or rec 1 0
  inner_size = holds_size inner_holds

  pub inner_two : 2 ≤ length row
  inner_two = omega (arith, rule.head.two, inner_size)

  pub inner_full : get_or rec 2 0 ≡ p.full.0
  unfolding prefix_at
  inner_full = ap (λ (q : Prefix). q.full.0) i.prefix

  pub inner_climbs : Climbs 0 row
  inner_climbs = holds_climbs inner_holds

  pub inner_child : (b : ℕ) → b < 256 → child_at form kind rec b ≡ ref_for b row
  unfolding child_at
  inner_child b h = holds_child inner_holds b h

  pub inner_fits : PrefixFits form p
  unfolding prefix_at
  inner_fits =
      subst (PrefixFits form) i.prefix (record { short = rule.head.short; eight = stored_eight form rec; bytes = rule.head.bytes; rest = rule.head.rest })

  -- the cell
  pub inner_shows : inner_cell_of form kind rec ≡ inner_cell p.full.0 (held p) (places row)
  inner_shows =
      ap (λ (t : Bool). choose t unused (shown (get_or rec 2 0) (prefix_at form rec) (row_at form kind rec))) (ne_eqb (get_or rec 0 0) 0 (λ z. omega (arith, inner_kind, i.fits.low)))
      ∙ ap₂ (λ (q : Prefix) (l : Row). shown (get_or rec 2 0) q l) i.prefix i.shows
      ∙ ap (λ (n : ℕ). shown n p row) inner_full

  -- its references by their bytes
  pub spread_of_lem : (length (spread_of form kind rec) ≡ 256) × (direct_row (spread_of form kind rec) ≡ row) × (how_many nonzero (spread_of form kind rec) ≡ length row)
  unfolding spread_of
  spread_of_lem = (spread_length_is inner_holds, spread_shows inner_holds, spread_count inner_holds ∙ sym inner_size)

-- ── a record from its head and its body ──
pub record Head (form : Form) (rec : List ℕ) (kind n : ℕ) (p : Prefix) : Type 0 where
  pub first : get_or rec 0 0 ≡ kind
  pub second : get_or rec 1 0 ≡ n
  pub prefix : prefix_at form rec ≡ p

inner_made : (form : Form) (kind : ℕ) (rec : List ℕ) (n : ℕ) (p : Prefix) (body : List ℕ) (row : Row) → length rec ≡ record_words form kind → Head form rec kind n p → PrefixFits form p
    → 2 ≤ n → body_part form kind rec ≡ body → Holds kind body n row → Inner form kind rec p row
unfolding inner_ok head_ok prefix_at
inner_made form kind rec n p body row long h f two e s =
    let full : get_or rec 2 0 ≡ p.full.0 = ap (λ (q : Prefix). q.full.0) h.prefix in
    let stored : stored_of form rec ≡ p.stored = ap (λ (q : Prefix). q.stored) h.prefix in
    let head : head_ok form kind rec ≡ true =
    and_both (and_both (and_both (and_both
    (eq-eqb (get_or rec 0 0) kind h.first)
    (le-leb 2 (get_or rec 1 0) (omega (arith, h.second))))
    (le-leb (get_or rec 2 0) form.limit (omega (arith, f.short))))
    (ap (all_pass (at_most 255)) stored ∙ f.bytes))
    (ap₂ (λ (l : List ℕ) (m : ℕ). all_pass (at_most 0) (between l (capped m) 8)) stored full ∙ f.rest) in
    let ok : inner_ok form kind rec ≡ true =
    and_both (le-leb (get_or rec 1 0) (children_of kind) (omega (arith, h.second, s.fits.few))) (and_both head (ap₂ (body_ok kind) e h.second ∙ s.fits.ok)) in
    record {
      fits = record { low = s.fits.low; high = s.fits.high; long = long; ok = ok };
      prefix = h.prefix;
      shows = ap₂ (body_row kind) e h.second ∙ s.shows;
    }

-- the prefix from its two parts
prefix_of : (form : Form) → Stores form → (rec : List ℕ) (p : Prefix) → header form ≤ length rec → get_or rec 2 0 ≡ p.full.0
    → unpack_of form (between rec (3 + form.counts) (header form)) ≡ p.stored → prefix_at form rec ≡ p
unfolding prefix_at
prefix_of form stores rec p h full stored =
    ap₂ (λ (n : ℕ) (l : List ℕ). record { full = record { 0 = n }; stored = l }) full (stored_part form stores rec h ∙ stored)

-- ── another body and child count ──
module _ (form : Form) (stores : Stores form) (kind : ℕ) (rec body : List ℕ) (m : ℕ) (long : length rec ≡ record_words form kind) (size : length body ≡ body_words kind) where
  abbrev base : List ℕ
  base = with_body form kind rec body

  fits : length body ≡ record_words form kind - header form
  fits = size ∙ omega arith

  base_long : length base ≡ length rec
  base_long = splice_length rec (header form) (record_words form kind) body (omega arith) (omega arith) fits

  word : (i : ℕ) → i < 3 → get_or base i 0 ≡ get_or rec i 0
  word i h = splice_at_before rec (header form) (record_words form kind) body (omega arith) (omega arith) fits i (omega arith)

  stored : between (set base 1 m) (3 + form.counts) (header form) ≡ between rec (3 + form.counts) (header form)
  stored =
      between_set_before base (3 + form.counts) (header form) 1 m (omega arith)
      ∙ splice_before rec (header form) (record_words form kind) body (omega arith) (omega arith) fits (3 + form.counts) (header form) (omega arith) (omega arith)

  body_head : Head form (set base 1 m) (get_or rec 0 0) m (prefix_at form rec)
  unfolding prefix_at
  body_head =
      record {
        first = get_or-set_other base 1 0 m 0 (λ z. omega arith) ∙ word 0 (omega arith);
        second = get_or-set_same base 1 m 0 (omega (arith, base_long));
        prefix =
            prefix_of form stores (set base 1 m) (prefix_at form rec) (omega (arith, length-set base 1 m, base_long))
            (get_or-set_other base 1 2 m 0 (λ z. omega arith) ∙ word 2 (omega arith))
            (ap (unpack_of form) stored ∙ sym (stored_part form stores rec (omega arith)));
      }

  body_part_lem : body_part form kind (set base 1 m) ≡ body
  body_part_lem =
      between_set_before base (header form) (record_words form kind) 1 m (omega arith)
      ∙ splice_same rec (header form) (record_words form kind) body (omega arith) (omega arith) fits

  body_long : length (set base 1 m) ≡ record_words form kind
  body_long = length-set base 1 m ∙ base_long ∙ long

module _ {form : Form} (stores : Stores form) {kind : ℕ} {rec : List ℕ} {p : Prefix} {row : Row} (i : Inner form kind rec p row) where
  with_body_lem : (body : List ℕ) (m : ℕ) (more : Row) → 2 ≤ m → Holds kind body m more → Inner form kind (set (with_body form kind rec body) 1 m) p more
  with_body_lem body m more two h =
      let head = body_head form stores kind rec body m i.fits.long h.fits.long in
      inner_made form kind (set (with_body form kind rec body) 1 m) m p body more (body_long form stores kind rec body m i.fits.long h.fits.long)
      (record { first = head.first ∙ inner_kind i; second = head.second; prefix = head.prefix ∙ i.prefix }) (inner_fits i) two
      (body_part_lem form stores kind rec body m i.fits.long h.fits.long) h

  -- any change that leaves two
  pub change_inner : (b : ℕ) → b < 256 → (change : Change) → Takes (children_of kind) b change row → 2 ≤ count_in change (length row)
      → Inner form kind (change_of form kind rec b change) p (row_change b change row)
  unfolding change_of
  change_inner b low change takes two =
      with_body_lem (body_change kind (body_part form kind rec) (get_or rec 1 0) b change) (count_in change (get_or rec 1 0)) (row_change b change row)
      (subst (λ (n : ℕ). 2 ≤ count_in change n) (inner_size i) two) (holds_change (inner_holds i) b low change takes)

-- ── another prefix ──
module _ (form : Form) (stores : Stores form) (p : Prefix) (rec : List ℕ) (eight : length p.stored ≡ 8) (long : header form ≤ length rec) where
  abbrev full : List ℕ
  full = set rec 2 p.full.0

  abbrev s : ℕ
  s = 3 + form.counts

  full_long : length full ≡ length rec
  full_long = length-set rec 2 p.full.0

  abbrev words : List ℕ
  words = pack_of form p.stored

  fits_8 : length words ≡ header form - s
  fits_8 = pack_length form stores p.stored eight ∙ omega arith

  pub prefix_long : length (set_prefix form p rec) ≡ length rec
  unfolding set_prefix
  prefix_long = splice_length full s (header form) words (omega arith) (omega (arith, full_long)) fits_8 ∙ full_long

  early : (i : ℕ) → i < 3 → get_or (set_prefix form p rec) i 0 ≡ get_or full i 0
  unfolding set_prefix
  early i h = splice_at_before full s (header form) words (omega arith) (omega (arith, full_long)) fits_8 i (omega arith)

  pub prefix_head : all_pass (at_most 255) p.stored ≡ true → Head form (set_prefix form p rec) (get_or rec 0 0) (get_or rec 1 0) p
  unfolding set_prefix
  prefix_head bytes =
      record {
        first = early 0 (omega arith) ∙ get_or-set_other rec 2 0 p.full.0 0 (λ z. omega arith);
        second = early 1 (omega arith) ∙ get_or-set_other rec 2 1 p.full.0 0 (λ z. omega arith);
        prefix =
            prefix_of form stores (set_prefix form p rec) p (omega (arith, prefix_long))
            (early 2 (omega arith) ∙ get_or-set_same rec 2 p.full.0 0 (omega arith))
            (ap (unpack_of form) (splice_same full s (header form) words (omega arith) (omega (arith, full_long)) fits_8) ∙ unpack_pack form p.stored eight bytes);
      }

  pub prefix_after : (a e : ℕ) → header form ≤ a → between (set_prefix form p rec) a e ≡ between rec a e
  unfolding set_prefix
  prefix_after a e h =
      splice_after full s (header form) words (omega arith) (omega (arith, full_long)) fits_8 a e h ∙ between_set_before rec a e 2 p.full.0 (omega arith)

pub prefix_inner : {form : Form} → Stores form → {kind : ℕ} {rec : List ℕ} {q : Prefix} {row : Row} → Inner form kind rec q row → (p : Prefix) → PrefixFits form p
    → Inner form kind (set_prefix form p rec) p row
prefix_inner {form} stores {kind} {rec} {q} {row} i p f =
    let room : header form ≤ length rec = omega (arith, i.fits.long) in
    let head = prefix_head form stores p rec f.eight room f.bytes in
    inner_made form kind (set_prefix form p rec) (get_or rec 1 0) p (body_part form kind rec) row (prefix_long form stores p rec f.eight room ∙ i.fits.long)
    (record { first = head.first ∙ inner_kind i; second = head.second; prefix = head.prefix }) f (omega (arith, inner_two i, inner_size i))
    (prefix_after form stores p rec f.eight room (header form) (record_words form kind) (omega arith)) (inner_holds i)

-- ── a record built from a prefix and a row ──
module _ (form : Form) (stores : Stores form) (kind : ℕ) (p : Prefix) (f : PrefixFits form p) (n : ℕ) where
  abbrev start : List ℕ
  start = set (set (replicate (header form) 0) 0 kind) 1 n

  start_long : length start ≡ header form
  start_long = length-set (set (replicate (header form) 0) 0 kind) 1 n ∙ length-set (replicate (header form) 0) 0 kind ∙ length-replicate (header form) 0

  head_long : length (set_head form kind n p (replicate (header form) 0)) ≡ header form
  unfolding set_head
  head_long = prefix_long form stores p start f.eight (omega (arith, start_long)) ∙ start_long

  head_head : Head form (set_head form kind n p (replicate (header form) 0)) kind n p
  unfolding set_head
  head_head =
      let h = prefix_head form stores p start f.eight (omega (arith, start_long)) f.bytes in
      let zero-long = length-replicate {A = ℕ} (header form) 0 in
      record {
        first = h.first ∙ get_or-set_other (set (replicate (header form) 0) 0 kind) 1 0 n 0 (λ z. omega arith) ∙ get_or-set_same (replicate (header form) 0) 0 kind 0 (omega arith);
        second = h.second ∙ get_or-set_same (set (replicate (header form) 0) 0 kind) 1 n 0 (omega (arith, length-set (replicate (header form) 0) 0 kind));
        prefix = h.prefix;
      }

-- a head goes on with any body
head_on : (form : Form) → Stores form → (l body : List ℕ) (kind n : ℕ) (p : Prefix) → header form ≤ length l → Head form l kind n p → Head form (l ++ body) kind n p
unfolding prefix_at
head_on form stores l body kind n p long h =
    let a = 3 + form.counts in
    record {
      first = get_or-append l body 0 0 (omega arith) ∙ h.first;
      second = get_or-append l body 0 1 (omega arith) ∙ h.second;
      prefix =
          prefix_of form stores (l ++ body) p (omega (arith, length-append l body))
          (get_or-append l body 0 2 (omega arith) ∙ ap (λ (q : Prefix). q.full.0) h.prefix)
          (ap (unpack_of form) (between_left l body a (header form) (omega arith) long) ∙ sym (stored_part form stores l long) ∙ ap (λ (q : Prefix). q.stored) h.prefix);
    }

pub build_inner : (form : Form) → Stores form → (kind : ℕ) (p : Prefix) (row : Row) → 1 ≤ kind → kind ≤ 4 → PrefixFits form p → 2 ≤ length row → length row ≤ children_of kind
    → Climbs 0 row → Inner form kind (build_rec form kind p row) p row
unfolding build_rec
build_inner form stores kind p row low high f two few c =
    let n = length row in
    let head = set_head form kind n p (replicate (header form) 0) in
    let body = body_of kind row in
    let h = holds_built kind row low high few c in
    let hl = head_long form stores kind p f n in
    inner_made form kind (head ++ body) n p body row (omega (arith, length-append head body, hl, h.fits.long)) (head_on form stores head body kind n p (omega (arith, hl)) (head_head form stores kind p f n)) f two
    (ap (λ (l : List ℕ). between (head ++ l) (header form) (record_words form kind)) (sym (append-nil body))
    ∙ between_middle head body [] (header form) (record_words form kind) hl (h.fits.long ∙ omega arith))
    h

-- ── a record moved to another kind, with its children in byte order ──
pub move_inner : {form : Form} → Stores form → {kind : ℕ} {rec : List ℕ} {p : Prefix} {row : Row} → Inner form kind rec p row → (to : ℕ) → 1 ≤ to → to ≤ 4
    → length row ≤ children_of to → Inner form to (build_rec form to p (direct_row (spread_of form kind rec))) p row
move_inner {form} stores {kind} {rec} {p} {row} i to low high few =
    subst (λ (l : Row). Inner form to (build_rec form to p l) p row) (sym (spread_of_lem i).1)
    (build_inner form stores to p row low high (inner_fits i) (inner_two i) few (inner_climbs i))
