-- What a record's own rule says, part by part, for those who go on from it.
use Prim.Native.Nat.{ℕ, ◌+◌, ◌≤◌}
use mathlib.Core.Path.{◌≡◌, ◌∙◌}
use mathlib.Core.List.{List}
use mathlib.Core.Bool.{true, ◌&&◌}
use native.Mathlib.Omega.{arith}
use lib.ListN.{length, get_or}
use lib.Dec.{eqb, leb}
use borrow.Author.Tests.{le-leb, lt-leb, eq-eqb, ne_eqb, leb-true, eqb-true}
use Rattle.lists.specs.Scan.{all_pass, at_most, nonzero, how_many}
use Rattle.lists.specs.Part.{between}
use Rattle.lists.proofs.Tests.{both}
use Rattle.lists.proofs.Parts.{between_length}
use Rattle.prefix.specs.Run.{capped}
use Rattle.frames.specs.Kind.{children_of, body_words}
use Rattle.frames.specs.Form.{header, record_words, stored_of}
use Rattle.records.specs.Own.{head_ok, sorted_ok, indirect_ok, SlotsFit, direct_ok, body_part, body_ok, inner_ok, BodyFits, InnerFits, leaf_ok}
use Rattle.frames.specs.declared.form.Form.{Form}
use Rattle.lists.proofs.Tables.{both5}
use Rattle.frames.proofs.KindTable.{sorted_words, kind_3, kind_4}

pub record HeadRule (form : Form) (kind : ℕ) (rec : List ℕ) : Type 0 where
  pub kind_word : get_or rec 0 0 ≡ kind
  pub two : 2 ≤ get_or rec 1 0
  pub short : get_or rec 2 0 ≤ form.limit
  pub bytes : all_pass (at_most 255) (stored_of form rec) ≡ true
  pub rest : all_pass (at_most 0) (between (stored_of form rec) (capped (get_or rec 2 0)) 8) ≡ true

pub head_rule : (form : Form) (kind : ℕ) (rec : List ℕ) → head_ok form kind rec ≡ true → HeadRule form kind rec
unfolding head_ok
head_rule form kind rec e =
    let p =
    both5 (eqb (get_or rec 0 0) kind) (leb 2 (get_or rec 1 0)) (leb (get_or rec 2 0) form.limit) (all_pass (at_most 255) (stored_of form rec)) (all_pass (at_most 0) (between (stored_of form rec) (capped (get_or rec 2 0)) 8)) e in
    record { kind_word = eqb-true _ _ p.0; two = leb-true _ _ p.1; short = leb-true _ _ p.2; bytes = p.3; rest = p.4 }

pub record InnerRule (form : Form) (kind : ℕ) (rec : List ℕ) : Type 0 where
  pub few : get_or rec 1 0 ≤ children_of kind
  pub head : HeadRule form kind rec
  pub body : body_ok kind (body_part form kind rec) (get_or rec 1 0) ≡ true

pub inner_rule : (form : Form) (kind : ℕ) (rec : List ℕ) → inner_ok form kind rec ≡ true → InnerRule form kind rec
unfolding inner_ok
inner_rule form kind rec e =
    let p = both (leb (get_or rec 1 0) (children_of kind)) _ e in
    let q = both (head_ok form kind rec) (body_ok kind (body_part form kind rec) (get_or rec 1 0)) p.1 in
    record { few = leb-true _ _ p.0; head = head_rule form kind rec q.0; body = q.1 }

pub body_length : (form : Form) (kind : ℕ) (rec : List ℕ) → length rec ≡ record_words form kind → length (body_part form kind rec) ≡ body_words kind
body_length form kind rec long = between_length rec (header form) (record_words form kind) (omega arith) (omega arith) ∙ omega arith

pub body_fits : {form : Form} {kind : ℕ} {rec : List ℕ} → InnerFits form kind rec → BodyFits kind (body_part form kind rec) (get_or rec 1 0)
body_fits {form} {kind} {rec} w =
    let r = inner_rule form kind rec w.ok in
    record { low = w.low; high = w.high; long = body_length form kind rec w.long; few = r.few; ok = r.body }

-- what that says of each kind's body
module _ {kind : ℕ} {body : List ℕ} {n : ℕ} (w : BodyFits kind body n) where
  pub sorted_fits : kind ≤ 2 → (length body ≡ children_of kind + children_of kind) × (sorted_ok (children_of kind) body n ≡ true)
  unfolding body_ok
  sorted_fits h = (w.long ∙ sorted_words kind w.low h, simp (le-leb kind 2 h) at w.ok)

  pub indirect_fits : kind ≡ 3 → (length body ≡ 304) × SlotsFit body × (how_many nonzero (between body 256 304) ≡ n)
  unfolding body_ok indirect_ok
  indirect_fits e =
      let ok : indirect_ok body n ≡ true = simp (lt-leb kind 2 (omega arith), eq-eqb kind 3 e) at w.ok in
      let p = both (all_pass (at_most 48) (between body 0 256) && eqb (how_many nonzero (between body 256 304)) n) _ ok in
      let q = both (all_pass (at_most 48) (between body 0 256)) _ p.0 in
      (w.long ∙ kind_3 kind e, record { low = q.0; names = p.1 }, eqb-true _ _ q.1)

  pub direct_fits : kind ≡ 4 → (length body ≡ 256) × (how_many nonzero body ≡ n)
  unfolding body_ok direct_ok
  direct_fits e =
      let ok : direct_ok body n ≡ true = simp (lt-leb kind 2 (omega arith), ne_eqb kind 3 (λ z. omega arith)) at w.ok in
      (w.long ∙ kind_4 kind e, eqb-true _ _ ok)

pub record LeafRule (limit : ℕ) (rec key : List ℕ) : Type 0 where
  pub short : get_or rec 1 0 ≤ limit
  pub used : get_or rec 0 0 ≡ 1
  pub rest : all_pass (at_most 0) (between key (get_or rec 1 0) limit) ≡ true

pub leaf_rule : (limit : ℕ) (rec key : List ℕ) → leaf_ok limit rec key ≡ true → LeafRule limit rec key
unfolding leaf_ok
leaf_rule limit rec key e =
    let p = both (leb (get_or rec 1 0) limit) _ e in
    let q = both (eqb (get_or rec 0 0) 1) (all_pass (at_most 0) (between key (get_or rec 1 0) limit)) p.1 in
    record { short = leb-true _ _ p.0; used = eqb-true _ _ q.0; rest = q.1 }
