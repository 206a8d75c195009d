-- A record built in two steps: the body laid over zeros, then the head.
use Prim.Native.Nat.{ℕ, suc, ◌+◌, ◌≤◌, ◌<◌}
use mathlib.Core.Path.{◌≡◌, refl, sym, ap, ap₂, ◌∙◌}
use mathlib.Core.List.{List, [], ◌∷◌, ◌++◌}
use native.Mathlib.Omega.{arith}
use lib.ListN.{length, get_or, set, replicate, length-set, length-replicate}
use lib.Seq.{set-append_left}
use lib.Dec.{lit≤}
use borrow.Author.Tests.{eq-eqb, ne_eqb}
use mathlib.Core.Bool.{Bool}
use mathlib.Core.Logic.{inl, inr}
use Rattle.lists.specs.Scan.{choose, nonzero, how_many, at_most}
use Rattle.lists.specs.Part.{between, splice}
use Rattle.lists.proofs.Tests.{all_zero, all_between, zeros_all, count_le}
use Rattle.lists.proofs.Parts.{between_length}
use Rattle.prefix.specs.declared.Prefix.{Prefix}
use Rattle.frames.specs.Kind.{kind_row, body_words}
use Rattle.frames.specs.Form.{header, record_words, Stores, packed, pack_of}
use Rattle.records.specs.Own.{body_ok, direct_ok, BodyFits, child_of}
use Rattle.records.specs.Row.{direct_row, body_row, ref_for}
use Rattle.frames.specs.declared.form.Form.{Form}
use Rattle.records.proofs.RowRules.{body_row_lem, filled_length}
use Rattle.edits.specs.Head.{set_prefix, set_head}
use Rattle.edits.specs.Body.{tab, row_spread, body_of}
use Rattle.edits.specs.Record.{build_rec}
use Rattle.lists.proofs.Pieces.{zeros_then, splice_left}

-- ── stored bytes laid over the words of a head, one a word or packed ──
pub two_words : (form : Form) → Stores form → (form.prefix ≡ 8 → ⊥) → form.prefix ≡ 2
two_words form (inl e) n = absurd (n e)
two_words form (inr e) n = e

pub laid_plain : (form : Form) → form.prefix ≡ 8 → (rec stored l : List ℕ) → l ≡ stored
    → splice rec (3 + form.counts) (3 + form.counts + 8) l ≡ splice rec (3 + form.counts) (header form) (pack_of form stored)
unfolding pack_of
laid_plain form e rec stored l h =
    ap₂ (λ (z : ℕ) (x : List ℕ). splice rec (3 + form.counts) z x) (let q : 3 + form.counts + 8 ≡ header form = omega arith in q)
    (h ∙ sym (ap (λ (b : Bool). choose b stored (packed stored)) (eq-eqb form.prefix 8 e)))

pub laid_packed : (form : Form) → form.prefix ≡ 2 → (rec stored l : List ℕ) → l ≡ packed stored
    → splice rec (3 + form.counts) (3 + form.counts + 2) l ≡ splice rec (3 + form.counts) (header form) (pack_of form stored)
unfolding pack_of
laid_packed form e rec stored l h =
    ap₂ (λ (z : ℕ) (x : List ℕ). splice rec (3 + form.counts) z x) (let q : 3 + form.counts + 2 ≡ header form = omega arith in q)
    (h ∙ sym (ap (λ (b : Bool). choose b stored (packed stored)) (ne_eqb form.prefix 8 (λ z. omega arith))))

-- a head is written within its own words
head_left : (form : Form) → Stores form → (kind n : ℕ) (p : Prefix) (x y : List ℕ) → header form ≤ length x
    → set_head form kind n p (x ++ y) ≡ set_head form kind n p x ++ y
unfolding set_head set_prefix
head_left form stores kind n p x y h =
    let s = 3 + form.counts in
    let x2 = set (set x 0 kind) 1 n in
    let long : length (set x2 2 p.full.0) ≡ length x = length-set x2 2 p.full.0 ∙ length-set (set x 0 kind) 1 n ∙ length-set x 0 kind in
    ap (λ (l : List ℕ). splice (set (set l 1 n) 2 p.full.0) s (header form) (pack_of form p.stored)) (set-append_left x y 0 kind (omega arith))
    ∙ ap (λ (l : List ℕ). splice (set l 2 p.full.0) s (header form) (pack_of form p.stored)) (set-append_left (set x 0 kind) y 1 n (omega (arith, length-set x 0 kind)))
    ∙ ap (λ (l : List ℕ). splice l s (header form) (pack_of form p.stored)) (set-append_left x2 y 2 p.full.0 (omega (arith, long, length-set x2 2 p.full.0)))
    ∙ splice_left (set x2 2 p.full.0) y s (header form) (pack_of form p.stored) (omega arith) (omega arith)

-- a record in which every word is 0 has such a body
module _ (form : Form) (kind : ℕ) (w : List ℕ) (n h e : ℕ) (zeros : w ≡ replicate n 0) (long : n ≡ record_words form kind) (at : h ≡ header form) (end : e ≡ record_words form kind) where
  pub zeros_body : between w h e ≡ replicate (body_words kind) 0
  zeros_body =
      let l = between (replicate {A = ℕ} n 0) h e in
      let m : length l ≡ body_words kind = omega (arith, between_length (replicate {A = ℕ} n 0) h e (omega arith) (omega (arith, length-replicate {A = ℕ} n 0))) in
      ap (λ (x : List ℕ). between x h e) zeros
      ∙ all_zero l (all_between (at_most 0) (replicate n 0) h e (zeros_all n 0))
      ∙ ap (λ (k : ℕ). replicate k 0) m

  -- with a body and a head laid over the zeros it is the record of the row
  pub built : Stores form → (p : Prefix) (places body : List ℕ) (m : ℕ) → m ≡ how_many nonzero places → body ≡ body_of kind (direct_row places)
      → {rec : List ℕ} → rec ≡ set_head form kind m p (splice w h e body) → rec ≡ build_rec form kind p (direct_row places)
  unfolding build_rec
  built stores p places body m many b told =
      let z = replicate {A = ℕ} (header form) 0 in
      told
      ∙ ap (λ (x : List ℕ). set_head form kind m p (splice x h e body)) (zeros ∙ ap (λ (k : ℕ). replicate k 0) (long ∙ sym end))
      ∙ ap (set_head form kind m p) (zeros_then h e body (omega arith) ∙ ap (λ (k : ℕ). replicate k 0 ++ body) at)
      ∙ head_left form stores kind m p z body (omega (arith, length-replicate {A = ℕ} (header form) 0))
      ∙ ap₂ (λ (k : ℕ) (l : List ℕ). set_head form kind k p z ++ l) (many ∙ sym (filled_length 0 places)) b

-- ── kind 4: the table of a table's own row is the table ──
tab_is : (l : List ℕ) (b : ℕ) (g : ℕ → ℕ) → ((i : ℕ) → i < length l → g (b + i) ≡ get_or l i 0) → tab (length l) b g ≡ l
tab_is [] b g e = refl
tab_is (x ∷ xs) b g e =
    ap₂ (λ (y : ℕ) (l : List ℕ). y ∷ l) (ap g (let q : b ≡ b + 0 = omega arith in q) ∙ e 0 (omega arith))
    (tab_is xs (suc b) g (λ i h. ap g (let q : suc b + i ≡ b + suc i = omega arith in q) ∙ e (suc i) (omega arith)))

place_ref : (places : List ℕ) → length places ≡ 256 → (i : ℕ) → i < 256 → ref_for i (direct_row places) ≡ get_or places i 0
unfolding body_ok direct_ok body_row child_of kind_row
place_ref places long i h =
    let n = how_many nonzero places in
    let w : BodyFits 4 places n = record { low = lit≤ tt; high = lit≤ tt; long = long; few = omega (arith, count_le nonzero places); ok = eq-eqb n n refl } in
    sym ((body_row_lem w).child_for i h)

pub table_own : (places : List ℕ) → length places ≡ 256 → places ≡ row_spread (direct_row places)
table_own places long =
    sym (ap (λ (m : ℕ). tab m 0 (λ b. ref_for b (direct_row places))) (sym long)
    ∙ tab_is places 0 (λ b. ref_for b (direct_row places))
    (λ i h. ap (λ (b : ℕ). ref_for b (direct_row places)) (let q : 0 + i ≡ i = omega arith in q) ∙ place_ref places long i (omega arith)))
