-- The form table's bounds, by one test of the whole table, and what they give each known form: records of at most 512 words.
use Prim.Native.Nat.{ℕ, zero, suc, ◌+◌, ◌-◌, ◌≤◌, ◌<◌}
use mathlib.Core.Path.{◌≡◌, refl, sym, ap, ap₂, subst, ◌∙◌}
use mathlib.Core.Logic.{inl, inr}
use mathlib.Core.List.{List}
use mathlib.Core.Bool.{Bool, true, false, ◌&&◌, ◌||◌}
use native.Mathlib.Omega.{arith}
use lib.ListN.{length, get_or}
use lib.Dec.{eqb, leb, lit≤}
use borrow.Author.Tests.{leb-true, eqb-true, eq-eqb, ne_eqb}
use Rattle.lists.specs.Scan.{choose, all_pass, at_most}
use Rattle.lists.specs.Part.{between}
use Rattle.lists.proofs.Parts.{between_length, between_at}
use Rattle.lists.proofs.Tests.{all_at, both}
use lib.Seq.{ext_get_or}
use Rattle.frames.specs.Kind.{kind_row}
use Rattle.frames.specs.Form.{forms, no_form, form_known, form_of, header, sizes_of, SmallSizes, eight_from, eight_in, word_of, packed, Stores, pack_of, unpack_of, stored_of}
use Rattle.frames.specs.declared.form.Form.{Form}
use Rattle.frames.specs.declared.form.Sizes.{Sizes}
use Rattle.lists.proofs.Tables.{every_at}

form_test : ℕ → Form → Bool
form_test n form = eqb form.number n && leb (header form) 16 && leb form.limit 128 && (eqb form.prefix 8 || eqb form.prefix 2)

pub form_in : (n : ℕ) → form_known n ≡ true → (1 ≤ n) × (n - 1 < length forms)
unfolding form_known
form_in n e =
    let p = both (leb 1 n) (leb n (length forms)) e in
    (leb-true 1 n p.0, omega (arith, leb-true 1 n p.0, leb-true n (length forms) p.1))

form_tested : (n : ℕ) → form_known n ≡ true → form_test n (form_of n) ≡ true
unfolding form_of form_test
form_tested n e =
    let p = form_in n e in
    subst (λ (k : ℕ). form_test k (form_of n) ≡ true) (let q : 1 + (n - 1) ≡ n = omega arith in q) (every_at form_test no_form forms 1 refl (n - 1) p.1)

stores_by : (form : Form) → (a b : Bool) → eqb form.prefix 8 ≡ a → eqb form.prefix 2 ≡ b → a || b ≡ true → Stores form
stores_by form true b e g h = inl (eqb-true _ _ e)
stores_by form false true e g h = inr (eqb-true _ _ g)
stores_by form false false e g h = absurd (let z : ◌≡◌ {A = ℕ} 0 1 = cc in omega arith)

pub record FormRules (n : ℕ) : Type 0 where
  pub number : (form_of n).number ≡ n
  pub head : header (form_of n) ≤ 16
  pub limit : (form_of n).limit ≤ 128
  pub stores : Stores (form_of n)

pub form_rules : (n : ℕ) → form_known n ≡ true → FormRules n
unfolding form_test
form_rules n e =
    let f = form_of n in
    let o = both (eqb f.number n && leb (header f) 16 && leb f.limit 128) (eqb f.prefix 8 || eqb f.prefix 2) (form_tested n e) in
    let p = both (eqb f.number n && leb (header f) 16) (leb f.limit 128) o.0 in
    let q = both (eqb f.number n) (leb (header f) 16) p.0 in
    record { number = eqb-true _ _ q.0; head = leb-true _ _ q.1; limit = leb-true _ _ p.1; stores = stores_by f (eqb f.prefix 8) (eqb f.prefix 2) refl refl o.1 }

-- every form has tags of up to 64 bytes
limit_test : ℕ → Form → Bool
limit_test n form = eqb form.limit 64

pub known_limit : (n : ℕ) → form_known n ≡ true → (form_of n).limit ≡ 64
unfolding form_of limit_test
known_limit n e = eqb-true _ _ (every_at limit_test no_form forms 1 refl (n - 1) (form_in n e).1)

pub sizes_small : (form : Form) → header form ≤ 16 → SmallSizes (sizes_of form)
unfolding kind_row
sizes_small form h = record { s1 = omega arith; s2 = omega arith; s3 = omega arith; s4 = omega arith; s5 = lit≤ tt }

pub known_sizes : (n : ℕ) → form_known n ≡ true → (form : Form) → form ≡ form_of n → (z : Sizes) → z ≡ sizes_of form → SmallSizes z
known_sizes n k form e z h = subst SmallSizes (sym (h ∙ ap sizes_of e)) (sizes_small (form_of n) (form_rules n k).head)

-- eight prefix bytes are stored in every form
pub stored_eight : (form : Form) (rec : List ℕ) → length (stored_of form rec) ≡ 8
unfolding stored_of
stored_eight form rec = go (eqb form.prefix 8)
  where
    go : (b : Bool) → length (choose b (eight_from rec (3 + form.counts)) (eight_in (get_or rec (3 + form.counts) 0) (get_or rec (3 + form.counts + 1) 0))) ≡ 8
    go true = refl
    go false = refl

-- ── stored bytes and their words ──
pub pack_length : (form : Form) → Stores form → (l : List ℕ) → length l ≡ 8 → length (pack_of form l) ≡ form.prefix
unfolding pack_of
pack_length form (inl e) l h = ap (λ (b : Bool). length (choose b l (packed l))) (eq-eqb _ _ e) ∙ omega arith
pack_length form (inr e) l h = ap (λ (b : Bool). length (choose b l (packed l))) (ne_eqb form.prefix 8 (λ z. omega arith)) ∙ sym e

eight_own : (l : List ℕ) → length l ≡ 8 → all_pass (at_most 255) l ≡ true
    → eight_in (word_of (get_or l 0 0) (get_or l 1 0) (get_or l 2 0) (get_or l 3 0)) (word_of (get_or l 4 0) (get_or l 5 0) (get_or l 6 0) (get_or l 7 0)) ≡ l
eight_own l h b = ext_get_or 0 (eight_in w v) l (sym h) (λ i k. at i k)
  where
    w : ℕ
    w = word_of (get_or l 0 0) (get_or l 1 0) (get_or l 2 0) (get_or l 3 0)

    v : ℕ
    v = word_of (get_or l 4 0) (get_or l 5 0) (get_or l 6 0) (get_or l 7 0)

    low : (i : ℕ) → i < 8 → get_or l i 0 < 256
    low i k = let z = leb-true (get_or l i 0) 255 (all_at (at_most 255) l b i (omega arith)) in omega arith

    at : (i : ℕ) → i < 8 → get_or (eight_in w v) i 0 ≡ get_or l i 0
    at zero k = omega (arith, low 0 (lit≤ tt), low 1 (lit≤ tt), low 2 (lit≤ tt), low 3 (lit≤ tt))
    at (suc zero) k = omega (arith, low 0 (lit≤ tt), low 1 (lit≤ tt), low 2 (lit≤ tt), low 3 (lit≤ tt))
    at (suc (suc zero)) k = omega (arith, low 0 (lit≤ tt), low 1 (lit≤ tt), low 2 (lit≤ tt), low 3 (lit≤ tt))
    at (suc (suc (suc zero))) k = omega (arith, low 0 (lit≤ tt), low 1 (lit≤ tt), low 2 (lit≤ tt), low 3 (lit≤ tt))
    at (suc (suc (suc (suc zero)))) k = omega (arith, low 4 (lit≤ tt), low 5 (lit≤ tt), low 6 (lit≤ tt), low 7 (lit≤ tt))
    at (suc (suc (suc (suc (suc zero))))) k = omega (arith, low 4 (lit≤ tt), low 5 (lit≤ tt), low 6 (lit≤ tt), low 7 (lit≤ tt))
    at (suc (suc (suc (suc (suc (suc zero)))))) k = omega (arith, low 4 (lit≤ tt), low 5 (lit≤ tt), low 6 (lit≤ tt), low 7 (lit≤ tt))
    at (suc (suc (suc (suc (suc (suc (suc zero))))))) k = omega (arith, low 4 (lit≤ tt), low 5 (lit≤ tt), low 6 (lit≤ tt), low 7 (lit≤ tt))
    at (suc (suc (suc (suc (suc (suc (suc (suc i)))))))) k = absurd (omega arith)

-- bytes that are packed are found again
pub unpack_pack : (form : Form) → (l : List ℕ) → length l ≡ 8 → all_pass (at_most 255) l ≡ true → unpack_of form (pack_of form l) ≡ l
unfolding pack_of unpack_of
unpack_pack form l h b = go (eqb form.prefix 8)
  where
    go : (t : Bool) → choose t (choose t l (packed l)) (eight_in (get_or (choose t l (packed l)) 0 0) (get_or (choose t l (packed l)) 1 0)) ≡ l
    go true = refl
    go false = eight_own l h b

-- the stored bytes are those of a part of the record
pub stored_part : (form : Form) → Stores form → (rec : List ℕ) → header form ≤ length rec → stored_of form rec ≡ unpack_of form (between rec (3 + form.counts) (header form))
unfolding stored_of unpack_of
stored_part form s rec h = go s
  where
    a : ℕ
    a = 3 + form.counts

    part : List ℕ
    part = between rec (3 + form.counts) (header form)

    long : length part ≡ form.prefix
    long = between_length rec (3 + form.counts) (header form) (omega arith) h ∙ omega arith

    word : (i : ℕ) → i < form.prefix → get_or part i 0 ≡ get_or rec (a + i) 0
    word i l = between_at rec (3 + form.counts) (header form) i (omega arith)

    at : form.prefix ≡ 8 → (i : ℕ) → i < 8 → get_or (eight_from rec a) i 0 ≡ get_or rec (a + i) 0
    at e zero l = ap (λ (j : ℕ). get_or rec j 0) (let q : a ≡ a + 0 = omega arith in q)
    at e (suc zero) l = refl
    at e (suc (suc zero)) l = refl
    at e (suc (suc (suc zero))) l = refl
    at e (suc (suc (suc (suc zero)))) l = refl
    at e (suc (suc (suc (suc (suc zero))))) l = refl
    at e (suc (suc (suc (suc (suc (suc zero)))))) l = refl
    at e (suc (suc (suc (suc (suc (suc (suc zero))))))) l = refl
    at e (suc (suc (suc (suc (suc (suc (suc (suc i)))))))) l = absurd (omega arith)

    both_by : (b : Bool) → eqb form.prefix 8 ≡ b → choose b (eight_from rec a) (eight_in (get_or rec a 0) (get_or rec (a + 1) 0)) ≡ choose b part (eight_in (get_or part 0 0) (get_or part 1 0))
    both_by true t =
        let e = eqb-true form.prefix 8 t in
        ext_get_or 0 (eight_from rec a) part (sym (long ∙ e)) (λ i l. at e i l ∙ sym (word i (omega (arith, e))))
    both_by false t =
        let two : 2 ≤ form.prefix = least s t in
        ap₂ eight_in (ap (λ (j : ℕ). get_or rec j 0) (let q : a ≡ a + 0 = omega arith in q) ∙ sym (word 0 (omega (arith, two)))) (sym (word 1 (omega (arith, two))))
      where
        least : Stores form → eqb form.prefix 8 ≡ false → 2 ≤ form.prefix
        least (inl e) t = omega arith
        least (inr e) t = omega arith

    go : Stores form → choose (eqb form.prefix 8) (eight_from rec a) (eight_in (get_or rec a 0) (get_or rec (a + 1) 0)) ≡ choose (eqb form.prefix 8) part (eight_in (get_or part 0 0) (get_or part 1 0))
    go w = both_by (eqb form.prefix 8) refl
