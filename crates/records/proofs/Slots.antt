-- Kind 3's slot numbers: the loops that count them and that test the places they name, and what the own rule says of them: a slot number
-- is 0 exactly where the place that it names is empty, and as many are not 0 as places are filled.
use Prim.Native.Nat.{ℕ, zero, suc, ◌+◌, ◌-◌, ◌≤◌, ◌<◌, min}
use mathlib.Core.Path.{◌≡◌, refl, sym, ap, subst, ◌∙◌}
use mathlib.Core.List.{List, [], ◌∷◌}
use mathlib.Core.Bool.{Bool, true, false, ◌&&◌}
use native.Mathlib.Omega.{arith}
use native.Mathlib.Decide.{ℕ_discrete}
use lib.ListN.{length, get_or, drop, drop_of_length-le, set, replicate, get_or-replicate, length-set}
use lib.Seq.{get_or-set_same, get_or-set_other}
use lib.Dec.{eqb, leb, ltb}
use borrow.Author.Tests.{eq-eqb, ne_eqb, eqb-true, eqb-false, lt-ltb, ltb-true, ltb-false, le-leb, leb-true, leb-false}
use Rattle.lists.specs.Scan.{choose, is, nonzero, how_many}
use Rattle.lists.proofs.Scans.{step, Count, count_start, count_on, count_off, count_end}
use Rattle.lists.proofs.Tests.{both, count_none}
use Rattle.records.specs.Own.{named, Tallied, byslot}

-- the loop over kind 3's places
pub record Named (slots refs : List ℕ) (j : ℕ) : Type 0 where
  pub within : j ≤ length refs
  pub left : named slots 0 refs ≡ named slots j (drop j refs)

pub named_start : {slots refs : List ℕ} → Named slots refs 0
named_start = record { within = omega arith; left = refl }

module _ {slots refs : List ℕ} {j : ℕ} (r : Named slots refs j) where
  pub named_on : eqb (how_many (is (j + 1)) slots) (choose (nonzero (get_or refs j 0)) 1 0) ≡ true → j < length refs → Named slots refs (j + 1)
  named_on t h = record { within = omega arith; left = r.left ∙ ap (named slots j) (step refs j h) ∙ ap (λ (b : Bool). b && named slots (j + 1) (drop (j + 1) refs)) t }

  pub named_off : eqb (how_many (is (j + 1)) slots) (choose (nonzero (get_or refs j 0)) 1 0) ≡ false → j < length refs → false ≡ named slots 0 refs
  named_off t h = sym (r.left ∙ ap (named slots j) (step refs j h) ∙ ap (λ (b : Bool). b && named slots (j + 1) (drop (j + 1) refs)) t)

  pub named_end : length refs ≤ j → true ≡ named slots 0 refs
  named_end h = sym (r.left ∙ ap (named slots j) (drop_of_length-le refs h))

-- the one pass over the slots: t counts those before i, place by place, and those past 48 at 49
pub record Tally (slots t : List ℕ) (i : ℕ) : Type 0 where
  pub within : i ≤ length slots
  pub long : length t ≡ 50
  pub each : (x : ℕ) → x < 49 → Count (is x) slots i (get_or t x 0)
  pub rest : get_or t 49 0 ≤ i

pub tally_few : {slots t : List ℕ} {i : ℕ} → Tally slots t i → (s : ℕ) → s ≤ 49 → get_or t s 0 ≤ i
tally_few {slots} {t} {i} r s h = go (ℕ_discrete s 49)
  where
    go : Dec (s ≡ 49) → get_or t s 0 ≤ i
    go (yes e) = subst (λ (k : ℕ). get_or t k 0 ≤ i) (sym e) r.rest
    go (no n) = (r.each s (omega arith)).few

pub tally_start : {slots : List ℕ} → Tally slots (replicate 50 0) 0
tally_start {slots} = record { within = omega arith; long = refl; each = λ x l. subst (Count (is x) slots 0) (sym (get_or-replicate 50 x 0 0 (omega arith))) count_start; rest = omega arith }

pub tally_on : {slots t : List ℕ} {i : ℕ} → Tally slots t i → (s : ℕ) → s ≡ min (get_or slots i 0) 49 → i < length slots → Tally slots (set t s (get_or t s 0 + 1)) (i + 1)
tally_on {slots} {t} {i} r s e h =
    record { within = omega arith; long = length-set t s (get_or t s 0 + 1) ∙ r.long; each = λ x l. here x l (ℕ_discrete s x); rest = last (ℕ_discrete s 49) }
  where
    here : (x : ℕ) → x < 49 → Dec (s ≡ x) → Count (is x) slots (i + 1) (get_or (set t s (get_or t s 0 + 1)) x 0)
    here x l (yes q) =
        subst (Count (is x) slots (i + 1)) (sym (ap (λ (k : ℕ). get_or (set t s (get_or t s 0 + 1)) k 0) (sym q) ∙ get_or-set_same t s (get_or t s 0 + 1) 0 (omega (arith, r.long)) ∙ ap (λ (k : ℕ). get_or t k 0 + 1) q))
        (count_on (r.each x l) (eq-eqb (get_or slots i 0) x (omega arith)) h)
    here x l (no n) =
        subst (Count (is x) slots (i + 1)) (sym (get_or-set_other t s x (get_or t s 0 + 1) 0 (λ q. n (sym q))))
        (count_off (r.each x l) (ne_eqb (get_or slots i 0) x (λ q. n (omega arith))) h)

    last : Dec (s ≡ 49) → get_or (set t s (get_or t s 0 + 1)) 49 0 ≤ i + 1
    last (yes q) =
        let a : get_or (set t s (get_or t s 0 + 1)) 49 0 ≡ get_or t 49 0 + 1 = ap (λ (k : ℕ). get_or (set t s (get_or t s 0 + 1)) k 0) (sym q) ∙ get_or-set_same t s (get_or t s 0 + 1) 0 (omega (arith, r.long)) ∙ ap (λ (k : ℕ). get_or t k 0 + 1) q in
        omega (arith, r.rest)
    last (no n) =
        let a : get_or (set t s (get_or t s 0 + 1)) 49 0 ≡ get_or t 49 0 = get_or-set_other t s 49 (get_or t s 0 + 1) 0 (λ q. n (sym q)) in
        omega (arith, r.rest)

pub tally_end : {slots t : List ℕ} {i : ℕ} → Tally slots t i → length slots ≤ i → Tallied slots t
tally_end r h = record { each = λ x l. count_end (r.each x l) h }

-- the test of place j by the counts
pub tallied_test : {slots t : List ℕ} → Tallied slots t → (j next r f : ℕ) → next ≡ j + 1 → j < 48 → f ≡ choose (nonzero r) 1 0
    → eqb (how_many (is (j + 1)) slots) (choose (nonzero r) 1 0) ≡ eqb (get_or t next 0) f
tallied_test {slots} {t} w j next r f e h q =
    ap (λ (k : ℕ). eqb k (choose (nonzero r) 1 0)) (sym (w.each (j + 1) (omega arith)) ∙ ap (λ (k : ℕ). get_or t k 0) (sym e)) ∙ ap (eqb (get_or t next 0)) (sym q)

-- ── what the rule says ──
-- a test that is one of two others that exclude each other
module _ (p q r : ℕ → Bool) where
  count_split : (l : List ℕ) → ((x : ℕ) → choose (p x) 1 0 ≡ choose (q x) 1 0 + choose (r x) 1 0) → how_many p l ≡ how_many q l + how_many r l
  count_split [] h = refl
  count_split (x ∷ xs) h = go (p x) (q x) (r x) (h x) (count_split xs h)
    where
      go : (a b c : Bool) → choose a 1 0 ≡ choose b 1 0 + choose c 1 0 → how_many p xs ≡ how_many q xs + how_many r xs
          → choose a (suc (how_many p xs)) (how_many p xs) ≡ choose b (suc (how_many q xs)) (how_many q xs) + choose c (suc (how_many r xs)) (how_many r xs)
      go true true true e ih = absurd (omega arith)
      go true true false e ih = omega arith
      go true false true e ih = omega arith
      go true false false e ih = absurd (omega arith)
      go false true true e ih = absurd (omega arith)
      go false true false e ih = absurd (omega arith)
      go false false true e ih = absurd (omega arith)
      go false false false e ih = ih

pub count_has : (p : ℕ → Bool) (l : List ℕ) (i : ℕ) → i < length l → p (get_or l i 0) ≡ true → 0 < how_many p l
count_has p [] i h e = absurd (omega arith)
count_has p (x ∷ xs) zero h e = subst (λ (b : Bool). 0 < choose b (suc (how_many p xs)) (how_many p xs)) (sym e) (omega arith)
count_has p (x ∷ xs) (suc i) h e = go (p x) (count_has p xs i (omega arith) e)
  where
    go : (b : Bool) → 0 < how_many p xs → 0 < choose b (suc (how_many p xs)) (how_many p xs)
    go true ih = omega arith
    go false ih = ih

-- above j, and at most j + m
abbrev pub within : ℕ → ℕ → ℕ → Bool
within j m s = ltb j s && leb s (j + m)

within_split : (j m x : ℕ) → choose (within j (suc m) x) 1 0 ≡ choose (is (j + 1) x) 1 0 + choose (within (j + 1) m x) 1 0
within_split j m x = go (ltb j x) refl (leb x (j + suc m)) refl (eqb x (j + 1)) refl (ltb (j + 1) x) refl (leb x (j + 1 + m)) refl
  where
    go : (a : Bool) → ltb j x ≡ a → (b : Bool) → leb x (j + suc m) ≡ b → (c : Bool) → eqb x (j + 1) ≡ c → (d : Bool) → ltb (j + 1) x ≡ d → (e : Bool) → leb x (j + 1 + m) ≡ e
        → choose (a && b) 1 0 ≡ choose c 1 0 + choose (d && e) 1 0
    go true ea b eb true ec true ed e ee = absurd (omega (arith, eqb-true x (j + 1) ec, ltb-true (j + 1) x ed))
    go true ea true eb true ec false ed e ee = refl
    go true ea false eb true ec false ed e ee = absurd (omega (arith, eqb-true x (j + 1) ec, leb-false x (j + suc m) eb))
    go true ea true eb false ec true ed true ee = refl
    go true ea true eb false ec true ed false ee = absurd (omega (arith, leb-true x (j + suc m) eb, leb-false x (j + 1 + m) ee))
    go true ea false eb false ec true ed true ee = absurd (omega (arith, leb-false x (j + suc m) eb, leb-true x (j + 1 + m) ee))
    go true ea false eb false ec true ed false ee = refl
    go true ea b eb false ec false ed e ee = absurd (eqb-false x (j + 1) ec (omega (arith, ltb-true j x ea, ltb-false (j + 1) x ed)))
    go false ea b eb true ec d ed e ee = absurd (omega (arith, ltb-false j x ea, eqb-true x (j + 1) ec))
    go false ea b eb false ec true ed e ee = absurd (omega (arith, ltb-false j x ea, ltb-true (j + 1) x ed))
    go false ea b eb false ec false ed e ee = refl

within_none : (j x : ℕ) → within j 0 x ≡ false
within_none j x = go (ltb j x) refl (leb x (j + 0)) refl
  where
    go : (a : Bool) → ltb j x ≡ a → (b : Bool) → leb x (j + 0) ≡ b → a && b ≡ false
    go true ea true eb = absurd (omega (arith, ltb-true j x ea, leb-true x (j + 0) eb))
    go true ea false eb = refl
    go false ea b eb = refl

pub named_count : (slots : List ℕ) (j : ℕ) (rs : List ℕ) → named slots j rs ≡ true → how_many (within j (length rs)) slots ≡ how_many nonzero rs
named_count slots j [] h = count_none (within j 0) slots (λ i l. within_none j (get_or slots i 0))
named_count slots j (r ∷ rs) h =
    let p = both (eqb (how_many (is (j + 1)) slots) (choose (nonzero r) 1 0)) _ h in
    go (nonzero r) (eqb-true _ _ p.0) (count_split (within j (suc (length rs))) (is (j + 1)) (within (j + 1) (length rs)) slots (within_split j (length rs))) (named_count slots (j + 1) rs p.1)
  where
    go : (b : Bool) → how_many (is (j + 1)) slots ≡ choose b 1 0 → how_many (within j (suc (length rs))) slots ≡ how_many (is (j + 1)) slots + how_many (within (j + 1) (length rs)) slots
        → how_many (within (j + 1) (length rs)) slots ≡ how_many nonzero rs → how_many (within j (suc (length rs))) slots ≡ choose b (suc (how_many nonzero rs)) (how_many nonzero rs)
    go true a b c = omega arith
    go false a b c = omega arith

pub named_get : (slots : List ℕ) (j : ℕ) (rs : List ℕ) → named slots j rs ≡ true → (i : ℕ) → i < length rs → how_many (is (j + i + 1)) slots ≡ choose (nonzero (get_or rs i 0)) 1 0
named_get slots j [] h i l = absurd (omega arith)
named_get slots j (r ∷ rs) h zero l =
    ap (λ (k : ℕ). how_many (is k) slots) (let e : j + 0 + 1 ≡ j + 1 = omega arith in e) ∙ eqb-true _ _ (both (eqb (how_many (is (j + 1)) slots) (choose (nonzero r) 1 0)) _ h).0
named_get slots j (r ∷ rs) h (suc i) l =
    ap (λ (k : ℕ). how_many (is k) slots) (let e : j + suc i + 1 ≡ j + 1 + i + 1 = omega arith in e)
    ∙ named_get slots (j + 1) rs (both (eqb (how_many (is (j + 1)) slots) (choose (nonzero r) 1 0)) _ h).1 i (omega arith)

pub slot_filled : (slots refs : List ℕ) → named slots 0 refs ≡ true → (i : ℕ) → i < length slots → get_or slots i 0 ≤ length refs
    → nonzero (byslot refs (get_or slots i 0)) ≡ nonzero (get_or slots i 0)
slot_filled slots refs h i l k = go (eqb (get_or slots i 0) 0) refl
  where
    s : ℕ
    s = get_or slots i 0

    full : (b : Bool) → nonzero (get_or refs (s - 1) 0) ≡ b → 0 < choose b 1 0 → b ≡ true
    full true e q = refl
    full false e q = absurd (omega arith)

    go : (t : Bool) → eqb s 0 ≡ t → nonzero (choose t 0 (get_or refs (s - 1) 0)) ≡ nonzero s
    go true e = ap nonzero (sym (eqb-true s 0 e))
    go false e =
        let z : s ≡ 0 → ⊥ = eqb-false s 0 e in
        let some : 0 < how_many (is s) slots = count_has (is s) slots i l (eq-eqb s s refl) in
        let same : how_many (is s) slots ≡ choose (nonzero (get_or refs (s - 1) 0)) 1 0 =
        ap (λ (k : ℕ). how_many (is k) slots) (let q : s ≡ 0 + (s - 1) + 1 = omega arith in q) ∙ named_get slots 0 refs h (s - 1) (omega arith) in
        full (nonzero (get_or refs (s - 1) 0)) refl (omega arith) ∙ sym (lt-ltb 0 s (omega arith))

pub small_within : (m s : ℕ) → s ≤ m → nonzero s ≡ within 0 m s
small_within m s h = go (nonzero s)
  where
    go : (b : Bool) → b ≡ b && leb s (0 + m)
    go true = sym (le-leb s (0 + m) (omega arith))
    go false = refl
