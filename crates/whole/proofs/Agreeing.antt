-- What the code compares of tags and stored bytes is what the mathematics does.
use Prim.Native.Nat.{ℕ, suc, ◌+◌, ◌≤◌, ◌<◌}
use mathlib.Core.Path.{◌≡◌, sym, ap, ◌∙◌}
use mathlib.Core.List.{List, [], ◌∷◌, ◌++◌}
use mathlib.Core.Bool.{true, ◌&&◌}
use native.Mathlib.Omega.{arith}
use native.Mathlib.Decide.{dec_lt}
use lib.ListN.{length, get_or, take, drop, length-take, length-append}
use lib.Seq.{take-suc, take-take, take_at, take_all, take-length, get_or-take, get_or-append-add, length-take-le}
use lib.Dec.{eqb, leb, ltb}
use borrow.Author.Tests.{lt-ltb, le-leb, eq-eqb, ltb-true, leb-true, eqb-true}
use Rattle.lists.specs.Compare.{shared}
use Rattle.lists.proofs.Tests.{both, and_both}
use Rattle.lists.proofs.Compares.{shared_front, shared_more, shared_le}
use Rattle.prefix.specs.Run.{capped, held}
use Rattle.prefix.specs.declared.Prefix.{Prefix}
use Rattle.whole.specs.Witness.{goes_on, stored_agrees}

-- ── two tags ──
shared_take_front : (e : ℕ) (w t : List ℕ) → e ≤ shared w t → take e w ≡ take e t
shared_take_front e w t h =
    sym (take-take e (shared w t) w h) ∙ ap (take e) (shared_front w t) ∙ take-take e (shared w t) t h

module _ (e : ℕ) (w : List ℕ) (b : ℕ) (t : List ℕ) where
  -- a tag that goes on from another is longer than it goes
  pub goes_longer : e < length w → take (suc e) t ≡ take e w ++ b ∷ [] → e < length t
  goes_longer l h = omega (arith, length-take (suc e) t, length-take e w, length-append (take e w) (b ∷ []), ap length h)

  pub goes_true : goes_on e w b t ≡ true → take (suc e) t ≡ take e w ++ b ∷ []
  unfolding goes_on
  goes_true g =
      let p = both (ltb e (length t)) (leb e (shared w t) && eqb (get_or t e 0) b) g in
      let q = both (leb e (shared w t)) (eqb (get_or t e 0) b) p.1 in
      take-suc t e 0 (ltb-true _ _ p.0)
      ∙ ap (λ (l : List ℕ). l ++ get_or t e 0 ∷ []) (sym (shared_take_front e w t (leb-true _ _ q.0)))
      ∙ ap (λ (x : ℕ). take e w ++ x ∷ []) (eqb-true _ _ q.1)

  pub true_goes : e < length w → take (suc e) t ≡ take e w ++ b ∷ [] → goes_on e w b t ≡ true
  unfolding goes_on
  true_goes l h =
      let long = goes_longer l h in
      let we : length (take e w) ≡ e = length-take-le e w (omega arith) in
      let front : take e w ≡ take e t = sym (take_at (take e w) (b ∷ []) e we) ∙ ap (take e) (sym h) ∙ take-take e (suc e) t (omega arith) in
      let byte : get_or t e 0 ≡ b =
      sym (get_or-take (suc e) t e 0 (omega arith))
      ∙ ap (λ (l : List ℕ). get_or l e 0) h
      ∙ ap (λ (k : ℕ). get_or (take e w ++ b ∷ []) k 0) (let q : e ≡ length (take e w) + 0 = omega arith in q)
      ∙ get_or-append-add (take e w) (b ∷ []) 0 0 in
      and_both (lt-ltb e (length t) long) (and_both (le-leb e (shared w t) (shared_more w t e (omega arith) (omega arith) front)) (eq-eqb _ _ byte))

-- ── stored bytes and a tag ──
take_capped : (n : ℕ) (l : List ℕ) → take 8 (take n l) ≡ take (capped n) l
take_capped n l = go (dec_lt 8 n)
  where
    go : Dec (8 < n) → take 8 (take n l) ≡ take (capped n) l
    go (yes h) = take-take 8 n l (omega arith) ∙ ap (λ (k : ℕ). take k l) (let q : 8 ≡ capped n = omega arith in q)
    go (no h) = take_all 8 (take n l) (omega (arith, length-take n l)) ∙ ap (λ (k : ℕ). take k l) (let q : n ≡ capped n = omega arith in q)

module _ (depth : ℕ) (p : Prefix) (long : length p.stored ≡ 8) (w : List ℕ) where
  held_length : length (held p) ≡ capped p.full.0
  held_length = length-take-le (capped p.full.0) p.stored (omega arith)

  pub stored_true : stored_agrees depth p w ≡ true → take 8 (take p.full.0 (drop depth w)) ≡ held p
  unfolding stored_agrees
  stored_true h =
      let e : shared (held p) (drop depth w) ≡ capped p.full.0 = eqb-true _ _ h in
      take_capped p.full.0 (drop depth w)
      ∙ ap (λ (k : ℕ). take k (drop depth w)) (sym e)
      ∙ sym (shared_front (held p) (drop depth w))
      ∙ ap (λ (k : ℕ). take k (held p)) (e ∙ sym held_length)
      ∙ take-length (held p)

  pub true_stored : take 8 (take p.full.0 (drop depth w)) ≡ held p → stored_agrees depth p w ≡ true
  unfolding stored_agrees
  true_stored h =
      let c = capped p.full.0 in
      let e : take c (drop depth w) ≡ held p = sym (take_capped p.full.0 (drop depth w)) ∙ h in
      let room : c ≤ length (drop depth w) = omega (arith, length-take c (drop depth w), ap length e, held_length) in
      let all : take c (held p) ≡ take c (drop depth w) = take_all c (held p) (omega (arith, held_length)) ∙ sym e in
      eq-eqb (shared (held p) (drop depth w)) c (omega (arith, shared_more (held p) (drop depth w) c (omega (arith, held_length)) room all, shared_le (held p) (drop depth w), held_length))
