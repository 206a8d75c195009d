-- The table of 256 places that a body of kinds 1 and 2, or of kind 3, gives: the turns of the loops that fill it.
use Prim.Native.Nat.{ℕ, suc, ◌+◌, ◌-◌, ◌≤◌, ◌<◌}
use mathlib.Core.Path.{◌≡◌, refl, sym, ap, ap₂, ◌∙◌}
use mathlib.Core.List.{List, [], ◌∷◌, ◌++◌}
use mathlib.Core.Bool.{true, ◌&&◌}
use native.Mathlib.Omega.{arith}
use lib.ListN.{length, get_or, take, drop, set, replicate, length-drop}
use lib.Seq.{take-suc, get_or-drop}
use lib.Dec.{ltb}
use borrow.Author.Tests.{lt-ltb}
use Rattle.lists.specs.Scan.{nonzero, all_pass, rises, at_most}
use Rattle.lists.specs.Part.{between}
use Rattle.lists.proofs.Tests.{both, all_by, rises_at, rises_lt}
use Rattle.lists.proofs.Parts.{between_length}
use Rattle.records.specs.Own.{sorted_ok, byslot, indirect_child}
use Rattle.records.specs.Row.{beside, sorted_row}
use Rattle.records.proofs.Rows.{spread_length, spread_at}
use Rattle.edits.specs.Body.{row_spread, sorted_spread, slot_spread, bytes_of}
use Rattle.lists.proofs.Pieces.{front_at}
use Rattle.edits.proofs.Fills.{more, Under, spread_more}

abbrev Pairs : Type 0
Pairs = List (ℕ × ℕ)

-- ── kinds 1 and 2: after i turns it is the table of the first i children ──
beside_more : (ks rs : List ℕ) (k r : ℕ) → length ks ≡ length rs → beside (ks ++ (k ∷ [])) (rs ++ (r ∷ [])) ≡ more (beside ks rs) k r
beside_more [] [] k r h = refl
beside_more [] (y ∷ ys) k r h = absurd (omega arith)
beside_more (x ∷ xs) [] k r h = absurd (omega arith)
beside_more (x ∷ xs) (y ∷ ys) k r h = ap (λ (l : Pairs). (x, y) ∷ l) (beside_more xs ys k r (omega arith))

beside_bytes : (ks rs : List ℕ) → length ks ≡ length rs → bytes_of (beside ks rs) ≡ ks
beside_bytes [] [] h = refl
beside_bytes [] (y ∷ ys) h = absurd (omega arith)
beside_bytes (x ∷ xs) [] h = absurd (omega arith)
beside_bytes (x ∷ xs) (y ∷ ys) h = ap (λ (l : List ℕ). x ∷ l) (beside_bytes xs ys (omega arith))

-- a part with the element behind it
between_more : (l : List ℕ) (a e : ℕ) → a ≤ e → e < length l → between l a (e + 1) ≡ between l a e ++ (get_or l e 0 ∷ [])
between_more l a e h k =
    let q : e + 1 - a ≡ suc (e - a) = omega arith in
    let w : a + (e - a) ≡ e = omega arith in
    ap (λ (n : ℕ). take n (drop a l)) q
    ∙ take-suc (drop a l) (e - a) 0 (omega (arith, length-drop a l))
    ∙ ap (λ (v : ℕ). between l a e ++ (v ∷ [])) (get_or-drop a l (e - a) 0 ∙ ap (λ (n : ℕ). get_or l n 0) w)

-- no children, no reference
pub spread_none : (k : ℕ) (body : List ℕ) → replicate 256 0 ≡ sorted_spread k body 0
unfolding sorted_spread
spread_none k body = refl

module _ (k : ℕ) (body : List ℕ) (n : ℕ) (few : n ≤ k) (long : length body ≡ k + k) (ok : sorted_ok k body n ≡ true) where
  keys_rise : rises 0 (between body 0 n) ≡ true
  unfolding sorted_ok
  keys_rise =
      let p = both (rises 0 (between body 0 n) && all_pass (at_most 0) (between body n k) && all_pass nonzero (between body k (k + n))) _ ok in
      let q = both (rises 0 (between body 0 n) && all_pass (at_most 0) (between body n k)) _ p.0 in
      (both (rises 0 (between body 0 n)) _ q.0).0

  front_long : (m : ℕ) → m ≤ n → length (between body 0 m) ≡ m
  front_long m h = between_length body 0 m (omega arith) (omega arith) ∙ omega arith

  pub keys_long : length (between body 0 n) ≡ n
  keys_long = front_long n (omega arith)

  pub key_byte : (i : ℕ) → i < length (between body 0 n) → get_or (between body 0 n) i 0 < 256
  key_byte i h = omega (arith, rises_at 0 (between body 0 n) keys_rise i h)

  same_long : (i : ℕ) → i < n → length (between body 0 i) ≡ length (between body k (k + i))
  same_long i h = omega (arith, front_long i (omega arith), between_length body k (k + i) (omega arith) (omega arith))

  row_under : (i : ℕ) → i < n → Under (get_or body i 0) (sorted_row k body i)
  row_under i h =
      ap (all_pass (λ x. ltb x (get_or body i 0))) (beside_bytes (between body 0 i) (between body k (k + i)) (same_long i h))
      ∙ all_by (λ x. ltb x (get_or body i 0)) (between body 0 i) (λ j l. lt-ltb _ _ (lower j (omega (arith, front_long i (omega arith)))))
    where
      lower : (j : ℕ) → j < i → get_or (between body 0 i) j 0 < get_or body i 0
      lower j l =
          omega (arith, front_at body i j l, front_at body n j (omega arith), front_at body n i h, rises_lt 0 (between body 0 n) keys_rise j i l (omega (arith, front_long n (omega arith))))

  pub spread_on : (i : ℕ) {places : List ℕ} → places ≡ sorted_spread k body i → i < length (between body 0 n)
      → set places (get_or (between body 0 n) i 0) (get_or body (k + i) 0) ≡ sorted_spread k body (i + 1)
  unfolding sorted_spread
  spread_on i e l =
      let h : i < n = omega (arith, keys_long) in
      let q : k + (i + 1) ≡ k + i + 1 = omega arith in
      ap₂ (λ (t : List ℕ) (v : ℕ). set t v (get_or body (k + i) 0)) e (front_at body n i h)
      ∙ sym (ap (λ (e : ℕ). row_spread (beside (between body 0 (i + 1)) (between body k e))) q
      ∙ ap₂ (λ (x y : List ℕ). row_spread (beside x y)) (between_more body 0 i (omega arith) (omega arith)) (between_more body k (k + i) (omega arith) (omega arith))
      ∙ ap row_spread (beside_more (between body 0 i) (between body k (k + i)) (get_or body i 0) (get_or body (k + i) 0) (same_long i h))
      ∙ spread_more (sorted_row k body i) (get_or body i 0) (get_or body (k + i) 0) (row_under i h))

-- ── kind 3: each byte has the reference that its slot names ──
pub slot_spread_long : (body : List ℕ) → length body ≡ 304 → length (slot_spread body) ≡ 256
unfolding slot_spread
slot_spread_long body h = spread_length (between body 256 304) (between body 0 256) ∙ between_length body 0 256 (omega arith) (omega arith)

pub slot_spread_at : (body : List ℕ) (i : ℕ) → i < 256 → get_or (slot_spread body) i 0 ≡ indirect_child body i
unfolding slot_spread indirect_child
slot_spread_at body i h =
    spread_at (between body 256 304) (between body 0 256) i
    ∙ ap (byslot (between body 256 304)) (front_at body 256 i h)
