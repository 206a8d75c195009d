-- A block that is saved and opened again has the words and the key bytes that it had, since a number below 2 ^ 32 is the sum of its four bytes.
use Prim.Native.Nat.{ℕ, zero, suc, ◌+◌, ◌*◌, ◌≤◌}
use mathlib.Core.Path.{◌≡◌, refl, sym, ap, ap₂, ◌∙◌}
use mathlib.Core.List.{List, [], ◌∷◌, ◌++◌}
use native.Mathlib.Omega.{arith}
use Rattle.std.specs.Prelude.{Some}
use lib.ListN.{length, get_or, drop}
use lib.Seq.{get_or-append-add, drop-append-add}
use Rattle.saved.specs.Saved.{number_at, numbers_from, words_of, keys_of, block_of, four_of, bytes_of, file_of}
use Rattle.saved.proofs.Blocks.{all_there}

-- a number is found again in its bytes
four_back : (w : ℕ) (rest : List ℕ) → number_at (four_of w ++ rest) 0 ≡ w
four_back w rest = omega arith

-- ── behind other bytes ──
module _ (front rest : List ℕ) where
  number_behind : (at : ℕ) → number_at (front ++ rest) (length front + at) ≡ number_at rest at
  number_behind at =
      let a = get_or-append-add front rest at 0 in
      let b : get_or (front ++ rest) (length front + at + 1) 0 ≡ get_or rest (at + 1) 0 = ap (λ (k : ℕ). get_or (front ++ rest) k 0) (let q : length front + at + 1 ≡ length front + (at + 1) = omega arith in q) ∙ get_or-append-add front rest (at + 1) 0 in
      let c : get_or (front ++ rest) (length front + at + 2) 0 ≡ get_or rest (at + 2) 0 = ap (λ (k : ℕ). get_or (front ++ rest) k 0) (let q : length front + at + 2 ≡ length front + (at + 2) = omega arith in q) ∙ get_or-append-add front rest (at + 2) 0 in
      let d : get_or (front ++ rest) (length front + at + 3) 0 ≡ get_or rest (at + 3) 0 = ap (λ (k : ℕ). get_or (front ++ rest) k 0) (let q : length front + at + 3 ≡ length front + (at + 3) = omega arith in q) ∙ get_or-append-add front rest (at + 3) 0 in
      omega arith

  numbers_behind : (at n : ℕ) → numbers_from (front ++ rest) (length front + at) n ≡ numbers_from rest at n
  numbers_behind at zero = refl
  numbers_behind at (suc n) =
      ap₂ (λ (w : ℕ) (ws : List ℕ). w ∷ ws) (number_behind at)
      (ap (λ (k : ℕ). numbers_from (front ++ rest) k n) (let q : length front + at + 4 ≡ length front + (at + 4) = omega arith in q) ∙ numbers_behind (at + 4) n)

-- ── all words ──
words_back : (words rest : List ℕ) → numbers_from (bytes_of words rest) 0 (length words) ≡ words
words_back [] rest = refl
words_back (w ∷ ws) rest = ap₂ (λ (v : ℕ) (vs : List ℕ). v ∷ vs) (four_back w (bytes_of ws rest)) (numbers_behind (four_of w) (bytes_of ws rest) 0 (length ws) ∙ words_back ws rest)

bytes_long : (words rest : List ℕ) → length (bytes_of words rest) ≡ 4 * length words + length rest
bytes_long [] rest = omega arith
bytes_long (w ∷ ws) rest = omega (arith, bytes_long ws rest)

rest_back : (words rest : List ℕ) → drop (4 * length words) (bytes_of words rest) ≡ rest
rest_back [] rest = refl
rest_back (w ∷ ws) rest = ap (λ (k : ℕ). drop k (bytes_of (w ∷ ws) rest)) (let q : 4 * suc (length ws) ≡ 4 + 4 * length ws = omega arith in q) ∙ drop-append-add (four_of w) (bytes_of ws rest) (4 * length ws) ∙ rest_back ws rest

-- ── the whole file ──
module _ (words keys : List ℕ) where
  file_long : length (file_of words keys) ≡ 4 + 4 * length words + length keys
  file_long = omega (arith, bytes_long words keys)

  pub saved_block : 4 + 4 * length words + length keys ≤ 60000 → Some (length words) ≡ block_of (file_of words keys)
  saved_block h =
      all_there (file_of words keys) (length words) (sym (four_back (length words) (bytes_of words keys))) (omega (arith, file_long)) (omega (arith, file_long)) (omega (arith, file_long))

  pub saved_words : words_of (file_of words keys) (length words) ≡ words
  saved_words = numbers_behind (four_of (length words)) (bytes_of words keys) 0 (length words) ∙ words_back words keys

  pub saved_keys : keys_of (file_of words keys) (length words) ≡ keys
  saved_keys = drop-append-add (four_of (length words)) (bytes_of words keys) (4 * length words) ∙ rest_back words keys
