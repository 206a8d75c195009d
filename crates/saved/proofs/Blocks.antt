-- What a file is by the tests of its length, what a block's file then has, its words one after another, and the words that are lent filled with them.
use Prim.Native.Nat.{ℕ, zero, suc, ◌+◌, ◌-◌, ◌*◌, ◌<◌, ◌≤◌}
use mathlib.Core.Path.{◌≡◌, refl, sym, ap, ◌∙◌}
use mathlib.Core.List.{List, ◌++◌}
use mathlib.Core.Bool.{Bool, true, false}
use native.Mathlib.Omega.{arith}
use lib.ListN.{length, get_or, take, drop}
use lib.Seq.{length-take-le, take_at}
use lib.Dec.{ltb}
use borrow.Author.Tests.{le-ltb, lt-ltb, ltb-false}
use Rattle.std.specs.Prelude.{Some, None}
use Rattle.saved.specs.Saved.{Saved, number_at, numbers_from, word_count, words_of, block_of, Opened, opened, open_with, open_of}
use Rattle.lists.specs.Scan.{choose}

-- ── which files are blocks ──
module _ (file : List ℕ) where
  pub no_count : length file < 4 → None ≡ block_of file
  unfolding block_of
  no_count h = sym (simp (lt-ltb (length file) 4 h))

  pub too_long : 4 ≤ length file → 60000 < length file → None ≡ block_of file
  unfolding block_of
  too_long a h = sym (simp (le-ltb (length file) 4 a, lt-ltb 60000 (length file) h))

  module _ (n : ℕ) (e : n ≡ word_count file) (a : 4 ≤ length file) (b : length file ≤ 60000) where
    pub too_few : length file < 4 + 4 * n → None ≡ block_of file
    unfolding block_of
    too_few h = sym (simp (le-ltb (length file) 4 a, le-ltb 60000 (length file) b, lt-ltb (length file) (4 + 4 * word_count file) (omega arith)))

    pub all_there : 4 + 4 * n ≤ length file → Some n ≡ block_of file
    unfolding block_of
    all_there h = ap (λ (k : ℕ). Some k) e ∙ sym (simp (le-ltb (length file) 4 a, le-ltb 60000 (length file) b, le-ltb (length file) (4 + 4 * word_count file) (omega arith)))

  -- the words of a block are in its file
  pub record Fits (n : ℕ) : Type 0 where
    pub count : n ≡ word_count file
    pub words : 4 + 4 * n ≤ length file
    pub most : length file ≤ 60000

  pub block_fits : {n : ℕ} → Some n ≡ block_of file → Fits n
  unfolding block_of
  block_fits {n} e = by (ltb (length file) 4) refl (ltb 60000 (length file)) refl (ltb (length file) (4 + 4 * word_count file)) refl e
    where
      other : (Some n) ≡ None → Fits n
      other h = let z : ◌≡◌ {A = ℕ} 0 1 = cc in absurd (omega arith)

      by : (a : Bool) → ltb (length file) 4 ≡ a → (b : Bool) → ltb 60000 (length file) ≡ b → (c : Bool) → ltb (length file) (4 + 4 * word_count file) ≡ c
          → Some n ≡ choose a None (choose b None (choose c None (Some (word_count file)))) → Fits n
      by true ea b eb c ec h = other h
      by false ea true eb c ec h = other h
      by false ea false eb true ec h = other h
      by false ea false eb false ec h =
          let z : n ≡ word_count file = cc in
          record { count = z; words = omega (arith, ltb-false (length file) (4 + 4 * word_count file) ec); most = ltb-false 60000 (length file) eb }

-- ── the words ──
-- as many as are asked for
pub numbers_length : (file : List ℕ) (at n : ℕ) → length (numbers_from file at n) ≡ n
numbers_length file at zero = refl
numbers_length file at (suc n) = ap suc (numbers_length file (at + 4) n)

-- the one after k others
pub number_at_lem : (file : List ℕ) (at n k : ℕ) → k < n → get_or (numbers_from file at n) k 0 ≡ number_at file (at + 4 * k)
number_at_lem file at zero k h = absurd (omega arith)
number_at_lem file at (suc n) zero h = ap (number_at file) (let q : at ≡ at + 4 * 0 = omega arith in q)
number_at_lem file at (suc n) (suc k) h = number_at_lem file (at + 4) n k (omega arith) ∙ ap (number_at file) (let q : at + 4 + 4 * k ≡ at + 4 * suc k = omega arith in q)

-- ── the call ──
module _ (words file : List ℕ) {s : Saved} (e : s ≡ block_of file) where
  pub open_other : {r : Saved} → r ≡ None → s ≡ None → opened r words ≡ open_of words file
  unfolding open_of
  open_other q o = ap (λ (r : Saved). opened r words) q ∙ ap (open_with words file) (sym o ∙ e)

  -- of a block so many words are lent from the front, and come back filled
  module _ (h : 14999 ≤ length words) {n : ℕ} (b : s ≡ Some n) where
    pub lent_there : n ≤ length words
    lent_there = omega (arith, block_fits file (sym b ∙ e))

    lent_length : length (take (n - 0) words) ≡ n
    lent_length = length-take-le (n - 0) words (omega (arith, lent_there)) ∙ (let q : n - 0 ≡ n = omega arith in q)

    pub lent_fits : 4 + 4 * length (take (n - 0) words) ≤ length file
    lent_fits = omega (arith, block_fits file (sym b ∙ e), lent_length)

    pub open_block : {taken : List ℕ} → taken ≡ words_of file (length (take (n - 0) words)) → opened (Some n) (taken ++ drop (n - 0) words) ≡ open_of words file
    unfolding open_of
    open_block {taken} t =
        ap (λ (ws : List ℕ). opened (Some n) (ws ++ drop (n - 0) words)) (t ∙ ap (words_of file) lent_length)
        ∙ ap (λ (m : ℕ). opened (Some n) (words_of file n ++ drop m words)) (let q : n - 0 ≡ n = omega arith in q)
        ∙ ap (open_with words file) (sym b ∙ e)

-- ── what the call says to its caller ──
module _ (words file : List ℕ) {s : Saved} {left : List ℕ} (e : opened s left ≡ open_of words file) where
  pub opens : s ≡ block_of file
  unfolding open_of
  opens = go (block_of file) e
    where
      go : (b : Saved) → opened s left ≡ open_with words file b → s ≡ b
      go (Some n) h = ap (λ (o : Opened). o.result) h
      go None h = ap (λ (o : Opened). o.result) h

  module _ {n : ℕ} (b : s ≡ Some n) where
    pub open_fits : Fits file n
    open_fits = block_fits file (sym b ∙ opens)

    left_words : left ≡ words_of file n ++ drop n words
    unfolding open_of
    left_words = ap (λ (o : Opened). o.words) (e ∙ ap (open_with words file) (sym opens ∙ b))

    -- the words stand in front
    pub open_words : take n left ≡ words_of file n
    open_words = ap (take n) left_words ∙ take_at (words_of file n) (drop n words) n (numbers_length file 4 n)
