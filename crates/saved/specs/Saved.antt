-- A saved block, by the bytes of its file: the word count as four bytes, the words, the key bytes; all numbers lowest byte first, and 60,000 bytes at most.
use Rattle.std.specs.Prelude.{ℕ, zero, suc, ◌+◌, ◌*◌, ◌/◌, ◌%◌, List, [], ◌∷◌, ◌++◌, length, get_or, drop, ltb, Some, None, Option}
use Rattle.lists.specs.Scan.{choose}

-- of how many words a block is that a file is; or that it is none
abbrev pub Saved : Type 0
Saved = Option ℕ

-- the number whose lowest byte stands at a place
abbrev pub number_at : List ℕ → ℕ → ℕ
number_at file at = get_or file at 0 + get_or file (at + 1) 0 * 256 + get_or file (at + 2) 0 * 65536 + get_or file (at + 3) 0 * 16777216

-- n numbers, one after another, the first of them at a place
abbrev pub numbers_from : List ℕ → (at n : ℕ) → List ℕ
numbers_from file at zero = []
numbers_from file at (suc n) = number_at file at ∷ numbers_from file (at + 4) n

-- how many words a file says that it has
abbrev pub word_count : List ℕ → ℕ
word_count file = number_at file 0

-- the n words of a block follow the count
abbrev pub words_of : List ℕ → ℕ → List ℕ
words_of file n = numbers_from file 4 n

-- its key bytes are all that follows the words
abbrev pub keys_of : List ℕ → ℕ → List ℕ
keys_of file n = drop (4 + 4 * n) file

-- a file is a block where it has four bytes or more, 60,000 or fewer, and all the words that it says it has
unfoldable pub block_of : List ℕ → Saved
block_of file =
    choose (ltb (length file) 4) None (choose (ltb 60000 (length file)) None (choose (ltb (length file) (4 + 4 * word_count file)) None (Some (word_count file))))

-- ── saving ──
-- a number as four bytes, the lowest first
abbrev pub four_of : ℕ → List ℕ
four_of w = w % 256 ∷ w / 256 % 256 ∷ w / 65536 % 256 ∷ w / 16777216 ∷ []

-- numbers as their bytes, one after another, and what follows them
abbrev pub bytes_of : (words rest : List ℕ) → List ℕ
bytes_of [] rest = rest
bytes_of (w ∷ ws) rest = four_of w ++ bytes_of ws rest

-- the file of a block: the word count, the words, the key bytes
abbrev pub file_of : (words keys : List ℕ) → List ℕ
file_of words keys = four_of (length words) ++ bytes_of words keys

-- ── the call ──
-- what a file is, and the lent words as the call leaves them
pub record Opened : Type 0 where
  pub result : Saved
  pub words : List ℕ

-- this answer, with these words
abbrev pub opened : Saved → List ℕ → Opened
opened r words = record { result = r; words = words }

-- the words of a block stand in front; where there is no block nothing is written
abbrev pub open_with : (words file : List ℕ) → Saved → Opened
open_with words file (Some n) = opened (Some n) (words_of file n ++ drop n words)
open_with words file None = opened None words

-- the lent words after the call
unfoldable pub open_of : (words file : List ℕ) → Opened
open_of words file = open_with words file (block_of file)
