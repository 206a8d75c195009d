-- The bench sheet: for each of its rows the calls in order, each with what it must tell; and what comes of them.
use Rattle.std.specs.Prelude.{ℕ, ◌+◌, ◌*◌, List, [], ◌∷◌, ◌++◌, replicate}
use Prim.Native.Char.{Char, code}
use Prim.Native.String.{String, [] as empty, ◌∷◌ as ◌then◌}
use Rattle.frames.specs.Form.{form_of, sizes_of}
use Rattle.frames.specs.Frame.{backs_of}
use Rattle.frames.specs.declared.frame.Caps.{Caps}
use Rattle.art.specs.Drawings.{Drawing, one, branch, done, kid}
use Rattle.demands.specs.Calls as calls
use Rattle.demands.specs.Calls.{Call, start, query, ask, edit, Slices, run}
use Rattle.demands.specs.Told.{Told, only, with_total, told_by}
use Rattle.demands.specs.Drawn.{drawing_of}
use Rattle.demands.proofs.Lasts.{hit}

-- ── lines ──
-- a call with what it must tell, and the number of the check after it; or what the block must draw
pub data Line : Type 0 where
  called : (call : Call) (told : Told) (sound : ℕ) → Line
  drawing : Drawing ℕ → Line

-- the same line with what comes of it
abbrev pub came : Slices → Line → Line
came s (called c t n) = let o = run c s in called c (told_by o.answer) (told_by (run (ask calls.check) o.slices).answer).number
came s (drawing d) = drawing (drawing_of s.words s.keys)

-- the slices after it
abbrev pub left : Slices → Line → Slices
left s (called c t n) = (run c s).slices
left s (drawing d) = s

-- line by line, each on what the one before it left
unfoldable pub came_from : Slices → List Line → List Line
came_from s [] = []
came_from s (l ∷ ls) = came s l ∷ came_from (left s l) ls

-- ── rows ──
-- the letter of a row, the capacities of its block, and its lines in order
pub record Row : Type 0 where
  pub letter : Char
  pub caps : Caps
  pub lines : List Line

-- slices of the lengths that these capacities need
abbrev pub sized : Caps → Slices
sized c = record { words = replicate ((backs_of (sizes_of (form_of 1)) c).b1 + 16) 0; keys = replicate (c.c5 * (form_of 1).limit) 0; scratch = replicate (c.c1 + c.c2 + c.c3 + c.c4 + c.c5) 0 }

-- the same rows with what comes of their lines
unfoldable pub came_all : List Row → List Row
came_all [] = []
came_all (r ∷ rs) = record { letter = r.letter; caps = r.caps; lines = came_from (sized r.caps) r.lines } ∷ came_all rs

-- ── what is written in the table ──
-- the codes of a text's characters
abbrev pub bytes : String → List ℕ
bytes empty = []
bytes (c then s) = code c ∷ bytes s

-- insert of a text, with a total
abbrev pub inserting : String → ℕ → Call
inserting t total = edit (calls.insert (bytes t) total)

-- delete of a text
abbrev pub deleting : String → Call
deleting t = edit (calls.delete (bytes t))

-- search for a text
abbrev pub searching : String → Call
searching t = query (calls.search (bytes t))

-- search for a tag that a text begins with
abbrev pub prefix_searching : String → Call
prefix_searching t = query (calls.prefix_search (bytes t))

-- the first tag that is not below a text
abbrev pub at_or_after : String → Call
at_or_after t = ask (calls.first_at_or_after (bytes t))

-- the lowest tag
abbrev pub the_minimum : Call
the_minimum = query calls.minimum

infix 80 ◌gives◌
-- the call tells this, and the block is sound after it
abbrev pub ◌gives◌ : Call → Told → Line
c gives t = called c t 0

-- an accepted change tells the old total, 0 where there was none
abbrev pub old_total : ℕ → Told
old_total total = with_total total (only 0)

-- no such tag is found
abbrev pub missing : Told
missing = only 1

-- a row whose block is started with the capacities of the five pools in order, kinds 1 to 4 and leaves
abbrev pub row : Char → (a b c d e : ℕ) → List Line → Row
row letter a b c d e ls = let k : Caps = record { c1 = a; c2 = b; c3 = c; c4 = d; c5 = e } in record { letter = letter; caps = k; lines = start 1 k gives only 0 ∷ ls }

-- one with 115 words and 192 key bytes
abbrev pub bench : Char → List Line → Row
bench letter ls = row letter 2 1 0 0 3 ls

-- ── drawings ──
-- a leaf, with its total
abbrev pub single : String → (total : ℕ) → Drawing ℕ
single t total = one (bytes t) total

-- a run's length, its stored bytes, and two children by their bytes
abbrev pub fork : ℕ → String → Char → Drawing ℕ → Char → Drawing ℕ → Drawing ℕ
fork len stored b x c y = branch len (bytes stored) (kid (code b) x (kid (code c) y done))

-- the first long tag's leaf
abbrev pub long_1 : Drawing ℕ
long_1 = single "ABCDEFGHIJ1" 1

-- the second's
abbrev pub long_2 : Drawing ℕ
long_2 = single "ABCDEFGHIJ2" 2

-- the two draw a run of ten bytes, of which eight are stored
abbrev pub drawn_long : Drawing ℕ
drawn_long = fork 10 "ABCDEFGH" "1" long_1 "2" long_2

-- ── the rows ──
-- an empty directory
abbrev pub lines_a : List Line
lines_a =
    searching "A" gives missing
    ∷ the_minimum gives missing
    ∷ []

-- the empty tag alone begins every other
abbrev pub lines_b : List Line
lines_b =
    inserting "" 1 gives old_total 0
    ∷ searching "" gives hit 0 1
    ∷ prefix_searching "XYZ" gives hit 0 1
    ∷ inserting "A" 2 gives only 3
    ∷ []

-- a run of three bytes over two leaves
abbrev pub lines_c : List Line
lines_c =
    inserting "L14A" 1 gives old_total 0
    ∷ inserting "L14B" 2 gives old_total 0
    ∷ drawing (fork 3 "L14" "A" (single "L14A" 1) "B" (single "L14B" 2))
    ∷ []

-- a tag that begins another
abbrev pub lines_d : List Line
lines_d =
    inserting "L14A" 1 gives old_total 0
    ∷ inserting "L14AB" 2 gives only 3
    ∷ []

-- two long tags
abbrev pub lines_long : List Line
lines_long =
    inserting "ABCDEFGHIJ1" 1 gives old_total 0
    ∷ inserting "ABCDEFGHIJ2" 2 gives old_total 0
    ∷ drawing drawn_long
    ∷ []

-- a run of ten bytes, eight of them stored; the skipped ones count at the leaf
abbrev pub lines_e : List Line
lines_e =
    lines_long
    ++ searching "ABCDEFGHXX1" gives missing
    ∷ []

-- the run is parted after its stored bytes
abbrev pub lines_f : List Line
lines_f =
    lines_long
    ++ inserting "ABCDEFGHIX" 3 gives old_total 0
    ∷ drawing (fork 9 "ABCDEFGH" "J" (fork 0 "" "1" long_1 "2" long_2) "X" (single "ABCDEFGHIX" 3))
    ∷ []

-- the run is parted within its stored bytes, and the rest is filled again from a leaf
abbrev pub lines_g : List Line
lines_g =
    lines_long
    ++ inserting "AX" 3 gives old_total 0
    ∷ drawing (fork 1 "A" "B" (fork 8 "CDEFGHIJ" "1" long_1 "2" long_2) "X" (single "AX" 3))
    ∷ []

-- and comes together again
abbrev pub lines_h : List Line
lines_h =
    lines_g
    ++ deleting "AX" gives old_total 3
    ∷ drawing drawn_long
    ∷ []

-- byte order
abbrev pub lines_i : List Line
lines_i =
    inserting "L14A" 1 gives old_total 0
    ∷ inserting "L15" 2 gives old_total 0
    ∷ at_or_after "L14" gives hit 0 1
    ∷ at_or_after "L14B" gives hit 1 2
    ∷ at_or_after "L16" gives missing
    ∷ []

-- no free leaf
abbrev pub lines_j : List Line
lines_j =
    inserting "a" 1 gives old_total 0
    ∷ inserting "b" 2 gives old_total 0
    ∷ inserting "c" 3 gives old_total 0
    ∷ searching "a" gives hit 0 1
    ∷ searching "b" gives hit 1 2
    ∷ searching "c" gives hit 2 3
    ∷ inserting "d" 4 gives only 4
    ∷ []

-- no inner record for a branching
abbrev pub lines_k : List Line
lines_k =
    inserting "A" 1 gives old_total 0
    ∷ searching "A" gives hit 0 1
    ∷ inserting "B" 2 gives only 5
    ∷ []

-- no larger record for a fifth child, until one is left out
abbrev pub lines_l : List Line
lines_l =
    inserting "A" 1 gives old_total 0
    ∷ inserting "B" 2 gives old_total 0
    ∷ inserting "C" 3 gives old_total 0
    ∷ inserting "D" 4 gives old_total 0
    ∷ searching "A" gives hit 0 1
    ∷ searching "B" gives hit 1 2
    ∷ searching "C" gives hit 2 3
    ∷ searching "D" gives hit 3 4
    ∷ inserting "E" 5 gives only 5
    ∷ deleting "D" gives old_total 4
    ∷ inserting "E" 5 gives old_total 0
    ∷ []

-- the whole sheet, a row for each letter
unfoldable pub rows : List Row
rows =
    bench "a" lines_a
    ∷ bench "b" lines_b
    ∷ bench "c" lines_c
    ∷ bench "d" lines_d
    ∷ bench "e" lines_e
    ∷ bench "f" lines_f
    ∷ bench "g" lines_g
    ∷ bench "h" lines_h
    ∷ bench "i" lines_i
    ∷ bench "j" lines_j
    ∷ row "k" 0 0 0 0 2 lines_k
    ∷ row "l" 1 0 0 0 5 lines_l
    ∷ []
