-- A history: from a start calls are accepted and refused, which is computed; and the theorems on it say what the block is at its end.
use Prim.Native.Nat.{ℕ, suc, ◌+◌}
use mathlib.Core.Path.{◌≡◌, refl}
use mathlib.Core.Logic.{◌≢◌}
use mathlib.Core.List.{List, [], ◌∷◌}
use native.Mathlib.Omega.{arith}
use lib.ListN.{replicate}
use Rattle.frames.specs.Frame.{count_word}
use Rattle.art.specs.Drawings.{one}
use Rattle.reading.specs.Answers.{Bytes}
use Rattle.pointed.proofs.Points.{tag_bytes}
use Rattle.demands.specs.Calls.{Call, start, query, search, edit, insert, delete, run}
use Rattle.demands.specs.Told.{only}
use Rattle.demands.specs.Histories.{Block, Turn, after_all}
use Rattle.demands.specs.Drawn.{drawing_of, used_inner}
use Rattle.demands.specs.Story.{Story}
use Rattle.demands.specs.Ledger.{Ledger, ledger}
use Rattle.demands.specs.Programs.{seen, tells, Reached, fresh, changed, refused}
use Rattle.demands.proofs.Histories.{history}
use Rattle.demands.proofs.Demands.{demands}
use Rattle.demands.proofs.Lasts.{hit, never_held, last_total}
use Rattle.instances.specs.Opened.{opened}
use Rattle.instances.specs.Blocks.{caps, A, B, C, AB}

-- memory that was used before
abbrev before : Block
before = record { words = replicate 47 3; keys = replicate 128 9 }

abbrev r : List ℕ
r = replicate 3 1

abbrev call : Call → Turn
call c = record { call = c; scratch = r }

-- a start; B; A; A again, with another total; AB, which clashes; C, for which there is no leaf; B out again
abbrev last : Block
last = after_all before (call (start 1 (caps 2)) ∷ call (edit (insert B 8)) ∷ call (edit (insert A 7)) ∷ call (edit (insert A 9)) ∷ call (edit (insert AB 1)) ∷ call (edit (insert C 2)) ∷ call (edit (delete B)) ∷ [])

-- ── computed: which calls are accepted; they define one tag with its total, two put in and one taken out ──
abbrev one_left : Ledger
one_left = ledger ((A, 9) ∷ []) 2 1

not_zero : (n : ℕ) → suc n ≢ 0
not_zero n e = omega arith

last_reached : Reached (seen run) last one_left
unfolding opened
last_reached =
    let a : Bytes A = tag_bytes A refl in
    let b : Bytes B = tag_bytes B refl in
    let both = changed (changed (fresh before 1 (caps 2) r refl) (insert B 8) b r refl) (insert A 7) a r refl in
    let over = refused (refused (changed both (insert A 9) a r refl) (edit (insert AB 1)) r (not_zero 2)) (edit (insert C 2)) r (not_zero 3) in
    changed over (delete B) b r refl

-- ── the theorems on it ──
story : Story last one_left
story = history last_reached

-- A is held with 9, drawn alone and with no inner record, and the count is one of two
A_drawn : drawing_of last.words last.keys ≡ one A 9
unfolding opened
A_drawn = demands.draws last one_left last_reached

unbranched : used_inner last.words ≡ 0
unfolding opened
unbranched = demands.branches last one_left last_reached

count_one : count_word last.words + 1 ≡ 2
unfolding opened
count_one = demands.counts last one_left last_reached

-- so a search finds A with 9, and B no more
A_last : (leaf : ℕ) × (tells (seen run) last (query (search A)) [] ≡ hit leaf 9)
unfolding opened
A_last = last_total (seen run) demands.on_sound (demands.as_list last one_left last_reached) A (tag_bytes A refl) [] 9 refl

B_never : tells (seen run) last (query (search B)) [] ≡ only 1
unfolding opened
B_never = never_held (seen run) demands.on_sound (demands.as_list last one_left last_reached) B (tag_bytes B refl) [] refl
