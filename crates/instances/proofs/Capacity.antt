-- Capacities that suffice: on a block with a record of kind 4 alone, and after calls from a start with capacities for five tags.
use mathlib.Core.Path.{◌≡◌, refl, ap}
use mathlib.Core.Logic.{◌≢◌}
use mathlib.Core.List.{List, [], ◌∷◌, ◌++◌}
use native.Mathlib.Omega.{arith}
use Rattle.std.specs.Prelude.{Ok}
use lib.ListN.{length, replicate}
use Rattle.frames.specs.Frame.{frame}
use Rattle.frames.specs.declared.frame.Caps.{Caps}
use Rattle.pools.specs.Start.{start_of}
use Rattle.reading.specs.Answers.{Bytes}
use Rattle.whole.specs.Sound.{Sound}
use Rattle.whole.proofs.Sounds.{whole_sound}
use Rattle.pointed.proofs.Points.{tag_bytes}
use Rattle.insert.specs.Room.{Lacking}
use Rattle.art.specs.Verdicts.{judge}
use Rattle.demands.specs.Calls.{edit, Call, start, insert, delete}
use Rattle.demands.specs.Told.{number}
use Rattle.demands.specs.Histories.{lent, Block, Turn, next, after_all, AllBytes}
use Rattle.demands.proofs.Leaves.{full_count}
use Rattle.demands.specs.Programs.{fresh}
use Rattle.demands.proofs.Histories.{history, all_reached}
use Rattle.capacity.specs.Capacity.{Large, AmpleCaps, AmpleFrame, AmpleStarts, Tight}
use Rattle.capacity.proofs.Rooms.{never_lacks, tight_never_lacks}
use Rattle.capacity.proofs.Numbers.{large_never_five}
use Rattle.capacity.proofs.Histories.{usual_ample, ample_frame, ample_tight, ample_never_five}
use Rattle.instances.specs.Opened.{opened}
use Rattle.instances.proofs.Sounds.{holds_is}
use Rattle.instances.specs.Blocks.{leaf_at, key, no_key, block, lend, A, B, C, D, E}

-- ── a record of kind 4, and two leaves ──
-- A, 7 is held, and B can't lack a record, since c5 - 1 is c4
abbrev four : Block
four = block (replicate 267 0 ++ leaf_at 0 0 7 ++ replicate 6 0 ++ 1 ∷ 279 ∷ 279 ∷ 279 ∷ 279 ∷ 12 ∷ 0 ∷ 0 ∷ 0 ∷ 1 ∷ 2 ∷ 5 ∷ 5 ∷ 5 ∷ 1 ∷ 295 ∷ []) (key 65 ++ no_key)

four_sound : Sound four.words four.keys
unfolding opened
four_sound = whole_sound four.words four.keys refl

four_large : Large (frame four.words)
unfolding opened
four_large = omega arith

has_room : ¬ Lacking (frame four.words) four_sound.tree B
unfolding opened
has_room = never_lacks four_sound B (tag_bytes B refl) four_large (ap (judge B) (holds_is four_sound)) (λ full. omega (arith, full_count four_sound full, ap length (holds_is four_sound)))

not_five : number (edit (insert B 8)) (lend four 3) ≢ 5
not_five = large_never_five (lend four 3) B 8 (tag_bytes B refl) four_large

-- ── capacities for five tags ──
abbrev five : Caps
five = record { c1 = 5; c2 = 1; c3 = 0; c4 = 0; c5 = 5 }

enough : AmpleCaps five
enough = usual_ample 5

-- memory that was used before
abbrev before : Block
before = record { words = replicate 184 3; keys = replicate 320 9 }

accepted : (start_of before.words before.keys 1 five).answer ≡ Ok tt
unfolding opened
accepted = refl

abbrev call : Call → Turn
call c = record { call = c; scratch = replicate 11 1 }

-- started anew after a first tag; then the record of kind 1 grows with E, and shrinks when A is gone
abbrev calls : List Turn
calls = call (edit (insert E 9)) ∷ call (start 1 five) ∷ call (edit (insert A 1)) ∷ call (edit (insert B 2)) ∷ call (edit (insert C 3)) ∷ call (edit (insert D 4)) ∷ call (edit (insert E 5)) ∷ call (edit (delete A)) ∷ []

bytes : AllBytes calls
bytes =
    let a : Bytes A = tag_bytes A refl in
    let e : Bytes E = tag_bytes E refl in
    (e, (tt, (a, (tag_bytes B refl, (tag_bytes C refl, (tag_bytes D refl, (e, (a, tt))))))))

-- the second start has enough too
starts : AmpleStarts (next before (call (start 1 five))) calls
starts = (tt, ((λ done. enough), (tt, (tt, (tt, (tt, (tt, (tt, tt))))))))

abbrev last : Block
last = after_all (next before (call (start 1 five))) calls

A_again : number (edit (insert A 6)) (lent last (replicate 11 1)) ≢ 5
A_again = ample_never_five before 1 five (replicate 11 1) accepted enough calls bytes starts A 6 (replicate 11 1) (tag_bytes A refl)

smallest_kinds : Tight (frame last.words) last.words last.keys
smallest_kinds = ample_tight before 1 five (replicate 11 1) accepted enough calls bytes starts

still_enough : AmpleFrame (frame last.words)
still_enough = ample_frame before 1 five (replicate 11 1) accepted enough calls bytes starts

last_sound : Sound last.words last.keys
unfolding opened
last_sound = (history (all_reached (fresh before 1 five (replicate 11 1) refl) calls bytes).1).sound

A_has_room : ¬ Lacking (frame last.words) last_sound.tree A
unfolding opened
A_has_room = tight_never_lacks last_sound A (tag_bytes A refl) smallest_kinds still_enough (ap (judge A) (holds_is last_sound)) (λ full. omega (arith, full_count last_sound full, ap length (holds_is last_sound)))
