-- Start, computed: the block of capacities 2, 1, 0, 0, 3, and what is refused.
use Prim.Native.Nat.{ℕ}
use mathlib.Core.Path.{◌≡◌, refl}
use mathlib.Core.List.{List, [], ◌∷◌, ◌++◌}
use Rattle.std.specs.Prelude.{Ok, Err}
use Rattle.refusals.specs.declared.Refusal.TheVariants.{Unfit}
use lib.ListN.{replicate}
use Rattle.frames.specs.Kind.{kind_row}
use Rattle.frames.specs.Form.{form_known, form_of}
use Rattle.frames.specs.declared.frame.Caps.{Caps}
use Rattle.pools.specs.Start.{out, start_fits, start_fits_in, trailer_words, start_of}

abbrev bench : Caps
bench = record { c1 = 2; c2 = 1; c3 = 0; c4 = 0; c5 = 3 }

-- slices with something in them
abbrev words : ℕ → List ℕ
words n = replicate n 7

abbrev keys : ℕ → List ℕ
keys n = replicate n 9

bench_done : start_of (words 115) (keys 192) 1 bench
    ≡ out (Ok tt) (replicate 99 0 ++ (1 ∷ 99 ∷ 61 ∷ 18 ∷ 18 ∷ 18 ∷ 2 ∷ 1 ∷ 0 ∷ 0 ∷ 3 ∷ 0 ∷ 0 ∷ 0 ∷ 0 ∷ 115 ∷ [])) (replicate 192 0)
unfolding start_of start_fits_in start_fits form_known trailer_words form_of kind_row
bench_done = refl

-- a word or a key byte too few
short_refused : start_of (words 114) (keys 192) 1 bench ≡ out (Err Unfit) (words 114) (keys 192)
unfolding start_of start_fits_in start_fits form_known form_of kind_row
short_refused = refl

bytes_refused : start_of (words 115) (keys 191) 1 bench ≡ out (Err Unfit) (words 115) (keys 191)
unfolding start_of start_fits_in start_fits form_known form_of kind_row
bytes_refused = refl

-- a capacity over 4,096
abbrev many : Caps
many = record { c1 = 4097; c2 = 0; c3 = 0; c4 = 0; c5 = 0 }

many_refused : (w k : List ℕ) → start_of w k 1 many ≡ out (Err Unfit) w k
unfolding start_of start_fits_in start_fits form_known
many_refused w k = refl

-- a form that there is not
form_refused : (w k : List ℕ) → start_of w k 2 bench ≡ out (Err Unfit) w k
unfolding start_of start_fits_in form_known
form_refused w k = refl
