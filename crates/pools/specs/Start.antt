-- Start: the slices of an empty directory, or a refusal that changes nothing.
use Rattle.refusals.specs.Refusal.{number_in}
use Rattle.std.specs.Prelude.{ℕ, ◌+◌, ◌-◌, ◌*◌, List, [], ◌∷◌, ◌++◌, Bool, ◌&&◌, length, replicate, eqb, Result, Ok, Err}
use Rattle.lists.specs.Scan.{choose}
use Rattle.frames.specs.Form.{form_known, form_of, sizes_of}
use Rattle.frames.specs.Frame.{caps_small, backs_of}
use Rattle.frames.specs.declared.form.Form.{Form}
use Rattle.frames.specs.declared.frame.Caps.{Caps}
use Rattle.refusals.specs.declared.Refusal.{Refusal}
use Rattle.refusals.specs.declared.Refusal.TheVariants.{Unfit}

-- done, with nothing beside it, or 8 for slices that do not fit
abbrev pub Started : Type 0
Started = Result (Unit {0}) Refusal

-- the number given back
abbrev pub start_number : Started → ℕ
start_number a = number_in a

-- capacities up to 4,096, and slices of the exact lengths
unfoldable pub start_fits : Form → Caps → ℕ → ℕ → Bool
start_fits form c n k = caps_small c && (eqb n ((backs_of (sizes_of form) c).b1 + 16) && eqb k (c.c5 * form.limit))

-- the same in the form of a number, where there is one
unfoldable pub start_fits_in : ℕ → Caps → ℕ → ℕ → Bool
start_fits_in number c n k = form_known number && start_fits (form_of number) c n k

-- form, distances, capacities; no root, first, last or tag; the total
unfoldable pub trailer_words : Form → Caps → List ℕ
trailer_words form c =
    let b = backs_of (sizes_of form) c in
    form.number
    ∷ b.b1
    ∷ b.b2
    ∷ b.b3
    ∷ b.b4
    ∷ b.b5
    ∷ c.c1
    ∷ c.c2
    ∷ c.c3
    ∷ c.c4
    ∷ c.c5
    ∷ 0
    ∷ 0
    ∷ 0
    ∷ 0
    ∷ (b.b1 + 16)
    ∷ []

-- an answer, and the slices as the call leaves them
pub record Out : Type 0 where
  pub answer : Started
  pub words : List ℕ
  pub keys : List ℕ

-- this answer, with these words and key bytes
abbrev pub out : Started → List ℕ → List ℕ → Out
out a w k = record { answer = a; words = w; keys = k }

-- in a form: all words 0 but the trailer, all key bytes 0
abbrev pub fresh : List ℕ → List ℕ → Form → Caps → Out
fresh words keys form c = out (Ok tt) (replicate (length words - 16) 0 ++ trailer_words form c) (replicate (length keys) 0)

-- so where the slices fit
unfoldable pub start_in : List ℕ → List ℕ → Form → Caps → Out
start_in words keys form c = choose (start_fits form c (length words) (length keys)) (fresh words keys form c) (out (Err Unfit) words keys)

-- so in the form of a number, where there is one
unfoldable pub start_of : List ℕ → List ℕ → ℕ → Caps → Out
start_of words keys number c =
    choose (start_fits_in number c (length words) (length keys))
    (fresh words keys (form_of number) c)
    (out (Err Unfit) words keys)
