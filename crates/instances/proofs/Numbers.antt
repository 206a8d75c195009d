-- Each number from 0 to 9 is given, and its row of the table holds where it is: `due_number` and `number_due` on one call for each.
use mathlib.Core.Path.{◌≡◌, refl, sym}
use mathlib.Core.List.{List, [], ◌∷◌}
use lib.ListN.{replicate}
use mathlib.Core.Bool.{true, true≢false}
use Rattle.pointed.proofs.Points.{tag_bytes}
use Rattle.demands.specs.Calls.{Call, Slices, checks, run, query, ask, edit, start, minimum, leaf_facts, check, insert, delete}
use Rattle.demands.specs.Told.{told_by}
use Rattle.demands.specs.Histories.{CallBytes}
use Rattle.demands.specs.Listed.{Suffices}
use Rattle.demands.specs.Due as due
use Rattle.demands.specs.Due.{Due}
use Rattle.demands.specs.Tests.{Passed}
use Rattle.demands.specs.Way as way
use Rattle.demands.proofs.Numbers.{due_number, number_due, short_not}
use Rattle.demands.proofs.Demands.{demands}
use Rattle.instances.specs.Opened.{opened}
use Rattle.instances.specs.Blocks.{bare, two, broken, lone, caps, lend, A, B, C, AB}
use Rattle.instances.specs.Lines.{Line, line, Dues, Given, Byted, ◌then◌}
use Rattle.instances.proofs.Sounds.{two_passed, lone_passed}
use Rattle.instances.proofs.Conditions.{two_short, broken_unsound}

-- ── the theorems, line by line ──
pub dues_given : (ls : List Line) → Byted ls → Dues ls → Given ls
dues_given [] b d = tt
dues_given (l ∷ ls) b d = (due_number b.0 d.0, dues_given ls b.1 d.1)

pub given_dues : (ls : List Line) → Byted ls → Given ls → Dues ls
given_dues [] b g = tt
given_dues (l ∷ ls) b g = (number_due l.call l.lent l.number b.0 g.0, given_dues ls b.1 g.1)

-- past the check the row is what the list has
pub listed_row : (c : Call) (s : Slices) (p : Passed s) → CallBytes c → Suffices c s → checks c s ≡ true → Due c s (told_by (run c s).answer).number
listed_row c s p b h e = due.checked_listed e p.room p.sound (told_by (run c s).answer) (demands.on_sound s p.sound c b h)

-- ── a line for each number ──
abbrev table : List Line
table =
    line (edit (delete A)) (lend two 3) 0
    ∷ line (query minimum) (lend bare 0) 1
    ∷ line (edit (insert (replicate 65 65) 1)) (lend two 3) 2
    ∷ line (edit (insert AB 1)) (lend two 3) 3
    ∷ line (edit (insert C 1)) (lend two 3) 4
    ∷ line (edit (insert B 1)) (lend lone 2) 5
    ∷ line (ask check) (lend broken 3) 6
    ∷ line (ask check) (lend two 2) 7
    ∷ line (start 1 (caps 3)) (lend two 0) 8
    ∷ line (query (leaf_facts 2)) (lend two 0) 9
    ∷ []

byted : Byted table
byted = tag_bytes A refl then tt then tag_bytes (replicate 65 65) refl then tag_bytes AB refl then tag_bytes C refl then tag_bytes B refl then tt then tt then tt then tt then tt

-- ── the numbers by computing, and so the rows ──
computed : Given table
unfolding opened
computed = refl then refl then refl then refl then refl then refl then refl then refl then refl then refl then tt

by_number : Dues table
by_number = given_dues table byted computed

-- ── the rows by their conditions, and so the numbers ──
dues : Dues table
unfolding opened
dues =
    listed_row (edit (delete A)) (lend two 3) two_passed (tag_bytes A refl) (λ e. two_passed.room) refl
    then due.minimum_walked refl (way.rootless refl)
    then due.insert_long {t = replicate 65 65} refl
    then listed_row (edit (insert AB 1)) (lend two 3) two_passed (tag_bytes AB refl) (λ e. two_passed.room) refl
    then listed_row (edit (insert C 1)) (lend two 3) two_passed (tag_bytes C refl) (λ e. two_passed.room) refl
    then listed_row (edit (insert B 1)) (lend lone 2) lone_passed (tag_bytes B refl) (λ e. lone_passed.room) refl
    then due.checked_unsound refl broken_unsound.fits broken_unsound.room broken_unsound.not_sound
    then due.checked_short refl two_short.fits (short_not (lend two 2) two_short)
    then due.start_refused refl
    then due.leaf_absent (due.of_facts _) refl (λ u. true≢false (sym u.1))
    then tt

by_rows : Given table
by_rows = dues_given table byted dues
