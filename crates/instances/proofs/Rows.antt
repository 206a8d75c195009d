-- Every row of the table `Due` is met by a call on a small block, so that none of its conditions is idle; and the call gives the row's number. The rows for what a walk meets are in `Ways`.
use Prim.Native.Nat.{ℕ}
use mathlib.Core.Path.{◌≡◌, refl, sym, ap, ◌∙◌}
use mathlib.Core.Logic.{◌≢◌}
use mathlib.Core.List.{List, [], ◌∷◌}
use mathlib.Core.Option.{none, some}
use mathlib.Core.Bool.{true≢false}
use native.Mathlib.Omega.{arith}
use lib.ListN.{replicate}
use Rattle.art.specs.Tags.{Tag}
use Rattle.art.specs.Listings.{lookup, Clashes}
use Rattle.art.proofs.Clashes.{clash_clashes, free_unclashed}
use Rattle.art.specs.Verdicts.{judge}
use Rattle.pointed.proofs.Points.{tag_bytes}
use Rattle.reading.specs.Answers.{Bytes}
use Rattle.demands.specs.Calls.{Query, Slices, run, query, ask, edit, start, search, prefix_search, minimum, maximum, next_leaf, leaf_facts, leaf_tag, check, first_at_or_after, station_total, insert, delete}
use Rattle.demands.specs.Told.{Told, only, told_by, number}
use Rattle.demands.specs.Listed.{holds, takes}
use Rattle.demands.proofs.Numbers.{short_not}
use Rattle.demands.proofs.Demands.{demands}
use Rattle.demands.specs.Due as due
use Rattle.demands.specs.Due.{InUse}
use Rattle.instances.specs.Opened.{opened}
use Rattle.instances.specs.Blocks.{nothing, spare, two, broken, overlong, astray, lone, room, caps, lend, A, B, C, AB, holding}
use Rattle.instances.specs.Lines.{Line, line, Dues, Given, ◌then◌}
use Rattle.instances.proofs.Sounds.{two_holds, lone_holds, room_holds, two_passed, lone_passed, room_passed}
use Rattle.instances.proofs.Conditions.{none_unframed, two_short, broken_unsound, two_full, lone_not_full, lone_lacks, room_not_full, room_not_lacks}
use Rattle.instances.proofs.Numbers.{dues_given, listed_row}

a : Bytes A
a = tag_bytes A refl

b : Bytes B
b = tag_bytes B refl

c : Bytes C
c = tag_bytes C refl

ab : Bytes AB
ab = tag_bytes AB refl

-- ── start ──
abbrev starts : List Line
starts = line (start 1 (caps 3)) (lend two 0) 8 ∷ line (start 3 (caps 2)) (lend two 0) 8 ∷ line (start 1 (caps 2)) (lend two 0) 0 ∷ []

starts_due : Dues starts
unfolding opened
starts_due = due.start_refused refl then due.start_refused refl then due.start_done refl then tt

-- ── the queries, where no frame fits ──
-- one with a number there gives no tag
numbered : (q : Query) → number (query q) (lend nothing 0) ≡ 6 → (n : ℕ) → q ≢ leaf_tag n
numbered q e n z = let six : ◌≡◌ {A = ℕ} 0 6 = sym (ap (λ (r : Query). number (query r) (lend nothing 0)) z) ∙ e in omega arith

abbrev frameless : List Line
frameless =
    line (query (search A)) (lend nothing 0) 6
    ∷ line (query (prefix_search AB)) (lend nothing 0) 6
    ∷ line (query minimum) (lend nothing 0) 6
    ∷ line (query maximum) (lend nothing 0) 6
    ∷ line (query (next_leaf 0)) (lend nothing 0) 6
    ∷ line (query (leaf_facts 0)) (lend nothing 0) 6
    ∷ []

frameless_due : Dues frameless
unfolding opened
frameless_due =
    due.query_unframed (numbered (search A) refl) none_unframed
    then due.query_unframed (numbered (prefix_search AB) refl) none_unframed
    then due.query_unframed (numbered minimum refl) none_unframed
    then due.query_unframed (numbered maximum refl) none_unframed
    then due.query_unframed (numbered (next_leaf 0) refl) none_unframed
    then due.query_unframed (numbered (leaf_facts 0) refl) none_unframed
    then tt

-- ── a leaf number: of no pool, free, with a broken rule, with a reference that names no leaf, the last, and the first ──
first_used : InUse (lend two 0) 0
unfolding opened
first_used = (refl, refl, λ e. omega arith)

last_used : InUse (lend two 0) 1
unfolding opened
last_used = (refl, refl, λ e. omega arith)

overlong_used : InUse (lend overlong 0) 0
unfolding opened
overlong_used = (refl, refl, λ e. omega arith)

astray_used : InUse (lend astray 0) 0
unfolding opened
astray_used = (refl, refl, λ e. omega arith)

abbrev leaves : List Line
leaves =
    line (query (next_leaf 2)) (lend two 0) 9
    ∷ line (query (next_leaf 1)) (lend spare 0) 9
    ∷ line (query (next_leaf 0)) (lend overlong 0) 6
    ∷ line (query (next_leaf 0)) (lend astray 0) 6
    ∷ line (query (next_leaf 1)) (lend two 0) 1
    ∷ line (query (next_leaf 0)) (lend two 0) 0
    ∷ line (query (leaf_facts 2)) (lend two 0) 9
    ∷ line (query (leaf_facts 1)) (lend spare 0) 9
    ∷ line (query (leaf_facts 0)) (lend overlong 0) 6
    ∷ line (query (leaf_facts 0)) (lend two 0) 0
    ∷ line (query (leaf_tag 0)) (lend two 0) 0
    ∷ []

leaves_due : Dues leaves
unfolding opened
leaves_due =
    due.leaf_absent (due.of_next _) refl (λ u. true≢false (sym u.1))
    then due.leaf_absent (due.of_next _) refl (λ u. u.2 refl)
    then due.leaf_broken (due.of_next _) overlong_used refl
    then due.next_unnamed astray_used refl (λ e. omega arith) refl
    then due.next_end last_used refl refl
    then due.next_done first_used refl (λ e. omega arith) refl
    then due.leaf_absent (due.of_facts _) refl (λ u. true≢false (sym u.1))
    then due.leaf_absent (due.of_facts _) refl (λ u. u.2 refl)
    then due.leaf_broken (due.of_facts _) overlong_used refl
    then due.facts_done first_used refl
    then due.tag_given
    then tt

-- ── the calls with scratch ──
abbrev scratched : List Line
scratched =
    line (ask check) (lend nothing 0) 6
    ∷ line (ask check) (lend two 2) 7
    ∷ line (ask check) (lend broken 3) 6
    ∷ line (ask check) (lend two 3) 0
    ∷ line (ask (first_at_or_after A)) (lend nothing 0) 6
    ∷ line (ask (first_at_or_after A)) (lend two 2) 7
    ∷ line (ask (first_at_or_after A)) (lend broken 3) 6
    ∷ line (ask (first_at_or_after C)) (lend two 3) 1
    ∷ line (ask (first_at_or_after AB)) (lend two 3) 0
    ∷ line (ask (station_total A)) (lend nothing 0) 6
    ∷ line (ask (station_total A)) (lend two 2) 7
    ∷ line (ask (station_total A)) (lend broken 3) 6
    ∷ line (ask (station_total A)) (lend two 3) 0
    ∷ line (edit (delete A)) (lend nothing 0) 6
    ∷ line (edit (delete A)) (lend two 2) 7
    ∷ line (edit (delete A)) (lend broken 3) 6
    ∷ line (edit (delete C)) (lend two 3) 1
    ∷ line (edit (delete A)) (lend two 3) 0
    ∷ []

scratched_due : Dues scratched
unfolding opened
scratched_due =
    due.checked_unframed refl none_unframed
    then due.checked_short refl two_short.fits (short_not (lend two 2) two_short)
    then due.checked_unsound refl broken_unsound.fits broken_unsound.room broken_unsound.not_sound
    then listed_row (ask check) (lend two 3) two_passed tt (λ e. two_passed.room) refl
    then due.checked_unframed refl none_unframed
    then due.checked_short refl two_short.fits (short_not (lend two 2) two_short)
    then due.checked_unsound refl broken_unsound.fits broken_unsound.room broken_unsound.not_sound
    then listed_row (ask (first_at_or_after C)) (lend two 3) two_passed c (λ e. two_passed.room) refl
    then listed_row (ask (first_at_or_after AB)) (lend two 3) two_passed ab (λ e. two_passed.room) refl
    then due.checked_unframed refl none_unframed
    then due.checked_short refl two_short.fits (short_not (lend two 2) two_short)
    then due.checked_unsound refl broken_unsound.fits broken_unsound.room broken_unsound.not_sound
    then listed_row (ask (station_total A)) (lend two 3) two_passed a (λ e. two_passed.room) refl
    then due.checked_unframed refl none_unframed
    then due.checked_short refl two_short.fits (short_not (lend two 2) two_short)
    then due.checked_unsound refl broken_unsound.fits broken_unsound.room broken_unsound.not_sound
    then listed_row (edit (delete C)) (lend two 3) two_passed c (λ e. two_passed.room) refl
    then listed_row (edit (delete A)) (lend two 3) two_passed a (λ e. two_passed.room) refl
    then tt

abbrev inserts : List Line
inserts =
    line (edit (insert (replicate 65 65) 1)) (lend nothing 0) 2
    ∷ line (edit (insert A 1)) (lend nothing 0) 6
    ∷ line (edit (insert A 1)) (lend two 2) 7
    ∷ line (edit (insert A 1)) (lend broken 3) 6
    ∷ line (edit (insert A 1)) (lend two 3) 0
    ∷ line (edit (insert AB 1)) (lend two 3) 3
    ∷ line (edit (insert C 1)) (lend two 3) 4
    ∷ line (edit (insert B 1)) (lend lone 2) 5
    ∷ line (edit (insert C 1)) (lend room 5) 0
    ∷ []

inserts_due : Dues inserts
unfolding opened
inserts_due =
    due.insert_long {t = replicate 65 65} refl
    then due.checked_unframed refl none_unframed
    then due.checked_short refl two_short.fits (short_not (lend two 2) two_short)
    then due.checked_unsound refl broken_unsound.fits broken_unsound.room broken_unsound.not_sound
    then listed_row (edit (insert A 1)) (lend two 3) two_passed a (λ e. two_passed.room) refl
    then listed_row (edit (insert AB 1)) (lend two 3) two_passed ab (λ e. two_passed.room) refl
    then listed_row (edit (insert C 1)) (lend two 3) two_passed c (λ e. two_passed.room) refl
    then listed_row (edit (insert B 1)) (lend lone 2) lone_passed b (λ e. lone_passed.room) refl
    then listed_row (edit (insert C 1)) (lend room 5) room_passed c (λ e. room_passed.room) refl
    then tt

-- ── so each gives its number ──
starts_given : Given starts
starts_given = dues_given starts (tt then tt then tt then tt) starts_due

frameless_given : Given frameless
frameless_given = dues_given frameless (a then ab then tt then tt then tt then tt then tt) frameless_due

leaves_given : Given leaves
leaves_given = dues_given leaves (tt then tt then tt then tt then tt then tt then tt then tt then tt then tt then tt then tt) leaves_due

scratched_given : Given scratched
scratched_given = dues_given scratched (tt then tt then tt then tt then a then a then a then c then ab then a then a then a then a then a then a then a then c then a then tt) scratched_due

inserts_given : Given inserts
inserts_given = dues_given inserts (tag_bytes (replicate 65 65) refl then a then a then a then a then ab then c then b then c then tt) inserts_due

-- ── what an insert tells past the check, by what the list has for its tag: held, in a clash, with no leaf free, with no record, or new ──
abbrev told : Tag → Slices → Told
told t s = told_by (run (edit (insert t 1)) s).answer

held_told : told A (lend two 3) ≡ takes (some (holding 0 7))
unfolding opened
held_told = ((demands.on_sound (lend two 3) two_passed.sound (edit (insert A 1)) a (λ e. two_passed.room)).1 refl).over (holding 0 7) (ap (lookup A) two_holds)

AB_clash : (lookup AB (holds two_passed.sound) ≡ none) × Clashes AB (holds two_passed.sound)
unfolding opened
AB_clash = clash_clashes AB (holds two_passed.sound) (ap (judge AB) two_holds)

clash_told : told AB (lend two 3) ≡ only 3
unfolding opened
clash_told = ((demands.on_sound (lend two 3) two_passed.sound (edit (insert AB 1)) ab (λ e. two_passed.room)).1 refl).clashes AB_clash.0 AB_clash.1

full_told : told C (lend two 3) ≡ only 4
unfolding opened
full_told = ((demands.on_sound (lend two 3) two_passed.sound (edit (insert C 1)) c (λ e. two_passed.room)).1 refl).full (free_unclashed C (holds two_passed.sound) (ap (judge C) two_holds)).1 two_full

lacking_told : told B (lend lone 2) ≡ only 5
unfolding opened
lacking_told = ((demands.on_sound (lend lone 2) lone_passed.sound (edit (insert B 1)) b (λ e. lone_passed.room)).1 refl).lacks (free_unclashed B (holds lone_passed.sound) (ap (judge B) lone_holds)).1 lone_not_full lone_lacks

new_told : told C (lend room 5) ≡ only 0
unfolding opened
new_told = ((demands.on_sound (lend room 5) room_passed.sound (edit (insert C 1)) c (λ e. room_passed.room)).1 refl).new (free_unclashed C (holds room_passed.sound) (ap (judge C) room_holds)).1 room_not_full room_not_lacks
