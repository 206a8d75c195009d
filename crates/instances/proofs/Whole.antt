-- The check on the block of A and B, and on the one with a wrong link: 0 for the sound one alone.
use mathlib.Core.Path.{◌≡◌, refl, sym, ◌∙◌}
use mathlib.Core.Bool.{true, true≢false}
use lib.ListN.{replicate}
use Rattle.whole.specs.Check.{whole_of, number_of, check_of}
use Rattle.whole.specs.Sound.{Sound}
use Rattle.whole.proofs.Sounds.{whole_sound, sound_whole, sound_zero, zero_sound}
use Rattle.whole.proofs.Samples.{two_words, two_keys, broken_words, two_sound, broken_found}
use Rattle.instances.specs.Opened.{opened}
use Rattle.instances.proofs.Sounds.{two_places}

-- nothing is wrong with it, so that it is sound, and the other way round
found_sound : Sound two_words two_keys
unfolding opened
found_sound = whole_sound two_words two_keys refl

nothing_wrong : whole_of two_words two_keys ≡ true
nothing_wrong = sound_whole two_words two_keys two_sound

not_sound : ¬ Sound broken_words two_keys
not_sound s = true≢false (sym (sound_whole broken_words two_keys s) ∙ broken_found)

-- the same by the call, with three bytes for three records
answers_zero : number_of (check_of two_words two_keys (replicate 3 1)).result ≡ 0
answers_zero = sound_zero two_words two_keys (replicate 3 1) two_places two_sound

zero_found : Sound two_words two_keys
unfolding opened
zero_found = zero_sound two_words two_keys (replicate 3 1) refl
