-- What the table of numbers asks, on the blocks: no frame, short scratch, no soundness; no free leaf, no record for a branching, or neither.
use Prim.Native.Nat.{ℕ, zero, suc, ◌≤◌, ◌<◌}
use mathlib.Core.Path.{◌≡◌, refl, sym, ap, subst, ◌∙◌}
use mathlib.Core.List.{[], ◌∷◌}
use mathlib.Core.Option.{Option}
use mathlib.Core.Bool.{true, false, true≢false}
use native.Mathlib.Omega.{arith}
use lib.ListN.{length, get_or}
use lib.Dec.{leb, ltb}
use borrow.Author.Tests.{leb-true, ltb-true}
use Rattle.lists.proofs.Tests.{both}
use Rattle.records.specs.View.{Held}
use Rattle.art.specs.Trees.{Tree}
use Rattle.frames.specs.Frame.{frame}
use Rattle.whole.proofs.Sounds.{sound_whole}
use Rattle.whole.proofs.Samples.{two_keys, broken_words, two_sound, broken_found}
use Rattle.insert.specs.Room.{Lacking}
use Rattle.demands.specs.Due.{framed}
use Rattle.demands.specs.Tests.{Short, Unsound}
use Rattle.demands.specs.Listed.{Full}
use Rattle.instances.specs.Opened.{opened}
use Rattle.instances.specs.Blocks.{nothing, two, broken, lone, room, lend, B, C}
use Rattle.instances.proofs.Sounds.{lone_sound, room_sound, two_holds, lone_holds, room_holds, lone_tree, room_tree}

-- ── frame, scratch and soundness ──
pub none_unframed : framed (lend nothing 0) ≡ false
unfolding opened
none_unframed = refl

pub two_short : Short (lend two 2)
unfolding opened
two_short = record { fits = refl; less = omega arith }

pub broken_unsound : Unsound (lend broken 3)
unfolding opened
broken_unsound = record { fits = refl; room = omega arith; not_sound = λ s. true≢false (sym (sound_whole broken_words two_keys s) ∙ broken_found) }

-- ── leaves and records for an insert ──
-- two tags, and two leaves
pub two_full : Full two_sound
unfolding opened
two_full = ap length two_holds

-- one tag, and two leaves
pub lone_not_full : ¬ Full lone_sound
unfolding opened
lone_not_full full = omega (arith, full, ap length lone_holds)

-- B would need a branching, and there is no record for one
pub lone_lacks : Lacking (frame lone.words) lone_sound.tree B
unfolding opened
lone_lacks = subst (λ (d : Option (Tree Held)). Lacking (frame lone.words) d B) (sym lone_tree) (λ k n low h. absurd (kinds k n (both (leb k 4) (ltb n (get_or (frame lone.words).caps k 0)) h)))
  where
    none_in : (k n : ℕ) → k ≤ 4 → n < get_or (0 ∷ 0 ∷ 0 ∷ 0 ∷ 0 ∷ 2 ∷ 0 ∷ 0 ∷ []) k 0 → ⊥
    none_in zero n l h = omega arith
    none_in (suc zero) n l h = omega arith
    none_in (suc (suc zero)) n l h = omega arith
    none_in (suc (suc (suc zero))) n l h = omega arith
    none_in (suc (suc (suc (suc zero)))) n l h = omega arith
    none_in (suc (suc (suc (suc (suc k))))) n l h = omega arith

    kinds : (k n : ℕ) → (leb k 4 ≡ true) × (ltb n (get_or (frame lone.words).caps k 0) ≡ true) → ⊥
    kinds k n h = none_in k n (leb-true k 4 h.0) (ltb-true n (get_or (frame lone.words).caps k 0) h.1)

-- two tags and three leaves, and the record of kind 1 has two children of four
pub room_not_full : ¬ Full room_sound
unfolding opened
room_not_full full = omega (arith, full, ap length room_holds)

pub room_not_lacks : ¬ Lacking (frame room.words) room_sound.tree C
unfolding opened
room_not_lacks lacks = few (subst (λ (d : Option (Tree Held)). Lacking (frame room.words) d C) room_tree lacks).0
  where
    few : 4 ≤ 2 → ⊥
    few h = omega arith
