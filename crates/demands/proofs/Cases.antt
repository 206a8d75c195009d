-- Insert and delete by cases: a refusal, which hands the words and key bytes back, or a plan on a block that the check found sound.
use Prim.Native.Nat.{ℕ}
use mathlib.Core.Path.{◌≡◌, refl, ap}
use mathlib.Core.Logic.{◌≢◌}
use mathlib.Core.List.{List}
use mathlib.Core.Bool.{Bool, true, false}
use native.Mathlib.Omega.{arith}
use Rattle.std.specs.Prelude.{Ok, Err}
use Rattle.refusals.specs.declared.Refusal.TheVariants.{TooLong, Unfit}
use Rattle.refusals.proofs.Numbers.{refused_number}
use Rattle.insert.specs.declared.plan.Plan.TheVariants.{New, Over}
use Rattle.delete.specs.Answer.{Deleted}
use Rattle.insert.specs.Answer.{Inserted}
use Rattle.insert.specs.Plan.{Planned}
use Rattle.pools.specs.Start.{Started, start_number}
use Rattle.whole.specs.Check.{Checked, check_of}
use Rattle.lists.specs.Scan.{choose}
use Rattle.whole.specs.Check as check-call
use Rattle.frames.specs.Frame.{frame}
use Rattle.whole.specs.Sound.{Sound}
use Rattle.whole.proofs.Sounds.{zero_sound}
use Rattle.writes.specs.declared.leaf_node.Gap.{Gap}
use Rattle.insert.specs.Answer as insert-answer
use Rattle.insert.specs.Plan as insert-plan
use Rattle.insert.specs.Insert as insert-call
use Rattle.insert.specs.Insert.{too_long, insert_of, insert_checked, insert_sound, insert_by}
use Rattle.insert.specs.declared.plan.Site.{Site}
use Rattle.delete.specs.Answer as delete-answer
use Rattle.delete.specs.Plan as delete-plan
use Rattle.delete.specs.Delete as delete-call
use Rattle.delete.specs.Delete.{delete_of, delete_checked, delete_sound, delete_by}
use Rattle.delete.specs.declared.plan.Cut.{Cut}

-- what holds of both holds of either
pub either : {A : Type 0} (P : A → Type 0) (b : Bool) (x y : A) → P x → P y → P (choose b x y)
either P true x y h k = h
either P false x y h k = k

-- a refused start is not a done one
pub refused_done : ◌≡◌ {A = Started} (Err Unfit) (Ok tt) → ⊥
refused_done e = let z : ◌≡◌ {A = ℕ} 8 0 = ap start_number e in omega arith

-- ── insert ──
module _ (words keys tag : List ℕ) (total : ℕ) (P : insert-call.Out → Type 0) where
  -- a refusal
  abbrev InsertRefused : Type 0
  InsertRefused = (a : Inserted) (scratch : List ℕ) → insert-answer.number_of a ≢ 0 → P (insert-call.out a words keys scratch)

  -- a plan for a new tag, which is not too long
  abbrev InsertNew : Type 0
  InsertNew = (scratch : List ℕ) → Sound words keys → too_long words keys tag ≡ false → (site : Site) (n : ℕ) (gap : Gap) → insert-plan.plan_of (frame words) words keys tag ≡ Ok (New site n gap)
      → P (insert-call.planned (frame words) words keys scratch tag total (Ok (New site n gap)))

  -- a plan for a held one
  abbrev InsertOver : Type 0
  InsertOver = (scratch : List ℕ) → Sound words keys → (leaf : ℕ) → insert-plan.plan_of (frame words) words keys tag ≡ Ok (Over leaf)
      → P (insert-call.planned (frame words) words keys scratch tag total (Ok (Over leaf)))

  module _ (refused : InsertRefused) (fresh : InsertNew) (over : InsertOver) where
    by_plan : (scratch : List ℕ) → Sound words keys → too_long words keys tag ≡ false → (p : Planned) → insert-plan.plan_of (frame words) words keys tag ≡ p
        → P (insert-call.planned (frame words) words keys scratch tag total p)
    by_plan scratch s short (Ok (Over leaf)) e = over scratch s leaf e
    by_plan scratch s short (Ok (New site n gap)) e = fresh scratch s short site n gap e
    by_plan scratch s short (Err refusal) e = refused (Err refusal) scratch (refused_number refusal)

    by_check : (c : check-call.Answer) → (check-call.number_of c.result ≡ 0 → Sound words keys) → too_long words keys tag ≡ false → P (insert_by words keys c.scratch tag total c.result)
    unfolding insert_sound
    by_check c sound short = go c.result sound
      where
        go : (r : Checked) → (check-call.number_of r ≡ 0 → Sound words keys) → P (insert_by words keys c.scratch tag total r)
        go (Ok tt) h = by_plan c.scratch (h refl) short (insert-plan.plan_of (frame words) words keys tag) refl
        go (Err refusal) h = refused (Err refusal) c.scratch (refused_number refusal)

    pub insert_cases : (scratch : List ℕ) → P (insert_of words keys scratch tag total)
    unfolding insert_of insert_checked
    insert_cases scratch = go (too_long words keys tag) refl
      where
        go : (long : Bool) → too_long words keys tag ≡ long
            → P (choose long (insert-call.out (Err TooLong) words keys scratch) (insert_checked words keys tag total (check_of words keys scratch)))
        go true e = refused (Err TooLong) scratch (λ z. omega arith)
        go false e = by_check (check_of words keys scratch) (zero_sound words keys scratch) e

-- ── delete ──
module _ (words keys tag : List ℕ) (P : delete-call.Out → Type 0) where
  abbrev DeleteRefused : Type 0
  DeleteRefused = (a : Deleted) (scratch : List ℕ) → delete-answer.number_of a ≢ 0 → P (delete-call.out a words keys scratch)

  abbrev DeleteOut : Type 0
  DeleteOut = (scratch : List ℕ) → Sound words keys → (cut : Cut) (n : ℕ) (gap : Gap) → delete-plan.plan_of (frame words) words keys tag ≡ Ok (record { cut = cut; leaf = n; gap = gap })
      → P (delete-call.planned (frame words) words keys scratch (Ok (record { cut = cut; leaf = n; gap = gap })))

  module _ (refused : DeleteRefused) (out : DeleteOut) where
    by_delete_plan : (scratch : List ℕ) → Sound words keys → (p : delete-plan.Planned) → delete-plan.plan_of (frame words) words keys tag ≡ p
        → P (delete-call.planned (frame words) words keys scratch p)
    by_delete_plan scratch s (Ok plan) e = out scratch s plan.cut plan.leaf plan.gap e
    by_delete_plan scratch s (Err refusal) e = refused (Err refusal) scratch (refused_number refusal)

    pub delete_cases : (scratch : List ℕ) → P (delete_of words keys scratch tag)
    unfolding delete_of delete_checked delete_sound
    delete_cases scratch = go (check_of words keys scratch).result (zero_sound words keys scratch)
      where
        after : List ℕ
        after = (check_of words keys scratch).scratch

        go : (r : Checked) → (check-call.number_of r ≡ 0 → Sound words keys) → P (delete_by words keys after tag r)
        go (Ok tt) h = by_delete_plan after (h refl) (delete-plan.plan_of (frame words) words keys tag) refl
        go (Err refusal) h = refused (Err refusal) after (refused_number refusal)
