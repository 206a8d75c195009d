-- The port meets the demands, field by field: each is a theorem on `run`, seen as a caller sees it.
use Prim.Native.Nat.{ℕ}
use mathlib.Core.Path.{refl, sym, subst, fun_ext}
use mathlib.Core.Logic.{◌≢◌}
use Rattle.frames.specs.declared.frame.Caps.{Caps}
use Rattle.demands.specs.Calls.{Call, start, query, ask, edit, Slices, Outcome, run}
use Rattle.demands.specs.Frames.{NoStart}
use Rattle.demands.specs.Told.{number}
use Rattle.demands.specs.Programs.{seen, Keeps}
use Rattle.demands.specs.Demands.{Framed, Demands}
use Rattle.demands.proofs.Outcomes.{one_outcome, promised}
use Rattle.demands.proofs.Refusals.{refused_same, scratch_left}
use Rattle.demands.proofs.Told.{refused_told, tag_part_told}
use Rattle.demands.proofs.Frames.{frame_kept, kept_frame, kept_fits}
use Rattle.demands.proofs.Numbers.{due_number, number_due}
use Rattle.demands.proofs.Listed.{listed_by}
use Rattle.demands.proofs.Histories.{history}
use Rattle.demands.proofs.Corollaries.{either_order, restored}

-- ── the frame ──
no_start : (c : Call) → ((form : ℕ) (k : Caps) → c ≢ start form k) → NoStart c
no_start (start form k) h = h form k refl
no_start (query q) h = tt
no_start (ask a) h = tt
no_start (edit e) h = tt

framed : Framed (seen run)
framed c h b s k = let z = frame_kept c (no_start c h) b s k in (kept_frame z, kept_fits z)

-- ── all of them ──
pub demands : Demands (seen run)
demands = record {
  numbers = λ c h s. (λ n d. due_number h d, number_due c s (number c s) h refl);
  bare = refused_told;
  unchanged = refused_same;
  still = λ s. (λ q. (refl, refl), λ a. (refl, refl));
  scratched = scratch_left;
  framed = framed;
  tagged = tag_part_told;
  on_sound = listed_by;
  as_list = λ b k y. let x = history y in (x.sound, x.totals_are);
  draws = λ b k y. (history y).draws;
  branches = λ b k y. (history y).inner;
  counts = λ b k y. (history y).count;
  either_order = either_order;
  restored = restored;
}

-- and so does every program whose outcomes the contracts allow: there is no other
pub kept_demands : (f : Call → Slices → Outcome) → Keeps f → Demands (seen f)
kept_demands f h = subst (λ (g : Call → Slices → Outcome). Demands (seen g)) (sym (fun_ext (λ c. fun_ext (λ s. one_outcome c s (f c s) (run c s) (h c s) (promised c s))))) demands
