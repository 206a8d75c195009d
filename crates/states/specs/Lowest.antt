-- Which record of a pool is next to be taken.
use Rattle.std.specs.Prelude.{ℕ, ◌<◌, ◌≡◌, true}
use Rattle.frames.specs.Place.{in_pool}
use Rattle.frames.specs.declared.frame.Frame.{Frame}
use Rattle.records.specs.View.{Held}
use Rattle.art.specs.Stores.{Place, Store, Used, unused}

-- of the records of a pool, named by their numbers, n is the lowest that is free: it is in the pool and unused, and every lower one is in use
pub record Lowest (f : Frame) (σ : Store Held) (at : ℕ → Place) (n : ℕ) : Type 0 where
  pub pool : in_pool f (at n) ≡ true
  pub free : σ (at n) ≡ unused
  pub lower : (m : ℕ) → m < n → Used (σ (at m))
