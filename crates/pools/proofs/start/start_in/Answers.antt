-- `start::start_in` meets its contract: nothing is written before the test; then all is cleared, and the trailer laid over the last 16 words.
use Prim.Native.Nat.{ℕ}
use mathlib.Core.Path.{ap}
use native.Mathlib.Omega.{arith}
use lib.ListN.{length, length-replicate, length-take, length-drop}
use Rattle.lists.specs.Part.{splice}
use Rattle.pools.specs.Start.{trailer_words}
use Rattle.pools.proofs.Starts.{starts_small, start_done, start_refused}
use Rattle.pools.proofs.start.start_in.Goals as goal

pub trailer_words-t-requires : goal.trailer_words-t-requires
trailer_words-t-requires c = (c.requires, (starts_small _ _ _ _ c.start_fits.ensures c.if-start_fits.true).0)

pub overflow_sub-a : goal.overflow_sub-a
overflow_sub-a c = (starts_small _ _ _ _ c.start_fits.ensures c.if-start_fits.true).1

pub copy_from_slice-requires : goal.copy_from_slice-requires
unfolding trailer_words
copy_from_slice-requires c = simp (length-take, length-drop) (omega (arith, ap length (c.fill.ensures.after (λ y e. e)), length-replicate {A = ℕ} (length c.args.words.now) 0, ap length c.trailer_words-t.ensures, (starts_small _ _ _ _ c.start_fits.ensures c.if-start_fits.true).1))

pub returns-then-start_fits : goal.returns-then-start_fits
unfolding splice
returns-then-start_fits c = start_done c.args.words.now c.args.keys.now c.args.form c.args.c c.start_fits.ensures c.if-start_fits.true c.fill.new.self c.copy_from_slice.new.self c.fill-then-start_fits.new.self (c.fill.ensures.after (λ y e. e)) c.copy_from_slice.ensures.after c.trailer_words-t.ensures (c.fill-then-start_fits.ensures.after (λ y e. e))

pub returns-else-start_fits : goal.returns-else-start_fits
returns-else-start_fits c = start_refused c.args.words.now c.args.keys.now c.args.form c.args.c c.start_fits.ensures c.if-start_fits.false
