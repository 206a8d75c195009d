-- `start::trailer_words` meets its contract: the distances are at most that of the first pool, which is a small number.
use mathlib.Core.Path.{sym, ap, subst}
use native.Mathlib.Omega.{arith}
use Rattle.frames.specs.declared.frame.Backs.{Backs}
use Rattle.frames.specs.Form.{SmallSizes}
use Rattle.pools.specs.Start.{trailer_words}
use Rattle.pools.proofs.start.trailer_words.Goals as goal

pub backs_of-b-requires : goal.backs_of-b-requires
backs_of-b-requires c = (subst SmallSizes (sym c.sizes_of.ensures) c.requires.0, c.requires.1)

pub overflow_cast-result-2 : goal.overflow_cast-result-2
overflow_cast-result-2 c = let e = c.backs_of-b.ensures in
    omega (arith, ap (λ (b : Backs). b.b1) e.0, ap (λ (b : Backs). b.b2) e.0)

pub overflow_cast-result-3 : goal.overflow_cast-result-3
overflow_cast-result-3 c = let e = c.backs_of-b.ensures in
    omega (arith, ap (λ (b : Backs). b.b1) e.0, ap (λ (b : Backs). b.b3) e.0)

pub overflow_cast-result-4 : goal.overflow_cast-result-4
overflow_cast-result-4 c = let e = c.backs_of-b.ensures in
    omega (arith, ap (λ (b : Backs). b.b1) e.0, ap (λ (b : Backs). b.b4) e.0)

pub overflow_cast-result-5 : goal.overflow_cast-result-5
overflow_cast-result-5 c = let e = c.backs_of-b.ensures in
    omega (arith, ap (λ (b : Backs). b.b1) e.0, ap (λ (b : Backs). b.b5) e.0)

pub returns : goal.returns
unfolding trailer_words
returns c = rw (c.backs_of-b.ensures.0, c.sizes_of.ensures)
