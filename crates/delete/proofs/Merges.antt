-- A record's prefix, a byte and a child's prefix joined: it is the prefix of the joined runs, and fits where their lengths do.
use Prim.Native.Nat.{ℕ, ◌+◌, ◌-◌, ◌≤◌, ◌<◌}
use mathlib.Core.Path.{◌≡◌, refl, ◌∙◌}
use mathlib.Core.List.{◌∷◌, ◌++◌}
use native.Mathlib.Omega.{arith}
use borrow.Author.Tests.{le-leb}
use lib.ListN.{length, take, drop, length-append, length-take}
use Rattle.lists.specs.Scan.{at_most}
use Rattle.lists.proofs.Tests.{and_both, all_append, all_take}
use Rattle.prefix.specs.Run.{capped, eight, held, merge_of}
use Rattle.prefix.specs.declared.Prefix.{Prefix}
use Rattle.prefix.proofs.Eights.{eight_held, eight_all, eight_zeros}
use Rattle.prefix.proofs.Runs.{merge_length}
use Rattle.frames.specs.declared.form.Form.{Form}
use Rattle.edits.specs.Inner.{PrefixFits}

module _ (p : Prefix) (b : ℕ) (q : Prefix) where
  pub merge_full : (merge_of p b q).full.0 ≡ p.full.0 + 1 + q.full.0
  unfolding merge_of
  merge_full = refl

  -- the stored bytes, where each of the two stores eight, or as many as it has
  pub merge_held : length (held p) ≡ capped p.full.0 → length (held q) ≡ capped q.full.0 → held (merge_of p b q) ≡ take 8 (held p ++ b ∷ held q)
  unfolding merge_of
  merge_held h k = eight_held (p.full.0 + 1 + q.full.0) (held p ++ b ∷ held q) (omega (arith, length-append (held p) (b ∷ held q)))

  pub merge_fits : {form : Form} → PrefixFits form p → PrefixFits form q → b < 256 → p.full.0 + 1 + q.full.0 ≤ form.limit → PrefixFits form (merge_of p b q)
  unfolding merge_of
  merge_fits {form} f g low short =
      let l = held p ++ b ∷ held q in
      record {
        short = short;
        eight = merge_length p b q;
        bytes =
            let front = all_take (at_most 255) (capped p.full.0) p.stored f.bytes in
            let back = all_take (at_most 255) (capped q.full.0) q.stored g.bytes in
            eight_all 255 l (all_append (at_most 255) (held p) (b ∷ held q) ∙ and_both front (and_both (le-leb b 255 (omega arith)) back));
        rest =
            let full = p.full.0 + 1 + q.full.0 in
            all_take (at_most 0) (8 - capped full) (drop (capped full) (eight l))
            (eight_zeros (capped full) l (omega (arith, length-append (held p) (b ∷ held q), length-take (capped p.full.0) p.stored, length-take (capped q.full.0) q.stored)));
      }
