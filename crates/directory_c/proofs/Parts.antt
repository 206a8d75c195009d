-- The part of the key bytes that C is given is the leaf's tag: a tag with bytes is a good leaf's, and begins where the leaf's key bytes begin.
use Prim.Native.Nat.{ℕ, ◌+◌, ◌*◌, ◌<◌}
use mathlib.Core.Path.{◌≡◌, refl, sym, ap, ◌∙◌}
use mathlib.Core.List.{List, [], ◌∷◌}
use mathlib.Core.Bool.{Bool, true, false}
use native.Mathlib.Omega.{arith}
use borrow.Author.Tests.{eqb-true, eqb-false}
use lib.ListN.{length, take}
use lib.Dec.{eqb}
use Rattle.lists.specs.Scan.{choose}
use Rattle.lists.specs.Part.{between}
use Rattle.frames.specs.Frame.{trailer_of, frame_fits, frame_of, FrameOf}
use Rattle.frames.specs.Place.{key_at}
use Rattle.frames.specs.declared.frame.Frame.{Frame}
use Rattle.tree.proofs.Arrivals.{frame_out}
use Rattle.leaves.specs.Leaf.{tag_len, tag_of}
use Rattle.leaves.proofs.Leaves.{tag_short, tag_part, tag_by}
use Rattle.directory_c.specs.declared.DirectoryPart.{DirectoryPart}
use Rattle.demands.specs.Calls.{query, leaf_facts, run}
use Rattle.demands.specs.Told.{told_by}
use Rattle.demands.proofs.Told.{tag_long, tag_facts}
use Rattle.directory_c.specs.Numbers.{lent_two, leaf_as, tag_start, part_of}

no_bytes : (l : List ℕ) → length l ≡ 0 → l ≡ []
no_bytes [] e = refl
no_bytes (x ∷ l) e = absurd (omega arith)

module _ (words keys : List ℕ) (n : ℕ) where
  abbrev tag : List ℕ
  tag = tag_of words keys n

  abbrev Names : DirectoryPart → Type 0
  Names p = between keys p.start (p.start + p.length) ≡ tag

  -- where the frame fits, a tag with bytes
  in_frame : frame_fits words keys ≡ true → 0 < length tag → Names (record { start = tag_start words keys n; length = length tag })
  in_frame fits h =
      let f : Frame = frame_of (trailer_of words) in
      let w : FrameOf f words keys = record { read = refl; fits = fits } in
      let a = n * f.form.limit in
      let is : take (tag_len f words keys n) (key_at f keys n) ≡ tag = tag_by w n _ refl in
      let long : length tag ≡ tag_len f words keys n = ap length (sym is) ∙ tag_long w n in
      ap (λ (b : Bool). between keys (choose b a 0) (choose b a 0 + length tag)) fits
      ∙ ap (λ (m : ℕ). between keys a (a + m)) long
      ∙ tag_part w n _ (tag_short w n (omega arith)).0
      ∙ is

  -- where it does not, there is no tag with bytes
  framed : (b : Bool) → frame_fits words keys ≡ b → (length tag ≡ 0 → ⊥) → Names (record { start = tag_start words keys n; length = length tag })
  framed true e z = in_frame e (omega arith)
  framed false e z = absurd (z (ap length (sym (frame_out words keys (λ f. take (tag_len f words keys n) (key_at f keys n)) [] e))))

  -- the part of a tag without bytes has none
  by_length : (b : Bool) → eqb (length tag) 0 ≡ b
      → Names (choose b (record { start = 0; length = 0 }) (record { start = tag_start words keys n; length = length tag }))
  by_length true e = sym (no_bytes tag (eqb-true _ _ e))
  by_length false e = framed (frame_fits words keys) refl (eqb-false _ _ e)

  pub part_tag : let p : DirectoryPart = part_of words keys n (tag_of words keys n) in between keys p.start (p.start + p.length) ≡ tag_of words keys n
  unfolding part_of
  part_tag = by_length (eqb (length tag) 0) refl

  part_by : (b : Bool) → eqb (length tag) 0 ≡ b
      → (choose {A = DirectoryPart} b (record { start = 0; length = 0 }) (record { start = tag_start words keys n; length = length tag })).length ≡ length tag
  part_by true e = sym (eqb-true _ _ e)
  part_by false e = refl

  -- and it is as long as the other call on the leaf number says
  pub part_facts : (part_of words keys n (tag_of words keys n)).length ≡ (leaf_as (told_by (run (query (leaf_facts n)) (lent_two words keys)).answer)).length
  unfolding part_of
  part_facts = part_by (eqb (length tag) 0) refl ∙ tag_facts n (lent_two words keys)
