-- The cases of what is compared of a leaf: two tags, a prefix and a tag.
use Prim.Native.Nat.{ℕ, ◌-◌, ◌≤◌, ◌<◌}
use mathlib.Core.Path.{◌≡◌, sym, ap, ◌∙◌}
use mathlib.Core.List.{List}
use mathlib.Core.Bool.{Bool, false, ◌&&◌}
use native.Mathlib.Omega.{arith}
use lib.ListN.{length, get_or, take, drop, drop_of_length-le, length-drop}
use lib.Seq.{take_all}
use lib.Dec.{eqb, leb}
use borrow.Author.Tests.{lt-ltb, le-ltb}
use Rattle.lists.specs.Compare.{shared}
use Rattle.lists.specs.Part.{between}
use Rattle.lists.proofs.Compares.{shared_nil}
use Rattle.prefix.specs.Run.{capped, held}
use Rattle.prefix.specs.declared.Prefix.{Prefix}
use Rattle.whole.specs.Witness.{goes_on, stored_agrees}

-- ── two tags ──
module _ (e : ℕ) (w : List ℕ) (byte : ℕ) (t : List ℕ) where
  pub goes_by : {n : ℕ} → e < length t → n ≡ shared w t → leb e n && eqb (get_or t e 0) byte ≡ goes_on e w byte t
  unfolding goes_on
  goes_by h k =
      ap (λ (m : ℕ). leb e m && eqb (get_or t e 0) byte) k ∙ ap (λ (b : Bool). b && (leb e (shared w t) && eqb (get_or t e 0) byte)) (sym (lt-ltb e (length t) h))

  pub goes_out : length t ≤ e → false ≡ goes_on e w byte t
  unfolding goes_on
  goes_out h = ap (λ (b : Bool). b && (leb e (shared w t) && eqb (get_or t e 0) byte)) (sym (le-ltb e (length t) h))

-- ── a prefix and a tag ──
module _ (depth : ℕ) (p : Prefix) (w : List ℕ) where
  pub stored_short : {k : ℕ} → length w < depth → k ≡ capped p.full.0 → eqb 0 k ≡ stored_agrees depth p w
  unfolding stored_agrees
  stored_short h e =
      ap (eqb 0) e
      ∙ ap (λ (n : ℕ). eqb n (capped p.full.0)) (sym (ap (shared (held p)) (drop_of_length-le w {i = depth} (omega arith)) ∙ shared_nil (held p)))

  pub stored_by : {k m : ℕ} → m ≡ shared (between p.stored 0 k) (between w depth (length w)) → k ≡ capped p.full.0 → eqb m k ≡ stored_agrees depth p w
  unfolding stored_agrees
  stored_by {k} {m} e q =
      let z : k - 0 ≡ capped p.full.0 = omega arith in
      ap (eqb m) q
      ∙ ap (λ (n : ℕ). eqb n (capped p.full.0))
      (e
      ∙ ap (λ (n : ℕ). shared (take n p.stored) (between w depth (length w))) z
      ∙ ap (shared (held p)) (take_all (length w - depth) (drop depth w) (omega (arith, length-drop depth w))))
