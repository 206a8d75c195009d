-- The leaf that the walk along the list stops at is one of the pool: only a leaf of the pool is looked at.
use Prim.Native.Nat.{ℕ, zero, suc}
use mathlib.Core.Path.{◌≡◌, refl, sym, ap, ◌∙◌}
use mathlib.Core.List.{List}
use mathlib.Core.Bool.{Bool, true, false}
use Rattle.std.specs.Prelude.{Ok, Err}
use Rattle.std.specs.declared.ops.ControlFlow.TheVariants.{Continue, Break}
use Rattle.refusals.specs.declared.Refusal.TheVariants.{Damaged, Missing}
use Rattle.range.specs.Range.{Step, below, leaf_step, place_step, step_of, after_from}
use lib.ListN.{length, get_or}
use lib.Dec.{eqb, ltb}
use Rattle.lists.specs.Scan.{choose}
use Rattle.frames.specs.Place.{place_at, in_pool, record_at, key_at}
use Rattle.frames.specs.declared.frame.Frame.{Frame}
use Rattle.records.specs.Own.{total_of}
use Rattle.art.specs.Stores.{Place, leaf_place, inner_place}
use Rattle.tree.specs.declared.answer.Leaf.{Leaf}
use Rattle.range.proofs.Steps.{go_on}

module _ (f : Frame) (words keys tag : List ℕ) {leaf : Leaf} where
  -- a step that answers with a leaf answers with the one that it looks at
  leaf_own : (rec key : List ℕ) (m : ℕ) → leaf_step rec key tag m ≡ Break (Ok leaf) → m ≡ leaf.number
  unfolding leaf_step
  leaf_own rec key m = go (ltb (length key) (get_or rec 1 0)) (below rec key tag)
    where
      go : (a b : Bool) → choose {A = Step} a (Break (Err Damaged)) (choose b (Continue (get_or rec 3 0)) (Break (Ok (record { number = m; total = total_of rec })))) ≡ Break (Ok leaf) → m ≡ leaf.number
      go true b e = cc
      go false true e = cc
      go false false e = let q : ◌≡◌ {A = Leaf} (record { number = m; total = total_of rec }) leaf = cc in ap (λ (l : Leaf). l.number) q

  place_pool : (x : Place) → place_step f words keys tag x ≡ Break (Ok leaf) → in_pool f (leaf_place leaf.number) ≡ true
  place_pool (leaf_place m) = go (in_pool f (leaf_place m)) refl
    where
      go : (b : Bool) → in_pool f (leaf_place m) ≡ b
          → choose {A = Step} b (leaf_step (record_at f words (leaf_place m)) (key_at f keys m) tag m) (Break (Err Damaged)) ≡ Break (Ok leaf)
          → in_pool f (leaf_place leaf.number) ≡ true
      go true p e = ap (λ (k : ℕ). in_pool f (leaf_place k)) (sym (leaf_own (record_at f words (leaf_place m)) (key_at f keys m) m e)) ∙ p
      go false p e = cc
  place_pool (inner_place k m) = λ e. cc

  step_pool : (ref : ℕ) → step_of f words keys tag ref ≡ Break (Ok leaf) → in_pool f (leaf_place leaf.number) ≡ true
  unfolding step_of
  step_pool ref = go (eqb ref 0)
    where
      go : (b : Bool) → choose {A = Step} b (Break (Err Missing)) (place_step f words keys tag (place_at ref)) ≡ Break (Ok leaf) → in_pool f (leaf_place leaf.number) ≡ true
      go true e = cc
      go false e = place_pool (place_at ref) e

  on_pool : (left ref : ℕ) → ((r : ℕ) → after_from f words keys tag left r ≡ Ok leaf → in_pool f (leaf_place leaf.number) ≡ true)
      → (s : Step) → step_of f words keys tag ref ≡ s → go_on f words keys tag left s ≡ Ok leaf → in_pool f (leaf_place leaf.number) ≡ true
  on_pool left ref h (Continue r) q e = h r e
  on_pool left ref h (Break a) q e = step_pool ref (q ∙ ap Break e)

  pub after_pool : (left ref : ℕ) → after_from f words keys tag left ref ≡ Ok leaf → in_pool f (leaf_place leaf.number) ≡ true
  unfolding after_from
  after_pool zero ref e = cc
  after_pool (suc left) ref e = on_pool left ref (λ r u. after_pool left r u) (step_of f words keys tag ref) refl e
