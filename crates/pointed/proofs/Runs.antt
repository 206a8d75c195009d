-- A run of eight bytes or fewer is stored whole in its record, and every tag below has the run: read from the record or from a leaf, as many bytes agree.
use Prim.Native.Nat.{ℕ, ◌≤◌}
use mathlib.Core.Path.{◌≡◌, sym, ap, ap₂, ◌∙◌}
use mathlib.Core.List.{List, ◌++◌, append_assoc}
use mathlib.Core.Bool.{Bool}
use native.Mathlib.Omega.{arith}
use native.Mathlib.Decide.{dec_le}
use borrow.Author.Tests.{le-leb, lt-leb}
use Rattle.std.specs.Prelude.{Some}
use lib.ListN.{length, take, drop}
use lib.Seq.{take_all, take-append_seam, drop-append_seam}
use lib.Dec.{leb}
use Rattle.lists.specs.Scan.{choose}
use Rattle.lists.specs.Compare.{shared}
use Rattle.prefix.specs.Run.{held}
use Rattle.prefix.specs.declared.Prefix.{Prefix}
use Rattle.frames.specs.declared.frame.Frame.{Frame}
use Rattle.records.specs.View.{cell_of}
use Rattle.points.specs.Point.{lowest_of, run_below, run_of}
use Rattle.art.specs.Tags.{Tag}
use Rattle.art.specs.Stores.{Place}
use Rattle.art.specs.Points as art
use Rattle.pointed.proofs.Agrees.{shared_is_length_swap}
use Rattle.pointed.proofs.Lowest.{LowestOf}

module _ (f : Frame) (words keys : List ℕ) (p run : Tag) (ref m : ℕ) (x : Place) (low : LowestOf f words keys ref m x (p ++ run)) (d : ℕ) (deep : d ≡ length p) where
  -- the first leaf below has the run after the path
  run_below_lem : take (length run) (drop d (art.store_tag (cell_of f words keys) low.number)) ≡ run
  run_below_lem =
      ap (λ (t : Tag). take (length run) (drop d t)) (low.tag ∙ append_assoc p run low.rest)
      ∙ ap (λ (i : ℕ). take (length run) (drop i (p ++ (run ++ low.rest)))) deep
      ∙ ap (take (length run)) (drop-append_seam p (run ++ low.rest))
      ∙ take-append_seam run low.rest

  -- a short run is read from the record, a longer one from that leaf
  pub run_agrees : (tag : List ℕ) (pre : Prefix) → length run ≡ pre.full.0 → take 8 run ≡ held pre
      → run_of f words keys tag ref d pre ≡ Some (art.shared_length (drop d tag) (take (length run) (drop d (art.store_tag (cell_of f words keys) low.number))))
  unfolding run_of
  run_agrees tag pre full stored = go (dec_le pre.full.0 8)
    where
      there : Tag
      there = art.store_tag (cell_of f words keys) low.number

      go : Dec (pre.full.0 ≤ 8)
          → choose (leb pre.full.0 8) (Some (shared (held pre) (drop d tag))) (run_below f words keys tag d pre.full.0 (lowest_of f words keys ref))
          ≡ Some (art.shared_length (drop d tag) (take (length run) (drop d there)))
      go (yes h) =
          ap (λ (b : Bool). choose b (Some (shared (held pre) (drop d tag))) (run_below f words keys tag d pre.full.0 (lowest_of f words keys ref))) (le-leb pre.full.0 8 h)
          ∙ ap (λ (s : Tag). Some (shared s (drop d tag))) (sym stored ∙ take_all 8 run (omega arith) ∙ sym run_below_lem)
          ∙ ap (λ (c : ℕ). Some c) (shared_is_length_swap (take (length run) (drop d there)) (drop d tag))
      go (no h) =
          ap (λ (b : Bool). choose b (Some (shared (held pre) (drop d tag))) (run_below f words keys tag d pre.full.0 (lowest_of f words keys ref))) (lt-leb pre.full.0 8 (omega arith))
          ∙ ap (run_below f words keys tag d pre.full.0) low.found
          ∙ ap₂ (λ (l : ℕ) (t : Tag). Some (shared (take l (drop d t)) (drop d tag))) (sym full) low.read
          ∙ ap (λ (c : ℕ). Some c) (shared_is_length_swap (take (length run) (drop d there)) (drop d tag))
