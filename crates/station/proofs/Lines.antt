-- The line by what the calls give: the station total of a block, and the words and key bytes that a file was opened to.
use Prim.Native.Nat.{ℕ, ◌+◌, ◌-◌, ◌*◌}
use mathlib.Core.Path.{◌≡◌, sym, ap, ap₂, ◌∙◌}
use mathlib.Core.List.{List}
use native.Mathlib.Omega.{arith}
use Rattle.std.specs.Prelude.{Some, None, Err}
use Rattle.refusals.specs.declared.Refusal.TheVariants.{Damaged}
use Rattle.saved.specs.Saved.{Saved, words_of, keys_of, opened, open_of}
use Rattle.stations.specs.Stations.{Totalled, Answer, answer, total_of}
use lib.ListN.{length, take, drop, replicate, length-drop}
use lib.Seq.{take_all}
use Rattle.saved.proofs.Blocks.{opens, open_words}
use Rattle.station.specs.declared.Line.{Line}
use Rattle.station.specs.Line.{line_as, block_line, saved_line, line_of}

pub total_line : (words keys beginning : List ℕ) {a : Totalled} {left : List ℕ} {r : Line} → r ≡ line_as a → answer a left ≡ total_of words keys (replicate 1152 0) beginning → r ≡ block_line words keys beginning
unfolding block_line
total_line words keys beginning l e = l ∙ ap (λ (t : Answer). line_as t.result) e

module _ (words file beginning : List ℕ) {s : Saved} {left : List ℕ} (e : opened s left ≡ open_of words file) where
  pub other_line : {r : Line} → r ≡ line_as (Err Damaged) → s ≡ None → r ≡ line_of file beginning
  unfolding line_of
  other_line l o = l ∙ ap (saved_line file beginning) (sym o ∙ opens words file e)

  -- the parts of the lent words and of the file are the block's
  pub file_line : {n : ℕ} {r : Line} → s ≡ Some n → r ≡ block_line (take (n - 0) left) (take (length file - (4 + 4 * n)) (drop (4 + 4 * n) file)) beginning → r ≡ line_of file beginning
  unfolding line_of
  file_line {n} b l =
      let a = 4 + 4 * n in
      let front : take (n - 0) left ≡ words_of file n = ap (λ (k : ℕ). take k left) (let q : n - 0 ≡ n = omega arith in q) ∙ open_words words file e b in
      let rest : take (length file - a) (drop a file) ≡ keys_of file n = take_all (length file - a) (drop a file) (omega (arith, length-drop a file)) in
      l ∙ ap₂ (λ (ws ks : List ℕ). block_line ws ks beginning) front rest ∙ ap (saved_line file beginning) (sym b ∙ opens words file e)
