-- Prefixes of runs: what is stored, and that cutting, splitting and merging the prefixes gives the prefix of the cut or joined runs.
use Prim.Native.Nat.{ℕ, ◌+◌, ◌-◌, ◌≤◌, ◌<◌}
use mathlib.Core.Path.{◌≡◌, refl, sym, ap, ◌∙◌}
use mathlib.Core.List.{List, [], ◌∷◌, ◌++◌, append-nil}
use native.Mathlib.Omega.{arith}
use native.Mathlib.Decide.{dec_lt}
use borrow.Author.Tests.{le-leb, lt-leb}
use lib.ListN.{length, take, drop, length-append, length-take, length-drop}
use lib.Seq.{take_all, append_snoc, drop-drop}
use Rattle.lists.specs.Part.{between}
use Rattle.lists.proofs.Parts.{between_drop}
use Rattle.prefix.specs.Run.{capped, eight, of_length, held, prefix_of, ltrim_of, split_of, push_of, merge_of}
use Rattle.prefix.specs.declared.Prefix.{Prefix}
use Rattle.prefix.proofs.Eights.{eight_length, eight_held, eight_cut}

-- a prefix by its full length and its eight stored numbers
abbrev pub prefix : ℕ → List ℕ → Prefix
prefix n s = record { full = record { 0 = n }; stored = s }

-- ── the cases of the definitions ──
pub split_short : (p : Prefix) (n : ℕ) (leaf : List ℕ) (depth : ℕ) → p.full.0 ≤ 8 → split_of p n leaf depth ≡ ltrim_of p n
unfolding split_of
split_short p n leaf depth h = simp (le-leb p.full.0 8 h)

pub split_long : (p : Prefix) (n : ℕ) (leaf : List ℕ) (depth : ℕ) → 8 < p.full.0
    → split_of p n leaf depth ≡ prefix_of (between leaf (depth + n) (depth + p.full.0))
unfolding split_of
split_long p n leaf depth h = simp (lt-leb p.full.0 8 h)

-- the stored bytes up to k, from n on
pub ltrim_by : (p : Prefix) (n : ℕ) {k : ℕ} {s : List ℕ} → s ≡ eight (between p.stored n k) → k ≡ capped p.full.0 → n ≤ k
    → prefix (p.full.0 - n) s ≡ ltrim_of p n
unfolding ltrim_of
ltrim_by p n f e h =
    ap (prefix (p.full.0 - n)) (f ∙ ap eight (between_drop p.stored n _ h ∙ ap (λ (k : ℕ). drop n (take k p.stored)) e))

-- the stored bytes up to k, and the new ones
pub push_by : (p : Prefix) (new : List ℕ) (len : ℕ) {k : ℕ} {s : List ℕ} → s ≡ eight (between p.stored 0 k ++ new) → k ≡ capped p.full.0
    → prefix (p.full.0 + len) s ≡ push_of p new len
unfolding push_of
push_by p new len {k} f e =
    let q : k - 0 ≡ capped p.full.0 = omega arith in
    ap (prefix (p.full.0 + len)) (f ∙ ap (λ (j : ℕ). eight (take j p.stored ++ new)) q)

module _ (p : Prefix) (new : List ℕ) (len : ℕ) where
  pub push_full : (push_of p new len).full.0 ≡ p.full.0 + len
  unfolding push_of
  push_full = refl

-- merging is pushing the byte, and then the child's stored bytes up to k
pub merge_by : (parent : Prefix) (b : ℕ) (child : Prefix) {k len : ℕ} {front r : Prefix} → length parent.stored ≡ 8 → front ≡ push_of parent (b ∷ []) 1
    → r ≡ push_of front (between child.stored 0 k) len → k ≡ capped child.full.0 → len ≡ child.full.0 → r ≡ merge_of parent b child
unfolding push_of merge_of
merge_by parent b child {k} {len} h f g e l =
    let n = parent.full.0 in
    let q : k - 0 ≡ capped child.full.0 = omega arith in
    let start = held parent ++ b ∷ [] in
    let long : length start ≡ capped n + 1 = length-append (held parent) (b ∷ []) ∙ omega (arith, length-take (capped n) parent.stored) in
    g
    ∙ ap (λ (p : Prefix). push_of p (between child.stored 0 k) len) f
    ∙ ap (push_of (push_of parent (b ∷ []) 1) (between child.stored 0 k)) l
    ∙ ap (λ (j : ℕ). push_of (push_of parent (b ∷ []) 1) (take j child.stored) child.full.0) q
    ∙ ap (prefix (n + 1 + child.full.0))
    (ap (λ (l : List ℕ). eight (l ++ held child)) (eight_held (n + 1) start (omega arith))
    ∙ eight_cut [] 8 start (held child) (omega arith)
    ∙ ap eight (append_snoc (held parent) b (held child)))

-- ── runs ──
-- of a run its first eight bytes are stored
pub held_run : (run : List ℕ) → held (prefix_of run) ≡ take 8 run
unfolding prefix_of
held_run run = eight_held (length run) run refl

-- a run of at most eight bytes, cut at its front
pub cut_run : (run : List ℕ) (n : ℕ) → length run ≤ 8 → ltrim_of (prefix_of run) n ≡ prefix_of (drop n run)
unfolding ltrim_of prefix_of
cut_run run n h =
    ap (λ (l : List ℕ). of_length (length run - n) (drop n l)) (held_run run ∙ take_all 8 run h)
    ∙ ap (λ (k : ℕ). of_length k (drop n run)) (sym (length-drop n run))

-- a run of any length, cut at its front, where a leaf below has it
pub split_run : (run : List ℕ) (n : ℕ) (leaf : List ℕ) (depth : ℕ) → n ≤ length run → take (length run) (drop depth leaf) ≡ run
    → split_of (prefix_of run) n leaf depth ≡ prefix_of (drop n run)
unfolding prefix_of
split_run run n leaf depth h has = go (dec_lt 8 (length run))
  where
    part : between leaf (depth + n) (depth + length run) ≡ drop n (take (length run) (drop depth leaf))
    part =
        let q : depth + length run - (depth + n) ≡ length run - n = omega arith in
        ap (λ (k : ℕ). take k (drop (depth + n) leaf)) q
        ∙ ap (take (length run - n)) (sym (drop-drop n depth leaf))
        ∙ between_drop (drop depth leaf) n (length run) h

    go : Dec (8 < length run) → split_of (prefix_of run) n leaf depth ≡ prefix_of (drop n run)
    go (no k) = split_short (prefix_of run) n leaf depth (omega arith) ∙ cut_run run n (omega arith)
    go (yes k) =
        split_long (prefix_of run) n leaf depth k
        ∙ ap prefix_of (part ∙ ap (drop n) has)

-- parent prefix, child byte, child prefix, of any lengths
pub merge_run : (r : List ℕ) (b : ℕ) (s : List ℕ) → merge_of (prefix_of r) b (prefix_of s) ≡ prefix_of (r ++ b ∷ s)
unfolding merge_of prefix_of
merge_run r b s =
    let long : length r + 1 + length s ≡ length (r ++ b ∷ s) = omega (arith, length-append r (b ∷ s)) in
    ap (λ (x : List ℕ). of_length (length r + 1 + length s) (x ++ b ∷ held (prefix_of s))) (held_run r)
    ∙ ap (λ (x : List ℕ). of_length (length r + 1 + length s) (take 8 r ++ b ∷ x)) (held_run s)
    ∙ ap (λ (k : ℕ). of_length k (take 8 r ++ b ∷ take 8 s)) long
    ∙ ap (prefix (length (r ++ b ∷ s)))
    (eight_cut [] 8 r (b ∷ take 8 s) (omega arith) ∙ eight_last)
  where
    eight_last : eight (r ++ b ∷ take 8 s) ≡ eight (r ++ b ∷ s)
    eight_last =
        ap eight (sym (append_snoc r b (take 8 s)) ∙ ap (λ (x : List ℕ). (r ++ b ∷ []) ++ x) (sym (append-nil (take 8 s))))
        ∙ eight_cut (r ++ b ∷ []) 8 s [] (omega arith)
        ∙ ap eight (ap (λ (x : List ℕ). (r ++ b ∷ []) ++ x) (append-nil s) ∙ append_snoc r b s)

-- ── eight are stored, whatever was done ──
pub run_length : (run : List ℕ) → length (prefix_of run).stored ≡ 8
unfolding prefix_of
run_length run = eight_length run

pub merge_length : (parent : Prefix) (b : ℕ) (child : Prefix) → length (merge_of parent b child).stored ≡ 8
unfolding merge_of
merge_length parent b child = eight_length (held parent ++ b ∷ held child)
