-- The laws of parts: a part's length and elements, a part of a part, and what a list is after one of its parts was written over.
use Prim.Native.Nat.{ℕ, zero, suc, ◌+◌, ◌-◌, ◌≤◌, ◌<◌}
use mathlib.Core.Path.{◌≡◌, sym, ap, ◌∙◌}
use mathlib.Core.List.{List, [], ◌∷◌, ◌++◌, append_assoc}
use mathlib.Core.Bool.{Bool, true}
use native.Mathlib.Nat.{sub-zero}
use native.Mathlib.Decide.{dec_lt}
use native.Mathlib.Omega.{arith}
use lib.ListN.{length, get_or, take, drop, set, length-append, length-take, length-drop, take-append-drop, get_or-append}
use lib.Seq.{take_at, drop_at, drop-drop, take-take, take-add, take-append-le, take-nil, take-length, length-take-le, get_or-take, get_or-drop, get_or-append-add, ext_get_or, take-set-le, take-set-lt, drop-set-lt, drop-set-add}
use Rattle.lists.specs.Scan.{all_pass}
use Rattle.lists.specs.Part.{between, splice}
use Rattle.lists.proofs.Tests.{and_both, all_append, all_take, all_drop}

-- ── a part ──
pub between_length : (l : List ℕ) (a e : ℕ) → a ≤ e → e ≤ length l → length (between l a e) ≡ e - a
between_length l a e h k = simp (length-take, length-drop) (omega arith)

pub between_at : (l : List ℕ) (a e i : ℕ) → i < e - a → get_or (between l a e) i 0 ≡ get_or l (a + i) 0
between_at l a e i h = get_or-take (e - a) (drop a l) i 0 h ∙ get_or-drop a l i 0

pub between_whole : (l : List ℕ) → between l 0 (length l) ≡ l
between_whole l = ap (λ (n : ℕ). take n l) (sub-zero (length l)) ∙ take-length l

-- the other order of taking and dropping
pub between_drop : (l : List ℕ) (a e : ℕ) → a ≤ e → between l a e ≡ drop a (take e l)
between_drop l zero e h = ap (λ (n : ℕ). take n l) (sub-zero e)
between_drop [] (suc a) e h = take-nil (e - suc a) ∙ sym (ap (drop (suc a)) (take-nil {A = ℕ} e))
between_drop (x ∷ xs) (suc a) zero h = absurd (omega arith)
between_drop (x ∷ xs) (suc a) (suc e) h =
    let q : suc e - suc a ≡ e - a = omega arith in
    ap (λ (n : ℕ). take n (drop a xs)) q ∙ between_drop xs a e (omega arith)

-- the front of a part
pub between_front : (l : List ℕ) (a d e : ℕ) → d ≤ e → take (d - a) (between l a e) ≡ between l a d
between_front l a d e h = take-take (d - a) (e - a) (drop a l) (omega arith)

-- two parts that meet
pub between_join : (l : List ℕ) (a m e : ℕ) → a ≤ m → m ≤ e → between l a m ++ between l m e ≡ between l a e
between_join l a m e h k =
    let q : a + (m - a) ≡ m = omega arith in
    let w : m - a + (e - m) ≡ e - a = omega arith in
    ap (λ (n : ℕ). between l a m ++ take (e - m) (drop n l)) (sym q)
    ∙ ap (λ (z : List ℕ). between l a m ++ take (e - m) z) (sym (drop-drop (m - a) a l))
    ∙ sym (take-add (m - a) (e - m) (drop a l))
    ∙ ap (λ (n : ℕ). take n (drop a l)) w

-- the part that stands between two lists
pub between_middle : (x p z : List ℕ) (a e : ℕ) → length x ≡ a → length p ≡ e - a → between (x ++ (p ++ z)) a e ≡ p
between_middle x p z a e h k = ap (take (e - a)) (drop_at x (p ++ z) a h) ∙ take_at p z (e - a) k

-- a part of two lists in a row, within the left or within the right
pub between_left : (x y : List ℕ) (a e : ℕ) → a ≤ e → e ≤ length x → between (x ++ y) a e ≡ between x a e
between_left x y a e h k = between_drop (x ++ y) a e h ∙ ap (drop a) (take-append-le e x y k) ∙ sym (between_drop x a e h)

pub between_right : (x y : List ℕ) (a e n : ℕ) → length x ≡ n → between (x ++ y) (n + a) (n + e) ≡ between y a e
between_right x y a e n h =
    let q : n + e - (n + a) ≡ e - a = omega arith in
    ap (λ (m : ℕ). take m (drop (n + a) (x ++ y))) q
    ∙ ap (take (e - a)) (sym (drop-drop a n (x ++ y)) ∙ ap (drop a) (drop_at x y n h))

-- ── a part after the write of one element ──
module _ (l : List ℕ) (a e i v : ℕ) where
  pub between_set_before : i < a → between (set l i v) a e ≡ between l a e
  between_set_before h = ap (take (e - a)) (drop-set-lt a l i v h)

  pub between_set_after : a ≤ e → e ≤ i → between (set l i v) a e ≡ between l a e
  between_set_after h k = between_drop (set l i v) a e h ∙ ap (drop a) (take-set-le e l i v k) ∙ sym (between_drop l a e h)

  pub between_set_in : a ≤ i → i < e → between (set l i v) a e ≡ set (between l a e) (i - a) v
  between_set_in h k =
      ap (λ (n : ℕ). take (e - a) (drop a (set l n v))) (let q : i ≡ a + (i - a) = omega arith in q)
      ∙ ap (take (e - a)) (drop-set-add a l (i - a) v)
      ∙ take-set-lt (e - a) (drop a l) (i - a) v (omega arith)

-- ── a part written over ──
pub splice_own : (l : List ℕ) (a e : ℕ) → splice l a e (between l a e) ≡ l
unfolding splice
splice_own l a e = ap (λ (z : List ℕ). take a l ++ z) (take-append-drop (e - a) (drop a l)) ∙ take-append-drop a l

-- the list that stands between two others
pub splice_middle : (x m z : List ℕ) (a e : ℕ) (p : List ℕ) → length x ≡ a → length m ≡ e - a → splice (x ++ (m ++ z)) a e p ≡ x ++ (p ++ z)
unfolding splice
splice_middle x m z a e p h k =
    ap (λ (w : List ℕ). w ++ (p ++ drop (e - a) (drop a (x ++ (m ++ z))))) (take_at x (m ++ z) a h)
    ∙ ap (λ (w : List ℕ). x ++ (p ++ w)) (ap (drop (e - a)) (drop_at x (m ++ z) a h) ∙ drop_at m z (e - a) k)

pub splice_all : (t : ℕ → Bool) (l : List ℕ) (a e : ℕ) (p : List ℕ) → all_pass t l ≡ true → all_pass t p ≡ true → all_pass t (splice l a e p) ≡ true
unfolding splice
splice_all t l a e p h k =
    all_append t (take a l) (p ++ drop (e - a) (drop a l))
    ∙ and_both (all_take t a l h) (all_append t p (drop (e - a) (drop a l)) ∙ and_both k (all_drop t (e - a) (drop a l) (all_drop t a l h)))

module _ (l : List ℕ) (a e : ℕ) (p : List ℕ) (ae : a ≤ e) (el : e ≤ length l) (pl : length p ≡ e - a) where
  front : length (take a l) ≡ a
  front = length-take-le a l (omega arith)

  back : drop (e - a) (drop a l) ≡ drop e l
  back = drop-drop (e - a) a l ∙ ap (λ (n : ℕ). drop n l) (let q : a + (e - a) ≡ e = omega arith in q)

  pub splice_length : length (splice l a e p) ≡ length l
  unfolding splice
  splice_length =
      omega (arith, length-append (take a l) (p ++ drop (e - a) (drop a l)), length-append p (drop (e - a) (drop a l)), front, ap length back, length-drop e l)

  -- the part put in
  pub splice_same : between (splice l a e p) a e ≡ p
  unfolding splice
  splice_same = between_middle (take a l) p (drop (e - a) (drop a l)) a e front pl

  -- a part before it
  pub splice_before : (b d : ℕ) → b ≤ d → d ≤ a → between (splice l a e p) b d ≡ between l b d
  unfolding splice
  splice_before b d bd da =
      between_drop _ b d bd
      ∙ ap (drop b) (take-append-le d (take a l) (p ++ drop (e - a) (drop a l)) (omega (arith, front)) ∙ take-take d a l da)
      ∙ sym (between_drop l b d bd)

  behind : drop e (splice l a e p) ≡ drop e l
  unfolding splice
  behind =
      let z = drop (e - a) (drop a l) in
      let long : length (take a l ++ p) ≡ e = omega (arith, length-append (take a l) p, front) in
      ap (drop e) (sym (append_assoc (take a l) p z)) ∙ drop_at (take a l ++ p) z e long ∙ back

  -- what follows it, from any place on
  pub splice_drop : (b : ℕ) → e ≤ b → drop b (splice l a e p) ≡ drop b l
  splice_drop b eb =
      let k : e + (b - e) ≡ b = omega arith in
      ap (λ (n : ℕ). drop n (splice l a e p)) (sym k)
      ∙ sym (drop-drop (b - e) e (splice l a e p))
      ∙ ap (drop (b - e)) behind
      ∙ drop-drop (b - e) e l
      ∙ ap (λ (n : ℕ). drop n l) k

  -- a part after it
  pub splice_after : (b d : ℕ) → e ≤ b → between (splice l a e p) b d ≡ between l b d
  splice_after b d eb = ap (take (d - b)) (splice_drop b eb)

  -- one element: before the part, in it, after it
  pub splice_at_before : (i : ℕ) → i < a → get_or (splice l a e p) i 0 ≡ get_or l i 0
  unfolding splice
  splice_at_before i h = get_or-append (take a l) (p ++ drop (e - a) (drop a l)) 0 i (omega (arith, front)) ∙ get_or-take a l i 0 h

  pub splice_at_in : (i : ℕ) → a ≤ i → i < e → get_or (splice l a e p) i 0 ≡ get_or p (i - a) 0
  unfolding splice
  splice_at_in i h k =
      let q : i ≡ length (take a l) + (i - a) = omega (arith, front) in
      ap (λ (n : ℕ). get_or (splice l a e p) n 0) q
      ∙ get_or-append-add (take a l) (p ++ drop (e - a) (drop a l)) (i - a) 0
      ∙ get_or-append p (drop (e - a) (drop a l)) 0 (i - a) (omega arith)

  pub splice_at_after : (i : ℕ) → e ≤ i → get_or (splice l a e p) i 0 ≡ get_or l i 0
  splice_at_after i h =
      let q : e + (i - e) ≡ i = omega arith in
      ap (λ (n : ℕ). get_or (splice l a e p) n 0) (sym q)
      ∙ sym (get_or-drop e (splice l a e p) (i - e) 0)
      ∙ ap (λ (z : List ℕ). get_or z (i - e) 0) behind
      ∙ get_or-drop e l (i - e) 0
      ∙ ap (λ (n : ℕ). get_or l n 0) q

  -- it is the only list with these elements
  pub splice_is : (k : List ℕ) → length k ≡ length l → ((i : ℕ) → i < a → get_or k i 0 ≡ get_or l i 0) → ((i : ℕ) → a ≤ i → i < e → get_or k i 0 ≡ get_or p (i - a) 0)
      → ((i : ℕ) → e ≤ i → i < length l → get_or k i 0 ≡ get_or l i 0) → k ≡ splice l a e p
  splice_is k long f m b = ext_get_or 0 k (splice l a e p) (long ∙ sym splice_length) (λ i h. go i (omega arith) (dec_lt i a) (dec_lt i e))
    where
      go : (i : ℕ) → i < length l → Dec (i < a) → Dec (i < e) → get_or k i 0 ≡ get_or (splice l a e p) i 0
      go i h (yes x) y = f i x ∙ sym (splice_at_before i x)
      go i h (no x) (yes y) = m i (omega arith) y ∙ sym (splice_at_in i (omega arith) y)
      go i h (no x) (no y) = b i (omega arith) h ∙ sym (splice_at_after i (omega arith))

  -- written over twice
  pub splice_splice : (q : List ℕ) → splice (splice l a e p) a e q ≡ splice l a e q
  unfolding splice
  splice_splice q = splice_middle (take a l) p (drop (e - a) (drop a l)) a e q front pl

-- two parts that share no place, in either order
module _ (l : List ℕ) (a e b d : ℕ) (p q : List ℕ) (ae : a ≤ e) (eb : e ≤ b) (bd : b ≤ d) (dl : d ≤ length l) (pl : length p ≡ e - a) (ql : length q ≡ d - b) where
  long_p : length (splice l a e p) ≡ length l
  long_p = splice_length l a e p ae (omega arith) pl

  long_q : length (splice l b d q) ≡ length l
  long_q = splice_length l b d q bd dl ql

  early : (i : ℕ) → i < b → get_or (splice (splice l a e p) b d q) i 0 ≡ get_or (splice l a e p) i 0
  early i h = splice_at_before (splice l a e p) b d q bd (omega (arith, long_p)) ql i h

  late : (i : ℕ) → e ≤ i → Dec (i < b) → Dec (i < d) → get_or (splice (splice l a e p) b d q) i 0 ≡ get_or (splice l b d q) i 0
  late i h (yes x) y = early i x ∙ splice_at_after l a e p ae (omega arith) pl i h ∙ sym (splice_at_before l b d q bd dl ql i x)
  late i h (no x) (yes y) =
      splice_at_in (splice l a e p) b d q bd (omega (arith, long_p)) ql i (omega arith) y ∙ sym (splice_at_in l b d q bd dl ql i (omega arith) y)
  late i h (no x) (no y) =
      splice_at_after (splice l a e p) b d q bd (omega (arith, long_p)) ql i (omega arith)
      ∙ splice_at_after l a e p ae (omega arith) pl i h
      ∙ sym (splice_at_after l b d q bd dl ql i (omega arith))

  pub splice_swap : splice (splice l a e p) b d q ≡ splice (splice l b d q) a e p
  splice_swap =
      splice_is (splice l b d q) a e p ae (omega (arith, long_q)) pl (splice (splice l a e p) b d q)
      (splice_length (splice l a e p) b d q bd (omega (arith, long_p)) ql ∙ long_p ∙ sym long_q)
      (λ i h. early i (omega arith) ∙ splice_at_before l a e p ae (omega arith) pl i h ∙ sym (splice_at_before l b d q bd dl ql i (omega arith)))
      (λ i h k. early i (omega arith) ∙ splice_at_in l a e p ae (omega arith) pl i h k)
      (λ i h k. late i h (dec_lt i b) (dec_lt i d))

-- one element of a part written
pub splice_set : (l : List ℕ) (a e i v : ℕ) → i < e - a → splice l a e (set (between l a e) i v) ≡ set l (a + i) v
unfolding splice
splice_set l a e i v h =
    sym (sym (splice_own (set l (a + i) v) a e)
    ∙ ap (λ (z : List ℕ). z ++ (between (set l (a + i) v) a e ++ drop (e - a) (drop a (set l (a + i) v)))) (take-set-le a l (a + i) v (omega arith))
    ∙ ap (λ (z : List ℕ). take a l ++ (take (e - a) z ++ drop (e - a) z)) (drop-set-add a l i v)
    ∙ ap (λ (z : List ℕ). take a l ++ (z ++ drop (e - a) (set (drop a l) i v))) (take-set-lt (e - a) (drop a l) i v h)
    ∙ ap (λ (z : List ℕ). take a l ++ (set (between l a e) i v ++ z)) (drop-set-lt (e - a) (drop a l) i v h))
