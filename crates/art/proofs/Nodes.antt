-- The walk over what the records show finds the tag that the listing holds, though it skips the bytes that are not stored.
use mathlib.Core.Path.{◌≡◌, refl, sym, ap, ◌∙◌}
use mathlib.Core.Logic.{ite}
use mathlib.Core.Bool.{Bool, true, false, ◌||◌, not}
use mathlib.Core.Option.{Option, none, some}
use mathlib.Core.List.{[], ◌∷◌, ◌++◌, append_assoc, head-eq_of_cons-eq}
use Prim.Native.Nat.{ℕ, suc, ◌+◌, ◌≤◌, ◌<◌}
use native.Mathlib.Decide.{ℕ_discrete, dec_le}
use native.Mathlib.Omega.{arith}
use lib.ListN.{length, take, drop, get_or, length-append, take-append-drop}
use lib.Seq.{drop-append_seam, split_at, length-take-le, take_all, take-append_seam}
use lib.Dec.{ltb, nltb→le, T}
use Rattle.art.proofs.Tags.{cut, fits_begins, fits_under, fits_of_under}
use Rattle.art.specs.Tags.{Tag, Listing, Aim, Fits, fits_dec}
use Rattle.art.proofs.Listings.{every_all, every_imp, every_under, find_none, find_left, find_right, ite_iff, under_append, under_under, under_nil}
use Rattle.art.specs.Listings.{Every, under, find}
use Rattle.art.proofs.Trees.{row_above, row_filled}
use Rattle.art.specs.Trees.{Tree, leaf, inner, Row, end, child, contents, row_contents, Good, GoodRow, Above, HeadAbove}
use Rattle.art.specs.Nodes.{Meets, meets_dec, start, Known, show, show_row, walk, walk_row}

-- after a record whose stored bytes were met, the path with its run is known to begin the tag, or bytes were skipped
pub know : (sk : Bool) (p run s : Tag) → Known sk p s → Meets sk (take 8 run) (drop (length p) s) → Known (sk || ltb 8 (length run)) (p ++ run) s
know true p run s k m = tt
know false p run s k m = go (ltb 8 (length run)) (λ h. nltb→le 8 (length run) h)
  where
    go : (b : Bool) → (T (not b) → length run ≤ 8) → Known b (p ++ run) s
    go true f = tt
    go false f =
        let whole : take 8 run ≡ run = take_all 8 run (f tt) in
        let z : Tag = k.0 in
        let m₁ : take (length (take 8 run)) z ≡ take 8 run = rw (k.1, drop-append_seam p k.0) at m in
        let m₂ : take (length run) z ≡ run = rw whole at m₁ in
        (drop (length run) z, k.1 ∙ rw append_assoc (ap (λ (y : Tag). p ++ y) (sym (take-append-drop (length run) z) ∙ ap (λ (y : Tag). y ++ drop (length run) z) m₂)))

stored_begins : (n : ℕ) (run x : Tag) → take (length (take n run)) (run ++ x) ≡ take n run
stored_begins n run x =
    ap (λ (y : Tag). take (length (take n run)) (y ++ x)) (sym (take-append-drop n run)) ∙ ap (take (length (take n run))) (append_assoc (take n run) (drop n run) x)
    ∙ take-append_seam (take n run) (drop n run ++ x)

-- two tags that are equal have the same byte after as many bytes
pub same_byte : (q q' : Tag) (b c : ℕ) (x y : Tag) → length q' ≡ length q → q' ++ b ∷ y ≡ q ++ c ∷ x → b ≡ c
same_byte q q' b c x y h e = head-eq_of_cons-eq (cut q' q h (b ∷ y) (c ∷ x) e).1

know_child : (sk : Bool) (q q' : Tag) (b : ℕ) (y s : Tag) → length q' ≡ length q → s ≡ q' ++ b ∷ y → Known sk q s → Known sk (q ++ b ∷ []) s
know_child true q q' b y s h e k = tt
know_child false q q' b y s h e k =
    let c = cut q' q h (b ∷ y) k.0 (sym e ∙ k.1) in
    (y, k.1 ∙ rw append_assoc (ap (λ (z : Tag). q ++ z) (sym c.1)))

module _ {A : Type 0} where
  -- ── theorem L ──
  walk_leaf : (n : ℕ) (x : Tag) (a : A) (m : Aim) (p : Tag) (sk : Bool) (s : Tag) → Known sk p s → walk (show p (leaf n x a)) m (length p) sk s ≡ find m s (under p (contents (leaf n x a)))
  walk_leaf n x a m p true s k = refl
  walk_leaf n x a m p false s k = rw (from, k.1, drop-append_seam p k.0, drop-append_seam p x) (ite_iff (fits_dec m k.0 x) (fits_dec m (p ++ k.0) (p ++ x)) (fits_under m p k.0 x) (fits_of_under m p k.0 x) (some a) none)
    where
      from : start false (length p) s (p ++ x) ≡ length p
      from = rw k.1 (simp length-append (omega arith))

  -- what holds of the walk over a row whose tags all stand below q, where s has the byte b after as many bytes
  abbrev RowLaw : Row A → Aim → Tag → Tag → Type 0
  RowLaw r m q s = (sk : Bool) (q' : Tag) (b : ℕ) (y : Tag) → length q' ≡ length q → s ≡ q' ++ b ∷ y → Known sk q s
      → walk_row (show_row q r) m b (suc (length q)) sk s ≡ find m s (under q (row_contents r))

  walk_inner : (k n : ℕ) (run : Tag) (r : Row A) (m : Aim) (p : Tag) (sk : Bool) (s : Tag) → Known sk p s → RowLaw r m (p ++ run) s
      → walk (show p (inner k n run r)) m (length p) sk s ≡ find m s (under p (contents (inner k n run r)))
  walk_inner k n run r m p sk s kn law = go (meets_dec sk (take 8 run) (drop (length p) s)) (dec_le (length s) (length p + length run))
    where
      next : Option A
      next = walk_row (show_row (p ++ run) r) m (get_or s (length p + length run) 0) (suc (length p + length run)) (sk || ltb 8 (length run)) s

      ends : (x : Tag) → Fits m s (p ++ (run ++ x)) → (z : Tag) × (s ≡ p ++ (run ++ (x ++ z)))
      ends x f = let b = fits_begins m s (p ++ (run ++ x)) f in (b.0, b.1 ∙ simp append_assoc)

      miss : (sk : Bool) → Known sk p s → ¬ Meets sk (take 8 run) (drop (length p) s) → (x : Tag) → ¬ Fits m s (p ++ (run ++ x))
      miss true kn h x f = h tt
      miss false kn h x f = let e = ends x f in h (rw (e.1, drop-append_seam p (run ++ (x ++ e.0))) (stored_begins 8 run (x ++ e.0)))

      brief : length s ≤ length p + length run → (x : Tag) → 0 < length x → ¬ Fits m s (p ++ (run ++ x))
      brief h x l f = omega (arith, simp length-append at (ap length (ends x f).1))

      differ : Every (λ x. ¬ Fits m s (p ++ (run ++ x))) (row_contents r) → Every (λ t. ¬ Fits m s t) (under p (under run (row_contents r)))
      differ h = every_under _ p (under run (row_contents r)) (every_under (λ t. ¬ Fits m s (p ++ t)) run (row_contents r) h)

      go : (d : Dec (Meets sk (take 8 run) (drop (length p) s))) (e : Dec (length s ≤ length p + length run)) → ite d (ite e none next) none ≡ find m s (under p (under run (row_contents r)))
      go (no h) e = sym (find_none m s (under p (under run (row_contents r))) (differ (every_all _ (miss sk kn h) (row_contents r))))
      go (yes d) (yes h) = sym (find_none m s (under p (under run (row_contents r))) (differ (every_imp _ _ (brief h) (row_contents r) (row_filled r))))
      go (yes d) (no h) =
          let i : ℕ = length p + length run in
          let l : length (take i s) ≡ length (p ++ run) = omega (arith, length-append p run, length-take-le i s (omega arith)) in
          let base = law (sk || ltb 8 (length run)) (take i s) (get_or s i 0) (drop (suc i) s) l (split_at s i 0 (omega arith)) (know sk p run s kn d) in
          rw (under_under p run (row_contents r)) (rw (length-append p run) at base)

  walk_child : (c : ℕ) (t : Tree A) (r : Row A) → Above c r → (m : Aim) (q s : Tag) (sk : Bool) (q' : Tag) (b : ℕ) (y : Tag) → length q' ≡ length q → s ≡ q' ++ b ∷ y → Known sk q s
      → (Known sk (q ++ c ∷ []) s → walk (show (q ++ c ∷ []) t) m (length (q ++ c ∷ [])) sk s ≡ find m s (under (q ++ c ∷ []) (contents t)))
      → walk_row (show_row q r) m b (suc (length q)) sk s ≡ find m s (under q (row_contents r))
      → walk_row (show_row q (child c t r)) m b (suc (length q)) sk s ≡ find m s (under q (row_contents (child c t r)))
  walk_child c t r ab m q s sk q' b y h e k iht ihr = rw under_append (go (ℕ_discrete b c))
    where
      kids : Listing A
      kids = under q (under (c ∷ []) (contents t))

      byte : (d : ℕ) (x : Tag) → Fits m s (q ++ (d ∷ x)) → b ≡ d
      byte d x f = let g = fits_begins m s (q ++ (d ∷ x)) f in same_byte q q' b d (x ++ g.0) y h (sym e ∙ g.1 ∙ append_assoc q (d ∷ x) g.0)

      later : b ≡ c → (x : Tag) → HeadAbove c x → ¬ Fits m s (q ++ x)
      later i [] hx f = elim hx [ ]
      later i (d ∷ x) hx f = let j = byte d x f in omega arith

      go : (d : Dec (b ≡ c)) → ite d (walk (show (q ++ c ∷ []) t) m (suc (length q)) sk s) (walk_row (show_row q r) m b (suc (length q)) sk s) ≡ find m s (kids ++ under q (row_contents r))
      go (yes i) =
          let one : length (q ++ c ∷ []) ≡ suc (length q) = simp length-append (omega arith) in
          let left = find_left m s kids (under q (row_contents r)) (every_under _ q (row_contents r) (every_imp _ _ (later i) (row_contents r) (row_above c r ab))) in
          sym (left ∙ ap (find m s) (under_under q (c ∷ []) (contents t)) ∙ sym (rw one at (iht (rw i at (know_child sk q q' b y s h e k)))))
      go (no n) =
          sym (find_right m s kids (under q (row_contents r)) (every_under _ q (under (c ∷ []) (contents t)) (every_under (λ t. ¬ Fits m s (q ++ t)) (c ∷ []) (contents t) (every_all _ (λ x f. n (byte c x f)) (contents t)))) ∙ sym ihr)

  mutual
    -- below a path that is known, or skipped, the walk over what the records show of a tree finds what the tree holds
    pub walk_show : (t : Tree A) → Good t → (m : Aim) (p : Tag) (sk : Bool) (s : Tag) → Known sk p s → walk (show p t) m (length p) sk s ≡ find m s (under p (contents t))
    walk_show (leaf n x a) g m p sk s k = walk_leaf n x a m p sk s k
    walk_show (inner k n run r) g m p sk s kn = walk_inner k n run r m p sk s kn (λ sk' q' b y h e k'. walk_row_show r g.1 m (p ++ run) s sk' q' b y h e k')

    -- and the walk over its row what the row holds
    pub walk_row_show : (r : Row A) → GoodRow r → (m : Aim) (q s : Tag) → RowLaw r m q s
    walk_row_show end g m q s sk q' b y h e k = refl
    walk_row_show (child c t r) g m q s sk q' b y h e k = walk_child c t r g.1 m q s sk q' b y h e k (λ k'. walk_show t g.0 m (q ++ c ∷ []) sk s k') (walk_row_show r g.2 m q s sk q' b y h e k)

  -- the walk from the root finds what the listing holds
  pub walk_is_find : (t : Tree A) → Good t → (m : Aim) (s : Tag) → walk (show [] t) m 0 false s ≡ find m s (contents t)
  walk_is_find t g m s = walk_show t g m [] false s (s, refl) ∙ ap (find m s) (under_nil (contents t))
