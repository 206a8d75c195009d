-- The free record that a pool gives is its lowest, and the one that the kinds give is of the smallest kind that has one.
use Prim.Native.Nat.{ℕ, zero, suc, ◌+◌, ◌-◌, ◌*◌, ◌≤◌, ◌<◌}
use mathlib.Core.Path.{◌≡◌, refl, sym, ap, subst, ◌∙◌}
use mathlib.Core.Logic.{◌≢◌}
use mathlib.Core.List.{List}
use mathlib.Core.Bool.{Bool, true, false}
use native.Mathlib.Omega.{arith}
use native.Mathlib.Decide.{ℕ_discrete}
use lib.ListN.{get_or}
use lib.Dec.{eqb, leb, ltb}
use borrow.Author.Tests.{eqb-true, eqb-false, ltb-false, leb-true, lt-ltb, le-leb}
use Rattle.std.specs.Prelude.{Some, None}
use Rattle.lists.specs.Scan.{choose}
use Rattle.lists.proofs.Tests.{both, and_both}
use Rattle.lists.proofs.Parts.{between_at}
use Rattle.frames.specs.Place.{in_pool, start_at, size_at, kind_at, number_at}
use Rattle.frames.specs.declared.frame.Frame.{Frame}
use Rattle.art.specs.Stores.{Place, leaf_place, inner_place}
use Rattle.pools.specs.Pool.{lowest_from, lowest_free, free_from, free_kind}
use Rattle.view.specs.Cells.{word_zero}
use Rattle.view.specs.Pools.{FreeAt, NoneFree}
use Rattle.view.proofs.Apart.{start_at_lem, number_few}

-- ── one pool ──
module _ (words : List ℕ) (z : ℕ) where
  next_at : (a i : ℕ) → a + z + i * z ≡ a + suc i * z
  next_at a i = omega arith

  from_free : (a c : ℕ) → lowest_from words a z c < c → get_or words (a + lowest_from words a z c * z) 0 ≡ 0
  from_free a zero h = absurd (omega arith)
  from_free a (suc c) h = go (eqb (get_or words a 0) 0) refl (from_free (a + z) c) h
    where
      go : (t : Bool) → eqb (get_or words a 0) 0 ≡ t → (lowest_from words (a + z) z c < c → get_or words (a + z + lowest_from words (a + z) z c * z) 0 ≡ 0)
          → choose t 0 (suc (lowest_from words (a + z) z c)) < suc c → get_or words (a + choose t 0 (suc (lowest_from words (a + z) z c)) * z) 0 ≡ 0
      go true e ih k = ap (λ (j : ℕ). get_or words j 0) (let q : a + 0 * z ≡ a = omega arith in q) ∙ eqb-true _ _ e
      go false e ih k = ap (λ (j : ℕ). get_or words j 0) (sym (next_at a (lowest_from words (a + z) z c))) ∙ ih (omega arith)

  from_used : (a c i : ℕ) → i < lowest_from words a z c → get_or words (a + i * z) 0 ≢ 0
  from_used a zero i h = absurd (omega arith)
  from_used a (suc c) i h = go (eqb (get_or words a 0) 0) refl i (from_used (a + z) c) h
    where
      go : (t : Bool) → eqb (get_or words a 0) 0 ≡ t → (i : ℕ) → ((j : ℕ) → j < lowest_from words (a + z) z c → get_or words (a + z + j * z) 0 ≢ 0)
          → i < choose t 0 (suc (lowest_from words (a + z) z c)) → get_or words (a + i * z) 0 ≢ 0
      go true e i ih k = absurd (omega arith)
      go false e zero ih k = λ q. eqb-false _ _ e (ap (λ (j : ℕ). get_or words j 0) (let p : a ≡ a + 0 * z = omega arith in p) ∙ q)
      go false e (suc i) ih k = λ q. ih i (omega arith) (ap (λ (j : ℕ). get_or words j 0) (next_at a i) ∙ q)

-- word 0 of a record is the first at its place
word_zero_lem : (f : Frame) (words : List ℕ) (x : Place) → word_zero f words x ≡ get_or words (start_at f x) 0
word_zero_lem f words x = between_at words (start_at f x) (start_at f x + size_at f x) 0 (some x) ∙ ap (λ (j : ℕ). get_or words j 0) (let q : start_at f x + 0 ≡ start_at f x = omega arith in q)
  where
    some : (y : Place) → 0 < start_at f y + size_at f y - start_at f y
    some (leaf_place n) = omega arith
    some (inner_place k n) = omega arith

module _ (f : Frame) (words : List ℕ) where
  -- below the capacity it is the number of a free record
  pub lowest_free_lem : (x : Place) → in_pool f x ≡ true → number_at x ≡ lowest_free f words (kind_at x) → word_zero f words x ≡ 0
  unfolding lowest_free
  lowest_free_lem x h e =
      word_zero_lem f words x
      ∙ ap (λ (j : ℕ). get_or words j 0) (start_at_lem f x ∙ ap (λ (n : ℕ). get_or f.starts (kind_at x) 0 + n * get_or f.sizes (kind_at x) 0) e)
      ∙ from_free words (get_or f.sizes (kind_at x) 0) (get_or f.starts (kind_at x) 0) (get_or f.caps (kind_at x) 0) (omega (arith, number_few f x h))

  -- and every lower one is in use: all of them, where it is the capacity
  pub lowest_used : (x : Place) → number_at x < lowest_free f words (kind_at x) → word_zero f words x ≢ 0
  unfolding lowest_free
  lowest_used x h e =
      from_used words (get_or f.sizes (kind_at x) 0) (get_or f.starts (kind_at x) 0) (get_or f.caps (kind_at x) 0) (number_at x) h
      (ap (λ (j : ℕ). get_or words j 0) (sym (start_at_lem f x)) ∙ sym (word_zero_lem f words x) ∙ e)

  pub none_free : (x : Place) → in_pool f x ≡ true → get_or f.caps (kind_at x) 0 ≤ lowest_free f words (kind_at x) → word_zero f words x ≢ 0
  none_free x h l = lowest_used x (omega (arith, number_few f x h))

  -- the leaf that it gives
  pub free_leaf : lowest_free f words 5 < get_or f.caps 5 0 → (in_pool f (leaf_place (lowest_free f words 5)) ≡ true) × (word_zero f words (leaf_place (lowest_free f words 5)) ≡ 0)
  free_leaf h =
      let p = lt-ltb (lowest_free f words 5) (get_or f.caps 5 0) h in
      (p, lowest_free_lem (leaf_place (lowest_free f words 5)) p refl)

-- ── the kinds from one on ──
module _ (f : Frame) (words : List ℕ) where
  full : (kind : ℕ) → ltb (lowest_free f words kind) (get_or f.caps kind 0) ≡ false → (j m : ℕ) → j ≡ kind → in_pool f (inner_place j m) ≡ true → word_zero f words (inner_place j m) ≢ 0
  full kind e j m q h =
      none_free f words (inner_place j m) h
      (subst (λ (k : ℕ). get_or f.caps k 0 ≤ lowest_free f words k) (sym q) (ltb-false _ _ e))

  here : (kind : ℕ) → kind ≤ 4 → ltb (lowest_free f words kind) (get_or f.caps kind 0) ≡ true → FreeAt f words kind kind (lowest_free f words kind)
  here kind l e =
      let p : in_pool f (inner_place kind (lowest_free f words kind)) ≡ true = and_both (le-leb kind 4 l) e in
      record {
        from = omega arith;
        pool = p;
        free = lowest_free_lem f words (inner_place kind (lowest_free f words kind)) p refl;
        lower = λ m h. lowest_used f words (inner_place kind m) h;
        smaller = λ j m a b. absurd (omega arith);
      }

  from_at : (kind more k n : ℕ) → more ≡ 5 - kind → free_from f words kind more ≡ Some (k, n) → FreeAt f words kind k n
  from_at kind zero k n h e = absurd (let z : ◌≡◌ {A = ℕ} 0 1 = cc in omega arith)
  from_at kind (suc more) k n h e = go (ltb (lowest_free f words kind) (get_or f.caps kind 0)) refl (from_at (kind + 1) more k n (omega arith)) e
    where
      on : ltb (lowest_free f words kind) (get_or f.caps kind 0) ≡ false → FreeAt f words (kind + 1) k n → FreeAt f words kind k n
      on t r =
          record {
            from = omega (arith, r.from);
            pool = r.pool;
            free = r.free;
            lower = r.lower;
            smaller = λ j m a b p. step j m a b p (ℕ_discrete j kind);
          }
        where
          step : (j m : ℕ) → kind ≤ j → j < k → in_pool f (inner_place j m) ≡ true → Dec (j ≡ kind) → word_zero f words (inner_place j m) ≢ 0
          step j m a b p (yes q) = full kind t j m q p
          step j m a b p (no q) = r.smaller j m (omega arith) b p

      go : (t : Bool) → ltb (lowest_free f words kind) (get_or f.caps kind 0) ≡ t → (free_from f words (kind + 1) more ≡ Some (k, n) → FreeAt f words (kind + 1) k n)
          → choose t (Some (kind, lowest_free f words kind)) (free_from f words (kind + 1) more) ≡ Some (k, n) → FreeAt f words kind k n
      go true t ih q =
          let p : (kind, lowest_free f words kind) ≡ (k, n) = cc in
          let a : kind ≡ k = ap (λ (e : ℕ × ℕ). e.0) p in
          let b : lowest_free f words kind ≡ n = ap (λ (e : ℕ × ℕ). e.1) p in
          subst (λ (m : ℕ). FreeAt f words kind k m) b (subst (λ (j : ℕ). FreeAt f words kind j (lowest_free f words kind)) a (here kind (omega arith) t))
      go false t ih q = on t (ih q)

  from_nowhere : (kind more : ℕ) → more ≡ 5 - kind → free_from f words kind more ≡ None → NoneFree f words kind
  from_nowhere kind zero h e = λ j m l p. absurd (omega (arith, leb-true j 4 (both (leb j 4) (ltb m (get_or f.caps j 0)) p).0))
  from_nowhere kind (suc more) h e = go (ltb (lowest_free f words kind) (get_or f.caps kind 0)) refl (from_nowhere (kind + 1) more (omega arith)) e
    where
      step : ltb (lowest_free f words kind) (get_or f.caps kind 0) ≡ false → NoneFree f words (kind + 1) → (j m : ℕ) → kind ≤ j → in_pool f (inner_place j m) ≡ true
          → Dec (j ≡ kind) → word_zero f words (inner_place j m) ≢ 0
      step t r j m l p (yes q) = full kind t j m q p
      step t r j m l p (no q) = r j m (omega arith) p

      go : (t : Bool) → ltb (lowest_free f words kind) (get_or f.caps kind 0) ≡ t → (free_from f words (kind + 1) more ≡ None → NoneFree f words (kind + 1))
          → choose t (Some (kind, lowest_free f words kind)) (free_from f words (kind + 1) more) ≡ None → NoneFree f words kind
      go true t ih q = absurd (let z : ◌≡◌ {A = ℕ} 0 1 = cc in omega arith)
      go false t ih q = λ j m l p. step t (ih q) j m l p (ℕ_discrete j kind)

  pub kind_free : (kind k n : ℕ) → free_kind f words kind ≡ Some (k, n) → FreeAt f words kind k n
  unfolding free_kind
  kind_free kind k n e = from_at kind (5 - kind) k n refl e

  pub kind_none : (kind : ℕ) → free_kind f words kind ≡ None → NoneFree f words kind
  unfolding free_kind
  kind_none kind e = from_nowhere kind (5 - kind) refl e
