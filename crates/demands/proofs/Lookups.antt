-- What a listing has for a tag after a change, for the tag itself and for every other; and a sorted listing is decided by what it has for each tag.
use Prim.Native.Nat.{ℕ}
use mathlib.Core.Path.{◌≡◌, refl, sym, ap, subst, ◌∙◌}
use mathlib.Core.Logic.{◌≢◌, inl, inr, ite, if_pos, if_neg}
use mathlib.Core.List.{[], ◌∷◌}
use mathlib.Core.Option.{Option, none, some}
use native.Mathlib.Omega.{arith}
use Rattle.art.specs.Tags.{Tag, Listing, Before, Less, tag_dec, exact}
use Rattle.art.specs.Listings.{Every, Sorted, lookup}
use Rattle.art.specs.Puts.{less_dec, put, keep, alter, leave}
use Rattle.art.proofs.Tags.{before_less}
use Rattle.art.proofs.Listings.{every_imp, find_none, find_exact}
use Rattle.art.proofs.Puts.{alter_none}
use Rattle.art.proofs.ReadBack.{some_inj}

-- ── the order ──
pub less_trans : (s t u : Tag) → Less s t → Less t u → Less s u
less_trans (x ∷ s) (y ∷ t) [] h k = elim k [ ]
less_trans (x ∷ s) [] u h k = elim h [ ]
less_trans [] (y ∷ t) [] h k = elim k [ ]
less_trans [] [] u h k = elim h [ ]
less_trans [] (y ∷ t) (z ∷ u) h k = tt
less_trans (x ∷ s) (y ∷ t) (z ∷ u) (inl h) (inl k) = inl (omega arith)
less_trans (x ∷ s) (y ∷ t) (z ∷ u) (inl h) (inr k) = inl (omega arith)
less_trans (x ∷ s) (y ∷ t) (z ∷ u) (inr h) (inl k) = inl (omega arith)
less_trans (x ∷ s) (y ∷ t) (z ∷ u) (inr h) (inr k) = inr (h.0 ∙ k.0, less_trans s t u h.1 k.1)

pub less_not_self : (s : Tag) → ¬ Less s s
less_not_self [] h = h
less_not_self (x ∷ s) (inl h) = omega arith
less_not_self (x ∷ s) (inr h) = less_not_self s h.1

pub less_not_back : (s t : Tag) → Less s t → ¬ Less t s
less_not_back s t h k = less_not_self s (less_trans s t s h k)

before_not_self : (s : Tag) → ¬ Before s s
before_not_self s h = less_not_self s (before_less s s h)

module _ {A : Type 0} where
  -- ── what stands where ──
  every_put : (P : Tag → Type 0) (s : Tag) (a : A) (l : Listing A) → Every P (put s a l) → P s × Every P l
  every_put P s a [] h = (h.0, tt)
  every_put P s a (e ∷ l) h = go (less_dec s e.0) (every_put P s a l) h
    where
      go : (d : Dec (Less s e.0)) → (Every P (put s a l) → P s × Every P l) → Every P (ite {C = Listing A} d ((s, a) ∷ e ∷ l) (e ∷ put s a l)) → P s × Every P (e ∷ l)
      go (yes k) ih h = (h.0, h.1)
      go (no k) ih h = let r = ih h.1 in (r.0, (h.0, r.1))

  -- a tag that a sorted listing got put in was not there
  pub put_new : (s : Tag) (a : A) (l : Listing A) → Sorted (put s a l) → Every (λ t. s ≢ t) l
  put_new s a [] h = tt
  put_new s a (e ∷ l) h = go (less_dec s e.0) (put_new s a l) h
    where
      go : (d : Dec (Less s e.0)) → (Sorted (put s a l) → Every (λ t. s ≢ t) l) → Sorted (ite {C = Listing A} d ((s, a) ∷ e ∷ l) (e ∷ put s a l)) → Every (λ t. s ≢ t) (e ∷ l)
      go (yes k) ih h = every_imp (Before s) (λ t. s ≢ t) (λ t b q. before_not_self s (subst (Before s) (sym q) b)) (e ∷ l) h.0
      go (no k) ih h = (λ q. before_not_self s (subst (λ (t : Tag). Before t s) (sym q) (every_put (Before e.0) s a l h.0).0), ih h.1)

  pub lookup_new : (s : Tag) (l : Listing A) → Every (λ t. s ≢ t) l → lookup s l ≡ none
  lookup_new s l h = sym (find_exact s l) ∙ find_none exact s l h

  pub new_lookup : (s : Tag) (l : Listing A) → lookup s l ≡ none → Every (λ t. s ≢ t) l
  new_lookup s [] h = tt
  new_lookup s (e ∷ l) h = go (tag_dec s e.0) (new_lookup s l) h
    where
      go : (d : Dec (s ≡ e.0)) → (lookup s l ≡ none → Every (λ t. s ≢ t) l) → ite {C = Option A} d (some e.1) (lookup s l) ≡ none → Every (λ t. s ≢ t) (e ∷ l)
      go (yes k) ih h = let z : ◌≡◌ {A = ℕ} 0 1 = cc in absurd (omega arith)
      go (no k) ih h = (k, ih h)

  -- ── for the tag itself ──
  pub put_held : (t : Tag) (a : A) (l : Listing A) → Every (λ u. t ≢ u) l → lookup t (put t a l) ≡ some a
  put_held t a [] h = if_pos (tag_dec t t) refl _ _
  put_held t a (e ∷ l) h = go (less_dec t e.0) (put_held t a l h.1)
    where
      go : (d : Dec (Less t e.0)) → lookup t (put t a l) ≡ some a → lookup t (ite {C = Listing A} d ((t, a) ∷ e ∷ l) (e ∷ put t a l)) ≡ some a
      go (yes k) ih = if_pos (tag_dec t t) refl _ _
      go (no k) ih = if_neg (tag_dec t e.0) h.0 _ _ ∙ ih

  pub alter_held : (t : Tag) (a o : A) (l : Listing A) → lookup t l ≡ some o → lookup t (alter (λ x. some a) t l) ≡ some a
  alter_held t a o [] h = let z : ◌≡◌ {A = ℕ} 0 1 = cc in absurd (omega arith)
  alter_held t a o (e ∷ l) h = go (tag_dec t e.0) (alter_held t a o l)
    where
      go : (d : Dec (t ≡ e.0)) → (lookup t l ≡ some o → lookup t (alter (λ x. some a) t l) ≡ some a)
          → lookup t (ite {C = Listing A} d ((e.0, a) ∷ alter (λ x. some a) t l) (e ∷ alter (λ x. some a) t l)) ≡ some a
      go (yes k) ih = if_pos (tag_dec t e.0) k _ _
      go (no k) ih = if_neg (tag_dec t e.0) k _ _ ∙ ih (sym (if_neg (tag_dec t e.0) k _ _) ∙ h)

  pub leave_unheld : (t : Tag) (l : Listing A) → lookup t (leave t l) ≡ none
  leave_unheld t [] = refl
  leave_unheld t (e ∷ l) = go (tag_dec t e.0) (leave_unheld t l)
    where
      go : (d : Dec (t ≡ e.0)) → lookup t (leave t l) ≡ none → lookup t (ite {C = Listing A} d (leave t l) (e ∷ leave t l)) ≡ none
      go (yes k) ih = ih
      go (no k) ih = if_neg (tag_dec t e.0) k _ _ ∙ ih

  -- what is left beside a tag is the same, whatever it was given
  pub leave_put : (t : Tag) (a : A) (l : Listing A) → leave t (put t a l) ≡ leave t l
  leave_put t a [] = if_pos (tag_dec t t) refl _ _
  leave_put t a (e ∷ l) = go (less_dec t e.0) (leave_put t a l)
    where
      go : (d : Dec (Less t e.0)) → leave t (put t a l) ≡ leave t l → leave t (ite {C = Listing A} d ((t, a) ∷ e ∷ l) (e ∷ put t a l)) ≡ leave t (e ∷ l)
      go (yes k) ih = if_pos (tag_dec t t) refl _ _
      go (no k) ih = ap (λ (m : Listing A). ite (tag_dec t e.0) m (e ∷ m)) ih

  pub leave_leave : (t : Tag) (l : Listing A) → leave t (leave t l) ≡ leave t l
  leave_leave t [] = refl
  leave_leave t (e ∷ l) = go (tag_dec t e.0) (leave_leave t l)
    where
      go : (d : Dec (t ≡ e.0)) → leave t (leave t l) ≡ leave t l → leave t (ite {C = Listing A} d (leave t l) (e ∷ leave t l)) ≡ ite {C = Listing A} d (leave t l) (e ∷ leave t l)
      go (yes k) ih = ih
      go (no k) ih = if_neg (tag_dec t e.0) k _ _ ∙ ap (λ (m : Listing A). e ∷ m) ih

  -- ── what is held for another tag ──
  pub lookup_put : (s t : Tag) → s ≢ t → (b : A) (l : Listing A) → lookup s (put t b l) ≡ lookup s l
  lookup_put s t ne b [] = if_neg (tag_dec s t) ne _ _
  lookup_put s t ne b (e ∷ l) = go (less_dec t e.0) (lookup_put s t ne b l)
    where
      go : (d : Dec (Less t e.0)) → lookup s (put t b l) ≡ lookup s l → lookup s (ite {C = Listing A} d ((t, b) ∷ e ∷ l) (e ∷ put t b l)) ≡ lookup s (e ∷ l)
      go (yes k) ih = if_neg (tag_dec s t) ne _ _
      go (no k) ih = ap (λ (o : Option A). ite (tag_dec s e.0) (some e.1) o) ih

  lookup_keep : (s t : Tag) → s ≢ t → (o : Option A) (l : Listing A) → lookup s (keep t o l) ≡ lookup s l
  lookup_keep s t ne none l = refl
  lookup_keep s t ne (some a) l = if_neg (tag_dec s t) ne _ _

  pub lookup_alter : (s t : Tag) → s ≢ t → (g : A → Option A) (l : Listing A) → lookup s (alter g t l) ≡ lookup s l
  lookup_alter s t ne g [] = refl
  lookup_alter s t ne g (e ∷ l) = go (tag_dec t e.0) (lookup_alter s t ne g l)
    where
      go : (d : Dec (t ≡ e.0)) → lookup s (alter g t l) ≡ lookup s l → lookup s (ite {C = Listing A} d (keep e.0 (g e.1) (alter g t l)) (e ∷ alter g t l)) ≡ lookup s (e ∷ l)
      go (yes k) ih = lookup_keep s e.0 (λ q. ne (q ∙ sym k)) (g e.1) (alter g t l) ∙ ih ∙ sym (if_neg (tag_dec s e.0) (λ q. ne (q ∙ sym k)) _ _)
      go (no k) ih = ap (λ (o : Option A). ite (tag_dec s e.0) (some e.1) o) ih

  -- ── a held tag put in anew is the entry changed ──
  pub put_first : (s : Tag) (a : A) (l : Listing A) → Every (Less s) l → put s a l ≡ (s, a) ∷ l
  put_first s a [] h = refl
  put_first s a (e ∷ l) h = if_pos (less_dec s e.0) h.0 _ _

  some_none : (a : A) → some a ≡ none → ⊥
  some_none a e = let z : ◌≡◌ {A = ℕ} 0 1 = cc in omega arith

  head_found : (e : Tag × A) (l : Listing A) → lookup e.0 (e ∷ l) ≡ some e.1
  head_found e l = if_pos (tag_dec e.0 e.0) refl _ _

  tail_found : (t : Tag) (e : Tag × A) (l : Listing A) → t ≢ e.0 → lookup t (e ∷ l) ≡ lookup t l
  tail_found t e l ne = if_neg (tag_dec t e.0) ne _ _

  every_lookup : (P : Tag → Type 0) (s : Tag) (a : A) (l : Listing A) → Every P l → lookup s l ≡ some a → P s
  every_lookup P s a [] h e = absurd (some_none a (sym e))
  every_lookup P s a (x ∷ l) h e = go (tag_dec s x.0) e (every_lookup P s a l h.1)
    where
      go : (d : Dec (s ≡ x.0)) → ite d (some x.1) (lookup s l) ≡ some a → (lookup s l ≡ some a → P s) → P s
      go (yes i) e ih = subst P (sym i) h.0
      go (no n) e ih = ih e

  pub put_over : (t : Tag) (a o : A) (l : Listing A) → Sorted l → lookup t l ≡ some o → put t a (leave t l) ≡ alter (λ y. some a) t l
  put_over t a o [] h e = absurd (some_none o (sym e))
  put_over t a o (x ∷ l) h e = go (tag_dec t x.0) e (put_over t a o l h.1)
    where
      after : t ≡ x.0 → Every (Before t) l
      after q = subst (λ (z : Tag). Every (Before z) l) (sym q) h.0

      other : t ≡ x.0 → Every (λ u. t ≢ u) l
      other q = every_imp (Before t) (λ u. t ≢ u) (λ u b r. less_not_self t (before_less t t (subst (Before t) (sym r) b))) l (after q)

      go : (d : Dec (t ≡ x.0)) → ite {C = Option A} d (some x.1) (lookup t l) ≡ some o → (lookup t l ≡ some o → put t a (leave t l) ≡ alter (λ y. some a) t l)
          → put t a (ite {C = Listing A} d (leave t l) (x ∷ leave t l)) ≡ ite {C = Listing A} d ((x.0, a) ∷ alter (λ y. some a) t l) (x ∷ alter (λ y. some a) t l)
      go (yes q) i ih =
          let same = alter_none (λ y. some a) t l (other q) in
          ap (put t a) (alter_none (λ y. none) t l (other q)) ∙ put_first t a l (every_imp (Before t) (Less t) (before_less t) l (after q)) ∙ (λ j. (q j, a) ∷ sym same j)
      go (no n) i ih = if_neg (less_dec t x.0) (less_not_back x.0 t (before_less x.0 t (every_lookup (Before x.0) t o l h.0 i))) _ _ ∙ ap (λ (r : Listing A). x ∷ r) (ih i)

  -- ── a sorted listing by what it has for each tag ──
  before_new : (s : Tag) (l : Listing A) → Every (Before s) l → lookup s l ≡ none
  before_new s l h = lookup_new s l (every_imp (Before s) (λ t. s ≢ t) (λ t b q. less_not_self s (before_less s s (subst (Before s) (sym q) b))) l h)

  pub sorted_ext : (l m : Listing A) → Sorted l → Sorted m → ((t : Tag) → lookup t l ≡ lookup t m) → l ≡ m
  sorted_ext [] [] h k e = refl
  sorted_ext [] (f ∷ m) h k e = absurd (some_none f.1 (sym (head_found f m) ∙ sym (e f.0)))
  sorted_ext (x ∷ l) [] h k e = absurd (some_none x.1 (sym (head_found x l) ∙ e x.0))
  sorted_ext (x ∷ l) (f ∷ m) h k e = go (tag_dec x.0 f.0) (λ d. sorted_ext l m h.1 k.1 d)
    where
      go : Dec (x.0 ≡ f.0) → (((t : Tag) → lookup t l ≡ lookup t m) → l ≡ m) → x ∷ l ≡ f ∷ m
      go (no n) ih =
          let up = every_lookup (Before f.0) x.0 x.1 m k.0 (sym (tail_found x.0 f m n) ∙ sym (e x.0) ∙ head_found x l) in
          let down = every_lookup (Before x.0) f.0 f.1 l h.0 (sym (tail_found f.0 x l (λ q. n (sym q))) ∙ e f.0 ∙ head_found f m) in
          absurd (less_not_back x.0 f.0 (before_less x.0 f.0 down) (before_less f.0 x.0 up))
      go (yes q) ih =
          let same : x.1 ≡ f.1 = some_inj (sym (head_found x l) ∙ e x.0 ∙ ap (λ (t : Tag). lookup t (f ∷ m)) q ∙ head_found f m) in
          let rest = ih (λ t. tails t (tag_dec t x.0)) in
          (λ i. (q i, same i) ∷ rest i)
        where
          tails : (t : Tag) → Dec (t ≡ x.0) → lookup t l ≡ lookup t m
          tails t (yes p) = ap (λ (u : Tag). lookup u l) p ∙ before_new x.0 l h.0 ∙ sym (ap (λ (u : Tag). lookup u m) (p ∙ q) ∙ before_new f.0 m k.0)
          tails t (no n) = sym (tail_found t x l n) ∙ e t ∙ tail_found t f m (λ p. n (p ∙ sym q))
