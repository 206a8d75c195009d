-- The tag count: one more after an insert, one less after a delete, the same after a change to what is held.
use mathlib.Core.Path.{◌≡◌, refl, ap, ◌∙◌}
use mathlib.Core.Logic.{ite}
use mathlib.Core.Option.{none, some}
use mathlib.Core.List.{[], ◌∷◌}
use Prim.Native.Nat.{suc}
use native.Mathlib.Omega.{arith}
use lib.ListN.{length, length-append}
use Rattle.art.specs.Tags.{Tag, Listing, Less, tag_dec}
use Rattle.art.specs.Listings.{Every, Sorted, lookup}
use Rattle.art.specs.Trees.{Tree, contents, Good}
use Rattle.art.proofs.Trees.{sorted}
use Rattle.art.specs.Puts.{Apart, less_dec, put, alter, leave}
use Rattle.art.specs.Changes.{Plan, grow}
use Rattle.art.proofs.Changes.{grow_contents}
use Rattle.art.specs.Deletes.{Home, change, held}
use Rattle.art.proofs.Deletes.{change_held}
use Rattle.art.proofs.Leaves.{leave_parts}

module _ {A : Type 0} where
  -- a tag put into a listing makes it one longer
  pub put_length : (s : Tag) (a : A) (l : Listing A) → length (put s a l) ≡ suc (length l)
  put_length s a [] = refl
  put_length s a (e ∷ l) = go (less_dec s e.0) (put_length s a l)
    where
      go : (d : Dec (Less s e.0)) → length (put s a l) ≡ suc (length l) → length (ite {C = Listing A} d ((s, a) ∷ e ∷ l) (e ∷ put s a l)) ≡ suc (suc (length l))
      go (yes h) ih = refl
      go (no h) ih = ap suc ih

  -- a held tag left out of a sorted listing makes it one shorter
  pub leave_length : (s : Tag) (a : A) (l : Listing A) → Sorted l → lookup s l ≡ some a → suc (length (leave s l)) ≡ length l
  leave_length s a l h e =
      let p = leave_parts s a l h e in
      omega (arith, ap length p.2, ap length p.3, length-append p.0 ((s, a) ∷ p.1), length-append p.0 p.1)

  -- what is held, changed, leaves the listing as long as it was
  pub alter_length : (f : A → A) (s : Tag) (l : Listing A) → length (alter (λ x. some (f x)) s l) ≡ length l
  alter_length f s [] = refl
  alter_length f s (e ∷ l) = go (tag_dec s e.0) (alter_length f s l)
    where
      go : (d : Dec (s ≡ e.0)) → length (alter (λ x. some (f x)) s l) ≡ length l
          → length (ite {C = Listing A} d ((e.0, f e.1) ∷ alter (λ x. some (f x)) s l) (e ∷ alter (λ x. some (f x)) s l)) ≡ suc (length l)
      go (yes h) ih = ap suc ih
      go (no h) ih = ap suc ih

  -- a tree grown by a free tag holds one more
  pub grow_count : (t : Tree A) → Good t → (pl : Plan) (s : Tag) (a : A) → Every (Apart s) (contents t) → length (held (some (grow t pl s a))) ≡ suc (length (contents t))
  grow_count t g pl s a free = ap length (grow_contents t g pl s a free) ∙ put_length s a (contents t)

  -- a tree without a held tag holds one less
  pub cut_count : (t : Tree A) → Good t → (hm : Home) (s : Tag) (a : A) → lookup s (contents t) ≡ some a → suc (length (held (change t (λ x. none) hm s))) ≡ length (contents t)
  cut_count t g hm s a e = ap (λ (l : Listing A). suc (length l)) (change_held t g (λ x. none) hm s) ∙ leave_length s a (contents t) (sorted t g) e

  -- a tree with what it holds changed holds as many
  pub change_count : (t : Tree A) → Good t → (f : A → A) (hm : Home) (s : Tag) → length (held (change t (λ x. some (f x)) hm s)) ≡ length (contents t)
  change_count t g f hm s = ap length (change_held t g (λ x. some (f x)) hm s) ∙ alter_length f s (contents t)
