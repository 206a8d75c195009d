-- What the check asks after its way through a store, and what a store then is.
use Rattle.std.specs.Prelude.{◌≡◌, [], ℕ, length}
use Rattle.art.specs.Trees.{Tree, contents}
use Rattle.art.specs.Stores.{Place, Store, root, store, Used, Once}
use Rattle.art.specs.Walks.{Shows}
use Rattle.art.specs.Members.{In}
use Rattle.art.specs.Chain.{Links, after_ref, Linked, leaves}
use Rattle.art.specs.Visit.{State}

module _ {A : Type 0} where
  -- every used place was seen, the leaf seen last ends the list, and the count is right
  pub record Ended (k : Links) (σ : Store A) (tags : ℕ) (z : State) : Type 0 where
    pub seen_all : (x : Place) → Used (σ x) → In x z.seen
    pub next_none : after_ref k z.prev ≡ 0
    pub last_is : k.last ≡ z.prev
    pub count_is : tags ≡ z.count

  -- a tree from x on whose store it is, no place twice, with its leaves in order as the list and its tags as the count
  pub record Checked (k : Links) (σ : Store A) (tags : ℕ) (x : Place) : Type 0 where
    pub tree : Tree A
    pub rooted : root tree ≡ x
    pub shows : Shows tree [] σ
    pub once : Once tree []
    pub shown : (y : Place) → σ y ≡ store tree [] y
    pub linked : Linked k 0 (leaves tree)
    pub count : tags ≡ length (contents tree)
