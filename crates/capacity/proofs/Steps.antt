-- With ample capacities an insert or a delete leaves every record over its mark: the smallest kind that holds the children has a free record wherever one is looked for.
use Prim.Native.Nat.{ℕ, suc, ◌≤◌}
use mathlib.Core.Path.{◌≡◌, refl, sym, ap, subst}
use mathlib.Core.List.{List, [], ◌∷◌}
use mathlib.Core.Option.{Option, none, some}
use native.Mathlib.Decide.{dec_le}
use native.Mathlib.Omega.{arith}
use lib.ListN.{length}
use Rattle.frames.specs.Kind.{kind_row, children_of, mark_of}
use Rattle.frames.specs.Frame.{frame, root_word}
use Rattle.frames.specs.declared.frame.Frame.{Frame}
use Rattle.frames.proofs.KindTable.{by_kind}
use Rattle.records.specs.View.{Held}
use Rattle.art.specs.Tags.{Tag}
use Rattle.art.specs.Trees.{Tree, Good}
use Rattle.art.specs.Deletes.{held, Sane, stay}
use Rattle.art.specs.Facts.{height}
use Rattle.art.specs.Stores.{leaf_place, leaf_cell, Store, empty, root, store, Once}
use Rattle.art.specs.Chain.{Links}
use Rattle.art.specs.Calls.{OnceOf}
use Rattle.art.specs.Points.{Point, point, store_of, insert_at, delete_at, alter_at}
use Rattle.art.proofs.Walks.{store_shows}
use Rattle.art.proofs.FitPoints.{point_fits}
use Rattle.art.proofs.InsertPoints.{insert_makes}
use Rattle.art.proofs.DeletePoints.{delete_makes}
use Rattle.art.proofs.AlterPoints.{alter_makes}
use Rattle.view.specs.Links.{links_of}
use Rattle.reading.specs.Answers.{Bytes}
use Rattle.whole.specs.Sound.{Sound}
use Rattle.states.specs.State.{State}
use Rattle.states.proofs.Sounds.{sound_state}
use Rattle.insert.specs.Meets.{new_total}
use Rattle.insert.specs.Room.{LeavesFull}
use Rattle.insert.specs.Grown.{Smallest, GrownFrom, AlteredFrom}
use Rattle.delete.specs.Without.{WithoutFrom}
use Rattle.capacity.specs.Capacity.{AmpleFrame, Over, Tight}
use Rattle.capacity.proofs.Counts.{PoolFull, tree_over, one_record}
use Rattle.capacity.proofs.Rooms.{TightIn, tight_store, misses, ones_free, next_free, before_free}
use Rattle.capacity.proofs.Edits.{apply_tight, ForksLow, GrowsNext, insert_over, Kinds, delete_over, alter_over}

-- ── a block that shows a good tree ──
module _ {f : Frame} {words keys : List ℕ} {links : Links} {root_ref size : ℕ} (t : Tree Held) (s : State f words keys (store t []) links root_ref size) (tag : Tag) (bytes : Bytes tag)
    (good : Good t) (once : Once t []) (tight : TightIn (store t [])) (ample : AmpleFrame f) where
  abbrev σ : Store Held
  σ = store t []

  abbrev pt : Point
  pt = point (suc (height t)) σ (root t) tag

  -- of the kinds from one on the smallest that may have a free record is that one itself, where it has one
  smallest_is : (kind j : ℕ) → ¬ PoolFull f σ kind → Smallest f σ kind j → j ≡ kind
  smallest_is kind j free h = go (dec_le j kind)
    where
      go : Dec (j ≤ kind) → j ≡ kind
      go (yes l) = omega (arith, h.0)
      go (no l) = absurd (free (λ n p. h.1 kind n (omega arith) (omega arith) p))

  module _ (free : ¬ LeavesFull f σ) where
    forks_low : ForksLow σ tight f
    unfolding kind_row
    forks_low j h = ap mark_of (smallest_is 1 j (ones_free t s tag bytes good once tight ample free) h)

    -- the next kind's mark is what this one holds
    mark_next : (k : ℕ) → 1 ≤ k → k ≤ 4 → k ≤ 3 → mark_of (suc k) ≡ children_of k
    unfolding kind_row
    mark_next = by_kind (λ k. k ≤ 3 → mark_of (suc k) ≡ children_of k) (λ l. refl) (λ l. refl) (λ l. refl) (λ l. absurd (omega arith))

    grows_next : GrowsNext σ tight f
    unfolding kind_row
    grows_next k n len x st rs e missing low full j h = go (dec_le k 3)
      where
        kind : (1 ≤ k) × (k ≤ 4)
        kind = let h = one_record t s good once k n len st rs e in (h.0, h.1)

        go : Dec (k ≤ 3) → mark_of j ≤ length rs
        go (yes l) = omega (arith, full, mark_next k kind.0 kind.1 l, ap mark_of (smallest_is (suc k) j (next_free t s tag bytes good once tight ample free k n len st rs e full l) h))
        go (no l) = absurd (omega (arith, full, ap children_of (let four : k ≡ 4 = omega (arith, kind.1) in four), misses t s tag bytes k n len x st rs e missing low))

    grown_tight : (a : Held) (d : Option (Tree Held)) → GrownFrom f (some t) tag a d → TightIn (store_of d)
    grown_tight a d g =
        subst (λ (o : Option (Tree Held)). TightIn (store_of o)) (sym g.tree_is)
        (subst TightIn (insert_makes (suc (height t)) t good once (omega arith) g.plan g.fresh tag a)
        (apply_tight σ (insert_at σ g.plan tag a pt) tight
        (insert_over σ tight f forks_low grows_next g.plan tag bytes a pt (point_fits σ (suc (height t)) t good (store_shows t [] once) (omega arith) tag) g.chosen)))

  kinds : Kinds σ tight
  kinds k n len st rs e = let here = one_record t s good once k n len st rs e in (here.0, here.1, subst (Over 1) e (tree_over t good [] k n))

  without_tight : (d : Option (Tree Held)) → WithoutFrom f (some t) tag d → TightIn (store_of d)
  without_tight d g =
      subst (λ (o : Option (Tree Held)). TightIn (store_of o)) (sym g.tree_is)
      (subst TightIn (delete_makes (suc (height t)) t good once (omega arith) g.home g.roomy tag)
      (apply_tight σ (delete_at σ g.home pt) tight (delete_over σ tight f kinds (before_free t s tag bytes good once tight ample) g.home pt g.settles)))

  altered_tight : (total : ℕ) (d : Option (Tree Held)) → AlteredFrom (some t) tag total d → TightIn (store_of d)
  altered_tight total d e =
      subst (λ (o : Option (Tree Held)). TightIn (store_of o)) (sym e)
      (subst TightIn (alter_makes (suc (height t)) t good once (omega arith) (new_total total) stay tag)
      (apply_tight σ (alter_at σ (new_total total) pt) tight (alter_over σ (new_total total) pt)))

-- ── a sound block ──
empty_tight : TightIn empty
empty_tight k n = tt

module _ {words keys : List ℕ} (s : Sound words keys) where
  abbrev f : Frame
  f = frame words

  abbrev Shows : Option (Tree Held) → Type 0
  Shows d = State f words keys (store_of d) (links_of f words) (root_word words) (length (held d))

  module _ (tag : Tag) (bytes : Bytes tag) (tight : Tight f words keys) (ample : AmpleFrame f) where
    -- with a new tag
    pub put_tight : ¬ LeavesFull f (store_of s.tree) → (a : Held) (d : Option (Tree Held)) → GrownFrom f s.tree tag a d → TightIn (store_of d)
    put_tight free a d = go s.tree s.good s.once (sound_state s) (tight_store s tight) free
      where
        go : (o : Option (Tree Held)) → Sane o → OnceOf o → Shows o → TightIn (store_of o) → ¬ LeavesFull f (store_of o) → GrownFrom f o tag a d → TightIn (store_of d)
        go none g once st h free e =
            subst (λ (o : Option (Tree Held)). TightIn (store_of o)) (sym e.1) (apply_tight empty ((leaf_place a.number, leaf_cell tag a) ∷ []) empty_tight (tt, tt))
        go (some t) g once st h free e = grown_tight t st tag bytes g once h ample free a d e

    -- without a held one
    pub left_tight : (d : Option (Tree Held)) → WithoutFrom f s.tree tag d → TightIn (store_of d)
    left_tight d = go s.tree s.good s.once (sound_state s) (tight_store s tight)
      where
        go : (o : Option (Tree Held)) → Sane o → OnceOf o → Shows o → TightIn (store_of o) → WithoutFrom f o tag d → TightIn (store_of d)
        go none g once st h e = absurd e
        go (some t) g once st h e = without_tight t st tag bytes g once h ample d e

    -- with another total
    pub over_tight : (total : ℕ) (d : Option (Tree Held)) → AlteredFrom s.tree tag total d → TightIn (store_of d)
    over_tight total d = go s.tree s.good s.once (sound_state s) (tight_store s tight)
      where
        go : (o : Option (Tree Held)) → Sane o → OnceOf o → Shows o → TightIn (store_of o) → AlteredFrom o tag total d → TightIn (store_of d)
        go none g once st h e = absurd e
        go (some t) g once st h e = altered_tight t st tag bytes g once h ample total d e
