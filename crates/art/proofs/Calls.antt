-- A call's writes on the store of a directory make the store of what the call makes of the directory.
use mathlib.Core.Path.{◌≡◌, refl, sym, ap, subst, ◌∙◌}
use mathlib.Core.Logic.{inl}
use mathlib.Core.Bool.{Bool, true, false}
use mathlib.Core.Option.{Option, none, some}
use mathlib.Core.List.{[]}
use Prim.Native.Nat.{ℕ, ◌<◌}
use native.Mathlib.Omega.{arith}
use Rattle.art.specs.Tags.{Tag}
use Rattle.art.specs.Trees.{Tree, Good}
use Rattle.art.specs.Changes.{Plan, grow}
use Rattle.art.specs.Deletes.{stay, Sane, change, lost, prune, drop_whole}
use Rattle.art.specs.Verdicts.{Verdict, known, clash, free, judge_tree}
use Rattle.art.specs.Facts.{Call, insert, delete, height, insert_tree, grow_room, step}
use Rattle.art.specs.Stores.{Store, apply, root, store, Once}
use Rattle.art.specs.Points.{Point, holds, clashes, into, fork, broken, point, point_verdict, insert_at, insert_root, alter_at, store_of, root_of}
use Rattle.art.specs.Calls.{insert_edits, room_edits, call_edits, room_root, call_root, RoomFresh, CallFresh, OnceOf, Low}
use Rattle.art.proofs.ReadBack.{some_inj}
use Rattle.art.proofs.Verdicts.{judge_is}
use Rattle.art.proofs.Stores.{once_grow}
use Rattle.art.proofs.Walks.{store_shows}
use Rattle.art.proofs.Drops.{drops_done}
use Rattle.art.proofs.InsertPoints.{point_judges, insert_makes, insert_moves}
use Rattle.art.proofs.DeletePoints.{delete_makes, delete_moves}
use Rattle.art.proofs.AlterPoints.{alter_whole, alter_makes, alter_moves}

module _ {A : Type 0} where
  -- ── an insert, by the verdict on its tag ──
  insert_by_lem : (t : Tree A) (s : Tag) (a : A) (g : A → A) (room : Option Plan) (pt : Point) → apply (store t []) (alter_at (store t []) g pt) ≡ store_of (change t (λ x. some (g x)) stay s)
      → ((pl : Plan) → room ≡ some pl → apply (store t []) (insert_at (store t []) pl s a pt) ≡ store (grow t pl s a) []) → (v : Verdict) → point_verdict pt ≡ some v
      → apply (store t []) (insert_edits (store t []) s a g room pt) ≡ store_of (insert_tree v t s a g room)
  insert_by_lem t s a g room pt over new v e = go pt over new e
    where
      σ : Store A
      σ = store t []

      end : Verdict → Store A
      end w = store_of (insert_tree w t s a g room)

      place : (pt : Point) (room : Option Plan) → ((pl : Plan) → room ≡ some pl → apply σ (insert_at σ pl s a pt) ≡ store (grow t pl s a) []) → apply σ (room_edits σ s a room pt) ≡ store_of (grow_room t s a room)
      place pt none h = refl
      place pt (some pl) h = h pl refl

      go : (pt : Point) → apply σ (alter_at σ g pt) ≡ store_of (change t (λ x. some (g x)) stay s) → ((pl : Plan) → room ≡ some pl → apply σ (insert_at σ pl s a pt) ≡ store (grow t pl s a) [])
          → point_verdict pt ≡ some v → apply σ (insert_edits σ s a g room pt) ≡ end v
      go (holds upper up n) h k i = h ∙ ap end (some_inj i)
      go clashes h k i = ap end (some_inj i)
      go (into up m n x) h k i = place (into up m n x) room k ∙ ap end (some_inj i)
      go (fork up y w d c) h k i = place (fork up y w d c) room k ∙ ap end (some_inj i)
      go broken h k i = let z : ◌≡◌ {A = ℕ} 0 1 = cc in absurd (omega arith)

  fresh_of : (room : Option Plan) (σ : Store A) → RoomFresh room σ → (pl : Plan) → room ≡ some pl → RoomFresh (some pl) σ
  fresh_of room σ h pl e = subst (λ (r : Option Plan). RoomFresh r σ) e h

  verdict_of : (f : ℕ) (t : Tree A) → Good t → Once t [] → height t < f → (s : Tag) → point_verdict (point f (store t []) (root t) s) ≡ some (judge_tree t s)
  verdict_of f t g o l s = point_judges f (store t []) t g (store_shows t [] o) l s ∙ ap some (sym (judge_is t g s))

  -- the writes of a call on a directory's store make the store of the directory after the call
  pub call_makes : (f : ℕ) (o : Option (Tree A)) → Sane o → OnceOf o → Low o f → (c : Call A) → CallFresh c (store_of o)
      → apply (store_of o) (call_edits f (store_of o) (root_of o) c) ≡ store_of (step o c)
  call_makes f none g o l (insert s a h none) w = refl
  call_makes f none g o l (insert s a h (some pl)) w = refl
  call_makes f none g o l (delete s hm) w = refl
  call_makes f (some t) g o l (insert s a h room) w =
      insert_by_lem t s a h room (point f (store t []) (root t) s) (alter_makes f t g o l h stay s)
      (λ pl e. insert_makes f t g o l pl (fresh_of room (store t []) w pl e) s a) (judge_tree t s) (verdict_of f t g o l s)
  call_makes f (some t) g o l (delete s hm) w = delete_makes f t g o l hm w s

  -- and the root that it says is the root of that directory
  insert_root_by : (t : Tree A) (s : Tag) (a : A) (g : A → A) (room : Option Plan) (pt : Point) → ((pl : Plan) → insert_root pl pt (root t) ≡ root (grow t pl s a)) → (v : Verdict) → point_verdict pt ≡ some v
      → some (room_root room pt (root t)) ≡ root_of (insert_tree v t s a g room)
  insert_root_by t s a g room pt new v e = go pt new room e
    where
      place : (pt : Point) (room : Option Plan) → ((pl : Plan) → insert_root pl pt (root t) ≡ root (grow t pl s a)) → some (room_root room pt (root t)) ≡ root_of (grow_room t s a room)
      place pt none h = refl
      place pt (some pl) h = ap some (h pl)

      old : (room : Option Plan) (pt : Point) → ((pl : Plan) → insert_root pl pt (root t) ≡ root t) → some (room_root room pt (root t)) ≡ some (root t)
      old none pt h = refl
      old (some pl) pt h = ap some (h pl)

      go : (pt : Point) → ((pl : Plan) → insert_root pl pt (root t) ≡ root (grow t pl s a)) → (room : Option Plan) → point_verdict pt ≡ some v → some (room_root room pt (root t)) ≡ root_of (insert_tree v t s a g room)
      go (holds upper up n) h room i = old room (holds upper up n) (λ pl. refl) ∙ sym (alter_moves t g stay s) ∙ ap (λ (w : Verdict). root_of (insert_tree w t s a g room)) (some_inj i)
      go clashes h room i = old room clashes (λ pl. refl) ∙ ap (λ (w : Verdict). root_of (insert_tree w t s a g room)) (some_inj i)
      go (into up m n x) h room i = place (into up m n x) room h ∙ ap (λ (w : Verdict). root_of (insert_tree w t s a g room)) (some_inj i)
      go (fork up y w d c) h room i = place (fork up y w d c) room h ∙ ap (λ (w : Verdict). root_of (insert_tree w t s a g room)) (some_inj i)
      go broken h room i = let z : ◌≡◌ {A = ℕ} 0 1 = cc in absurd (omega arith)

  -- and the root that the call says is that directory's
  pub call_moves : (f : ℕ) (o : Option (Tree A)) → Sane o → OnceOf o → Low o f → (c : Call A) → call_root f (store_of o) (root_of o) c ≡ root_of (step o c)
  call_moves f none g o l (insert s a h none) = refl
  call_moves f none g o l (insert s a h (some pl)) = refl
  call_moves f none g o l (delete s hm) = refl
  call_moves f (some t) g o l (insert s a h room) =
      insert_root_by t s a h room (point f (store t []) (root t) s) (λ pl. insert_moves f (store t []) t g (store_shows t [] o) l pl s a) (judge_tree t s) (verdict_of f t g o l s)
  call_moves f (some t) g o l (delete s hm) = delete_moves f (store t []) t g (store_shows t [] o) l hm s

  -- and no place stands twice in it
  pub call_once : (o : Option (Tree A)) → OnceOf o → (c : Call A) → CallFresh c (store_of o) → OnceOf (step o c)
  call_once none o (insert s a h none) w = tt
  call_once none o (insert s a h (some pl)) w = tt
  call_once none o (delete s hm) w = tt
  call_once (some t) o (insert s a h room) w = go (judge_tree t s) room w
    where
      altered : OnceOf (change t (λ x. some (h x)) stay s)
      altered =
          subst (λ (b : Bool). OnceOf (drop_whole b (prune t (λ x. some (h x)) stay s))) (sym (alter_whole h t s)) (drops_done t (λ x. some (h x)) stay [] s o (λ k n l. inl refl)).once

      go : (v : Verdict) (room : Option Plan) → RoomFresh room (store t []) → OnceOf (insert_tree v t s a h room)
      go known room w = altered
      go clash room w = o
      go free none w = o
      go free (some pl) w = once_grow t pl [] s a o w
  call_once (some t) o (delete s hm) w = go (lost (λ x. none) t s)
    where
      go : (b : Bool) → OnceOf (drop_whole b (prune t (λ x. none) hm s))
      go true = tt
      go false = (drops_done t (λ x. none) hm [] s o w).once
