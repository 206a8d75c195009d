-- A call on a store: the writes that it makes, by the point of its tag, and the root afterwards.
use Rattle.std.proofs.Math.Option.{Option, none, some}
use Rattle.std.specs.Prelude.{[], ◌∷◌, ℕ, ◌<◌}
use Rattle.art.specs.Tags.{Tag}
use Rattle.art.specs.Trees.{Tree}
use Rattle.art.specs.Changes.{Plan}
use Rattle.art.specs.Facts.{Call, insert, delete, height}
use Rattle.art.specs.Stores.{Place, leaf_place, Store, Edits, Once, Fresh, new_leaf}
use Rattle.art.specs.Drops.{Roomy}
use Rattle.art.specs.Points.{Point, holds, clashes, into, fork, broken, point, insert_at, insert_root, delete_at, delete_root, alter_at}

-- the root after an insert
abbrev pub room_root : Option Plan → Point → Place → Place
room_root none pt old = old
room_root (some pl) pt old = insert_root pl pt old

module _ {A : Type 0} where
  -- the tag that a call is given
  abbrev pub call_tag : Call A → Tag
  call_tag (insert s a g room) = s
  call_tag (delete s hm) = s

  -- a new tag goes in where there is room for it
  abbrev pub room_edits : Store A → Tag → A → Option Plan → Point → Edits A
  room_edits σ s a none pt = []
  room_edits σ s a (some pl) pt = insert_at σ pl s a pt

  -- an insert writes over a held tag, refuses a clashing one and puts in a free one
  abbrev pub insert_edits : Store A → Tag → A → (A → A) → Option Plan → Point → Edits A
  insert_edits σ s a g room (holds upper up n) = alter_at σ g (holds upper up n)
  insert_edits σ s a g room clashes = []
  insert_edits σ s a g room (into up k n x) = room_edits σ s a room (into up k n x)
  insert_edits σ s a g room (fork up y w d c) = room_edits σ s a room (fork up y w d c)
  insert_edits σ s a g room broken = []

  -- the writes at the point of a call's tag: those of an insert, or of leaving the tag out
  abbrev pub point_edits : Store A → Call A → Point → Edits A
  point_edits σ (insert s a g room) pt = insert_edits σ s a g room pt
  point_edits σ (delete s hm) pt = delete_at σ hm pt

  -- with no root there is nothing but a first leaf to write
  abbrev pub first_edits : Call A → Edits A
  first_edits (insert s a g none) = []
  first_edits (insert s a g (some pl)) = new_leaf pl s a ∷ []
  first_edits (delete s hm) = []

  -- the writes of a call on the store with this root
  abbrev pub call_edits : ℕ → Store A → Option Place → Call A → Edits A
  call_edits f σ none c = first_edits c
  call_edits f σ (some x) c = point_edits σ c (point f σ x (call_tag c))

  -- the root after a call at the point of its tag; after a delete there may be none
  abbrev pub point_root : Store A → Call A → Point → Place → Option Place
  point_root σ (insert s a g room) pt old = some (room_root room pt old)
  point_root σ (delete s hm) pt old = delete_root σ hm pt old

  -- with no root before, a new leaf becomes the root; a delete, or an insert with no room, leaves none
  abbrev pub first_root : Call A → Option Place
  first_root (insert s a g none) = none
  first_root (insert s a g (some pl)) = some (leaf_place pl.leaf_number)
  first_root (delete s hm) = none

  -- the root afterwards
  abbrev pub call_root : ℕ → Store A → Option Place → Call A → Option Place
  call_root f σ none c = first_root c
  call_root f σ (some x) c = point_root σ c (point f σ x (call_tag c)) x

  -- ── what is asked of a directory and of the places that a call may take ──
  -- the records that an insert may take are free
  abbrev pub RoomFresh : Option Plan → Store A → Type 0
  RoomFresh none σ = Unit {0}
  RoomFresh (some pl) σ = Fresh pl σ

  -- and so are those that a call may take
  abbrev pub CallFresh : Call A → Store A → Type 0
  CallFresh (insert s a g room) σ = RoomFresh room σ
  CallFresh (delete s hm) σ = Roomy hm σ

  -- no place stands twice in it
  abbrev pub OnceOf : Option (Tree A) → Type 0
  OnceOf none = Unit {0}
  OnceOf (some t) = Once t []

  -- and no path in it is as long as that
  abbrev pub Low : Option (Tree A) → ℕ → Type 0
  Low none f = Unit {0}
  Low (some t) f = height t < f
