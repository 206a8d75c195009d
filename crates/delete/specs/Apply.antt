-- The words that a plan makes, and what must hold for it.
use Rattle.std.specs.Prelude.{ℕ, ◌-◌, ◌≤◌, ◌<◌, ◌≡◌, List, true}
use Rattle.points.specs.There.{Up, InnerFitsAt, HasChild, UpThere}
use Rattle.prefix.specs.Run.{merge_of}
use Rattle.frames.specs.Frame.{count_word}
use Rattle.frames.specs.Place.{place_at, in_pool, record_at}
use Rattle.frames.specs.declared.frame.Frame.{Frame}
use Rattle.records.specs.Own.{prefix_at}
use Rattle.art.specs.Stores.{Place, leaf_place, inner_place}
use Rattle.edits.specs.declared.representation.Change.TheVariants.{Remove}
use Rattle.pools.specs.Link.{LeafOrEnd, set_trailer}
use Rattle.writes.specs.At.{change_at, prefixed_at, drop_at, clear_at, Drops}
use Rattle.writes.specs.Leaf.{leaf_out}
use Rattle.writes.specs.Above.{link_up}
use Rattle.writes.specs.declared.leaf_node.Gap.{Gap}
use Rattle.delete.specs.declared.plan.Cut.{Cut}
use Rattle.delete.specs.declared.plan.Cut.TheVariants.{Root, Stay, Shrink, Merge}

-- ── the tree ──
-- the one child left takes over the record's prefix and the byte to it; a leaf has no prefix
abbrev pub joined_at : Frame → (x child : Place) (byte : ℕ) → List ℕ → List ℕ
joined_at f x (leaf_place n) byte words = words
joined_at f x (inner_place k n) byte words =
    prefixed_at f (inner_place k n) (merge_of (prefix_at f.form (record_at f words x)) byte (prefix_at f.form (record_at f words (inner_place k n)))) words

-- and the record is freed
unfoldable pub merged : Frame → (x child : Place) (byte : ℕ) → List ℕ → List ℕ
merged f x child byte words = clear_at f x (joined_at f x child byte words)

-- a record moved into another without the child for a byte, and freed
unfoldable pub shrunk : Frame → (old new : Place) (byte : ℕ) → List ℕ → List ℕ
shrunk f old new byte words = clear_at f old (drop_at f old new byte words)

-- the tree without the leaf
unfoldable pub pruned : Frame → Cut → List ℕ → List ℕ
pruned f Root words = set_trailer 11 0 words
pruned f (Stay ref byte) words = change_at f (place_at ref) byte Remove words
pruned f (Shrink upper old new byte) words = link_up f upper new (shrunk f (place_at old) (place_at new) byte words)
pruned f (Merge upper ref child byte) words = link_up f upper child (merged f (place_at ref) (place_at child) byte words)

-- ── all of it: the tree, the list and the leaf, the tag count ──
-- leaf n cut from the tree, its neighbours linked and its record freed, and one tag less counted
unfoldable pub gone_words : Frame → Cut → ℕ → Gap → List ℕ → List ℕ
gone_words f cut n gap words = set_trailer 14 (count_word words - 1) (leaf_out f n gap.previous gap.next (pruned f cut words))

-- ── what must hold ──
-- a leaf, or a record that obeys its rule
abbrev pub JoinReady : Frame → List ℕ → Place → Type 0
JoinReady f words (leaf_place n) = Unit {0}
JoinReady f words (inner_place k n) = InnerFitsAt f words (inner_place k n)

-- for a merge: the record obeys its rule, the child is a leaf or obeys its own, its byte is below 256, and the record above has a child for its byte where it is written
pub record MergeReady (f : Frame) (words : List ℕ) (upper : Up) (ref child byte : ℕ) : Type 0 where
  pub here : InnerFitsAt f words (place_at ref)
  pub child_ready : JoinReady f words (place_at child)
  pub low : byte < 256
  pub above : UpThere f (merged f (place_at ref) (place_at child) byte words) upper

-- for a move: the record has a child for the byte, the other one room for the rest, and the record above is as for a merge
pub record ShrinkReady (f : Frame) (words : List ℕ) (upper : Up) (old new byte : ℕ) : Type 0 where
  pub drops : Drops f words (place_at old) (place_at new) byte
  pub above : UpThere f (shrunk f (place_at old) (place_at new) byte words) upper

-- by the cut: a record that stays has a child for the byte, and a root that goes needs nothing
abbrev pub CutReady : Frame → List ℕ → Cut → Type 0
CutReady f words Root = Unit {0}
CutReady f words (Stay ref byte) = HasChild f words (place_at ref) byte
CutReady f words (Shrink upper old new byte) = ShrinkReady f words upper old new byte
CutReady f words (Merge upper ref child byte) = MergeReady f words upper ref child byte

-- for all of it: the leaf is in the pool, its neighbours are leaves or ends, and the count is not 0
pub record TakeReady (f : Frame) (words : List ℕ) (cut : Cut) (n : ℕ) (gap : Gap) : Type 0 where
  pub cut_ready : CutReady f words cut
  pub pool : in_pool f (leaf_place n) ≡ true
  pub before : LeafOrEnd f gap.previous
  pub after : LeafOrEnd f gap.next
  pub counted : 1 ≤ count_word words
