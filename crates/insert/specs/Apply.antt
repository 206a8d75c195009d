-- The words and key bytes that a plan makes, and what must hold for it.
use Rattle.std.specs.Prelude.{ℕ, ◌+◌, ◌≤◌, ◌<◌, ◌^◌, ◌≡◌, ◌≢◌, List, true, length, get_or}
use Rattle.points.specs.There.{Up, InnerFitsAt, UpThere}
use Rattle.lists.specs.Part.{between}
use Rattle.prefix.specs.Run.{prefix_of, split_of}
use Rattle.frames.specs.Frame.{count_word}
use Rattle.frames.specs.Place.{place_at, in_pool, record_at}
use Rattle.frames.specs.declared.frame.Frame.{Frame}
use Rattle.records.specs.Own.{prefix_at}
use Rattle.art.specs.Stores.{Place, leaf_place, inner_place}
use Rattle.art.specs.Chain.{leaf_ref}
use Rattle.edits.specs.declared.representation.Change.TheVariants as change
use Rattle.pools.specs.Link.{LeafOrEnd, set_trailer}
use Rattle.tree.specs.Seen.{tag_at, LeafSeen}
use Rattle.writes.specs.At.{change_at, prefixed_at, branch_at, move_at, clear_at, Roomy, InnerPoolAt, Moves}
use Rattle.writes.specs.Leaf.{leaf_in}
use Rattle.writes.specs.Above.{link_up}
use Rattle.insert.specs.declared.plan.Site.{Site}
use Rattle.insert.specs.declared.plan.Site.TheVariants.{Root, Add, Grow, Fork}
use Rattle.writes.specs.declared.leaf_node.Gap.{Gap}

-- ── the tree ──
-- a record below a new branching keeps what is left of its prefix; a leaf has none
abbrev pub cut_at : Frame → Place → (c : ℕ) (t : List ℕ) (d : ℕ) → List ℕ → List ℕ
cut_at f (leaf_place n) c t d words = words
cut_at f (inner_place k n) c t d words =
    prefixed_at f (inner_place k n) (split_of (prefix_at f.form (record_at f words (inner_place k n))) (c + 1) t d) words

-- a full record moved to another, which takes the new child; the old one is freed
unfoldable pub grown : Frame → (old new : Place) (byte leaf : ℕ) → List ℕ → List ℕ
grown f old new byte leaf words = clear_at f old (change_at f new byte (change.Add leaf) (move_at f old new words))

-- a branching where the tag and t, a tag below, part: depth d, and c bytes on
unfoldable pub forked : Frame → (below new : ℕ) (tag t : List ℕ) (d c leaf : ℕ) → List ℕ → List ℕ
forked f below new tag t d c leaf words =
    branch_at f (place_at new) (prefix_of (between tag d (d + c))) (get_or tag (d + c) 0) leaf (get_or t (d + c) 0) below (cut_at f (place_at below) c t d words)

-- the tree with the new leaf, by the site; leaf is the reference to it
unfoldable pub hung : Frame → (keys tag : List ℕ) → Site → ℕ → List ℕ → List ℕ
hung f keys tag Root leaf words = set_trailer 11 leaf words
hung f keys tag (Add ref byte) leaf words = change_at f (place_at ref) byte (change.Add leaf) words
hung f keys tag (Grow up old new byte) leaf words = link_up f up new (grown f (place_at old) (place_at new) byte leaf words)
hung f keys tag (Fork up below new witness d c) leaf words = link_up f up new (forked f below new tag (tag_at f words keys witness) d c leaf words)

-- ── all of it: the tree, the list and the leaf, the tag count ──
-- leaf n hung into the tree, written and linked between its neighbours, and one tag more counted
unfoldable pub new_words : Frame → (keys tag : List ℕ) (total : ℕ) → Site → ℕ → Gap → List ℕ → List ℕ
new_words f keys tag total site n gap words =
    set_trailer 14 (count_word words + 1) (leaf_in f n (length tag) gap.previous gap.next total (hung f keys tag site (leaf_ref n) words))

-- ── what must hold ──
-- a record that obeys its rule, with a prefix longer than the c bytes that agree of it; the tag t is long enough for all of it from depth d on
pub record CutReady (f : Frame) (words : List ℕ) (k n c : ℕ) (t : List ℕ) (d : ℕ) : Type 0 where
  pub here : InnerFitsAt f words (inner_place k n)
  pub inside : c + 1 ≤ (prefix_at f.form (record_at f words (inner_place k n))).full.0
  pub whole : d + (prefix_at f.form (record_at f words (inner_place k n))).full.0 ≤ length t

-- such a record, or a leaf
abbrev pub CutOrLeaf : Frame → List ℕ → Place → (c : ℕ) (t : List ℕ) (d : ℕ) → Type 0
CutOrLeaf f words (leaf_place n) c t d = Unit {0}
CutOrLeaf f words (inner_place k n) c t d = CutReady f words k n c t d

-- a new branching: the witness obeys its rule, the tag and its tag part within both, what is below can be cut, the new place is an inner record's, the record above has its child
pub record ForkReady (f : Frame) (words keys tag : List ℕ) (up : Up) (below new witness d c leaf : ℕ) : Type 0 where
  pub seen : LeafSeen f words keys witness
  pub inside : d + c < length tag
  pub inside_leaf : d + c < length (tag_at f words keys witness)
  pub parts : get_or tag (d + c) 0 ≢ get_or (tag_at f words keys witness) (d + c) 0
  pub below_pool : in_pool f (place_at below) ≡ true
  pub cut : CutOrLeaf f words (place_at below) c (tag_at f words keys witness) d
  pub to : InnerPoolAt f (place_at new)
  pub above : UpThere f (forked f below new tag (tag_at f words keys witness) d c leaf words) up

-- a move into a record with room for one child more; the record above has its child
pub record GrowReady (f : Frame) (words : List ℕ) (up : Up) (old new byte leaf : ℕ) : Type 0 where
  pub moves : Moves f words (place_at old) (place_at new)
  pub room : Roomy f (move_at f (place_at old) (place_at new) words) (place_at new)
  pub above : UpThere f (grown f (place_at old) (place_at new) byte leaf words) up

-- by the site: a record that takes the child in place has room for it, and a new root needs nothing
abbrev pub SiteReady : Frame → (words keys tag : List ℕ) → Site → ℕ → Type 0
SiteReady f words keys tag Root leaf = Unit {0}
SiteReady f words keys tag (Add ref byte) leaf = Roomy f words (place_at ref)
SiteReady f words keys tag (Grow up old new byte) leaf = GrowReady f words up old new byte leaf
SiteReady f words keys tag (Fork up below new witness d c) leaf = ForkReady f words keys tag up below new witness d c leaf

-- all of it: a leaf of the pool, a tag within the limit, neighbours that are leaves or ends, and a count that a word can hold
pub record NewReady (f : Frame) (words keys tag : List ℕ) (site : Site) (n : ℕ) (gap : Gap) : Type 0 where
  pub site_ready : SiteReady f words keys tag site (leaf_ref n)
  pub pool : in_pool f (leaf_place n) ≡ true
  pub short : length tag ≤ f.form.limit
  pub before : LeafOrEnd f gap.previous
  pub after : LeafOrEnd f gap.next
  pub counted : count_word words + 1 < 2 ^ 32
