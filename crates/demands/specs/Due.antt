-- The numbers given back, a table by class of call, then by call: each row has its condition, and that none earlier applies. What a call tells on a sound
-- block, past the whole check, is in `Listed`.
use Rattle.std.specs.Prelude.{ℕ, ◌≡◌, ◌≢◌, List, Bool, true, false, ◌&&◌, length, eqb}
use Rattle.frames.specs.Frame.{frame_fits, frame}
use Rattle.frames.specs.Place.{place_at, in_pool, record_at}
use Rattle.frames.specs.declared.frame.Caps.{Caps}
use Rattle.records.specs.Words.{used_as, next_leaf_word}
use Rattle.records.specs.View.{rule_at}
use Rattle.art.specs.Tags.{Tag}
use Rattle.art.specs.Stores.{Place, leaf_place, inner_place}
use Rattle.pools.specs.Start.{start_fits_in}
use Rattle.tree.specs.declared.lookup.Aim.TheVariants.{Exact, Begin}
use Rattle.tree.specs.declared.minmax.Edge.TheVariants.{Low, High}
use Rattle.whole.specs.Sound.{Sound}
use Rattle.insert.specs.Insert.{too_long}
use Rattle.demands.specs.Calls.{Query, search, prefix_search, minimum, maximum, next_leaf, leaf_facts, leaf_tag, insert, Call, start, query, edit, Slices, checks}
use Rattle.demands.specs.Told.{Told}
use Rattle.demands.specs.Listed.{Enough, Listed}
use Rattle.demands.specs.Way.{Gives, Ends}

-- ── the frame ──
-- it fits; 6 where it does not
abbrev pub framed : Slices → Bool
framed s = frame_fits s.words s.keys

-- ── a leaf number ──
-- the words of a leaf
abbrev pub leaf_at : Slices → ℕ → List ℕ
leaf_at s n = record_at (frame s.words) s.words (leaf_place n)

-- the frame fits, and has a leaf of that number, which is not free
abbrev pub InUse : Slices → ℕ → Type 0
InUse s n = (framed s ≡ true) × (in_pool (frame s.words) (leaf_place n) ≡ true) × (used_as (leaf_at s n) ≢ 0)

-- it obeys its own rule
abbrev pub obeys : Slices → ℕ → Bool
obeys s n = rule_at (frame s.words) s.words s.keys (leaf_place n)

-- a leaf of the pool whose word says that it is in use
abbrev pub names_leaf : Slices → Place → Bool
names_leaf s (leaf_place n) = in_pool (frame s.words) (leaf_place n) && eqb (used_as (leaf_at s n)) 1
names_leaf s (inner_place k n) = false

-- a query that gives a number for a leaf number
pub data OnLeaf : Query → ℕ → Type 0 where
  of_next : (n : ℕ) → OnLeaf (next_leaf n) n
  of_facts : (n : ℕ) → OnLeaf (leaf_facts n) n

-- ── the table ──
-- the number that is due for a call on what is lent to it
pub data Due : Call → Slices → ℕ → Type 0 where
  -- start: 8 where there is no such form, or a capacity or a length does not fit, else 0
  start_refused : {form : ℕ} {c : Caps} {s : Slices} → start_fits_in form c (length s.words) (length s.keys) ≡ false → Due (start form c) s 8
  start_done : {form : ℕ} {c : Caps} {s : Slices} → start_fits_in form c (length s.words) (length s.keys) ≡ true → Due (start form c) s 0
  -- every query but the one that gives a tag: 6 for the frame
  query_unframed : {q : Query} {s : Slices} → ((n : ℕ) → q ≢ leaf_tag n) → framed s ≡ false → Due (query q) s 6
  -- the two searches and the two ends: by what the walk meets
  search_walked : {t : Tag} {s : Slices} {n : ℕ} → framed s ≡ true → Gives (frame s.words) s.words s.keys t Exact n → Due (query (search t)) s n
  prefix_walked : {t : Tag} {s : Slices} {n : ℕ} → framed s ≡ true → Gives (frame s.words) s.words s.keys t Begin n → Due (query (prefix_search t)) s n
  minimum_walked : {s : Slices} {n : ℕ} → framed s ≡ true → Ends (frame s.words) s.words s.keys Low n → Due (query minimum) s n
  maximum_walked : {s : Slices} {n : ℕ} → framed s ≡ true → Ends (frame s.words) s.words s.keys High n → Due (query maximum) s n
  -- the call that gives a tag: no number, for which 0 stands
  tag_given : {n : ℕ} {s : Slices} → Due (query (leaf_tag n)) s 0
  -- a leaf number: 9 for the number, then 6 for the leaf, then by the leaf that follows
  leaf_absent : {q : Query} {n : ℕ} {s : Slices} → OnLeaf q n → framed s ≡ true → ¬ InUse s n → Due (query q) s 9
  leaf_broken : {q : Query} {n : ℕ} {s : Slices} → OnLeaf q n → InUse s n → obeys s n ≡ false → Due (query q) s 6
  next_end : {n : ℕ} {s : Slices} → InUse s n → obeys s n ≡ true → next_leaf_word (leaf_at s n) ≡ 0 → Due (query (next_leaf n)) s 1
  next_unnamed : {n : ℕ} {s : Slices} → InUse s n → obeys s n ≡ true → next_leaf_word (leaf_at s n) ≢ 0 → names_leaf s (place_at (next_leaf_word (leaf_at s n))) ≡ false → Due (query (next_leaf n)) s 6
  next_done : {n : ℕ} {s : Slices} → InUse s n → obeys s n ≡ true → next_leaf_word (leaf_at s n) ≢ 0 → names_leaf s (place_at (next_leaf_word (leaf_at s n))) ≡ true → Due (query (next_leaf n)) s 0
  facts_done : {n : ℕ} {s : Slices} → InUse s n → obeys s n ≡ true → Due (query (leaf_facts n)) s 0
  -- insert: 2 before all else
  insert_long : {t : Tag} {total : ℕ} {s : Slices} → too_long s.words s.keys t ≡ true → Due (edit (insert t total)) s 2
  -- every call that gets to the check: 6 for the frame, 7, 6 for the block; past it the number that the sorted list has
  checked_unframed : {c : Call} {s : Slices} → checks c s ≡ true → framed s ≡ false → Due c s 6
  checked_short : {c : Call} {s : Slices} → checks c s ≡ true → framed s ≡ true → ¬ Enough s → Due c s 7
  checked_unsound : {c : Call} {s : Slices} → checks c s ≡ true → framed s ≡ true → Enough s → ¬ Sound s.words s.keys → Due c s 6
  checked_listed : {c : Call} {s : Slices} → checks c s ≡ true → Enough s → (z : Sound s.words s.keys) (a : Told) → Listed z c a → Due c s a.number
