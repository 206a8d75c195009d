-- What a call tells on a sound block by the sorted list of tags, leaf numbers and totals.
use Rattle.std.specs.Prelude.{ℕ, ◌^◌, ◌/◌, ◌%◌, ◌≤◌, ◌≡◌, List, ◌∷◌, ◌++◌, true, false, length, get_or}
use Rattle.std.proofs.Math.Option.{Option, none, some}
use Rattle.frames.specs.Frame.{frame}
use Rattle.records.specs.View.{Held}
use Rattle.art.specs.Tags.{Tag, Listing}
use Rattle.art.specs.Listings.{lookup, lookup_begun, Clashes, begun_with, added_up}
use Rattle.art.specs.Members.{In}
use Rattle.art.specs.Deletes.{held}
use Rattle.art.specs.Orders.{first_of, last_of, after}
use Rattle.reading.specs.Calls.{Free}
use Rattle.reading.specs.Listing.{totals}
use Rattle.whole.specs.Marks.{places_in}
use Rattle.whole.specs.Sound.{Sound}
use Rattle.insert.specs.Room.{Lacking}
use Rattle.insert.specs.Insert.{too_long}
use Rattle.demands.specs.Calls as calls
use Rattle.demands.specs.Calls.{Call, Slices, checks}
use Rattle.demands.specs.Told.{Told, only, with_total, with_count, with_carries, with_leaf, with_length, with_tag}

-- what a sound block holds
abbrev pub holds : {words keys : List ℕ} → Sound words keys → Listing Held
holds s = held s.tree

-- every leaf of a sound block has a tag
abbrev pub Full : {words keys : List ℕ} → Sound words keys → Type 0
Full {words} s = length (holds s) ≡ get_or (frame words).caps 5 0

-- there is a byte of scratch for each record
abbrev pub Enough : Slices → Type 0
Enough s = places_in (frame s.words) ≤ length s.scratch

-- where a call gets to the whole check, there is enough
abbrev pub Suffices : Call → Slices → Type 0
Suffices c s = checks c s ≡ true → Enough s

-- 0 with the leaf and the total of what is held, or 1
abbrev pub finds : Option Held → Told
finds none = only 1
finds (some h) = with_leaf h.number (with_total h.total (only 0))

-- the same without its leaf
abbrev pub takes : Option Held → Told
takes o = with_leaf 0 (finds o)

-- 0 with how many there are, and the sum of their totals: its part below 2 ^ 64 as the total, and how often 2 ^ 64 is in it as the carries
abbrev pub adds : Listing ℕ → Told
adds l = with_count (length l) (with_carries (added_up l / 2 ^ 64) (with_total (added_up l % 2 ^ 64) (only 0)))

-- insert of a tag that is not too long: the old total of a held one; 3 for one that begins a held tag or is begun by one; any other goes in, but for 4 where all leaves have tags, and 5 where the
-- record that it wants is not to be had
pub record InsertsListed {words keys : List ℕ} (s : Sound words keys) (t : Tag) (a : Told) : Type 0 where
  pub over : (h : Held) → lookup t (holds s) ≡ some h → a ≡ takes (some h)
  pub clashes : lookup t (holds s) ≡ none → Clashes t (holds s) → a ≡ only 3
  pub full : ¬ Clashes t (holds s) → Full s → a ≡ only 4
  pub lacks : ¬ Clashes t (holds s) → ¬ Full s → Lacking (frame words) s.tree t → a ≡ only 5
  pub new : ¬ Clashes t (holds s) → ¬ Full s → ¬ Lacking (frame words) s.tree t → a ≡ only 0

-- searches by what the list finds, minimum and maximum by its ends, next leaf by the entry that follows, the calls on a leaf by its entry; the check finds nothing wrong; first-at-or-after by
-- the first entry that is not below; station total by adding up those that begin with the bytes; insert and delete by what is held for the tag. Start does not ask the list
abbrev pub Listed : {words keys : List ℕ} → Sound words keys → Call → Told → Type 0
Listed s (calls.start form c) a = Unit {0}
Listed s (calls.query (calls.search t)) a = a ≡ finds (lookup t (holds s))
Listed s (calls.query (calls.prefix_search t)) a = a ≡ finds (lookup_begun t (holds s))
Listed s (calls.query calls.minimum) a = a ≡ finds (first_of (holds s))
Listed s (calls.query calls.maximum) a = a ≡ finds (last_of (holds s))
Listed s (calls.query (calls.next_leaf n)) a =
    ((front : Listing Held) (e : Tag × Held) (rest : Listing Held) → holds s ≡ front ++ e ∷ rest → e.1.number ≡ n → a ≡ finds (first_of rest)) × (Free n (holds s) → a ≡ only 9)
Listed s (calls.query (calls.leaf_facts n)) a =
    ((e : Tag × Held) → In e (holds s) → e.1.number ≡ n → a ≡ with_length (length e.0) (with_total e.1.total (only 0))) × (Free n (holds s) → a ≡ only 9)
Listed s (calls.query (calls.leaf_tag n)) a = ((e : Tag × Held) → In e (holds s) → e.1.number ≡ n → a ≡ with_tag e.0 (only 0)) × (Free n (holds s) → a ≡ only 0)
Listed s (calls.ask calls.check) a = a ≡ only 0
Listed s (calls.ask (calls.first_at_or_after t)) a = a ≡ finds (after t (holds s))
Listed s (calls.ask (calls.station_total t)) a = a ≡ adds (begun_with t (totals (holds s)))
Listed {words} {keys} s (calls.edit (calls.insert t total)) a = (too_long words keys t ≡ true → a ≡ only 2) × (too_long words keys t ≡ false → InsertsListed s t a)
Listed s (calls.edit (calls.delete t)) a = a ≡ takes (lookup t (holds s))
