-- What a used cell says of the record behind it.
use Rattle.std.specs.Prelude.{ℕ, ◌≤◌, ◌≡◌, ◌≢◌, List, true, length, take}
use Rattle.prefix.specs.Run.{capped, held}
use Rattle.frames.specs.Kind.{children_of}
use Rattle.records.specs.Words.{child_count, full_length, tag_length}
use Rattle.records.specs.Own.{prefix_at, InnerFits, total_of}
use Rattle.frames.specs.Place.{in_pool, record_at, key_at}
use Rattle.records.specs.Row.{row_at}
use Rattle.records.specs.View.{Held, places}
use Rattle.frames.specs.declared.frame.Frame.{Frame}
use Rattle.art.specs.Stores.{Place, leaf_place, inner_place}
use Rattle.lists.specs.Edit.{padded}
use Rattle.view.specs.Cells.{word_zero}

-- leaf n shows this tag, and holds this
pub record LeafShows (f : Frame) (words keys : List ℕ) (n : ℕ) (tag : List ℕ) (a : Held) : Type 0 where
  pub pool : in_pool f (leaf_place n) ≡ true
  pub used : word_zero f words (leaf_place n) ≢ 0
  pub tag_is : tag ≡ take (tag_length (record_at f words (leaf_place n))) (key_at f keys n)
  pub number_is : a.number ≡ n
  pub total_is : a.total ≡ total_of (record_at f words (leaf_place n))

-- the inner record of this kind and number shows this length, these stored bytes and this row
pub record InnerShows (f : Frame) (words : List ℕ) (k n len : ℕ) (stored : List ℕ) (refs : List (ℕ × Place)) : Type 0 where
  pub pool : in_pool f (inner_place k n) ≡ true
  pub used : word_zero f words (inner_place k n) ≢ 0
  pub len_is : len ≡ full_length (record_at f words (inner_place k n))
  pub stored_is : stored ≡ held (prefix_at f.form (record_at f words (inner_place k n)))
  pub refs_are : refs ≡ places (row_at f.form k (record_at f words (inner_place k n)))

-- and where it obeys its rule: its length is the tag's, and its key bytes are the tag and 0 after it
pub record LeafObeys (f : Frame) (words keys : List ℕ) (n : ℕ) (tag : List ℕ) : Type 0 where
  pub short : length tag ≤ f.form.limit
  pub in_use : word_zero f words (leaf_place n) ≡ 1
  pub len_is : tag_length (record_at f words (leaf_place n)) ≡ length tag
  pub key_is : key_at f keys n ≡ padded f.form.limit tag

-- the child count is the row's length, and the stored bytes are eight, or as many as the length says
pub record InnerObeys (f : Frame) (words : List ℕ) (k n len : ℕ) (stored : List ℕ) (refs : List (ℕ × Place)) : Type 0 where
  pub fits : InnerFits f.form k (record_at f words (inner_place k n))
  pub kind_is : word_zero f words (inner_place k n) ≡ k
  pub count_is : child_count (record_at f words (inner_place k n)) ≡ length refs
  pub two : 2 ≤ length refs
  pub few : length refs ≤ children_of k
  pub short : len ≤ f.form.limit
  pub stored_long : length stored ≡ capped len
