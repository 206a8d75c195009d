-- References and the places that they name.
use Rattle.std.specs.Prelude.{ℕ, ◌+◌, ◌*◌, ◌/◌, ◌%◌, List, Bool, ◌&&◌, get_or, eqb, leb, ltb}
use Rattle.lists.specs.Scan.{choose}
use Rattle.lists.specs.Part.{between, splice}
use Rattle.frames.specs.Kind.{leaf_size}
use Rattle.frames.specs.Form.{record_words}
use Rattle.frames.specs.declared.frame.Frame.{Frame}
use Rattle.art.specs.Stores.{Place, leaf_place, inner_place}

-- a reference is 8 × number + kind, leaves being kind 5
abbrev pub place_at : ℕ → Place
place_at ref = choose (eqb (ref % 8) 5) (leaf_place (ref / 8)) (inner_place (ref % 8) (ref / 8))

-- the reference that names a place, by the same rule
abbrev pub ref_of : Place → ℕ
ref_of (leaf_place n) = n * 8 + 5
ref_of (inner_place k n) = n * 8 + k

-- a place's pool, leaves being kind 5
abbrev pub kind_at : Place → ℕ
kind_at (leaf_place n) = 5
kind_at (inner_place k n) = k

-- its number there
abbrev pub number_at : Place → ℕ
number_at (leaf_place n) = n
number_at (inner_place k n) = n

-- a pool has the place
abbrev pub in_pool : Frame → Place → Bool
in_pool f (leaf_place n) = ltb n (get_or f.caps 5 0)
in_pool f (inner_place k n) = leb k 4 && ltb n (get_or f.caps k 0)

-- the first word of the record at a place
abbrev pub start_at : Frame → Place → ℕ
start_at f (leaf_place n) = get_or f.starts 5 0 + n * get_or f.sizes 5 0
start_at f (inner_place k n) = get_or f.starts k 0 + n * get_or f.sizes k 0

-- how many words it has
abbrev pub size_at : Frame → Place → ℕ
size_at f (leaf_place n) = leaf_size
size_at f (inner_place k n) = record_words f.form k

-- those words
abbrev pub record_at : Frame → List ℕ → Place → List ℕ
record_at f words x = between words (start_at f x) (start_at f x + size_at f x)

-- a leaf's key bytes
abbrev pub key_at : Frame → List ℕ → ℕ → List ℕ
key_at f keys n = between keys (n * f.form.limit) (n * f.form.limit + f.form.limit)

-- the words with others in the place of a record
abbrev pub put_at : Frame → List ℕ → Place → List ℕ → List ℕ
put_at f words x rec = splice words (start_at f x) (start_at f x + size_at f x) rec

-- the key bytes with others in the place of a leaf's
abbrev pub put_key : Frame → List ℕ → ℕ → List ℕ → List ℕ
put_key f keys n key = splice keys (n * f.form.limit) (n * f.form.limit + f.form.limit) key
