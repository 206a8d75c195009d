-- Leaves put into the pool and the list, and taken out.
use Rattle.std.specs.Prelude.{ℕ, List, replicate}
use Rattle.frames.specs.Kind.{leaf_size}
use Rattle.frames.specs.Place.{record_at, put_at, put_key}
use Rattle.frames.specs.declared.frame.Frame.{Frame}
use Rattle.art.specs.Stores.{leaf_place}
use Rattle.lists.specs.Edit.{padded}
use Rattle.pools.specs.Leaf.{leaf_words, set_total}
use Rattle.pools.specs.Link.{set_next, set_previous}
use Rattle.art.specs.Chain.{leaf_ref}

-- leaf n between two neighbours: they name it, and its own words are written
unfoldable pub leaf_in : Frame → (n len previous next total : ℕ) → List ℕ → List ℕ
leaf_in f n len previous next total words =
    put_at f (set_previous f next (leaf_ref n) (set_next f previous (leaf_ref n) words)) (leaf_place n) (leaf_words len previous next total)

-- its key bytes
unfoldable pub key_in : Frame → ℕ → List ℕ → List ℕ → List ℕ
key_in f n tag keys = put_key f keys n (padded f.form.limit tag)

-- leaf n taken out from between its neighbours, and cleared
unfoldable pub leaf_out : Frame → (n previous next : ℕ) → List ℕ → List ℕ
leaf_out f n previous next words = put_at f (set_previous f next previous (set_next f previous next words)) (leaf_place n) (replicate leaf_size 0)

-- its key bytes, all 0
unfoldable pub key_out : Frame → ℕ → List ℕ → List ℕ
key_out f n keys = put_key f keys n (replicate f.form.limit 0)

-- another total
unfoldable pub total_at : Frame → ℕ → ℕ → List ℕ → List ℕ
total_at f n total words = put_at f words (leaf_place n) (set_total total (record_at f words (leaf_place n)))
