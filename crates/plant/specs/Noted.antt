-- What a plant wants of a total that is put in.
use Rattle.std.specs.Prelude.{ℕ, ◌≡◌, ◌≢◌, List}
use Rattle.reading.specs.Answers.{Bytes}
use Rattle.demands.specs.Calls.{query, search, run}
use Rattle.demands.specs.Told.{told_by}
use Rattle.directory_c.specs.Numbers.{lent_two, found_as}
use Rattle.directory_c.specs.declared.DirectoryChanged.{DirectoryChanged}
use Rattle.directory_c.specs.declared.DirectoryFound.{DirectoryFound}

-- what a search for a tag gives
abbrev pub look : (words keys tag : List ℕ) → DirectoryFound
look words keys tag = found_as (told_by (run (query (search tag)) (lent_two words keys)).answer)

-- r came back, and these words and key bytes are left; whatever the memory held before
pub record Noted (words keys tag : List ℕ) (total : ℕ) (r : DirectoryChanged) (words' keys' : List ℕ) : Type 0 where
  -- where it was done, a search for the tag gives that total
  pub read_back : r.number ≡ 0 → (leaf : ℕ) × (look words' keys' tag ≡ record { number = 0; leaf = leaf; total = total })
  -- a search for any other tag gives what it gave before
  pub others : (t : List ℕ) → Bytes t → t ≢ tag → look words' keys' t ≡ look words keys t
  -- where it was refused, no byte has changed
  pub kept : r.number ≢ 0 → (words' ≡ words) × (keys' ≡ keys)
