-- Arriving at a record: its reference and its own rule, and how many inner records are left on the path.
use Rattle.std.specs.Prelude.{ℕ, ◌+◌, ◌*◌, ◌≤◌, ◌≡◌, List, Bool, true, ◌&&◌, length, eqb, ltb, Err}
use Rattle.refusals.specs.declared.Refusal.TheVariants.{Damaged, Missing}
use Rattle.tree.specs.Answer.{Found}
use Rattle.lists.specs.Scan.{choose}
use Rattle.lists.specs.Part.{between}
use Rattle.frames.specs.Kind.{leaf_size}
use Rattle.frames.specs.Form.{record_words}
use Rattle.frames.specs.Frame.{frame_fits, frame, root_word}
use Rattle.records.specs.Own.{leaf_ok, InnerFits}
use Rattle.frames.specs.Place.{in_pool, start_at}
use Rattle.records.specs.View.{rule_at}
use Rattle.frames.specs.declared.form.Form.{Form}
use Rattle.frames.specs.declared.frame.Frame.{Frame}
use Rattle.art.specs.Stores.{Place, leaf_place, inner_place}
use Rattle.tree.specs.declared.arrive.Arrival.{Arrival}
use Rattle.tree.specs.declared.arrive.Arrival.TheVariants.{Leaf, Inner, Broken}

-- an inner record is one of those left on the path; a leaf needs none
abbrev pub on_path : ℕ → Place → Bool
on_path left (leaf_place n) = true
on_path left (inner_place k n) = ltb 0 left

-- a leaf's number, or an inner record's kind, with its first word
abbrev pub arrived : Frame → Place → Arrival
arrived f (leaf_place n) = Leaf n (start_at f (leaf_place n))
arrived f (inner_place k n) = Inner k (start_at f (inner_place k n))

-- a place of a pool, where the record obeys its own rule, with so many inner records left
unfoldable pub arrival_at : Frame → List ℕ → List ℕ → ℕ → Place → Arrival
arrival_at f words keys left x = choose (in_pool f x && (rule_at f words keys x && on_path left x)) (arrived f x) Broken

-- a leaf's record and key bytes that obey its rule
pub record LeafFits (limit : ℕ) (rec key : List ℕ) : Type 0 where
  pub long : length rec ≡ leaf_size
  pub wide : length key ≡ limit
  pub ok : leaf_ok limit rec key ≡ true

-- leaf n, whose words from start on and key bytes lie within the slices and obey its rule
pub record LeafThere (limit : ℕ) (words keys : List ℕ) (n start : ℕ) : Type 0 where
  pub room : start + leaf_size ≤ length words
  pub bytes : n * limit + limit ≤ length keys
  pub fits : LeafFits limit (between words start (start + leaf_size)) (between keys (n * limit) (n * limit + limit))

-- an inner record of the kind, whose words from start on lie within the slice and obey its rule
pub record InnerFitsFrom (form : Form) (words : List ℕ) (kind start : ℕ) : Type 0 where
  pub room : start + record_words form kind ≤ length words
  pub fits : InnerFits form kind (between words start (start + record_words form kind))

-- ── where a call begins ──
-- what a call gives on a frame that fits, and what it gives where none does
unfoldable pub with_frame : {A : Type 0} → List ℕ → List ℕ → (Frame → A) → A → A
with_frame words keys given refused = choose (frame_fits words keys) (given (frame words)) refused

-- frame 6, 1 for no root, then as the walk meets it
abbrev pub from_root : List ℕ → List ℕ → (Frame → Found) → Found
from_root words keys walked = with_frame words keys (λ f. choose (eqb (root_word words) 0) (Err Missing) (walked f)) (Err Damaged)
