-- What is compared of a leaf below a record: two leaves' tags, and a record's stored bytes with a tag. A leaf goes by its reference.
use Rattle.std.specs.Prelude.{ℕ, ◌≡◌, List, Bool, ◌&&◌, length, get_or, drop, eqb, leb, ltb}
use Rattle.lists.specs.Compare.{shared}
use Rattle.prefix.specs.Run.{capped, held}
use Rattle.prefix.specs.declared.Prefix.{Prefix}
use Rattle.frames.specs.declared.frame.Frame.{Frame}
use Rattle.tree.specs.Seen.{LeafSeen}

-- the reference of a leaf that was seen, or 0
pub record WitnessSeen (f : Frame) (words keys : List ℕ) (ref : ℕ) : Type 0 where
  pub seen : (ref ≡ 0 → ⊥) → LeafSeen f words keys ref

-- the tag t has the first e bytes of w, then the byte
unfoldable pub goes_on : ℕ → List ℕ → ℕ → List ℕ → Bool
goes_on e w byte t = ltb e (length t) && (leb e (shared w t) && eqb (get_or t e 0) byte)

-- the tag w has the prefix's stored bytes at this depth
unfoldable pub stored_agrees : ℕ → Prefix → List ℕ → Bool
stored_agrees depth p w = eqb (shared (held p) (drop depth w)) (capped p.full.0)
