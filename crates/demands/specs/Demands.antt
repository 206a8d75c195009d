-- The three demands as a predicate on programs: a field for each of their sentences, in their order.
use Rattle.std.specs.Prelude.{ℕ, ◌+◌, ◌*◌, ◌≡◌, ◌≢◌, List}
use Rattle.std.proofs.Math.Option.{none}
use Rattle.lists.specs.Part.{between}
use Rattle.frames.specs.Frame.{frame, frame_fits, count_word}
use Rattle.frames.specs.declared.frame.Caps.{Caps}
use Rattle.art.specs.Tags.{Tag}
use Rattle.art.specs.Listings.{lookup}
use Rattle.art.specs.Drawings.{draw}
use Rattle.art.specs.Facts.{branchings}
use Rattle.reading.specs.Answers.{Bytes}
use Rattle.whole.specs.Sound.{Sound}
use Rattle.demands.specs.Calls.{Query, Asked, Call, start, query, ask, leaf_facts, leaf_tag, Edit, edit, insert, delete, Slices}
use Rattle.demands.specs.Told.{only, with_tag}
use Rattle.reading.specs.Listing.{totals}
use Rattle.demands.specs.Histories.{Block, tag_of, CallBytes}
use Rattle.demands.specs.Scratch.{left_in}
use Rattle.demands.specs.Drawn.{drawing_of, used_inner}
use Rattle.demands.specs.Due.{Due}
use Rattle.demands.specs.Listed.{holds, Suffices, Listed}
use Rattle.demands.specs.Ledger.{Ledger}
use Rattle.demands.specs.Programs.{Program, number_by, next_by, AcceptedBy, Reached}

-- ── the first demand: any memory, any tag ──
-- bad input gets the number that the table has for it: a row that holds is given, and what is given is a row that holds
abbrev pub Numbers : Program → Type 0
Numbers p = (c : Call) → CallBytes c → (s : Slices) → ((n : ℕ) → Due c s n → number_by p c s ≡ n) × Due c s (number_by p c s)

-- a refused call tells nothing but its number
abbrev pub Bare : Program → Type 0
Bare p = (c : Call) (s : Slices) → number_by p c s ≢ 0 → (p c s).told ≡ only (number_by p c s)

-- it changes no byte of the directory
abbrev pub Unchanged : Program → Type 0
Unchanged p = (c : Call) (s : Slices) → number_by p c s ≢ 0 → ((p c s).slices.words ≡ s.words) × ((p c s).slices.keys ≡ s.keys)

-- nor does a question, whatever its number
abbrev pub Still : Program → Type 0
Still p = (s : Slices)
    → ((q : Query) → ((p (query q) s).slices.words ≡ s.words) × ((p (query q) s).slices.keys ≡ s.keys))
    × ((a : Asked) → ((p (ask a) s).slices.words ≡ s.words) × ((p (ask a) s).slices.keys ≡ s.keys))

-- scratch begins with a zero for each record where the call gets past its test for 7, and is untouched where it does not
abbrev pub Scratched : Program → Type 0
Scratched p = (c : Call) (s : Slices) → (p c s).slices.scratch ≡ left_in c s

-- no call but start changes the frame that the trailer gives, nor whether it fits
abbrev pub Framed : Program → Type 0
Framed p = (c : Call) → ((form : ℕ) (k : Caps) → c ≢ start form k) → CallBytes c → (s : Slices) → Bytes s.keys → let o = (p c s).slices in
    (frame o.words ≡ frame s.words) × (frame_fits o.words o.keys ≡ frame_fits s.words s.keys)

-- a leaf's tag is that part of the lent key bytes, from its own first one on and as long as the leaf's facts say: empty where they are refused
abbrev pub Tagged : Program → Type 0
Tagged p = (n : ℕ) (s : Slices) → let at : ℕ = n * (frame s.words).form.limit in let m : ℕ = (p (query (leaf_facts n)) s).told.length in
    (p (query (leaf_tag n)) s).told ≡ with_tag (between s.keys at (at + m)) (only 0)

-- ── the second demand: as a sorted list ──
-- on every sound directory, with scratch enough, every call answers as the sorted list of what the directory holds
abbrev pub OnSound : Program → Type 0
OnSound p = (s : Slices) (z : Sound s.words s.keys) (c : Call) → CallBytes c → Suffices c s → Listed z c (p c s).told

-- after any calls it is sound, and holds the tags of accepted inserts, each with its last total, less those of later accepted deletes
abbrev pub AsList : Program → Type 0
AsList p = (b : Block) (k : Ledger) → Reached p b k → (z : Sound b.words b.keys) × (totals (holds z) ≡ k.list)

-- ── the third demand: from a fresh directory, after any calls ──
-- the tree is the one drawing that these tags define
abbrev pub Draws : Program → Type 0
Draws p = (b : Block) (k : Ledger) → Reached p b k → drawing_of b.words b.keys ≡ draw k.list

-- the inner records in use are as many as the branchings that are drawn
abbrev pub Branches : Program → Type 0
Branches p = (b : Block) (k : Ledger) → Reached p b k → used_inner b.words ≡ branchings (draw k.list)

-- the tag count is the accepted new inserts less the accepted deletes
abbrev pub Counts : Program → Type 0
Counts p = (b : Block) (k : Ledger) → Reached p b k → count_word b.words + k.deletes ≡ k.inserts

-- two accepted changes to different tags leave sound directories that draw the same in either order, where both orders are accepted
abbrev pub EitherOrder : Program → Type 0
EitherOrder p = (b : Block) → Sound b.words b.keys → Bytes b.keys → (x y : Edit) → Bytes (tag_of x) → Bytes (tag_of y) → tag_of x ≢ tag_of y → (q r q' r' : List ℕ)
    → let bx = next_by p b (edit x) q in let by = next_by p b (edit y) r' in let xy = next_by p bx (edit y) r in let yx = next_by p by (edit x) q' in
    AcceptedBy p b x q → AcceptedBy p bx y r → AcceptedBy p b y r' → AcceptedBy p by x q'
    → Sound xy.words xy.keys × Sound yx.words yx.keys × (drawing_of xy.words xy.keys ≡ drawing_of yx.words yx.keys)

-- a tag that is not held, added and removed, both accepted, leaves a sound directory that draws what it drew
abbrev pub Restored : Program → Type 0
Restored p = (b : Block) (z : Sound b.words b.keys) → Bytes b.keys → (t : Tag) (total : ℕ) → Bytes t → lookup t (holds z) ≡ none → (q r : List ℕ)
    → let added = next_by p b (edit (insert t total)) q in let removed = next_by p added (edit (delete t)) r in
    AcceptedBy p b (insert t total) q → AcceptedBy p added (delete t) r → Sound removed.words removed.keys × (drawing_of removed.words removed.keys ≡ drawing_of b.words b.keys)

-- ── all of them ──
-- that every call ends and answers is that a program is a function
pub record Demands (p : Program) : Type 0 where
  pub numbers : Numbers p
  pub bare : Bare p
  pub unchanged : Unchanged p
  pub still : Still p
  pub scratched : Scratched p
  pub framed : Framed p
  pub tagged : Tagged p
  pub on_sound : OnSound p
  pub as_list : AsList p
  pub draws : Draws p
  pub branches : Branches p
  pub counts : Counts p
  pub either_order : EitherOrder p
  pub restored : Restored p
