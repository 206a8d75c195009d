-- Any program that has these calls: what a caller sees of it, and the blocks that calls from a start on lead to.
use Rattle.std.specs.Prelude.{ℕ, ◌≡◌, ◌≢◌, List, []}
use Rattle.frames.specs.declared.frame.Caps.{Caps}
use Rattle.reading.specs.Answers.{Bytes}
use Rattle.demands.specs.Calls.{Query, Asked, Edit, Call, start, query, ask, edit, Slices, Outcome, Promise}
use Rattle.demands.specs.Told.{Told, told_by}
use Rattle.demands.specs.Histories.{Block, lent, tag_of}
use Rattle.demands.specs.Ledger.{Ledger, ledger, accepted}

-- of one call: what it tells, and the slices at exit
pub record Seen : Type 0 where
  pub told : Told
  pub slices : Slices

-- a program: every call, on whatever is lent to it, ends and is seen so
abbrev pub Program : Type 0
Program = Call → Slices → Seen

-- one that is given by its outcomes
abbrev pub seen : (Call → Slices → Outcome) → Program
seen f c s = record { told = told_by (f c s).answer; slices = (f c s).slices }

-- each of its outcomes is one that the contract of the call allows
abbrev pub Keeps : (Call → Slices → Outcome) → Type 0
Keeps f = (c : Call) (s : Slices) → Promise c s (f c s)

-- the number of a call
abbrev pub number_by : Program → Call → Slices → ℕ
number_by p c s = (p c s).told.number

-- ── calls on a block, each with the scratch that is lent to it ──
-- what a call tells
abbrev pub tells : Program → Block → Call → List ℕ → Told
tells p b c scratch = (p c (lent b scratch)).told

-- the block afterwards
abbrev pub next_by : Program → Block → Call → List ℕ → Block
next_by p b c scratch = let s = (p c (lent b scratch)).slices in record { words = s.words; keys = s.keys }

-- the edit is accepted
abbrev pub AcceptedBy : Program → Block → Edit → List ℕ → Type 0
AcceptedBy p b e scratch = number_by p (edit e) (lent b scratch) ≡ 0

-- ── the blocks that any calls lead to, with what the accepted ones define; nothing else writes ──
pub data Reached (p : Program) : Block → Ledger → Type 0 where
  -- from any memory by an accepted start, which holds nothing
  fresh : (b : Block) (form : ℕ) (c : Caps) (r : List ℕ) → number_by p (start form c) (lent b r) ≡ 0 → Reached p (next_by p b (start form c) r) (ledger [] 0 0)
  -- by an accepted edit
  changed : {b : Block} {k : Ledger} → Reached p b k → (e : Edit) → Bytes (tag_of e) → (r : List ℕ) → AcceptedBy p b e r → Reached p (next_by p b (edit e) r) (accepted e k)
  -- by any call that is refused, or that only asks: these define nothing
  refused : {b : Block} {k : Ledger} → Reached p b k → (c : Call) (r : List ℕ) → number_by p c (lent b r) ≢ 0 → Reached p (next_by p b c r) k
  queried : {b : Block} {k : Ledger} → Reached p b k → (q : Query) (r : List ℕ) → Reached p (next_by p b (query q) r) k
  asked : {b : Block} {k : Ledger} → Reached p b k → (a : Asked) (r : List ℕ) → Reached p (next_by p b (ask a) r) k
