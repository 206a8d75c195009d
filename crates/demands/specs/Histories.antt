-- Blocks, and calls on them one after the other.
use Rattle.std.specs.Prelude.{ℕ, List, [], ◌∷◌}
use Rattle.reading.specs.Answers.{Bytes}
use Rattle.demands.specs.Calls as calls
use Rattle.demands.specs.Calls.{Call, Query, Edit, Slices, run}

-- the words and key bytes of a directory
pub record Block : Type 0 where
  pub words : List ℕ
  pub keys : List ℕ

-- what is lent to a call: the block's words and key bytes, and scratch
abbrev pub lent : Block → List ℕ → Slices
lent b scratch = record { words = b.words; keys = b.keys; scratch = scratch }

-- a call with the scratch that is lent to it
pub record Turn : Type 0 where
  pub call : Call
  pub scratch : List ℕ

-- the block after a call
abbrev pub next : Block → Turn → Block
next b t = let s = (run t.call (lent b t.scratch)).slices in record { words = s.words; keys = s.keys }

-- any calls, one after the other
abbrev pub after_all : Block → List Turn → Block
after_all b [] = b
after_all b (t ∷ ts) = after_all (next b t) ts

-- the tag that an edit is given
abbrev pub tag_of : Edit → List ℕ
tag_of (calls.insert t total) = t
tag_of (calls.delete t) = t

-- the tag that a query is given is bytes
abbrev pub QueryBytes : Query → Type 0
QueryBytes (calls.search t) = Bytes t
QueryBytes (calls.prefix_search t) = Bytes t
QueryBytes calls.minimum = Unit {0}
QueryBytes calls.maximum = Unit {0}
QueryBytes (calls.next_leaf n) = Unit {0}
QueryBytes (calls.leaf_facts n) = Unit {0}
QueryBytes (calls.leaf_tag n) = Unit {0}

-- the tags that are given are bytes
abbrev pub CallBytes : Call → Type 0
CallBytes (calls.start form c) = Unit {0}
CallBytes (calls.query q) = QueryBytes q
CallBytes (calls.ask calls.check) = Unit {0}
CallBytes (calls.ask (calls.first_at_or_after t)) = Bytes t
CallBytes (calls.ask (calls.station_total t)) = Bytes t
CallBytes (calls.edit e) = Bytes (tag_of e)

-- and so in every call of a history
abbrev pub AllBytes : List Turn → Type 0
AllBytes [] = Unit {0}
AllBytes (t ∷ ts) = CallBytes t.call × AllBytes ts
