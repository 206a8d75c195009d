-- Records that are free, and the places that a change leaves alone.
use Rattle.std.specs.Prelude.{ℕ, ◌≡◌, List}
use Rattle.frames.specs.Place.{record_at}
use Rattle.records.specs.Words.{used_as}
use Rattle.records.specs.View.{cell_of, rule_at, blank_at}
use Rattle.frames.specs.declared.frame.Frame.{Frame}
use Rattle.art.specs.Stores.{Place}

-- a record is free where its word 0 is 0
abbrev pub word_zero : Frame → List ℕ → Place → ℕ
word_zero f words x = used_as (record_at f words x)

-- a place's cell, rule and blankness are as they were
pub record Same (f : Frame) (words keys words' keys' : List ℕ) (x : Place) : Type 0 where
  pub cell : cell_of f words' keys' x ≡ cell_of f words keys x
  pub rule : rule_at f words' keys' x ≡ rule_at f words keys x
  pub blank : blank_at f words' keys' x ≡ blank_at f words keys x
