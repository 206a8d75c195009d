-- What it is that a call keeps the frame, and which calls do.
use Rattle.std.specs.Prelude.{ℕ, ◌≡◌, List, [], ◌∷◌, length, get_or}
use Rattle.frames.specs.Frame.{trailer_of}
use Rattle.demands.specs.Calls.{Call, start, query, ask, edit}
use Rattle.demands.specs.Histories.{Turn}

-- the trailer's words that make the frame: form, five distances, five capacities, and the words in the block
abbrev pub frame_words : List ℕ → List ℕ
frame_words words =
    let t = trailer_of words in
    get_or t 0 0 ∷ get_or t 1 0 ∷ get_or t 2 0 ∷ get_or t 3 0 ∷ get_or t 4 0 ∷ get_or t 5 0 ∷ get_or t 6 0 ∷ get_or t 7 0 ∷ get_or t 8 0 ∷ get_or t 9 0 ∷ get_or t 10 0 ∷ get_or t 15 0 ∷ []

-- they stay, and so do both lengths
pub record FrameKept (words keys words' keys' : List ℕ) : Type 0 where
  pub trailer : frame_words words' ≡ frame_words words
  pub words_long : length words' ≡ length words
  pub keys_long : length keys' ≡ length keys

-- any call but start
abbrev pub NoStart : Call → Type 0
NoStart (start form c) = ⊥
NoStart (query q) = Unit {0}
NoStart (ask a) = Unit {0}
NoStart (edit e) = Unit {0}

-- no start among them
abbrev pub NoStarts : List Turn → Type 0
NoStarts [] = Unit {0}
NoStarts (t ∷ ts) = NoStart t.call × NoStarts ts
