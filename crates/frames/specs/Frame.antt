-- The frame: the trailer, the capacities, and where each pool begins.
use Rattle.std.specs.Prelude.{ℕ, ◌+◌, ◌-◌, ◌*◌, ◌≤◌, ◌≡◌, List, [], ◌∷◌, Bool, true, ◌&&◌, length, get_or, eqb, leb}
use Rattle.lists.specs.Part.{between}
use Rattle.frames.specs.Form.{form_of, form_known, sizes_of, SmallSizes}
use Rattle.frames.specs.declared.form.Form.{Form}
use Rattle.frames.specs.declared.form.Sizes.{Sizes}
use Rattle.frames.specs.declared.frame.Caps.{Caps}
use Rattle.frames.specs.declared.frame.Backs.{Backs}
use Rattle.frames.specs.declared.frame.Frame.{Frame}

-- a trailer's five capacities
abbrev pub caps_of : List ℕ → Caps
caps_of t = record { c1 = get_or t 6 0; c2 = get_or t 7 0; c3 = get_or t 8 0; c4 = get_or t 9 0; c5 = get_or t 10 0 }

-- each at most 4,096
abbrev pub caps_small : Caps → Bool
caps_small c = leb c.c1 4096 && leb c.c2 4096 && leb c.c3 4096 && leb c.c4 4096 && leb c.c5 4096

-- the same as facts, one for each capacity
pub record SmallCaps (c : Caps) : Type 0 where
  pub s1 : c.c1 ≤ 4096
  pub s2 : c.c2 ≤ 4096
  pub s3 : c.c3 ≤ 4096
  pub s4 : c.c4 ≤ 4096
  pub s5 : c.c5 ≤ 4096

-- the distances back to each pool that they give
abbrev pub backs_of : Sizes → Caps → Backs
backs_of z c =
    let b5 = c.c5 * z.z5 in
    let b4 = c.c4 * z.z4 + b5 in
    let b3 = c.c3 * z.z3 + b4 in
    let b2 = c.c2 * z.z2 + b3 in
    record { b1 = c.c1 * z.z1 + b2; b2 = b2; b3 = b3; b4 = b4; b5 = b5 }

-- the trailer's words 1 to 5 are these
abbrev pub backs_match : List ℕ → Backs → Bool
backs_match t b =
    eqb (get_or t 1 0) b.b1 && eqb (get_or t 2 0) b.b2 && eqb (get_or t 3 0) b.b3 && eqb (get_or t 4 0) b.b4 && eqb (get_or t 5 0) b.b5

-- the trailer t of n words fits them and k key bytes
unfoldable pub form_fits : Form → List ℕ → Caps → ℕ → ℕ → Bool
form_fits form t c n k =
    backs_match t (backs_of (sizes_of form) c)
    && eqb (get_or t 15 0) ((backs_of (sizes_of form) c).b1 + 16)
    && eqb n (get_or t 15 0)
    && eqb k (c.c5 * form.limit)

-- a form that is known, small capacities, and the rest as that form has it
unfoldable pub trailer_fits : List ℕ → ℕ → ℕ → Bool
trailer_fits t n k = (form_known (get_or t 0 0) && caps_small (caps_of t)) && form_fits (form_of (get_or t 0 0)) t (caps_of t) n k

-- the last 16 words
abbrev pub trailer_of : List ℕ → List ℕ
trailer_of words = between words (length words - 16) (length words)

-- 16 words or more, and the trailer fits
unfoldable pub frame_fits : List ℕ → List ℕ → Bool
frame_fits words keys = leb 16 (length words) && trailer_fits (trailer_of words) (length words) (length keys)

-- by the kind of a reference (0 none, 1 to 4, 5 leaves, 6 and 7 none): how many records its pool has
abbrev pub caps_list : Caps → List ℕ
caps_list c = 0 ∷ c.c1 ∷ c.c2 ∷ c.c3 ∷ c.c4 ∷ c.c5 ∷ 0 ∷ 0 ∷ []

-- by the same: how many words a record of the pool has
abbrev pub sizes_list : Sizes → List ℕ
sizes_list z = 0 ∷ z.z1 ∷ z.z2 ∷ z.z3 ∷ z.z4 ∷ z.z5 ∷ 0 ∷ 0 ∷ []

-- by the same: the pool's first word
abbrev pub starts_list : Sizes → Caps → List ℕ
starts_list z c =
    let s2 = c.c1 * z.z1 in
    let s3 = s2 + c.c2 * z.z2 in
    let s4 = s3 + c.c3 * z.z3 in
    0 ∷ 0 ∷ s2 ∷ s3 ∷ s4 ∷ (s4 + c.c4 * z.z4) ∷ 0 ∷ 0 ∷ []

-- the frame that a form, sizes and capacities give
abbrev pub frame_with : Form → Sizes → Caps → Frame
frame_with form z c = record { form = form; sizes = sizes_list z; caps = caps_list c; starts = starts_list z c }

-- the frame that a trailer gives
unfoldable pub frame_of : List ℕ → Frame
frame_of t = frame_with (form_of (get_or t 0 0)) (sizes_of (form_of (get_or t 0 0))) (caps_of t)

-- the frame that a block's trailer gives
abbrev pub frame : List ℕ → Frame
frame words = frame_of (trailer_of words)

-- a frame of small sizes and capacities, whatever the words are now
pub record Framed (f : Frame) : Type 0 where
  pub form : Form
  pub sizes : Sizes
  pub caps : Caps
  pub made : f ≡ frame_with form sizes caps
  pub small_sizes : SmallSizes sizes
  pub small_caps : SmallCaps caps

-- what the trailer says beside the frame: the reference to the root, in its word 11
abbrev pub root_word : List ℕ → ℕ
root_word words = get_or (trailer_of words) 11 0

-- the reference to the first leaf of the list, in word 12
abbrev pub first_word : List ℕ → ℕ
first_word words = get_or (trailer_of words) 12 0

-- the reference to the last, in word 13
abbrev pub last_word : List ℕ → ℕ
last_word words = get_or (trailer_of words) 13 0

-- the number of tags, in word 14
abbrev pub count_word : List ℕ → ℕ
count_word words = get_or (trailer_of words) 14 0

-- a frame that was read from words that it fits
pub record FrameOf (f : Frame) (words keys : List ℕ) : Type 0 where
  pub read : f ≡ frame words
  pub fits : frame_fits words keys ≡ true
