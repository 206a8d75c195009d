-- The forms: how long an inner record's head is, where its prefix is stored, and the longest tag.
use Rattle.std.specs.Prelude.{ℕ, ◌+◌, ◌-◌, ◌*◌, ◌/◌, ◌%◌, ◌≤◌, ◌≡◌, ◌⊎◌, List, [], ◌∷◌, Bool, ◌&&◌, length, get_or, eqb, leb}
use Rattle.lists.specs.Scan.{choose}
use Rattle.frames.specs.Kind.{body_words, leaf_size}
use Rattle.frames.specs.declared.form.Form.{Form}
use Rattle.frames.specs.declared.form.Sizes.{Sizes}

-- number, words of the stored prefix, words for a count of the tags below (form 1 has none), longest tag
abbrev pub forms : List Form
forms = record { number = 1; prefix = 8; counts = 0; limit = 64 } ∷ []

-- what no form has
abbrev pub no_form : Form
no_form = record { number = 0; prefix = 0; counts = 0; limit = 0 }

-- a form has this number; they are numbered from 1
unfoldable pub form_known : ℕ → Bool
form_known number = leb 1 number && leb number (length forms)

-- the form of a number, where there is one
unfoldable pub form_of : ℕ → Form
form_of number = get_or forms (number - 1) no_form

-- kind, child count and length; the count of the tags below, where the form has one; the stored prefix
abbrev pub header : Form → ℕ
header form = 3 + form.counts + form.prefix

-- the words of a record: its head goes by the form, its body by the kind
abbrev pub record_words : Form → ℕ → ℕ
record_words form kind = header form + body_words kind

-- by pool, leaves the fifth
abbrev pub sizes_of : Form → Sizes
sizes_of form = record { z1 = record_words form 1; z2 = record_words form 2; z3 = record_words form 3; z4 = record_words form 4; z5 = leaf_size }

-- a record of any pool has 512 words or fewer
pub record SmallSizes (z : Sizes) : Type 0 where
  pub s1 : z.z1 ≤ 512
  pub s2 : z.z2 ≤ 512
  pub s3 : z.z3 ≤ 512
  pub s4 : z.z4 ≤ 512
  pub s5 : z.z5 ≤ 512

-- eight words from a on
abbrev pub eight_from : List ℕ → ℕ → List ℕ
eight_from rec a =
    get_or rec a 0 ∷ get_or rec (a + 1) 0 ∷ get_or rec (a + 2) 0 ∷ get_or rec (a + 3) 0 ∷ get_or rec (a + 4) 0 ∷ get_or rec (a + 5) 0 ∷ get_or rec (a + 6) 0 ∷ get_or rec (a + 7) 0 ∷ []

-- the eight bytes of two words, lowest first
abbrev pub eight_in : ℕ → ℕ → List ℕ
eight_in w v = w % 256 ∷ w / 256 % 256 ∷ w / 65536 % 256 ∷ w / 16777216 ∷ v % 256 ∷ v / 256 % 256 ∷ v / 65536 % 256 ∷ v / 16777216 ∷ []

-- four bytes as a word, lowest first
abbrev pub word_of : ℕ → ℕ → ℕ → ℕ → ℕ
word_of a b c d = a % 256 + b % 256 * 256 + c % 256 * 65536 + d % 256 * 16777216

-- eight bytes as two words
abbrev pub packed : List ℕ → List ℕ
packed l = word_of (get_or l 0 0) (get_or l 1 0) (get_or l 2 0) (get_or l 3 0) ∷ word_of (get_or l 4 0) (get_or l 5 0) (get_or l 6 0) (get_or l 7 0) ∷ []

-- a form stores them one a word, or packed
abbrev pub Stores : Form → Type 0
Stores form = (form.prefix ≡ 8) ⊎ (form.prefix ≡ 2)

-- the words that eight stored bytes take
unfoldable pub pack_of : Form → List ℕ → List ℕ
pack_of form l = choose (eqb form.prefix 8) l (packed l)

-- the bytes that such words hold
unfoldable pub unpack_of : Form → List ℕ → List ℕ
unpack_of form l = choose (eqb form.prefix 8) l (eight_in (get_or l 0 0) (get_or l 1 0))

-- the eight stored prefix bytes, after the count below
unfoldable pub stored_of : Form → List ℕ → List ℕ
stored_of form rec = choose (eqb form.prefix 8) (eight_from rec (3 + form.counts)) (eight_in (get_or rec (3 + form.counts) 0) (get_or rec (3 + form.counts + 1) 0))
