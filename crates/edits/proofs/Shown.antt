-- A body that obeys its kind's rule and has this row: what every law of bodies is about, for one layout and for every kind.
use Prim.Native.Nat.{ℕ, zero, suc, ◌+◌, ◌≤◌, ◌<◌}
use mathlib.Core.Path.{◌≡◌, sym, ap, subst, ◌∙◌}
use mathlib.Core.List.{List}
use mathlib.Core.Bool.{Bool, true, false}
use native.Mathlib.Omega.{arith}
use lib.ListN.{length}
use lib.Dec.{eqb, leb}
use Rattle.lists.specs.Scan.{choose}
use Rattle.frames.specs.Kind.{kind_row, children_of, body_words}
use Rattle.records.specs.Own.{sorted_ok, indirect_ok, direct_ok, body_ok, child_of, BodyFits}
use Rattle.records.specs.Row.{sorted_row, indirect_row, direct_row, body_row, ref_for, Climbs}
use Rattle.records.proofs.RowRules.{body_row_lem}
use Rattle.edits.specs.Rows.{Row}

-- a list of this size that obeys a rule and shows a row
pub record Shown (size : ℕ) (body : List ℕ) (rule : Bool) (shown row : Row) : Type 0 where
  pub long : length body ≡ size
  pub ok : rule ≡ true
  pub shows : shown ≡ row

-- the three layouts
abbrev pub Sorted : ℕ → List ℕ → ℕ → Row → Type 0
Sorted k body n row = Shown (k + k) body (sorted_ok k body n) (sorted_row k body n) row

abbrev pub Indirect : List ℕ → ℕ → Row → Type 0
Indirect body n row = Shown 304 body (indirect_ok body n) (indirect_row body) row

abbrev pub Direct : List ℕ → ℕ → Row → Type 0
Direct body n row = Shown 256 body (direct_ok body n) (direct_row body) row

-- by the two tests of the kind, for k children and so many words
abbrev pub Laid : Bool → Bool → ℕ → ℕ → List ℕ → ℕ → Row → Type 0
Laid t u size k body n row =
    Shown size body (choose t (sorted_ok k body n) (choose u (indirect_ok body n) (direct_ok body n)))
    (choose t (sorted_row k body n) (choose u (indirect_row body) (direct_row body))) row

-- a law of each layout is a law of every kind
pub by_layout : (P : Bool → Bool → ℕ → ℕ → Type 0) → ((k : ℕ) → P true false (k + k) k) → P false true 304 48 → P false false 256 256
    → (kind : ℕ) → 1 ≤ kind → kind ≤ 4 → P (leb kind 2) (eqb kind 3) (body_words kind) (children_of kind)
unfolding kind_row
by_layout P s i d zero l h = absurd (omega arith)
by_layout P s i d (suc zero) l h = s 4
by_layout P s i d (suc (suc zero)) l h = s 16
by_layout P s i d (suc (suc (suc zero))) l h = i
by_layout P s i d (suc (suc (suc (suc zero)))) l h = d
by_layout P s i d (suc (suc (suc (suc (suc k))))) l h = absurd (omega arith)

-- a body that obeys its rule with n children, and has this row
pub record Holds (kind : ℕ) (body : List ℕ) (n : ℕ) (row : Row) : Type 0 where
  pub fits : BodyFits kind body n
  pub shows : body_row kind body n ≡ row

pub holds_laid : (kind : ℕ) (body : List ℕ) (n : ℕ) (row : Row) → 1 ≤ kind → kind ≤ 4 → n ≤ children_of kind
    → Laid (leb kind 2) (eqb kind 3) (body_words kind) (children_of kind) body n row → Holds kind body n row
unfolding body_ok body_row
holds_laid kind body n row low high few s = record { fits = record { low = low; high = high; long = s.long; few = few; ok = s.ok }; shows = s.shows }

module _ {kind : ℕ} {body : List ℕ} {n : ℕ} {row : Row} (h : Holds kind body n row) where
  pub laid : Laid (leb kind 2) (eqb kind 3) (body_words kind) (children_of kind) body n row
  unfolding body_ok body_row
  laid = record { long = h.fits.long; ok = h.fits.ok; shows = h.shows }

  pub holds_size : length row ≡ n
  holds_size = ap length (sym h.shows) ∙ (body_row_lem h.fits).size

  pub holds_climbs : Climbs 0 row
  holds_climbs = subst (Climbs 0) h.shows (body_row_lem h.fits).climbs

  pub holds_child : (b : ℕ) → b < 256 → child_of kind body n b ≡ ref_for b row
  holds_child b l = (body_row_lem h.fits).child_for b l ∙ ap (ref_for b) h.shows
