-- What a user reads off the demands: a tag is found with its last total, and a change to one tag leaves the answer for every other.
use Prim.Native.Nat.{ℕ}
use mathlib.Core.Path.{◌≡◌, refl, sym, ap, ◌∙◌}
use mathlib.Core.Logic.{◌≢◌}
use mathlib.Core.List.{List}
use mathlib.Core.Option.{Option, none, some}
use native.Mathlib.Omega.{arith}
use Rattle.records.specs.View.{Held}
use Rattle.art.specs.Tags.{Tag, Listing}
use Rattle.art.specs.Listings.{lookup}
use Rattle.art.proofs.ReadBack.{some_inj}
use Rattle.tree.specs.Walk.{search_of}
use Rattle.reading.specs.Answers.{Bytes, answer_of}
use Rattle.whole.specs.Sound.{Sound}
use Rattle.demands.specs.Calls.{query, search, found, Edit, edit, insert, delete, run}
use Rattle.demands.specs.Told.{Told, only, told_by}
use Rattle.reading.specs.Listing.{totals}
use Rattle.demands.specs.Histories.{Block, lent, tag_of}
use Rattle.demands.specs.Listed.{holds, finds}
use Rattle.demands.specs.Programs.{Program, seen, tells, next_by, AcceptedBy}
use Rattle.demands.specs.Demands.{OnSound}
use Rattle.demands.proofs.Reading.{reading_meets}
use Rattle.demands.proofs.Demands.{demands}
use Rattle.demands.proofs.Totals.{total_of_lem, totals_lookup}
use Rattle.demands.proofs.Tested.{unchecked}
use Rattle.demands.proofs.Edits.{Changes, edit_was, edit_changes, edit_either}

-- it is told with this leaf and this total
abbrev pub hit : (leaf total : ℕ) → Told
hit leaf total = finds (some (record { number = leaf; total = total }))

-- ── of any program that answers as the list: found exactly when the accepted calls hold it, with its last total ──
module _ (p : Program) (o : OnSound p) {b : Block} {l : Listing ℕ} (y : (z : Sound b.words b.keys) × (totals (holds z) ≡ l)) (t : Tag) (h : Bytes t) (r : List ℕ) where
  is : tells p b (query (search t)) r ≡ finds (lookup t (holds y.0))
  is = o (lent b r) y.0 (query (search t)) h unchecked

  listed : lookup t l ≡ total_of_lem (lookup t (holds y.0))
  listed = ap (lookup t) (sym y.1) ∙ totals_lookup t (holds y.0)

  missing_by : (a : Option Held) → lookup t (holds y.0) ≡ a → lookup t l ≡ none → tells p b (query (search t)) r ≡ only 1
  missing_by none e q = is ∙ ap finds e
  missing_by (some a) e q = let z : some a.total ≡ none = sym (listed ∙ ap total_of_lem e) ∙ q in absurd (let i : ◌≡◌ {A = ℕ} 0 1 = cc in omega arith)

  total_by : (a : Option Held) → lookup t (holds y.0) ≡ a → (total : ℕ) → lookup t l ≡ some total → (leaf : ℕ) × (tells p b (query (search t)) r ≡ hit leaf total)
  total_by none e total q = let z : none ≡ some total = sym (listed ∙ ap total_of_lem e) ∙ q in absurd (let i : ◌≡◌ {A = ℕ} 0 1 = cc in omega arith)
  total_by (some a) e total q = (a.number, is ∙ ap finds e ∙ ap (hit a.number) (some_inj (sym (listed ∙ ap total_of_lem e) ∙ q)))

  pub never_held : lookup t l ≡ none → tells p b (query (search t)) r ≡ only 1
  never_held = missing_by (lookup t (holds y.0)) refl

  pub last_total : (total : ℕ) → lookup t l ≡ some total → (leaf : ℕ) × (tells p b (query (search t)) r ≡ hit leaf total)
  last_total = total_by (lookup t (holds y.0)) refl

-- ── on any memory: a change to one tag, accepted or refused, leaves the answer for every other, leaf number and total ──
pub others_kept : (b : Block) → Bytes b.keys → (e : Edit) (scratch : List ℕ) → Bytes (tag_of e) → (t : Tag) → Bytes t → t ≢ tag_of e → (q r : List ℕ)
    → tells (seen run) (next_by (seen run) b (edit e) scratch) (query (search t)) q ≡ tells (seen run) b (query (search t)) r
others_kept b k e scratch h t bytes ne q r =
    ap (λ a. told_by (found a)) (edit_either e (lent b scratch) h k (λ words keys. search_of words keys t ≡ search_of b.words b.keys t) refl
    (λ z w j c. (reading_meets c.after).search t bytes ∙ ap answer_of (c.others t ne) ∙ sym ((reading_meets z).search t bytes)))

-- ── on any memory: an accepted insert is found with its total, an accepted delete is not found ──
module _ (b : Block) (k : Bytes b.keys) (e : Edit) (h : Bytes (tag_of e)) (q : List ℕ) (a : AcceptedBy (seen run) b e q) where
  done : Changes e (edit_was e (lent b q) a) (next_by (seen run) b (edit e) q).words (next_by (seen run) b (edit e) q).keys
  done = edit_changes e (lent b q) h k a (edit_was e (lent b q) a)

pub insert_found : (b : Block) → Bytes b.keys → (t : Tag) (total : ℕ) → Bytes t → (q r : List ℕ) → AcceptedBy (seen run) b (insert t total) q
    → (leaf : ℕ) × (tells (seen run) (next_by (seen run) b (edit (insert t total)) q) (query (search t)) r ≡ hit leaf total)
insert_found b k t total h q r a = let c = done b k (insert t total) h q a in last_total (seen run) demands.on_sound (c.after, refl) t h r total c.gave

pub delete_unfound : (b : Block) → Bytes b.keys → (t : Tag) → Bytes t → (q r : List ℕ) → AcceptedBy (seen run) b (delete t) q
    → tells (seen run) (next_by (seen run) b (edit (delete t)) q) (query (search t)) r ≡ only 1
delete_unfound b k t h q r a = let c = done b k (delete t) h q a in never_held (seen run) demands.on_sound (c.after, refl) t h r c.gave
