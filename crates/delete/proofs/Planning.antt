-- The cases of a delete's plan: of the other child, of the record above, and of the point.
use Prim.Native.Nat.{ℕ, ◌+◌, ◌-◌, ◌*◌, ◌/◌, ◌%◌, ◌≤◌, ◌<◌}
use mathlib.Core.Path.{◌≡◌, refl, sym, ap, ◌∙◌}
use mathlib.Core.Logic.{◌⊎◌, inl, inr}
use mathlib.Core.List.{List}
use mathlib.Core.Bool.{Bool}
use native.Mathlib.Omega.{arith}
use lib.ListN.{get_or}
use lib.Dec.{eqb, leb, ltb}
use borrow.Author.Tests.{eq-eqb, ne_eqb, lt-ltb, le-ltb, le-leb, lt-leb}
use Rattle.lists.specs.Scan.{choose}
use Rattle.frames.specs.Kind.{kind_row, mark_of}
use Rattle.frames.specs.Frame.{root_word}
use Rattle.frames.specs.Place.{place_at, record_at}
use Rattle.frames.specs.declared.frame.Frame.{Frame}
use Rattle.frames.specs.declared.kind.KindRow.{KindRow}
use Rattle.frames.proofs.KindTable.{by_kind}
use Rattle.records.specs.Row.{row_at, entry_at, last_entry, Entry}
use Rattle.std.specs.Prelude.{Some, Ok, Err}
use Rattle.refusals.specs.declared.Refusal.TheVariants.{Missing}
use Rattle.delete.specs.Plan.{Planned, other_than, other_entry, merge_cut, shrink_cut, cut_under, cut_of, gap_of, point_plan, plan_of}
use Rattle.points.specs.There.{Up}
use Rattle.pools.specs.Pool.{lowest_free}
use Rattle.points.specs.Point.{point_of}
use Rattle.points.specs.declared.insert_point.Point.{Point}
use Rattle.points.specs.declared.insert_point.Point.TheVariants as point
use Rattle.writes.specs.declared.leaf_node.Gap.{Gap}
use Rattle.delete.specs.declared.plan.Cut.{Cut}
use Rattle.delete.specs.declared.plan.Cut.TheVariants.{Stay, Shrink}

-- ── of two children the other one ──
pub other_by : (byte : ℕ) (row : List (ℕ × ℕ)) {x y : Entry} → x ≡ entry_at 0 row → x ≡ y → other_than byte y (last_entry row) ≡ other_entry byte row
unfolding other_entry
other_by byte row e q = ap (λ (z : Entry). other_than byte z (last_entry row)) (sym q ∙ e)

module _ (byte b ref : ℕ) (last : Entry) where
  pub other_last : b ≡ byte → last ≡ other_than byte (Some (b, ref)) last
  other_last e = ap (λ (t : Bool). choose t last (Some (b, ref))) (sym (eq-eqb b byte e))

  pub other_first : (b ≡ byte → ⊥) → Some (b, ref) ≡ other_than byte (Some (b, ref)) last
  other_first e = ap (λ (t : Bool). choose t last (Some (b, ref))) (sym (ne_eqb b byte e))

-- ── the next smaller kind ──
module _ (f : Frame) (words : List ℕ) (upper : Up) (ref byte : ℕ) {n : ℕ} (e : n ≡ lowest_free f words (ref % 8 - 1)) where
  abbrev shrink : ℕ → Bool → Cut
  shrink m b = choose b (Shrink upper ref (m * 8 + (ref % 8 - 1)) byte) (Stay ref byte)

  shrink_by : {b : Bool} → ltb n (get_or f.caps (ref % 8 - 1) 0) ≡ b → shrink n b ≡ shrink_cut f words upper ref byte
  unfolding shrink_cut
  shrink_by t = ap (shrink n) (sym t) ∙ ap (λ (m : ℕ). shrink m (ltb m (get_or f.caps (ref % 8 - 1) 0))) e

  pub shrink_free : n < get_or f.caps (ref % 8 - 1) 0 → Shrink upper ref (n * 8 + (ref % 8 - 1)) byte ≡ shrink_cut f words upper ref byte
  shrink_free h = shrink_by (lt-ltb n (get_or f.caps (ref % 8 - 1) 0) h)

  pub shrink_none : get_or f.caps (ref % 8 - 1) 0 ≤ n → Stay ref byte ≡ shrink_cut f words upper ref byte
  shrink_none h = shrink_by (le-ltb n (get_or f.caps (ref % 8 - 1) 0) h)

-- ── the record above, by its child count ──
-- a record of kind 1 never shrinks
pub mark_two : (kind : ℕ) → 1 ≤ kind → kind ≤ 4 → 2 < mark_of kind + 1 → 2 ≤ kind
unfolding kind_row
mark_two = by_kind (λ (k : ℕ). 2 < mark_of k + 1 → 2 ≤ k) (λ h. absurd (omega arith)) (λ h. omega arith) (λ h. omega arith) (λ h. omega arith)

module _ (f : Frame) (words : List ℕ) (upper : Up) (ref byte : ℕ) {n : ℕ} (e : n ≡ get_or (record_at f words (place_at ref)) 1 0) where
  abbrev merge : Cut
  merge = merge_cut upper ref byte (other_entry byte (row_at f.form (ref % 8) (record_at f words (place_at ref))))

  abbrev under : Bool → Bool → Cut
  under a b = choose a merge (choose b (shrink_cut f words upper ref byte) (Stay ref byte))

  under_by : {a b : Bool} → leb n 2 ≡ a → leb n (mark_of (ref % 8) + 1) ≡ b → under a b ≡ cut_under f words upper ref byte
  unfolding cut_under
  under_by {a} {b} s t =
      ap (λ (v : Bool). under v b) (sym s)
      ∙ ap (λ (v : Bool). under (leb n 2) v) (sym t)
      ∙ ap (λ (m : ℕ). under (leb m 2) (leb m (mark_of (ref % 8) + 1))) e

  pub under_two : {x : Cut} → n ≤ 2 → x ≡ merge → x ≡ cut_under f words upper ref byte
  under_two h q = q ∙ under_by (le-leb n 2 h) refl

  module _ {row : KindRow} (l : 2 < n) (k : row ≡ kind_row (ref % 8)) where
    mark : row.mark ≡ mark_of (ref % 8)
    mark = ap (λ (r : KindRow). r.mark) k

    pub under_low : {x : Cut} → n ≤ row.mark + 1 → x ≡ shrink_cut f words upper ref byte → x ≡ cut_under f words upper ref byte
    under_low h q = q ∙ under_by (lt-leb n 2 l) (le-leb n (mark_of (ref % 8) + 1) (omega (arith, mark)))

    pub under_stay : row.mark + 1 < n → Stay ref byte ≡ cut_under f words upper ref byte
    under_stay h = under_by (lt-leb n 2 l) (lt-leb n (mark_of (ref % 8) + 1) (omega (arith, mark)))

-- ── the leaf that holds the tag ──
pub out_by : (f : Frame) (words : List ℕ) (upper up : Up) (leaf : ℕ) {cut : Cut} {gap : Gap} → cut ≡ cut_of f words upper up → gap ≡ gap_of f words (leaf / 8)
    → Ok (record { cut = cut; leaf = leaf / 8; gap = gap }) ≡ point_plan f words (point.Holds upper up leaf)
unfolding point_plan
out_by f words upper up leaf {cut} {gap} p q =
    ap (λ (x : Cut). Ok (record { cut = x; leaf = leaf / 8; gap = gap })) p ∙ ap (λ (g : Gap). Ok (record { cut = cut_of f words upper up; leaf = leaf / 8; gap = g })) q

-- ── a tag that is not held ──
pub out_none : (f : Frame) (words : List ℕ) {p : Point}
    → (p ≡ point.Clash) ⊎ ((up : Up) × (ref byte : ℕ) × (p ≡ point.Into up ref byte)) ⊎ ((up : Up) × (ref leaf d c : ℕ) × (p ≡ point.Fork up ref leaf d c))
    → Err Missing ≡ point_plan f words p
unfolding point_plan
out_none f words (inl e) = ap (point_plan f words) (sym e)
out_none f words (inr (inl x)) = ap (point_plan f words) (sym x.3)
out_none f words (inr (inr x)) = ap (point_plan f words) (sym x.5)

-- ── the plan ──
module _ (f : Frame) (words keys tag : List ℕ) {root : ℕ} (e : root ≡ root_word words) where
  abbrev by_root : Bool → ℕ → Planned
  by_root b r = choose b (Err Missing) (point_plan f words (point_of f words keys tag r))

  plan_by : {b : Bool} → eqb root 0 ≡ b → by_root b root ≡ plan_of f words keys tag
  unfolding plan_of
  plan_by {b} t = ap (λ (v : Bool). by_root v root) (sym t) ∙ ap (λ (r : ℕ). by_root (eqb r 0) r) e

  pub plan_none : root ≡ 0 → Err Missing ≡ plan_of f words keys tag
  plan_none z = plan_by (eq-eqb root 0 z)

  pub plan_point : {x : Point} {p : Planned} → (root ≡ 0 → ⊥) → x ≡ point_of f words keys tag root → p ≡ point_plan f words x → p ≡ plan_of f words keys tag
  plan_point z q u = u ∙ ap (point_plan f words) q ∙ plan_by (ne_eqb root 0 z)
