-- The kind table's rules, by one test of the whole table: children rise with the kind, a kind's shrink mark is the next smaller kind's
-- children, and the words of a record are a head of 11 and what the kind lays out.
use Prim.Native.Nat.{ℕ, zero, suc, ◌+◌, ◌-◌, ◌≤◌, ◌<◌}
use mathlib.Core.Path.{◌≡◌, refl, ap, subst}
use mathlib.Core.Bool.{Bool, true, ◌&&◌}
use native.Mathlib.Omega.{arith}
use lib.Dec.{eqb, leb, ltb, lit≤}
use borrow.Author.Tests.{le-leb, leb-true, ltb-true, eqb-true}
use Rattle.lists.specs.Scan.{choose}
use Rattle.frames.specs.Kind.{kind_table, no_row, kind_row, children_of, mark_of, body_words, byte_values, slot_words, layout, before, KindRules}
use Rattle.frames.specs.declared.kind.KindRow.{KindRow}
use Rattle.lists.proofs.Tables.{both5, every_at}

-- what holds of each kind's number holds of a number from 1 to 4
pub by_kind : (P : ℕ → Type 0) → P 1 → P 2 → P 3 → P 4 → (k : ℕ) → 1 ≤ k → k ≤ 4 → P k
by_kind P a b c d zero l h = absurd (omega arith)
by_kind P a b c d (suc zero) l h = a
by_kind P a b c d (suc (suc zero)) l h = b
by_kind P a b c d (suc (suc (suc zero))) l h = c
by_kind P a b c d (suc (suc (suc (suc zero)))) l h = d
by_kind P a b c d (suc (suc (suc (suc (suc k))))) l h = absurd (omega arith)

kind_test : ℕ → KindRow → Bool
kind_test kind row =
    eqb row.words (11 + layout kind row.children)
    && leb 4 row.children
    && leb row.children 256
    && eqb row.mark (before kind)
    && ltb (before kind) row.children

kind_tested : (kind : ℕ) → 1 ≤ kind → kind ≤ 4 → kind_test kind (kind_row kind) ≡ true
unfolding kind_row kind_test layout before
kind_tested kind l h =
    subst (λ (k : ℕ). kind_test k (kind_row kind) ≡ true) (let q : 1 + (kind - 1) ≡ kind = omega arith in q)
    (every_at kind_test no_row kind_table 1 refl (kind - 1) (omega arith))

pub kind_rules : (kind : ℕ) → 1 ≤ kind → kind ≤ 4 → KindRules kind
unfolding kind_test
kind_rules kind l h =
    let r = kind_row kind in
    let p =
    both5 (eqb r.words (11 + layout kind r.children)) (leb 4 r.children) (leb r.children 256) (eqb r.mark (before kind)) (ltb (before kind) r.children) (kind_tested kind l h) in
    record { words = eqb-true _ _ p.0; least = leb-true _ _ p.1; most = leb-true _ _ p.2; mark = eqb-true _ _ p.3; rise = ltb-true _ _ p.4 }

-- children rise with the kind, and what a kind holds is the next one's mark
pub next_kind : (kind : ℕ) → 1 ≤ kind → kind ≤ 4 → kind ≤ 3 → (children_of kind < children_of (suc kind)) × (mark_of (suc kind) ≡ children_of kind)
unfolding kind_row
next_kind = by_kind (λ k. k ≤ 3 → (children_of k < children_of (suc k)) × (mark_of (suc k) ≡ children_of k)) (λ h. (lit≤ tt, refl)) (λ h. (lit≤ tt, refl)) (λ h. (lit≤ tt, refl)) (λ h. absurd (omega arith))

-- a kind's mark is less than it holds
pub mark_below : (kind : ℕ) → 1 ≤ kind → kind ≤ 4 → mark_of kind < children_of kind
mark_below kind low high = let r = kind_rules kind low high in omega (arith, r.mark, r.rise)

-- kinds 1 and 2 hold as many key words as references
pub sorted_words : (kind : ℕ) → 1 ≤ kind → kind ≤ 2 → body_words kind ≡ children_of kind + children_of kind
unfolding layout
sorted_words k l h = omega (arith, (kind_rules k l (omega arith)).words, ap (λ (b : Bool). choose b (children_of k + children_of k) (choose (leb k 3) (256 + children_of k) (children_of k))) (le-leb k 2 h))

pub kind_3 : (kind : ℕ) → kind ≡ 3 → body_words kind ≡ slot_words
unfolding kind_row
kind_3 kind e = ap body_words e

pub kind_4 : (kind : ℕ) → kind ≡ 4 → body_words kind ≡ byte_values
unfolding kind_row
kind_4 kind e = ap body_words e

pub kind_words : (kind : ℕ) → 1 ≤ kind → kind ≤ 4 → (8 ≤ body_words kind) × (body_words kind ≤ 304)
unfolding kind_row
kind_words = by_kind (λ k. (8 ≤ body_words k) × (body_words k ≤ 304)) (lit≤ tt, lit≤ tt) (lit≤ tt, lit≤ tt) (lit≤ tt, lit≤ tt) (lit≤ tt, lit≤ tt)
