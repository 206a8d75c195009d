-- The smallest kind that holds so many children: a walk down the kind table stops at the first row that does, and since children rise with the kind no row before it does.
use Prim.Native.Nat.{ℕ, zero, suc, ◌+◌, ◌-◌, ◌≤◌, ◌<◌}
use mathlib.Core.Path.{◌≡◌, refl, sym, ap, ap₂, subst, ◌∙◌}
use mathlib.Core.List.{List, [], ◌∷◌}
use mathlib.Core.Bool.{Bool, true, false}
use native.Mathlib.Decide.{dec_le}
use native.Mathlib.Omega.{arith}
use lib.ListN.{length, get_or, drop}
use lib.Dec.{leb}
use borrow.Author.Tests.{le-leb, lt-leb}
use Rattle.lists.specs.Scan.{choose}
use Rattle.frames.specs.Kind.{kind_table, no_row, kind_row, children_of, kind_from, kind_for}
use Rattle.frames.specs.declared.kind.KindRow.{KindRow}
use Rattle.frames.proofs.KindTable.{by_kind, next_kind}

module _ (n : ℕ) where
  -- ── the walk ──
  -- no kind before this one holds so many
  pub record Past (kind : ℕ) : Type 0 where
    pub left : kind_for n ≡ kind_from n kind (drop (kind - 1) kind_table)

  pub past_start : Past 1
  unfolding kind_for
  past_start = record { left = refl }

  module _ {kind : ℕ} (p : Past kind) (low : 1 ≤ kind) (high : kind ≤ 4) {row : KindRow} (e : row ≡ kind_row kind) where
    here : (k : ℕ) → 1 ≤ k → k ≤ 4 → drop (k - 1) kind_table ≡ kind_row k ∷ drop k kind_table
    unfolding kind_row
    here = by_kind (λ k. drop (k - 1) kind_table ≡ kind_row k ∷ drop k kind_table) refl refl refl refl

    turn : (b : Bool) → leb n row.children ≡ b → kind_for n ≡ choose b kind (kind_from n (suc kind) (drop kind kind_table))
    turn b t =
        p.left
        ∙ ap (kind_from n kind) (here kind low high)
        ∙ ap (λ (r : KindRow). choose (leb n r.children) kind (kind_from n (suc kind) (drop kind kind_table))) (sym e)
        ∙ ap (λ (v : Bool). choose v kind (kind_from n (suc kind) (drop kind kind_table))) t

    pub past_at : n ≤ row.children → kind ≡ kind_for n
    past_at h = sym (turn true (le-leb n row.children h))

    pub past_on : row.children < n → Past (kind + 1)
    past_on h = record { left = turn false (lt-leb n row.children h) ∙ ap₂ (λ (k i : ℕ). kind_from n k (drop i kind_table)) (let q : suc kind ≡ kind + 1 = omega arith in q) (let q : kind ≡ kind + 1 - 1 = omega arith in q) }

  pub past_end : {kind : ℕ} → Past kind → 4 < kind → kind ≤ 5 → 5 ≡ kind_for n
  past_end {kind} p l h = sym (p.left ∙ ap (λ (k : ℕ). kind_from n k (drop (k - 1) kind_table)) (let five : kind ≡ 5 = omega arith in five))

  -- ── what it finds ──
  from_least : (rows : List KindRow) (kind i : ℕ) → i < length rows → n ≤ (get_or rows i no_row).children → kind_from n kind rows ≤ kind + i
  from_least [] kind i l h = absurd (omega arith)
  from_least (row ∷ rows) kind zero l h = omega (arith, ap (λ (b : Bool). choose b kind (kind_from n (suc kind) rows)) (le-leb n row.children h))
  from_least (row ∷ rows) kind (suc i) l h = go (leb n row.children) (from_least rows (suc kind) i (omega arith) h)
    where
      go : (b : Bool) → kind_from n (suc kind) rows ≤ suc kind + i → choose b kind (kind_from n (suc kind) rows) ≤ kind + suc i
      go true r = omega arith
      go false r = omega arith

  from_first : (rows : List KindRow) (kind : ℕ) → kind ≤ kind_from n kind rows
  from_first [] kind = omega arith
  from_first (row ∷ rows) kind = go (leb n row.children) (from_first rows (suc kind))
    where
      go : (b : Bool) → suc kind ≤ kind_from n (suc kind) rows → kind ≤ choose b kind (kind_from n (suc kind) rows)
      go true r = omega arith
      go false r = omega arith

  pub for_first : 1 ≤ kind_for n
  unfolding kind_for
  for_first = from_first kind_table 1

  -- no smaller kind holds so many
  pub for_least : (kind : ℕ) → 1 ≤ kind → kind ≤ 4 → n ≤ children_of kind → kind_for n ≤ kind
  unfolding kind_row kind_for
  for_least kind low high h = omega (arith, from_least kind_table 1 (kind - 1) (omega arith) h)

  passed : (kind : ℕ) → 1 ≤ kind → kind ≤ 4 → children_of kind < n → Past (kind + 1)
  passed zero low high h = absurd (omega arith)
  passed (suc k) low high h = past_on (go (dec_le 1 k) (λ l. passed k l (omega arith) (omega (arith, (next_kind k l (omega arith) (omega arith)).0)))) low high refl h
    where
      go : Dec (1 ≤ k) → (1 ≤ k → Past (k + 1)) → Past (suc k)
      go (yes l) before = subst Past (let q : k + 1 ≡ suc k = omega arith in q) (before l)
      go (no l) before = subst Past (let q : 1 ≡ suc k = omega arith in q) past_start

  -- it does, and so does every larger one
  pub for_holds : (kind : ℕ) → kind_for n ≤ kind → kind ≤ 4 → n ≤ children_of kind
  for_holds kind low high = go (dec_le n (children_of kind))
    where
      go : Dec (n ≤ children_of kind) → n ≤ children_of kind
      go (yes h) = h
      go (no h) = absurd (omega (arith, (passed kind (omega (arith, for_first)) high (omega arith)).left, from_first (drop (kind + 1 - 1) kind_table) (kind + 1)))
