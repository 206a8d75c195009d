-- A walk that comes to a place answers as the walk from there on, so what it meets there gives its number; and it always meets something.
use Prim.Native.Nat.{ℕ, zero, suc, ◌+◌}
use mathlib.Core.Path.{◌≡◌, refl, ap, ◌∙◌}
use mathlib.Core.Logic.{◌≢◌}
use mathlib.Core.List.{List, [], ◌∷◌}
use mathlib.Core.Bool.{Bool, true, false, ◌&&◌}
use native.Mathlib.Omega.{arith}
use lib.ListN.{get_or}
use lib.Dec.{eqb}
use borrow.Author.Tests.{lt-ltb, eq-eqb, ne_eqb, eqb-true, eqb-false}
use Rattle.std.specs.Prelude.{Err}
use Rattle.std.specs.declared.ops.ControlFlow.TheVariants.{Continue, Break}
use Rattle.refusals.specs.declared.Refusal.TheVariants.{Damaged, Missing}
use Rattle.tree.specs.Answer.{Found, found_number, leaf_found}
use Rattle.tree.specs.Edge.{EdgeStep, entry_ref, edge_entry, edge_ref, edge_from, edge_step, edge_ended, edge_of}
use Rattle.tree.specs.Walk.{Step, leaf_fits, leaf_answer, child_step, after_match, inner_step, step_from, step_of, ended_of, walk_of}
use Rattle.lists.specs.Scan.{choose}
use Rattle.lists.proofs.Tests.{both}
use Rattle.prefix.specs.declared.lookup.PrefixMatchBehavior.{PrefixMatchBehavior}
use Rattle.prefix.specs.declared.lookup.PrefixMatchBehavior.TheVariants.{Pessimistic}
use Rattle.prefix.specs.declared.lookup.PrefixMatch.{PrefixMatch}
use Rattle.prefix.specs.declared.lookup.PrefixMatch.TheVariants.{On, Off}
use Rattle.frames.specs.Frame.{root_word, FrameOf}
use Rattle.frames.specs.Place.{place_at, in_pool, start_at, record_at, key_at}
use Rattle.frames.specs.declared.frame.Frame.{Frame}
use Rattle.records.specs.Own.{child_at}
use Rattle.records.specs.Row.{row_at, last_entry}
use Rattle.records.specs.View.{rule_at}
use Rattle.records.proofs.RowRules.{row_rule}
use Rattle.art.specs.Tags.{Tag}
use Rattle.art.specs.Stores.{Place, leaf_place, inner_place}
use Rattle.tree.specs.Arrive.{on_path, arrived, arrival_at}
use Rattle.tree.specs.declared.arrive.Arrival.{Arrival}
use Rattle.tree.specs.declared.arrive.Arrival.TheVariants.{Leaf, Inner, Broken}
use Rattle.tree.specs.declared.lookup.Aim.{Aim}
use Rattle.tree.specs.declared.minmax.Edge.{Edge}
use Rattle.tree.specs.declared.minmax.Edge.TheVariants.{Low, High}
use Rattle.tree.proofs.Arrivals.{inner_stands}
use Rattle.reading.specs.Answers.{Bytes}
use Rattle.demands.specs.Way as way
use Rattle.demands.specs.Way.{stands, Breaks, fallen, none_left, matched, child_ref_for, Comes, Gives, end_ref, Descends, Ends}

-- from the root, or 1 where there is none
abbrev rooted : List ℕ → Found → ℕ
rooted words a = found_number (choose (eqb (root_word words) 0) (Err Missing) a)

no_root_number : (words : List ℕ) (a : Found) → root_word words ≡ 0 → rooted words a ≡ 1
no_root_number words a e = ap (λ (b : Bool). found_number (choose b (Err Missing) a)) (eq-eqb (root_word words) 0 e)

root_number : (words : List ℕ) (a a' : Found) → root_word words ≢ 0 → a ≡ a' → rooted words a ≡ found_number a'
root_number words a a' ne e = ap (λ (b : Bool). found_number (choose b (Err Missing) a)) (ne_eqb (root_word words) 0 ne) ∙ ap found_number e

-- the first or the last of a row, as an entry and as its reference
last_is : (r : ℕ) (row : List (ℕ × ℕ)) (e : ℕ × ℕ) → entry_ref (last_entry (e ∷ row)) ≡ end_ref High r (e ∷ row)
last_is r [] e = refl
last_is r (n ∷ row) e = last_is e.1 row n

end_is : (edge : Edge) (row : List (ℕ × ℕ)) → entry_ref (edge_entry edge row) ≡ end_ref edge 0 row
end_is Low [] = refl
end_is Low (e ∷ row) = refl
end_is High [] = refl
end_is High (e ∷ row) = last_is 0 row e

module _ (f : Frame) (words keys : List ℕ) where
  -- ── arriving ──
  abbrev arrival : ℕ → Place → Arrival
  arrival left x = arrival_at f words keys left x

  broken : {left : ℕ} {x : Place} → Breaks f words keys left x → arrival left x ≡ Broken
  unfolding arrival_at
  broken (fallen {left} {x} e) = go (in_pool f x) (rule_at f words keys x) e
    where
      go : (p r : Bool) → p && r ≡ false → choose (p && (r && on_path left x)) (arrived f x) Broken ≡ Broken
      go false r i = refl
      go true r i = ap (λ (b : Bool). choose (b && on_path left x) (arrived f x) Broken) i
  broken (none_left {k} {n}) = go (in_pool f (inner_place k n)) (rule_at f words keys (inner_place k n))
    where
      go : (p r : Bool) → choose (p && (r && false)) (arrived f (inner_place k n)) Broken ≡ Broken
      go false r = refl
      go true false = refl
      go true true = refl

  at_leaf : (left n : ℕ) → stands f words keys (leaf_place n) ≡ true → arrival left (leaf_place n) ≡ Leaf n (start_at f (leaf_place n))
  unfolding arrival_at
  at_leaf left n s = let h = both (in_pool f (leaf_place n)) (rule_at f words keys (leaf_place n)) s in simp (h.0, h.1)

  at_inner : (left k n : ℕ) → stands f words keys (inner_place k n) ≡ true → arrival (suc left) (inner_place k n) ≡ Inner k (start_at f (inner_place k n))
  unfolding arrival_at
  at_inner left k n s = let h = both (in_pool f (inner_place k n)) (rule_at f words keys (inner_place k n)) s in simp (h.0, h.1, lt-ltb 0 (suc left) (omega arith)) refl

  -- at any place it is one or the other
  met_or_stands : {P : Type 0} (left : ℕ) (x : Place) → (Breaks f words keys left x → P) → (stands f words keys x ≡ true → P) → P
  met_or_stands {P} left x damaged whole = go (stands f words keys x) refl
    where
      go : (b : Bool) → stands f words keys x ≡ b → P
      go false e = damaged (fallen e)
      go true e = whole e

  -- ── search and prefix search ──
  module _ (t : Tag) (aim : Aim) where
    abbrev step_at : ℕ → Place → ℕ → PrefixMatchBehavior → Step
    step_at left x depth b = step_from f words keys t aim depth b (arrival left x)

    -- the walk from a place
    abbrev taken : ℕ → Step → Found
    taken left s = elim s [ Continue (r, d, b) ↦ walk_of f words keys t aim left r d b | Break a ↦ a ]

    walk_at_place : ℕ → Place → ℕ → PrefixMatchBehavior → Found
    walk_at_place zero x depth b = ended_of (step_at 0 x depth b)
    walk_at_place (suc left) x depth b = taken left (step_at (suc left) x depth b)

    walk_at : (left ref depth : ℕ) (b : PrefixMatchBehavior) → walk_of f words keys t aim left ref depth b ≡ walk_at_place left (place_at ref) depth b
    unfolding walk_of step_of walk_at_place
    walk_at zero ref depth b = refl
    walk_at (suc left) ref depth b = refl

    stops : (left : ℕ) (x : Place) (depth : ℕ) (b : PrefixMatchBehavior) (a : Found) → step_at left x depth b ≡ Break a → walk_at_place left x depth b ≡ a
    unfolding walk_at_place
    stops zero x depth b a e = ap ended_of e
    stops (suc left) x depth b a e = ap (taken left) e

    -- what a step gives at a record that stands
    inner_step_lem : (left k n depth : ℕ) (b : PrefixMatchBehavior) → stands f words keys (inner_place k n) ≡ true
        → step_at (suc left) (inner_place k n) depth b ≡ after_match f.form k (record_at f words (inner_place k n)) t (matched f words t k n depth b)
    unfolding inner_step
    inner_step_lem left k n depth b s = ap (step_from f words keys t aim depth b) (at_inner left k n s)

    leaf_step : (left n depth : ℕ) (b : PrefixMatchBehavior) → stands f words keys (leaf_place n) ≡ true
        → (z : Bool) → leaf_fits (record_at f words (leaf_place n)) (key_at f keys n) t aim depth b ≡ z
        → step_at left (leaf_place n) depth b ≡ Break (choose z (leaf_found n (record_at f words (leaf_place n))) (Err Missing))
    unfolding leaf_answer
    leaf_step left n depth b s z e =
        ap (step_from f words keys t aim depth b) (at_leaf left n s)
        ∙ ap (λ (z : Bool). Break (choose z (leaf_found n (record_at f words (leaf_place n))) (Err Missing))) e

    abbrev walk : Found
    walk = walk_of f words keys t aim f.form.limit (root_word words) 0 Pessimistic

    has_root : {left depth : ℕ} {x : Place} {b : PrefixMatchBehavior} → Comes f words keys t left x depth b → root_word words ≢ 0
    has_root (way.at_root ne) = ne
    has_root (way.down c s m ne) = has_root c

    -- on a frame that fits, by a tag of bytes
    module _ (w : FrameOf f words keys) (bytes : Bytes t) where
      -- the child for a byte of a record that stands is its row's
      child_is : (k n d : ℕ) → stands f words keys (inner_place k n) ≡ true → child_at f.form k (record_at f words (inner_place k n)) (get_or t d 0) ≡ child_ref_for f words t k n d
      child_is k n d s = (row_rule (inner_stands w (inner_place k n) k n (start_at f (inner_place k n)) refl refl (both (in_pool f (inner_place k n)) (rule_at f words keys (inner_place k n)) s).0 (both (in_pool f (inner_place k n)) (rule_at f words keys (inner_place k n)) s).1).fits).child_for (get_or t d 0) (bytes d)

      child_step_lem : (left k n depth d : ℕ) (b b' : PrefixMatchBehavior) → stands f words keys (inner_place k n) ≡ true → matched f words t k n depth b ≡ On d b'
          → (z : Bool) → eqb (child_ref_for f words t k n d) 0 ≡ z
          → step_at (suc left) (inner_place k n) depth b ≡ choose z (Break (Err Missing)) (Continue (child_ref_for f words t k n d, d + 1, b'))
      child_step_lem left k n depth d b b' s m z e =
          inner_step_lem left k n depth b s ∙ ap (after_match f.form k (record_at f words (inner_place k n)) t) m
          ∙ ap (λ (r : ℕ). child_step r (d + 1) b') (child_is k n d s)
          ∙ ap (λ (z : Bool). choose z (Break (Err Missing)) (Continue (child_ref_for f words t k n d, d + 1, b'))) e

      -- from the root is from where it comes to
      comes_walk : {left depth : ℕ} {x : Place} {b : PrefixMatchBehavior} → Comes f words keys t left x depth b → walk ≡ walk_at_place left x depth b
      unfolding walk_at_place
      comes_walk (way.at_root ne) = walk_at f.form.limit (root_word words) 0 Pessimistic
      comes_walk (way.down {left} {k} {n} {depth} {d} {b} {b'} c s m ne) =
          comes_walk c ∙ ap (taken left) (child_step_lem left k n depth d b b' s m false (ne_eqb (child_ref_for f words t k n d) 0 ne))
          ∙ walk_at left (child_ref_for f words t k n d) (d + 1) b'

      -- where it stops there
      stopped : (left : ℕ) (x : Place) (depth : ℕ) (b : PrefixMatchBehavior) (a : Found) → Comes f words keys t left x depth b → step_at left x depth b ≡ Break a
          → rooted words walk ≡ found_number a
      stopped left x depth b a c e = root_number words walk a (has_root c) (comes_walk c ∙ stops left x depth b a e)

      pub meets_number : {n : ℕ} → Gives f words keys t aim n → rooted words walk ≡ n
      meets_number (way.no_root e) = no_root_number words walk e
      meets_number (way.damage {left} {depth} {x} {b} c h) = stopped left x depth b (Err Damaged) c (ap (step_from f words keys t aim depth b) (broken h))
      meets_number (way.off_prefix {left} {k} {n} {depth} {agreed} {b} c s m) =
          stopped (suc left) (inner_place k n) depth b (Err Missing) c (inner_step_lem left k n depth b s ∙ ap (after_match f.form k (record_at f words (inner_place k n)) t) m)
      meets_number (way.no_child {left} {k} {n} {depth} {d} {b} {b'} c s m e) =
          stopped (suc left) (inner_place k n) depth b (Err Missing) c (child_step_lem left k n depth d b b' s m true (eq-eqb (child_ref_for f words t k n d) 0 e))
      meets_number (way.other_leaf {left} {n} {depth} {b} c s e) = stopped left (leaf_place n) depth b (Err Missing) c (leaf_step left n depth b s false e)
      meets_number (way.the_leaf {left} {n} {depth} {b} c s e) =
          stopped left (leaf_place n) depth b (leaf_found n (record_at f words (leaf_place n))) c (leaf_step left n depth b s true e)

    -- ── it always meets something ──
    abbrev Met : Type 0
    Met = (n : ℕ) × Gives f words keys t aim n

    leaf_met : (left n depth : ℕ) (b : PrefixMatchBehavior) → Comes f words keys t left (leaf_place n) depth b → stands f words keys (leaf_place n) ≡ true
        → (z : Bool) → leaf_fits (record_at f words (leaf_place n)) (key_at f keys n) t aim depth b ≡ z → Met
    leaf_met left n depth b c s true e = (0, way.the_leaf c s e)
    leaf_met left n depth b c s false e = (1, way.other_leaf c s e)

    child_met : (left k n depth d : ℕ) (b b' : PrefixMatchBehavior) → Comes f words keys t (suc left) (inner_place k n) depth b → stands f words keys (inner_place k n) ≡ true
        → matched f words t k n depth b ≡ On d b' → ((x : Place) → Comes f words keys t left x (d + 1) b' → Met) → (z : Bool) → eqb (child_ref_for f words t k n d) 0 ≡ z → Met
    child_met left k n depth d b b' c s m go true e = (1, way.no_child c s m (eqb-true (child_ref_for f words t k n d) 0 e))
    child_met left k n depth d b b' c s m go false e = go (place_at (child_ref_for f words t k n d)) (way.down c s m (eqb-false (child_ref_for f words t k n d) 0 e))

    inner_met : (left k n depth : ℕ) (b : PrefixMatchBehavior) → Comes f words keys t (suc left) (inner_place k n) depth b → stands f words keys (inner_place k n) ≡ true
        → ((x : Place) (d : ℕ) (b : PrefixMatchBehavior) → Comes f words keys t left x d b → Met) → (m : PrefixMatch) → matched f words t k n depth b ≡ m → Met
    inner_met left k n depth b c s go (Off agreed) e = (1, way.off_prefix c s e)
    inner_met left k n depth b c s go (On d b') e = child_met left k n depth d b b' c s e (λ x. go x (d + 1) b') (eqb (child_ref_for f words t k n d) 0) refl

    leaf_at : (left n depth : ℕ) (b : PrefixMatchBehavior) → Comes f words keys t left (leaf_place n) depth b → Met
    leaf_at left n depth b c =
        met_or_stands left (leaf_place n) (λ h. (6, way.damage c h)) (λ s. leaf_met left n depth b c s (leaf_fits (record_at f words (leaf_place n)) (key_at f keys n) t aim depth b) refl)

    last_met : (x : Place) (depth : ℕ) (b : PrefixMatchBehavior) → Comes f words keys t 0 x depth b → Met
    last_met (leaf_place n) depth b c = leaf_at 0 n depth b c
    last_met (inner_place k n) depth b c = (6, way.damage c none_left)

    next_met : (left : ℕ) → ((x : Place) (d : ℕ) (b : PrefixMatchBehavior) → Comes f words keys t left x d b → Met)
        → (x : Place) (depth : ℕ) (b : PrefixMatchBehavior) → Comes f words keys t (suc left) x depth b → Met
    next_met left go (leaf_place n) depth b c = leaf_at (suc left) n depth b c
    next_met left go (inner_place k n) depth b c =
        met_or_stands (suc left) (inner_place k n) (λ h. (6, way.damage c h)) (λ s. inner_met left k n depth b c s go (matched f words t k n depth b) refl)

    from_met : (left : ℕ) (x : Place) (depth : ℕ) (b : PrefixMatchBehavior) → Comes f words keys t left x depth b → Met
    from_met zero x depth b c = last_met x depth b c
    from_met (suc left) x depth b c = next_met left (λ x d b c. from_met left x d b c) x depth b c

    pub met : Met
    met = go (eqb (root_word words) 0) refl
      where
        go : (z : Bool) → eqb (root_word words) 0 ≡ z → Met
        go true e = (1, way.no_root (eqb-true (root_word words) 0 e))
        go false e = from_met f.form.limit (place_at (root_word words)) 0 Pessimistic (way.at_root (eqb-false (root_word words) 0 e))

  -- ── minimum and maximum ──
  module _ (edge : Edge) where
    abbrev edge_step_at : ℕ → Place → EdgeStep
    edge_step_at left x = edge_from f words edge (arrival left x)

    abbrev edge_taken : ℕ → EdgeStep → Found
    edge_taken left s = elim s [ Continue r ↦ edge_of f words keys edge left r | Break a ↦ a ]

    edge_at : ℕ → Place → Found
    edge_at zero x = edge_ended (edge_step_at 0 x)
    edge_at (suc left) x = edge_taken left (edge_step_at (suc left) x)

    edge_at_lem : (left ref : ℕ) → edge_of f words keys edge left ref ≡ edge_at left (place_at ref)
    unfolding edge_of edge_step edge_at
    edge_at_lem zero ref = refl
    edge_at_lem (suc left) ref = refl

    edge_stops : (left : ℕ) (x : Place) (a : Found) → edge_step_at left x ≡ Break a → edge_at left x ≡ a
    unfolding edge_at
    edge_stops zero x a e = ap edge_ended e
    edge_stops (suc left) x a e = ap (edge_taken left) e

    abbrev descent : Found
    descent = edge_of f words keys edge f.form.limit (root_word words)

    descends_walk : {left : ℕ} {x : Place} → Descends f words keys edge left x → descent ≡ edge_at left x
    unfolding edge_at edge_ref
    descends_walk (way.root ne) = edge_at_lem f.form.limit (root_word words)
    descends_walk (way.child {left} {k} {n} c s) =
        descends_walk c ∙ ap (λ (a : Arrival). edge_taken left (edge_from f words edge a)) (at_inner left k n s)
        ∙ ap (edge_of f words keys edge left) (end_is edge (row_at f.form k (record_at f words (inner_place k n))))
        ∙ edge_at_lem left (end_ref edge 0 (row_at f.form k (record_at f words (inner_place k n))))

    edge_root : {left : ℕ} {x : Place} → Descends f words keys edge left x → root_word words ≢ 0
    edge_root (way.root ne) = ne
    edge_root (way.child c s) = edge_root c

    edge_stopped : (left : ℕ) (x : Place) (a : Found) → Descends f words keys edge left x → edge_step_at left x ≡ Break a → rooted words descent ≡ found_number a
    edge_stopped left x a c e = root_number words descent a (edge_root c) (descends_walk c ∙ edge_stops left x a e)

    pub ends_number : {n : ℕ} → Ends f words keys edge n → rooted words descent ≡ n
    ends_number (way.rootless e) = no_root_number words descent e
    ends_number (way.broken_off {left} {x} c h) = edge_stopped left x (Err Damaged) c (ap (edge_from f words edge) (broken h))
    ends_number (way.a_leaf {left} {n} c s) =
        edge_stopped left (leaf_place n) (leaf_found n (record_at f words (leaf_place n))) c (ap (edge_from f words edge) (at_leaf left n s))

    abbrev Ended : Type 0
    Ended = (n : ℕ) × Ends f words keys edge n

    leaf_end : (left n : ℕ) → Descends f words keys edge left (leaf_place n) → Ended
    leaf_end left n c = met_or_stands left (leaf_place n) (λ h. (6, way.broken_off c h)) (λ s. (0, way.a_leaf c s))

    last_end : (x : Place) → Descends f words keys edge 0 x → Ended
    last_end (leaf_place n) c = leaf_end 0 n c
    last_end (inner_place k n) c = (6, way.broken_off c none_left)

    next_end : (left : ℕ) → ((x : Place) → Descends f words keys edge left x → Ended) → (x : Place) → Descends f words keys edge (suc left) x → Ended
    next_end left go (leaf_place n) c = leaf_end (suc left) n c
    next_end left go (inner_place k n) c =
        met_or_stands (suc left) (inner_place k n) (λ h. (6, way.broken_off c h)) (λ s. go (place_at (end_ref edge 0 (row_at f.form k (record_at f words (inner_place k n))))) (way.child c s))

    from_ended : (left : ℕ) (x : Place) → Descends f words keys edge left x → Ended
    from_ended zero x c = last_end x c
    from_ended (suc left) x c = next_end left (λ x c. from_ended left x c) x c

    pub ended : Ended
    ended = go (eqb (root_word words) 0) refl
      where
        go : (z : Bool) → eqb (root_word words) 0 ≡ z → Ended
        go true e = (1, way.rootless (eqb-true (root_word words) 0 e))
        go false e = from_ended f.form.limit (place_at (root_word words)) (way.root (eqb-false (root_word words) 0 e))
