-- The plan on a sound block answers exactly as the sorted list and the free records say: the point judges the tag as the list does, and a free record is found where there is one.
use Prim.Native.Nat.{ℕ, suc, ◌≤◌, ◌/◌, ◌%◌}
use mathlib.Core.Path.{◌≡◌, refl, sym, ap, subst, ◌∙◌}
use mathlib.Core.List.{List, []}
use mathlib.Core.Option.{Option, none, some}
use mathlib.Core.Bool.{Bool, true, false}
use native.Mathlib.Omega.{arith}
use lib.ListN.{length, get_or}
use lib.Dec.{eqb, ltb}
use borrow.Author.Tests.{eqb-true, eqb-false, ltb-true, ltb-false}
use Rattle.std.specs.Prelude.{Some, None, Ok, Err}
use Rattle.refusals.specs.declared.Refusal.TheVariants.{Clash, NoLeaf, NoRecord}
use Rattle.insert.specs.declared.plan.Plan.TheVariants.{New, Over}
use Rattle.insert.specs.Plan.{Choice, Planned, grow_choice, into_choice, fork_with, fork_choice, new_plan, site_plan, leaf_plan, point_plan, plan_of}
use Rattle.points.specs.There.{Up}
use Rattle.pools.specs.Pool.{Free, lowest_free, free_kind}
use Rattle.tree.specs.Answer.{Found}
use Rattle.lists.specs.Scan.{choose}
use Rattle.frames.specs.Kind.{children_of}
use Rattle.frames.specs.Frame.{root_word, frame}
use Rattle.frames.specs.Place.{place_at, record_at}
use Rattle.frames.specs.declared.frame.Frame.{Frame}
use Rattle.records.specs.View.{Held}
use Rattle.art.specs.Tags.{Tag}
use Rattle.art.specs.Trees.{Tree, contents}
use Rattle.art.specs.Deletes.{held}
use Rattle.art.specs.Verdicts.{Verdict, known, clash, free, judge}
use Rattle.art.specs.Facts.{height}
use Rattle.art.specs.Orders.{after}
use Rattle.art.specs.Stores.{Place, leaf_place, inner_place, Cell, Store, root, store, Used}
use Rattle.art.specs.Points as art
use Rattle.art.specs.Points.{point, point_verdict, cell_refs, store_of, IntoFits, PointFits}
use Rattle.art.proofs.ReadBack.{some_inj}
use Rattle.art.proofs.Stores.{used_not}
use Rattle.art.proofs.Walks.{store_shows}
use Rattle.art.proofs.InsertPoints.{point_judges}
use Rattle.view.specs.Pools.{FreeAt, NoneFree}
use Rattle.view.specs.Links.{links_of}
use Rattle.view.proofs.Pools.{none_free, kind_free, kind_none}
use Rattle.whole.specs.Sound.{Sound}
use Rattle.reading.specs.Answers.{Bytes}
use Rattle.reading.specs.Shown.{Shown}
use Rattle.points.specs.Point.{point_of}
use Rattle.points.specs.declared.insert_point.Point.{Point}
use Rattle.points.specs.declared.insert_point.Point.TheVariants as code
use Rattle.writes.specs.declared.leaf_node.Gap.{Gap}
use Rattle.states.specs.State.{State}
use Rattle.states.proofs.Steps.{state_count_word, state_zero}
use Rattle.states.proofs.Lowest.{state_used, lowest_leaf}
use Rattle.states.proofs.Sounds.{sound_state}
use Rattle.pointed.specs.Told.{up_told, told}
use Rattle.pointed.proofs.Sounds.{sound_shown}
use Rattle.pointed.proofs.Ups.{inner_here}
use Rattle.insert.specs.declared.plan.Site.{Site}
use Rattle.insert.specs.declared.plan.Site.TheVariants.{Root, Add}
use Rattle.insert.specs.Room.{LeavesFull, InnersFull, Lacks, Lacking, Answers}
use Rattle.range.specs.Range.{after_is}
use Rattle.insert.proofs.Wants.{lacking_is}
use Rattle.insert.proofs.Afters.{after_shown}
use Rattle.insert.proofs.Ready.{told_point, told_fits, into_fits}
use Rattle.insert.proofs.Hangs.{root_not}

-- ── a new leaf ──
module _ {f : Frame} {words keys : List ℕ} {d : Option (Tree Held)} {root count : ℕ} (s : Shown f words keys d) (st : State f words keys (store_of d) (links_of f words) root count)
    (tag : List ℕ) (v : Verdict) (is : v ≡ free) (lacking : Type 0) where
  abbrev σ : Store Held
  σ = store_of d

  abbrev full : Type 0
  full = LeavesFull f σ

  list_answers : (site : Site) (n : ℕ) → ¬ full → ¬ lacking → (o : Option Held) → Answers v full lacking (new_plan f words site n (after_is o))
  list_answers site n room there none = (is, room, there)
  list_answers site n room there (some h) = (is, room, there)

  site_answers : (n : ℕ) → ¬ full → (c : Choice) → (c ≡ None → lacking) → ((site : Site) → c ≡ Some site → ¬ lacking) → Answers v full lacking (site_plan f words keys tag n c)
  site_answers n room (Some site) no_record record-there =
      subst (λ (a : Found). Answers v full lacking (new_plan f words site n a)) (sym (after_shown s tag)) (list_answers site n room (record-there site refl) (after tag (held d)))
  site_answers n room None no_record record-there = (is, room, no_record refl)

  leaf_answers : (c : Choice) → (c ≡ None → lacking) → ((site : Site) → c ≡ Some site → ¬ lacking) → Answers v full lacking (leaf_plan f words keys tag c)
  unfolding leaf_plan
  leaf_answers c no_record record-there = go (ltb (lowest_free f words 5) (get_or f.caps 5 0)) refl
    where
      go : (b : Bool) → ltb (lowest_free f words 5) (get_or f.caps 5 0) ≡ b → Answers v full lacking (choose b (site_plan f words keys tag (lowest_free f words 5) c) (Err NoLeaf))
      go true e =
          let n : ℕ = lowest_free f words 5 in
          let low = lowest_leaf st n refl (ltb-true _ _ e) in
          site_answers n (λ all. used_not (σ (leaf_place n)) (all n low.pool) low.free) c no_record record-there
      go false e = (is, λ n p. state_used st (leaf_place n) p (none_free f words (leaf_place n) p (ltb-false _ _ e)))

-- ── the record that takes it ──
module _ {f : Frame} {words keys : List ℕ} {t : Tree Held} {ref₀ count : ℕ} (s : Shown f words keys (some t)) (st : State f words keys (store t []) (links_of f words) ref₀ count) where
  abbrev τ : Store Held
  τ = store t []

  inners_full : (kind : ℕ) → NoneFree f words kind → InnersFull f τ kind
  inners_full kind h k n l p = state_used st (inner_place k n) p (h k n l p)

  -- a free record of the kind or a larger one is unused
  free_not : (kind k n : ℕ) → FreeAt f words kind k n → ¬ InnersFull f τ kind
  free_not kind k n h all = used_not (τ (inner_place k n)) (all k n h.from h.pool) (state_zero st (inner_place k n) h.pool h.free)

  fork_lacks : (up : Up) (ref leaf d c : ℕ) → fork_choice f words up ref leaf d c ≡ None → InnersFull f τ 1
  unfolding fork_choice
  fork_lacks up ref leaf d c e = go (free_kind f words 1) refl e
    where
      go : (o : Free) → free_kind f words 1 ≡ o → fork_with up ref leaf d c o ≡ None → InnersFull f τ 1
      go (Some (k, n)) q h = absurd (let z : ◌≡◌ {A = ℕ} 0 1 = cc in omega arith)
      go None q h = inners_full 1 (kind_none f words 1 q)

  fork_has : (up : Up) (ref leaf d c : ℕ) (site : Site) → fork_choice f words up ref leaf d c ≡ Some site → ¬ InnersFull f τ 1
  unfolding fork_choice
  fork_has up ref leaf d c site e = go (free_kind f words 1) refl e
    where
      go : (o : Free) → free_kind f words 1 ≡ o → fork_with up ref leaf d c o ≡ Some site → ¬ InnersFull f τ 1
      go (Some (k, n)) q h = free_not 1 k n (kind_free f words 1 k n q)
      go None q h = absurd (let z : ◌≡◌ {A = ℕ} 0 1 = cc in omega arith)

  module _ (tag : Tag) (up : Up) (ref byte : ℕ) (fits : IntoFits τ tag (up_told up) (ref % 8) (ref / 8) byte) where
    abbrev x : Place
    x = inner_place (ref % 8) (ref / 8)

    -- the count that is read is the row's length
    count_is : get_or (record_at f words (place_at ref)) 1 0 ≡ length (cell_refs (τ x))
    count_is =
        let shown = fits.at_record.shown in
        ap (λ (y : Place). get_or (record_at f words y) 1 0) (inner_here st ref (subst Used (sym shown) tt))
        ∙ state_count_word st (ref % 8) (ref / 8) fits.len fits.at_record.stored fits.rs shown
        ∙ ap (λ (c : Cell Held). length (cell_refs c)) (sym shown)

    abbrev need : Type 0
    need = (children_of (ref % 8) ≤ length (cell_refs (τ x))) × InnersFull f τ (suc (ref % 8))

    into_lacks : into_choice f words up ref byte ≡ None → need
    unfolding into_choice
    into_lacks e = go (ltb (get_or (record_at f words (place_at ref)) 1 0) (children_of (ref % 8))) refl e
      where
        grow : children_of (ref % 8) ≤ length (cell_refs (τ x)) → (o : Free) → free_kind f words (suc (ref % 8)) ≡ o → grow_choice up ref byte o ≡ None → need
        grow l (Some (k, n)) q h = absurd (let z : ◌≡◌ {A = ℕ} 0 1 = cc in omega arith)
        grow l None q h = (l, inners_full (suc (ref % 8)) (kind_none f words (suc (ref % 8)) q))

        go : (b : Bool) → ltb (get_or (record_at f words (place_at ref)) 1 0) (children_of (ref % 8)) ≡ b → choose b (Some (Add ref byte)) (grow_choice up ref byte (free_kind f words (suc (ref % 8)))) ≡ None → need
        go true q h = absurd (let z : ◌≡◌ {A = ℕ} 0 1 = cc in omega arith)
        go false q h = grow (omega (arith, ltb-false (get_or (record_at f words (place_at ref)) 1 0) (children_of (ref % 8)) q, count_is)) (free_kind f words (suc (ref % 8))) refl h

    into_has : (site : Site) → into_choice f words up ref byte ≡ Some site → ¬ need
    unfolding into_choice
    into_has site e n = go (ltb (get_or (record_at f words (place_at ref)) 1 0) (children_of (ref % 8))) refl e
      where
        grow : (o : Free) → free_kind f words (suc (ref % 8)) ≡ o → grow_choice up ref byte o ≡ Some site → ⊥
        grow (Some (k, m)) q h = free_not (suc (ref % 8)) k m (kind_free f words (suc (ref % 8)) k m q) n.1
        grow None q h = let z : ◌≡◌ {A = ℕ} 0 1 = cc in omega arith

        go : (b : Bool) → ltb (get_or (record_at f words (place_at ref)) 1 0) (children_of (ref % 8)) ≡ b → choose b (Some (Add ref byte)) (grow_choice up ref byte (free_kind f words (suc (ref % 8)))) ≡ Some site → ⊥
        go true q h = omega (arith, ltb-true (get_or (record_at f words (place_at ref)) 1 0) (children_of (ref % 8)) q, count_is, n.0)
        go false q h = grow (free_kind f words (suc (ref % 8))) refl h

  -- ── by the point ──
  module _ (tag : List ℕ) (bytes : Bytes tag) where
    abbrev found : art.Point
    found = point (suc (height t)) τ (root t) tag

    at : (p : Point) → point_of f words keys tag (root_word words) ≡ p → told p ≡ found
    at p e = ap told (sym e) ∙ told_point s tag bytes

    verdict_is : (p : Point) → point_of f words keys tag (root_word words) ≡ p → (v : Verdict) → point_verdict (told p) ≡ some v → judge tag (contents t) ≡ v
    verdict_is p e v h = some_inj (sym (point_judges (suc (height t)) τ t s.good (store_shows t [] s.once) (omega arith) tag) ∙ ap point_verdict (sym (at p e)) ∙ h)

    told_answers : (p : Point) → point_of f words keys tag (root_word words) ≡ p → Answers (judge tag (contents t)) (LeavesFull f τ) (Lacks f τ (told p)) (point_plan f words keys tag p)
    unfolding point_plan
    told_answers (code.Holds upper up leaf) e = verdict_is (code.Holds upper up leaf) e known refl
    told_answers code.Clash e = verdict_is code.Clash e clash refl
    told_answers (code.Into up ref byte) e =
        let fits = into_fits s tag bytes up ref byte e in
        leaf_answers s st tag (judge tag (contents t)) (verdict_is (code.Into up ref byte) e free refl) (need tag up ref byte fits) (into_choice f words up ref byte)
        (into_lacks tag up ref byte fits) (into_has tag up ref byte fits)
    told_answers (code.Fork up ref leaf d c) e =
        leaf_answers s st tag (judge tag (contents t)) (verdict_is (code.Fork up ref leaf d c) e free refl) (InnersFull f τ 1) (fork_choice f words up ref leaf d c)
        (fork_lacks up ref leaf d c) (fork_has up ref leaf d c)
    told_answers code.Broken e = absurd (subst (λ (p : Point). PointFits τ tag (told p)) e (told_fits s tag bytes))

    tree_answers : Answers (judge tag (contents t)) (LeavesFull f τ) (Lacks f τ found) (plan_of f words keys tag)
    unfolding plan_of
    tree_answers = go (eqb (root_word words) 0) refl
      where
        p : Point
        p = point_of f words keys tag (root_word words)

        go : (b : Bool) → eqb (root_word words) 0 ≡ b → Answers (judge tag (contents t)) (LeavesFull f τ) (Lacks f τ found) (choose b (leaf_plan f words keys tag (Some Root)) (point_plan f words keys tag p))
        go true e = absurd (root_not s (eqb-true (root_word words) 0 e))
        go false e = subst (λ (q : art.Point). Answers (judge tag (contents t)) (LeavesFull f τ) (Lacks f τ q) (point_plan f words keys tag p)) (at p refl) (told_answers p refl)

-- ── on a sound block ──
first_answers : {f : Frame} {words keys : List ℕ} {count : ℕ} → Shown f words keys none → State f words keys (store_of none) (links_of f words) (root_word words) count → (tag : List ℕ)
    → Answers free (LeavesFull f (store_of none)) ⊥ (plan_of f words keys tag)
unfolding plan_of
first_answers {f} {words} {keys} s st tag = go (eqb (root_word words) 0) refl
  where
    go : (b : Bool) → eqb (root_word words) 0 ≡ b → Answers free (LeavesFull f (store_of none)) ⊥ (choose b (leaf_plan f words keys tag (Some Root)) (point_plan f words keys tag (point_of f words keys tag (root_word words))))
    go true e = leaf_answers s st tag free refl ⊥ (Some Root) (λ h. let z : ◌≡◌ {A = ℕ} 0 1 = cc in omega arith) (λ site h n. n)
    go false e = absurd (eqb-false (root_word words) 0 e s.rooted)

-- what lacks is only asked of a tag that is free to go in
answers_by : {v : Verdict} (full : Type 0) {lacks lacking : Type 0} → (v ≡ free → lacks ≡ lacking) → (p : Planned) → Answers v full lacks p → Answers v full lacking p
answers_by _ is (Ok (Over leaf)) h = h
answers_by _ is (Ok (New site n gap)) h = (h.0, h.1, subst (λ (X : Type 0). ¬ X) (is h.0) h.2)
answers_by _ is (Err Clash) h = h
answers_by _ is (Err NoLeaf) h = h
answers_by _ is (Err NoRecord) h = (h.0, h.1, subst (λ (X : Type 0). X) (is h.0) h.2)
answers_by _ is (Err refusal) h = h

pub plan_answers : {words keys : List ℕ} (s : Sound words keys) (tag : List ℕ) → Bytes tag
    → Answers (judge tag (held s.tree)) (LeavesFull (frame words) (store_of s.tree)) (Lacking (frame words) s.tree tag) (plan_of (frame words) words keys tag)
plan_answers {words} {keys} s tag bytes = go s.tree (sound_shown s) (sound_state s)
  where
    go : (d : Option (Tree Held)) → Shown (frame words) words keys d → State (frame words) words keys (store_of d) (links_of (frame words) words) (root_word words) (length (held d))
        → Answers (judge tag (held d)) (LeavesFull (frame words) (store_of d)) (Lacking (frame words) d tag) (plan_of (frame words) words keys tag)
    go none sh st = first_answers sh st tag
    go (some t) sh st = answers_by (LeavesFull (frame words) (store t [])) (lacking_is (frame words) t sh.good sh.once tag) (plan_of (frame words) words keys tag) (tree_answers sh st tag bytes)

-- ── the conditions shut each other out, so that each answer is given exactly where its own holds ──
free_known : {X : Type 0} {v : Verdict} → v ≡ free → v ≡ known → X
free_known a b = let z : ◌≡◌ {A = Verdict} free known = sym a ∙ b in let y : ◌≡◌ {A = ℕ} 0 1 = cc in absurd (omega arith)

free_clash : {X : Type 0} {v : Verdict} → v ≡ free → v ≡ clash → X
free_clash a b = let z : ◌≡◌ {A = Verdict} free clash = sym a ∙ b in let y : ◌≡◌ {A = ℕ} 0 1 = cc in absurd (omega arith)

clash_known : {X : Type 0} {v : Verdict} → v ≡ clash → v ≡ known → X
clash_known a b = let z : ◌≡◌ {A = Verdict} clash known = sym a ∙ b in let y : ◌≡◌ {A = ℕ} 0 1 = cc in absurd (omega arith)

module _ (v : Verdict) (full lacking : Type 0) where
  -- a held tag
  pub only_over : (p : Planned) → Answers v full lacking p → v ≡ known → (leaf : ℕ) × (p ≡ Ok (Over leaf))
  only_over (Ok (Over leaf)) h e = (leaf, refl)
  only_over (Ok (New site n gap)) h e = free_known h.0 e
  only_over (Err Clash) h e = clash_known h e
  only_over (Err NoLeaf) h e = free_known h.0 e
  only_over (Err NoRecord) h e = free_known h.0 e
  only_over (Err refusal) h e = absurd h

  -- one that begins a held tag, or is begun by one
  pub only_clash : (p : Planned) → Answers v full lacking p → v ≡ clash → p ≡ Err Clash
  only_clash (Ok (Over leaf)) h e = clash_known e h
  only_clash (Ok (New site n gap)) h e = free_clash h.0 e
  only_clash (Err Clash) h e = refl
  only_clash (Err NoLeaf) h e = free_clash h.0 e
  only_clash (Err NoRecord) h e = free_clash h.0 e
  only_clash (Err refusal) h e = absurd h

  -- any other, with no free leaf
  pub only_full : (p : Planned) → Answers v full lacking p → v ≡ free → full → p ≡ Err NoLeaf
  only_full (Ok (Over leaf)) h e a = free_known e h
  only_full (Ok (New site n gap)) h e a = absurd (h.1 a)
  only_full (Err Clash) h e a = free_clash e h
  only_full (Err NoLeaf) h e a = refl
  only_full (Err NoRecord) h e a = absurd (h.1 a)
  only_full (Err refusal) h e a = absurd h

  -- with one, and no record that it needs
  pub only_lacking : (p : Planned) → Answers v full lacking p → v ≡ free → ¬ full → lacking → p ≡ Err NoRecord
  only_lacking (Ok (Over leaf)) h e a b = free_known e h
  only_lacking (Ok (New site n gap)) h e a b = absurd (h.2 b)
  only_lacking (Err Clash) h e a b = free_clash e h
  only_lacking (Err NoLeaf) h e a b = absurd (a h.1)
  only_lacking (Err NoRecord) h e a b = refl
  only_lacking (Err refusal) h e a b = absurd h

  -- with both
  pub only_new : (p : Planned) → Answers v full lacking p → v ≡ free → ¬ full → ¬ lacking → (site : Site) × (n : ℕ) × (gap : Gap) × (p ≡ Ok (New site n gap))
  only_new (Ok (Over leaf)) h e a b = free_known e h
  only_new (Ok (New site n gap)) h e a b = (site, n, gap, refl)
  only_new (Err Clash) h e a b = free_clash e h
  only_new (Err NoLeaf) h e a b = absurd (a h.1)
  only_new (Err NoRecord) h e a b = absurd (b h.2)
  only_new (Err refusal) h e a b = absurd h
