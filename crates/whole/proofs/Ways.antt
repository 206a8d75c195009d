-- The check's way through the block is the mathematics' way through the store of the records that obey their rules: the marks are the places seen.
use Prim.Native.Nat.{ℕ, zero, suc, ◌+◌, ◌-◌, ◌/◌, ◌<◌}
use mathlib.Core.Path.{◌≡◌, refl, sym, ap, subst, ◌∙◌}
use mathlib.Core.Logic.{inl, inr, ite}
use mathlib.Core.Option.{Option, none, some}
use mathlib.Core.List.{List, [], ◌∷◌, ◌++◌}
use mathlib.Core.Bool.{Bool, true, false, ◌&&◌, and-false}
use native.Mathlib.Omega.{arith}
use native.Mathlib.Numerals.{add-one}
use native.Mathlib.Decide.{ℕ_discrete}
use lib.ListN.{length, get_or, take, drop, set, length-set}
use lib.Seq.{get_or-set_same, get_or-set_other}
use lib.Dec.{eqb}
use borrow.Author.Tests.{eq-eqb, ne_eqb, lt-ltb}
use Rattle.std.specs.Prelude.{Some, None}
use Rattle.std.specs.declared.ops.ControlFlow.TheVariants.{Continue, Break}
use Rattle.whole.specs.Visit.{Visit, Way, way, leaf_visit, turn_of, turn_at, child_end, way_on, record_end, row_by, row_of, record_by, row_way}
use Rattle.lists.specs.Scan.{choose}
use Rattle.lists.proofs.Tests.{both, and_both}
use Rattle.prefix.specs.Run.{held}
use Rattle.frames.specs.Frame.{FrameOf}
use Rattle.frames.specs.Place.{place_at, ref_of, in_pool, start_at, record_at, key_at}
use Rattle.frames.specs.declared.form.Form.{Form}
use Rattle.frames.specs.declared.frame.Frame.{Frame}
use Rattle.frames.proofs.FormTable.{stored_eight}
use Rattle.frames.proofs.Places.{inner_kind, ref_place}
use Rattle.records.specs.Own.{prefix_at, total_of}
use Rattle.records.specs.Row.{row_at}
use Rattle.records.specs.View.{Held, places, raw_cell, rule_at}
use Rattle.records.proofs.Owns.{leaf_rule, inner_rule}
use Rattle.art.specs.Tags.{Tag, tag_dec}
use Rattle.art.specs.Stores.{Place, leaf_place, inner_place, place_dec, Cell, unused, leaf_cell, inner_cell, Store}
use Rattle.art.specs.Members.{In, in_dec}
use Rattle.art.specs.Chain.{Links, leaf_ref, after_ref, follows}
use Rattle.art.proofs.Chains.{after_next}
use Rattle.art.specs.Visit.{and_then, provided, State, marked, listed, enlist}
use Rattle.art.specs.Witness.{Hand, Tells, goes_on, probe_more, probe_refs, probe_run, probe_cell, probe}
use Rattle.tree.specs.Arrive.{arrival_at, arrived, on_path}
use Rattle.whole.specs.Arrive.{inner_rec}
use Rattle.whole.specs.Marks.{places_in, mark_at, unmarked, fresh, reached}
use Rattle.tree.specs.Seen.{tag_at}
use Rattle.whole.specs.Witness.{stored_agrees}
use Rattle.view.specs.Links.{link_at, links_of}
use Rattle.tree.specs.declared.arrive.Arrival.{Arrival}
use Rattle.tree.specs.declared.arrive.Arrival.TheVariants.{Broken}
use Rattle.whole.specs.declared.well_formed.Seen.{Seen}
use Rattle.whole.specs.declared.well_formed.Row.{Row}
use Rattle.tree.proofs.Arrivals.{arrive_leaf, arrive_inner, arrive_spent}
use Rattle.whole.proofs.Marking.{reached_new, mark_off}
use Rattle.whole.proofs.Apart.{mark_room, marks_apart}
use Rattle.whole.proofs.Agreeing.{goes_true, true_goes, stored_true, true_stored}
use Rattle.art.proofs.Witnesses.{longer}
use Rattle.whole.proofs.Turns.{row_none, row_some, first_none, first_some, child_ill, child_well, child_parts, record_ill, record_well, record_parts}
use Rattle.whole.proofs.Turning.{turn_old, turn_new, branches, record_done, record_branch, row_whole}

-- ── tests ──
not-true : {b : Bool} → (b ≡ true → ⊥) → b ≡ false
not-true {b = true} h = absurd (h refl)
not-true {b = false} h = refl

module _ (d : ℕ) (form : Form) (rec : List ℕ) (t : Tag) where
  stored_yes : take 8 (take (get_or rec 2 0) (drop d t)) ≡ held (prefix_at form rec) → stored_agrees d (prefix_at form rec) t ≡ true
  unfolding prefix_at
  stored_yes h = true_stored d (prefix_at form rec) (stored_eight form rec) t h

  stored_no : stored_agrees d (prefix_at form rec) t ≡ true → take 8 (take (get_or rec 2 0) (drop d t)) ≡ held (prefix_at form rec)
  unfolding prefix_at
  stored_no h = stored_true d (prefix_at form rec) (stored_eight form rec) t h

-- ── the store of the records that obey their rules ──
module _ (f : Frame) (words keys : List ℕ) where
  abbrev pub ruled : Store Held
  ruled x = choose (in_pool f x && rule_at f words keys x) (raw_cell f words keys x) unused

  -- a leaf is handed up by its reference
  abbrev pub by_ref : Hand ℕ
  by_ref = record { up = λ n t. leaf_ref n; tag = λ r. tag_at f words keys r }

  abbrev pub obeys : Place → Bool
  obeys x = in_pool f x && rule_at f words keys x

  pub ruled_not : (x : Place) → obeys x ≡ false → ruled x ≡ unused
  ruled_not x e = ap (λ (b : Bool). choose b (raw_cell f words keys x) unused) e

  pub ruled_raw : (x : Place) → obeys x ≡ true → ruled x ≡ raw_cell f words keys x
  ruled_raw x e = ap (λ (b : Bool). choose b (raw_cell f words keys x) unused) e

  pub tag_here : (n : ℕ) → tag_at f words keys (leaf_ref n) ≡ take (get_or (record_at f words (leaf_place n)) 1 0) (key_at f keys n)
  unfolding tag_at
  tag_here n = ap (λ (i : ℕ). take (get_or (record_at f words (leaf_place i)) 1 0) (key_at f keys i)) (let q : leaf_ref n / 8 ≡ n = omega arith in q)

  abbrev holds : ℕ → Held
  holds n = record { number = n; total = total_of (record_at f words (leaf_place n)) }

  pub ruled_leaf : (n : ℕ) → obeys (leaf_place n) ≡ true → ruled (leaf_place n) ≡ leaf_cell (tag_at f words keys (leaf_ref n)) (holds n)
  ruled_leaf n e =
      let r = leaf_rule f.form.limit (record_at f words (leaf_place n)) (key_at f keys n) (both (in_pool f (leaf_place n)) (rule_at f words keys (leaf_place n)) e).1 in
      ruled_raw (leaf_place n) e
      ∙ ap (λ (b : Bool). choose b unused (leaf_cell (take (get_or (record_at f words (leaf_place n)) 1 0) (key_at f keys n)) (holds n)))
      (ne_eqb (get_or (record_at f words (leaf_place n)) 0 0) 0 (λ z. omega (arith, r.used)))
      ∙ ap (λ (t : Tag). leaf_cell t (holds n)) (sym (tag_here n))

  pub tells : Tells by_ref ruled
  tells n t a e = go (obeys (leaf_place n)) refl
    where
      go : (b : Bool) → obeys (leaf_place n) ≡ b → tag_at f words keys (leaf_ref n) ≡ t
      go true o = let q : ◌≡◌ {A = Cell Held} (leaf_cell (tag_at f words keys (leaf_ref n)) (holds n)) (leaf_cell t a) = sym (ruled_leaf n o) ∙ e in cc
      go false o = let q : ◌≡◌ {A = Cell Held} unused (leaf_cell t a) = sym (ruled_not (leaf_place n) o) ∙ e in let z : ◌≡◌ {A = ℕ} 0 1 = cc in absurd (omega arith)

  -- ── the marks are the places seen ──
  pub record Tally (m : List ℕ) (s : Seen) (z : State) : Type 0 where
    pub long : length m ≡ places_in f
    pub on : (x : Place) → in_pool f x ≡ true → In x z.seen → get_or m (mark_at f x) 0 ≡ 0 → ⊥
    pub off : (x : Place) → in_pool f x ≡ true → ¬ In x z.seen → get_or m (mark_at f x) 0 ≡ 0
    pub rules : (x : Place) → In x z.seen → obeys x ≡ true
    pub prev : s.prev ≡ z.prev
    pub next : s.next ≡ after_ref (links_of f words) z.prev
    pub count : s.count ≡ z.count

  -- the two ways end alike
  abbrev pub Same : Way → Option (ℕ × State) → Type 0
  Same x none = x.visit ≡ None
  Same x (some h) = (s : Seen) × (x.visit ≡ Some (h.0, s)) × (h.0 ≡ 0 → ⊥) × Tally x.marks s h.1

  abbrev SameRow : ℕ → Way → Option State → Type 0
  SameRow w x none = x.visit ≡ None
  SameRow w x (some z) = (s : Seen) × (x.visit ≡ Some (w, s)) × Tally x.marks s z

  abbrev Checking : Type 0
  Checking = ℕ → ℕ → List ℕ → Seen → Way

  abbrev Probing : Type 0
  Probing = ℕ → Place → State → Option (ℕ × State)

  abbrev Agrees : Checking → Probing → Type 0
  Agrees g go = (ref d : ℕ) (m : List ℕ) (s : Seen) (z : State) → Tally m s z → Same (g ref d m s) (go d (place_at ref) z)

  -- ── a place is marked ──
  module _ {m : List ℕ} {s : Seen} {z : State} (t : Tally m s z) (x : Place) (p : in_pool f x ≡ true) where
    tally_room : mark_at f x < length m
    tally_room = omega (arith, t.long, mark_room f x p)

    new_unmarked : ¬ In x z.seen → unmarked (mark_at f x) m ≡ true
    new_unmarked n = and_both (lt-ltb _ _ tally_room) (eq-eqb _ _ (t.off x p n))

    old_marked : In x z.seen → unmarked (mark_at f x) m ≡ false
    old_marked i = mark_off (mark_at f x) m (t.on x p i)

    tally_marked : rule_at f words keys x ≡ true → ¬ In x z.seen → Tally (set m (mark_at f x) 1) s (marked x z)
    tally_marked r n =
        record {
          long = length-set m (mark_at f x) 1 ∙ t.long;
          on = λ y q i. set_on y q i (ℕ_discrete (mark_at f y) (mark_at f x));
          off = λ y q i. get_or-set_other m (mark_at f x) (mark_at f y) 1 0 (λ e. i (inl (marks_apart f y x q p e))) ∙ t.off y q (λ j. i (inr j));
          rules = λ y i. seen_rules y i;
          prev = t.prev;
          next = t.next;
          count = t.count;
        }
      where
        here : (y : Place) → mark_at f y ≡ mark_at f x → get_or (set m (mark_at f x) 1) (mark_at f y) 0 ≡ 1
        here y e = ap (λ (k : ℕ). get_or (set m (mark_at f x) 1) k 0) e ∙ get_or-set_same m (mark_at f x) 1 0 tally_room

        set_on : (y : Place) → in_pool f y ≡ true → In y (x ∷ z.seen) → Dec (mark_at f y ≡ mark_at f x) → get_or (set m (mark_at f x) 1) (mark_at f y) 0 ≡ 0 → ⊥
        set_on y q i (yes e) h = omega (arith, here y e)
        set_on y q (inl e) (no k) h = k (ap (mark_at f) e)
        set_on y q (inr i) (no k) h = t.on y q i (sym (get_or-set_other m (mark_at f x) (mark_at f y) 1 0 k) ∙ h)

        seen_rules : (y : Place) → In y (x ∷ z.seen) → obeys y ≡ true
        seen_rules y (inl e) = ap obeys e ∙ and_both p r
        seen_rules y (inr i) = t.rules y i

  -- ── a leaf ──
  link_in : (i n : ℕ) → in_pool f (leaf_place n) ≡ true → link_at f words i n ≡ get_or (record_at f words (leaf_place n)) i 0
  link_in i n p = ap (λ (b : Bool). choose {A = ℕ} b (get_or (record_at f words (leaf_place n)) i 0) 0) p

  leaf_same : (n ref : ℕ) (m : List ℕ) (s : Seen) (z : State) → in_pool f (leaf_place n) ≡ true → ref ≡ leaf_ref n → Tally m s z
      → Same (way (leaf_visit (record_at f words (leaf_place n)) ref s) m) (and_then (enlist (follows (links_of f words)) n z) (λ y. some (leaf_ref n, y)))
  unfolding leaf_visit links_of
  leaf_same n ref m s z p e t = subst (λ (b : Bool). Same (way (choose b (Some (ref, after)) None) m) (and_then (provided (follows k z.prev n) (listed n z)) (λ y. some (leaf_ref n, y)))) (sym tests) (go (follows k z.prev n))
    where
      k : Links
      k = links_of f words

      rec : List ℕ
      rec = record_at f words (leaf_place n)

      after : Seen
      after = record { prev = ref; next = get_or rec 3 0; count = s.count + 1 }

      tests : eqb (get_or rec 2 0) s.prev && eqb s.next ref ≡ follows k z.prev n
      tests =
          ap (λ (x : ℕ). eqb x s.prev && eqb s.next ref) (sym (link_in 2 n p))
          ∙ ap (λ (x : ℕ). eqb (link_at f words 2 n) x && eqb s.next ref) t.prev
          ∙ ap (λ (x : ℕ). eqb (link_at f words 2 n) z.prev && eqb x ref) t.next
          ∙ ap (λ (x : ℕ). eqb (link_at f words 2 n) z.prev && eqb (after_ref k z.prev) x) e

      go : (b : Bool) → Same (way (choose b (Some (ref, after)) None) m) (and_then (provided b (listed n z)) (λ y. some (leaf_ref n, y)))
      go true = (
        after,
        ap (λ (x : ℕ). (Some (x, after))) e,
        (λ q. omega arith),
        record {
          long = t.long;
          on = t.on;
          off = t.off;
          rules = t.rules;
          prev = e;
          next = sym (link_in 3 n p) ∙ sym (after_next k n);
          count = ap (λ (x : ℕ). x + 1) t.count;
        },
      )
      go false = refl

  -- ── a child of a row, after the first ──
  more_step : (e w b : ℕ) (x : Way) (o : Option (ℕ × State)) → Same x o → (w ≡ 0 → ⊥) → e < length (tag_at f words keys w) → (k : ℕ → List ℕ → Seen → Way) (q : State → Option State)
      → ((m : List ℕ) (s : Seen) (z : State) → Tally m s z → SameRow w (k w m s) (q z))
      → SameRow w (way_on (child_end f words keys e b w x.visit) x.marks k) (and_then o (λ h. ite (goes_on e (tag_at f words keys w) b (tag_at f words keys h.0)) (q h.1) none))
  more_step e w b x none h n l k q r = ap (λ (v : Visit). (way_on v x.marks k).visit) (sym (child_ill f words keys e b w h))
  more_step e w b x (some h) i n l k q r = go (goes_on e (tag_at f words keys w) b (tag_at f words keys h.0))
    where
      -- the child hands up a leaf
      by : (v : Visit) → child_end f words keys e b w x.visit ≡ v → (o : Option State) → SameRow w (way_on v x.marks k) o → SameRow w (way_on (child_end f words keys e b w x.visit) x.marks k) o
      by v a o j = subst (λ (u : Visit). SameRow w (way_on u x.marks k) o) (sym a) j

      go : (d : Dec (take (suc e) (tag_at f words keys h.0) ≡ take e (tag_at f words keys w) ++ b ∷ [])) → SameRow w (way_on (child_end f words keys e b w x.visit) x.marks k) (ite d (q h.1) none)
      go (yes a) =
          by (Some (w, i.0)) (sym (child_well f words keys e b w i.1 (first_some w h.0 n) (true_goes e (tag_at f words keys w) b (tag_at f words keys h.0) l a))) (q h.1) (r x.marks i.0 h.1 i.3)
      go (no a) =
          by None (sym (child_parts f words keys e b w i.1 (first_some w h.0 n) (not-true (λ g. a (goes_true e (tag_at f words keys w) b (tag_at f words keys h.0) g))))) none refl

  more_same : (g : Checking) (go : Probing) → Agrees g go → (cs : List (ℕ × ℕ)) (e w : ℕ) (m : List ℕ) (s : Seen) (z : State) → (w ≡ 0 → ⊥) → e < length (tag_at f words keys w) → Tally m s z
      → SameRow w (row_by f words keys g e w cs m s) (probe_more by_ref (places cs) e w (λ y u. go (suc e) y u) z)
  unfolding row_by
  more_same g go a [] e w m s z n l t = (s, sym (row_some w s n), t)
  more_same g go a (c ∷ cs) e w m s z n l t =
      more_step e w c.0 (g c.1 (e + 1) m s) (go (suc e) (place_at c.1) z)
      (subst (λ (d : ℕ). Same (g c.1 (e + 1) m s) (go d (place_at c.1) z)) (add-one e) (a c.1 (e + 1) m s z t)) n l
      (λ u m' s'. row_by f words keys g e u cs m' s') (λ z'. probe_more by_ref (places cs) e w (λ y u. go (suc e) y u) z') (λ m' s' z' t'. more_same g go a cs e w m' s' z' n l t')

  -- ── a row ──
  row_up : (w : ℕ) (x : Way) (o : Option State) → (w ≡ 0 → ⊥) → SameRow w x o → Same x (and_then o (λ z. some (w, z)))
  row_up w x none n h = h
  row_up w x (some z) n h = (h.0, h.1, n, h.2)

  refs_step : (e b : ℕ) (x : Way) (o : Option (ℕ × State)) → Same x o → (k : ℕ → List ℕ → Seen → Way) (q : ℕ → State → Option State)
      → ((w : ℕ) (m : List ℕ) (s : Seen) (z : State) → (w ≡ 0 → ⊥) → e < length (tag_at f words keys w) → Tally m s z → SameRow w (k w m s) (q w z))
      → Same (way_on (child_end f words keys e b 0 x.visit) x.marks k)
      (and_then o (λ h. ite (goes_on e (tag_at f words keys h.0) b (tag_at f words keys h.0)) (and_then (q h.0 h.1) (λ s'. some (h.0, s'))) none))
  refs_step e b x none h k q r = ap (λ (v : Visit). (way_on v x.marks k).visit) (sym (child_ill f words keys e b 0 h))
  refs_step e b x (some h) i k q r = go (goes_on e (tag_at f words keys h.0) b (tag_at f words keys h.0))
    where
      by : (v : Visit) → child_end f words keys e b 0 x.visit ≡ v → (o : Option (ℕ × State)) → Same (way_on v x.marks k) o → Same (way_on (child_end f words keys e b 0 x.visit) x.marks k) o
      by v a o j = subst (λ (u : Visit). Same (way_on u x.marks k) o) (sym a) j

      go : (d : Dec (take (suc e) (tag_at f words keys h.0) ≡ take e (tag_at f words keys h.0) ++ b ∷ []))
          → Same (way_on (child_end f words keys e b 0 x.visit) x.marks k) (ite d (and_then (q h.0 h.1) (λ s'. some (h.0, s'))) none)
      go (yes a) =
          let l = longer e b (tag_at f words keys h.0) a in
          by (Some (h.0, i.0)) (sym (child_well f words keys e b 0 i.1 (first_none 0 h.0 refl) (true_goes e (tag_at f words keys h.0) b (tag_at f words keys h.0) l a)))
          (and_then (q h.0 h.1) (λ s'. some (h.0, s'))) (row_up h.0 (k h.0 x.marks i.0) (q h.0 h.1) i.2 (r h.0 x.marks i.0 h.1 i.2 l i.3))
      go (no a) =
          by None (sym (child_parts f words keys e b 0 i.1 (first_none 0 h.0 refl) (not-true (λ g. a (goes_true e (tag_at f words keys h.0) b (tag_at f words keys h.0) g))))) none refl

  refs_same : (g : Checking) (go : Probing) → Agrees g go → (cs : List (ℕ × ℕ)) (e : ℕ) (m : List ℕ) (s : Seen) (z : State) → Tally m s z
      → Same (row_by f words keys g e 0 cs m s) (probe_refs by_ref (places cs) e (λ y u. go (suc e) y u) z)
  unfolding row_by
  refs_same g go a [] e m s z t = sym (row_none 0 s refl)
  refs_same g go a (c ∷ cs) e m s z t =
      refs_step e c.0 (g c.1 (e + 1) m s) (go (suc e) (place_at c.1) z)
      (subst (λ (d : ℕ). Same (g c.1 (e + 1) m s) (go d (place_at c.1) z)) (add-one e) (a c.1 (e + 1) m s z t))
      (λ u m' s'. row_by f words keys g e u cs m' s') (λ w z'. probe_more by_ref (places cs) e w (λ y u. go (suc e) y u) z') (λ w m' s' z' n l t'. more_same g go a cs e w m' s' z' n l t')

  -- ── a record's end ──
  end_same : (row : Row) (d : ℕ) (x : Way) (o : Option (ℕ × State)) → Same x o → (rec : List ℕ) → rec ≡ inner_rec f.form words row.kind row.start
      → Same (way (record_end f words keys row d x.visit) x.marks) (and_then o (λ h. probe_run by_ref d (get_or rec 2 0) (held (prefix_at f.form rec)) h))
  end_same row d x none h rec e = sym (record_ill f words keys row d h)
  end_same row d x (some h) i rec e = go (tag_dec (take 8 (take (get_or rec 2 0) (drop d (tag_at f words keys h.0)))) (held (prefix_at f.form rec)))
    where
      agreed : stored_agrees d (prefix_at f.form rec) (tag_at f words keys h.0) ≡ stored_agrees d (prefix_at f.form (inner_rec f.form words row.kind row.start)) (tag_at f words keys h.0)
      agreed = ap (λ (l : List ℕ). stored_agrees d (prefix_at f.form l) (tag_at f words keys h.0)) e

      go : (c : Dec (take 8 (take (get_or rec 2 0) (drop d (tag_at f words keys h.0))) ≡ held (prefix_at f.form rec)))
          → Same (way (record_end f words keys row d x.visit) x.marks) (ite c (some h) none)
      go (yes a) = (i.0, sym (record_well f words keys row d i.1 (sym agreed ∙ stored_yes d f.form rec (tag_at f words keys h.0) a)), i.2, i.3)
      go (no a) = sym (record_parts f words keys row d i.1 (not-true (λ g. a (stored_no d f.form rec (tag_at f words keys h.0) (agreed ∙ g)))))

  -- ── a record ──
  abbrev link : ℕ → ℕ → Bool
  link = follows (links_of f words)

  -- the way with so many inner records left
  abbrev pub probing : ℕ → Probing
  probing left d x z = probe by_ref link (suc left) ruled d x z

  probe_unused : (o : Option State) (x : Place) (d : ℕ) (go : Probing) → and_then o (λ y. probe_cell by_ref link {A = Held} x unused d go y) ≡ none
  probe_unused none x d go = refl
  probe_unused (some z) (leaf_place n) d go = refl
  probe_unused (some z) (inner_place k n) d go = refl

  refs_none : (rs : List (ℕ × Place)) (e : ℕ) (z : State) → probe_refs by_ref rs e (λ y u. none) z ≡ none
  refs_none [] e z = refl
  refs_none (c ∷ rs) e z = refl

  and_three : (a b c : Bool) → a && b ≡ false → a && (b && c) ≡ false
  and_three true b c e = ap (λ (x : Bool). x && c) e
  and_three false b c e = refl

  broken : (left : ℕ) (x : Place) → obeys x ≡ false → arrival_at f words keys left x ≡ Broken
  unfolding arrival_at
  broken left x e = ap (λ (b : Bool). choose b (arrived f x) Broken) (and_three (in_pool f x) (rule_at f words keys x) (on_path left x) e)

  module _ (left ref d : ℕ) (m : List ℕ) (s : Seen) where
    turn_ill : arrival_at f words keys left (place_at ref) ≡ Broken → turn_at f words keys left ref d m s ≡ Break None
    unfolding turn_at
    turn_ill e = go (fresh f ref m)
      where
        go : (b : Bool) → choose b (turn_of f words ref d s (arrival_at f words keys left (place_at ref))) (Break None) ≡ Break None
        go true = ap (turn_of f words ref d s) e
        go false = refl

    record_ends : arrival_at f words keys left (place_at ref) ≡ Broken → (record_by f words keys left ref d m s).visit ≡ None
    record_ends e = ap (λ (x : Way). x.visit) (record_done f words keys left ref d m s None (turn_ill e))

    module _ {z : State} (t : Tally m s z) (x : Place) (e : place_at ref ≡ x) (o : obeys x ≡ true) where
      abbrev pool : in_pool f x ≡ true
      pool = (both (in_pool f x) (rule_at f words keys x) o).0

      abbrev rule : rule_at f words keys x ≡ true
      rule = (both (in_pool f x) (rule_at f words keys x) o).1

      old_ends : In x z.seen → (record_by f words keys left ref d m s).visit ≡ None
      unfolding fresh
      old_ends i =
          let h : fresh f ref m ≡ false =
          ap (λ (y : Place). in_pool f y && unmarked (mark_at f y) m) e ∙ ap (λ (b : Bool). in_pool f x && b) (old_marked t x pool i) ∙ and-false (in_pool f x) in
          ap (λ (y : Way). y.visit) (record_done f words keys left ref d m s None (sym (turn_old f words keys left ref d m s h)))

      module _ (n : ¬ In x z.seen) where
        new_fresh : fresh f ref m ≡ true
        unfolding fresh
        new_fresh = ap (λ (y : Place). in_pool f y && unmarked (mark_at f y) m) e ∙ and_both pool (new_unmarked t x pool n)

        new_reached : reached f ref m ≡ set m (mark_at f x) 1
        new_reached = reached_new f ref m new_fresh ∙ ap (λ (y : Place). set m (mark_at f y) 1) e

        new_turn : {a : Arrival} → a ≡ arrival_at f words keys left x → turn_at f words keys left ref d m s ≡ turn_of f words ref d s a
        new_turn h = sym (turn_new f words keys left ref d m s new_fresh (h ∙ ap (arrival_at f words keys left) (sym e)) refl)

        new_tally : Tally (set m (mark_at f x) 1) s (marked x z)
        new_tally = tally_marked t x pool rule n

  leaf_at : (left ref d n : ℕ) (m : List ℕ) (s : Seen) (z : State) (t : Tally m s z) (e : place_at ref ≡ leaf_place n) (o : obeys (leaf_place n) ≡ true) → ¬ In (leaf_place n) z.seen
      → Same (record_by f words keys left ref d m s) (probe_cell by_ref link (leaf_place n) (ruled (leaf_place n)) d (λ e y u. probe by_ref link left ruled e y u) (marked (leaf_place n) z))
  leaf_at left ref d n m s z t e o j =
      let x = leaf_place n in
      let start = start_at f x in
      let p = both (in_pool f x) (rule_at f words keys x) o in
      let m' = set m (mark_at f x) 1 in
      let turn : turn_at f words keys left ref d m s ≡ Break (leaf_visit (record_at f words x) ref s) =
      new_turn left ref d m s t x e o j (arrive_leaf f words keys left x p.0 p.1 start refl n refl) in
      let way_is : record_by f words keys left ref d m s ≡ way (leaf_visit (record_at f words x) ref s) m' =
      record_done f words keys left ref d m s (leaf_visit (record_at f words x) ref s) turn ∙ ap (way (leaf_visit (record_at f words x) ref s)) (new_reached left ref d m s t x e o j) in
      let named : ref ≡ leaf_ref n = sym (ref_place ref) ∙ ap ref_of e in
      subst (λ (c : Cell Held). Same (record_by f words keys left ref d m s) (probe_cell by_ref link x c d (λ e y u. probe by_ref link left ruled e y u) (marked x z))) (sym (ruled_leaf n o))
      (subst (λ (r : Way). Same r (and_then (enlist link n (marked x z)) (λ y. some (leaf_ref n, y)))) (sym way_is)
      (leaf_same n ref m' s (marked x z) p.0 named (new_tally left ref d m s t x e o j)))

  module _ (fr : FrameOf f words keys) where
    pub ruled_inner : (k n : ℕ) → obeys (inner_place k n) ≡ true
        → ruled (inner_place k n)
        ≡ inner_cell (get_or (record_at f words (inner_place k n)) 2 0) (held (prefix_at f.form (record_at f words (inner_place k n)))) (places (row_at f.form k (record_at f words (inner_place k n))))
    ruled_inner k n o =
        let x = inner_place k n in
        let rec = record_at f words x in
        let p = both (in_pool f x) (rule_at f words keys x) o in
        let h = inner_kind fr k n p.0 in
        let r = inner_rule f.form k rec p.1 in
        ruled_raw x o
        ∙ ap (λ (b : Bool). choose b unused (inner_cell (get_or rec 2 0) (held (prefix_at f.form rec)) (places (row_at f.form k rec))))
        (ne_eqb (get_or rec 0 0) 0 (λ z. omega (arith, h.0, r.head.kind_word)))

    inner_at : (left : ℕ) → ((l : ℕ) → left ≡ suc l → Agrees (record_by f words keys l) (probing l)) → (ref d k n : ℕ) (m : List ℕ) (s : Seen) (z : State) (t : Tally m s z) (e : place_at ref ≡ inner_place k n)
        (o : obeys (inner_place k n) ≡ true) → ¬ In (inner_place k n) z.seen
        → Same (record_by f words keys left ref d m s) (probe_cell by_ref link (inner_place k n) (ruled (inner_place k n)) d (λ e y u. probe by_ref link left ruled e y u) (marked (inner_place k n) z))
    inner_at zero ih ref d k n m s z t e o j =
        let x = inner_place k n in
        let rec = record_at f words x in
        let p = both (in_pool f x) (rule_at f words keys x) o in
        let spent : arrival_at f words keys 0 (place_at ref) ≡ Broken =
        ap (arrival_at f words keys 0) e ∙ sym (arrive_spent f words keys 0 x p.0 p.1 (start_at f x) refl k n refl refl) in
        let ends : probe_cell by_ref link x (ruled x) d (λ e y u. probe by_ref link 0 ruled e y u) (marked x z) ≡ none =
        ap (λ (c : Cell Held). probe_cell by_ref link x c d (λ e y u. probe by_ref link 0 ruled e y u) (marked x z)) (ruled_inner k n o)
        ∙ ap (λ (r : Option (ℕ × State)). and_then r (λ h. probe_run by_ref d (get_or rec 2 0) (held (prefix_at f.form rec)) h)) (refs_none (places (row_at f.form k rec)) (d + get_or rec 2 0) (marked x z)) in
        subst (Same (record_by f words keys 0 ref d m s)) (sym ends) (record_ends 0 ref d m s spent)
    inner_at (suc l) ih ref d k n m s z t e o j =
        let x = inner_place k n in
        let rec = record_at f words x in
        let p = both (in_pool f x) (rule_at f words keys x) o in
        let row : Row = record { kind = k; start = start_at f x; depth = d + get_or rec 2 0 } in
        let m' = set m (mark_at f x) 1 in
        let turn : turn_at f words keys (suc l) ref d m s ≡ Continue row =
        new_turn (suc l) ref d m s t x e o j (arrive_inner f words keys (suc l) x p.0 p.1 (start_at f x) refl k n refl (λ q. omega arith)) in
        let h = branches fr (suc l) ref d m s row turn in
        let below : Way = row_by f words keys (record_by f words keys l) (d + get_or rec 2 0) 0 (row_of f words row) m' s in
        let below_is : row_way f words keys (suc l - 1) row 256 0 (reached f ref m) s ≡ below =
        ap (λ (i : ℕ). row_way f words keys i row 256 0 (reached f ref m) s) (let q : suc l - 1 ≡ l = omega arith in q)
        ∙ ap (λ (cs : List (ℕ × ℕ)). row_by f words keys (record_by f words keys l) (d + get_or rec 2 0) 0 cs (reached f ref m) s) (row_whole f words row h.there (256 - 256) refl)
        ∙ ap (λ (u : List ℕ). row_by f words keys (record_by f words keys l) (d + get_or rec 2 0) 0 (row_of f words row) u s) (new_reached (suc l) ref d m s t x e o j) in
        let way_is : record_by f words keys (suc l) ref d m s ≡ way (record_end f words keys row d below.visit) below.marks =
        record_branch f words keys (suc l) ref d m s row turn h ∙ ap (λ (y : Way). way (record_end f words keys row d y.visit) y.marks) below_is in
        subst (λ (c : Cell Held). Same (record_by f words keys (suc l) ref d m s) (probe_cell by_ref link x c d (λ e y u. probe by_ref link (suc l) ruled e y u) (marked x z))) (sym (ruled_inner k n o))
        (subst
        (λ (r : Way). Same r
        (and_then (probe_refs by_ref (places (row_at f.form k rec)) (d + get_or rec 2 0) (λ y u. probing l (suc (d + get_or rec 2 0)) y u) (marked x z))
        (λ h. probe_run by_ref d (get_or rec 2 0) (held (prefix_at f.form rec)) h)))
        (sym way_is)
        (end_same row d below (probe_refs by_ref (places (row_at f.form k rec)) (d + get_or rec 2 0) (λ y u. probing l (suc (d + get_or rec 2 0)) y u) (marked x z))
        (refs_same (record_by f words keys l) (probing l) (ih l refl) (row_at f.form k rec) (d + get_or rec 2 0) m' s (marked x z) (new_tally (suc l) ref d m s t x e o j)) rec refl))

    at_same : (left : ℕ) → ((l : ℕ) → left ≡ suc l → Agrees (record_by f words keys l) (probing l)) → Agrees (record_by f words keys left) (probing left)
    at_same left ih ref d m s z t = by (place_at ref) refl (obeys (place_at ref)) refl (in_dec place_dec (place_at ref) z.seen)
      where
        go : Probing
        go e y u = probe by_ref link left ruled e y u

        by : (x : Place) → place_at ref ≡ x → (b : Bool) → obeys x ≡ b → (c : Dec (In x z.seen))
            → Same (record_by f words keys left ref d m s) (and_then (ite c none (some (marked x z))) (λ y. probe_cell by_ref link x (ruled x) d (λ e y u. probe by_ref link left ruled e y u) y))
        by x e false o c =
            subst (Same (record_by f words keys left ref d m s))
            (sym
            (ap (λ (q : Cell Held). and_then (ite c none (some (marked x z))) (λ y. probe_cell by_ref link x q d go y)) (ruled_not x o)
            ∙ probe_unused (ite c none (some (marked x z))) x d go))
            (record_ends left ref d m s (ap (arrival_at f words keys left) e ∙ broken left x o))
        by x e true o (yes i) = old_ends left ref d m s t x e o i
        by (leaf_place n) e true o (no j) = leaf_at left ref d n m s z t e o j
        by (inner_place k n) e true o (no j) = inner_at left ih ref d k n m s z t e o j

    -- the check of a record and the mathematics' way end alike
    pub record_same : (left : ℕ) → Agrees (record_by f words keys left) (probing left)
    record_same zero ref d m s z t = at_same zero (λ l e. absurd (let q : ◌≡◌ {A = ℕ} 0 1 = cc in omega arith)) ref d m s z t
    record_same (suc l) ref d m s z t =
        at_same (suc l) (λ j e. subst (λ (i : ℕ). Agrees (record_by f words keys i) (probing i)) (let q : l ≡ j = omega arith in q) (λ ref d m s z t. record_same l ref d m s z t)) ref d m s z t
