-- The way without the path accepts just what the way with the path does: the path is the beginning of the witness.
use mathlib.Core.Path.{◌≡◌, refl, sym, ap, subst, ◌∙◌}
use mathlib.Core.Logic.{ite, if_pos}
use mathlib.Core.Bool.{Bool}
use mathlib.Core.Option.{Option, none, some}
use mathlib.Core.List.{List, [], ◌∷◌, ◌++◌, append_assoc}
use Prim.Native.Nat.{ℕ, zero, suc, ◌+◌, ◌<◌}
use native.Mathlib.Decide.{ℕ_discrete}
use native.Mathlib.Omega.{arith}
use lib.ListN.{length, take, drop, length-append, length-take, length-drop, take-append-drop}
use lib.Seq.{take-add, take-append_seam, length-take-le, take_at}
use Rattle.art.specs.Tags.{Tag, Begins, begins_dec, tag_dec}
use Rattle.art.specs.Stores.{Place, cell_tag, leaf_place, inner_place, Cell, unused, leaf_cell, inner_cell, Store}
use Rattle.art.specs.ReadBack.{first_cell, first_tag}
use Rattle.art.proofs.ReadBack.{some_inj}
use Rattle.art.specs.Visit.{and_then, State, mark, enlist, visit_refs, visit_run, visit_cell, visit}
use Rattle.art.specs.Witness.{Hand, by_number, Tells, goes_on, probe_more, probe_refs, probe_run, probe_cell, probe}

none_some : {X Y : Type 0} {y : Y} → none ≡ some y → X
none_some e = let z : ◌≡◌ {A = ℕ} 0 1 = cc in absurd (omega arith)

then_some : {X Y : Type 0} (o : Option X) (f : X → Option Y) (y : Y) → and_then o f ≡ some y → (x : X) × (o ≡ some x) × (f x ≡ some y)
then_some none f y e = none_some e
then_some (some x) f y e = (x, refl, e)

ite_some : {P Y : Type 0} (d : Dec P) (o : Option Y) (y : Y) → ite d o none ≡ some y → P × (o ≡ some y)
ite_some (yes p) o y e = (p, e)
ite_some (no n) o y e = none_some e

-- ── what a row asks of a witness ──
-- a witness goes on from its own first e bytes where it is longer, and has the byte there
pub longer : (e b : ℕ) (t : Tag) → take (suc e) t ≡ take e t ++ b ∷ [] → e < length t
longer e b t h = omega (arith, length-take (suc e) t, length-take e t, length-append (take e t) (b ∷ []), ap length h)

begin_take : (d : ℕ) (w : Tag) → Begins (take d w) w
begin_take d w = (drop d w, sym (take-append-drop d w))

take_begun : (p w : Tag) → Begins p w → take (length p) w ≡ p
take_begun p w b = rw b.1 (take-append_seam p b.0)

abbrev Visiting : Type 0
Visiting = Tag → Place → State → Option State

-- the run that the path reads from the witness is the one that the probe compares
run_visited : (len : ℕ) (st : List ℕ) (rs : List (ℕ × Place)) (o : Option Tag) (go : Visiting) (d : ℕ) (s : State) (w : Tag) (z : State) → d + len < length w → o ≡ some w
    → visit_refs rs (take (d + len) w) go s ≡ some z → take 8 (take len (drop d w)) ≡ st → visit_run len st rs o (take d w) go s ≡ some z
run_visited len st rs o go d s w z l e v i =
    let at : length (take d w) ≡ d = length-take-le d w (omega arith) in
    let run : take len (drop (length (take d w)) w) ≡ take len (drop d w) = ap (λ (k : ℕ). take len (drop k w)) at in
    let whole : take d w ++ take len (drop (length (take d w)) w) ≡ take (d + len) w = ap (λ (t : Tag). take d w ++ t) run ∙ sym (take-add d len w) in
    let long : length (take len (drop (length (take d w)) w)) ≡ len = ap length run ∙ length-take-le len (drop d w) (omega (arith, length-drop d w)) in
    ap (λ (p : Option Tag). visit_run len st rs p (take d w) go s) e
    ∙ if_pos (ℕ_discrete (length (take len (drop (length (take d w)) w))) len) long _ _
    ∙ if_pos (tag_dec (take 8 (take len (drop (length (take d w)) w))) st) (ap (take 8) run ∙ i) _ _
    ∙ ap (λ (q : Tag). visit_refs rs q go s) whole ∙ v

-- a tag below a path and a byte goes on from the path with that byte
goes_below : (q : Tag) (b : ℕ) (w t : Tag) → take (length q) w ≡ q → Begins (q ++ b ∷ []) t → take (suc (length q)) t ≡ take (length q) w ++ b ∷ []
goes_below q b w t e h = rw h.1 (take_at (q ++ b ∷ []) h.0 (suc (length q)) (omega (arith, length-append q (b ∷ []))) ∙ ap (λ (p : Tag). p ++ b ∷ []) (sym e))

module _ {W : Type 0} (k : Hand W) where
  abbrev Probing : Type 0
  Probing = ℕ → Place → State → Option (W × State)

  -- ── what is handed up is visited ──
  -- the tag of what a probe hands up is the first, and the visit below its beginning ends in the same state
  abbrev Backed : (Place → Option Tag) → Visiting → Probing → Type 0
  Backed first go try = (d : ℕ) (y : Place) (s : State) (h : W × State) → try d y s ≡ some h → (first y ≡ some (k.tag h.0)) × (go (take d (k.tag h.0)) y s ≡ some h.1)

  more_visited : (first : Place → Option Tag) (go : Visiting) (try : Probing) → Backed first go try → (rs : List (ℕ × Place)) (e : ℕ) (w : W) (s z : State)
      → probe_more k rs e w (λ y x. try (suc e) y x) s ≡ some z → visit_refs rs (take e (k.tag w)) go s ≡ some z
  more_visited first go try f [] e w s z q = q
  more_visited first go try f (c ∷ rs) e w s z q =
      let a = then_some (try (suc e) c.1 s) (λ h. ite (goes_on e (k.tag w) c.0 (k.tag h.0)) (probe_more k rs e w (λ y x. try (suc e) y x) h.1) none) z q in
      let b = ite_some (goes_on e (k.tag w) c.0 (k.tag a.0.0)) (probe_more k rs e w (λ y x. try (suc e) y x) a.0.1) z a.2 in
      ap (λ (o : Option State). and_then o (λ s'. visit_refs rs (take e (k.tag w)) go s')) (ap (λ (p : Tag). go p c.1 s) (sym b.0) ∙ (f (suc e) c.1 s a.0 a.1).1)
      ∙ more_visited first go try f rs e w a.0.1 z b.1

  refs_visited : (A : Type 0) (first : Place → Option Tag) (go : Visiting) (try : Probing) → Backed first go try
      → (len : ℕ) (st : List ℕ) (rs : List (ℕ × Place)) (e : ℕ) (s : State) (h : W × State)
      → probe_refs k rs e (λ y x. try (suc e) y x) s ≡ some h
      → (e < length (k.tag h.0)) × (first_cell {A = A} (inner_cell len st rs) first ≡ some (k.tag h.0)) × (visit_refs rs (take e (k.tag h.0)) go s ≡ some h.1)
  refs_visited A first go try f len st [] e s h q = none_some q
  refs_visited A first go try f len st (c ∷ rs) e s h q =
      let more : W × State → Option (W × State) = λ g. and_then (probe_more k rs e g.0 (λ y x. try (suc e) y x) g.1) (λ s'. some (g.0, s')) in
      let a = then_some (try (suc e) c.1 s) (λ g. ite (goes_on e (k.tag g.0) c.0 (k.tag g.0)) (more g) none) h q in
      let w : Tag = k.tag a.0.0 in
      let b = ite_some (goes_on e w c.0 w) (more a.0) h a.2 in
      let m = then_some (probe_more k rs e a.0.0 (λ y x. try (suc e) y x) a.0.1) (λ s'. some (a.0.0, s')) h b.1 in
      let i = f (suc e) c.1 s a.0 a.1 in
      let same : w ≡ k.tag h.0 = ap (λ (g : W × State). k.tag g.0) (some_inj m.2) in
      let ends : m.0 ≡ h.1 = ap (λ (g : W × State). g.1) (some_inj m.2) in (
        subst (λ (t : Tag). e < length t) same (longer e c.0 w b.0),
        i.0 ∙ ap some same,
        subst (λ (t : Tag). visit_refs (c ∷ rs) (take e t) go s ≡ some h.1) same
            (ap (λ (o : Option State). and_then o (λ s'. visit_refs rs (take e w) go s')) (ap (λ (p : Tag). go p c.1 s) (sym b.0) ∙ i.1)
            ∙ more_visited first go try f rs e a.0.0 a.0.1 m.0 m.1 ∙ ap some ends),
      )

  -- ── what is visited is handed up ──
  -- what a visit below a path accepts begins with the path, and the probe at its depth hands it up
  abbrev Probed : (Place → Option Tag) → Visiting → Probing → Type 0
  Probed first go try = (p : Tag) (y : Place) (s z : State) → go p y s ≡ some z → (w : W) × (first y ≡ some (k.tag w)) × Begins p (k.tag w) × (try (length p) y s ≡ some (w, z))

  more_probed : (first : Place → Option Tag) (go : Visiting) (try : Probing) → Probed first go try → (rs : List (ℕ × Place)) (q : Tag) (w : W) (s z : State) → take (length q) (k.tag w) ≡ q
      → visit_refs rs q go s ≡ some z → probe_more k rs (length q) w (λ y x. try (suc (length q)) y x) s ≡ some z
  more_probed first go try f [] q w s z e v = v
  more_probed first go try f (c ∷ rs) q w s z e v =
      let a = then_some (go (q ++ c.0 ∷ []) c.1 s) (λ s'. visit_refs rs q go s') z v in
      let i = f (q ++ c.0 ∷ []) c.1 s a.0 a.1 in
      let d : length (q ++ c.0 ∷ []) ≡ suc (length q) = omega (arith, length-append q (c.0 ∷ [])) in
      ap (λ (o : Option (W × State)). and_then o (λ h. ite (goes_on (length q) (k.tag w) c.0 (k.tag h.0)) (probe_more k rs (length q) w (λ y x. try (suc (length q)) y x) h.1) none))
      (ap (λ (n : ℕ). try n c.1 s) (sym d) ∙ i.3)
      ∙ if_pos (goes_on (length q) (k.tag w) c.0 (k.tag i.0)) (goes_below q c.0 (k.tag w) (k.tag i.0) e i.2) _ _
      ∙ more_probed first go try f rs q w a.0 z e a.2

  refs_probed : (A : Type 0) (first : Place → Option Tag) (go : Visiting) (try : Probing) → Probed first go try → (len : ℕ) (st : List ℕ) (rs : List (ℕ × Place)) (q t : Tag) (s z : State)
      → first_cell {A = A} (inner_cell len st rs) first ≡ some t → visit_refs rs q go s ≡ some z
      → (w : W) × (t ≡ k.tag w) × Begins q t × (probe_refs k rs (length q) (λ y x. try (suc (length q)) y x) s ≡ some (w, z))
  refs_probed A first go try f len st [] q t s z o v = none_some o
  refs_probed A first go try f len st (c ∷ rs) q t s z o v =
      let a = then_some (go (q ++ c.0 ∷ []) c.1 s) (λ s'. visit_refs rs q go s') z v in
      let i = f (q ++ c.0 ∷ []) c.1 s a.0 a.1 in
      let w : Tag = k.tag i.0 in
      let same : t ≡ w = some_inj (sym o ∙ i.1) in
      let d : length (q ++ c.0 ∷ []) ≡ suc (length q) = omega (arith, length-append q (c.0 ∷ [])) in
      let u : Begins q w = (c.0 ∷ i.2.0, i.2.1 ∙ append_assoc q (c.0 ∷ []) i.2.0) in
      let own : take (length q) w ≡ q = take_begun q w u in
      let more : W × State → Option (W × State) = λ g. and_then (probe_more k rs (length q) g.0 (λ y x. try (suc (length q)) y x) g.1) (λ s'. some (g.0, s')) in (
        i.0,
        same,
        subst (Begins q) (sym same) u,
        ap (λ (o : Option (W × State)). and_then o (λ g. ite (goes_on (length q) (k.tag g.0) c.0 (k.tag g.0)) (more g) none)) (ap (λ (n : ℕ). try n c.1 s) (sym d) ∙ i.3)
            ∙ if_pos (goes_on (length q) w c.0 w) (goes_below q c.0 w w own i.2) _ _
            ∙ ap (λ (o : Option State). and_then o (λ s'. some (i.0, s'))) (more_probed first go try f rs q i.0 a.0 z own a.2),
      )

  inner_probed : (A : Type 0) (first : Place → Option Tag) (go : Visiting) (try : Probing) → Probed first go try
      → (len : ℕ) (st : List ℕ) (rs : List (ℕ × Place)) (p : Tag) (s z : State) (o : Option Tag)
      → first_cell {A = A} (inner_cell len st rs) first ≡ o → visit_run len st rs o p go s ≡ some z
      → (w : W) × (o ≡ some (k.tag w)) × Begins p (k.tag w)
      × (and_then (probe_refs k rs (length p + len) (λ y x. try (suc (length p + len)) y x) s) (λ h. probe_run k (length p) len st h) ≡ some (w, z))
  inner_probed A first go try f len st rs p s z none o v = none_some v
  inner_probed A first go try f len st rs p s z (some t) o v =
      let run : Tag = take len (drop (length p) t) in
      let a = ite_some (ℕ_discrete (length run) len) (ite (tag_dec (take 8 run) st) (visit_refs rs (p ++ run) go s) none) z v in
      let b = ite_some (tag_dec (take 8 run) st) (visit_refs rs (p ++ run) go s) z a.1 in
      let r = refs_probed A first go try f len st rs (p ++ run) t s z o b.1 in
      let d : length (p ++ run) ≡ length p + len = length-append p run ∙ ap (λ (n : ℕ). length p + n) a.0 in (
        r.0,
        ap some r.1,
        subst (Begins p) r.1 (run ++ r.2.0, r.2.1 ∙ append_assoc p run r.2.0),
        ap (λ (o : Option (W × State)). and_then o (λ h. probe_run k (length p) len st h)) (ap (λ (n : ℕ). probe_refs k rs n (λ y x. try (suc n) y x) s) (sym d) ∙ r.3)
            ∙ if_pos (tag_dec (take 8 (take len (drop (length p) (k.tag r.0)))) st) (subst (λ (w : Tag). take 8 (take len (drop (length p) w)) ≡ st) r.1 b.0) _ _,
      )

  module _ (link : ℕ → ℕ → Bool) {A : Type 0} where
    cell_visited : (first : Place → Option Tag) (go : Visiting) (try : Probing) → Backed first go try → (σ : Store A) → Tells k σ → (x : Place) (c : Cell A) → σ x ≡ c
        → (d : ℕ) (s : State) (h : W × State)
        → probe_cell k link x c d try s ≡ some h → (first_cell c first ≡ some (k.tag h.0)) × (visit_cell link x c (first_cell c first) (take d (k.tag h.0)) go s ≡ some h.1)
    cell_visited first go try f σ tells (leaf_place n) unused e d s h q = none_some q
    cell_visited first go try f σ tells (leaf_place n) (leaf_cell t a) e d s h q =
        let m = then_some (enlist link n s) (λ s'. some (k.up n t, s')) h q in
        let w : t ≡ k.tag h.0 = sym (tells n t a e) ∙ ap (λ (g : W × State). k.tag g.0) (some_inj m.2) in
        let ends : m.0 ≡ h.1 = ap (λ (g : W × State). g.1) (some_inj m.2) in
        (ap some w, if_pos (begins_dec (take d (k.tag h.0)) t) (rw w (begin_take d (k.tag h.0))) _ _ ∙ m.1 ∙ ap some ends)
    cell_visited first go try f σ tells (leaf_place n) (inner_cell len st rs) e d s h q = none_some q
    cell_visited first go try f σ tells (inner_place i n) unused e d s h q = none_some q
    cell_visited first go try f σ tells (inner_place i n) (leaf_cell t a) e d s h q = none_some q
    cell_visited first go try f σ tells (inner_place i n) (inner_cell len st rs) e d s h q =
        let m = then_some (probe_refs k rs (d + len) (λ y z. try (suc (d + len)) y z) s) (λ g. probe_run k d len st g) h q in
        let t = ite_some (tag_dec (take 8 (take len (drop d (k.tag m.0.0)))) st) (some m.0) h m.2 in
        let r = refs_visited A first go try f len st rs (d + len) s h (m.1 ∙ t.1) in (
          r.1,
          run_visited len st rs (first_cell {A = A} (inner_cell len st rs) first) go d s (k.tag h.0) h.1 r.0 r.1 r.2
              (subst (λ (g : W × State). take 8 (take len (drop d (k.tag g.0))) ≡ st) (some_inj t.1) t.0),
        )

    -- where the way without the path hands up a witness, its tag is the first below, and the way with its beginning as the path ends in the same state
    pub probe_visited : (σ : Store A) → Tells k σ → (f d : ℕ) (x : Place) (s : State) (h : W × State) → probe k link f σ d x s ≡ some h
        → (first_tag f σ x ≡ some (k.tag h.0)) × (visit link f σ (take d (k.tag h.0)) x s ≡ some h.1)
    probe_visited σ tells zero d x s h q = none_some q
    probe_visited σ tells (suc f) d x s h q =
        let m = then_some (mark x s) (λ s'. probe_cell k link x (σ x) d (λ e y z. probe k link f σ e y z) s') h q in
        let r = cell_visited (λ y. first_tag f σ y) (λ p y z. visit link f σ p y z) (λ e y z. probe k link f σ e y z) (λ e y z g i. probe_visited σ tells f e y z g i) σ tells x (σ x) refl d m.0 h m.2 in
        (r.0, ap (λ (o : Option State). and_then o (λ s'. visit_cell link x (σ x) (first_tag (suc f) σ x) (take d (k.tag h.0)) (λ p y z. visit link f σ p y z) s')) m.1 ∙ r.1)

    cell_probed : (first : Place → Option Tag) (go : Visiting) (try : Probing) → Probed first go try → (σ : Store A) → Tells k σ → (x : Place) (c : Cell A) → σ x ≡ c → (p : Tag) (s z : State)
        → visit_cell link x c (first_cell c first) p go s ≡ some z
        → (w : W) × (first_cell c first ≡ some (k.tag w)) × Begins p (k.tag w) × (probe_cell k link x c (length p) try s ≡ some (w, z))
    cell_probed first go try f σ tells (leaf_place n) unused e p s z v = none_some v
    cell_probed first go try f σ tells (leaf_place n) (leaf_cell t a) e p s z v =
        let b = ite_some (begins_dec p t) (enlist link n s) z v in
        (k.up n t, ap some (sym (tells n t a e)), subst (Begins p) (sym (tells n t a e)) b.0, ap (λ (o : Option State). and_then o (λ s'. some (k.up n t, s'))) b.1)
    cell_probed first go try f σ tells (leaf_place n) (inner_cell len st rs) e p s z v = none_some v
    cell_probed first go try f σ tells (inner_place i n) unused e p s z v = none_some v
    cell_probed first go try f σ tells (inner_place i n) (leaf_cell t a) e p s z v = none_some v
    cell_probed first go try f σ tells (inner_place i n) (inner_cell len st rs) e p s z v = inner_probed A first go try f len st rs p s z (first_cell {A = A} (inner_cell len st rs) first) refl v

    -- where the way with a path ends well, the way without it, at the path's depth, hands up the first leaf below, whose tag begins with the path, and ends in the same state
    pub visit_probed : (σ : Store A) → Tells k σ → (f : ℕ) (p : Tag) (x : Place) (s z : State) → visit link f σ p x s ≡ some z
        → (w : W) × (first_tag f σ x ≡ some (k.tag w)) × Begins p (k.tag w) × (probe k link f σ (length p) x s ≡ some (w, z))
    visit_probed σ tells zero p x s z v = none_some v
    visit_probed σ tells (suc f) p x s z v =
        let m = then_some (mark x s) (λ s'. visit_cell link x (σ x) (first_tag (suc f) σ x) p (λ q y z. visit link f σ q y z) s') z v in
        let r = cell_probed (λ y. first_tag f σ y) (λ q y z. visit link f σ q y z) (λ e y z. probe k link f σ e y z) (λ q y u i j. visit_probed σ tells f q y u i j) σ tells x (σ x) refl p m.0 z m.2 in
        (r.0, r.1, r.2, ap (λ (o : Option State). and_then o (λ s'. probe_cell k link x (σ x) (length p) (λ e y z. probe k link f σ e y z) s')) m.1 ∙ r.3)

    -- ── the two ways are one ──
    -- the way with a path is the way without it, where the witness begins with the path
    pub visit_is_probe : (σ : Store A) → Tells k σ → (f : ℕ) (p : Tag) (x : Place) (s : State)
        → visit link f σ p x s ≡ and_then (probe k link f σ (length p) x s) (λ h. ite (begins_dec p (k.tag h.0)) (some h.1) none)
    visit_is_probe σ tells f p x s = go (visit link f σ p x s) refl (probe k link f σ (length p) x s) refl
      where
        go : (v : Option State) → visit link f σ p x s ≡ v → (o : Option (W × State)) → probe k link f σ (length p) x s ≡ o
            → v ≡ and_then o (λ h. ite (begins_dec p (k.tag h.0)) (some h.1) none)
        go none e none i = refl
        go none e (some h) i = rest (begins_dec p (k.tag h.0))
          where
            rest : (d : Dec (Begins p (k.tag h.0))) → none ≡ ite d (some h.1) none
            rest (yes b) = sym e ∙ ap (λ (q : Tag). visit link f σ q x s) (sym (take_begun p (k.tag h.0) b)) ∙ (probe_visited σ tells f (length p) x s h i).1
            rest (no n) = refl
        go (some z) e o i =
            let r = visit_probed σ tells f p x s z e in
            sym (ap (λ (o : Option (W × State)). and_then o (λ h. ite (begins_dec p (k.tag h.0)) (some h.1) none)) (sym i ∙ r.3) ∙ if_pos (begins_dec p (k.tag r.0)) r.2 _ _)

    -- from the root the two give the same on every store
    pub root_visit : (σ : Store A) → Tells k σ → (f : ℕ) (x : Place) (s : State) → visit link f σ [] x s ≡ and_then (probe k link f σ 0 x s) (λ h. some h.1)
    root_visit σ tells f x s = visit_is_probe σ tells f [] x s ∙ go (probe k link f σ 0 x s)
      where
        go : (o : Option (W × State)) → and_then o (λ h. ite (begins_dec [] (k.tag h.0)) (some h.1) none) ≡ and_then o (λ h. some h.1)
        go none = refl
        go (some h) = if_pos (begins_dec [] (k.tag h.0)) (k.tag h.0, refl) _ _

module _ {A : Type 0} where
  -- and so is the number of a leaf
  pub number_tells : (σ : Store A) → Tells (by_number σ) σ
  number_tells σ n t a e = ap cell_tag e

-- ── what the code compares ──
