-- A row with one child more at its end, and the table and the bodies that it gives: the turns of the loops that fill them in byte order.
use Prim.Native.Nat.{ℕ, zero, suc, ◌+◌, ◌-◌, ◌≤◌, ◌<◌}
use mathlib.Core.Path.{◌≡◌, refl, sym, ap, ap₂, ◌∙◌}
use mathlib.Core.List.{List, [], ◌∷◌, ◌++◌, append_assoc, append-nil}
use mathlib.Core.Bool.{Bool, true, false}
use native.Mathlib.Numerals.{add-one}
use native.Mathlib.Omega.{arith}
use lib.ListN.{length, get_or, take, set, replicate, length-append, length-set, replicate-append-replicate}
use lib.Seq.{take-suc, take_all, length-take-le, set-append_left, set_at}
use lib.Dec.{eqb, ltb}
use borrow.Author.Tests.{eqb-true, eq-eqb, ne_eqb, lt-ltb, ltb-true}
use Rattle.lists.specs.Scan.{choose, nonzero, all_pass, how_many}
use Rattle.lists.proofs.Scans.{Count, count_start, count_on, count_off}
use Rattle.lists.proofs.Tests.{both, and_both}
use Rattle.lists.proofs.Edits.{padded_length}
use Rattle.records.specs.Row.{filled, ref_for}
use Rattle.records.proofs.Rows.{filled_skips, filled_holds}
use Rattle.lists.specs.Edit.{padded}
use Rattle.edits.specs.Body.{tab, row_spread, bytes_of, refs_of, slot_for, sorted_body, slot_body, sorted_put, slot_put}
use Rattle.edits.proofs.Columns.{bytes_length, refs_length, tab_as, tab_length}

abbrev Pairs : Type 0
Pairs = List (ℕ × ℕ)

-- a row and one child more
abbrev pub more : Pairs → ℕ → ℕ → Pairs
more row b r = row ++ ((b, r) ∷ [])

-- all its bytes are below b
abbrev pub Under : ℕ → Pairs → Type 0
Under b row = all_pass (λ x. ltb x b) (bytes_of row) ≡ true

-- the slot number of a byte behind a row's first child, from that in the rest of the row
abbrev next : ℕ → ℕ
next s = choose (eqb s 0) 0 (suc s)

-- ── the columns ──
bytes_more : (row : Pairs) (b r : ℕ) → bytes_of (more row b r) ≡ bytes_of row ++ (b ∷ [])
bytes_more [] b r = refl
bytes_more (e ∷ es) b r = ap (λ (l : List ℕ). e.0 ∷ l) (bytes_more es b r)

refs_more : (row : Pairs) (b r : ℕ) → refs_of (more row b r) ≡ refs_of row ++ (r ∷ [])
refs_more [] b r = refl
refs_more (e ∷ es) b r = ap (λ (l : List ℕ). e.1 ∷ l) (refs_more es b r)

-- ── the reference and the slot for a byte ──
ref_more : (row : Pairs) (b r j : ℕ) → Under b row → ref_for j (more row b r) ≡ choose (eqb b j) r (ref_for j row)
ref_more [] b r j u = go (eqb b j)
  where
    go : (t : Bool) → choose t r 0 ≡ choose t r 0
    go true = refl
    go false = refl
ref_more (e ∷ es) b r j u =
    let p = both (ltb e.0 b) (all_pass (λ x. ltb x b) (bytes_of es)) u in
    go (eqb e.0 j) refl (ltb-true _ _ p.0) (ref_more es b r j p.1)
  where
    go : (t : Bool) → eqb e.0 j ≡ t → e.0 < b → ref_for j (more es b r) ≡ choose (eqb b j) r (ref_for j es)
        → choose t e.1 (ref_for j (more es b r)) ≡ choose (eqb b j) r (choose t e.1 (ref_for j es))
    go true q l ih = let w : e.0 ≡ j = eqb-true _ _ q in ap (λ (t : Bool). choose t r e.1) (sym (ne_eqb b j (λ z. omega arith)))
    go false q l ih = ih

slot_more : (row : Pairs) (b r j : ℕ) → Under b row → slot_for j (more row b r) ≡ choose (eqb b j) (length row + 1) (slot_for j row)
slot_more [] b r j u = go (eqb b j)
  where
    go : (t : Bool) → choose {A = ℕ} t 1 0 ≡ choose t 1 0
    go true = refl
    go false = refl
slot_more (e ∷ es) b r j u =
    let p = both (ltb e.0 b) (all_pass (λ x. ltb x b) (bytes_of es)) u in
    go (eqb e.0 j) refl (ltb-true _ _ p.0) (slot_more es b r j p.1)
  where
    later : (t : Bool) (s : ℕ) → s ≡ choose t (length es + 1) (slot_for j es) → next s ≡ choose t (suc (length es) + 1) (next (slot_for j es))
    later true s h = ap (λ (t : Bool). choose t 0 (suc s)) (ne_eqb s 0 (λ z. omega arith)) ∙ omega arith
    later false s h = ap next h

    go : (t : Bool) → eqb e.0 j ≡ t → e.0 < b → slot_for j (more es b r) ≡ choose (eqb b j) (length es + 1) (slot_for j es)
        → choose {A = ℕ} t 1 (next (slot_for j (more es b r))) ≡ choose (eqb b j) (suc (length es) + 1) (choose t 1 (next (slot_for j es)))
    go true q l ih = let w : e.0 ≡ j = eqb-true _ _ q in ap (λ (t : Bool). choose t (suc (length es) + 1) 1) (sym (ne_eqb b j (λ z. omega arith)))
    go false q l ih = later (eqb b j) (slot_for j (more es b r)) ih

-- ── a table with one number changed ──
tab_put : (m b i v : ℕ) (g h : ℕ → ℕ) → h (b + i) ≡ v → ((j : ℕ) → (j ≡ b + i → ⊥) → h j ≡ g j) → tab m b h ≡ set (tab m b g) i v
tab_put zero b i v g h e o = refl
tab_put (suc m) b zero v g h e o =
    ap₂ (λ (x : ℕ) (l : List ℕ). x ∷ l) (ap h (let q : b ≡ b + 0 = omega arith in q) ∙ e) (tab_as m (suc b) h g (λ i l. o i (λ z. omega arith)))
tab_put (suc m) b (suc i) v g h e o =
    ap₂ (λ (x : ℕ) (l : List ℕ). x ∷ l) (o b (λ z. omega arith))
    (tab_put m (suc b) i v g h (ap h (let q : suc b + i ≡ b + suc i = omega arith in q) ∙ e) (λ j d. o j (λ z. d (omega arith))))

-- the rule of it: v for b, else as before
tab_more : (b v : ℕ) (g h : ℕ → ℕ) → ((j : ℕ) → h j ≡ choose (eqb b j) v (g j)) → tab 256 0 h ≡ set (tab 256 0 g) b v
tab_more b v g h e =
    let q : 0 + b ≡ b = omega arith in
    tab_put 256 0 b v g h (ap h q ∙ e b ∙ ap (λ (t : Bool). choose t v (g b)) (eq-eqb b b refl))
    (λ j d. e j ∙ ap (λ (t : Bool). choose t v (g j)) (ne_eqb b j (λ z. d (omega arith))))

-- ── the table of a row, and its bodies ──
pub spread_more : (row : Pairs) (b r : ℕ) → Under b row → row_spread (more row b r) ≡ set (row_spread row) b r
spread_more row b r u = tab_more b r (λ j. ref_for j row) (λ j. ref_for j (more row b r)) (λ j. ref_more row b r j u)

set_right : (xs ys : List ℕ) (i v : ℕ) → set (xs ++ ys) (length xs + i) v ≡ xs ++ set ys i v
set_right [] ys i v = ap (λ (n : ℕ). set ys n v) (let q : 0 + i ≡ i = omega arith in q)
set_right (x ∷ xs) ys i v = ap (λ (n : ℕ). set (x ∷ (xs ++ ys)) n v) (let q : suc (length xs) + i ≡ suc (length xs + i) = omega arith in q) ∙ ap (λ (l : List ℕ). x ∷ l) (set_right xs ys i v)

padded_more : (k : ℕ) (l : List ℕ) (v n : ℕ) → length l ≡ n → n < k → padded k (l ++ (v ∷ [])) ≡ set (padded k l) n v
padded_more k l v n e h =
    let long : length (l ++ (v ∷ [])) ≡ suc n = omega (arith, length-append l (v ∷ [])) in
    let q : k - length l ≡ suc (k - suc n) = omega arith in
    append_assoc l (v ∷ []) (replicate (k - length (l ++ (v ∷ []))) 0)
    ∙ ap (λ (m : ℕ). l ++ (v ∷ replicate (k - m) 0)) long
    ∙ sym (set_at l 0 (replicate (k - suc n) 0) v n e)
    ∙ ap (λ (m : ℕ). set (l ++ replicate m 0) n v) (sym q)

-- two parts, with a number put into each
parts_put : (k : ℕ) (x y : List ℕ) (i j v w : ℕ) → length x ≡ k → i < k → set (set (x ++ y) i v) (k + j) w ≡ set x i v ++ set y j w
parts_put k x y i j v w e h =
    ap (λ (l : List ℕ). set l (k + j) w) (set-append_left x y i v (omega arith))
    ∙ ap (λ (n : ℕ). set (set x i v ++ y) (n + j) w) (sym (length-set x i v ∙ e))
    ∙ set_right (set x i v) y j w

sorted_more : (k : ℕ) (row : Pairs) (b r : ℕ) → length row < k → sorted_body k (more row b r) ≡ sorted_put k (length row) b r (sorted_body k row)
unfolding sorted_body
sorted_more k row b r h =
    let n = length row in
    ap₂ (λ (x y : List ℕ). padded k x ++ padded k y) (bytes_more row b r) (refs_more row b r)
    ∙ ap₂ (λ (x y : List ℕ). x ++ y) (padded_more k (bytes_of row) b n (bytes_length row) h) (padded_more k (refs_of row) r n (refs_length row) h)
    ∙ sym (parts_put k (padded k (bytes_of row)) (padded k (refs_of row)) n n b r (padded_length k (bytes_of row) (omega (arith, bytes_length row))) h)

slots_more : (row : Pairs) (b r : ℕ) → Under b row → b < 256 → length row < 48 → slot_body (more row b r) ≡ slot_put (length row) b r (slot_body row)
unfolding slot_body
slots_more row b r u l h =
    let n = length row in
    ap₂ (λ (x y : List ℕ). x ++ y)
    (tab_more b (n + 1) (λ j. slot_for j row) (λ j. slot_for j (more row b r)) (λ j. slot_more row b r j u))
    (ap (padded 48) (refs_more row b r) ∙ padded_more 48 (refs_of row) r n (refs_length row) h)
    ∙ sym (parts_put 256 (tab 256 0 (λ j. slot_for j row)) (padded 48 (refs_of row)) b n (n + 1) r (tab_length 256 0 (λ j. slot_for j row)) l)

-- a body that is all 0 is that of the empty row
pub sorted_none : (k : ℕ) → replicate (k + k) 0 ≡ sorted_body k []
unfolding sorted_body
sorted_none k =
    sym (ap (λ (n : ℕ). replicate n 0 ++ replicate n 0) (let q : k - 0 ≡ k = omega arith in q) ∙ replicate-append-replicate k k 0)

pub slots_none : replicate 304 0 ≡ slot_body []
unfolding slot_body
slots_none = refl

-- ── the loop over 256 places ──
filled_end : (b : ℕ) (l : List ℕ) (r : ℕ) → filled b (l ++ (r ∷ [])) ≡ filled b l ++ filled (b + length l) (r ∷ [])
filled_end b [] r = ap (λ (n : ℕ). filled n (r ∷ [])) (let q : b ≡ b + 0 = omega arith in q)
filled_end b (x ∷ xs) r = go (eqb x 0) (filled_end (suc b) xs r ∙ ap (λ (n : ℕ). filled (suc b) xs ++ filled n (r ∷ [])) (let q : suc b + length xs ≡ b + suc (length xs) = omega arith in q))
  where
    go : (t : Bool) → filled (suc b) (xs ++ (r ∷ [])) ≡ filled (suc b) xs ++ filled (b + suc (length xs)) (r ∷ [])
        → choose t (filled (suc b) (xs ++ (r ∷ []))) ((b, x) ∷ filled (suc b) (xs ++ (r ∷ [])))
        ≡ choose t (filled (suc b) xs) ((b, x) ∷ filled (suc b) xs) ++ filled (b + suc (length xs)) (r ∷ [])
    go true ih = ih
    go false ih = ap (λ (l : Pairs). (b, x) ∷ l) ih

filled_under : (b : ℕ) (l : List ℕ) (e : ℕ) → b + length l ≤ e → Under e (filled b l)
filled_under b [] e h = refl
filled_under b (x ∷ xs) e h = go (eqb x 0) (filled_under (suc b) xs e (omega arith))
  where
    go : (t : Bool) → Under e (filled (suc b) xs) → Under e (choose t (filled (suc b) xs) ((b, x) ∷ filled (suc b) xs))
    go true ih = ih
    go false ih = and_both (lt-ltb b e (omega arith)) ih

-- the places before the byte are in the body, n of them not 0
pub record Filling (build : Pairs → List ℕ) (places body : List ℕ) (byte n : ℕ) : Type 0 where
  pub size : n ≡ length (filled 0 (take byte places))
  pub made : body ≡ build (filled 0 (take byte places))
  pub counted : Count nonzero places byte n

pub filling_start : {build : Pairs → List ℕ} {places body : List ℕ} → body ≡ build [] → Filling build places body 0 0
filling_start e = record { size = refl; made = e; counted = count_start }

-- put makes the body of a row with one child more
pub record Puts (k : ℕ) (build : Pairs → List ℕ) (put : ℕ → ℕ → ℕ → List ℕ → List ℕ) : Type 0 where
  pub one : (row : Pairs) (b r : ℕ) → Under b row → b < 256 → length row < k → build (more row b r) ≡ put (length row) b r (build row)

module _ {k : ℕ} {build : Pairs → List ℕ} {put : ℕ → ℕ → ℕ → List ℕ → List ℕ} (law : Puts k build put) where
  module _ {places body : List ℕ} {byte n : ℕ} (f : Filling build places body byte n) (long : length places ≡ 256) (few : how_many nonzero places ≤ k) (h : byte < 256) where
    abbrev ref : ℕ
    ref = get_or places byte 0

    row : Pairs
    row = filled 0 (take byte places)

    on : filled 0 (take (byte + 1) places) ≡ row ++ filled byte (ref ∷ [])
    unfolding row
    on =
        let t : take (byte + 1) places ≡ take byte places ++ (ref ∷ []) = rw add-one (take-suc places byte 0 (omega arith)) in
        ap (filled 0) t
        ∙ filled_end 0 (take byte places) ref
        ∙ ap (λ (m : ℕ). row ++ filled m (ref ∷ [])) (omega (arith, length-take-le byte places (omega arith)))

    under : Under byte row
    unfolding row
    under = filled_under 0 (take byte places) byte (omega (arith, length-take-le byte places (omega arith)))

    -- a place that is 0 adds nothing
    pub filling_skip : ref ≡ 0 → Filling build places body (byte + 1) n
    unfolding row
    filling_skip z =
        let s : filled 0 (take (byte + 1) places) ≡ row = on ∙ ap (λ (l : Pairs). row ++ l) (filled_skips byte ref [] (ap nonzero z)) ∙ append-nil row in
        record { size = f.size ∙ sym (ap length s); made = f.made ∙ sym (ap build s); counted = count_off f.counted (ap nonzero z) (omega arith) }

    module _ (some : ref ≡ 0 → ⊥) where
      holds : nonzero ref ≡ true
      holds = lt-ltb 0 ref (omega arith)

      -- there is room for what comes
      filling_room : n < k
      filling_room = omega (arith, (count_on f.counted holds (omega arith)).left)

      pub filling_put : (out : List ℕ) → out ≡ put n byte ref body → Filling build places out (byte + 1) (n + 1)
      unfolding row
      filling_put out o =
          let s : filled 0 (take (byte + 1) places) ≡ more row byte ref = on ∙ ap (λ (l : Pairs). row ++ l) (filled_holds byte ref [] holds) in
          record {
            size = omega (arith, f.size, ap length s, length-append row ((byte, ref) ∷ []));
            made =
                o
                ∙ ap₂ (λ (i : ℕ) (x : List ℕ). put i byte ref x) f.size f.made
                ∙ sym (law.one row byte ref under h (omega (arith, filling_room, f.size)))
                ∙ sym (ap build s);
            counted = count_on f.counted holds (omega arith);
          }

pub filling_end : {build : Pairs → List ℕ} {places body : List ℕ} {byte n : ℕ} → Filling build places body byte n → length places ≤ byte → body ≡ build (filled 0 places)
filling_end {build} {places} {body} {byte} f h = f.made ∙ ap (λ (l : List ℕ). build (filled 0 l)) (take_all byte places h)

pub sorted_puts : (k : ℕ) → Puts k (sorted_body k) (sorted_put k)
sorted_puts k = record { one = λ row b r u l h. sorted_more k row b r h }

pub slots_puts : Puts 48 slot_body slot_put
slots_puts = record { one = slots_more }
