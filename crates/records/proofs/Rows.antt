-- Rows: the n-th child, the first from a byte on and the last, by what the loops over a body find.
use Prim.Native.Nat.{ℕ, zero, suc, ◌+◌, ◌-◌, ◌≤◌, ◌<◌}
use mathlib.Core.Path.{◌≡◌, refl, sym, ap, ap₂, ◌∙◌}
use mathlib.Core.List.{List, [], ◌∷◌}
use mathlib.Core.Bool.{Bool, true, false}
use native.Mathlib.Omega.{arith}
use lib.ListN.{length, get_or, take, drop, get_or-eq_default}
use lib.Seq.{take_all}
use lib.Dec.{leb, ltb, leb-suc-suc}
use borrow.Author.Tests.{eq-eqb, ne_eqb, lt-ltb, le-ltb, le-leb, lt-leb, ltb-true, ltb-false, leb-true}
use Rattle.lists.specs.Scan.{choose, at_most, at_least, nonzero, all_pass, first, past, onward, nth}
use Rattle.lists.specs.Part.{between}
use Rattle.lists.proofs.Scans.{nth_skips, nth_counts, nth_here}
use Rattle.lists.proofs.Tests.{all_at, first_le, past_le}
use Rattle.lists.proofs.Parts.{between_length, between_at, between_drop}
use Rattle.records.specs.Own.{named, byslot, SlotsFit, indirect_child}
use Rattle.records.specs.Row.{beside, filled, spread, sorted_row, entry, entry_at, entry_from, last_entry, Entry}
use Rattle.std.specs.Prelude.{Some, None}
use Rattle.lists.proofs.Alike.{Alike, alike_by, alike_drop, first_alike, past_alike, nth_alike}
use Rattle.records.proofs.Slots.{slot_filled}

abbrev Pairs : Type 0
Pairs = List (ℕ × ℕ)

-- ── any row ──
pub entry_out : (es : Pairs) (i : ℕ) → length es ≤ i → entry_at i es ≡ None
entry_out [] i h = refl
entry_out (e ∷ es) zero h = absurd (omega arith)
entry_out (e ∷ es) (suc i) h = entry_out es i (omega arith)

pub last_at : (es : Pairs) → last_entry es ≡ entry_at (length es - 1) es
last_at [] = refl
last_at (e ∷ []) = refl
last_at (e ∷ f ∷ es) =
    let q : suc (suc (length es)) - 1 ≡ suc (suc (length es) - 1) = omega arith in
    last_at (f ∷ es) ∙ sym (ap (λ (n : ℕ). entry_at n (e ∷ f ∷ es)) q)

last_some : (e : ℕ × ℕ) (es : Pairs) → last_entry (e ∷ es) ≡ None → ⊥
last_some e [] h = let z : ◌≡◌ {A = ℕ} 0 1 = cc in omega arith
last_some e (f ∷ es) h = last_some f es h

-- after a row without a last child there stands none
last_first : (e : ℕ × ℕ) (es : Pairs) → last_entry es ≡ None → last_entry (e ∷ es) ≡ entry e
last_first e [] h = refl
last_first e (f ∷ es) h = absurd (last_some f es h)

last_later : (e : ℕ × ℕ) (es : Pairs) (b r : ℕ) → last_entry es ≡ Some (b, r) → last_entry (e ∷ es) ≡ last_entry es
last_later e [] b r h = absurd (let z : ◌≡◌ {A = ℕ} 0 1 = cc in omega arith)
last_later e (f ∷ es) b r h = refl

-- ── keys beside references ──
pub beside_length : (ks rs : List ℕ) → length ks ≡ length rs → length (beside ks rs) ≡ length ks
beside_length [] rs e = refl
beside_length (k ∷ ks) [] e = absurd (omega arith)
beside_length (k ∷ ks) (r ∷ rs) e = ap suc (beside_length ks rs (omega arith))

pub beside_at : (ks rs : List ℕ) → length ks ≡ length rs → (i : ℕ) → i < length ks → entry_at i (beside ks rs) ≡ Some (get_or ks i 0, get_or rs i 0)
beside_at [] rs e i h = absurd (omega arith)
beside_at (k ∷ ks) [] e i h = absurd (omega arith)
beside_at (k ∷ ks) (r ∷ rs) e zero h = refl
beside_at (k ∷ ks) (r ∷ rs) e (suc i) h = beside_at ks rs (omega arith) i (omega arith)

pub beside_from : (b : ℕ) (ks rs : List ℕ) → entry_from b (beside ks rs) ≡ entry_at (first (at_least b) ks) (beside ks rs)
beside_from b [] rs = refl
beside_from b (k ∷ ks) [] = refl
beside_from b (k ∷ ks) (r ∷ rs) = go (leb b k) (beside_from b ks rs)
  where
    go : (t : Bool) → entry_from b (beside ks rs) ≡ entry_at (first (at_least b) ks) (beside ks rs)
        → choose t (Some (k, r)) (entry_from b (beside ks rs)) ≡ entry_at (choose t 0 (suc (first (at_least b) ks))) ((k, r) ∷ beside ks rs)
    go true ih = refl
    go false ih = ih

pub sorted_from : (k : ℕ) (body : List ℕ) (n b i : ℕ) → i ≡ first (at_least b) (between body 0 n) → entry_at i (sorted_row k body n) ≡ entry_from b (sorted_row k body n)
sorted_from k body n b i e = ap (λ (j : ℕ). entry_at j (sorted_row k body n)) e ∙ sym (beside_from b (between body 0 n) (between body k (k + n)))

module _ (k : ℕ) (body : List ℕ) (n : ℕ) (long : length body ≡ k + k) (few : n ≤ k) where
  keys : length (between body 0 n) ≡ n
  keys = between_length body 0 n (omega arith) (omega arith) ∙ omega arith

  refs : length (between body k (k + n)) ≡ n
  refs = between_length body k (k + n) (omega arith) (omega arith) ∙ omega arith

  pub sorted_length : length (sorted_row k body n) ≡ n
  sorted_length = beside_length (between body 0 n) (between body k (k + n)) (keys ∙ sym refs) ∙ keys

  pub sorted_at : (i : ℕ) → i < n → entry_at i (sorted_row k body n) ≡ Some (get_or body i 0, get_or body (k + i) 0)
  sorted_at i h =
      beside_at (between body 0 n) (between body k (k + n)) (keys ∙ sym refs) i (omega (arith, keys))
      ∙ ap₂ (λ (b r : ℕ). Some (b, r))
      (between_at body 0 n i (omega arith) ∙ ap (λ (j : ℕ). get_or body j 0) (let q : 0 + i ≡ i = omega arith in q))
      (between_at body k (k + n) i (omega arith))

  pub sorted_none : (i : ℕ) → n ≤ i → entry_at i (sorted_row k body n) ≡ None
  sorted_none i h = entry_out (sorted_row k body n) i (omega (arith, sorted_length))

  pub sorted_last : last_entry (sorted_row k body n) ≡ entry_at (n - 1) (sorted_row k body n)
  sorted_last = last_at (sorted_row k body n) ∙ ap (λ (m : ℕ). entry_at (m - 1) (sorted_row k body n)) sorted_length

-- ── places that are not 0 ──
-- what stands at place i of a list whose first place is for byte b
abbrev pub placed : ℕ → List ℕ → ℕ → Entry
placed b l i = choose (ltb i (length l)) (Some (b + i, get_or l i 0)) None

-- the same for the place before i, none for i = 0
abbrev pub last_placed : ℕ → List ℕ → ℕ → Entry
last_placed b l zero = None
last_placed b l (suc i) = placed b l i

placed_on : (b r : ℕ) (rs : List ℕ) (i : ℕ) → placed (suc b) rs i ≡ placed b (r ∷ rs) (suc i)
placed_on b r rs i =
    let q : suc b + i ≡ b + suc i = omega arith in
    ap (λ (m : ℕ). choose (ltb i (length rs)) (Some (m, get_or rs i 0)) None) q
    ∙ sym (ap (λ (t : Bool). choose t (Some (b + suc i, get_or rs i 0)) None) (leb-suc-suc (suc i) (length rs)))

placed_here : (b r : ℕ) (rs : List ℕ) → Some (b, r) ≡ placed b (r ∷ rs) 0
placed_here b r rs =
    let q : b ≡ b + 0 = omega arith in
    ap (λ (m : ℕ). (Some (m, r))) q ∙ sym (ap (λ (t : Bool). choose t (Some (b + 0, r)) None) (lt-ltb 0 (suc (length rs)) (omega arith)))

module _ (b r : ℕ) (rs : List ℕ) where
  pub filled_skips : nonzero r ≡ false → filled b (r ∷ rs) ≡ filled (suc b) rs
  filled_skips e = ap (λ (t : Bool). choose {A = Pairs} t (filled (suc b) rs) ((b, r) ∷ filled (suc b) rs)) (eq-eqb r 0 (omega (arith, ltb-false 0 r e)))

  pub filled_holds : nonzero r ≡ true → filled b (r ∷ rs) ≡ (b, r) ∷ filled (suc b) rs
  filled_holds e = ap (λ (t : Bool). choose {A = Pairs} t (filled (suc b) rs) ((b, r) ∷ filled (suc b) rs)) (ne_eqb r 0 (λ z. omega (arith, ltb-true 0 r e)))

pub filled_at : (n b : ℕ) (l : List ℕ) → entry_at n (filled b l) ≡ placed b l (nth nonzero n l)
filled_at n b [] = refl
filled_at n b (r ∷ rs) = go (nonzero r) refl n (λ m. filled_at m (suc b) rs)
  where
    go : (t : Bool) → nonzero r ≡ t → (n : ℕ) → ((m : ℕ) → entry_at m (filled (suc b) rs) ≡ placed (suc b) rs (nth nonzero m rs))
        → entry_at n (filled b (r ∷ rs)) ≡ placed b (r ∷ rs) (nth nonzero n (r ∷ rs))
    go true e zero ih = ap (entry_at zero) (filled_holds b r rs e) ∙ placed_here b r rs ∙ ap (placed b (r ∷ rs)) (sym (nth_here nonzero r rs e))
    go true e (suc n) ih =
        ap (entry_at (suc n)) (filled_holds b r rs e) ∙ ih n ∙ placed_on b r rs (nth nonzero n rs) ∙ ap (placed b (r ∷ rs)) (sym (nth_counts nonzero r rs n e))
    go false e n ih =
        ap (entry_at n) (filled_skips b r rs e) ∙ ih n ∙ placed_on b r rs (nth nonzero n rs) ∙ ap (placed b (r ∷ rs)) (sym (nth_skips nonzero r rs n e))

-- from a byte that no place is below
filled_all : (lo b : ℕ) (l : List ℕ) → lo ≤ b → entry_from lo (filled b l) ≡ placed b l (first nonzero l)
filled_all lo b [] h = refl
filled_all lo b (r ∷ rs) h = go (nonzero r) refl (filled_all lo (suc b) rs (omega arith))
  where
    go : (t : Bool) → nonzero r ≡ t → entry_from lo (filled (suc b) rs) ≡ placed (suc b) rs (first nonzero rs)
        → entry_from lo (filled b (r ∷ rs)) ≡ placed b (r ∷ rs) (first nonzero (r ∷ rs))
    go true e ih =
        ap (entry_from lo) (filled_holds b r rs e)
        ∙ ap (λ (t : Bool). choose t (Some (b, r)) (entry_from lo (filled (suc b) rs))) (le-leb lo b h)
        ∙ placed_here b r rs
        ∙ ap (λ (t : Bool). placed b (r ∷ rs) (choose t 0 (suc (first nonzero rs)))) (sym e)
    go false e ih =
        ap (entry_from lo) (filled_skips b r rs e)
        ∙ ih
        ∙ placed_on b r rs (first nonzero rs)
        ∙ ap (λ (t : Bool). placed b (r ∷ rs) (choose t 0 (suc (first nonzero rs)))) (sym e)

pub filled_from : (j b : ℕ) (l : List ℕ) → entry_from (b + j) (filled b l) ≡ placed b l (j + first nonzero (drop j l))
filled_from zero b l =
    filled_all (b + 0) b l (omega arith) ∙ ap (placed b l) (let q : first nonzero l ≡ 0 + first nonzero l = omega arith in q)
filled_from (suc j) b [] = sym (ap (λ (t : Bool). choose t (Some (b + (suc j + 0), 0)) None) (le-ltb (suc j + 0) 0 (omega arith)))
filled_from (suc j) b (r ∷ rs) =
    go (nonzero r) refl (ap (λ (m : ℕ). entry_from m (filled (suc b) rs)) (let q : b + suc j ≡ suc b + j = omega arith in q) ∙ filled_from j (suc b) rs)
  where
    found : ℕ
    found = first nonzero (drop j rs)

    on : placed (suc b) rs (j + found) ≡ placed b (r ∷ rs) (suc j + found)
    on = placed_on b r rs (j + found) ∙ ap (placed b (r ∷ rs)) (let q : suc (j + found) ≡ suc j + found = omega arith in q)

    go : (t : Bool) → nonzero r ≡ t → entry_from (b + suc j) (filled (suc b) rs) ≡ placed (suc b) rs (j + found)
        → entry_from (b + suc j) (filled b (r ∷ rs)) ≡ placed b (r ∷ rs) (suc j + found)
    go true e ih =
        ap (entry_from (b + suc j)) (filled_holds b r rs e)
        ∙ ap (λ (t : Bool). choose t (Some (b, r)) (entry_from (b + suc j) (filled (suc b) rs))) (lt-leb (b + suc j) b (omega arith))
        ∙ ih
        ∙ on
    go false e ih = ap (entry_from (b + suc j)) (filled_skips b r rs e) ∙ ih ∙ on

pub filled_last : (b : ℕ) (l : List ℕ) → last_entry (filled b l) ≡ last_placed b l (past nonzero l)
filled_last b [] = refl
filled_last b (r ∷ rs) = go (nonzero r) refl (past nonzero rs) (past_le nonzero rs) (filled_last (suc b) rs)
  where
    go : (t : Bool) → nonzero r ≡ t → (e : ℕ) → e ≤ length rs → last_entry (filled (suc b) rs) ≡ last_placed (suc b) rs e
        → last_entry (filled b (r ∷ rs)) ≡ last_placed b (r ∷ rs) (onward (choose (nonzero r) 1 0) e)
    go true h zero l ih =
        ap last_entry (filled_holds b r rs h)
        ∙ last_first (b, r) (filled (suc b) rs) ih
        ∙ placed_here b r rs
        ∙ ap (λ (t : Bool). last_placed b (r ∷ rs) (onward (choose t 1 0) zero)) (sym h)
    go true h (suc e) l ih =
        ap last_entry (filled_holds b r rs h)
        ∙ last_later (b, r) (filled (suc b) rs) (suc b + e) (get_or rs e 0) (ih ∙ ap (λ (t : Bool). choose t (Some (suc b + e, get_or rs e 0)) None) (lt-ltb e (length rs) (omega arith)))
        ∙ ih
        ∙ placed_on b r rs e
    go false h zero l ih = ap last_entry (filled_skips b r rs h) ∙ ih ∙ ap (λ (t : Bool). last_placed b (r ∷ rs) (onward (choose t 1 0) zero)) (sym h)
    go false h (suc e) l ih = ap last_entry (filled_skips b r rs h) ∙ ih ∙ placed_on b r rs e

-- ── kinds 3 and 4: bodies that begin with a word for each byte, 0 where the byte has no child, and the references by their bytes ──
pub record Scanned (body : List ℕ) (row : Pairs) (ref : ℕ → ℕ) : Type 0 where
  pub places : List ℕ
  pub fills : row ≡ filled 0 places
  pub short : 256 ≤ length body
  pub long : length places ≡ 256
  pub each : (i : ℕ) → i < 256 → ref i ≡ get_or places i 0
  pub alike : Alike nonzero nonzero (take 256 body) places

-- the child at a byte
abbrev pub shown : (ℕ → ℕ) → ℕ → Entry
shown ref i = choose (ltb i 256) (Some (i, ref i)) None

module _ {body : List ℕ} {row : Pairs} {ref : ℕ → ℕ} (w : Scanned body row ref) where
  shown_placed : (i : ℕ) → shown ref i ≡ placed 0 w.places i
  shown_placed i = go (ltb i 256) refl ∙ ap (λ (n : ℕ). choose {A = Entry} (ltb i n) (Some (0 + i, get_or w.places i 0)) None) (sym w.long)
    where
      go : (t : Bool) → ltb i 256 ≡ t → choose {A = Entry} t (Some (i, ref i)) None ≡ choose t (Some (0 + i, get_or w.places i 0)) None
      go true e = ap₂ (λ (b r : ℕ). Some (b, r)) (let q : i ≡ 0 + i = omega arith in q) (w.each i (ltb-true i 256 e))
      go false e = refl

  pub row_at : (n i : ℕ) → i ≡ nth nonzero n (take 256 body) → shown ref i ≡ entry_at n row
  row_at n i e = shown_placed i ∙ ap (placed 0 w.places) (e ∙ nth_alike n w.alike) ∙ sym (filled_at n 0 w.places) ∙ ap (entry_at n) (sym w.fills)

  pub row_within : (b i : ℕ) → b ≤ 256 → i ≡ first nonzero (between body b 256) → b + i ≤ 256
  row_within b i h e = omega (arith, first_le nonzero (between body b 256), between_length body b 256 h w.short)

  pub row_from : (b i : ℕ) → b ≤ 256 → i ≡ first nonzero (between body b 256) → shown ref (b + i) ≡ entry_from b row
  row_from b i h e =
      shown_placed (b + i)
      ∙ ap (λ (j : ℕ). placed 0 w.places (b + j)) (e ∙ ap (first nonzero) (between_drop body b 256 h) ∙ first_alike (alike_drop b w.alike))
      ∙ sym (filled_from b 0 w.places)
      ∙ ap₂ entry_from (let q : 0 + b ≡ b = omega arith in q) (sym w.fills)

  ends : (e : ℕ) → e ≡ past nonzero (take 256 body) → last_entry row ≡ last_placed 0 w.places e
  ends e h = ap last_entry w.fills ∙ filled_last 0 w.places ∙ ap (last_placed 0 w.places) (sym (h ∙ past_alike w.alike))

  pub row_none : (e : ℕ) → e ≡ past nonzero (take 256 body) → e ≡ 0 → None ≡ last_entry row
  row_none e h z = sym (ends e h ∙ ap (last_placed 0 w.places) z)

  pub row_last : (e : ℕ) → e ≡ past nonzero (take 256 body) → (e ≡ 0 → ⊥) → shown ref (e - 1) ≡ last_entry row
  row_last e h z = shown_placed (e - 1) ∙ sym (ends e h ∙ ap (last_placed 0 w.places) (let q : e ≡ suc (e - 1) = omega arith in q))

pub direct_scanned : (body : List ℕ) → length body ≡ 256 → Scanned body (filled 0 body) (λ i. get_or body i 0)
direct_scanned body long =
    record {
      places = body;
      fills = refl;
      short = omega arith;
      long = long;
      each = λ i h. refl;
      alike = alike_by nonzero nonzero (take 256 body) body (ap length (take_all 256 body (omega arith))) (λ i h. ap (λ (l : List ℕ). nonzero (get_or l i 0)) (take_all 256 body (omega arith)));
    }

pub spread_length : (places slots : List ℕ) → length (spread places slots) ≡ length slots
spread_length places [] = refl
spread_length places (s ∷ ss) = ap suc (spread_length places ss)

pub spread_at : (places slots : List ℕ) (i : ℕ) → get_or (spread places slots) i 0 ≡ byslot places (get_or slots i 0)
spread_at places [] i = refl
spread_at places (s ∷ ss) zero = refl
spread_at places (s ∷ ss) (suc i) = spread_at places ss i

-- the slot numbers that are not 0 are those that name a filled place
pub spread_alike : (slots refs : List ℕ) → named slots 0 refs ≡ true → all_pass (at_most (length refs)) slots ≡ true → Alike nonzero nonzero slots (spread refs slots)
spread_alike slots refs h k =
    alike_by nonzero nonzero slots (spread refs slots) (sym (spread_length refs slots))
    (λ i l. sym (ap nonzero (spread_at refs slots i) ∙ slot_filled slots refs h i l (leb-true _ _ (all_at (at_most (length refs)) slots k i l))))

pub indirect_scanned : (body : List ℕ) → length body ≡ 304 → SlotsFit body
    → Scanned body (filled 0 (spread (between body 256 304) (between body 0 256))) (indirect_child body)
unfolding indirect_child
indirect_scanned body long w =
    record {
      places = spread (between body 256 304) (between body 0 256);
      fills = refl;
      short = omega arith;
      long = spread_length (between body 256 304) (between body 0 256) ∙ between_length body 0 256 (omega arith) (omega arith);
      each = λ i h. sym (spread_at (between body 256 304) (between body 0 256) i
          ∙ ap (byslot (between body 256 304)) (between_at body 0 256 i h ∙ ap (λ (j : ℕ). get_or body j 0) (let q : 0 + i ≡ i = omega arith in q)));
      alike = spread_alike (between body 0 256) (between body 256 304) w.names (ap (λ (n : ℕ). all_pass (at_most n) (between body 0 256)) refs ∙ w.low);
    }
  where
    refs : length (between body 256 304) ≡ 48
    refs = between_length body 256 304 (omega arith) (omega arith)

-- one slot number's reference, where the references stand in the body
pub slot_in : (body : List ℕ) (s : ℕ) → (s ≡ 0 → ⊥) → s ≤ 48 → get_or body (255 + s) 0 ≡ byslot (between body 256 304) s
slot_in body s z h =
    sym (ap (λ (t : Bool). choose t 0 (get_or (between body 256 304) (s - 1) 0)) (ne_eqb s 0 z)
    ∙ between_at body 256 304 (s - 1) (omega arith)
    ∙ ap (λ (j : ℕ). get_or body j 0) (let q : 256 + (s - 1) ≡ 255 + s = omega arith in q))

pub slot_out : (body : List ℕ) (s : ℕ) → length body ≡ 304 → 48 < s → 0 ≡ byslot (between body 256 304) s
slot_out body s long h =
    let refs : length (between body 256 304) ≡ 48 = between_length body 256 304 (omega arith) (omega arith) in
    sym (ap (λ (t : Bool). choose t 0 (get_or (between body 256 304) (s - 1) 0)) (ne_eqb s 0 (λ e. omega arith))
    ∙ get_or-eq_default (between body 256 304) 0 (omega arith))
