-- Station totals follow the changes: what an edit leaves beside its own tag is what stood beside it, so a station that the tag is not of adds up as before, and one that it is of by what the tag
-- had and what it was given.
use Prim.Native.Nat.{ℕ, ◌+◌, ◌^◌, ◌≤◌, ◌<◌}
use mathlib.Core.Path.{◌≡◌, refl, sym, ap, ap₂, subst, ◌∙◌}
use mathlib.Core.Logic.{◌≢◌, ite, if_pos, if_neg}
use mathlib.Core.List.{List, [], ◌∷◌}
use mathlib.Core.Option.{Option, none, some}
use native.Mathlib.Decide.{dec_le}
use native.Mathlib.Omega.{arith}
use Rattle.whole.specs.Check.{Checked, check_of}
use lib.ListN.{length}
use Rattle.frames.specs.Frame.{frame}
use Rattle.records.specs.View.{Held}
use Rattle.art.specs.Tags.{Tag, Listing, Before, Begins, begins_dec, tag_dec}
use Rattle.art.specs.Listings.{Sorted, lookup, begun_with, added_up}
use Rattle.art.specs.Puts.{leave}
use Rattle.art.proofs.Tags.{before_less}
use Rattle.art.proofs.Listings.{every_imp}
use Rattle.art.proofs.Puts.{alter_none}
use Rattle.reading.specs.Answers.{Bytes}
use Rattle.reading.specs.Listing.{totals}
use Rattle.whole.specs.Sound.{Sound}
use Rattle.whole.specs.Marks.{places_in}
use Rattle.stations.specs.Stations.{total_check}
use Rattle.demands.specs.Calls.{ask, station_total, totalled, Edit, delete, edit, run}
use Rattle.demands.specs.Told.{Told, told_by, summed}
use Rattle.demands.specs.Histories.{Block, lent, tag_of}
use Rattle.demands.specs.Listed.{holds, Enough, takes, adds}
use Rattle.demands.specs.Due.{checked_short}
use Rattle.demands.specs.Ledger.{Ledger, ledger, without, gives, given}
use Rattle.demands.specs.Programs.{Program, seen, tells, next_by, AcceptedBy, Reached}
use Rattle.demands.specs.Demands.{OnSound, Demands}
use Rattle.demands.proofs.Totals.{total_of_lem, totals_sorted, totals_lookup}
use Rattle.demands.proofs.Lookups.{less_not_self, leave_put, leave_leave}
use Rattle.demands.proofs.Tested.{check_short}
use Rattle.demands.proofs.Numbers.{due_number}
use Rattle.demands.proofs.Edits.{Changes, holds_sorted, without_leave, edit_was, edit_changes, edit_either}
use Rattle.demands.proofs.Demands.{demands}

-- ── listings ──
-- a total, or 0 where there is none; and how many that is
abbrev pub or_0 : Option ℕ → ℕ
or_0 none = 0
or_0 (some n) = n

abbrev pub one_of : Option ℕ → ℕ
one_of none = 0
one_of (some n) = 1

-- a tag that does not begin so makes no difference
begun_without : (s t : Tag) → ¬ Begins s t → (l : Listing ℕ) → begun_with s (leave t l) ≡ begun_with s l
begun_without s t n [] = refl
begun_without s t n (e ∷ l) = go (tag_dec t e.0) (begun_without s t n l)
  where
    go : (d : Dec (t ≡ e.0)) → begun_with s (leave t l) ≡ begun_with s l → begun_with s (ite {C = Listing ℕ} d (leave t l) (e ∷ leave t l)) ≡ begun_with s (e ∷ l)
    go (yes q) ih = ih ∙ sym (if_neg (begins_dec s e.0) (λ b. n (subst (Begins s) (sym q) b)) _ _)
    go (no q) ih = ap (λ (m : Listing ℕ). ite (begins_dec s e.0) (e ∷ m) m) ih

-- one that does is counted once, with its total
record Parts (s t : Tag) (l : Listing ℕ) : Type 0 where
  counts : length (begun_with s l) ≡ one_of (lookup t l) + length (begun_with s (leave t l))
  adds_up : added_up (begun_with s l) ≡ or_0 (lookup t l) + added_up (begun_with s (leave t l))

begun_parts : (s t : Tag) → Begins s t → (l : Listing ℕ) → Sorted l → Parts s t l
begun_parts s t b [] h = record { counts = refl; adds_up = refl }
begun_parts s t b (e ∷ l) h = go (tag_dec t e.0) (begun_parts s t b l h.1)
  where
    Split : Option ℕ → Listing ℕ → Listing ℕ → Type 0
    Split o m r = (length m ≡ one_of o + length (begun_with s r)) × (added_up m ≡ or_0 o + added_up (begun_with s r))

    with_head : (d : Dec (Begins s e.0)) (r : Listing ℕ) → Split (lookup t l) (begun_with s l) r
        → (length (ite {C = Listing ℕ} d (e ∷ begun_with s l) (begun_with s l)) ≡ one_of (lookup t l) + length (ite {C = Listing ℕ} d (e ∷ begun_with s r) (begun_with s r)))
        × (added_up (ite {C = Listing ℕ} d (e ∷ begun_with s l) (begun_with s l)) ≡ or_0 (lookup t l) + added_up (ite {C = Listing ℕ} d (e ∷ begun_with s r) (begun_with s r)))
    with_head (yes k) r p = (omega (arith, p.0), omega (arith, p.1))
    with_head (no k) r p = p

    go : (d : Dec (t ≡ e.0)) → Parts s t l → Parts s t (e ∷ l)
    go (yes q) p =
        let rest : leave t (e ∷ l) ≡ l =
        if_pos (tag_dec t e.0) q _ _ ∙ alter_none (λ x. none) t l (every_imp (Before e.0) (λ u. t ≢ u) (λ u k r. less_not_self t (before_less t t (subst (λ (v : Tag). Before v t) (sym q) (subst (Before e.0) (sym r) k)))) l h.0) in
        let held : lookup t (e ∷ l) ≡ some e.1 = if_pos (tag_dec t e.0) q _ _ in
        let here : begun_with s (e ∷ l) ≡ e ∷ begun_with s l = if_pos (begins_dec s e.0) (subst (Begins s) q b) _ _ in
        record {
          counts = ap length here ∙ sym (ap₂ (λ (o : Option ℕ) (m : Listing ℕ). one_of o + length (begun_with s m)) held rest ∙ omega arith);
          adds_up = ap added_up here ∙ sym (ap₂ (λ (o : Option ℕ) (m : Listing ℕ). or_0 o + added_up (begun_with s m)) held rest);
        }
    go (no q) p =
        let rest : leave t (e ∷ l) ≡ e ∷ leave t l = if_neg (tag_dec t e.0) q _ _ in
        let held : lookup t (e ∷ l) ≡ lookup t l = if_neg (tag_dec t e.0) q _ _ in
        let w = with_head (begins_dec s e.0) (leave t l) (p.counts, p.adds_up) in
        record {
          counts = w.0 ∙ sym (ap₂ (λ (o : Option ℕ) (m : Listing ℕ). one_of o + length (begun_with s m)) held rest);
          adds_up = w.1 ∙ sym (ap₂ (λ (o : Option ℕ) (m : Listing ℕ). or_0 o + added_up (begun_with s m)) held rest);
        }

-- ── an accepted edit ──
given_left : (t : Tag) (o was : Option ℕ) (k : Ledger) → leave t (given t o was k).list ≡ leave t k.list
given_left t none was k = ap (leave t) (without_leave t k.list) ∙ leave_leave t k.list
given_left t (some total) none k = leave_put t total k.list
given_left t (some total) (some old) k = leave_put t total (without t k.list) ∙ ap (leave t) (without_leave t k.list) ∙ leave_leave t k.list

module _ {e : Edit} {words keys words' keys' : List ℕ} {z : Sound words keys} (c : Changes e z words' keys') where
  abbrev before : Listing ℕ
  before = totals (holds z)

  abbrev after : Listing ℕ
  after = totals (holds c.after)

  left_same : leave (tag_of e) after ≡ leave (tag_of e) before
  left_same = let k = ledger before 0 0 in ap (leave (tag_of e)) (c.enters k refl) ∙ given_left (tag_of e) (gives e) (lookup (tag_of e) before) k

  begun_same : (s : Tag) → ¬ Begins s (tag_of e) → begun_with s after ≡ begun_with s before
  begun_same s n = sym (begun_without s (tag_of e) n after) ∙ ap (begun_with s) left_same ∙ begun_without s (tag_of e) n before

  begun_moved : (s : Tag) → Begins s (tag_of e)
      → (length (begun_with s after) + one_of (lookup (tag_of e) before) ≡ length (begun_with s before) + one_of (gives e))
      × (added_up (begun_with s after) + or_0 (lookup (tag_of e) before) ≡ added_up (begun_with s before) + or_0 (gives e))
  begun_moved s b =
      let p = begun_parts s (tag_of e) b after (totals_sorted (holds c.after) (holds_sorted c.after)) in
      let q = begun_parts s (tag_of e) b before (totals_sorted (holds z) (holds_sorted z)) in (
        omega (arith, p.counts, q.counts, ap (λ (l : Listing ℕ). length (begun_with s l)) left_same, ap one_of c.gave),
        omega (arith, p.adds_up, q.adds_up, ap (λ (l : Listing ℕ). added_up (begun_with s l)) left_same, ap or_0 c.gave),
      )

-- ── of any program that answers as the list ──
-- the station's total is what the accepted calls define, filtered and added up
module _ (p : Program) (o : OnSound p) {b : Block} {l : Listing ℕ} (y : (z : Sound b.words b.keys) × (totals (holds z) ≡ l)) (s : Tag) (h : Bytes s) (r : List ℕ) (room : Enough (lent b r)) where
  pub station_is : tells p b (ask (station_total s)) r ≡ adds (begun_with s l)
  station_is = o (lent b r) y.0 (ask (station_total s)) h (λ e. room) ∙ ap (λ (m : Listing ℕ). adds (begun_with s m)) y.1

-- the exact sum
adds_sum : (l : Listing ℕ) → summed (adds l) ≡ added_up l
adds_sum l = omega arith

-- after any calls: how many of the tags that accepted inserts left, less those of later accepted deletes, begin with the bytes, and the exact sum of their last totals
pub station_after : (p : Program) → Demands p → (b : Block) (k : Ledger) → Reached p b k → (s : Tag) → Bytes s → (r : List ℕ) → Enough (lent b r) → let a = tells p b (ask (station_total s)) r in
    (a ≡ adds (begun_with s k.list)) × (a.count ≡ length (begun_with s k.list)) × (summed a ≡ added_up (begun_with s k.list)) × (a.total < 2 ^ 64)
station_after p d b k y s h r room =
    let e = station_is p d.on_sound (d.as_list b k y) s h r room in
    let l = begun_with s k.list in
    (e, ap (λ (a : Told). a.count) e, ap summed e ∙ adds_sum l, let t = ap (λ (a : Told). a.total) e in omega (arith, t))

-- ── of the port, on any memory ──
module _ (s : Tag) (r : List ℕ) where
  abbrev station : (words keys : List ℕ) → Told
  station words keys = told_by (totalled (total_check words keys s (check_of words keys r).result))

  -- with another block in the same frame, both sound, and equal sums
  both_told : {words keys words' keys' : List ℕ} → Bytes s → (z : Sound words keys) (z' : Sound words' keys') → frame words' ≡ frame words
      → begun_with s (totals (holds z')) ≡ begun_with s (totals (holds z)) → station words' keys' ≡ station words keys
  both_told {words} {keys} {words'} {keys'} h z z' f e = go (dec_le (places_in (frame words)) (length r))
    where
      same : places_in (frame words') ≡ places_in (frame words)
      same = ap places_in f

      go : Dec (places_in (frame words) ≤ length r) → station words' keys' ≡ station words keys
      go (yes l) =
          station_is (seen run) demands.on_sound {b = record { words = words'; keys = keys' }} (z', refl) s h r (omega (arith, same))
          ∙ ap adds e ∙ sym (station_is (seen run) demands.on_sound {b = record { words = words; keys = keys }} (z, refl) s h r l)
      go (no l) =
          ap (λ (x : Checked). told_by (totalled (total_check words' keys' s x))) (check_short (record { words = words'; keys = keys'; scratch = r }) (record { fits = z'.fits; less = omega (arith, same) }))
          ∙ sym (ap (λ (x : Checked). told_by (totalled (total_check words keys s x))) (check_short (record { words = words; keys = keys; scratch = r }) (record { fits = z.fits; less = omega arith })))

-- a change to a tag that does not begin with the bytes, accepted or refused, leaves the station's total as it was, whatever it was
pub station_kept : (b : Block) → Bytes b.keys → (e : Edit) (q : List ℕ) → Bytes (tag_of e) → (s : Tag) → Bytes s → ¬ Begins s (tag_of e) → (r : List ℕ)
    → tells (seen run) (next_by (seen run) b (edit e) q) (ask (station_total s)) r ≡ tells (seen run) b (ask (station_total s)) r
station_kept b k e q h s bytes n r =
    edit_either e (lent b q) h k (λ words keys. station s r words keys ≡ station s r b.words b.keys) refl (λ z w j c. both_told s r bytes z c.after c.same_frame (begun_same c s n))

-- an accepted change to one that does moves count and sum by what the tag had and what it was given
pub station_moved : (b : Block) → Bytes b.keys → {l : Listing ℕ} → (y : (z : Sound b.words b.keys) × (totals (holds z) ≡ l)) → (e : Edit) → Bytes (tag_of e) → (q : List ℕ) → AcceptedBy (seen run) b e q
    → (s : Tag) → Bytes s → Begins s (tag_of e) → (r : List ℕ) → Enough (lent b r)
    → let old = tells (seen run) b (ask (station_total s)) r in let new = tells (seen run) (next_by (seen run) b (edit e) q) (ask (station_total s)) r in
    (new.count + one_of (lookup (tag_of e) l) ≡ old.count + one_of (gives e)) × (summed new + or_0 (lookup (tag_of e) l) ≡ summed old + or_0 (gives e))
station_moved b k {l} y e h q a s bytes begins r room =
    let z = y.0 in
    let c = edit_changes e (lent b q) h k a z in
    let i = station_is (seen run) demands.on_sound {b = b} (z, refl) s bytes r room in
    let j = station_is (seen run) demands.on_sound {b = next_by (seen run) b (edit e) q} (c.after, refl) s bytes r (omega (arith, ap places_in c.same_frame)) in
    let m = begun_moved c s begins in
    let had = ap (lookup (tag_of e)) y.1 in (
      omega (arith, m.0, ap one_of had, ap (λ (t : Told). t.count) i, ap (λ (t : Told). t.count) j),
      omega (arith, m.1, ap or_0 had, ap summed i ∙ adds_sum (begun_with s (totals (holds z))), ap summed j ∙ adds_sum (begun_with s (totals (holds c.after)))),
    )

-- scrapping a tag that begins so takes exactly it and its total off
pub station_scrapped : (b : Block) → Bytes b.keys → (t : Tag) → Bytes t → (q : List ℕ) → AcceptedBy (seen run) b (delete t) q → (s : Tag) → Bytes s → Begins s t → (r : List ℕ) → Enough (lent b r)
    → let old = tells (seen run) b (ask (station_total s)) r in let new = tells (seen run) (next_by (seen run) b (edit (delete t)) q) (ask (station_total s)) r in
    (old.count ≡ new.count + 1) × (summed old ≡ summed new + (tells (seen run) b (edit (delete t)) q).total)
station_scrapped b k t h q a s bytes begins r room =
    let m = station_moved b k (z, refl) (delete t) h q a s bytes begins r room in
    let v = gone (lookup t (holds z)) (demands.on_sound (lent b q) z (edit (delete t)) h (λ e. enough (dec_le (places_in (frame b.words)) (length q)))) in
    let had = totals_lookup t (holds z) ∙ ap total_of_lem v.1 in
    (omega (arith, m.0, ap one_of had), omega (arith, m.1, ap or_0 had, v.2))
  where
    z : Sound b.words b.keys
    z = edit_was (delete t) (lent b q) a

    told : Told
    told = tells (seen run) b (edit (delete t)) q

    -- what is accepted had scratch enough, and a held tag, whose total it tells
    enough : Dec (Enough (lent b q)) → Enough (lent b q)
    enough (yes l) = l
    enough (no l) = absurd (let n = due_number {c = edit (delete t)} h (checked_short {s = lent b q} refl z.fits l) in omega (arith, n, a))

    gone : (o : Option Held) → told ≡ takes o → (x : Held) × (o ≡ some x) × (told.total ≡ x.total)
    gone none e = absurd (let n = ap (λ (u : Told). u.number) e in omega (arith, n, a))
    gone (some x) e = (x, refl, ap (λ (u : Told). u.total) e)
