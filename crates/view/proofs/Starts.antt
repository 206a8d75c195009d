-- Start makes an empty directory: the trailer that it writes fits, and every other word and key byte is 0.
use Prim.Native.Nat.{ℕ, ◌+◌, ◌-◌, ◌*◌}
use mathlib.Core.Path.{◌≡◌, refl, sym, ap, ap₂, subst, ◌∙◌}
use mathlib.Core.List.{List, ◌++◌}
use mathlib.Core.Bool.{Bool, true, false, ◌&&◌}
use native.Mathlib.Omega.{arith}
use lib.ListN.{length, get_or, take, replicate, length-append, length-replicate}
use lib.Seq.{drop_at, take_all}
use lib.Dec.{eqb}
use borrow.Author.Tests.{eq-eqb, le-leb, eqb-true}
use Rattle.std.specs.Prelude.{Ok, Err}
use Rattle.refusals.specs.declared.Refusal.TheVariants.{Unfit}
use Rattle.lists.specs.Scan.{choose, all_pass, at_most}
use Rattle.lists.proofs.Tests.{both, and_both, all_between, all_zero, zeros_all, zeros_at}
use Rattle.lists.proofs.Parts.{between_left}
use Rattle.frames.specs.Form.{form_known, form_of, sizes_of}
use Rattle.frames.specs.Frame.{caps_small, backs_of, form_fits, trailer_fits, trailer_of, frame_fits, frame_of, frame_with, FrameOf}
use Rattle.frames.specs.Place.{in_pool, start_at, size_at, record_at}
use Rattle.records.specs.View.{cell_of, blank_at}
use Rattle.frames.specs.declared.form.Form.{Form}
use Rattle.frames.specs.declared.frame.Caps.{Caps}
use Rattle.frames.specs.declared.frame.Frame.{Frame}
use Rattle.frames.proofs.FormTable.{form_rules}
use Rattle.frames.proofs.Places.{place_room}
use Rattle.art.specs.Stores.{Place, leaf_place, inner_place, unused}
use Rattle.pools.specs.Start.{start_fits, start_fits_in, trailer_words, Out, out, fresh, start_of}
use Rattle.view.specs.Empty.{Empty}
use Rattle.view.proofs.Views.{cell_out, cell_free}

-- the last 16 words
trailer_end : (x t : List ℕ) → length t ≡ 16 → trailer_of (x ++ t) ≡ t
trailer_end x t e =
    let long = length-append x t in
    ap (take (length (x ++ t) - (length (x ++ t) - 16))) (drop_at x t (length (x ++ t) - 16) (omega arith)) ∙ take_all (length (x ++ t) - (length (x ++ t) - 16)) t (omega arith)

eqb_self : (a : ℕ) → eqb a a ≡ true
eqb_self a = eq-eqb a a refl

-- in any known form: 0 up to the trailer
module _ (form : Form) (c : Caps) (n k : ℕ) (own : form_of form.number ≡ form) (known : form_known form.number ≡ true) (fits : start_fits form c n k ≡ true) where
  abbrev start_words : List ℕ
  start_words = replicate (n - 16) 0 ++ trailer_words form c

  abbrev start_keys : List ℕ
  start_keys = replicate k 0

  abbrev start_frame : Frame
  start_frame = frame_with form (sizes_of form) c

  small : caps_small c ≡ true
  unfolding start_fits
  small = (both (caps_small c) (eqb n ((backs_of (sizes_of form) c).b1 + 16) && eqb k (c.c5 * form.limit)) fits).0

  exact : (eqb n ((backs_of (sizes_of form) c).b1 + 16) ≡ true) × (eqb k (c.c5 * form.limit) ≡ true)
  unfolding start_fits
  exact =
      both (eqb n ((backs_of (sizes_of form) c).b1 + 16)) (eqb k (c.c5 * form.limit))
      (both (caps_small c) (eqb n ((backs_of (sizes_of form) c).b1 + 16) && eqb k (c.c5 * form.limit)) fits).1

  sixteen : length (trailer_words form c) ≡ 16
  unfolding trailer_words
  sixteen = refl

  start_long : length start_words ≡ n
  start_long =
      length-append (replicate (n - 16) 0) (trailer_words form c) ∙ ap₂ (λ (a b : ℕ). a + b) (length-replicate (n - 16) 0) sixteen
      ∙ omega (arith, eqb-true n ((backs_of (sizes_of form) c).b1 + 16) exact.0)

  start_trailer : trailer_of start_words ≡ trailer_words form c
  start_trailer = trailer_end (replicate (n - 16) 0) (trailer_words form c) sixteen

  -- the trailer as it was written
  written : trailer_fits (trailer_words form c) n k ≡ true
  unfolding trailer_fits form_fits trailer_words
  written =
      let b = backs_of (sizes_of form) c in
      and_both (and_both known small)
      (ap (λ (g : Form). form_fits g (trailer_words form c) c n k) own
      ∙ and_both (and_both (and_both (and_both (and_both (and_both (and_both (eqb_self b.b1) (eqb_self b.b2)) (eqb_self b.b3)) (eqb_self b.b4)) (eqb_self b.b5)) (eqb_self (b.b1 + 16))) exact.0) exact.1)

  start_frame_lem : FrameOf start_frame start_words start_keys
  unfolding frame_fits frame_of trailer_words
  start_frame_lem =
      record {
        read = sym (ap frame_of start_trailer ∙ ap (λ (g : Form). frame_with g (sizes_of g) c) own);
        fits =
            and_both (le-leb 16 (length start_words) (omega (arith, start_long, eqb-true n ((backs_of (sizes_of form) c).b1 + 16) exact.0)))
            (ap₂ (λ (l : List ℕ) (m : ℕ). trailer_fits l m (length start_keys)) start_trailer start_long ∙ ap (trailer_fits (trailer_words form c) n) (length-replicate k 0) ∙ written);
      }

  -- the words of a place
  zeros : (x : Place) → in_pool start_frame x ≡ true → all_pass (at_most 0) (record_at start_frame start_words x) ≡ true
  zeros x h =
      let r = place_room start_frame_lem x h in
      let a = start_at start_frame x in
      ap (all_pass (at_most 0)) (between_left (replicate (n - 16) 0) (trailer_words form c) a (a + size_at start_frame x) (omega arith) (omega (arith, start_long, length-replicate {A = ℕ} (n - 16) 0)))
      ∙ all_between (at_most 0) (replicate (n - 16) 0) a (a + size_at start_frame x) (zeros_all (n - 16) 0)

  empty_made : Empty start_frame start_words start_keys
  unfolding trailer_words
  empty_made =
      record {
        frame = start_frame_lem;
        cells = λ x. cell x (in_pool start_frame x) refl;
        blank = blank;
        root = ap (λ (t : List ℕ). get_or t 11 0) start_trailer;
        first = ap (λ (t : List ℕ). get_or t 12 0) start_trailer;
        last = ap (λ (t : List ℕ). get_or t 13 0) start_trailer;
        count = ap (λ (t : List ℕ). get_or t 14 0) start_trailer;
      }
    where
      cell : (x : Place) (b : Bool) → in_pool start_frame x ≡ b → cell_of start_frame start_words start_keys x ≡ unused
      cell x true h = cell_free start_frame start_words start_keys x (ap (λ (l : List ℕ). get_or l 0 0) (all_zero (record_at start_frame start_words x) (zeros x h)) ∙ zeros_at (length (record_at start_frame start_words x)) 0)
      cell x false h = cell_out start_frame start_words start_keys x h

      blank : (x : Place) → in_pool start_frame x ≡ true → blank_at start_frame start_words start_keys x ≡ true
      blank (leaf_place m) h =
          and_both (zeros (leaf_place m) h) (all_between (at_most 0) start_keys (m * form.limit) (m * form.limit + form.limit) (zeros_all k 0))
      blank (inner_place j m) h = zeros (inner_place j m) h

pub start_refused : (words keys : List ℕ) (number : ℕ) (c : Caps) → start_fits_in number c (length words) (length keys) ≡ false → start_of words keys number c ≡ out (Err Unfit) words keys
unfolding start_of
start_refused words keys number c e = ap (λ (b : Bool). choose b (fresh words keys (form_of number) c) (out (Err Unfit) words keys)) e

-- on slices that fit
module _ (words keys : List ℕ) (number : ℕ) (c : Caps) (fits : start_fits_in number c (length words) (length keys) ≡ true) where
  parts : (form_known number ≡ true) × (start_fits (form_of number) c (length words) (length keys) ≡ true)
  unfolding start_fits_in
  parts = both (form_known number) (start_fits (form_of number) c (length words) (length keys)) fits

  done : start_of words keys number c ≡ fresh words keys (form_of number) c
  unfolding start_of
  done = ap (λ (b : Bool). choose b (fresh words keys (form_of number) c) (out (Err Unfit) words keys)) fits

  pub start_done : (start_of words keys number c).answer ≡ Ok tt
  start_done = ap (λ (o : Out). o.answer) done

  pub start_empty : Empty (frame_with (form_of number) (sizes_of (form_of number)) c) (start_of words keys number c).words (start_of words keys number c).keys
  start_empty =
      let own = (form_rules number parts.0).number in
      subst (λ (o : Out). Empty (frame_with (form_of number) (sizes_of (form_of number)) c) o.words o.keys) (sym done)
      (empty_made (form_of number) c (length words) (length keys) (ap form_of own) (ap form_known own ∙ parts.0) parts.1)
