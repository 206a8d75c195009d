-- The links written: a leaf's words 2 and 3, or the trailer's first and last; no cell, rule or blankness of a place in use goes by them.
use Prim.Native.Nat.{ℕ, ◌+◌, ◌*◌}
use mathlib.Core.Path.{◌≡◌, sym, ap, ap₂, subst, ◌∙◌}
use mathlib.Core.Logic.{inl, inr, ◌≢◌}
use mathlib.Core.List.{List}
use mathlib.Core.Bool.{Bool, true, false, ◌&&◌}
use native.Mathlib.Omega.{arith}
use lib.ListN.{length, get_or, set, length-set}
use lib.Seq.{get_or-set_other}
use borrow.Author.Tests.{eq-eqb, ne_eqb, lt-leb}
use Rattle.lists.specs.Scan.{choose, all_pass, at_most}
use Rattle.lists.proofs.Tests.{all_fails}
use Rattle.lists.proofs.Parts.{splice_set}
use Rattle.frames.specs.Kind.{leaf_size}
use Rattle.frames.specs.Frame.{FrameOf}
use Rattle.records.specs.Own.{leaf_ok, total_of}
use Rattle.frames.specs.Place.{place_at, in_pool, start_at, record_at, key_at, put_at}
use Rattle.records.specs.View.{leaf_cell_of, cell_of}
use Rattle.frames.specs.declared.frame.Frame.{Frame}
use Rattle.frames.proofs.Places.{place_leaf, record_length}
use Rattle.art.specs.Stores.{Place, leaf_place, place_dec}
use Rattle.art.specs.Chain.{leaf_ref}
use Rattle.pools.specs.Link.{LeafOrEnd, set_trailer, set_next, set_previous, set_link}
use Rattle.view.specs.Cells.{word_zero, Same}
use Rattle.view.specs.Links.{UsedOrEnd, Direction}
use Rattle.view.proofs.Views.{cell_in_lem, used_place, same_view}
use Rattle.view.proofs.Puts.{put_same, put_fits, put_keeps}
use Rattle.view.proofs.Trailers.{trailer_keeps, trailer_fits_lem}

pub used_leaf : (f : Frame) (words keys : List ℕ) (ref : ℕ) → UsedOrEnd f words keys ref → LeafOrEnd f ref
used_leaf f words keys ref (inl e) = inl e
used_leaf f words keys ref (inr u) = inr (u.0, u.1, (used_place f words keys (leaf_place u.0) u.2).0)

pub next_way : Direction 12 3
next_way = record { trailer_low = omega arith; trailer_high = omega arith; leaf_low = omega arith; leaf_high = omega arith }

pub previous_way : Direction 13 2
previous_way = record { trailer_low = omega arith; trailer_high = omega arith; leaf_low = omega arith; leaf_high = omega arith }

-- a leaf's words 0 and 1 and its total are all that its cell and its rule go by
leaf_same : (n limit : ℕ) (rec rec' key : List ℕ) → get_or rec' 0 0 ≡ get_or rec 0 0 → get_or rec' 1 0 ≡ get_or rec 1 0 → total_of rec' ≡ total_of rec
    → (leaf_cell_of n rec' key ≡ leaf_cell_of n rec key) × (leaf_ok limit rec' key ≡ leaf_ok limit rec key)
unfolding leaf_ok
leaf_same n limit rec rec' key a b c = (rw (a, b, c), rw (a, b))

module _ {f : Frame} {words keys : List ℕ} {t i : ℕ} (w : FrameOf f words keys) (way : Direction t i) (v : ℕ) where
  pub link_trailer : (ref : ℕ) → ref ≡ 0 → set_link t i f ref v words ≡ set_trailer t v words
  unfolding set_link
  link_trailer ref e = ap (λ (b : Bool). choose b (set_trailer t v words) (set words (start_at f (place_at ref) + i) v)) (eq-eqb ref 0 e)

  pub link_put : (ref n : ℕ) → ref ≡ leaf_ref n → set_link t i f ref v words ≡ put_at f words (leaf_place n) (set (record_at f words (leaf_place n)) i v)
  unfolding set_link
  link_put ref n e =
      ap (λ (b : Bool). choose b (set_trailer t v words) (set words (start_at f (place_at ref) + i) v)) (ne_eqb ref 0 (λ z. omega arith))
      ∙ ap (λ (x : Place). set words (start_at f x + i) v) (ap place_at e ∙ place_leaf n)
      ∙ sym (splice_set words (start_at f (leaf_place n)) (start_at f (leaf_place n) + leaf_size) i v (omega arith))

  pub link_long : (n : ℕ) → in_pool f (leaf_place n) ≡ true → length (set (record_at f words (leaf_place n)) i v) ≡ 6
  link_long n hn = length-set (record_at f words (leaf_place n)) i v ∙ record_length w (leaf_place n) hn

  link_fits : (ref : ℕ) → LeafOrEnd f ref → FrameOf f (set_link t i f ref v words) keys
  link_fits ref (inl e) = subst (λ (l : List ℕ). FrameOf f l keys) (sym (link_trailer ref e)) (trailer_fits_lem w t v (omega arith) (omega arith))
  link_fits ref (inr u) =
      let n = u.0 in
      subst (λ (l : List ℕ). FrameOf f l keys) (sym (link_put ref n u.1))
      (put_fits w (leaf_place n) (set (record_at f words (leaf_place n)) i v) u.2 (link_long n u.2))

  -- the leaf written
  module _ (n : ℕ) (hn : in_pool f (leaf_place n) ≡ true) where
    rec : List ℕ
    rec = record_at f words (leaf_place n)

    now : List ℕ
    now = put_at f words (leaf_place n) (set rec i v)

    there : record_at f now (leaf_place n) ≡ set rec i v
    unfolding rec now
    there = put_same w (leaf_place n) (set rec i v) hn (link_long n hn)

    stays : (j : ℕ) → j ≢ i → get_or (record_at f now (leaf_place n)) j 0 ≡ get_or rec j 0
    stays j ne = ap (λ (l : List ℕ). get_or l j 0) there ∙ get_or-set_other rec i j v 0 ne

    total : total_of (record_at f now (leaf_place n)) ≡ total_of rec
    unfolding total_of
    total = ap₂ (λ (a b : ℕ). a + b * 4294967296) (stays 4 (λ e. omega arith)) (stays 5 (λ e. omega arith))

    alike : (leaf_cell_of n (record_at f now (leaf_place n)) (key_at f keys n) ≡ leaf_cell_of n rec (key_at f keys n))
        × (leaf_ok f.form.limit (record_at f now (leaf_place n)) (key_at f keys n) ≡ leaf_ok f.form.limit rec (key_at f keys n))
    alike = leaf_same n f.form.limit rec (record_at f now (leaf_place n)) (key_at f keys n) (stays 0 (λ e. omega arith)) (stays 1 (λ e. omega arith)) total

    here_cell : cell_of f now keys (leaf_place n) ≡ cell_of f words keys (leaf_place n)
    unfolding rec
    here_cell = cell_in_lem f now keys (leaf_place n) hn ∙ alike.0 ∙ sym (cell_in_lem f words keys (leaf_place n) hn)

    not_blank : (l : List ℕ) → length l ≡ 6 → get_or l 0 0 ≢ 0 → all_pass (at_most 0) l ≡ false
    not_blank l e ne = all_fails (at_most 0) l 0 (omega arith) (lt-leb (get_or l 0 0) 0 (omega arith))

    here : word_zero f words (leaf_place n) ≢ 0 → Same f words keys now keys (leaf_place n)
    unfolding rec
    here used =
        let a = not_blank rec (record_length w (leaf_place n) hn) used in
        let b = not_blank (record_at f now (leaf_place n)) (ap length there ∙ link_long n hn) (λ e. used (sym (stays 0 (λ q. omega arith)) ∙ e)) in
        record {
          cell = here_cell;
          rule = alike.1;
          blank = ap (λ (z : Bool). z && all_pass (at_most 0) (key_at f keys n)) (b ∙ sym a);
        }

    same_cell : (x : Place) → in_pool f x ≡ true → Dec (x ≡ leaf_place n) → cell_of f now keys x ≡ cell_of f words keys x
    unfolding now rec
    same_cell x hx (yes e) = subst (λ (y : Place). cell_of f now keys y ≡ cell_of f words keys y) (sym e) here_cell
    same_cell x hx (no ne) = (put_keeps w (leaf_place n) (set rec i v) hn (link_long n hn) x hx ne).cell

    same_there : word_zero f words (leaf_place n) ≢ 0 → (x : Place) → in_pool f x ≡ true → Dec (x ≡ leaf_place n) → Same f words keys now keys x
    unfolding now rec
    same_there used x hx (yes e) = subst (Same f words keys now keys) (sym e) (here used)
    same_there used x hx (no ne) = put_keeps w (leaf_place n) (set rec i v) hn (link_long n hn) x hx ne

  link_view : (ref : ℕ) → LeafOrEnd f ref → cell_of f (set_link t i f ref v words) keys ≡ cell_of f words keys
  unfolding now rec
  link_view ref (inl e) = same_view f words keys (set_link t i f ref v words) keys (λ x hx. subst (λ (l : List ℕ). cell_of f l keys x ≡ cell_of f words keys x) (sym (link_trailer ref e)) (trailer_keeps w t v x hx).cell)
  link_view ref (inr u) =
      same_view f words keys (set_link t i f ref v words) keys
      (λ x hx. subst (λ (l : List ℕ). cell_of f l keys x ≡ cell_of f words keys x) (sym (link_put ref u.0 u.1)) (same_cell u.0 u.2 x hx (place_dec x (leaf_place u.0))))

  link_keeps : (ref : ℕ) → UsedOrEnd f words keys ref → (x : Place) → in_pool f x ≡ true → Same f words keys (set_link t i f ref v words) keys x
  unfolding now rec
  link_keeps ref (inl e) x hx = subst (λ (l : List ℕ). Same f words keys l keys x) (sym (link_trailer ref e)) (trailer_keeps w t v x hx)
  link_keeps ref (inr u) x hx =
      let p = used_place f words keys (leaf_place u.0) u.2 in
      subst (λ (l : List ℕ). Same f words keys l keys x) (sym (link_put ref u.0 u.1))
      (same_there u.0 p.0 p.1 x hx (place_dec x (leaf_place u.0)))

-- ── what comes after a leaf, and what comes before it ──
module _ {f : Frame} {words keys : List ℕ} (w : FrameOf f words keys) (ref v : ℕ) where
  pub next_fits : LeafOrEnd f ref → FrameOf f (set_next f ref v words) keys
  unfolding set_next
  next_fits = link_fits w next_way v ref

  pub next_view : LeafOrEnd f ref → cell_of f (set_next f ref v words) keys ≡ cell_of f words keys
  unfolding set_next
  next_view = link_view w next_way v ref

  pub next_keeps : UsedOrEnd f words keys ref → (x : Place) → in_pool f x ≡ true → Same f words keys (set_next f ref v words) keys x
  unfolding set_next
  next_keeps = link_keeps w next_way v ref

  pub previous_fits : LeafOrEnd f ref → FrameOf f (set_previous f ref v words) keys
  unfolding set_previous
  previous_fits = link_fits w previous_way v ref

  pub previous_view : LeafOrEnd f ref → cell_of f (set_previous f ref v words) keys ≡ cell_of f words keys
  unfolding set_previous
  previous_view = link_view w previous_way v ref

  pub previous_keeps : UsedOrEnd f words keys ref → (x : Place) → in_pool f x ≡ true → Same f words keys (set_previous f ref v words) keys x
  unfolding set_previous
  previous_keeps = link_keeps w previous_way v ref
