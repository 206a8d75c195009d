-- Links, leaves and the trailer's words written: no cell goes by a link, and a leaf's record and key bytes are one cell.
use Prim.Native.Nat.{ℕ, ◌≤◌}
use mathlib.Core.Path.{◌≡◌, ap, ap₂, ◌∙◌}
use mathlib.Core.Logic.{◌≢◌}
use mathlib.Core.List.{List}
use mathlib.Core.Bool.{true, ◌&&◌}
use native.Mathlib.Omega.{arith}
use lib.ListN.{length, get_or}
use Rattle.lists.specs.Scan.{all_pass, at_most}
use Rattle.frames.specs.Frame.{FrameOf, root_word, count_word}
use Rattle.frames.specs.Place.{in_pool, put_at, put_key}
use Rattle.frames.specs.declared.frame.Frame.{Frame}
use Rattle.records.specs.Own.{leaf_ok}
use Rattle.records.specs.View.{Held, leaf_cell_of, cell_of}
use Rattle.art.specs.Stores.{Place, leaf_place, Cell, unused, Store, Used, write}
use Rattle.art.specs.Chain.{Links, own_links, set_after, set_before}
use Rattle.pools.specs.Link.{set_trailer, set_next, set_previous}
use Rattle.view.specs.Cells.{Same}
use Rattle.view.specs.Links.{UsedOrEnd, links_of}
use Rattle.view.proofs.Puts.{put_same, put_trailer}
use Rattle.view.proofs.Keys.{key_same, leaf_fits, leaf_keeps, leaf_view}
use Rattle.view.proofs.Trailers.{trailer_keeps, trailer_view, trailer_fits_lem}
use Rattle.view.proofs.Links.{used_leaf, next_fits, next_view, next_keeps, previous_fits, previous_view, previous_keeps}
use Rattle.view.proofs.Chains.{leaf_links, trailer_links, next_links, previous_links, next_trailer, previous_trailer}
use Rattle.states.specs.State.{State}
use Rattle.states.proofs.OneCell.{used_pool, state_changed}

module _ {f : Frame} {words keys : List ℕ} {σ : Store Held} {links : Links} {root count : ℕ} (s : State f words keys σ links root count) where
  -- other words that show the same everywhere
  same_state : {words' : List ℕ} {links' : Links} {root' count' : ℕ} → FrameOf f words' keys → cell_of f words' keys ≡ cell_of f words keys
      → ((x : Place) → in_pool f x ≡ true → Same f words keys words' keys x) → links_of f words' ≡ links' → root_word words' ≡ root' → count_word words' ≡ count'
      → State f words' keys σ links' root' count'
  same_state w v same l r c =
      record {
        frame = w;
        cells = v ∙ s.cells;
        rules = λ x u. (same x (used_pool s x u)).rule ∙ s.rules x u;
        free = λ x p u. (same x p).blank ∙ s.free x p u;
        links_are = l;
        root_is = r;
        count_is = c;
      }

  -- root or count written
  pub trailer_state : (i v : ℕ) {root' count' : ℕ} → 11 ≤ i → i ≤ 14 → i ≢ 12 → i ≢ 13 → root_word (set_trailer i v words) ≡ root' → count_word (set_trailer i v words) ≡ count'
      → State f (set_trailer i v words) keys σ links root' count'
  trailer_state i v low high a b =
      let w = s.frame in
      same_state (trailer_fits_lem w i v low high) (trailer_view w i v) (trailer_keeps w i v) (trailer_links w i v (omega arith) a b ∙ s.links_are)

  -- what comes after a leaf, and what comes before it
  pub next_state : (ref v : ℕ) → UsedOrEnd f words keys ref → State f (set_next f ref v words) keys σ (set_after links ref v) root count
  next_state ref v u =
      let w = s.frame in
      let h = used_leaf f words keys ref u in
      same_state (next_fits w ref v h) (next_view w ref v h) (next_keeps w ref v u) (next_links w ref v h ∙ ap (λ (k : Links). set_after k ref v) s.links_are)
      (next_trailer w ref v h 11 (λ e. omega arith) ∙ s.root_is) (next_trailer w ref v h 14 (λ e. omega arith) ∙ s.count_is)

  pub previous_state : (ref v : ℕ) → UsedOrEnd f words keys ref → State f (set_previous f ref v words) keys σ (set_before links ref v) root count
  previous_state ref v u =
      let w = s.frame in
      let h = used_leaf f words keys ref u in
      same_state (previous_fits w ref v h) (previous_view w ref v h) (previous_keeps w ref v u) (previous_links w ref v h ∙ ap (λ (k : Links). set_before k ref v) s.links_are)
      (previous_trailer w ref v h 11 (λ e. omega arith) ∙ s.root_is) (previous_trailer w ref v h 14 (λ e. omega arith) ∙ s.count_is)

  -- a leaf's record and key bytes
  module _ (n : ℕ) (rec key : List ℕ) (pool : in_pool f (leaf_place n) ≡ true) (long : length rec ≡ 6) (fit : length key ≡ f.form.limit) where
    pub leaf_state : (c : Cell Held) → leaf_cell_of n rec key ≡ c → (Used c → leaf_ok f.form.limit rec key ≡ true) → (c ≡ unused → all_pass (at_most 0) rec && all_pass (at_most 0) key ≡ true)
        → State f (put_at f words (leaf_place n) rec) (put_key f keys n key) (write σ (leaf_place n) c) (own_links links n (get_or rec 2 0) (get_or rec 3 0)) root count
    leaf_state c e rule blank =
        let w = s.frame in
        let t = put_trailer w (leaf_place n) rec pool long in
        let a = put_same w (leaf_place n) rec pool long in
        let b = key_same w n key pool fit in
        state_changed s
        (record {
          frame = leaf_fits w n key pool fit rec long;
          cells = leaf_view w n key pool fit rec long ∙ ap (write (cell_of f words keys) (leaf_place n)) e;
          rule = λ u. ap₂ (leaf_ok f.form.limit) a b ∙ rule u;
          blank = λ u. ap₂ (λ (r k : List ℕ). all_pass (at_most 0) r && all_pass (at_most 0) k) a b ∙ blank u;
          others = leaf_keeps w n key pool fit rec long;
        })
        (leaf_links w n rec pool long ∙ ap (λ (k : Links). own_links k n (get_or rec 2 0) (get_or rec 3 0)) s.links_are)
        (ap (λ (l : List ℕ). get_or l 11 0) t ∙ s.root_is) (ap (λ (l : List ℕ). get_or l 14 0) t ∙ s.count_is)
