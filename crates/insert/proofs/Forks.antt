-- A new branching at a point: the record below it keeps the rest of its run, which a leaf below has, and the writes make these cells.
use Prim.Native.Nat.{ℕ, suc, ◌+◌, ◌-◌, ◌*◌, ◌/◌, ◌≤◌, ◌<◌}
use mathlib.Core.Path.{◌≡◌, refl, sym, ap, ap₂, subst, ◌∙◌}
use mathlib.Core.Logic.{◌≢◌}
use mathlib.Core.List.{List}
use mathlib.Core.Bool.{true}
use native.Mathlib.Omega.{arith}
use lib.ListN.{length, get_or, take, drop, length-drop}
use lib.Seq.{drop-drop}
use borrow.Author.Tests.{leb-true}
use Rattle.points.specs.There.{Up, ForkThere}
use Rattle.lists.specs.Scan.{all_pass, at_most}
use Rattle.lists.specs.Part.{between}
use Rattle.lists.proofs.Tests.{all_at, all_take, all_drop, all_between}
use Rattle.lists.proofs.Parts.{between_length, between_drop}
use Rattle.prefix.specs.Run.{prefix_of, split_of, held}
use Rattle.prefix.specs.declared.Prefix.{Prefix}
use Rattle.prefix.proofs.Runs.{held_run, split_run}
use Rattle.frames.specs.Place.{place_at, ref_of, in_pool, record_at, key_at}
use Rattle.frames.specs.declared.frame.Frame.{Frame}
use Rattle.frames.proofs.Places.{inner_kind, place_inner, ref_place}
use Rattle.records.specs.Own.{prefix_at}
use Rattle.records.specs.View.{Held}
use Rattle.edits.specs.Inner.{PrefixFits}
use Rattle.art.specs.Tags.{Tag}
use Rattle.art.specs.Stores.{Place, leaf_place, inner_place, Cell, unused, leaf_cell, inner_cell, Store, write, apply, cell_tag}
use Rattle.art.specs.Refs.{Refs, pair_ref}
use Rattle.art.specs.Chain.{Links, leaf_ref}
use Rattle.art.specs.Points as art
use Rattle.art.specs.Points.{ChildAt, ForkFits, store_tag, trim, shorten}
use Rattle.art.proofs.Stores.{write_other}
use Rattle.view.specs.Pools.{FreeAt}
use Rattle.tree.specs.Seen.{length_at, tag_at}
use Rattle.writes.specs.At.{branch_at, InnerPoolAt}
use Rattle.writes.specs.Above.{link_up}
use Rattle.states.specs.State.{State}
use Rattle.states.proofs.Steps.{state_here, state_prefix_is, state_prefix_fits, state_leaf, state_zero, state_prefix, state_branch}
use Rattle.pointed.specs.Told.{up_told}
use Rattle.pointed.proofs.Ups.{UpOff, UpSame, off_same, same_then, up_used, up_off, up_edits, up_root, up_there, up_linked}
use Rattle.insert.specs.Apply.{cut_at, forked, CutOrLeaf, ForkReady}
use Rattle.insert.proofs.Runs.{RunAt, PlaceRun, run_room, run_there}
use Rattle.insert.proofs.Prefixes.{run_fits, prefix_is}

abbrev inner_cell_of : ℕ → List ℕ → Refs → Cell Held
inner_cell_of len st rs = inner_cell len st rs

-- what is left of a run past c bytes and one more, in a tag that has the run at depth d
rest_is : (t run : Tag) (d c : ℕ) → c < length run → take (length run) (drop d t) ≡ run → take (length run - suc c) (drop (suc (d + c)) t) ≡ drop (c + 1) run
rest_is t run d c less has =
    let a : suc (d + c) ≡ d + (c + 1) = omega arith in
    let b : length run - suc c ≡ length run - (c + 1) = omega arith in
    ap₂ (λ (k i : ℕ). take k (drop i t)) b a
    ∙ ap (take (length run - (c + 1))) (sym (drop-drop (c + 1) d t))
    ∙ between_drop (drop d t) (c + 1) (length run) (omega arith)
    ∙ ap (drop (c + 1)) has

-- ── the record below ──
module _ {f : Frame} {words keys : List ℕ} {σ : Store Held} {links : Links} {root count : ℕ} (s : State f words keys σ links root count)
    (w d c : ℕ) (t : Tag) (et : store_tag σ w ≡ t) where
  module _ (k n : ℕ) (r : RunAt σ k n w d c) where
    abbrev p : Prefix
    p = prefix_at f.form (record_at f words (inner_place k n))

    has : take (length r.run) (drop d t) ≡ r.run
    has = ap (λ (u : Tag). take (length r.run) (drop d u)) (sym et) ∙ run_there r

    fits_now : PrefixFits f.form p
    fits_now = state_prefix_fits s k n (length r.run) (take 8 r.run) r.rs r.shown

    full_now : p.full.0 ≡ length r.run
    full_now = (state_prefix_is s k n (length r.run) (take 8 r.run) r.rs r.shown).0

    own_now : p ≡ prefix_of r.run
    own_now = prefix_is fits_now r.run full_now (state_prefix_is s k n (length r.run) (take 8 r.run) r.rs r.shown).1

    cut_is : split_of p (c + 1) t d ≡ prefix_of (drop (c + 1) r.run)
    cut_is = ap (λ (q : Prefix). split_of q (c + 1) t d) own_now ∙ split_run r.run (c + 1) t d (omega (arith, r.longer)) has

    cut_fits : all_pass (at_most 255) t ≡ true → PrefixFits f.form (split_of p (c + 1) t d)
    cut_fits bytes =
        subst (PrefixFits f.form) (sym cut_is)
        (run_fits f.form (drop (c + 1) r.run) (omega (arith, length-drop (c + 1) r.run, fits_now.short, full_now))
        (all_drop (at_most 255) (c + 1) r.run (ap (all_pass (at_most 255)) (sym has) ∙ all_take (at_most 255) (length r.run) (drop d t) (all_drop (at_most 255) d t bytes))))

    cut_cell : inner_cell_of (split_of p (c + 1) t d).full.0 (held (split_of p (c + 1) t d)) r.rs ≡ trim t d c (σ (inner_place k n))
    unfolding prefix_of
    cut_cell =
        let q : Tag = drop (c + 1) r.run in
        let l : length q ≡ length r.run - suc c = omega (arith, length-drop (c + 1) r.run) in
        ap (λ (x : Prefix). inner_cell_of x.full.0 (held x) r.rs) cut_is
        ∙ ap (λ (h : List ℕ). inner_cell_of (length q) h r.rs) (held_run q)
        ∙ ap₂ (λ (i : ℕ) (z : Tag). inner_cell_of i (take 8 z) r.rs) l (sym (rest_is t r.run d c r.longer has))
        ∙ ap (trim t d c) (sym r.shown)

  -- it is there, and its run is in the leaf's tag
  pub cut_ready : (y : Place) → PlaceRun σ y w d c → CutOrLeaf f words y c t d
  cut_ready (leaf_place n) r = tt
  cut_ready (inner_place k n) r = record {
    here = state_here s k n (length r.run) (take 8 r.run) r.rs r.shown;
    inside = omega (arith, full_now k n r, r.longer);
    whole = omega (arith, full_now k n r, run_room r, ap length et);
  }

  pub cut_state : (y : Place) → PlaceRun σ y w d c → all_pass (at_most 255) t ≡ true → State f (cut_at f y c t d words) keys (apply σ (shorten t d c y (σ y))) links root count
  cut_state (leaf_place n) r bytes = s
  cut_state (inner_place k n) r bytes =
      subst (λ (e : Cell Held). State f (cut_at f (inner_place k n) c t d words) keys (write σ (inner_place k n) e) links root count) (cut_cell k n r)
      (state_prefix s k n (length r.run) (take 8 r.run) r.rs (split_of (p k n r) (c + 1) t d) r.shown (cut_fits k n r bytes))

  -- the record above is another
  cut_same : (up : art.Up) (y : Place) → UpOff up y → UpSame σ (apply σ (shorten t d c y (σ y))) up
  cut_same art.top (leaf_place n) h = tt
  cut_same art.top (inner_place k n) h = tt
  cut_same (art.via i m b) (leaf_place n) h = refl
  cut_same (art.via i m b) (inner_place k n) h = write_other σ (inner_place k n) (trim t d c (σ (inner_place k n))) (inner_place i m) h

-- ── the branching ──
module _ {f : Frame} {words keys : List ℕ} {σ : Store Held} {links : Links} {root count : ℕ} (s : State f words keys σ links root count)
    (apart : (k n b : ℕ) (y : Place) → ChildAt σ k n b y → inner_place k n ≢ y) (tag : Tag) (up : Up) (ref leaf d c : ℕ) (fits : ForkFits σ tag (up_told up) (place_at ref) (leaf / 8) d c)
    (run : PlaceRun σ (place_at ref) (leaf / 8) d c) (there : ForkThere f words keys tag up ref leaf d c) (tag_bytes : all_pass (at_most 255) tag ≡ true) (key-bytes : all_pass (at_most 255) keys ≡ true)
    (short : length tag ≤ f.form.limit) (n : ℕ) (pool : in_pool f (leaf_place n) ≡ true) (j m : ℕ) (free : FreeAt f words 1 j m) where
  abbrev t : Tag
  t = tag_at f words keys leaf

  abbrev y : Place
  y = place_at ref

  abbrev z : Place
  z = inner_place j m

  -- the leaf's tag, which has a byte at least, is the one that the store has there
  pub fork_tag : store_tag σ (leaf / 8) ≡ t
  fork_tag = go (σ (leaf_place (leaf / 8))) refl
    where
      go : (e : Cell Held) → σ (leaf_place (leaf / 8)) ≡ e → store_tag σ (leaf / 8) ≡ tag_at f words keys leaf
      go unused e = absurd (omega (arith, fits.inside_leaf, ap (λ (x : Cell Held). length (cell_tag x)) e))
      go (leaf_cell v a) e =
          let own : leaf_ref (leaf / 8) ≡ leaf = omega (arith, there.seen.kind) in
          ap cell_tag e ∙ sym (state_leaf s (leaf / 8) v a e).1 ∙ ap (tag_at f words keys) own
      go (inner_cell i st rs) e = absurd (omega (arith, fits.inside_leaf, ap (λ (x : Cell Held). length (cell_tag x)) e))

  t_bytes : all_pass (at_most 255) t ≡ true
  unfolding tag_at
  t_bytes =
      let a = leaf / 8 * f.form.limit in
      all_take (at_most 255) (length_at f words leaf) (key_at f keys (leaf / 8)) (all_between (at_most 255) keys a (a + f.form.limit) key-bytes)

  t_inside : d + c < length t
  t_inside = omega (arith, fits.inside_leaf, ap length fork_tag)

  low_byte : (l : List ℕ) → all_pass (at_most 255) l ≡ true → d + c < length l → get_or l (d + c) 0 < 256
  low_byte l h i = let b = leb-true (get_or l (d + c) 0) 255 (all_at (at_most 255) l h (d + c) i) in omega arith

  differ : get_or tag (d + c) 0 ≢ get_or t (d + c) 0
  differ e = fits.differ (e ∙ ap (λ (u : Tag). get_or u (d + c) 0) (sym fork_tag))

  -- the new record's prefix
  agreed_long : length (between tag d (d + c)) ≡ c
  agreed_long = between_length tag d (d + c) (omega arith) (omega (arith, fits.inside)) ∙ omega arith

  agreed_fits : PrefixFits f.form (prefix_of (between tag d (d + c)))
  agreed_fits = run_fits f.form (between tag d (d + c)) (omega (arith, agreed_long, fits.inside)) (all_between (at_most 255) tag d (d + c) tag_bytes)

  -- its cell
  abbrev pub branched : Cell Held
  branched = inner_cell_of c (take 8 (take c (drop d tag))) (pair_ref (get_or tag (d + c) 0) (leaf_place n) (get_or t (d + c) 0) y)

  branch_cell : inner_cell_of (prefix_of (between tag d (d + c))).full.0 (held (prefix_of (between tag d (d + c)))) (pair_ref (get_or tag (d + c) 0) (leaf_place n) (get_or t (d + c) 0) y) ≡ branched
  unfolding prefix_of
  branch_cell =
      let rs = pair_ref (get_or tag (d + c) 0) (leaf_place n) (get_or t (d + c) 0) y in
      let k : d + c - d ≡ c = omega arith in
      ap (λ (h : List ℕ). inner_cell_of (length (between tag d (d + c))) h rs) (held_run (between tag d (d + c)))
      ∙ ap₂ (λ (i q : ℕ). inner_cell_of i (take 8 (take q (drop d tag))) rs) agreed_long k

  new_kinds : (1 ≤ j) × (j ≤ 4)
  new_kinds = inner_kind s.frame j m free.pool

  new_place : place_at (m * 8 + j) ≡ z
  new_place = place_inner j m new_kinds.1

  new_free : σ z ≡ unused
  new_free = state_zero s z free.pool free.free

  -- the store below the new branching
  abbrev below : Store Held
  below = apply σ (shorten t d c y (σ y))

  branch_state : State f (forked f ref (m * 8 + j) tag t d c (leaf_ref n) words) keys (write below z branched) links root count
  unfolding forked
  branch_state =
      let cut = cut_state s (leaf / 8) d c t fork_tag y run t_bytes in
      let w' = cut_at f y c t d words in
      let at : (x : Place) (r : ℕ) (e : Cell Held) → Type 0 = λ x r e. State f (branch_at f x (prefix_of (between tag d (d + c))) (get_or tag (d + c) 0) (leaf_ref n) (get_or t (d + c) 0) r w') keys (write below z e) links root count in
      subst (λ (x : Place). at x ref branched) (sym new_place)
      (subst (λ (r : ℕ). at z r branched) (ref_place ref)
      (subst (λ (e : Cell Held). at z (ref_of y) e) branch_cell
      (state_branch cut j m (prefix_of (between tag d (d + c))) (get_or tag (d + c) 0) (get_or t (d + c) 0) (leaf_place n) y free.pool agreed_fits
      (low_byte tag tag_bytes fits.inside) (low_byte t t_bytes t_inside) differ pool there.pool)))

  above_same : UpSame σ (write below z branched) (up_told up)
  above_same =
      same_then σ below (write below z branched) (up_told up) (cut_same s (leaf / 8) d c t fork_tag (up_told up) y (up_off σ apart (up_told up) y fits.above))
      (off_same below (up_told up) z branched (up_used σ (up_told up) y z fits.above new_free))

  pub fork_ready : ForkReady f words keys tag up ref (m * 8 + j) leaf d c (leaf_ref n)
  fork_ready = record {
    seen = there.seen;
    inside = fits.inside;
    inside_leaf = t_inside;
    parts = differ;
    below_pool = there.pool;
    cut = cut_ready s (leaf / 8) d c t fork_tag y run;
    to = subst (InnerPoolAt f) (sym new_place) (record { pool = free.pool; low = new_kinds.0; high = new_kinds.1 });
    above = up_there branch_state σ up y above_same fits.above;
  }

  pub fork_state : State f (link_up f up (m * 8 + j) (forked f ref (m * 8 + j) tag t d c (leaf_ref n) words)) keys
      (apply (write below z branched) (up_edits σ (up_told up) z)) links (up_root (up_told up) root (m * 8 + j)) count
  fork_state = up_linked branch_state σ up y z above_same fits.above free.pool
