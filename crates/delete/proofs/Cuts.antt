-- Each cut finds what it needs, and its writes, in the code's order, show what the mathematics' writes make: places apart may be written in either order.
use Prim.Native.Nat.{ℕ, suc, ◌+◌, ◌/◌, ◌%◌, ◌≤◌}
use mathlib.Core.Path.{◌≡◌, refl, sym, ap, ap₂, subst, ◌∙◌}
use mathlib.Core.Logic.{◌≢◌}
use mathlib.Core.List.{List, [], ◌∷◌, ◌++◌}
use mathlib.Core.Option.{Option, none, some}
use mathlib.Core.Bool.{true}
use native.Mathlib.Omega.{arith}
use Rattle.points.specs.There.{Up, InnerFitsAt, HasChild, UpThere}
use lib.ListN.{length, take, length-append, length-take}
use Rattle.states.proofs.OneCell.{used_pool}
use Rattle.prefix.specs.Run.{held, merge_of}
use Rattle.frames.specs.Kind.{children_of}
use Rattle.frames.specs.Place.{place_at, ref_of, in_pool, record_at}
use Rattle.frames.specs.declared.frame.Frame.{Frame}
use Rattle.frames.proofs.Places.{ref_place, place_ref, inner_kind}
use Rattle.records.specs.Own.{prefix_at}
use Rattle.records.specs.View.{Held}
use Rattle.art.specs.Tags.{Tag}
use Rattle.art.specs.Trees.{Tree, leaf, inner}
use Rattle.art.specs.Deletes.{Home, stay}
use Rattle.art.specs.Stores.{Place, leaf_place, inner_place, Cell, unused, inner_cell, Store, Edits, write, apply, Used, root, refs}
use Rattle.art.specs.Walks.{Shows}
use Rattle.art.specs.Refs.{Refs, cut_ref}
use Rattle.art.specs.Chain.{Links}
use Rattle.art.specs.Points as art
use Rattle.art.proofs.Stores.{leaf_inner, write_other, write_write, write_comm, apply_append, used_not}
use Rattle.art.proofs.InsertPoints.{stays, relink_up_none}
use Rattle.edits.specs.declared.representation.Change.TheVariants.{Remove}
use Rattle.writes.specs.At.{change_at, Drops}
use Rattle.writes.specs.Above.{link_up}
use Rattle.pointed.specs.Told.{up_told}
use Rattle.pointed.proofs.Ups.{UpOff, UpSame, off_same, same_then, up_used, up_off, up_off_kid, up_edits, relink_is, up_root, up_rooted, inner_here, up_there, up_linked}
use Rattle.states.specs.State.{State}
use Rattle.delete.specs.declared.plan.Cut.{Cut}
use Rattle.delete.specs.declared.plan.Cut.TheVariants.{Root, Stay, Shrink, Merge}
use Rattle.delete.specs.Apply.{joined_at, merged, shrunk, pruned, JoinReady, CutReady}
use Rattle.states.proofs.Steps.{state_here, state_count_word, state_prefix_is, state_prefix_fits, state_child, state_byte, state_leaf, state_remove, state_prefix, state_drop, state_clear, state_root}
use Rattle.delete.proofs.Unders.{Under, Left, cut_left, run_length, run_short}
use Rattle.delete.proofs.Merges.{merge_full, merge_held, merge_fits}
use Rattle.delete.proofs.Lefts.{cut_length, settle_many, settle_home}

-- the reference to a root, 0 for none
abbrev pub root_ref : Option Place → ℕ
root_ref none = 0
root_ref (some x) = ref_of x

-- a cut may be made, and the words after it show the store after the mathematics' writes for the record above, with its root
pub record Pruned (f : Frame) (words keys : List ℕ) (σ : Store Held) (links : Links) (count : ℕ) (cut : Cut) (hm : Home) (upper up : art.Up) (o : Place) : Type 0 where
  pub ready : CutReady f words cut
  pub state : State f (pruned f cut words) keys (apply σ (art.delete_under σ hm upper up)) links (root_ref (art.under_root σ hm upper up o)) count

abbrev pub shrink_home : ℕ → ℕ → Home
shrink_home j m k n l = (j, m)

-- what holds at two places holds at the references to them
at_places : (P : Place → Place → Type 0) {p q x y : Place} → p ≡ x → q ≡ y → P x y → P p q
at_places P {p} {q} {x} {y} e i h = subst (λ (a : Place). P a q) (sym e) (subst (P x) (sym i) h)

-- a place that is used, and one that is not
apart_unused : (σ : Store Held) (x y : Place) → Used (σ x) → σ y ≡ unused → y ≢ x
apart_unused σ x y u e i = used_not (σ x) u (subst (λ (z : Place). σ z ≡ unused) i e)

-- the prefix of one child left is written again; a leaf has none
joined_comm : (σ : Store Held) (x : Place) (len : ℕ) (st : List ℕ) (c : ℕ) (y : Place) (d : Cell Held) → y ≢ x
    → apply (write σ x unused) (art.merge_into len st c y d) ≡ write (apply σ (art.merge_into len st c y d)) x unused
joined_comm σ x len st c (leaf_place m) d ne = refl
joined_comm σ x len st c (inner_place j m) d ne = write_comm σ x (inner_place j m) unused _ ne

joined_same : (σ : Store Held) (len : ℕ) (st : List ℕ) (c : ℕ) (d : Cell Held) (up : art.Up) (y : Place) → UpOff up y → UpSame σ (apply σ (art.merge_into len st c y d)) up
joined_same σ len st c d art.top y h = tt
joined_same σ len st c d (art.via i n b) (leaf_place m) h = refl
joined_same σ len st c d (art.via i n b) (inner_place j m) h = write_other σ (inner_place j m) _ (inner_place i n) h

-- an inner record of a tree, and its run
inner_kid : (t : Tree Held) (j m : ℕ) → root t ≡ inner_place j m → (p : Tag) (σ : Store Held) → Shows t p σ
    → (run : Tag) × (rs : Refs) × (σ (inner_place j m) ≡ inner_cell (length run) (take 8 run) rs) × (run_length t ≡ length run)
inner_kid (leaf n s a) j m e p σ h = absurd (leaf_inner n j m e)
inner_kid (inner k n run r) j m e p σ h = (run, refs r, subst (λ (x : Place). σ x ≡ inner_cell (length run) (take 8 run) (refs r)) e h.0, refl)

-- the first record of a tree is in use
shows_used : (t : Tree Held) (p : Tag) (σ : Store Held) → Shows t p σ → Used (σ (root t))
shows_used (leaf n s a) p σ h = subst Used (sym h) tt
shows_used (inner k n run r) p σ h = subst Used (sym h.0) tt

-- ── the root leaf ──
module _ {f : Frame} {words keys : List ℕ} {σ : Store Held} {links : Links} {root_word count : ℕ} (s : State f words keys σ links root_word count) where
  pub root_done : (hm : Home) (upper : art.Up) (o : Place) → Pruned f words keys σ links count Root hm upper art.top o
  unfolding pruned
  root_done hm upper o = record { ready = tt; state = state_root s 0 }

-- a state with its store and its root said otherwise
as_state : {f : Frame} {words keys : List ℕ} {σ τ : Store Held} {links : Links} {r r' count : ℕ} → State f words keys σ links r count → τ ≡ σ → r ≡ r' → State f words keys τ links r' count
as_state {f} {words} {keys} {σ} {τ} {links} {r} {r'} {count} s e i =
    subst (λ (ρ : Store Held). State f words keys ρ links r' count) (sym e) (subst (λ (q : ℕ). State f words keys σ links q count) i s)

-- ── the record above, in a store where no record is its own child or its child's child ──
module _ {f : Frame} {words keys : List ℕ} {σ : Store Held} {links : Links} {root_word count : ℕ} (s : State f words keys σ links root_word count)
    (near : (k n c : ℕ) (v : Place) → art.ChildAt σ k n c v → inner_place k n ≢ v)
    (far : (k n c i m d : ℕ) (v : Place) → art.ChildAt σ k n c (inner_place i m) → art.ChildAt σ i m d v → inner_place k n ≢ v)
    (o : Place) (er : root_word ≡ ref_of o) (upper : Up) (ref b : ℕ) (y : Place) (w : Under σ o (up_told upper) (ref % 8) (ref / 8) b y) where
  abbrev x : Place
  x = inner_place (ref % 8) (ref / 8)

  abbrev above_up : art.Up
  above_up = up_told upper

  abbrev via_up : art.Up
  via_up = art.via (ref % 8) (ref / 8) b

  abbrev len : ℕ
  len = length w.run

  abbrev st : List ℕ
  st = take 8 w.run

  abbrev rs : Refs
  rs = refs w.row

  here_used : Used (σ x)
  here_used = subst Used (sym w.shown) tt

  pool : in_pool f x ≡ true
  pool = used_pool s x here_used

  place : place_at ref ≡ x
  place = inner_here s ref here_used

  has_child : HasChild f words x b
  has_child = state_child s (ref % 8) (ref / 8) len st rs b y w.shown w.child_is

  -- the mathematics' writes and root, with the record's cell
  under_is : (hm : Home) → art.delete_under σ hm above_up via_up ≡ art.settle_refs σ hm (ref % 8) (ref / 8) len st (cut_ref b rs) ++ art.relink_up σ above_up x (art.settle_place hm (ref % 8) (ref / 8) (cut_ref b rs))
  under_is hm =
      ap (λ (c : Cell Held). art.settle_cell σ hm (ref % 8) (ref / 8) b c ++ art.relink_up σ above_up x (art.settle_place hm (ref % 8) (ref / 8) (cut_ref b (art.cell_refs c)))) w.shown

  root_is : (hm : Home) → root_ref (art.under_root σ hm above_up via_up o) ≡ ref_of (art.new_root above_up o (art.settle_place hm (ref % 8) (ref / 8) (cut_ref b rs)))
  root_is hm = ap (λ (c : Cell Held). ref_of (art.new_root above_up o (art.settle_place hm (ref % 8) (ref / 8) (cut_ref b (art.cell_refs c))))) w.shown

  -- words that show what the mathematics' writes make
  abbrev After : Home → List ℕ → Type 0
  After hm words' = State f words' keys (apply σ (art.delete_under σ hm above_up via_up)) links (root_ref (art.under_root σ hm above_up via_up o)) count

  -- ── it loses a child ──
  pub stay_done : 3 ≤ length rs → Pruned f words keys σ links count (Stay ref b) stay above_up via_up o
  unfolding pruned
  stay_done three =
      let left : 2 ≤ length (cut_ref b rs) = omega (arith, cut_length b rs y w.child_is) in
      let at : art.settle_place stay (ref % 8) (ref / 8) (cut_ref b rs) ≡ x = settle_home stay (ref % 8) (ref / 8) (cut_ref b rs) left in
      let edits : apply σ (art.delete_under σ stay above_up via_up) ≡ write σ x (inner_cell len st (cut_ref b rs)) =
      ap (apply σ)
      (under_is stay
      ∙ ap₂ (λ (es fs : Edits Held). es ++ fs) (settle_many σ stay (ref % 8) (ref / 8) len st (cut_ref b rs) left) (ap (art.relink_up σ above_up x) at ∙ relink_up_none σ above_up x))
      ∙ write_write σ x unused (inner_cell len st (cut_ref b rs)) in
      let root' : root_word ≡ root_ref (art.under_root σ stay above_up via_up o) = er ∙ ap ref_of (stays above_up o x w.at_top ∙ ap (art.new_root above_up o) (sym at)) ∙ sym (root_is stay) in
      record {
        ready = subst (λ (p : Place). HasChild f words p b) (sym place) has_child;
        state =
            subst (λ (p : Place). After stay (change_at f p b Remove words)) (sym place)
            (as_state (state_remove s (ref % 8) (ref / 8) len st rs b y w.shown w.child_is three) edits root');
      }

  -- ── it moves into a smaller one ──
  module _ (j m : ℕ) (new_pool : in_pool f (inner_place j m) ≡ true) (free : σ (inner_place j m) ≡ unused) (three : 3 ≤ length rs) (room : length rs ≤ children_of j + 1) where
    abbrev z : Place
    z = inner_place j m

    abbrev cut_cell : Cell Held
    cut_cell = inner_cell len st (cut_ref b rs)

    abbrev moved : Store Held
    moved = write (write σ z cut_cell) x unused

    z_apart : z ≢ x
    z_apart = apart_unused σ x z here_used free

    moved_state : State f (shrunk f x z b words) keys moved links root_word count
    unfolding shrunk
    moved_state = state_clear (state_drop s (ref % 8) (ref / 8) len st rs b y j m w.shown w.child_is three new_pool room) (ref % 8) (ref / 8) pool

    moved_same : UpSame σ moved above_up
    moved_same =
        same_then σ (write σ z cut_cell) moved above_up (off_same σ above_up z cut_cell (up_used σ above_up x z w.above free))
        (off_same (write σ z cut_cell) above_up x unused (up_off σ near above_up x w.above))

    pub shrink_done : Pruned f words keys σ links count (Shrink upper ref (ref_of z) b) (shrink_home j m) above_up via_up o
    unfolding pruned
    shrink_done =
        let hm = shrink_home j m in
        let left : 2 ≤ length (cut_ref b rs) = omega (arith, cut_length b rs y w.child_is) in
        let at : art.settle_place hm (ref % 8) (ref / 8) (cut_ref b rs) ≡ z = settle_home hm (ref % 8) (ref / 8) (cut_ref b rs) left in
        let relink : art.relink_up σ above_up x z ≡ up_edits σ above_up z = relink_is σ above_up x z (λ e. z_apart (sym e)) in
        let edits : apply σ (art.delete_under σ hm above_up via_up) ≡ apply moved (up_edits σ above_up z) =
        ap (apply σ) (under_is hm ∙ ap₂ (λ (es fs : Edits Held). es ++ fs) (settle_many σ hm (ref % 8) (ref / 8) len st (cut_ref b rs) left) (ap (art.relink_up σ above_up x) at ∙ relink))
        ∙ ap (λ (τ : Store Held). apply τ (up_edits σ above_up z)) (write_comm σ x z unused cut_cell z_apart) in
        let root' : up_root above_up root_word (ref_of z) ≡ root_ref (art.under_root σ hm above_up via_up o) = up_rooted above_up root_word o z er ∙ ap (λ (p : Place). ref_of (art.new_root above_up o p)) (sym at) ∙ sym (root_is hm) in
        let kind = inner_kind s.frame j m new_pool in
        let few = state_count_word s (ref % 8) (ref / 8) len st rs w.shown in
        let drops : Drops f words x z b = record { from = has_child; to = record { pool = new_pool; low = kind.0; high = kind.1 }; room = omega (arith, few) } in
        let new_place : place_at (ref_of z) ≡ z = place_ref f z new_pool in
        let linked = as_state (up_linked moved_state σ upper x z moved_same w.above new_pool) edits root' in
        record {
          ready = record {
            drops = at_places (λ (p q : Place). Drops f words p q b) place new_place drops;
            above = at_places (λ (p q : Place). UpThere f (shrunk f p q b words) upper) place new_place (up_there moved_state σ upper x moved_same w.above);
          };
          state = at_places (λ (p q : Place). After hm (link_up f upper (ref_of z) (shrunk f p q b words))) place new_place linked;
        }

  -- ── one child is left ──
  kid : (c : ℕ) (q : Place) → cut_ref b rs ≡ (c, q) ∷ [] → Left σ w.row (w.path ++ w.run) c q
  kid c q left = cut_left σ b w.row (w.path ++ w.run) w.good w.shows c q [] left

  -- its prefix is joined to the record's, where it has one
  joined : (c : ℕ) (q : Place) → cut_ref b rs ≡ (c, q) ∷ []
      → State f (joined_at f x q c words) keys (apply σ (art.merge_into len st c q (σ q))) links root_word count × JoinReady f words q
  joined c (leaf_place m) left = (s, tt)
  joined c (inner_place j m) left =
      let t = kid c (inner_place j m) left in
      let i = inner_kid t.tree j m t.root_is (w.path ++ w.run ++ c ∷ []) σ t.shows in
      let p = prefix_at f.form (record_at f words x) in
      let q = prefix_at f.form (record_at f words (inner_place j m)) in
      let a = state_prefix_is s (ref % 8) (ref / 8) len st rs w.shown in
      let d = state_prefix_is s j m (length i.0) (take 8 i.0) i.1 i.2 in
      let long : length (w.path ++ w.run ++ c ∷ []) + run_length t.tree ≤ f.form.limit =
      run_short σ f.form.limit (λ n u v e. (state_leaf s n u v e).4) t.tree t.good (w.path ++ w.run ++ c ∷ []) t.shows in
      let short : p.full.0 + 1 + q.full.0 ≤ f.form.limit = omega (arith, a.0, d.0, i.3, long, length-append (w.path ++ w.run) (c ∷ []), length-append w.path w.run) in
      let fits = merge_fits p c q (state_prefix_fits s (ref % 8) (ref / 8) len st rs w.shown) (state_prefix_fits s j m (length i.0) (take 8 i.0) i.1 i.2)
      (state_byte s (ref % 8) (ref / 8) len st rs c (inner_place j m) w.shown t.found) short in
      let full : (merge_of p c q).full.0 ≡ len + suc (length i.0) = omega (arith, merge_full p c q, a.0, d.0) in
      let stored : held (merge_of p c q) ≡ take 8 (st ++ c ∷ take 8 i.0) =
      merge_held p c q (ap length a.1 ∙ omega (arith, length-take 8 w.run, a.0)) (ap length d.1 ∙ omega (arith, length-take 8 i.0, d.0))
      ∙ ap₂ (λ (g h : List ℕ). take 8 (g ++ c ∷ h)) a.1 d.1 in
      let cell : art.merge len st c (σ (inner_place j m)) ≡ inner_cell (merge_of p c q).full.0 (held (merge_of p c q)) i.1 =
      ap (art.merge len st c) i.2 ∙ ap₂ (λ (g : ℕ) (h : List ℕ). inner_cell g h i.1) (sym full) (sym stored) in (
        as_state (state_prefix s j m (length i.0) (take 8 i.0) i.1 (merge_of p c q) i.2 fits) (ap (write σ (inner_place j m)) cell) refl,
        state_here s j m (length i.0) (take 8 i.0) i.1 i.2,
      )

  module _ (c r : ℕ) (left : cut_ref b rs ≡ (c, place_at r) ∷ []) where
    abbrev q : Place
    q = place_at r

    one : Left σ w.row (w.path ++ w.run) c q
    one = kid c q left

    abbrev with_child : Store Held
    with_child = apply σ (art.merge_into len st c q (σ q))

    abbrev freed : Store Held
    freed = write with_child x unused

    freed_state : State f (merged f x q c words) keys freed links root_word count
    unfolding merged
    freed_state = state_clear (joined c q left).0 (ref % 8) (ref / 8) pool

    child_at : art.ChildAt σ (ref % 8) (ref / 8) c q
    child_at = record { len = len; rs = rs; parent = record { stored = st; shown = w.shown }; child = one.found }

    freed_same : UpSame σ freed above_up
    freed_same =
        same_then σ with_child freed above_up (joined_same σ len st c (σ q) above_up q (up_off_kid σ far above_up (ref % 8) (ref / 8) c q w.above child_at))
        (off_same with_child above_up x unused (up_off σ near above_up x w.above))

    pub merge_done : Pruned f words keys σ links count (Merge upper ref r c) stay above_up via_up o
    unfolding pruned
    merge_done =
        let hm = stay in
        let apart : q ≢ x = λ e. near (ref % 8) (ref / 8) c q child_at (sym e) in
        let pool' : in_pool f q ≡ true = used_pool s q (subst (λ (p : Place). Used (σ p)) one.root_is (shows_used one.tree (w.path ++ w.run ++ c ∷ []) σ one.shows)) in
        let relink : art.relink_up σ above_up x q ≡ up_edits σ above_up q = relink_is σ above_up x q (λ e. apart (sym e)) in
        let edits : apply σ (art.delete_under σ hm above_up via_up) ≡ apply freed (up_edits σ above_up q) =
        ap (apply σ)
        (under_is hm
        ∙ ap (λ (l : Refs). art.settle_refs σ hm (ref % 8) (ref / 8) len st l ++ art.relink_up σ above_up x (art.settle_place hm (ref % 8) (ref / 8) l)) left
        ∙ ap (λ (es : Edits Held). (x, unused) ∷ art.merge_into len st c q (σ q) ++ es) relink)
        ∙ apply_append (write σ x unused) (art.merge_into len st c q (σ q)) (up_edits σ above_up q)
        ∙ ap (λ (τ : Store Held). apply τ (up_edits σ above_up q)) (joined_comm σ x len st c q (σ q) apart) in
        let root' : up_root above_up root_word (ref_of q) ≡ root_ref (art.under_root σ hm above_up via_up o) =
        up_rooted above_up root_word o q er ∙ ap (λ (l : Refs). ref_of (art.new_root above_up o (art.settle_place hm (ref % 8) (ref / 8) l))) (sym left) ∙ sym (root_is hm) in
        let linked = as_state (up_linked freed_state σ upper x q freed_same w.above pool') edits root' in
        record {
          ready = record {
            here = subst (InnerFitsAt f words) (sym place) has_child.here;
            child_ready = (joined c q left).1;
            low = state_byte s (ref % 8) (ref / 8) len st rs c q w.shown one.found;
            above = subst (λ (p : Place). UpThere f (merged f p q c words) upper) (sym place) (up_there freed_state σ upper x freed_same w.above);
          };
          state =
              subst (λ (p : Place). After hm (link_up f upper r (merged f p q c words))) (sym place)
              (subst (λ (h : ℕ). After hm (link_up f upper h (merged f x q c words))) (ref_place r) linked);
        }
