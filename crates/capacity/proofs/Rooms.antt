-- A new tag finds the inner record that it needs: by the count a pool has a free one, and a record of kind 4 without a child for a byte has room for it.
use Prim.Native.Nat.{ℕ, suc, ◌+◌, ◌-◌, ◌*◌, ◌≤◌, ◌<◌}
use mathlib.Core.Path.{◌≡◌, sym, ap, subst, ◌∙◌}
use mathlib.Core.Logic.{ite}
use mathlib.Core.List.{List, [], ◌∷◌}
use mathlib.Core.Option.{Option, none, some}
use native.Mathlib.Decide.{ℕ_discrete, dec_le}
use native.Mathlib.Omega.{arith}
use lib.ListN.{length}
use Rattle.frames.specs.Kind.{kind_row, children_of, mark_of}
use Rattle.frames.specs.Frame.{frame, root_word}
use Rattle.frames.specs.Place.{place_at, record_at}
use Rattle.frames.specs.declared.frame.Frame.{Frame}
use Rattle.frames.proofs.KindTable.{by_kind}
use Rattle.frames.proofs.Places.{inner_kind}
use Rattle.records.specs.Row.{row_at, Climbs}
use Rattle.records.specs.View.{Held, places}
use Rattle.art.specs.Tags.{Tag}
use Rattle.art.specs.Trees.{Tree, contents, Good}
use Rattle.art.specs.Deletes.{held, Sane}
use Rattle.art.specs.Verdicts as verdicts
use Rattle.art.specs.Verdicts.{judge}
use Rattle.art.specs.Facts.{height}
use Rattle.art.specs.Stores.{inner_place, Cell, inner_cell, Store, Used, root, store, Once}
use Rattle.art.specs.Refs.{Refs, find_ref}
use Rattle.art.specs.Chain.{Links}
use Rattle.art.specs.Calls.{OnceOf}
use Rattle.art.specs.Points as art
use Rattle.art.specs.Points.{cell_refs, store_of, PointFits}
use Rattle.art.proofs.Walks.{store_shows}
use Rattle.art.proofs.FitPoints.{point_fits}
use Rattle.edits.proofs.Inners.{inner_climbs}
use Rattle.view.specs.Links.{links_of}
use Rattle.reading.specs.Answers.{Bytes}
use Rattle.whole.specs.Sound.{Sound}
use Rattle.states.specs.State.{State}
use Rattle.states.proofs.Standing.{stands}
use Rattle.states.proofs.OneCell.{used_pool}
use Rattle.states.proofs.Sounds.{sound_state}
use Rattle.insert.specs.Room.{LeavesFull, InnersFull, Lacks, Lacking}
use Rattle.insert.proofs.Wants.{lacking_is}
use Rattle.capacity.specs.Capacity.{cap, Large, AmpleFrame, Over, Tight}
use Rattle.capacity.proofs.Counts.{PoolFull, tree_over, tags_most, tags_fewer, extras, extras_are, full_pool, one_record}

-- ── 256 children leave no byte out ──
row_most : (lo : ℕ) (row : List (ℕ × ℕ)) → Climbs lo row → lo ≤ 256 → length row + lo ≤ 256
row_most lo [] c l = omega arith
row_most lo (e ∷ es) c l = omega (arith, c.0.low, row_most (suc e.0) es c.1 c.0.byte)

row_misses : (x lo : ℕ) (row : List (ℕ × ℕ)) → Climbs lo row → lo ≤ x → x < 256 → find_ref (places row) x ≡ none → length row + lo < 256
row_misses x lo [] c l h e = omega arith
row_misses x lo (e ∷ es) c l h q = go (ℕ_discrete x e.0) (row_misses x (suc e.0) es c.1) (row_most (suc e.0) es c.1 c.0.byte) q
  where
    go : (d : Dec (x ≡ e.0)) → (suc e.0 ≤ x → x < 256 → find_ref (places es) x ≡ none → length es + suc e.0 < 256) → length es + suc e.0 ≤ 256
        → ite d (some (place_at e.1)) (find_ref (places es) x) ≡ none → length (e ∷ es) + lo < 256
    go (yes i) later most r = absurd (let z : ◌≡◌ {A = ℕ} 0 1 = cc in omega arith)
    go (no i) later most r = by (dec_le (suc e.0) x)
      where
        by : Dec (suc e.0 ≤ x) → length (e ∷ es) + lo < 256
        by (yes j) = omega (arith, later j h r, c.0.low)
        by (no j) = omega (arith, most, c.0.low)

-- every record of a store is in the smallest kind that holds its children
abbrev pub TightIn : Store Held → Type 0
TightIn σ = (k n : ℕ) → Over (mark_of k) (σ (inner_place k n))

-- ── what a new tag needs ──
module _ {f : Frame} {words keys : List ℕ} {links : Links} {root_ref size : ℕ} (t : Tree Held) (s : State f words keys (store t []) links root_ref size) (tag : Tag) (bytes : Bytes tag) where
  abbrev σ : Store Held
  σ = store t []

  -- a record that has no child for a byte has under 256
  pub misses : (k n len x : ℕ) (st : List ℕ) (rs : Refs) → σ (inner_place k n) ≡ inner_cell len st rs → find_ref rs x ≡ none → x < 256 → length rs < 256
  misses k n len x st rs e q l =
      let h = stands s k n len st rs e in
      let row = row_at f.form k (record_at f words (inner_place k n)) in
      omega (arith, row_misses x 0 row (inner_climbs h.own) (omega arith) l (ap (λ (r : Refs). find_ref r x) h.refs_are ∙ q), h.size)

  -- a branching finds a free record, and so does a full record below kind 4
  abbrev pub Forks : Type 0
  Forks = ¬ InnersFull f σ 1

  abbrev pub Grows : Type 0
  Grows = (k n len : ℕ) (st : List ℕ) (rs : Refs) → σ (inner_place k n) ≡ inner_cell len st rs → children_of k ≤ length rs → 1 ≤ k → k ≤ 3 → ¬ InnersFull f σ (suc k)

  pub none_lacks : Forks → Grows → (pt : art.Point) → PointFits σ tag pt → ¬ Lacks f σ pt
  unfolding kind_row
  none_lacks forks grows (art.holds upper up n) p l = l
  none_lacks forks grows art.clashes p l = l
  none_lacks forks grows (art.into up k n x) p l = go (dec_le k 3)
    where
      shown : σ (inner_place k n) ≡ inner_cell p.len p.at_record.stored p.rs
      shown = p.at_record.shown

      kind : (1 ≤ k) × (k ≤ 4)
      kind = inner_kind s.frame k n (used_pool s (inner_place k n) (subst Used (sym shown) tt))

      full : children_of k ≤ length p.rs
      full = subst (λ (c : Cell Held). children_of k ≤ length (cell_refs c)) shown l.0

      go : Dec (k ≤ 3) → ⊥
      go (yes h) = grows k n p.len p.at_record.stored p.rs shown full kind.0 h l.1
      go (no h) =
          let four : k ≡ 4 = omega (arith, kind.1) in
          omega (arith, full, ap children_of four, misses k n p.len x p.at_record.stored p.rs shown p.missing (omega (arith, bytes p.depth, p.byte)))
  none_lacks forks grows (art.fork up y w d c) p l = forks l
  none_lacks forks grows art.broken p l = l

  -- ── with kind 4 large enough for every branching ──
  module _ (good : Good t) (once : Once t []) (large : Large f) (free : ¬ LeavesFull f σ) where
    fours_free : (kind : ℕ) → kind ≤ 4 → ¬ InnersFull f σ kind
    fours_free kind h all = omega (arith, large, tags_fewer t s good once free, extras_are t s good once, full_pool t s good once 1 4 (omega arith) (λ n p. all 4 n h p) (λ n. tree_over t good [] 4 n))

    pub large_room : (pt : art.Point) → PointFits σ tag pt → ¬ Lacks f σ pt
    large_room = none_lacks (fours_free 1 (omega arith)) (λ k n len st rs e c low high. fours_free (suc k) (omega arith))

  -- ── with ample capacities, where every record is in the smallest kind that holds its children ──
  module _ (good : Good t) (once : Once t []) (tight : TightIn σ) (ample : AmpleFrame f) where
    -- a pool that is full
    marked_pool : (k : ℕ) → k ≤ 4 → PoolFull f σ k → mark_of k * cap f k ≤ extras t s good once k
    marked_pool k high full = full_pool t s good once (mark_of k) k high full (λ n. tight k n)

    -- while a leaf is free so is a record of kind 1, and for a full record one of the next kind
    pub ones_free : ¬ LeavesFull f σ → ¬ PoolFull f σ 1
    ones_free free full =
        omega (arith, ample.ones, tags_fewer t s good once free, extras_are t s good once, full_pool t s good once 1 1 (omega arith) full (λ n. tree_over t good [] 1 n))

    pub next_free : ¬ LeavesFull f σ → (k n len : ℕ) (st : List ℕ) (rs : Refs) → σ (inner_place k n) ≡ inner_cell len st rs → children_of k ≤ length rs → k ≤ 3 → ¬ PoolFull f σ (suc k)
    unfolding kind_row
    next_free free k n len st rs e many high =
        let here = one_record t s good once k n len st rs e in
        by_kind (λ j. j ≤ 3 → children_of j ≤ length rs → length rs ≤ extras t s good once j + 1 → ¬ PoolFull f σ (suc j))
        (λ l c x full. omega (arith, ample.twos, tags_fewer t s good once free, extras_are t s good once, marked_pool 2 (omega arith) full))
        (λ l c x full. omega (arith, ample.threes, tags_fewer t s good once free, extras_are t s good once, marked_pool 3 (omega arith) full))
        (λ l c x full. omega (arith, ample.fours, tags_fewer t s good once free, extras_are t s good once, marked_pool 4 (omega arith) full))
        (λ l c x full. omega arith) k here.0 here.1 high many here.2

    -- and always, for a record above its mark, one of the kind before
    pub before_free : (k n len : ℕ) (st : List ℕ) (rs : Refs) → σ (inner_place k n) ≡ inner_cell len st rs → 2 ≤ k → ¬ PoolFull f σ (k - 1)
    unfolding kind_row
    before_free k n len st rs e low =
        let here = one_record t s good once k n len st rs e in
        by_kind (λ j. 2 ≤ j → mark_of j < length rs → length rs ≤ extras t s good once j + 1 → ¬ PoolFull f σ (j - 1))
        (λ l c x full. omega arith)
        (λ l c x full. omega (arith, ample.ones, tags_most t s good once, extras_are t s good once, full_pool t s good once 1 1 (omega arith) full (λ i. tree_over t good [] 1 i)))
        (λ l c x full. omega (arith, ample.twos, tags_most t s good once, extras_are t s good once, marked_pool 2 (omega arith) full))
        (λ l c x full. omega (arith, ample.threes, tags_most t s good once, extras_are t s good once, marked_pool 3 (omega arith) full))
        k here.0 here.1 low (subst (Over (mark_of k)) e (tight k n)) here.2

    pub ample_room : ¬ LeavesFull f σ → (pt : art.Point) → PointFits σ tag pt → ¬ Lacks f σ pt
    ample_room free =
        none_lacks (λ full. ones_free free (λ n p. full 1 n (omega arith) p)) (λ k n len st rs e many low high full. next_free free k n len st rs e many high (λ m p. full (suc k) m (omega arith) p))

-- ── on a sound block ──
-- its records are those of its tree
pub tight_store : {words keys : List ℕ} (s : Sound words keys) → Tight (frame words) words keys → TightIn (store_of s.tree)
tight_store s tight k n = subst (Over (mark_of k)) (s.shown (inner_place k n)) (tight k n)

pub tight_block : {words keys : List ℕ} (s : Sound words keys) → TightIn (store_of s.tree) → Tight (frame words) words keys
tight_block s tight k n = subst (Over (mark_of k)) (sym (s.shown (inner_place k n))) (tight k n)

module _ {words keys : List ℕ} (s : Sound words keys) (tag : Tag) (bytes : Bytes tag) where
  abbrev f : Frame
  f = frame words

  -- what holds of its store, and leaves no point of a tree without a record, leaves no tag that is free to go in without one
  by_tree : (P : Store Held → Type 0) → P (store_of s.tree)
      → ((t : Tree Held) → Good t → Once t [] → State f words keys (store t []) (links_of f words) (root_word words) (length (contents t)) → P (store t []) → (pt : art.Point) → PointFits (store t []) tag pt → ¬ Lacks f (store t []) pt)
      → judge tag (held s.tree) ≡ verdicts.free → ¬ Lacking f s.tree tag
  by_tree P h room v = go s.tree s.good s.once (sound_state s) h v
    where
      go : (d : Option (Tree Held)) → Sane d → OnceOf d → State f words keys (store_of d) (links_of f words) (root_word words) (length (held d)) → P (store_of d) → judge tag (held d) ≡ verdicts.free → ¬ Lacking f d tag
      go none g o st h v = λ l. l
      go (some t) g o st h v =
          subst (λ (lacks : Type 0). ¬ lacks) (lacking_is f t g o tag v)
          (room t g o st h (art.point (suc (height t)) (store t []) (root t) tag) (point_fits (store t []) (suc (height t)) t g (store_shows t [] o) (omega arith) tag))

  -- with kind 4 large enough, whatever was done to the block before
  pub never_lacks : Large f → judge tag (held s.tree) ≡ verdicts.free → ¬ LeavesFull f (store_of s.tree) → ¬ Lacking f s.tree tag
  never_lacks large v room = by_tree (λ σ. ¬ LeavesFull f σ) room (λ t g o st h. large_room t st tag bytes g o large h) v

  -- with ample capacities, where every record is in the smallest kind that holds its children
  pub tight_never_lacks : Tight f words keys → AmpleFrame f → judge tag (held s.tree) ≡ verdicts.free → ¬ LeavesFull f (store_of s.tree) → ¬ Lacking f s.tree tag
  tight_never_lacks tight ample v room =
      by_tree (λ σ. TightIn σ × ¬ LeavesFull f σ) (tight_store s tight, room) (λ t g o st h. ample_room t st tag bytes g o h.0 ample h.1) v
