-- Each write makes one change of what a block shows.
use Prim.Native.Nat.{ℕ, ◌+◌, ◌*◌, ◌/◌, ◌≤◌, ◌<◌}
use mathlib.Core.Path.{◌≡◌, refl, sym, ap, ap₂, subst, ◌∙◌}
use mathlib.Core.Logic.{◌≢◌}
use mathlib.Core.List.{List, []}
use mathlib.Core.Option.{none, some}
use mathlib.Core.Bool.{true}
use native.Mathlib.Omega.{arith}
use lib.ListN.{length, get_or, take, set, replicate, length-replicate}
use Rattle.lists.proofs.Tests.{zeros_all, zeros_at}
use Rattle.prefix.specs.Run.{held}
use Rattle.prefix.specs.declared.Prefix.{Prefix}
use Rattle.frames.specs.Kind.{children_of}
use Rattle.frames.specs.Form.{record_words}
use Rattle.frames.specs.Place.{ref_of, in_pool, record_at, key_at}
use Rattle.frames.specs.declared.frame.Frame.{Frame}
use Rattle.frames.proofs.KindTable.{kind_rules}
use Rattle.frames.proofs.Places.{inner_kind, place_ref}
use Rattle.records.specs.Own.{prefix_at, total_of}
use Rattle.records.specs.Row.{row_at, ref_for, direct_row}
use Rattle.records.specs.View.{Held, rule_at}
use Rattle.art.specs.Tags.{Tag}
use Rattle.art.specs.Stores.{Place, leaf_place, inner_place, Store, Used, unused, leaf_cell, inner_cell, write}
use Rattle.art.specs.Refs.{Refs, find_ref, re_ref, add_ref, pair_ref, cut_ref}
use Rattle.art.specs.Chain.{Links, leaf_ref, link_in, link_out}
use Rattle.edits.specs.Change.{count_in}
use Rattle.edits.specs.Head.{set_prefix}
use Rattle.edits.specs.declared.representation.Change.{Change}
use Rattle.edits.specs.declared.representation.Change.TheVariants.{Add, Remove, Replace}
use Rattle.edits.specs.Record.{change_of, spread_of, build_rec}
use Rattle.edits.specs.Rows.{Row, row_pair, row_remove, row_change, refs_change, Takes}
use Rattle.edits.proofs.Bodies.{spread_at_byte}
use Rattle.edits.specs.Inner.{PrefixFits, Inner}
use Rattle.edits.proofs.Inners.{inner_holds, inner_size, inner_two, inner_climbs, inner_child, inner_fits, spread_of_lem, change_inner, prefix_inner, build_inner, move_inner}
use Rattle.edits.proofs.RowChanges.{pair_places, pair_climbs, remove_length, remove_climbs, remove_places, change_places, table_remove}
use Rattle.lists.specs.Edit.{padded}
use Rattle.pools.specs.Leaf.{leaf_words, set_total}
use Rattle.pools.specs.Link.{set_trailer}
use Rattle.view.specs.Cells.{word_zero}
use Rattle.view.specs.Links.{UsedOrEnd}
use Rattle.view.proofs.Views.{cell_free, free_cell}
use Rattle.view.proofs.Puts.{put_keeps, put_fits, put_trailer}
use Rattle.view.proofs.Leaves.{words_long, words_cell, words_rule, bytes_long, total_long, total_rule, total_cell}
use Rattle.view.proofs.Chains.{total_links}
use Rattle.view.proofs.Trailers.{trailer_same, trailer_other}
use Rattle.tree.specs.Seen.{tag_at, LeafSeen}
use Rattle.points.specs.There.{InnerFitsAt, HasChild}
use Rattle.writes.specs.At.{change_at, prefixed_at, branch_at, move_at, drop_at, clear_at}
use Rattle.writes.specs.Leaf.{leaf_in, key_in, leaf_out, key_out, total_at}
use Rattle.writes.proofs.Spots.{frame_stores}
use Rattle.states.specs.State.{State}
use Rattle.states.proofs.Children.{find_none, find_some}
use Rattle.states.proofs.OneCell.{state_changed, inner_state, inner_put}
use Rattle.states.proofs.Standing.{ref_some, stands, shown_at, leaf_seen, leaf_stands, kept_end}
use Rattle.states.proofs.Links.{trailer_state, next_state, previous_state, leaf_state}

module _ {f : Frame} {words keys : List ℕ} {σ : Store Held} {links : Links} {root count : ℕ} (s : State f words keys σ links root count) where
  -- ── what is there ──
  -- an inner record: it is there, with its child count, its length and its stored bytes
  pub state_here : (k n len : ℕ) (st : List ℕ) (rs : Refs) → σ (inner_place k n) ≡ inner_cell len st rs → InnerFitsAt f words (inner_place k n)
  state_here k n len st rs e = let h = stands s k n len st rs e in record { pool = h.pool; fits = h.own.fits }

  pub state_count_word : (k n len : ℕ) (st : List ℕ) (rs : Refs) → σ (inner_place k n) ≡ inner_cell len st rs → get_or (record_at f words (inner_place k n)) 1 0 ≡ length rs
  state_count_word k n len st rs e = let h = stands s k n len st rs e in sym (inner_size h.own) ∙ h.size

  pub state_prefix_is : (k n len : ℕ) (st : List ℕ) (rs : Refs) → σ (inner_place k n) ≡ inner_cell len st rs
      → ((prefix_at f.form (record_at f words (inner_place k n))).full.0 ≡ len) × (held (prefix_at f.form (record_at f words (inner_place k n))) ≡ st)
  state_prefix_is k n len st rs e = let h = stands s k n len st rs e in (h.len_is, h.stored_is)

  pub state_prefix_fits : (k n len : ℕ) (st : List ℕ) (rs : Refs) → σ (inner_place k n) ≡ inner_cell len st rs → PrefixFits f.form (prefix_at f.form (record_at f words (inner_place k n)))
  state_prefix_fits k n len st rs e = inner_fits (stands s k n len st rs e).own

  -- its child for a byte
  child_found : (k n len : ℕ) (st : List ℕ) (rs : Refs) (b : ℕ) (y : Place) → σ (inner_place k n) ≡ inner_cell len st rs → find_ref rs b ≡ some y
      → (b < 256) × (0 < ref_for b (row_at f.form k (record_at f words (inner_place k n))))
  child_found k n len st rs b y e g =
      let h = stands s k n len st rs e in
      find_some b 0 (row_at f.form k (record_at f words (inner_place k n))) y (inner_climbs h.own) (ap (λ (l : Refs). find_ref l b) h.refs_are ∙ g)

  pub state_child : (k n len : ℕ) (st : List ℕ) (rs : Refs) (b : ℕ) (y : Place) → σ (inner_place k n) ≡ inner_cell len st rs → find_ref rs b ≡ some y → HasChild f words (inner_place k n) b
  state_child k n len st rs b y e g =
      let h = stands s k n len st rs e in
      let r = child_found k n len st rs b y e g in
      record { here = state_here k n len st rs e; child = omega (arith, inner_child h.own b r.0, r.1) }

  -- the byte of a child is a byte
  pub state_byte : (k n len : ℕ) (st : List ℕ) (rs : Refs) (b : ℕ) (y : Place) → σ (inner_place k n) ≡ inner_cell len st rs → find_ref rs b ≡ some y → b < 256
  state_byte k n len st rs b y e g = (child_found k n len st rs b y e g).0

  -- a leaf: it is there, with its tag and total
  pub state_leaf : (n : ℕ) (t : Tag) (a : Held) → σ (leaf_place n) ≡ leaf_cell t a
      → LeafSeen f words keys (leaf_ref n) × (tag_at f words keys (leaf_ref n) ≡ t) × (a.number ≡ n) × (a.total ≡ total_of (record_at f words (leaf_place n))) × (length t ≤ f.form.limit)
  unfolding tag_at
  state_leaf n t a e =
      let v = leaf_seen s n t a e in
      let o = leaf_stands s n t a e in
      let m : (n * 8 + 5) / 8 ≡ n = omega arith in
      let r : rule_at f words keys (leaf_place n) ≡ true = s.rules (leaf_place n) (subst Used (sym e) tt) in (
        record {
          kind = omega arith;
          pool = ap (λ (j : ℕ). in_pool f (leaf_place j)) m ∙ v.pool;
          rule = ap (λ (j : ℕ). rule_at f words keys (leaf_place j)) m ∙ r;
        },
        ap (λ (j : ℕ). take (get_or (record_at f words (leaf_place j)) 1 0) (key_at f keys j)) m ∙ sym v.tag_is,
        v.number_is,
        v.total_is,
        o.short,
      )

  -- a record whose word 0 is 0 is unused
  pub state_zero : (x : Place) → in_pool f x ≡ true → word_zero f words x ≡ 0 → σ x ≡ unused
  state_zero x pool e = sym (shown_at s x) ∙ cell_free f words keys x e

  -- ── inner records written ──
  -- the children changed; and by the change, as the cells tell it
  state_change : (k n len : ℕ) (st : List ℕ) (rs : Refs) (b : ℕ) (change : Change) → σ (inner_place k n) ≡ inner_cell len st rs → b < 256
      → Takes (children_of k) b change (row_at f.form k (record_at f words (inner_place k n))) → 2 ≤ count_in change (length rs)
      → State f (change_at f (inner_place k n) b change words) keys (write σ (inner_place k n) (inner_cell len st (refs_change b change rs))) links root count
  unfolding change_at
  state_change k n len st rs b change e low takes two =
      let h = stands s k n len st rs e in
      let rec = record_at f words (inner_place k n) in
      let row = row_at f.form k rec in
      inner_put s k n (change_of f.form k rec b change) (prefix_at f.form rec) (row_change b change row) len st (refs_change b change rs) h.pool
      (change_inner (frame_stores s.frame) h.own b low change takes (subst (λ (m : ℕ). 2 ≤ count_in change m) (sym h.size) two)) h.len_is h.stored_is (change_places b change row ∙ ap (refs_change b change) h.refs_are)

  pub state_add : (k n len : ℕ) (st : List ℕ) (rs : Refs) (b : ℕ) (y : Place) → σ (inner_place k n) ≡ inner_cell len st rs → find_ref rs b ≡ none → b < 256 → length rs < children_of k
      → in_pool f y ≡ true → State f (change_at f (inner_place k n) b (Add (ref_of y)) words) keys (write σ (inner_place k n) (inner_cell len st (add_ref b y rs))) links root count
  state_add k n len st rs b y e g low room pool =
      let h = stands s k n len st rs e in
      let none_there = find_none b (row_at f.form k (record_at f words (inner_place k n))) (ap (λ (l : Refs). find_ref l b) h.refs_are ∙ g) in
      subst (λ (z : Place). State f (change_at f (inner_place k n) b (Add (ref_of y)) words) keys (write σ (inner_place k n) (inner_cell len st (add_ref b z rs))) links root count) (place_ref f y pool)
      (state_change k n len st rs b (Add (ref_of y)) e low (omega (arith, h.size), (none_there, ref_some s.frame y pool)) (omega (arith, h.size, inner_two h.own)))

  pub state_remove : (k n len : ℕ) (st : List ℕ) (rs : Refs) (b : ℕ) (y : Place) → σ (inner_place k n) ≡ inner_cell len st rs → find_ref rs b ≡ some y → 3 ≤ length rs
      → State f (change_at f (inner_place k n) b Remove words) keys (write σ (inner_place k n) (inner_cell len st (cut_ref b rs))) links root count
  state_remove k n len st rs b y e g three =
      let c = child_found k n len st rs b y e g in
      state_change k n len st rs b Remove e c.0 c.1 (omega arith)

  pub state_replace : (k n len : ℕ) (st : List ℕ) (rs : Refs) (b : ℕ) (z y : Place) → σ (inner_place k n) ≡ inner_cell len st rs → find_ref rs b ≡ some z → in_pool f y ≡ true
      → State f (change_at f (inner_place k n) b (Replace (ref_of y)) words) keys (write σ (inner_place k n) (inner_cell len st (re_ref rs b y))) links root count
  state_replace k n len st rs b z y e g pool =
      let h = stands s k n len st rs e in
      let c = child_found k n len st rs b z e g in
      subst (λ (x : Place). State f (change_at f (inner_place k n) b (Replace (ref_of y)) words) keys (write σ (inner_place k n) (inner_cell len st (re_ref rs b x))) links root count) (place_ref f y pool)
      (state_change k n len st rs b (Replace (ref_of y)) e c.0 (c.1, ref_some s.frame y pool) (omega (arith, h.size, inner_two h.own)))

  pub state_prefix : (k n len : ℕ) (st : List ℕ) (rs : Refs) (p : Prefix) → σ (inner_place k n) ≡ inner_cell len st rs → PrefixFits f.form p
      → State f (prefixed_at f (inner_place k n) p words) keys (write σ (inner_place k n) (inner_cell p.full.0 (held p) rs)) links root count
  unfolding prefixed_at
  state_prefix k n len st rs p e fits =
      let h = stands s k n len st rs e in
      let rec = record_at f words (inner_place k n) in
      inner_put s k n (set_prefix f.form p rec) p (row_at f.form k rec) p.full.0 (held p) rs h.pool (prefix_inner (frame_stores s.frame) h.own p fits) refl refl h.refs_are

  pub state_branch : (k n : ℕ) (p : Prefix) (b c : ℕ) (y z : Place) → in_pool f (inner_place k n) ≡ true → PrefixFits f.form p → b < 256 → c < 256 → b ≢ c → in_pool f y ≡ true → in_pool f z ≡ true
      → State f (branch_at f (inner_place k n) p b (ref_of y) c (ref_of z) words) keys (write σ (inner_place k n) (inner_cell p.full.0 (held p) (pair_ref b y c z))) links root count
  unfolding branch_at
  state_branch k n p b c y z pool fits bl cl ne py pz =
      let kind = inner_kind s.frame k n pool in
      let row = row_pair b (ref_of y) c (ref_of z) in
      let r = pair_climbs b (ref_of y) c (ref_of z) ne bl cl (ref_some s.frame y py) (ref_some s.frame z pz) in
      inner_put s k n (build_rec f.form k p row) p row p.full.0 (held p) (pair_ref b y c z) pool
      (build_inner f.form (frame_stores s.frame) k p row kind.0 kind.1 fits (omega (arith, r.0)) (omega (arith, r.0, (kind_rules k kind.0 kind.1).least)) r.1) refl refl
      (pair_places b (ref_of y) c (ref_of z) ne ∙ ap₂ (λ (t u : Place). pair_ref b t c u) (place_ref f y py) (place_ref f z pz))

  -- a record written anew at another place, with all its children, and without one
  pub state_move : (k n len : ℕ) (st : List ℕ) (rs : Refs) (j m : ℕ) → σ (inner_place k n) ≡ inner_cell len st rs → in_pool f (inner_place j m) ≡ true → length rs ≤ children_of j
      → State f (move_at f (inner_place k n) (inner_place j m) words) keys (write σ (inner_place j m) (inner_cell len st rs)) links root count
  unfolding move_at
  state_move k n len st rs j m e pool few =
      let h = stands s k n len st rs e in
      let kind = inner_kind s.frame j m pool in
      let rec = record_at f words (inner_place k n) in
      inner_put s j m (build_rec f.form j (prefix_at f.form rec) (direct_row (spread_of f.form k rec))) (prefix_at f.form rec) (row_at f.form k rec) len st rs pool
      (move_inner (frame_stores s.frame) h.own j kind.0 kind.1 (omega (arith, h.size))) h.len_is h.stored_is h.refs_are

  pub state_drop : (k n len : ℕ) (st : List ℕ) (rs : Refs) (b : ℕ) (z : Place) (j m : ℕ) → σ (inner_place k n) ≡ inner_cell len st rs → find_ref rs b ≡ some z → 3 ≤ length rs
      → in_pool f (inner_place j m) ≡ true → length rs ≤ children_of j + 1
      → State f (drop_at f (inner_place k n) (inner_place j m) b words) keys (write σ (inner_place j m) (inner_cell len st (cut_ref b rs))) links root count
  unfolding drop_at spread_of
  state_drop k n len st rs b z j m e g three pool few =
      let h = stands s k n len st rs e in
      let c = child_found k n len st rs b z e g in
      let kind = inner_kind s.frame j m pool in
      let rec = record_at f words (inner_place k n) in
      let p = prefix_at f.form rec in
      let row = row_at f.form k rec in
      let l = spread_of f.form k rec in
      let v = spread_of_lem h.own in
      let at : get_or l b 0 ≡ ref_for b row = spread_at_byte (inner_holds h.own) b c.0 in
      let without : direct_row (set l b 0) ≡ row_remove b row = table_remove b l v.0 c.0 (omega (arith, c.1)) ∙ ap (row_remove b) v.1 in
      let size = remove_length b row c.1 in
      inner_put s j m (build_rec f.form j p (direct_row (set l b 0))) p (row_remove b row) len st (cut_ref b rs) pool
      (subst (λ (r : Row). Inner f.form j (build_rec f.form j p r) p (row_remove b row)) (sym without)
      (build_inner f.form (frame_stores s.frame) j p (row_remove b row) kind.0 kind.1 (inner_fits h.own) (omega (arith, h.size)) (omega (arith, h.size))
      (remove_climbs b 0 row (inner_climbs h.own)))) h.len_is h.stored_is (remove_places b row ∙ ap (cut_ref b) h.refs_are)

  pub state_clear : (k n : ℕ) → in_pool f (inner_place k n) ≡ true → State f (clear_at f (inner_place k n) words) keys (write σ (inner_place k n) unused) links root count
  unfolding clear_at
  state_clear k n pool =
      let size = record_words f.form k in
      let z : List ℕ = replicate size 0 in
      inner_state s k n z pool (length-replicate size 0) unused (free_cell f (inner_place k n) z [] (zeros_at size 0)) (λ u. absurd u) (λ e. zeros_all size 0)

  -- ── the trailer ──
  pub state_root : (r : ℕ) → State f (set_trailer 11 r words) keys σ links r count
  state_root r =
      let w = s.frame in
      trailer_state s 11 r (omega arith) (omega arith) (λ e. omega arith) (λ e. omega arith) (trailer_same w 11 r (omega arith))
      (trailer_other w 11 r (omega arith) 14 (λ e. omega arith) ∙ s.count_is)

  pub state_count : (c : ℕ) → State f (set_trailer 14 c words) keys σ links root c
  state_count c =
      let w = s.frame in
      trailer_state s 14 c (omega arith) (omega arith) (λ e. omega arith) (λ e. omega arith) (trailer_other w 14 c (omega arith) 11 (λ e. omega arith) ∙ s.root_is)
      (trailer_same w 14 c (omega arith))

  -- ── leaves ──
  pub state_leaf_in : (n previous next total : ℕ) (tag : Tag) → in_pool f (leaf_place n) ≡ true → length tag ≤ f.form.limit → UsedOrEnd f words keys previous → UsedOrEnd f words keys next
      → State f (leaf_in f n (length tag) previous next total words) (key_in f n tag keys) (write σ (leaf_place n) (leaf_cell tag (record { number = n; total = total }))) (link_in links n previous next) root count
  unfolding leaf_in key_in leaf_words
  state_leaf_in n previous next total tag pool short a b =
      let limit = f.form.limit in
      let s₁ = next_state s previous (leaf_ref n) a in
      let s₂ = previous_state s₁ next (leaf_ref n) (kept_end s s₁ (λ m. refl) next b) in
      leaf_state s₂ n (leaf_words (length tag) previous next total) (padded limit tag) pool (words_long (length tag) previous next total) (bytes_long limit tag short)
      (leaf_cell tag (record { number = n; total = total })) (words_cell limit tag short previous next total n) (λ u. words_rule limit tag short previous next total) (λ e. absurd (subst Used e tt))

  pub state_leaf_out : (n : ℕ) → in_pool f (leaf_place n) ≡ true → UsedOrEnd f words keys (links.prev n) → UsedOrEnd f words keys (links.next n)
      → State f (leaf_out f n (links.prev n) (links.next n) words) (key_out f n keys) (write σ (leaf_place n) unused) (link_out links n) root count
  unfolding leaf_out key_out
  state_leaf_out n pool a b =
      let p = links.prev n in
      let q = links.next n in
      let s₁ = next_state s p q a in
      let s₂ = previous_state s₁ q p (kept_end s s₁ (λ m. refl) q b) in
      leaf_state s₂ n (replicate 6 0) (replicate f.form.limit 0) pool refl (length-replicate f.form.limit 0) unused refl (λ u. absurd u) (λ e. zeros_all f.form.limit 0)

  pub state_total : (n total : ℕ) (tag : Tag) (a : Held) → σ (leaf_place n) ≡ leaf_cell tag a
      → State f (total_at f n total words) keys (write σ (leaf_place n) (leaf_cell tag (record { number = n; total = total }))) links root count
  unfolding total_at
  state_total n total tag a e =
      let w = s.frame in
      let v = leaf_seen s n tag a e in
      let rec = set_total total (record_at f words (leaf_place n)) in
      let long = total_long w n v.pool total in
      let t = put_trailer w (leaf_place n) rec v.pool long in
      state_changed s
      (record {
        frame = put_fits w (leaf_place n) rec v.pool long;
        cells = total_cell w n v.pool total (shown_at s (leaf_place n) ∙ e);
        rule = λ u. total_rule w n v.pool total ∙ s.rules (leaf_place n) (subst Used (sym e) tt);
        blank = λ z. absurd (subst Used z tt);
        others = put_keeps w (leaf_place n) rec v.pool long;
      })
      (total_links w n total v.pool ∙ s.links_are) (ap (λ (l : List ℕ). get_or l 11 0) t ∙ s.root_is) (ap (λ (l : List ℕ). get_or l 14 0) t ∙ s.count_is)
