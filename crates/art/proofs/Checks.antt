-- The way through a store from the root ends well just where the store is that of a tree, no place twice, with its leaves in order as the list and its tags as the count.
use mathlib.Core.Path.{◌≡◌, refl, sym, ap, subst, ◌∙◌, fun_ext}
use mathlib.Core.Logic.{◌⊎◌, inl, inr}
use mathlib.Core.Option.{Option, none, some}
use mathlib.Core.List.{[], ◌∷◌, ◌++◌}
use Prim.Native.Nat.{ℕ, ◌<◌}
use native.Mathlib.Omega.{arith}
use lib.ListN.{length}
use Rattle.art.specs.Tags.{Tag}
use Rattle.art.specs.Trees.{Tree, leaf, inner, Row, end, child, contents, Good}
use Rattle.art.specs.Facts.{height}
use Rattle.art.specs.Stores.{Place, place_dec, Cell, unused, leaf_cell, inner_cell, Store, root, store, Used, Once}
use Rattle.art.proofs.Stores.{used_not}
use Rattle.art.specs.Walks.{Shows, ShowsRow}
use Rattle.art.proofs.Walks.{store_shows}
use Rattle.art.specs.ReadBack.{Seen, read, tree_of}
use Rattle.art.proofs.ReadBack.{read_shown}
use Rattle.art.specs.Members.{In, in_dec}
use Rattle.art.proofs.Members.{in_append}
use Rattle.art.specs.Chain.{Links, Linked, follows, leaves, after_ref}
use Rattle.art.proofs.Chains.{turn_linked, linked_turn, linked_end, linked_last}
use Rattle.art.specs.Visit.{and_then, State, start_state, spots, row_spots, passed, visit, pass, Passes}
use Rattle.art.specs.Check.{Ended, Checked}
use Rattle.art.proofs.Visits.{fuse}
use Rattle.art.proofs.Passes.{prev_passed, count_passed, leaves_length, seen_of, seen_spot, store_off, passes_pass, pass_passes, passes_once, passes_turn, once_passes}
use Rattle.art.specs.Witness.{Hand, Tells, probe}
use Rattle.art.proofs.Witnesses.{probe_visited, visit_probed}

module _ {A : Type 0} where
  -- ── two stores that show a tree agree at its places ──
  agree_child : (σ τ : Store A) (t : Tree A) (r : Row A) (x : Place) → (In x (spots t) → σ x ≡ τ x) → (In x (row_spots r) → σ x ≡ τ x) → In x (spots t) ⊎ In x (row_spots r) → σ x ≡ τ x
  agree_child σ τ t r x f g (inl h) = f h
  agree_child σ τ t r x f g (inr h) = g h

  mutual
    -- two stores that show a tree below a path have the same cells at its places
    pub agree : (σ τ : Store A) (t : Tree A) (p : Tag) → Shows t p σ → Shows t p τ → (x : Place) → In x (spots t) → σ x ≡ τ x
    agree σ τ (leaf n s a) p h k x (inr j) = elim j [ ]
    agree σ τ (leaf n s a) p h k x (inl e) = ap σ e ∙ h ∙ sym k ∙ sym (ap τ e)
    agree σ τ (inner k n run r) p h i x (inl e) = ap σ e ∙ h.0 ∙ sym i.0 ∙ sym (ap τ e)
    agree σ τ (inner k n run r) p h i x (inr j) = row_agree σ τ r (p ++ run) h.1 i.1 x j

    -- and so for a row
    pub row_agree : (σ τ : Store A) (r : Row A) (q : Tag) → ShowsRow r q σ → ShowsRow r q τ → (x : Place) → In x (row_spots r) → σ x ≡ τ x
    row_agree σ τ end q h i x j = absurd j
    row_agree σ τ (child b t r) q h i x j =
        agree_child σ τ t r x (λ l. agree σ τ t (q ++ b ∷ []) h.0 i.0 x l) (λ l. row_agree σ τ r q h.1 i.1 x l) (in_append x (spots t) (row_spots r) j)

  -- a cell is used or not
  pub used_or_free : (c : Cell A) → Used c ⊎ (c ≡ unused)
  used_or_free unused = inr refl
  used_or_free (leaf_cell t a) = inl tt
  used_or_free (inner_cell n st rs) = inl tt

  -- ── what ends well is sound ──
  shown_by : (link : Links) (σ : Store A) (tags : ℕ) (t : Tree A) → Shows t [] σ → Passes (follows link) t start_state → Ended link σ tags (passed t start_state) → (x : Place)
      → Dec (In x (spots t)) → σ x ≡ store t [] x
  shown_by k σ tags t h o d x (yes i) = agree σ (store t []) t [] h (store_shows t [] (passes_once (follows k) t [] start_state o)) x i
  shown_by k σ tags t h o d x (no n) = go (used_or_free (σ x)) ∙ sym (store_off t [] x n)
    where
      out : In x (spots t) ⊎ In x [] → ⊥
      out (inl i) = n i
      out (inr i) = i

      go : Used (σ x) ⊎ (σ x ≡ unused) → σ x ≡ unused
      go (inl u) = absurd (out (seen_of t start_state x (d.seen_all x u)))
      go (inr e) = e

  checked_tree : (k : Links) (σ : Store A) (tags : ℕ) (x : Place) (t : Seen σ [] x) → Passes (follows k) t.0 start_state → Ended k σ tags (passed t.0 start_state) → Checked k σ tags x
  checked_tree k σ tags x t o d = record {
    tree = t.0;
    rooted = t.2;
    shows = t.1;
    once = passes_once (follows k) t.0 [] start_state o;
    shown = λ y. shown_by k σ tags t.0 t.1 o d y (in_dec place_dec y (spots t.0));
    linked = turn_linked k 0 (leaves t.0) (passes_turn (follows k) t.0 start_state o) (ap (after_ref k) (sym (prev_passed t.0 start_state)) ∙ d.next_none) (d.last_is ∙ prev_passed t.0 start_state);
    count = d.count_is ∙ count_passed t.0 start_state ∙ omega (arith, leaves_length t.0);
  }

  by_read : (k : Links) (σ : Store A) (tags : ℕ) (x : Place) (w : Option (Seen σ [] x)) (z : State) → and_then (tree_of w) (λ t. pass (follows k) t start_state) ≡ some z
      → Ended k σ tags z → Checked k σ tags x
  by_read k σ tags x none z e d = absurd (let y : ◌≡◌ {A = ℕ} 0 1 = cc in omega arith)
  by_read k σ tags x (some t) z e d =
      let ok = pass_passes (follows k) t.0 start_state z e in
      checked_tree k σ tags x t ok.0 (subst (Ended k σ tags) (sym ok.1) d)

  module _ {W : Type 0} (hand : Hand W) where
    -- where the way without a path ends well from the root, the store is a tree's, with its leaves as the list and its tags as the count
    pub check_sound : (k : Links) (σ : Store A) → Tells hand σ → (tags f : ℕ) (x : Place) (h : W × State)
        → probe hand (follows k) f σ 0 x start_state ≡ some h → Ended k σ tags h.1 → Checked k σ tags x
    check_sound k σ tells tags f x h e d =
        by_read k σ tags x (read f σ [] x) h.1 (sym (fuse (follows k) f σ [] x start_state) ∙ (probe_visited hand (follows k) σ tells f 0 x start_state h e).1) d

    -- ── what is sound ends well ──
    -- on a good tree's store, with its leaves as the list and its tags as the count, it ends well, with more records left than the tree is high
    pub sound_check : (k : Links) (σ : Store A) → Tells hand σ → (tags f : ℕ) (t : Tree A) → Good t → Once t [] → ((x : Place) → σ x ≡ store t [] x) → Linked k 0 (leaves t)
        → tags ≡ length (contents t) → height t < f → (w : W) × (probe hand (follows k) f σ 0 (root t) start_state ≡ some (w, passed t start_state)) × Ended k σ tags (passed t start_state)
    sound_check k σ tells tags f t g o h l c less =
        let sh : Shows t [] σ = subst (λ (τ : Store A). Shows t [] τ) (sym (fun_ext h)) (store_shows t [] o) in
        let ok : Passes (follows k) t start_state = once_passes (follows k) t [] start_state o (λ x i j. j) (linked_turn k 0 (leaves t) l) in
        let v : visit (follows k) f σ [] (root t) start_state ≡ some (passed t start_state) =
        fuse (follows k) f σ [] (root t) start_state ∙ ap (λ (w : Option (Tree A)). and_then w (λ t. pass (follows k) t start_state)) (read_shown t g [] σ sh f less) ∙ passes_pass (follows k) t start_state ok in
        let r = visit_probed hand (follows k) σ tells f [] (root t) start_state (passed t start_state) v in
        (r.0, r.3, ended)
      where
        on : (x : Place) → Used (σ x) → Dec (In x (spots t)) → In x (spots t)
        on x u (yes i) = i
        on x u (no n) = absurd (used_not (σ x) u (h x ∙ store_off t [] x n))

        ended : Ended k σ tags (passed t start_state)
        ended = record {
          seen_all = λ x u. seen_spot t start_state x (on x u (in_dec place_dec x (spots t)));
          next_none = ap (after_ref k) (prev_passed t start_state) ∙ linked_end k 0 (leaves t) l;
          last_is = linked_last k 0 (leaves t) l ∙ sym (prev_passed t start_state);
          count_is = c ∙ sym (count_passed t start_state ∙ omega (arith, leaves_length t));
        }
