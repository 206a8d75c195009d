-- The writes of a delete, or of a change to what is held, make the store of the changed tree, in its own or free places, and no place stands twice in it.
use mathlib.Core.Path.{◌≡◌, refl, sym, ap, ◌∙◌, subst, fun_ext}
use mathlib.Core.Logic.{◌⊎◌, inl, inr, ite}
use mathlib.Core.Bool.{Bool, true, false}
use mathlib.Core.Option.{Option, none, some}
use mathlib.Core.List.{[], ◌∷◌, ◌++◌, append_assoc}
use Prim.Native.Nat.{ℕ}
use native.Mathlib.Decide.{ℕ_discrete}
use lib.ListN.{length, take}
use Rattle.art.specs.Tags.{Tag, tag_dec}
use Rattle.art.specs.Trees.{Tree, leaf, inner, Row, end, child, count}
use Rattle.art.specs.Changes.{Meet, same, short, long, part, meet}
use Rattle.art.proofs.Deletes.{false_true}
use Rattle.art.specs.Deletes.{Home, lost, lost_row, cut_row, graft, settle, re_leaf, prune_child, prune_inner, prune, prune_row}
use Rattle.art.proofs.Stores.{or_used, or_parts, write_write, write_id, write_last, combined_empty, combined_write_right, combined_apply_left, combined_apply_right, clear_append, apply_append, apply_clear, separate_left, separate_right, separate_sym, separate_write, separate_apply, single_separate, own, own_clear, write_used, used_not}
use Rattle.art.specs.Stores.{Place, leaf_place, inner_place, place_dec, Cell, unused, leaf_cell, inner_cell, Store, Edits, empty, or_cell, combined, write, apply, root, refs, cell, store, store_row, Used, Clear, Separate, Once, OnceRow}
use Rattle.art.specs.Drops.{new_home, Roomy, re_edits, spot, settle_edits, drops_child, drops_inner, drops, drops_row, TreeDone, RowDone}

module _ {A : Type 0} where
  -- ── a leaf cut out of a row ──
  cut_leaf : (f : A → Option A) (t : Tree A) (u p : Tag) (ρ : Store A) → lost f t u ≡ true → Separate (store t p) ρ → ρ ≡ write (combined (store t p) ρ) (root t) unused
  cut_leaf f (inner k n run r) u p ρ h d = false_true h
  cut_leaf f (leaf n rest a) u p ρ h d = fun_ext (λ q. go q (place_dec q (leaf_place n)))
    where
      c : Cell A
      c = leaf_cell (p ++ rest) a

      go : (q : Place) (b : Dec (q ≡ leaf_place n)) → ρ q ≡ ite {C = Cell A} b unused (or_cell (ite {C = Cell A} b c unused) (ρ q))
      go q (yes e) = ap ρ e ∙ own_clear (leaf n rest a) p ρ d
      go q (no m) = refl

  used_right : (σ τ : Store A) (q : Place) → Separate σ τ → Used (τ q) → σ q ≡ unused
  used_right σ τ q d u = go (d q)
    where
      go : (σ q ≡ unused) ⊎ (τ q ≡ unused) → σ q ≡ unused
      go (inl e) = e
      go (inr e) = absurd (used_not (τ q) u e)

  -- a lost leaf cut out of a row is one place written free, which was used
  pub cut_store : (f : A → Option A) (r : Row A) (x : ℕ) (u q : Tag) → lost_row f r x u ≡ true → OnceRow r q
      → (store_row (cut_row x r) q ≡ write (store_row r q) (spot x r) unused) × Used (store_row r q (spot x r))
  cut_store f end x u q h o = false_true h
  cut_store f (child c t r) x u q h o = go (ℕ_discrete x c) h (λ i. cut_store f r x u q i o.2)
    where
      σ : Store A
      σ = store t (q ++ c ∷ [])

      τ : Store A
      τ = store_row r q

      go : (d : Dec (x ≡ c)) → ite {C = Bool} d (lost f t u) (lost_row f r x u) ≡ true
          → (lost_row f r x u ≡ true → (store_row (cut_row x r) q ≡ write τ (spot x r) unused) × Used (τ (spot x r)))
          → (store_row (ite d r (child c t (cut_row x r))) q ≡ write (combined σ τ) (ite d (root t) (spot x r)) unused) × Used (combined σ τ (ite d (root t) (spot x r)))
      go (yes i) k ih = (cut_leaf f t u (q ++ c ∷ []) τ k o.1, rw (or_used (σ (root t)) (τ (root t)) (own t (q ++ c ∷ []))) (own t (q ++ c ∷ [])))
      go (no n) k ih =
          let e : σ (spot x r) ≡ unused = used_right σ τ (spot x r) o.1 (ih k).1 in
          (ap (combined σ) (ih k).0 ∙ combined_write_right σ τ (spot x r) unused e, subst (λ (c : Cell A). Used (or_cell c (τ (spot x r)))) (sym e) (ih k).1)

  cut_once : (f : A → Option A) (r : Row A) (x : ℕ) (u q : Tag) → lost_row f r x u ≡ true → OnceRow r q → OnceRow (cut_row x r) q
  cut_once f end x u q h o = o
  cut_once f (child c t r) x u q h o = go (ℕ_discrete x c) h (λ i. cut_once f r x u q i o.2)
    where
      σ : Store A
      σ = store t (q ++ c ∷ [])

      τ : Store A
      τ = store_row r q

      go : (d : Dec (x ≡ c)) → ite {C = Bool} d (lost f t u) (lost_row f r x u) ≡ true → (lost_row f r x u ≡ true → OnceRow (cut_row x r) q) → OnceRow (ite d r (child c t (cut_row x r))) q
      go (yes i) k ih = o.2
      go (no n) k ih =
          let s = cut_store f r x u q k o.2 in (
            o.0,
            subst (λ (ρ : Store A). Separate σ ρ) (sym s.0) (separate_sym (write τ (spot x r) unused) σ (separate_apply τ σ ((spot x r, unused) ∷ []) (used_right σ τ (spot x r) o.1 s.1, tt) (separate_sym σ τ o.1))),
            ih k,
          )

  cut_done : (f : A → Option A) (hm : Home) (r : Row A) (x : ℕ) (u q : Tag) → lost_row f r x u ≡ true → OnceRow r q → RowDone r (cut_row x r) ((spot x r, unused) ∷ []) q hm
  cut_done f hm r x u q h o = record {
    made = (cut_store f r x u q h o).0;
    clear = λ τ d m. (used_right τ (store_row r q) (spot x r) (separate_sym (store_row r q) τ d) (cut_store f r x u q h o).1, tt);
    once = cut_once f r x u q h o;
  }

  -- ── a record that has lost a child ──
  graft_store : (p run : Tag) (b : ℕ) (t : Tree A) → store (graft (run ++ b ∷ []) t) p ≡ write (store t (p ++ run ++ b ∷ [])) (root t) (cell p (graft (run ++ b ∷ []) t))
  graft_store p run b (leaf n s a) = sym (write_write empty (leaf_place n) (leaf_cell (p ++ run ++ b ∷ [] ++ s) a) (leaf_cell (p ++ (run ++ b ∷ [] ++ s)) a))
  graft_store p run b (inner k n run' r) =
      let c : Cell A = inner_cell (length (run ++ b ∷ [] ++ run')) (take 8 (run ++ b ∷ [] ++ run')) (refs r) in
      let d : Cell A = inner_cell (length run') (take 8 run') (refs r) in
      sym (write_write (store_row r (p ++ run ++ b ∷ [] ++ run')) (inner_place k n) d c ∙ ap (λ (q : Tag). write (store_row r q) (inner_place k n) c) (simp append_assoc))

  graft_once : (p run : Tag) (b : ℕ) (t : Tree A) → Once t (p ++ run ++ b ∷ []) → Once (graft (run ++ b ∷ []) t) p
  graft_once p run b (leaf n s a) o = tt
  graft_once p run b (inner k n run' r) o =
      let e : p ++ run ++ b ∷ [] ++ run' ≡ p ++ (run ++ b ∷ [] ++ run') = simp append_assoc in
      subst (λ (q : Tag). (store_row r q (inner_place k n) ≡ unused) × OnceRow r q) e o

  roomy_clear : (hm : Home) (τ : Store A) (k n l : ℕ) → (new_home hm k n l ≡ inner_place k n) ⊎ (τ (new_home hm k n l) ≡ unused) → τ (inner_place k n) ≡ unused
      → τ (new_home hm k n l) ≡ unused
  roomy_clear hm τ k n l (inl e) h = ap τ e ∙ h
  roomy_clear hm τ k n l (inr e) h = e

  settle_clear : (hm : Home) (k n : ℕ) (run p : Tag) (r : Row A) (τ : Store A) → τ (inner_place k n) ≡ unused → Roomy hm τ → Separate (store_row r (p ++ run)) τ
      → Clear τ (settle_edits hm k n run p r)
  settle_clear hm k n run p end τ o f d = (o, tt)
  settle_clear hm k n run p (child b t end) τ o f d = (o, (own_clear t (p ++ run ++ b ∷ []) τ (separate_left (store t (p ++ run ++ b ∷ [])) empty τ d), tt))
  settle_clear hm k n run p (child b t (child c u r)) τ o f d = (o, (roomy_clear hm τ k n (count (child b t (child c u r))) (f k n (count (child b t (child c u r)))) o, tt))

  settle_once : (hm : Home) (k n : ℕ) (run p : Tag) (r : Row A) → store_row r (p ++ run) (inner_place k n) ≡ unused
      → ((l : ℕ) → store_row r (p ++ run) (new_home hm k n l) ≡ unused) → OnceRow r (p ++ run) → Once (settle hm k n run r) p
  settle_once hm k n run p end o h w = (o, w)
  settle_once hm k n run p (child b t end) o h w = graft_once p run b t w.0
  settle_once hm k n run p (child b t (child c u r)) o h w = (h (count (child b t (child c u r))), w)

  settle_store : (hm : Home) (k n : ℕ) (run p : Tag) (old : Cell A) (ρ : Store A) (es : Edits A) (r : Row A)
      → store_row r (p ++ run) ≡ apply ρ es → store_row r (p ++ run) (inner_place k n) ≡ unused
      → store (settle hm k n run r) p ≡ apply (write ρ (inner_place k n) old) (es ++ settle_edits hm k n run p r)
  settle_store hm k n run p old ρ es r i o = go r i o
    where
      here : Place
      here = inner_place k n

      -- the record itself given up, whatever is written after that
      given : (r : Row A) → store_row r (p ++ run) ≡ apply ρ es → store_row r (p ++ run) here ≡ unused → (fs : Edits A)
          → apply (write ρ here old) (es ++ (here, unused) ∷ fs) ≡ apply (store_row r (p ++ run)) fs
      given r i o fs =
          apply_append (write ρ here old) es ((here, unused) ∷ fs)
          ∙ ap (λ (σ : Store A). apply σ fs) (sym (apply_append (write ρ here old) es ((here, unused) ∷ [])) ∙ write_last ρ here old unused es ∙ ap (λ (σ : Store A). write σ here unused) (sym i) ∙ write_id (store_row r (p ++ run)) here unused o)

      go : (r : Row A) → store_row r (p ++ run) ≡ apply ρ es → store_row r (p ++ run) here ≡ unused
          → store (settle hm k n run r) p ≡ apply (write ρ here old) (es ++ settle_edits hm k n run p r)
      go end i o = ap (λ (σ : Store A). write σ here (inner_cell (length run) (take 8 run) [])) i ∙ sym (write_last ρ here old (inner_cell (length run) (take 8 run) []) es)
      go (child b t end) i o =
          graft_store p run b t
          ∙ ap (λ (σ : Store A). write σ (root t) (cell p (graft (run ++ b ∷ []) t))) (sym (combined_empty (store t (p ++ run ++ b ∷ []))))
          ∙ sym (given (child b t end) i o ((root t, cell p (graft (run ++ b ∷ []) t)) ∷ []))
      go (child b t (child c u r)) i o =
          let r' : Row A = child b t (child c u r) in
          sym (given r' i o ((new_home hm k n (count r'), inner_cell (length run) (take 8 run) (refs r')) ∷ []))

  -- ── a record on the way ──
  -- a home that is free or the record's own stays so beside one written place
  pub roomy_single : (hm : Home) (σ : Store A) (x : Place) (c : Cell A) → Roomy hm (write σ x c) → Roomy hm (write empty x c)
  roomy_single hm σ x c f k n l = go (f k n l)
    where
      alone : (q : Place) (b : Dec (q ≡ x)) → ite {C = Cell A} b c (σ q) ≡ unused → ite {C = Cell A} b c unused ≡ unused
      alone q (yes e) h = h
      alone q (no n) h = refl

      go : (new_home hm k n l ≡ inner_place k n) ⊎ (write σ x c (new_home hm k n l) ≡ unused) → (new_home hm k n l ≡ inner_place k n) ⊎ (write empty x c (new_home hm k n l) ≡ unused)
      go (inl e) = inl e
      go (inr e) = inr (alone (new_home hm k n l) (place_dec (new_home hm k n l) x) e)

  write_unused : (σ : Store A) (x q : Place) → σ q ≡ unused → write σ x unused q ≡ unused
  write_unused σ x q h = go (place_dec q x)
    where
      go : (b : Dec (q ≡ x)) → ite {C = Cell A} b unused (σ q) ≡ unused
      go (yes e) = refl
      go (no n) = h

  inner_done : (f : A → Option A) (hm : Home) (p s : Tag) (k n : ℕ) (run : Tag) (r : Row A) (m : Meet s run) (rec : ℕ → Tag → Row A) (es : ℕ → Tag → Edits A)
      → Once (inner k n run r) p → Roomy hm (store (inner k n run r) p) → ((x : ℕ) (u : Tag) → RowDone r (rec x u) (es x u) (p ++ run) hm)
      → TreeDone (inner k n run r) (prune_inner f hm s k n run r m rec) (drops_inner f hm p s k n run r m rec es) p hm
  inner_done f hm p s k n run r (same e) rec es o w ih = record { made = refl; clear = λ τ d m. tt; once = o }
  inner_done f hm p s k n run r (short y v e) rec es o w ih = record { made = refl; clear = λ τ d m. tt; once = o }
  inner_done f hm p s k n run r (part c x u y v i j ne) rec es o w ih = record { made = refl; clear = λ τ d m. tt; once = o }
  inner_done f hm p s k n run r (long x u e) rec es o w ih = go (lost_row f r x u) refl
    where
      ρ : Store A
      ρ = store_row r (p ++ run)

      here : Place
      here = inner_place k n

      old : Cell A
      old = inner_cell (length run) (take 8 run) (refs r)

      home_free : (l : ℕ) → (new_home hm k n l ≡ here) ⊎ (write ρ here old (new_home hm k n l) ≡ unused) → ρ (new_home hm k n l) ≡ unused
      home_free l (inl i) = ap ρ i ∙ o.0
      home_free l (inr i) = write_used ρ here old tt (new_home hm k n l) i

      go : (b : Bool) → lost_row f r x u ≡ b → TreeDone (inner k n run r) (prune_child hm k n run r x b (rec x u)) (drops_child hm p k n run r x b (rec x u) (es x u)) p hm
      go true i =
          let c = cut_done f hm r x u (p ++ run) i o.1 in
          let r' : Row A = cut_row x r in
          let here_free : store_row r' (p ++ run) here ≡ unused = ap (λ (σ : Store A). σ here) c.made ∙ write_unused ρ (spot x r) here o.0 in
          record {
            made = settle_store hm k n run p old ρ ((spot x r, unused) ∷ []) r' c.made here_free;
            clear = λ τ d m.
                clear_append τ ((spot x r, unused) ∷ []) (settle_edits hm k n run p r') (c.clear τ (separate_write ρ τ here old o.0 d) m)
                (settle_clear hm k n run p r' τ (own_clear (inner k n run r) p τ d) m
                (subst (λ (σ : Store A). Separate σ τ) (sym c.made) (separate_apply ρ τ ((spot x r, unused) ∷ []) (c.clear τ (separate_write ρ τ here old o.0 d) m) (separate_write ρ τ here old o.0 d))));
            once = settle_once hm k n run p r' here_free (λ l. ap (λ (σ : Store A). σ (new_home hm k n l)) c.made ∙ write_unused ρ (spot x r) (new_home hm k n l) (home_free l (w k n l))) c.once;
          }
      go false i =
          let c = ih x u in
          let new : Cell A = inner_cell (length run) (take 8 run) (refs (rec x u)) in
          let off = c.clear (write empty here old) (separate_sym (write empty here old) ρ (single_separate ρ here old o.0)) (roomy_single hm ρ here old w) in
          record {
            made = ap (λ (σ : Store A). write σ here new) c.made ∙ sym (write_last ρ here old new (es x u));
            clear = λ τ d m. clear_append τ (es x u) ((here, new) ∷ []) (c.clear τ (separate_write ρ τ here old o.0 d) m) (own_clear (inner k n run r) p τ d, tt);
            once = (ap (λ (σ : Store A). σ here) c.made ∙ apply_clear here old tt (es x u) ρ off ∙ o.0, c.once);
          }

  leaf_done : (n : ℕ) (rest : Tag) (a : A) (q : Option A) (hm : Home) (p s : Tag) (d : Dec (s ≡ rest))
      → TreeDone (leaf n rest a) (ite d (re_leaf n rest a q) (leaf n rest a)) (ite d (re_edits n (p ++ rest) q) []) p hm
  leaf_done n rest a none hm p s (yes e) = record { made = refl; clear = λ τ d m. tt; once = tt }
  leaf_done n rest a (some b) hm p s (yes e) = record {
    made = sym (write_write empty (leaf_place n) (leaf_cell (p ++ rest) a) (leaf_cell (p ++ rest) b));
    clear = λ τ d m. (own_clear (leaf n rest a) p τ d, tt);
    once = tt;
  }
  leaf_done n rest a q hm p s (no e) = record { made = refl; clear = λ τ d m. tt; once = tt }

  -- a home that is free in a join is free in its first part
  pub roomy_left : (hm : Home) (σ τ : Store A) → Roomy hm (combined σ τ) → Roomy hm σ
  roomy_left hm σ τ f k n l = go (f k n l)
    where
      go : (new_home hm k n l ≡ inner_place k n) ⊎ (combined σ τ (new_home hm k n l) ≡ unused) → (new_home hm k n l ≡ inner_place k n) ⊎ (σ (new_home hm k n l) ≡ unused)
      go (inl e) = inl e
      go (inr e) = inr (or_parts (σ (new_home hm k n l)) (τ (new_home hm k n l)) e).0

  -- and in its second
  pub roomy_right : (hm : Home) (σ τ : Store A) → Roomy hm (combined σ τ) → Roomy hm τ
  roomy_right hm σ τ f k n l = go (f k n l)
    where
      go : (new_home hm k n l ≡ inner_place k n) ⊎ (combined σ τ (new_home hm k n l) ≡ unused) → (new_home hm k n l ≡ inner_place k n) ⊎ (τ (new_home hm k n l) ≡ unused)
      go (inl e) = inl e
      go (inr e) = inr (or_parts (σ (new_home hm k n l)) (τ (new_home hm k n l)) e).1

  -- a home that is free after a write of a used cell was free before
  pub roomy_under : (hm : Home) (σ : Store A) (x : Place) (c : Cell A) → Used c → Roomy hm (write σ x c) → Roomy hm σ
  roomy_under hm σ x c u f k n l = go (f k n l)
    where
      go : (new_home hm k n l ≡ inner_place k n) ⊎ (write σ x c (new_home hm k n l) ≡ unused) → (new_home hm k n l ≡ inner_place k n) ⊎ (σ (new_home hm k n l) ≡ unused)
      go (inl e) = inl e
      go (inr e) = inr (write_used σ x c u (new_home hm k n l) e)

  child_done : (c : ℕ) (t t' : Tree A) (r r' : Row A) (q : Tag) (hm : Home) (x : ℕ) (es fs : Edits A) (d : Dec (x ≡ c)) → OnceRow (child c t r) q → Roomy hm (store_row (child c t r) q)
      → TreeDone t t' es (q ++ c ∷ []) hm → RowDone r r' fs q hm → RowDone (child c t r) (ite d (child c t' r) (child c t r')) (ite d es fs) q hm
  child_done c t t' r r' q hm x es fs (yes e) o w td rd =
      let σ : Store A = store t (q ++ c ∷ []) in
      let τ : Store A = store_row r q in
      let cl = td.clear τ o.1 (roomy_right hm σ τ w) in
      record {
        made = ap (λ (ρ : Store A). combined ρ τ) td.made ∙ combined_apply_left σ τ es cl;
        clear = λ ρ d m. td.clear ρ (separate_left σ τ ρ d) m;
        once = (td.once, subst (λ (ρ : Store A). Separate ρ τ) (sym td.made) (separate_apply σ τ es cl o.1), o.2);
      }
  child_done c t t' r r' q hm x es fs (no e) o w td rd =
      let σ : Store A = store t (q ++ c ∷ []) in
      let τ : Store A = store_row r q in
      let cl = rd.clear σ (separate_sym σ τ o.1) (roomy_left hm σ τ w) in
      record {
        made = ap (combined σ) rd.made ∙ combined_apply_right σ τ fs cl;
        clear = λ ρ d m. rd.clear ρ (separate_right σ τ ρ d) m;
        once = (o.0, subst (λ (ρ : Store A). Separate σ ρ) (sym rd.made) (separate_sym (apply τ fs) σ (separate_apply τ σ fs cl (separate_sym σ τ o.1))), rd.once);
      }

  mutual
    -- the writes of a change at a tag make the store of the changed tree
    pub drops_done : (t : Tree A) (f : A → Option A) (hm : Home) (p s : Tag) → Once t p → Roomy hm (store t p) → TreeDone t (prune t f hm s) (drops t f hm p s) p hm
    drops_done (leaf n rest a) f hm p s o w = leaf_done n rest a (f a) hm p s (tag_dec s rest)
    drops_done (inner k n run r) f hm p s o w =
        inner_done f hm p s k n run r (meet s run) (λ x u. prune_row r f hm x u) (λ x u. drops_row r f hm (p ++ run) x u) o w
        (λ x u. drops_row_done r f hm (p ++ run) x u o.1 (roomy_under hm (store_row r (p ++ run)) (inner_place k n) (inner_cell (length run) (take 8 run) (refs r)) tt w))

    -- and those to a row the store of the changed row
    pub drops_row_done : (r : Row A) (f : A → Option A) (hm : Home) (q : Tag) (x : ℕ) (u : Tag) → OnceRow r q → Roomy hm (store_row r q)
        → RowDone r (prune_row r f hm x u) (drops_row r f hm q x u) q hm
    drops_row_done end f hm q x u o w = record { made = refl; clear = λ τ d m. tt; once = tt }
    drops_row_done (child c t r) f hm q x u o w =
        let σ : Store A = store t (q ++ c ∷ []) in
        let τ : Store A = store_row r q in
        child_done c t (prune t f hm u) r (prune_row r f hm x u) q hm x (drops t f hm (q ++ c ∷ []) u) (drops_row r f hm q x u) (ℕ_discrete x c) o w
        (drops_done t f hm (q ++ c ∷ []) u o.0 (roomy_left hm σ τ w))
        (drops_row_done r f hm q x u o.2 (roomy_right hm σ τ w))
