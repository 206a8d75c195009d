-- The walk of the two searches goes as the walk over the view, record by record, and so finds what the sorted list holds.
use Prim.Native.Nat.{ℕ, zero, suc, ◌+◌, ◌-◌, ◌≤◌, ◌<◌}
use mathlib.Core.Path.{◌≡◌, refl, sym, ap, ap₂, subst, ◌∙◌, fun_ext}
use mathlib.Core.Logic.{◌⊎◌, inl, inr, ite}
use mathlib.Core.List.{List, [], ◌∷◌, ◌++◌}
use mathlib.Core.Option.{Option, none, some}
use mathlib.Core.Bool.{Bool, true, false, ◌||◌, and-false}
use native.Mathlib.Omega.{arith}
use native.Mathlib.Decide.{dec_le}
use borrow.Author.Tests.{lt-ltb, le-ltb, le-leb, lt-leb}
use Rattle.std.specs.Prelude.{Ok, Err}
use Rattle.std.specs.declared.ops.ControlFlow.TheVariants.{Continue, Break}
use Rattle.refusals.specs.declared.Refusal.TheVariants.{Missing}
use Rattle.tree.specs.Walk.{Step, compare_from, fits, leaf_answer, inner_step, step_of, walk_of, find_of}
use lib.ListN.{length, get_or, take, drop, length-take}
use lib.Seq.{take-length, take_all}
use lib.Dec.{ltb}
use Rattle.lists.specs.Scan.{choose}
use Rattle.lists.specs.Compare.{begins}
use Rattle.lists.specs.Part.{between}
use Rattle.lists.proofs.Compares.{eq_same, ne_same, begins_rest, rest_begins, shared_le, shared_front, shared_more}
use Rattle.lists.proofs.Parts.{between_drop}
use Rattle.prefix.specs.Run.{capped, held}
use Rattle.prefix.specs.Match.{stored_shared, length_match, match_of}
use Rattle.prefix.specs.declared.Prefix.{Prefix}
use Rattle.prefix.specs.declared.lookup.PrefixMatchBehavior.{PrefixMatchBehavior}
use Rattle.prefix.specs.declared.lookup.PrefixMatchBehavior.TheVariants.{Pessimistic, Optimistic}
use Rattle.prefix.specs.declared.lookup.PrefixMatch.TheVariants.{On, Off}
use Rattle.frames.specs.Frame.{FrameOf, root_word}
use Rattle.frames.specs.Place.{place_at, record_at, key_at}
use Rattle.frames.specs.declared.frame.Frame.{Frame}
use Rattle.records.specs.Own.{prefix_at, child_at, total_of}
use Rattle.records.specs.Row.{row_at, ref_for}
use Rattle.records.specs.View.{Held, places, cell_of, rule_at}
use Rattle.records.proofs.RowRules.{row_rule}
use Rattle.tree.specs.declared.lookup.Aim.{Aim}
use Rattle.tree.specs.declared.lookup.Aim.TheVariants.{Exact, Begin}
use Rattle.tree.proofs.Walks.{inner_off, inner_none, inner_next, step_by, walk_next, walk_end}
use Rattle.art.specs.Tags.{Tag, Fits, fits_dec}
use Rattle.art.specs.Listings.{find}
use Rattle.art.specs.Trees.{Tree, leaf, inner, Row}
use Rattle.art.specs.Nodes.{Meets, meets_dec, start}
use Rattle.art.specs.Facts.{height, row_height}
use Rattle.art.specs.Deletes as deletes
use Rattle.art.specs.Stores.{Place, leaf_place, inner_place, Cell, leaf_cell, inner_cell, Store, Used, root, refs}
use Rattle.art.specs.Refs.{find_ref}
use Rattle.art.specs.Visit.{and_then}
use Rattle.art.specs.Walks.{walk_refs, walk_cell, walk_store, Shows}
use Rattle.art.proofs.Walks.{search_is_find}
use Rattle.view.specs.Seen.{InnerShows, InnerObeys}
use Rattle.view.proofs.Seen.{seen_leaf, seen_inner, leaf_obeys, inner_obeys}
use Rattle.reading.specs.Shown.{Shown}
use Rattle.reading.specs.Answers.{Bytes, answer_of, asked}
use Rattle.reading.proofs.Arrivals as arrival
use Rattle.reading.proofs.Kids.{KidOf, row_kid, walk_found}
use Rattle.reading.proofs.Entries.{shown_root, zero_unused, tree_shows, tags_short, few_inner, root_some, root_empty}

-- comparing with a leaf begins within both runs of bytes
from_within : (given len depth : ℕ) (behavior : PrefixMatchBehavior)
    → (compare_from given len depth behavior ≤ given) × (compare_from given len depth behavior ≤ len)
from_within given len depth Optimistic = omega arith
from_within given len depth Pessimistic = omega arith

-- bytes were skipped, or not
abbrev behaves : Bool → PrefixMatchBehavior
behaves skipped = choose skipped Optimistic Pessimistic

-- ── at a leaf ──
fits_true : (aim : Aim) (s t : Tag) → Fits (asked aim) s t → fits aim s t ≡ true
fits_true Exact s t e = eq_same s t e
fits_true Begin s t e = ap (begins t) e.1 ∙ rest_begins t e.0

fits_false : (aim : Aim) (s t : Tag) → ¬ Fits (asked aim) s t → fits aim s t ≡ false
fits_false Exact s t n = ne_same s t n
fits_false Begin s t n = go (begins t s) refl
  where
    go : (b : Bool) → begins t s ≡ b → b ≡ false
    go true e = absurd (n (begins_rest t s e))
    go false e = refl

fits_answer : (aim : Aim) (s t : Tag) (h : Held) (d : Dec (Fits (asked aim) s t)) → choose (fits aim s t) (Ok (record { number = h.number; total = h.total })) (Err Missing) ≡ answer_of (ite d (some h) none)
fits_answer aim s t h (yes e) = ap (λ (b : Bool). choose b (Ok (record { number = h.number; total = h.total })) (Err Missing)) (fits_true aim s t e)
fits_answer aim s t h (no n) = ap (λ (b : Bool). choose b (Ok (record { number = h.number; total = h.total })) (Err Missing)) (fits_false aim s t n)

same_start : (tag t : Tag) (d : ℕ) (sk : Bool) → compare_from (length tag) (length t) d (behaves sk) ≡ start sk d tag t
same_start tag t d true = refl
same_start tag t d false = refl

leaf_answer_lem : (rec key tag t : List ℕ) (aim : Aim) (n d : ℕ) (sk : Bool) (a : Held) (go : Place → ℕ → Bool → Option Held) → get_or rec 1 0 ≡ length t → t ≡ take (get_or rec 1 0) key
    → a.number ≡ n → a.total ≡ total_of rec → leaf_answer rec key tag aim n d (behaves sk) ≡ answer_of (walk_cell (leaf_cell t a) (asked aim) d sk tag go)
unfolding leaf_answer
leaf_answer_lem rec key tag t aim n d sk a go el et en ev =
    let c = compare_from (length tag) (get_or rec 1 0) d (behaves sk) in
    let w = from_within (length tag) (get_or rec 1 0) d (behaves sk) in
    let i : c ≡ start sk d tag t = ap (λ (m : ℕ). compare_from (length tag) m d (behaves sk)) el ∙ same_start tag t d sk in
    let left : between tag c (length tag) ≡ drop (start sk d tag t) tag = between_drop tag c (length tag) w.0 ∙ ap (drop c) (take-length tag) ∙ ap (λ (m : ℕ). drop m tag) i in
    let right : between key c (get_or rec 1 0) ≡ drop (start sk d tag t) t = between_drop key c (get_or rec 1 0) w.1 ∙ ap (drop c) (sym et) ∙ ap (λ (m : ℕ). drop m t) i in
    ap₂ (λ (x y : List ℕ). choose (fits aim x y) (Ok (record { number = n; total = total_of rec })) (Err Missing)) left right
    ∙ ap₂ (λ (m v : ℕ). choose (fits aim (drop (start sk d tag t) tag) (drop (start sk d tag t) t)) (Ok (record { number = m; total = v })) (Err Missing)) (sym en) (sym ev)
    ∙ fits_answer aim (drop (start sk d tag t) tag) (drop (start sk d tag t) t) a (fits_dec (asked aim) (drop (start sk d tag t) tag) (drop (start sk d tag t) t))

-- ── at a prefix ──
module _ (p : Prefix) (long : length (held p) ≡ capped p.full.0) (tag : List ℕ) (d : ℕ) where
  abbrev full : ℕ
  full = p.full.0

  met : Meets false (held p) (drop d tag) → capped full ≤ stored_shared p tag d
  met m =
      shared_more (held p) (drop d tag) (capped full) (omega arith) (omega (arith, ap length m, length-take (length (held p)) (drop d tag)))
      (take_all (capped full) (held p) (omega arith) ∙ sym m ∙ ap (λ (k : ℕ). take k (drop d tag)) long)

  meets : capped full ≤ stored_shared p tag d → Meets false (held p) (drop d tag)
  meets h =
      let q : length (held p) ≡ stored_shared p tag d = omega (arith, shared_le (held p) (drop d tag)) in
      ap (λ (k : ℕ). take k (drop d tag)) q ∙ sym (shared_front (held p) (drop d tag)) ∙ take_all (stored_shared p tag d) (held p) (omega arith)

  missed : ¬ Meets false (held p) (drop d tag) → stored_shared p tag d < capped full
  missed m = go (dec_le (capped full) (stored_shared p tag d))
    where
      go : Dec (capped full ≤ stored_shared p tag d) → stored_shared p tag d < capped full
      go (yes h) = absurd (m (meets h))
      go (no h) = omega arith

  match_on : (sk : Bool) → Meets sk (held p) (drop d tag) → d + full < length tag → match_of p tag d (behaves sk) ≡ On (d + full) (behaves (sk || ltb 8 full))
  unfolding match_of length_match
  match_on true m r = simp (lt-ltb (d + full) (length tag) r)
  match_on false m r = simp (le-leb (capped full) (stored_shared p tag d) (met m), lt-ltb (d + full) (length tag) r)

  match_off : (sk : Bool) → ¬ Meets sk (held p) (drop d tag) → (j : ℕ) × (match_of p tag d (behaves sk) ≡ Off j)
  unfolding match_of
  match_off true m = absurd (m tt)
  match_off false m = (stored_shared p tag d, simp (lt-leb (capped full) (stored_shared p tag d) (missed m)))

  match_short : (sk : Bool) → length tag ≤ d + full → (j : ℕ) × (match_of p tag d (behaves sk) ≡ Off j)
  unfolding match_of length_match
  match_short true r = (0, simp (le-ltb (d + full) (length tag) r))
  match_short false r = (stored_shared p tag d, simp (le-ltb (d + full) (length tag) r, and-false))

-- ── the walk over a block that shows a tree ──
module _ {f : Frame} {words keys : List ℕ} (w : FrameOf f words keys) (rules : (x : Place) → Used (cell_of f words keys x) → rule_at f words keys x ≡ true)
    (tag : List ℕ) (bytes : Bytes tag) (aim : Aim) where
  -- at a leaf
  at_leaf : (left n : ℕ) (t : Tag) (a : Held) → cell_of f words keys (leaf_place n) ≡ leaf_cell t a → (ref d : ℕ) (sk : Bool) → place_at ref ≡ leaf_place n
      → walk_of f words keys tag aim left ref d (behaves sk) ≡ answer_of (walk_store (suc left) (cell_of f words keys) (leaf_place n) (asked aim) d sk tag)
  at_leaf left n t a h ref d sk e =
      let s = seen_leaf f words keys n t a h in
      let o = leaf_obeys w s (rules (leaf_place n) (rw h tt)) in
      let go : Place → ℕ → Bool → Option Held = λ y i sk'. walk_store left (cell_of f words keys) y (asked aim) i sk' tag in
      walk_end f words keys tag aim left ref d (behaves sk) _ (sym (step_by f words keys tag aim left ref d (behaves sk) _ (arrival.at_leaf f words keys rules left ref n t a h e)))
      ∙ leaf_answer_lem (record_at f words (leaf_place n)) (key_at f keys n) tag t aim n d sk a go o.len_is s.tag_is s.number_is s.total_is
      ∙ sym (ap (λ (x : Cell Held). answer_of (walk_cell x (asked aim) d sk tag go)) h)

  -- with so many inner records left on the path
  abbrev Law : ℕ → Type 0
  Law left = (t : Tree Held) (p : Tag) → Shows t p (cell_of f words keys) → height t ≤ left → (ref d : ℕ) (sk : Bool) → place_at ref ≡ root t
      → walk_of f words keys tag aim left ref d (behaves sk) ≡ answer_of (walk_store (suc left) (cell_of f words keys) (root t) (asked aim) d sk tag)

  -- at an inner record
  at_inner : (left k n : ℕ) (p run : Tag) (r : Row Held) → Shows (inner k n run r) p (cell_of f words keys) → row_height r ≤ left → (ref d : ℕ) (sk : Bool) → place_at ref ≡ inner_place k n
      → Law left → walk_of f words keys tag aim (suc left) ref d (behaves sk) ≡ answer_of (walk_store (suc (suc left)) (cell_of f words keys) (inner_place k n) (asked aim) d sk tag)
  unfolding prefix_at
  at_inner left k n p run r h l ref d sk e law =
      by (meets_dec sk (held pre) (drop d tag)) (dec_le (length tag) (d + len)) ∙ sym (ap (λ (x : Cell Held). answer_of (walk_cell x (asked aim) d sk tag go)) shown)
    where
      rec : List ℕ
      rec = record_at f words (inner_place k n)

      pre : Prefix
      pre = prefix_at f.form rec

      row : List (ℕ × ℕ)
      row = row_at f.form k rec

      s : InnerShows f words k n (length run) (take 8 run) (refs r)
      s = seen_inner f words keys k n (length run) (take 8 run) (refs r) h.0

      o : InnerObeys f words k n (length run) (take 8 run) (refs r)
      o = inner_obeys w s (rules (inner_place k n) (rw h.0 tt))

      len : ℕ
      len = get_or rec 2 0

      shown : cell_of f words keys (inner_place k n) ≡ inner_cell len (held pre) (places row)
      shown = h.0 ∙ (λ i. inner_cell (s.len_is i) (s.stored_is i) (s.refs_are i))

      long : length (held pre) ≡ capped len
      long = ap length (sym s.stored_is) ∙ o.stored_long ∙ ap capped s.len_is

      go : Place → ℕ → Bool → Option Held
      go = λ y i sk'. walk_store (suc left) (cell_of f words keys) y (asked aim) i sk' tag

      step : (x : Step) → x ≡ inner_step f.form k rec tag d (behaves sk) → step_of f words keys tag aim (suc left) ref d (behaves sk) ≡ x
      step x q = sym (q ∙ step_by f words keys tag aim (suc left) ref d (behaves sk) _ (arrival.at_inner f words keys rules (suc left) ref k n _ _ _ h.0 e (omega arith)))

      missing : (Break (Err Missing)) ≡ inner_step f.form k rec tag d (behaves sk) → walk_of f words keys tag aim (suc left) ref d (behaves sk) ≡ Err Missing
      missing q = walk_end f words keys tag aim (suc left) ref d (behaves sk) (Err Missing) (step (Break (Err Missing)) q)

      off : (j : ℕ) × (match_of pre tag d (behaves sk) ≡ Off j) → walk_of f words keys tag aim (suc left) ref d (behaves sk) ≡ Err Missing
      off q = missing (inner_off f.form k rec tag d (behaves sk) pre refl q.0 q.1)

      byte : ℕ
      byte = get_or tag (d + len) 0

      next : ℕ
      next = child_at f.form k rec byte

      next_is : next ≡ ref_for byte row
      next_is = (row_rule o.fits).child_for byte (bytes (d + len))

      skips : Bool
      skips = sk || ltb 8 len

      down : Place → Option Held
      down = λ y. go y (suc (d + len)) skips

      found : (o : Option Place) → find_ref (refs r) byte ≡ o → and_then o down ≡ walk_refs (refs r) byte down
      found o q = sym (walk_found (refs r) byte down ∙ ap (λ (x : Option Place). and_then x down) q)

      goes : match_of pre tag d (behaves sk) ≡ On (d + len) (behaves skips)
          → ((ref_for byte row ≡ 0) × (find_ref (refs r) byte ≡ none)) ⊎ KidOf (cell_of f words keys) r (p ++ run) (ref_for byte row) (find_ref (refs r) byte)
          → walk_of f words keys tag aim (suc left) ref d (behaves sk) ≡ answer_of (walk_refs (refs r) byte down)
      goes q (inl m) =
          missing (inner_none f.form k rec tag d (behaves sk) pre refl (d + len) (behaves skips) q next refl (next_is ∙ m.0))
          ∙ ap answer_of (found none m.1)
      goes q (inr m) =
          let path = p ++ run ++ m.byte ∷ [] in
          let used = shown_root (cell_of f words keys) path m.tree m.shows in
          let named : place_at next ≡ root m.tree = ap place_at next_is ∙ m.names in
          let nz : next ≡ 0 → ⊥ = λ i. zero_unused w (subst (λ (x : Place). Used (cell_of f words keys x)) (sym named ∙ ap place_at i) used) in
          walk_next f words keys tag aim (suc left) ref d (behaves sk) next (d + len + 1) (behaves skips) (omega arith)
          (step (Continue (next, d + len + 1, behaves skips)) (inner_next f.form k rec tag d (behaves sk) pre refl (d + len) (behaves skips) q next refl nz))
          ∙ ap₂ (λ (i j : ℕ). walk_of f words keys tag aim i next j (behaves skips)) (let i : suc left - 1 ≡ left = omega arith in i) (let i : d + len + 1 ≡ suc (d + len) = omega arith in i)
          ∙ law m.tree path m.shows (omega (arith, m.low)) next (suc (d + len)) skips named
          ∙ ap answer_of (found (some (root m.tree)) m.finds)

      by : (a : Dec (Meets sk (held pre) (drop d tag))) (b : Dec (length tag ≤ d + len))
          → walk_of f words keys tag aim (suc left) ref d (behaves sk) ≡ answer_of (ite a (ite b none (walk_refs (places row) byte down)) none)
      by (no m) b = off (match_off pre long tag d sk m)
      by (yes m) (yes b) = off (match_short pre long tag d sk b)
      by (yes m) (no b) =
          goes (match_on pre long tag d sk m (omega arith)) (row_kid (cell_of f words keys) r (p ++ run) h.1 row s.refs_are byte)
          ∙ ap (λ (x : List (ℕ × Place)). answer_of (walk_refs x byte down)) s.refs_are

  walk_as : (left : ℕ) → Law left
  walk_as zero (leaf n s a) p h l ref d sk e = at_leaf zero n (p ++ s) a h ref d sk e
  walk_as (suc left) (leaf n s a) p h l ref d sk e = at_leaf (suc left) n (p ++ s) a h ref d sk e
  walk_as zero (inner k n run r) p h l ref d sk e = absurd (omega arith)
  walk_as (suc left) (inner k n run r) p h l ref d sk e =
      at_inner left k n p run r h (omega arith) ref d sk e (λ t p' h' l' ref' d' sk' e'. walk_as left t p' h' l' ref' d' sk' e')

-- ── search and prefix search ──
-- On every block that shows a directory the two searches answer as the sorted list: with the number and the total of the first leaf whose tag is
-- the given one, or begins the given bytes; and that there is none, where there is none.
pub find_shown : {f : Frame} {words keys : List ℕ} {d : Option (Tree Held)} → Shown f words keys d → (tag : List ℕ) → Bytes tag → (aim : Aim)
    → find_of words keys tag aim ≡ answer_of (find (asked aim) tag (deletes.held d))
find_shown {f} {words} {keys} {d = none} s tag bytes aim = root_empty s (λ g. walk_of g words keys tag aim g.form.limit (root_word words) 0 Pessimistic)
find_shown {f} {words} {keys} {d = some t} s tag bytes aim =
    let limit = f.form.limit in
    root_some s (λ g. walk_of g words keys tag aim g.form.limit (root_word words) 0 Pessimistic)
    ∙ walk_as s.frame s.rules tag bytes aim limit t [] (tree_shows s) (few_inner s) (root_word words) 0 false s.rooted
    ∙ ap (λ (σ : Store Held). answer_of (walk_store (suc limit) σ (root t) (asked aim) 0 false tag)) (fun_ext s.cells)
    ∙ ap answer_of (search_is_find t s.good s.once (suc limit) (omega (arith, tags_short s)) (asked aim) tag)
