-- Accepted changes to different tags draw the same tree in either order, and an unheld tag added and removed leaves the drawing: what is held for each tag decides the list, and the list the drawing.
use Prim.Native.Nat.{ℕ}
use mathlib.Core.Path.{◌≡◌, refl, sym, ap, subst, ◌∙◌}
use mathlib.Core.Logic.{◌≢◌}
use mathlib.Core.List.{List, []}
use mathlib.Core.Option.{Option, none, some}
use Rattle.frames.specs.Frame.{root_word, frame}
use Rattle.frames.specs.Place.{place_at}
use Rattle.frames.proofs.Places.{place_ref}
use Rattle.records.specs.View.{Held, cell_of}
use Rattle.art.specs.Tags.{Tag, tag_dec}
use Rattle.art.specs.Listings.{lookup}
use Rattle.art.specs.Trees.{Tree}
use Rattle.art.specs.Drawings.{draw}
use Rattle.art.specs.Deletes.{Sane}
use Rattle.art.specs.Stores.{Used, root}
use Rattle.art.specs.Calls.{OnceOf}
use Rattle.art.proofs.ReadBack.{shown_once}
use Rattle.whole.specs.Sound.{Rooted, Sound}
use Rattle.demands.specs.Calls.{Edit, insert, delete, edit, run}
use Rattle.reading.specs.Listing.{totals}
use Rattle.demands.specs.Histories.{Block, lent, tag_of}
use Rattle.demands.specs.Drawn.{drawing_of}
use Rattle.demands.specs.Listed.{holds}
use Rattle.demands.specs.Ledger.{Ledger, gives}
use Rattle.demands.specs.Programs.{seen, next_by, Reached}
use Rattle.demands.specs.Demands.{EitherOrder, Restored}
use Rattle.demands.proofs.Totals.{total_of_lem, totals_sorted, totals_lookup}
use Rattle.demands.proofs.Drawings.{Cells, root_used, root_pool, tree_shown, drawing_held}
use Rattle.demands.proofs.Lookups.{sorted_ext}
use Rattle.demands.proofs.Edits.{Changes, holds_sorted, edit_changes}
use Rattle.demands.proofs.Histories.{history}

-- ── a block has one tree, whoever found it sound ──
module _ (words keys : List ℕ) where
  same_tree : (d e : Option (Tree Held)) → Sane d → Sane e → OnceOf d → OnceOf e → Cells words keys d → Cells words keys e → Rooted (root_word words) d → Rooted (root_word words) e → d ≡ e
  same_tree none none g g' o o' h h' r r' = refl
  same_tree none (some u) g g' o o' h h' r r' = absurd (subst Used (h (root u)) (root_used words keys u h'))
  same_tree (some t) none g g' o o' h h' r r' = absurd (subst Used (h' (root t)) (root_used words keys t h))
  same_tree (some t) (some u) g g' o o' h h' r r' =
      ap some (shown_once t u g g' [] (cell_of (frame words) words keys) (tree_shown words keys t h o) (tree_shown words keys u h' o')
      (sym (place_ref (frame words) (root t) (root_pool words keys t h)) ∙ ap place_at (sym r ∙ r') ∙ place_ref (frame words) (root u) (root_pool words keys u h')))

pub one_tree : {words keys : List ℕ} (s t : Sound words keys) → s.tree ≡ t.tree
one_tree {words} {keys} s t = same_tree words keys s.tree t.tree s.good t.good s.once t.once s.shown t.shown s.rooted t.rooted

-- ── what is held for each tag decides the drawing ──
pub drawn_same : {words keys words' keys' : List ℕ} (s : Sound words keys) (t : Sound words' keys')
    → ((u : Tag) → lookup u (totals (holds s)) ≡ lookup u (totals (holds t))) → drawing_of words keys ≡ drawing_of words' keys'
drawn_same s t e =
    drawing_held s ∙ ap draw (sorted_ext (totals (holds s)) (totals (holds t)) (totals_sorted (holds s) (holds_sorted s)) (totals_sorted (holds t) (holds_sorted t)) e) ∙ sym (drawing_held t)

-- two directories after any calls, in whatever order and capacities: where each tag has the same total in both, or is held in neither, they draw the same
pub any_order : {b b' : Block} {k k' : Ledger} → Reached (seen run) b k → Reached (seen run) b' k' → ((t : Tag) → lookup t k.list ≡ lookup t k'.list)
    → drawing_of b.words b.keys ≡ drawing_of b'.words b'.keys
any_order {k = k} {k' = k'} y y' e =
    let x = history y in
    let x' = history y' in
    drawn_same x.sound x'.sound (λ t. ap (lookup t) x.totals_are ∙ e t ∙ sym (ap (lookup t) x'.totals_are))

-- ── after an accepted edit ──
module _ {e : Edit} {words keys words' keys' : List ℕ} {z : Sound words keys} (c : Changes e z words' keys') (t : Tag) where
  same_total : t ≢ tag_of e → lookup t (totals (holds c.after)) ≡ lookup t (totals (holds z))
  same_total ne = totals_lookup t (holds c.after) ∙ ap total_of_lem (c.others t ne) ∙ sym (totals_lookup t (holds z))

  given_total : t ≡ tag_of e → lookup t (totals (holds c.after)) ≡ gives e
  given_total q = ap (λ (u : Tag). lookup u (totals (holds c.after))) q ∙ c.gave

-- ── the two corollaries ──
module _ {x y : Edit} {words keys w k v j w' k' v' j' : List ℕ} {z : Sound words keys} (bx : Changes x z w k) (xy : Changes y bx.after v j) (by : Changes y z w' k') (yx : Changes x by.after v' j') where
  -- after both, in either order, each tag has the same
  swapped : tag_of x ≢ tag_of y → (t : Tag) → Dec (t ≡ tag_of x) → Dec (t ≡ tag_of y) → lookup t (totals (holds xy.after)) ≡ lookup t (totals (holds yx.after))
  swapped ne t (yes p) (yes s) = absurd (ne (sym p ∙ s))
  swapped ne t (yes p) (no s) = same_total xy t s ∙ given_total bx t p ∙ sym (given_total yx t p)
  swapped ne t (no p) (yes s) = given_total xy t s ∙ sym (same_total yx t p ∙ given_total by t s)
  swapped ne t (no p) (no s) = same_total xy t s ∙ same_total bx t p ∙ sym (same_total yx t p ∙ same_total by t s)

-- two changes to different tags leave sound blocks that draw the same in either order, where both orders are accepted
pub either_order : EitherOrder (seen run)
either_order b z k x y h i ne q r q' r' a c a' c' =
    let bx = edit_changes x (lent b q) h k a z in
    let xy = edit_changes y (lent (next_by (seen run) b (edit x) q) r) i bx.bytes c bx.after in
    let by = edit_changes y (lent b r') i k a' z in
    let yx = edit_changes x (lent (next_by (seen run) b (edit y) r') q') h by.bytes c' by.after in
    (xy.after, yx.after, drawn_same xy.after yx.after (λ t. swapped bx xy by yx ne t (tag_dec t (tag_of x)) (tag_dec t (tag_of y))))

module _ {x y : Edit} {words keys w k v j : List ℕ} {z : Sound words keys} (bx : Changes x z w k) (xy : Changes y bx.after v j) where
  -- after two on one tag, the second giving it what it had, each tag has what it had
  back : tag_of y ≡ tag_of x → lookup (tag_of y) (totals (holds z)) ≡ gives y → (t : Tag) → Dec (t ≡ tag_of y) → lookup t (totals (holds xy.after)) ≡ lookup t (totals (holds z))
  back q e t (yes p) = given_total xy t p ∙ sym (ap (λ (u : Tag). lookup u (totals (holds z))) p ∙ e)
  back q e t (no p) = same_total xy t p ∙ same_total bx t (λ r. p (r ∙ sym q))

-- an unheld tag added and removed again leaves a sound block with the drawing as it was
pub restored : Restored (seen run)
restored b z k tag total h unheld q r a c =
    let added = edit_changes (insert tag total) (lent b q) h k a z in
    let removed = edit_changes (delete tag) (lent (next_by (seen run) b (edit (insert tag total)) q) r) h added.bytes c added.after in
    (removed.after, drawn_same removed.after z (λ t. back added removed refl (totals_lookup tag (holds z) ∙ ap total_of_lem unheld) t (tag_dec t tag)))
