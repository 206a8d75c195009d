-- The cases of a plan, of a site and of what the check found: what each needs, and what it comes to.
use Prim.Native.Nat.{ℕ, ◌+◌, ◌/◌, ◌≤◌, ◌<◌}
use mathlib.Core.Path.{◌≡◌, sym, ap, subst, ◌∙◌}
use mathlib.Core.List.{List}
use mathlib.Core.Bool.{true}
use native.Mathlib.Omega.{arith}
use Rattle.std.specs.Prelude.{Ok}
use Rattle.insert.specs.declared.plan.Plan.TheVariants.{New, Over}
use Rattle.insert.specs.Plan.{Planned}
use Rattle.points.specs.There.{Up}
use Rattle.whole.specs.Check.{Checked}
use lib.ListN.{length}
use Rattle.frames.specs.Frame.{FrameOf, count_word}
use Rattle.frames.specs.Place.{place_at, in_pool}
use Rattle.frames.specs.declared.frame.Frame.{Frame}
use Rattle.frames.proofs.Frames.{totals}
use Rattle.art.specs.Chain.{leaf_ref}
use Rattle.art.specs.Stores.{leaf_place}
use Rattle.edits.specs.declared.representation.Change.TheVariants as change
use Rattle.pools.specs.Link.{set_trailer}
use Rattle.writes.specs.At.{change_at, Roomy}
use Rattle.writes.specs.Leaf.{leaf_in}
use Rattle.writes.specs.declared.leaf_node.Gap.{Gap}
use Rattle.writes.proofs.Kept.{change_kept}
use Rattle.insert.specs.Apply.{ForkReady, GrowReady, NewReady, SiteReady, hung, new_words}
use Rattle.insert.specs.Insert.{Out, PlanReady, insert_by}
use Rattle.insert.specs.declared.plan.Site.{Site}
use Rattle.insert.specs.declared.plan.Site.TheVariants.{Add, Grow, Fork}

-- ── a plan ──
module _ (f : Frame) (words keys tag : List ℕ) {p : Planned} where
  pub over_ready : {leaf : ℕ} → p ≡ Ok (Over leaf) → PlanReady f words keys tag p → in_pool f (leaf_place (leaf / 8)) ≡ true
  over_ready e h = subst (PlanReady f words keys tag) e h

  pub new_ready : {site : Site} {n : ℕ} {gap : Gap} → p ≡ Ok (New site n gap) → PlanReady f words keys tag p → NewReady f words keys tag site n gap
  new_ready e h = subst (PlanReady f words keys tag) e h

-- ── what the check found ──
pub insert_as : (words keys scratch tag : List ℕ) (total : ℕ) {c d : Checked} {o : Out} → c ≡ d → o ≡ insert_by words keys scratch tag total d
    → o ≡ insert_by words keys scratch tag total c
insert_as words keys scratch tag total e h = h ∙ sym (ap (insert_by words keys scratch tag total) e)

-- ── a site ──
module _ (f : Frame) (words keys tag : List ℕ) (leaf : ℕ) {site : Site} where
  pub add_ready : {ref byte : ℕ} → site ≡ Add ref byte → SiteReady f words keys tag site leaf → Roomy f words (place_at ref)
  add_ready e h = subst (λ (x : Site). SiteReady f words keys tag x leaf) e h

  pub grow_ready : {up : Up} {old new byte : ℕ} → site ≡ Grow up old new byte → SiteReady f words keys tag site leaf → GrowReady f words up old new byte leaf
  grow_ready e h = subst (λ (x : Site). SiteReady f words keys tag x leaf) e h

  pub fork_ready : {up : Up} {below new witness d c : ℕ} → site ≡ Fork up below new witness d c → SiteReady f words keys tag site leaf
      → ForkReady f words keys tag up below new witness d c leaf
  fork_ready e h = subst (λ (x : Site). SiteReady f words keys tag x leaf) e h

-- hung as at the site that it was found to be
pub hung_by : (f : Frame) (keys tag : List ℕ) (leaf : ℕ) (words : List ℕ) {site x : Site} {o : List ℕ} → site ≡ x → o ≡ hung f keys tag x leaf words
    → o ≡ hung f keys tag site leaf words
hung_by f keys tag leaf words e h = h ∙ sym (ap (λ (s : Site). hung f keys tag s leaf words) e)

-- the frame stays where a record takes a child in place
pub add_kept : (f : Frame) (words keys tag : List ℕ) (leaf : ℕ) {site : Site} {ref byte : ℕ} → site ≡ Add ref byte → SiteReady f words keys tag site leaf
    → FrameOf f words keys → {o : List ℕ} → o ≡ change_at f (place_at ref) byte (change.Add leaf) words → length o ≡ length words → FrameOf f o keys
add_kept f words keys tag leaf {site} {ref} {byte} e h w {o} eo k =
    change_kept w o k (place_at ref) (add_ready f words keys tag leaf e h).here.pool byte (change.Add leaf) eo

-- ── all of it ──
-- a new leaf's site is ready for the reference as it was made, which is not 0
pub site_for : (f : Frame) (words keys tag : List ℕ) (site : Site) (n : ℕ) (gap : Gap) {ref : ℕ} → ref ≡ leaf_ref n → NewReady f words keys tag site n gap → SiteReady f words keys tag site ref
site_for f words keys tag site n gap e r = subst (SiteReady f words keys tag site) (sym e) r.site_ready

pub ref_some : (n : ℕ) {ref : ℕ} → ref ≡ leaf_ref n → 0 < ref
ref_some n e = omega arith

-- the words hold a trailer, before the writes and after them
pub words_long : {f : Frame} {words keys : List ℕ} → FrameOf f words keys → 16 ≤ length words
words_long {f} {words} {keys} w = (totals words keys w.fits).long

pub still_long : {f : Frame} {words keys : List ℕ} → FrameOf f words keys → (out : List ℕ) → length out ≡ length words → 16 ≤ length out
still_long w out e = omega (arith, words_long w)

-- count is the tag count as it was read, next the one that is written, l the words with the tree, m those with the leaf and the list, o those with the new count
pub new_made : {count next : ℕ} {m o : List ℕ} → o ≡ set_trailer 14 next m → next ≡ count + 1
    → (f : Frame) (keys tag : List ℕ) (total : ℕ) (site : Site) (n : ℕ) (gap : Gap) (words : List ℕ) {ref : ℕ} {l : List ℕ} → count ≡ count_word words → ref ≡ leaf_ref n
    → l ≡ hung f keys tag site ref words → m ≡ leaf_in f n (length tag) gap.previous gap.next total l → o ≡ new_words f keys tag total site n gap words
unfolding new_words
new_made {count} {next} eo en f keys tag total site n gap words ec er el em =
    let leaf : List ℕ → List ℕ = leaf_in f n (length tag) gap.previous gap.next total in
    eo ∙ ap (set_trailer 14 next) (em ∙ ap leaf (el ∙ ap (λ (k : ℕ). hung f keys tag site k words) er)) ∙ ap (λ (k : ℕ). set_trailer 14 k (leaf (hung f keys tag site (leaf_ref n) words))) (en ∙ ap (λ (k : ℕ). k + 1) ec)
