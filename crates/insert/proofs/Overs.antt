-- Where the tag is held, the plan names its leaf; with the leaf's total written anew the block is sound again, and its list has the tag's total altered.
use Prim.Native.Nat.{ℕ, suc, ◌/◌}
use mathlib.Core.Path.{◌≡◌, refl, sym, ap, ap₂, subst, ◌∙◌}
use mathlib.Core.Logic.{◌≢◌}
use mathlib.Core.List.{List, []}
use mathlib.Core.Option.{Option, none, some}
use mathlib.Core.Bool.{Bool, true, false}
use native.Mathlib.Omega.{arith}
use lib.ListN.{length, get_or}
use lib.Dec.{eqb, ltb}
use borrow.Author.Tests.{eqb-false}
use Rattle.std.specs.Prelude.{Some, None, Ok, Err}
use Rattle.refusals.specs.declared.Refusal.TheVariants.{Missing, NoLeaf}
use Rattle.insert.specs.declared.plan.Plan.TheVariants.{Over}
use Rattle.insert.specs.Plan.{Choice, into_choice, fork_choice, new_plan, site_plan, leaf_plan, point_plan, plan_of}
use Rattle.points.specs.There.{Up}
use Rattle.tree.specs.Answer.{Found}
use Rattle.lists.specs.Scan.{choose}
use Rattle.frames.specs.Frame.{FrameOf, root_word, frame}
use Rattle.frames.specs.Place.{ref_of, record_at}
use Rattle.frames.specs.declared.frame.Frame.{Frame}
use Rattle.records.specs.Own.{total_of}
use Rattle.records.specs.View.{Held}
use Rattle.art.specs.Listings.{lookup}
use Rattle.art.specs.Trees.{Tree, contents}
use Rattle.art.specs.Puts.{alter}
use Rattle.art.specs.Deletes.{held, change, stay}
use Rattle.art.specs.Verdicts.{Verdict, known, judge_tree}
use Rattle.art.specs.Facts.{insert, insert_tree, height}
use Rattle.art.specs.Stores.{Place, leaf_place, leaf_cell, Store, write, apply, root, store}
use Rattle.art.specs.Chain.{Linked}
use Rattle.art.specs.Calls.{OnceOf}
use Rattle.art.specs.Points as art
use Rattle.art.specs.Points.{point, point_verdict, point_held, cell_held, alter_at, re_held, store_of, root_of, HoldsFits, PointFits}
use Rattle.art.proofs.ReadBack.{some_inj}
use Rattle.art.proofs.Verdicts.{judge_is}
use Rattle.art.proofs.Walks.{store_shows}
use Rattle.art.proofs.Deletes.{change_held, change_sane}
use Rattle.art.proofs.Counts.{change_count}
use Rattle.art.proofs.Leaves.{change_leaves}
use Rattle.art.proofs.InsertPoints.{point_judges}
use Rattle.art.proofs.AlterPoints.{alter_makes, alter_moves, point_finds}
use Rattle.art.proofs.Calls.{call_once}
use Rattle.view.specs.Links.{links_of}
use Rattle.pools.specs.Pool.{lowest_free}
use Rattle.range.specs.Range.{after_first}
use Rattle.whole.specs.Sound.{Rooted, Sound}
use Rattle.reading.specs.Answers.{Bytes}
use Rattle.reading.specs.Shown.{Shown}
use Rattle.points.specs.Point.{point_of}
use Rattle.points.specs.declared.insert_point.Point.{Point}
use Rattle.points.specs.declared.insert_point.Point.TheVariants as code
use Rattle.writes.specs.Leaf.{total_at}
use Rattle.states.specs.State.{State}
use Rattle.states.proofs.Steps.{state_leaf, state_total}
use Rattle.states.proofs.Sounds.{sound_state, state_sound}
use Rattle.pointed.specs.Told.{up_told, told}
use Rattle.pointed.proofs.Sounds.{sound_shown}
use Rattle.pointed.proofs.Neighbours.{number_of, numbered}
use Rattle.insert.specs.Meets.{new_total}
use Rattle.insert.specs.declared.plan.Site.TheVariants.{Root}
use Rattle.insert.specs.Grown.{AlteredFrom}
use Rattle.insert.proofs.Ready.{told_point, told_fits}

-- ── the plan taken apart ──
pub record Holding (f : Frame) (words keys tag : List ℕ) (leaf : ℕ) : Type 0 where
  pub root : root_word words ≢ 0
  pub upper : Up
  pub up : Up
  pub point_is : point_of f words keys tag (root_word words) ≡ code.Holds upper up leaf

module _ (f : Frame) (words keys tag : List ℕ) (leaf : ℕ) where
  -- a plan for a new leaf overwrites none
  new_not : (c : Choice) → leaf_plan f words keys tag c ≢ Ok (Over leaf)
  unfolding leaf_plan
  new_not c e = go (ltb (lowest_free f words 5) (get_or f.caps 5 0)) e
    where
      list : (site : _) (a : Found) → new_plan f words site (lowest_free f words 5) a ≢ Ok (Over leaf)
      list site (Ok next) h = let z : ◌≡◌ {A = ℕ} 0 1 = cc in omega arith
      list site (Err Missing) h = let z : ◌≡◌ {A = ℕ} 0 1 = cc in omega arith
      list site (Err refusal) h = let z : ◌≡◌ {A = ℕ} 0 1 = cc in omega arith

      by : (c : Choice) → site_plan f words keys tag (lowest_free f words 5) c ≢ Ok (Over leaf)
      by (Some site) h = list site (after_first f words keys tag) h
      by None h = let z : ◌≡◌ {A = ℕ} 0 1 = cc in omega arith

      go : (b : Bool) → choose b (site_plan f words keys tag (lowest_free f words 5) c) (Err NoLeaf) ≢ Ok (Over leaf)
      go true h = by c h
      go false h = let z : ◌≡◌ {A = ℕ} 0 1 = cc in omega arith

  pub plan_over : plan_of f words keys tag ≡ Ok (Over leaf) → Holding f words keys tag leaf
  unfolding plan_of point_plan
  plan_over e = go (eqb (root_word words) 0) refl e
    where
      by : root_word words ≢ 0 → (p : Point) → point_of f words keys tag (root_word words) ≡ p → point_plan f words keys tag p ≡ Ok (Over leaf) → Holding f words keys tag leaf
      by u (code.Holds upper up m) q h =
          record { root = u; upper = upper; up = up; point_is = q ∙ ap (code.Holds upper up) (let i : m ≡ leaf = cc in i) }
      by u code.Clash q h = absurd (let z : ◌≡◌ {A = ℕ} 0 1 = cc in omega arith)
      by u (code.Into up ref byte) q h = absurd (new_not (into_choice f words up ref byte) h)
      by u (code.Fork up ref m d c) q h = absurd (new_not (fork_choice f words up ref m d c) h)
      by u code.Broken q h = absurd (let z : ◌≡◌ {A = ℕ} 0 1 = cc in omega arith)

      go : (b : Bool) → eqb (root_word words) 0 ≡ b → choose b (leaf_plan f words keys tag (Some Root)) (point_plan f words keys tag (point_of f words keys tag (root_word words))) ≡ Ok (Over leaf)
          → Holding f words keys tag leaf
      go true t h = absurd (new_not (Some Root) h)
      go false t h = by (eqb-false (root_word words) 0 t) (point_of f words keys tag (root_word words)) refl h

-- ── the total written anew ──

rooted_by : (d : Option (Tree Held)) (ref : ℕ) (x : Place) → root_of d ≡ some x → ref ≡ ref_of x → Rooted ref d
rooted_by none ref x e r = absurd (let z : ◌≡◌ {A = ℕ} 0 1 = cc in omega arith)
rooted_by (some t) ref x e r = r ∙ ap ref_of (sym (some_inj e))

module _ {f : Frame} {words keys : List ℕ} {t : Tree Held} (s : Shown f words keys (some t)) (st : State f words keys (store t []) (links_of f words) (root_word words) (length (contents t))) (rooted : root_word words ≡ ref_of (root t))
    (tag : List ℕ) (bytes : Bytes tag) (leaf : ℕ) (p : Holding f words keys tag leaf) where
  abbrev σ : Store Held
  σ = store t []

  abbrev most : ℕ
  most = suc (height t)

  at : point most σ (root t) tag ≡ art.holds (up_told p.upper) (up_told p.up) (leaf / 8)
  at = sym (told_point s tag bytes) ∙ ap told p.point_is

  fits : HoldsFits σ tag (up_told p.upper) (up_told p.up) (leaf / 8)
  fits = subst (λ (q : Point). PointFits σ tag (told q)) p.point_is (told_fits s tag bytes)

  number_is : fits.held.number ≡ leaf / 8
  number_is = (state_leaf st (leaf / 8) tag fits.held fits.shown).2

  -- the tag is held in the leaf
  tree_holds : lookup tag (contents t) ≡ some (record { number = leaf / 8; total = total_of (record_at f words (leaf_place (leaf / 8))) })
  tree_holds =
      sym (point_finds most σ t s.good (store_shows t [] s.once) (omega arith) tag) ∙ ap (point_held σ) at ∙ ap cell_held fits.shown
      ∙ ap₂ (λ (n v : ℕ). some (record { number = n; total = v })) number_is (state_leaf st (leaf / 8) tag fits.held fits.shown).3

  module _ (total : ℕ) where
    abbrev d : Option (Tree Held)
    d = change t (λ h. some (new_total total h)) stay tag

    over_cell : leaf_cell tag (record { number = leaf / 8; total = total }) ≡ re_held (new_total total) (σ (leaf_place (leaf / 8)))
    over_cell = ap (λ (n : ℕ). leaf_cell tag (record { number = n; total = total })) (sym number_is) ∙ ap (re_held (new_total total)) (sym fits.shown)

    over_state : State f (total_at f (leaf / 8) total words) keys (store_of d) (links_of f words) (root_word words) (length (contents t))
    over_state =
        subst (λ (τ : Store Held). State f (total_at f (leaf / 8) total words) keys τ (links_of f words) (root_word words) (length (contents t)))
        (ap (write σ (leaf_place (leaf / 8))) over_cell ∙ ap (λ (q : art.Point). apply σ (alter_at σ (new_total total) q)) (sym at) ∙ alter_makes most t s.good s.once (omega arith) (new_total total) stay tag)
        (state_total st (leaf / 8) total tag fits.held fits.shown)

    is_known : judge_tree t tag ≡ known
    is_known = judge_is t s.good tag ∙ some_inj (sym (point_judges most σ t s.good (store_shows t [] s.once) (omega arith) tag) ∙ ap point_verdict at)

    over_once : OnceOf d
    over_once =
        subst (λ (v : Verdict). OnceOf (insert_tree v t tag fits.held (new_total total) none)) is_known
        (call_once (some t) s.once (insert tag fits.held (new_total total) none) tt)

    tree_over : (s' : Sound (total_at f (leaf / 8) total words) keys) × (held s'.tree ≡ alter (λ h. some (new_total total h)) tag (contents t)) × AlteredFrom (some t) tag total s'.tree
    tree_over =
        let done = state_sound d over_state (change_sane t s.good (λ h. some (new_total total h)) stay tag) over_once (rooted_by d (root_word words) (root t) (alter_moves t (new_total total) stay tag) rooted)
        (subst (Linked (links_of f words) 0) (sym (change_leaves number_of t s.good (numbered s) (new_total total) (λ h. refl) stay tag)) s.linked)
        (sym (change_count t s.good (new_total total) stay tag)) in
        (done.0, ap held done.1 ∙ change_held t s.good (λ h. some (new_total total h)) stay tag, done.1)

module _ {words keys : List ℕ} (s : Sound words keys) (tag : List ℕ) (bytes : Bytes tag) (leaf : ℕ) (e : plan_of (frame words) words keys tag ≡ Ok (Over leaf)) where
  abbrev f : Frame
  f = frame words

  -- the leaf holds the tag, and the total that is returned
  pub over_held : lookup tag (held s.tree) ≡ some (record { number = leaf / 8; total = total_of (record_at (frame words) words (leaf_place (leaf / 8))) })
  over_held = go s.tree (sound_shown s) (sound_state s) s.rooted
    where
      go : (d : Option (Tree Held)) → Shown f words keys d → State f words keys (store_of d) (links_of f words) (root_word words) (length (held d)) → Rooted (root_word words) d
          → lookup tag (held d) ≡ some (record { number = leaf / 8; total = total_of (record_at f words (leaf_place (leaf / 8))) })
      go none sh st r = absurd ((plan_over f words keys tag leaf e).root r)
      go (some t) sh st r = tree_holds sh st r tag bytes leaf (plan_over f words keys tag leaf e)

  -- with another total the block has its frame still
  pub over_fits : (total : ℕ) → FrameOf f (total_at f (leaf / 8) total words) keys
  over_fits total = go s.tree (sound_shown s) (sound_state s) s.rooted
    where
      go : (d : Option (Tree Held)) → Shown f words keys d → State f words keys (store_of d) (links_of f words) (root_word words) (length (held d)) → Rooted (root_word words) d
          → FrameOf f (total_at f (leaf / 8) total words) keys
      go none sh st r = absurd ((plan_over f words keys tag leaf e).root r)
      go (some t) sh st r = (over_state sh st r tag bytes leaf (plan_over f words keys tag leaf e) total).frame

  now_holds : (total : ℕ) → (s' : Sound (total_at f (leaf / 8) total words) keys) × (held s'.tree ≡ alter (λ h. some (new_total total h)) tag (held s.tree)) × AlteredFrom s.tree tag total s'.tree
  now_holds total = go s.tree (sound_shown s) (sound_state s) s.rooted
    where
      go : (d : Option (Tree Held)) → Shown f words keys d → State f words keys (store_of d) (links_of f words) (root_word words) (length (held d)) → Rooted (root_word words) d
          → (s' : Sound (total_at f (leaf / 8) total words) keys) × (held s'.tree ≡ alter (λ h. some (new_total total h)) tag (held d)) × AlteredFrom d tag total s'.tree
      go none sh st r = absurd ((plan_over f words keys tag leaf e).root r)
      go (some t) sh st r = tree_over sh st r tag bytes leaf (plan_over f words keys tag leaf e) total

  -- it is sound, and its list has the tag with the total
  pub over_sound : (total : ℕ) → (s' : Sound (total_at (frame words) (leaf / 8) total words) keys) × (held s'.tree ≡ alter (λ h. some (new_total total h)) tag (held s.tree))
  over_sound total = let z = now_holds total in (z.0, z.1)

  -- its tree is the one before with that total
  pub over_altered : (total : ℕ) → (s' : Sound (total_at (frame words) (leaf / 8) total words) keys) × AlteredFrom s.tree tag total s'.tree
  over_altered total = let z = now_holds total in (z.0, z.2)
