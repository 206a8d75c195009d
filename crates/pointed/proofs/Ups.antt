-- The record above a point is there while other records are written, and its reference is changed by one write of its cell, or of the root.
use Prim.Native.Nat.{ℕ, ◌/◌, ◌%◌}
use mathlib.Core.Path.{◌≡◌, refl, sym, ap, subst, ◌∙◌}
use mathlib.Core.Logic.{◌≢◌, if_neg}
use mathlib.Core.List.{List, [], ◌∷◌}
use mathlib.Core.Bool.{true}
use native.Mathlib.Omega.{arith}
use Rattle.std.specs.Prelude.{Some, None}
use Rattle.points.specs.There.{Up, HasChild, UpThere}
use Rattle.states.proofs.OneCell.{used_pool}
use Rattle.frames.specs.Place.{place_at, ref_of, in_pool}
use Rattle.frames.specs.declared.frame.Frame.{Frame}
use Rattle.frames.proofs.Places.{inner_kind}
use Rattle.records.specs.View.{Held}
use Rattle.art.specs.Stores.{Place, inner_place, place_dec, Cell, unused, Store, Edits, write, apply, Used}
use Rattle.art.specs.Refs.{re_cell}
use Rattle.art.specs.Chain.{Links}
use Rattle.art.specs.Points as art
use Rattle.art.specs.Points.{UpFits, ChildAt, new_root, relink_up}
use Rattle.art.proofs.Stores.{used_not, write_other}
use Rattle.edits.specs.declared.representation.Change.TheVariants.{Replace}
use Rattle.tree.proofs.Arrivals.{inner_named}
use Rattle.writes.specs.At.{change_at}
use Rattle.writes.specs.Above.{link_up}
use Rattle.states.specs.State.{State}
use Rattle.states.proofs.Steps.{state_child, state_replace, state_root}
use Rattle.pointed.specs.Told.{up_told}

-- ── in the mathematics ──
-- the record above is not at x
abbrev pub UpOff : art.Up → Place → Type 0
UpOff art.top x = Unit {0}
UpOff (art.via k n b) x = inner_place k n ≢ x

module _ {A : Type 0} where
  -- it has the cell that it had
  abbrev pub UpSame : Store A → Store A → art.Up → Type 0
  UpSame σ τ art.top = Unit {0}
  UpSame σ τ (art.via k n b) = τ (inner_place k n) ≡ σ (inner_place k n)

  pub off_same : (σ : Store A) (up : art.Up) (x : Place) (c : Cell A) → UpOff up x → UpSame σ (write σ x c) up
  off_same σ art.top x c h = tt
  off_same σ (art.via k n b) x c h = write_other σ x c (inner_place k n) h

  pub same_then : (σ τ ρ : Store A) (up : art.Up) → UpSame σ τ up → UpSame τ ρ up → UpSame σ ρ up
  same_then σ τ ρ art.top h i = tt
  same_then σ τ ρ (art.via k n b) h i = i ∙ h

  -- it is not at an unused place
  pub up_used : (σ : Store A) (up : art.Up) (y x : Place) → UpFits σ up y → σ x ≡ unused → UpOff up x
  up_used σ art.top y x h e = tt
  up_used σ (art.via k n b) y x h e = λ i. used_not (σ (inner_place k n)) (subst Used (sym h.parent.shown) tt) (ap σ i ∙ e)

  -- nor at its own child
  pub up_off : (σ : Store A) → ((k n b : ℕ) (y : Place) → ChildAt σ k n b y → inner_place k n ≢ y) → (up : art.Up) (y : Place) → UpFits σ up y → UpOff up y
  up_off σ apart art.top y h = tt
  up_off σ apart (art.via k n b) y h = apart k n b y h

  -- nor at its child's child
  pub up_off_kid : (σ : Store A) → ((k n b j m d : ℕ) (y : Place) → ChildAt σ k n b (inner_place j m) → ChildAt σ j m d y → inner_place k n ≢ y) → (up : art.Up) (j m d : ℕ) (y : Place)
      → UpFits σ up (inner_place j m) → ChildAt σ j m d y → UpOff up y
  up_off_kid σ apart art.top j m d y h c = tt
  up_off_kid σ apart (art.via k n b) j m d y h c = apart k n b j m d y h c

  -- its cell with the child at another place
  abbrev pub up_edits : Store A → art.Up → Place → Edits A
  up_edits σ art.top new = []
  up_edits σ (art.via k n b) new = (inner_place k n, re_cell (σ (inner_place k n)) b new) ∷ []

  pub relink_is : (σ : Store A) (up : art.Up) (old new : Place) → old ≢ new → relink_up σ up old new ≡ up_edits σ up new
  relink_is σ art.top old new ne = refl
  relink_is σ (art.via k n b) old new ne = if_neg (place_dec old new) ne [] (up_edits σ (art.via k n b) new)

-- the reference to the root afterwards
abbrev pub up_root : art.Up → ℕ → ℕ → ℕ
up_root art.top old new = new
up_root (art.via k n b) old new = old

pub up_rooted : (up : art.Up) (ref : ℕ) (old new : Place) → ref ≡ ref_of old → up_root up ref (ref_of new) ≡ ref_of (new_root up old new)
up_rooted art.top ref old new e = refl
up_rooted (art.via k n b) ref old new e = e

-- ── on a block ──
module _ {f : Frame} {words keys : List ℕ} {τ : Store Held} {links : Links} {root count : ℕ} (s : State f words keys τ links root count) where
  -- a reference to an inner record in use names its place
  pub inner_here : (ref : ℕ) → Used (τ (inner_place (ref % 8) (ref / 8))) → place_at ref ≡ inner_place (ref % 8) (ref / 8)
  inner_here ref u = inner_named ref (λ e. omega (arith, (inner_kind s.frame (ref % 8) (ref / 8) (used_pool s (inner_place (ref % 8) (ref / 8)) u)).1))

  -- the record above fits the store before the writes, which have left it as it was
  pub up_there : (σ : Store Held) (up : Up) (y : Place) → UpSame σ τ (up_told up) → UpFits σ (up_told up) y → UpThere f words up
  up_there σ None y e h = tt
  up_there σ (Some (above, byte)) y e h =
      subst (λ (x : Place). HasChild f words x byte) (sym (inner_here above (subst Used (sym (e ∙ h.parent.shown)) tt)))
      (state_child s (above % 8) (above / 8) h.len h.parent.stored h.rs byte y (e ∙ h.parent.shown) h.child)

  pub up_linked : (σ : Store Held) (up : Up) (y new : Place) → UpSame σ τ (up_told up) → UpFits σ (up_told up) y → in_pool f new ≡ true
      → State f (link_up f up (ref_of new) words) keys (apply τ (up_edits σ (up_told up) new)) links (up_root (up_told up) root (ref_of new)) count
  up_linked σ None y new e h pool = state_root s (ref_of new)
  up_linked σ (Some (above, byte)) y new e h pool =
      let x : Place = inner_place (above % 8) (above / 8) in
      subst (λ (p : Place). State f (change_at f p byte (Replace (ref_of new)) words) keys (write τ x (re_cell (σ x) byte new)) links root count) (sym (inner_here above (subst Used (sym (e ∙ h.parent.shown)) tt)))
      (subst (λ (c : Cell Held). State f (change_at f x byte (Replace (ref_of new)) words) keys (write τ x c) links root count) (ap (λ (c : Cell Held). re_cell c byte new) (sym h.parent.shown))
      (state_replace s (above % 8) (above / 8) h.len h.parent.stored h.rs byte y new (e ∙ h.parent.shown) h.child pool))
