-- The frame stays when a record is written and the words are as many as before: then the record has its place's length, and the trailer is untouched.
use Prim.Native.Nat.{ℕ, ◌+◌, ◌-◌, ◌≤◌}
use mathlib.Core.Path.{◌≡◌, refl, sym, ap, ◌∙◌}
use mathlib.Core.List.{List, ◌++◌}
use mathlib.Core.Bool.{true}
use native.Mathlib.Omega.{arith}
use Rattle.std.specs.Prelude.{Some, None}
use Rattle.points.specs.There.{Up, UpThere}
use lib.ListN.{length, take, drop, length-append, length-drop}
use lib.Seq.{drop-drop, length-take-le}
use Rattle.lists.specs.Part.{splice}
use Rattle.prefix.specs.declared.Prefix.{Prefix}
use Rattle.frames.specs.Frame.{FrameOf}
use Rattle.frames.specs.Place.{place_at, in_pool, start_at, size_at, put_at}
use Rattle.frames.specs.declared.frame.Frame.{Frame}
use Rattle.frames.proofs.Places.{place_room}
use Rattle.art.specs.Stores.{Place}
use Rattle.edits.specs.declared.representation.Change.{Change}
use Rattle.edits.specs.declared.representation.Change.TheVariants.{Replace}
use Rattle.pools.specs.Link.{set_trailer}
use Rattle.view.proofs.Puts.{frame_stays, put_fits}
use Rattle.view.proofs.Trailers.{trailer_fits_lem}
use Rattle.writes.specs.At.{change_at, prefixed_at, branch_at, move_at, drop_at, clear_at}
use Rattle.writes.specs.Above.{link_up}
use Rattle.writes.proofs.Spots.{fits_words}

-- what is put in the place of a part is as long as the part, where the whole stays as long
splice_kept : (l : List ℕ) (a e : ℕ) (p : List ℕ) → a ≤ e → e ≤ length l → length (splice l a e p) ≡ length l → length p ≡ e - a
unfolding splice
splice_kept l a e p ae el kept =
    let back : drop (e - a) (drop a l) ≡ drop e l = drop-drop (e - a) a l ∙ ap (λ (n : ℕ). drop n l) (let q : a + (e - a) ≡ e = omega arith in q) in
    omega (arith, kept, length-append (take a l) (p ++ drop (e - a) (drop a l)), length-append p (drop (e - a) (drop a l)), length-take-le a l (omega arith), ap length back, length-drop e l)

-- of the key bytes only their number counts
pub keys_kept : {f : Frame} {words keys out : List ℕ} → FrameOf f words keys → length out ≡ length keys → FrameOf f words out
keys_kept {f} {words} {keys} {out} w e = frame_stays w words out refl e refl

module _ {f : Frame} {words keys : List ℕ} (w : FrameOf f words keys) (out : List ℕ) (kept : length out ≡ length words) where
  pub put_kept : (x : Place) → in_pool f x ≡ true → (rec : List ℕ) → out ≡ put_at f words x rec → FrameOf f out keys
  put_kept x h rec e =
      let r = place_room w x h in
      let long : length rec ≡ size_at f x =
      splice_kept words (start_at f x) (start_at f x + size_at f x) rec (omega arith) (omega arith) (ap length (sym e) ∙ kept) ∙ omega arith in
      fits_words (put_fits w x rec h long) e

  pub change_kept : (x : Place) → in_pool f x ≡ true → (byte : ℕ) (change : Change) → out ≡ change_at f x byte change words → FrameOf f out keys
  unfolding change_at
  change_kept x h byte change e = put_kept x h _ e

  pub prefixed_kept : (x : Place) → in_pool f x ≡ true → (p : Prefix) → out ≡ prefixed_at f x p words → FrameOf f out keys
  unfolding prefixed_at
  prefixed_kept x h p e = put_kept x h _ e

  pub branch_kept : (x : Place) → in_pool f x ≡ true → (p : Prefix) (b r c s : ℕ) → out ≡ branch_at f x p b r c s words → FrameOf f out keys
  unfolding branch_at
  branch_kept x h p b r c s e = put_kept x h _ e

  pub move_kept : (x y : Place) → in_pool f y ≡ true → out ≡ move_at f x y words → FrameOf f out keys
  unfolding move_at
  move_kept x y h e = put_kept y h _ e

  pub drop_kept : (x y : Place) → in_pool f y ≡ true → (byte : ℕ) → out ≡ drop_at f x y byte words → FrameOf f out keys
  unfolding drop_at
  drop_kept x y h byte e = put_kept y h _ e

  pub clear_kept : (x : Place) → in_pool f x ≡ true → out ≡ clear_at f x words → FrameOf f out keys
  unfolding clear_at
  clear_kept x h e = put_kept x h _ e

  pub root_kept : (ref : ℕ) → out ≡ set_trailer 11 ref words → FrameOf f out keys
  root_kept ref e = fits_words (trailer_fits_lem w 11 ref (omega arith) (omega arith)) e

  pub linked_kept : (up : Up) → UpThere f words up → (ref : ℕ) → out ≡ link_up f up ref words → FrameOf f out keys
  linked_kept None h ref e = root_kept ref e
  linked_kept (Some (above, byte)) h ref e = change_kept (place_at above) h.here.pool byte (Replace ref) e
