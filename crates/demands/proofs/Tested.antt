-- The calls that check a block go by frame, scratch and soundness, which shut each other out.
use Prim.Native.Nat.{ℕ, ◌≤◌}
use mathlib.Core.Path.{◌≡◌, refl, sym, ap, ◌∙◌}
use mathlib.Core.List.{List}
use mathlib.Core.Bool.{Bool, true, false, true≢false}
use lib.ListN.{length}
use lib.Dec.{ltb}
use borrow.Author.Tests.{le-ltb, lt-ltb, ltb-true, ltb-false}
use Rattle.std.specs.Prelude.{Ok, Err}
use Rattle.refusals.specs.declared.Refusal.TheVariants.{Damaged, ShortScratch, TooLong}
use Rattle.insert.specs.Plan.{Planned}
use Rattle.whole.specs.Check.{Checked, check_of, whole_by, whole_of}
use Rattle.lists.specs.Scan.{choose}
use Rattle.frames.specs.Frame.{frame_fits, frame}
use Rattle.art.proofs.Deletes.{false_true}
use Rattle.whole.specs.Marks.{places_in}
use Rattle.whole.proofs.Sounds.{whole_sound, sound_whole}
use Rattle.insert.specs.Insert as insert-call
use Rattle.insert.specs.Insert.{too_long, insert_of, insert_checked, insert_sound, insert_by}
use Rattle.insert.specs.Plan as insert-plan
use Rattle.delete.specs.Delete as delete-call
use Rattle.delete.specs.Delete.{delete_of, delete_checked, delete_sound, delete_by}
use Rattle.delete.specs.Plan as delete-plan
use Rattle.demands.specs.Calls.{Slices}
use Rattle.demands.specs.Due.{framed}
use Rattle.demands.specs.Tests.{Short, Unsound, Passed}

-- no call that does not check asks for scratch
pub unchecked : {A : Type 0} → false ≡ true → A
unchecked e = absurd (true≢false (sym e))

-- one of the four holds
pub data Tests (s : Slices) : Type 0 where
  unframed : framed s ≡ false → Tests s
  short : Short s → Tests s
  unsound : Unsound s → Tests s
  passed : Passed s → Tests s

module _ (s : Slices) where
  abbrev places : ℕ
  places = places_in (frame s.words)

  abbrev whole : Bool
  whole = whole_by (frame s.words) s.words s.keys

  -- with a frame that fits, sound is what the check finds
  whole_is : (b : Bool) → whole ≡ b → frame_fits s.words s.keys ≡ true → whole_of s.words s.keys ≡ b
  unfolding whole_of
  whole_is b e fits = ap (λ (t : Bool). choose t whole false) fits ∙ e

  pub tested : Tests s
  tested = go (frame_fits s.words s.keys) refl (ltb (length s.scratch) places) refl whole refl
    where
      go : (b : Bool) → frame_fits s.words s.keys ≡ b → (c : Bool) → ltb (length s.scratch) places ≡ c → (w : Bool) → whole ≡ w → Tests s
      go false p c q w r = unframed p
      go true p true q w r = short (record { fits = p; less = ltb-true (length s.scratch) places q })
      go true p false q false r =
          unsound (record { fits = p; room = ltb-false (length s.scratch) places q; not_sound = λ z. false_true (sym (whole_is false r p) ∙ sound_whole s.words s.keys z) })
      go true p false q true r = passed (record { room = ltb-false (length s.scratch) places q; sound = whole_sound s.words s.keys (whole_is true r p) })

  -- ── what the check answers ──
  pub check_unframed : framed s ≡ false → (check_of s.words s.keys s.scratch).result ≡ Err Damaged
  unfolding check_of
  check_unframed e = simp e

  pub check_short : Short s → (check_of s.words s.keys s.scratch).result ≡ Err ShortScratch
  unfolding check_of
  check_short h = simp (h.fits, lt-ltb (length s.scratch) places h.less)

  whole_check : frame_fits s.words s.keys ≡ true → places ≤ length s.scratch → (b : Bool) → whole ≡ b → (check_of s.words s.keys s.scratch).result ≡ choose b (Ok tt) (Err Damaged)
  unfolding check_of
  whole_check fits room b e = simp (fits, le-ltb (length s.scratch) places room, e)

  pub check_unsound : Unsound s → (check_of s.words s.keys s.scratch).result ≡ Err Damaged
  check_unsound h = go whole refl
    where
      go : (b : Bool) → whole ≡ b → (check_of s.words s.keys s.scratch).result ≡ Err Damaged
      go true e = absurd (h.not_sound (whole_sound s.words s.keys (whole_is true e h.fits)))
      go false e = whole_check h.fits h.room false e

  pub check_passed : Passed s → (check_of s.words s.keys s.scratch).result ≡ Ok tt
  check_passed h = go whole refl
    where
      go : (b : Bool) → whole ≡ b → (check_of s.words s.keys s.scratch).result ≡ Ok tt
      go true e = whole_check h.sound.fits h.room true e
      go false e = false_true (sym (whole_is false e h.sound.fits) ∙ sound_whole s.words s.keys h.sound)

  abbrev after : List ℕ
  after = (check_of s.words s.keys s.scratch).scratch

  -- ── insert and delete, by what the check answers ──
  module _ (t : List ℕ) (total : ℕ) where
    pub insert_too_long : too_long s.words s.keys t ≡ true → (insert_of s.words s.keys s.scratch t total).answer ≡ Err TooLong
    unfolding insert_of
    insert_too_long h =
        ap (λ (b : Bool). (choose b (insert-call.out (Err TooLong) s.words s.keys s.scratch) (insert_checked s.words s.keys t total (check_of s.words s.keys s.scratch))).answer)
        h

    pub insert_by_lem : too_long s.words s.keys t ≡ false → (c : Checked) → (check_of s.words s.keys s.scratch).result ≡ c
        → (insert_of s.words s.keys s.scratch t total).answer ≡ (insert_by s.words s.keys after t total c).answer
    unfolding insert_of insert_checked
    insert_by_lem h c e =
        ap (λ (b : Bool). (choose b (insert-call.out (Err TooLong) s.words s.keys s.scratch) (insert_by s.words s.keys after t total (check_of s.words s.keys s.scratch).result)).answer)
        h
        ∙ ap (λ (c : Checked). (insert_by s.words s.keys after t total c).answer) e

    pub insert_passed : too_long s.words s.keys t ≡ false → Passed s → (q : Planned) → insert-plan.plan_of (frame s.words) s.words s.keys t ≡ q
        → (insert_of s.words s.keys s.scratch t total).answer ≡ (insert-call.planned (frame s.words) s.words s.keys after t total q).answer
    unfolding insert_sound
    insert_passed h p q e =
        insert_by_lem h (Ok tt) (check_passed p) ∙ ap (λ (q : Planned). (insert-call.planned (frame s.words) s.words s.keys after t total q).answer) e

  module _ (t : List ℕ) where
    pub delete_by_lem : (c : Checked) → (check_of s.words s.keys s.scratch).result ≡ c → (delete_of s.words s.keys s.scratch t).answer ≡ (delete_by s.words s.keys after t c).answer
    unfolding delete_of delete_checked
    delete_by_lem c e = ap (λ (c : Checked). (delete_by s.words s.keys after t c).answer) e

    pub delete_passed : Passed s
        → (delete_of s.words s.keys s.scratch t).answer ≡ (delete-call.planned (frame s.words) s.words s.keys after (delete-plan.plan_of (frame s.words) s.words s.keys t)).answer
    unfolding delete_sound
    delete_passed p = delete_by_lem (Ok tt) (check_passed p)
