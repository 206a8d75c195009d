-- Insert on a sound block, with scratch enough, answers by the verdict on the tag, the free leaves and the free records: the plan is the one that these call for.
use Prim.Native.Nat.{ℕ}
use mathlib.Core.Path.{◌≡◌, refl, sym, ap, ◌∙◌}
use mathlib.Core.List.{List}
use mathlib.Core.Option.{some}
use mathlib.Core.Bool.{false}
use Rattle.std.specs.Prelude.{Some, Ok, Err}
use Rattle.refusals.specs.declared.Refusal.TheVariants.{Clash, NoLeaf, NoRecord}
use Rattle.insert.specs.declared.plan.Plan.TheVariants.{New, Over}
use Rattle.insert.specs.Answer.{Inserted}
use Rattle.insert.specs.Plan.{Planned, plan_of}
use Rattle.frames.specs.Frame.{frame}
use Rattle.frames.specs.declared.frame.Frame.{Frame}
use Rattle.records.specs.View.{Held}
use Rattle.art.specs.Tags.{Tag, Listing}
use Rattle.art.specs.Listings.{lookup}
use Rattle.art.specs.Verdicts.{judge}
use Rattle.art.specs.Points.{store_of}
use Rattle.art.proofs.ReadBack.{some_inj}
use Rattle.art.proofs.Clashes.{clash_clashes, free_unclashed, held_known, clashes_clash, unclashed_free}
use Rattle.whole.specs.Sound.{Sound}
use Rattle.reading.specs.Answers.{Bytes}
use Rattle.insert.specs.Room.{LeavesFull, Lacking, Answers}
use Rattle.insert.specs.Insert.{too_long, insert_of}
use Rattle.insert.proofs.Refusals.{plan_answers, only_over, only_clash, only_full, only_lacking, only_new}
use Rattle.demands.specs.Calls as calls
use Rattle.demands.specs.Calls.{Slices}
use Rattle.demands.specs.Told.{Told, told_by}
use Rattle.demands.specs.Tests.{Passed}
use Rattle.demands.specs.Listed.{holds, Full, InsertsListed}
use Rattle.demands.proofs.Changes.{over_held}
use Rattle.demands.proofs.Leaves.{full_count, count_full}
use Rattle.demands.proofs.Tested.{insert_passed}

module _ (s : Slices) (t : Tag) (total : ℕ) (bytes : Bytes t) (fits : too_long s.words s.keys t ≡ false) (p : Passed s) where
  abbrev f : Frame
  f = frame s.words

  abbrev z : Sound s.words s.keys
  z = p.sound

  abbrev full : Type 0
  full = LeavesFull f (store_of z.tree)

  abbrev lacking : Type 0
  lacking = Lacking f z.tree t

  abbrev plan : Planned
  plan = plan_of f s.words s.keys t

  abbrev given : Inserted
  given = (insert_of s.words s.keys s.scratch t total).answer

  answers : Answers (judge t (holds z)) full lacking plan
  answers = plan_answers z t bytes

  listed_over : (h : Held) → lookup t (holds z) ≡ some h → given ≡ Ok (Some h.total)
  listed_over h e =
      let r = only_over (judge t (holds z)) full lacking plan answers (held_known t (holds z) h e) in
      let o = over_held z t bytes r.1 in
      insert_passed s t total fits p (Ok (Over r.0)) r.1 ∙ ap (λ (old : ℕ). Ok (Some old)) (sym o.2 ∙ ap (λ (a : Held). a.total) (some_inj (sym o.1 ∙ e)))

  abbrev telling : Inserted → Told
  telling a = told_by (calls.inserted a)

  pub inserts_listed : InsertsListed z t (telling given)
  inserts_listed = record {
    over = λ h e. ap telling (listed_over h e);
    clashes = λ n c. ap telling (insert_passed s t total fits p (Err Clash) (only_clash (judge t (holds z)) full lacking plan answers (clashes_clash t (holds z) n c)));
    full = λ n a. ap telling (insert_passed s t total fits p (Err NoLeaf) (only_full (judge t (holds z)) full lacking plan answers (unclashed_free t (holds z) n) (count_full z a)));
    lacks = λ n a b.
        ap telling (insert_passed s t total fits p (Err NoRecord) (only_lacking (judge t (holds z)) full lacking plan answers (unclashed_free t (holds z) n) (λ u. a (full_count z u)) b));
    new = λ n a b.
        let r = only_new (judge t (holds z)) full lacking plan answers (unclashed_free t (holds z) n) (λ u. a (full_count z u)) b in
        ap telling (insert_passed s t total fits p (Ok (New r.0 r.1 r.2)) r.3);
  }

-- ── what the list tells of an insert is one thing ──
pub inserts_same : {words keys : List ℕ} (z : Sound words keys) (t : Tag) → Bytes t → {a a' : Told} → InsertsListed z t a → InsertsListed z t a' → a ≡ a'
inserts_same {words} {keys} z t bytes {a} {a'} i j = go (plan_of (frame words) words keys t) refl (plan_answers z t bytes)
  where
    l : Listing Held
    l = holds z

    go : (q : Planned) → plan_of (frame words) words keys t ≡ q → Answers (judge t l) (LeavesFull (frame words) (store_of z.tree)) (Lacking (frame words) z.tree t) q → a ≡ a'
    go (Ok (Over leaf)) e h = let o = over_held z t bytes e in i.over o.0 o.1 ∙ sym (j.over o.0 o.1)
    go (Ok (New site n gap)) e h = let c = (free_unclashed t l h.0).1 in let f : ¬ Full z = λ u. h.1 (count_full z u) in i.new c f h.2 ∙ sym (j.new c f h.2)
    go (Err Clash) e h = let c = clash_clashes t l h in i.clashes c.0 c.1 ∙ sym (j.clashes c.0 c.1)
    go (Err NoLeaf) e h = let c = (free_unclashed t l h.0).1 in let f = full_count z h.1 in i.full c f ∙ sym (j.full c f)
    go (Err NoRecord) e h = let c = (free_unclashed t l h.0).1 in let f : ¬ Full z = λ u. h.1 (count_full z u) in i.lacks c f h.2 ∙ sym (j.lacks c f h.2)
    go (Err refusal) e h = absurd h
