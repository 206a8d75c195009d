-- Which records an accepted change takes, of the call as it is run: its outcome is that of a plan on a sound block, since a refusal is no 0.
use Prim.Native.Nat.{ℕ}
use mathlib.Core.Path.{◌≡◌, sym, subst, ◌∙◌}
use mathlib.Core.List.{List}
use mathlib.Core.Option.{none, some}
use native.Mathlib.Omega.{arith}
use Rattle.frames.specs.Frame.{frame}
use Rattle.records.specs.View.{Held}
use Rattle.art.specs.Tags.{Tag}
use Rattle.art.specs.Listings.{Sorted, lookup}
use Rattle.reading.specs.Answers.{Bytes}
use Rattle.whole.specs.Sound.{Sound}
use Rattle.insert.specs.Answer as insert-answer
use Rattle.insert.specs.Grown.{GrownFrom, AlteredFrom}
use Rattle.insert.proofs.Calls.{short_fits}
use Rattle.insert.proofs.Sounds.{insert_sound_lem, insert_grown}
use Rattle.insert.proofs.Overs.{over_altered, over_held}
use Rattle.delete.specs.Answer as delete-answer
use Rattle.delete.specs.Without.{WithoutFrom}
use Rattle.delete.proofs.Sounds.{delete_without}
use Rattle.demands.specs.Calls.{edit, insert, delete, run}
use Rattle.demands.specs.Histories.{Block}
use Rattle.demands.specs.Listed.{holds}
use Rattle.demands.specs.Programs.{seen, next_by, AcceptedBy}
use Rattle.demands.proofs.Cases.{insert_cases, delete_cases}
use Rattle.demands.proofs.Lookups.{put_new, lookup_new}
use Rattle.demands.proofs.Edits.{holds_sorted}

-- an accepted insert of a tag that is not held takes the lowest free leaf.
-- A record with room for the tag's next byte stays where it is. A full one moves to the lowest free record of the smallest larger kind that has one.
-- A branching is made in the lowest free record of the smallest kind that has one.
pub insert_takes : (b : Block) (z : Sound b.words b.keys) → Bytes b.keys → (t : Tag) (total : ℕ) → Bytes t → lookup t (holds z) ≡ none → (q : List ℕ)
    → AcceptedBy (seen run) b (insert t total) q → let b' = next_by (seen run) b (edit (insert t total)) q in
    (n : ℕ) × (z' : Sound b'.words b'.keys) × GrownFrom (frame b.words) z.tree t (record { number = n; total = total }) z'.tree
insert_takes b z k t total h unheld q =
    insert_cases b.words b.keys t total
    (λ o. insert-answer.number_of o.answer ≡ 0 → (n : ℕ) × (z' : Sound o.words o.keys) × GrownFrom (frame b.words) z.tree t (record { number = n; total = total }) z'.tree)
    (λ a r e i. absurd (e i)) (λ r s short site n gap e i. let g = insert_grown z t h k (short_fits b.words b.keys t z.fits short) site n gap total e in (n, g.0, g.1))
    (λ r s leaf e i. let x = sym unheld ∙ over_held z t h leaf e in absurd (let y : ◌≡◌ {A = ℕ} 0 1 = cc in omega arith)) q

-- an accepted insert of a held tag changes its total and nothing else of the tree: every record and leaf stays where it is.
pub insert_alters : (b : Block) (z : Sound b.words b.keys) → Bytes b.keys → (t : Tag) (total : ℕ) → Bytes t → (a : Held) → lookup t (holds z) ≡ some a → (q : List ℕ)
    → AcceptedBy (seen run) b (insert t total) q → let b' = next_by (seen run) b (edit (insert t total)) q in (z' : Sound b'.words b'.keys) × AlteredFrom z.tree t total z'.tree
insert_alters b z k t total h a is_held_lem q =
    insert_cases b.words b.keys t total (λ o. insert-answer.number_of o.answer ≡ 0 → (z' : Sound o.words o.keys) × AlteredFrom z.tree t total z'.tree)
    (λ a r e i. absurd (e i))
    (λ r s short site n gap e i.
    let m = insert_sound_lem z t h k (short_fits b.words b.keys t z.fits short) site n gap total e in
    let put_in : Held = record { number = n; total = total } in
    let new = lookup_new t (holds z) (put_new t put_in (holds z) (subst Sorted m.1 (holds_sorted m.0))) in
    let x = sym new ∙ is_held_lem in absurd (let y : ◌≡◌ {A = ℕ} 0 1 = cc in omega arith)) (λ r s leaf e i. over_altered z t h leaf e total) q

-- an accepted delete leaves the tag out.
-- The record above its leaf stays where it is while it has more children than its mark.
-- Else it moves to the lowest free record of the next smaller kind, and stays where that kind has none. With one child left it goes.
pub delete_takes : (b : Block) (z : Sound b.words b.keys) → (t : Tag) → Bytes t → (q : List ℕ) → AcceptedBy (seen run) b (delete t) q
    → let b' = next_by (seen run) b (edit (delete t)) q in (z' : Sound b'.words b'.keys) × WithoutFrom (frame b.words) z.tree t z'.tree
delete_takes b z t h q =
    delete_cases b.words b.keys t (λ o. delete-answer.number_of o.answer ≡ 0 → (z' : Sound o.words o.keys) × WithoutFrom (frame b.words) z.tree t z'.tree)
    (λ a r e i. absurd (e i)) (λ r s cut n gap e i. delete_without z t h cut n gap e) q
