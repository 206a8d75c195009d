-- The verdict on a tag says what the listing has of it: each entry is equal to the tag, begins it, is begun by it, or parts from it, and the gravest of these is judged.
use mathlib.Core.Path.{◌≡◌, refl, sym, subst, ◌∙◌}
use mathlib.Core.Logic.{◌⊎◌, inl, inr, ◌≢◌, if_pos, if_neg}
use mathlib.Core.Option.{Option, none, some}
use mathlib.Core.List.{[], ◌∷◌, append-nil}
use Prim.Native.Nat.{ℕ}
use native.Mathlib.Omega.{arith}
use Rattle.art.specs.Tags.{Tag, Listing, Begins, tag_dec}
use Rattle.art.specs.Members.{In}
use Rattle.art.specs.Listings.{lookup, Clashes}
use Rattle.art.specs.Changes.{Meet, same, short, long, part, meet}
use Rattle.art.specs.Verdicts.{Verdict, known, clash, free, verdict, graver, judge}
use Rattle.art.proofs.Tags.{part_not_begins}
use Rattle.art.proofs.Reach.{short_differs, long_differs, part_differs}

module _ {A : Type 0} where
  -- what a verdict says
  abbrev Says : Verdict → Tag → Listing A → Type 0
  Says known s l = ((a : A) × (lookup s l ≡ some a)) × Clashes s l
  Says clash s l = (lookup s l ≡ none) × Clashes s l
  Says free s l = (lookup s l ≡ none) × ¬ Clashes s l

  -- ── with one entry more ──
  later : (s : Tag) (e : Tag × A) (l : Listing A) → s ≢ e.0 → lookup s (e ∷ l) ≡ lookup s l
  later s e l n = if_neg (tag_dec s e.0) n (some e.1) (lookup s l)

  -- that begins the tag or is begun by it
  near_says : (s : Tag) (e : Tag × A) (l : Listing A) (w : Verdict) → s ≢ e.0 → Begins s e.0 ⊎ Begins e.0 s → Says w s l → Says (graver clash w) s (e ∷ l)
  near_says s e l known n b h = ((h.0.0, later s e l n ∙ h.0.1), (e, inl refl, b))
  near_says s e l clash n b h = (later s e l n ∙ h.0, (e, inl refl, b))
  near_says s e l free n b h = (later s e l n ∙ h.0, (e, inl refl, b))

  -- that parts from it
  far_says : (s : Tag) (e : Tag × A) (l : Listing A) (w : Verdict) → s ≢ e.0 → ¬ (Begins s e.0 ⊎ Begins e.0 s) → Says w s l → Says w s (e ∷ l)
  far_says s e l known n b h = ((h.0.0, later s e l n ∙ h.0.1), (h.1.0, inr h.1.1, h.1.2))
  far_says s e l clash n b h = (later s e l n ∙ h.0, (h.1.0, inr h.1.1, h.1.2))
  far_says s e l free n b h = (later s e l n ∙ h.0, λ c. go c.0 c.1 c.2)
    where
      go : (d : Tag × A) → (d ≡ e) ⊎ In d l → Begins s d.0 ⊎ Begins d.0 s → ⊥
      go d (inl i) k = b (subst (λ (x : Tag × A). Begins s x.0 ⊎ Begins x.0 s) i k)
      go d (inr i) k = h.1 (d, i, k)

  entry_says : (s : Tag) (e : Tag × A) (l : Listing A) (m : Meet s e.0) (w : Verdict) → Says w s l → Says (graver (verdict m) w) s (e ∷ l)
  entry_says s e l (same i) w h = ((e.1, if_pos (tag_dec s e.0) i (some e.1) (lookup s l)), (e, inl refl, inr ([], i ∙ sym (append-nil e.0))))
  entry_says s e l (short y v i) w h = near_says s e l w (short_differs s e.0 y v i) (inl (y ∷ v, i)) h
  entry_says s e l (long x u i) w h = near_says s e l w (long_differs s e.0 x u i) (inr (x ∷ u, i)) h
  entry_says s e l (part c x u y v i j ne) w h =
      far_says s e l w (part_differs s e.0 c x u y v i j ne) (elim [ inl b ↦ part_not_begins e.0 s c y v x u j i (λ q. ne (sym q)) b | inr b ↦ part_not_begins s e.0 c x u y v i j ne b ]) h

  -- ── on the whole listing ──
  judge_says : (s : Tag) (l : Listing A) → Says (judge s l) s l
  judge_says s [] = (refl, λ c. c.1)
  judge_says s (e ∷ l) = entry_says s e l (meet s e.0) (judge s l) (judge_says s l)

  pub known_held : (s : Tag) (l : Listing A) → judge s l ≡ known → (a : A) × (lookup s l ≡ some a)
  known_held s l e = (subst (λ (v : Verdict). Says v s l) e (judge_says s l)).0

  pub clash_clashes : (s : Tag) (l : Listing A) → judge s l ≡ clash → (lookup s l ≡ none) × Clashes s l
  clash_clashes s l e = subst (λ (v : Verdict). Says v s l) e (judge_says s l)

  pub free_unclashed : (s : Tag) (l : Listing A) → judge s l ≡ free → (lookup s l ≡ none) × ¬ Clashes s l
  free_unclashed s l e = subst (λ (v : Verdict). Says v s l) e (judge_says s l)

  -- ── and so what the listing has says the verdict ──
  held_not : {X : Type 0} {o : Option A} {a : A} → o ≡ some a → o ≡ none → X
  held_not i j = let z : none ≡ some _ = sym j ∙ i in let y : ◌≡◌ {A = ℕ} 0 1 = cc in absurd (omega arith)

  pub held_known : (s : Tag) (l : Listing A) (a : A) → lookup s l ≡ some a → judge s l ≡ known
  held_known s l a i = go (judge s l) (judge_says s l)
    where
      go : (v : Verdict) → Says v s l → v ≡ known
      go known h = refl
      go clash h = held_not i h.0
      go free h = held_not i h.0

  pub clashes_clash : (s : Tag) (l : Listing A) → lookup s l ≡ none → Clashes s l → judge s l ≡ clash
  clashes_clash s l i c = go (judge s l) (judge_says s l)
    where
      go : (v : Verdict) → Says v s l → v ≡ clash
      go known h = held_not h.0.1 i
      go clash h = refl
      go free h = absurd (h.1 c)

  pub unclashed_free : (s : Tag) (l : Listing A) → ¬ Clashes s l → judge s l ≡ free
  unclashed_free s l n = go (judge s l) (judge_says s l)
    where
      go : (v : Verdict) → Says v s l → v ≡ free
      go known h = absurd (n h.1)
      go clash h = absurd (n h.1)
      go free h = refl
