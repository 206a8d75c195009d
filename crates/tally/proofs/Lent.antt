-- A tally that stands in a local is lent to `add`, for a lifetime that is made for the call, and comes back with the total added: the ghost steps of a walk by hand, before the call and after it.
-- All that is known of `add` is its contract.
-- Assumes nothing.
use Rattle.std.proofs.Common.{◌≡◌, ℕ, ◌^◌, ◌<◌, List, [], ◌∷◌, refl, ap, subst, w64, MutBor}
use seplogic.Ra.Ura.{Ura}
use base.Fraction.{full_share}
use mir.Syntax.{named}
use mir.Val.{Val, vunit, vint, vptr}
use base.Logic.{SProp, ent, sep, ex, guard, id⊢, via, ex_e, fst∗, snd∗}
use base.Fml.{GName, Lft, Fml, ftrue, fsep, fat, flft, flent, fres}
use prog.Memory.{Memory}
use prog.Routine.{Routine}
use types.Logic.{Logic, sem}
use contract.Monad.{Fun, fact, fact_use}
use types.Kit.{‵, raw, some, later, ◌⊛◌, ◌$◌, ◌∵◌, !, qed, move, keep, drop, use1, use2, use3, split, join, pick, fpick, fpack, fsplit, fjoin, feq_l, frame, await, updating, now as at_once, show, check, done}
use types.SemTy.{Body}
use types.Tokens.{lft_new, lft_end}
use denote.Laws.{Is, shows}
use denote.Memory.{mem, cell_at, part_of}
use denote.Plain.{Nothing, uint_Makes}
use denote.Builtin.{u64}
use denote.Lend.{lends_ref, ref_back}
use denote.Ref.{MutRef}
use denote.Steps.{only, owned, peeks, nothing}
use denote.Struct.Steps.{spelt}
use denote.Struct.Laws as LL
use denote.Triple.Statement.{Contract}
use denote.Triple.Clauses.{ensured, lasts}
use denote.Triple.Spec.{triple_of}
use denote.Triple.Walked.{says}
use Rattle.tally.specs.declared.Tally.{Tally}
use Rattle.tally.specs.Tally.{Room, added_of}
use Rattle.tally.specs.contracts.Tally as T
use Rattle.tally.proofs.Tally.TheLaws as T'
use Rattle.tally.specs.contracts.add as add

abbrev pub val : Tally → Val
val t = LL.val T.the_type T'.the_laws t

-- its numbers fit their types
abbrev pub IsTally : Tally → Type 0
IsTally t = Is T.the_row t (val t ∷ [])

-- what the lender has of the local at b while it is lent for the lifetime α, under the name γ
abbrev pub Away : ℕ → ℕ → GName → Fml
Away b α γ = flent (α ∷ []) (Body (mem T.the_row) b 0 γ)

module _ {M : Type 1} {𝓤 : Ura M} (𝓛 : Logic 𝓤) (at_mem : Memory → SProp 𝓤) (run : Routine → Fun 𝓤) (t : Tally) (n b : ℕ) where
  open 𝓛 use {H, A}

  abbrev pub Add : Contract 𝓤
  Add = triple_of 𝓛 add.signature (add.spec 𝓛 at_mem run)

  abbrev u : Tally
  u = added_of t n

  abbrev lent : GName → MutBor Tally
  lent γ = record { ref_ptr = (b, 0); ghost_name = γ; now = t }

  -- what `add`'s triple binds outside
  abbrev pub to_add : ℕ → GName → Add.Ghost
  to_add α γ = (((α ∷ [], tt), (full_share, tt), tt, (lent γ, (n, tt)), (vptr b 0 ∷ [], (vint w64 n ∷ [], tt))), tt)

  goes_add : Room t → n < 2 ^ 64 → (α : ℕ) (γ : GName) → ent 𝓤 (sep 𝓤 (A.lft (α ∷ []) full_share) (sem 𝓛 ((MutRef (named 0) (α ∷ []) T.the_row).own_val (lent γ) (vptr b 0 ∷ [])))) (Add.pre (to_add α γ))
  goes_add room fits α γ =
      qed 𝓛 (‵ (flft (α ∷ []) full_share) ∷ ‵ ((MutRef (named 0) (α ∷ []) T.the_row).own_val (lent γ) (vptr b 0 ∷ [])) ∷ []) ∵ says ! room $ nothing ! $ move ! (1 ∷ 0 ∷ []) $ join ! $ frame ! $
      nothing ! $ owned ! u64 (Is u64) (uint_Makes 𝓛 w64) n _ (refl, fits) $ fjoin ! $ move ! (1 ∷ 0 ∷ []) $ fjoin ! $ done !

  -- what lies in a local is what a reference to it lends
  lies_in : ent 𝓤 (sep 𝓤 (sem 𝓛 (fat full_share T'.mir b 0 (val t))) (sem 𝓛 ((T.the_row).own_val t (val t ∷ [])))) (sem 𝓛 ((mem T.the_row).own_at t b 0))
  unfolding part_of
  lies_in =
      qed 𝓛 (‵ (fat full_share T'.mir b 0 (val t)) ∷ ‵ ((T.the_row).own_val t (val t ∷ [])) ∷ []) ∵ use1 𝓛 (‵ (cell_at full_share (T.the_row).mir (val t ∷ []) b 0)) (𝓛.laws.at_raw full_share T'.mir b 0 (val t)) $
      fjoin ! $ fpack ! (List Val) (λ us. fsep (cell_at full_share (T.the_row).mir us b 0) ((T.the_row).own_val t us)) (val t ∷ []) $ done !

  -- before the call: what `add` asks, and what the lender has meanwhile
  pub lent_out : IsTally t → Room t → n < 2 ^ 64 → ent 𝓤 (sem 𝓛 (fat full_share T'.mir b 0 (val t))) (H.⇛ (ex 𝓤 (λ (α : ℕ). ex 𝓤 (λ (γ : GName). sep 𝓤 (Add.pre (to_add α γ)) (sem 𝓛 (Away b α γ))))))
  lent_out is room fits =
      qed 𝓛 (‵ (fat full_share T'.mir b 0 (val t)) ∷ []) ∵ updating ! $ owned ! T.the_row (Is T.the_row) (LL.makes T.the_type T'.the_plain 𝓛) t _ is $ move ! (1 ∷ 0 ∷ []) $
      use2 𝓛 (‵ ((mem T.the_row).own_at t b 0)) lies_in $ lft_new ! tt (λ α. move ! (1 ∷ []) $
      use1 𝓛 (later (some (λ (γ : GName). ‵ ((MutRef (named 0) (α ∷ []) T.the_row).own_val (lent γ) (vptr b 0 ∷ [])) ⊛ ‵ (Away b α γ)))) (lends_ref 𝓛 T.the_row (named 0) (α ∷ []) t b 0) $ await ! tt $ pick ! (λ γ. split ! $
      -- [the reference; what the lender has; the token]
      move ! (2 ∷ 0 ∷ []) $ use2 𝓛 (raw (Add.pre (to_add α γ))) (goes_add room fits α γ) $ at_once ! $
      show ! (λ (α' : ℕ). ex 𝓤 (λ (γ' : GName). sep 𝓤 (Add.pre (to_add α' γ')) (sem 𝓛 (Away b α' γ')))) α $ show ! (λ (γ' : GName). sep 𝓤 (Add.pre (to_add α γ')) (sem 𝓛 (Away b α γ'))) γ $ done !))

  -- what `add` says of the last value behind the reference
  told : (κ : Lft) (γ : GName) (r : Unit {0}) → ent 𝓤 (ensured 𝓛 add.ended (add.clauses 𝓛 at_mem run) (κ, tt) (lent γ, (n, tt)) tt r) (A.res γ ((T.the_row).coded.code u))
  told κ γ r = ex_e 𝓤 _ (λ ws.
      let L : SProp 𝓤 = sem 𝓛 (lasts add.ended (κ, tt) (lent γ, (n, tt)) ws) in
      let E : SProp 𝓤 = fact 𝓤 (ws.0 ≡ u) in
      fact_use 𝓤 (ws.0 ≡ u) (snd∗ 𝓤 L E) (λ e.
      let R : SProp 𝓤 = A.res γ ((T.the_row).coded.code ws.0) in
      let B : SProp 𝓤 = A.bor κ (Body (mem T.the_row) b 0 γ) in
      subst (λ (w : Tally). ent 𝓤 (sep 𝓤 L E) (A.res γ ((T.the_row).coded.code w))) e (via 𝓤 L (fst∗ 𝓤 L E) (via 𝓤 (sep 𝓤 R B) (fst∗ 𝓤 (sep 𝓤 R B) (sem 𝓛 (fsep ftrue ftrue))) (fst∗ 𝓤 R B)))))

  lies_out : ent 𝓤 (sem 𝓛 ((mem T.the_row).own_at u b 0)) (sep 𝓤 (sem 𝓛 ((T.the_row).own_val u (val u ∷ []))) (sem 𝓛 (fat full_share T'.mir b 0 (val u))))
  unfolding part_of
  lies_out =
      qed 𝓛 (‵ ((mem T.the_row).own_at u b 0) ∷ []) ∵ fpick ! (λ vs. fsplit ! $ spelt ! T.the_row (Is T.the_row) (shows 𝓛 T.the_row) (LL.vals T.the_type T'.the_laws) (LL.tells T.the_type T'.the_laws) full_share u vs b 0 $
      use1 𝓛 (‵ (fat full_share T'.mir b 0 (val u))) (𝓛.laws.raw_at full_share T'.mir b 0 (val u)) $ move ! (1 ∷ 0 ∷ []) $ done !)

  -- after the call: the lifetime is ended, and the local is back at the last value
  pub come_back : (α : ℕ) (γ : GName) (w : Val) → ent 𝓤 (sep 𝓤 (Add.post (to_add α γ) w) (sem 𝓛 (Away b α γ))) (H.⇛ (guard 𝓤 ((w ≡ vunit) × IsTally u) (sem 𝓛 (fat full_share T'.mir b 0 (val u)))))
  come_back α γ w =
      qed 𝓛 (raw (Add.post (to_add α γ) w) ∷ ‵ (Away b α γ) ∷ []) ∵ updating ! $
      use1 𝓛 (later (some (λ (r : Unit {0}). ((‵ (flft (α ∷ []) full_share) ⊛ ‵ ftrue) ⊛ ‵ (Nothing.own_val r (w ∷ []))) ⊛ raw (ensured 𝓛 add.ended (add.clauses 𝓛 at_mem run) (α ∷ [], tt) (lent γ, (n, tt)) tt r)))) (id⊢ 𝓤 _) $
      await ! tt $ pick ! (λ r. split ! $ move ! (1 ∷ []) $ use1 𝓛 (‵ (fres γ ((T.the_row).coded.code u))) (told (α ∷ []) γ r) $ move ! (1 ∷ []) $ split ! $ move ! (1 ∷ []) $ feq_l ! (λ e.
      -- [the token and true; the last value; what the lender has]
      split ! $ lft_end ! tt $ move ! (0 ∷ 3 ∷ 2 ∷ []) $ use3 𝓛 (later (‵ ((mem T.the_row).own_at u b 0))) (ref_back 𝓛 T.the_row (α ∷ []) γ u b 0) $ await ! tt $
      use1 𝓛 (‵ ((T.the_row).own_val u (val u ∷ [])) ⊛ ‵ (fat full_share T'.mir b 0 (val u))) lies_out $ split ! $ peeks ! T.the_row (Is T.the_row) (shows 𝓛 T.the_row) u (val u ∷ []) (λ is. drop ! $
      at_once ! $ check ! (ap only e, is) $ keep ! (0 ∷ []) $ done !)))
