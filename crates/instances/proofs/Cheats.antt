-- Programs that cheat, and for each the field of the demands that it breaks: one call or a few refute it, by computing.
use Prim.Native.Nat.{ℕ, zero, suc, ◌+◌, ◌-◌}
use mathlib.Core.Path.{◌≡◌, refl, sym, ap, ◌∙◌}
use mathlib.Core.List.{List, []}
use mathlib.Core.Option.{Option, none, some}
use mathlib.Core.Bool.{Bool, true, false, true≢false}
use native.Mathlib.Omega.{arith}
use lib.ListN.{get_or, length, replicate, set}
use Rattle.records.specs.View.{Held}
use Rattle.art.specs.Tags.{Listing}
use Rattle.art.specs.Listings.{lookup, begun_with}
use Rattle.art.specs.Drawings as drawn
use Rattle.art.specs.Drawings.{Drawing}
use Rattle.art.specs.Facts.{branchings}
use Rattle.art.specs.Deletes.{held}
use Rattle.reading.specs.Answers.{Bytes}
use Rattle.whole.specs.Sound.{Sound}
use Rattle.whole.proofs.Samples.{two_sound}
use Rattle.pointed.proofs.Points.{tag_bytes}
use Rattle.demands.specs.Calls as calls
use Rattle.demands.specs.Calls.{Query, query, search, minimum, edit, insert, delete, Slices, run}
use Rattle.demands.specs.Told.{Told, only, with_carries, with_leaf, with_length, with_tag}
use Rattle.reading.specs.Listing.{totals}
use Rattle.demands.specs.Histories.{Block}
use Rattle.demands.specs.Due as due
use Rattle.demands.specs.Listed.{holds, finds, adds}
use Rattle.demands.specs.Ledger.{gives}
use Rattle.demands.specs.Programs.{Seen, Program, seen, fresh, changed}
use Rattle.demands.specs.Demands.{Numbers, Bare, Unchanged, Still, Scratched, Framed, Tagged, OnSound, AsList, Draws, Branches, Counts, EitherOrder, Restored}
use Rattle.demands.proofs.Corollaries.{one_tree}
use Rattle.demands.proofs.Demands.{demands}
use Rattle.demands.proofs.Tested.{unchecked}
use Rattle.instances.specs.Opened.{opened}
use Rattle.instances.specs.Blocks.{nothing, bare, two, carried, room, caps, lend, A, B, C}
use Rattle.instances.proofs.Sounds.{bare_sound, spare_sound, bare_holds, spare_holds, two_holds}

-- ── the programs ──
abbrev port : Program
port = seen run

-- this answer, and the slices as they were lent
abbrev claimed : Seen → Slices → Seen
claimed o s = record { told = o.told; slices = s }

-- every call is refused
abbrev refuser : Program
refuser c s = record { told = only 6; slices = s }

-- every call answers, and none changes anything
abbrev identity : Program
identity c s = claimed (port c s) s

-- a query as the port answers it, and an outcome as it is
abbrev replied : Query → Slices → Seen
replied q s = port (query q) s

abbrev as_is : Seen → Slices → Seen
as_is o s = o

-- the first where the edit puts its tag in, the second where it takes it out
abbrev by_edit : {X : Type 0} → Option ℕ → X → X → X
by_edit (some total) i d = i
by_edit none i d = d

-- the port, with other queries, and with something else made of what an insert or a delete does
abbrev port_but : (Query → Slices → Seen) → (inserts deletes : Seen → Slices → Seen) → Program
port_but q i d (calls.start form c) s = port (calls.start form c) s
port_but q i d (query x) s = q x s
port_but q i d (calls.ask a) s = port (calls.ask a) s
port_but q i d (edit e) s = by_edit (gives e) i d (port (edit e) s) s

-- every query has one fixed answer, that of minimum
abbrev fixed : Program
fixed = port_but (λ q s. replied minimum s) as_is as_is

-- a refused query tells a leaf, by the number of the refusal
abbrev chatty : Program
chatty = port_but (λ q s. let o = replied q s in record { told = with_leaf (o.told.leaf + o.told.number) o.told; slices = o.slices }) as_is as_is

-- a query writes the first word
abbrev rover : Program
rover = port_but (λ q s. claimed (replied q s) (record { words = set s.words 0 9; keys = s.keys; scratch = s.scratch })) as_is as_is

-- the call that gives a tag gives no byte of it
abbrev nameless : Program
nameless = port_but (λ q s. let o = replied q s in record { told = with_length o.told.length (with_tag [] o.told); slices = s }) as_is as_is

-- no answer has carries
abbrev carryless : Program
carryless c s = let o = port c s in record { told = with_carries 0 o.told; slices = o.slices }

-- an insert does nothing
abbrev idle : Program
idle = port_but replied claimed as_is

-- a delete does nothing
abbrev dropping : Program
dropping = port_but replied as_is claimed

-- the first for 0, else the second
abbrev if_zero : ℕ → Seen → Seen → Seen
if_zero zero x y = x
if_zero (suc n) x y = y

-- an insert keeps the first tag, and where the minimum finds one does nothing
abbrev first_only : Program
first_only = port_but replied (λ o s. if_zero (replied minimum s).told.number (claimed o s) o) as_is

-- a refused insert writes a key byte
abbrev scribbler : Program
scribbler = port_but replied (λ o s. if_zero o.told.number o (claimed o (record { words = s.words; keys = set s.keys 0 0; scratch = s.scratch }))) as_is

-- an insert leaves a made_up count, 0, in the last word but one
abbrev uncounted : Slices → Slices
uncounted s = record { words = set s.words (length s.words - 2) 0; keys = s.keys; scratch = s.scratch }

abbrev made_up : Program
made_up = port_but replied (λ o s. claimed o (uncounted o.slices)) as_is

-- an insert leaves another form in the trailer's first word
abbrev reformed : Slices → Slices
reformed s = record { words = set s.words (length s.words - 16) 9; keys = s.keys; scratch = s.scratch }

abbrev reformer : Program
reformer = port_but replied (λ o s. claimed o (reformed o.slices)) as_is

-- ── one call ──
a_bytes : Bytes A
a_bytes = tag_bytes A refl

b_bytes : Bytes B
b_bytes = tag_bytes B refl

-- a start whose lengths fit would be refused
pub refuser_refuted : ¬ Numbers refuser
unfolding opened
refuser_refuted h =
    let z : ◌≡◌ {A = ℕ} 6 0 = (h (calls.start 1 (caps 2)) tt (lend two 0)).0 0 (due.start_done refl) in
    omega arith

-- with no word to read, a search would tell leaf 6
pub chatty_refuted : ¬ Bare chatty
unfolding opened
chatty_refuted h =
    let z : ◌≡◌ {A = ℕ} 6 0 = ap (λ (a : Told). a.leaf) (h (query (search A)) (lend nothing 0) (λ e. omega arith)) in
    omega arith

-- with no leaf for C, the first byte of A's tag would go
pub scribbler_refuted : ¬ Unchanged scribbler
unfolding opened
scribbler_refuted h =
    let z : ◌≡◌ {A = ℕ} 0 65 = ap (λ (k : List ℕ). get_or k 0 0) (h (edit (insert C 9)) (lend two 3) (λ e. omega arith)).1 in
    omega arith

-- asked for the minimum, the first record's kind would become 9
pub rover_refuted : ¬ Still rover
unfolding opened
rover_refuted h =
    let z : ◌≡◌ {A = ℕ} 9 1 = ap (λ (w : List ℕ). get_or w 0 0) ((h (lend two 0)).0 minimum).0 in
    omega arith

-- scratch would be left as it was lent, where the check has written zeros
pub identity_unscratched : ¬ Scratched identity
unfolding opened
identity_unscratched h =
    let z : ◌≡◌ {A = ℕ} 1 0 = ap (λ (r : List ℕ). get_or r 0 0) (h (calls.ask calls.check) (lend two 3)) in
    omega arith

-- C would go in, and the frame fit no more
pub reformer_refuted : ¬ Framed reformer
unfolding opened
reformer_refuted h =
    let z : ◌≡◌ {A = Bool} false true = (h (edit (insert C 9)) (λ form k e. let y : ◌≡◌ {A = ℕ} 0 1 = cc in omega arith) (tag_bytes C refl) (lend room 5) (tag_bytes room.keys refl)).1 in
    true≢false (sym z)

-- the tag A would come back with no byte
pub nameless_refuted : ¬ Tagged nameless
unfolding opened
nameless_refuted h =
    let z : ◌≡◌ {A = ℕ} 0 1 = ap (λ (a : Told). length a.tag) (h 0 (lend two 0)) in
    omega arith

-- B would be found in the leaf of A
pub fixed_refuted : ¬ OnSound fixed
unfolding opened
fixed_refuted h =
    let z : ◌≡◌ {A = ℕ} 0 1 = ap (λ (a : Told). a.leaf) (h (lend two 3) two_sound (query (search B)) b_bytes unchecked ∙ ap (λ (l : Listing Held). finds (lookup B l)) two_holds) in
    omega arith

-- ── calls after a start ──
-- memory that was used before
abbrev before : Block
before = record { words = replicate 47 3; keys = replicate 128 9 }

abbrev r : List ℕ
r = replicate 3 1

-- whoever found a block sound, it holds as many tags
as_many : {words keys : List ℕ} {m : Listing ℕ} → (y : Sound words keys) × (totals (holds y) ≡ m) → (z : Sound words keys) {l : Listing Held} → holds z ≡ l → length (totals l) ≡ length m
as_many y z e = ap (λ (l : Listing Held). length (totals l)) (sym e ∙ ap held (one_tree z y.0)) ∙ ap length y.1

-- of two totals that add up to 2 ^ 64 the sum would be 0
pub carryless_refuted : ¬ OnSound carryless
unfolding opened
carryless_refuted h =
    let y = demands.as_list _ _ (changed (changed (fresh before 1 (caps 2) [] refl) (insert A 18446744073709551615) a_bytes r refl) (insert B 1) b_bytes r refl) in
    let z : ◌≡◌ {A = ℕ} 0 1 = ap (λ (a : Told). a.carries) (h (lend carried 3) y.0 (calls.ask (calls.station_total [])) (tag_bytes [] refl) (λ e. omega arith)) ∙ ap (λ (l : Listing ℕ). (adds (begun_with [] l)).carries) y.1 in
    omega arith

-- nothing would be held, where A was accepted
pub idle_refuted : ¬ AsList idle
unfolding opened
idle_refuted h =
    let z : ◌≡◌ {A = ℕ} 0 1 = as_many (h _ _ (changed (fresh before 1 (caps 2) [] refl) (insert A 7) a_bytes r refl)) bare_sound bare_holds in
    omega arith

-- A alone would be held, where A and B were accepted
pub first_only_refuted : ¬ AsList first_only
unfolding opened
first_only_refuted h =
    let z : ◌≡◌ {A = ℕ} 1 2 = as_many (h _ _ (changed (changed (fresh before 1 (caps 2) [] refl) (insert A 7) a_bytes r refl) (insert B 8) b_bytes r refl)) spare_sound spare_holds in
    omega arith

-- and drawn, with no branching
pub first_only_undrawn : ¬ Draws first_only
unfolding opened
first_only_undrawn h =
    let z : ◌≡◌ {A = ℕ} 0 1 = ap (λ (d : Drawing ℕ). branchings d) (h _ _ (changed (changed (fresh before 1 (caps 2) [] refl) (insert A 7) a_bytes r refl) (insert B 8) b_bytes r refl)) in
    omega arith

-- and no inner record in use, where one is drawn
pub first_only_unbranched : ¬ Branches first_only
unfolding opened
first_only_unbranched h =
    let z : ◌≡◌ {A = ℕ} 0 1 = h _ _ (changed (changed (fresh before 1 (caps 2) [] refl) (insert A 7) a_bytes r refl) (insert B 8) b_bytes r refl) in
    omega arith

-- A and then B would draw A, and B and then A would draw B
pub first_only_ordered : ¬ EitherOrder first_only
unfolding opened
first_only_ordered h =
    let o = h bare bare_sound (tag_bytes bare.keys refl) (insert A 7) (insert B 8) a_bytes b_bytes (λ e. let y : ◌≡◌ {A = ℕ} 65 66 = cc in omega arith) r r r r refl refl refl refl in
    let e : ◌≡◌ {A = Drawing ℕ} (drawn.one A 7) (drawn.one B 8) = o.2 in
    let z : ◌≡◌ {A = ℕ} 7 8 = cc in
    omega arith

-- A would be drawn still, where it was put in and taken out
pub dropping_unrestored : ¬ Restored dropping
unfolding opened
dropping_unrestored h =
    let o = h bare bare_sound (tag_bytes bare.keys refl) A 7 a_bytes (ap (lookup A) bare_holds) r r refl refl in
    let e : ◌≡◌ {A = Drawing ℕ} (drawn.one A 7) drawn.nothing = o.1 in
    let z : ◌≡◌ {A = ℕ} 0 1 = cc in
    omega arith

-- and held
pub dropping_refuted : ¬ AsList dropping
unfolding opened
dropping_refuted h =
    let z : ◌≡◌ {A = ℕ} 1 0 = as_many (h _ _ (changed (changed (fresh before 1 (caps 2) [] refl) (insert A 7) a_bytes r refl) (delete A) a_bytes r refl)) spare_sound spare_holds in
    omega arith

-- the count would be 0 after an accepted new insert
pub made_up_refuted : ¬ Counts made_up
unfolding opened
made_up_refuted h =
    let z : ◌≡◌ {A = ℕ} 0 1 = h _ _ (changed (fresh before 1 (caps 2) [] refl) (insert A 7) a_bytes r refl) in
    omega arith

-- a fresh directory would draw nothing still, where A was accepted
pub identity_refuted : ¬ Draws identity
unfolding opened
identity_refuted h =
    let e : ◌≡◌ {A = Drawing ℕ} drawn.nothing (drawn.one A 7) = h _ _ (changed (fresh bare 1 (caps 2) [] refl) (insert A 7) a_bytes r refl) in
    let z : ◌≡◌ {A = ℕ} 0 1 = cc in
    omega arith
