-- Station totals on blocks that are written out: A and B alone and together, a sum that carries, and what putting in and scrapping a tag does to its own station and to another's.
use Prim.Native.Nat.{ℕ, ◌+◌, ◌^◌}
use mathlib.Core.Path.{◌≡◌, refl, ap}
use mathlib.Core.List.{[]}
use native.Mathlib.Omega.{arith}
use lib.ListN.{replicate}
use Rattle.art.specs.Tags.{Tag}
use Rattle.reading.specs.Answers.{Bytes}
use Rattle.reading.specs.Listing.{totals}
use Rattle.whole.proofs.Samples.{two_sound}
use Rattle.pointed.proofs.Points.{tag_bytes}
use Rattle.demands.specs.Calls.{ask, station_total, edit, insert, delete, run}
use Rattle.demands.specs.Told.{Told, only, with_total, with_count, summed}
use Rattle.demands.specs.Histories.{Block}
use Rattle.demands.specs.Programs.{Program, seen, tells, next_by, fresh, changed}
use Rattle.demands.proofs.Demands.{demands}
use Rattle.demands.proofs.Stations.{station_is, station_after, station_kept, station_moved, station_scrapped}
use Rattle.instances.specs.Opened.{opened}
use Rattle.instances.specs.Blocks.{two, carried, room, caps, A, B, C}
use Rattle.instances.proofs.Sounds.{room_sound, two_holds, room_holds}

abbrev port : Program
port = seen run

abbrev station : Block → Tag → Told
station b s = tells port b (ask (station_total s)) (replicate 5 1)

a : Bytes A
a = tag_bytes A refl

b : Bytes B
b = tag_bytes B refl

none : Bytes []
none = tag_bytes [] refl

two_bytes : Bytes two.keys
two_bytes = tag_bytes two.keys refl

-- ── filtered and added up ──
-- of A, 7 and B, 8: A alone, and with no byte given both
A_station : station two A ≡ with_count 1 (with_total 7 (only 0))
unfolding opened
A_station = station_is port demands.on_sound {b = two} (two_sound, ap totals two_holds) A a (replicate 5 1) (omega arith)

all_stations : station two [] ≡ with_count 2 (with_total 15 (only 0))
unfolding opened
all_stations = station_is port demands.on_sound {b = two} (two_sound, ap totals two_holds) [] none (replicate 5 1) (omega arith)

-- after two inserts whose totals add up to 2 ^ 64: a count of 2, and that sum
carried_over : ((station carried []).count ≡ 2) × (summed (station carried []) ≡ 2 ^ 64)
unfolding opened
carried_over =
    let h = station_after port demands carried _ (changed (changed (fresh (record { words = replicate 47 3; keys = replicate 128 9 }) 1 (caps 2) [] refl) (insert A 18446744073709551615) a (replicate 3 1) refl) (insert B 1) b (replicate 3 1) refl) [] none (replicate 5 1) (omega arith) in
    (h.1, h.2)

-- ── changes ──
abbrev without_A : Block
without_A = next_by port two (edit (delete A)) (replicate 3 1)

-- scrapping A leaves what begins with B
B_kept : station without_A B ≡ station two B
unfolding opened
B_kept = station_kept two two_bytes (delete A) (replicate 3 1) a B b (λ h. let z : ◌≡◌ {A = ℕ} 65 66 = cc in omega arith) (replicate 5 1)

-- and takes 7 and one tag off all
A_scrapped : ((station two []).count ≡ (station without_A []).count + 1) × (summed (station two []) ≡ summed (station without_A []) + 7)
unfolding opened
A_scrapped = station_scrapped two two_bytes A a (replicate 3 1) refl [] none (A, refl) (replicate 5 1) (omega arith)

-- C, 9 put in adds a tag and 9
C_added : let after = next_by port room (edit (insert C 9)) (replicate 5 1) in ((station after []).count + 0 ≡ (station room []).count + 1) × (summed (station after []) + 0 ≡ summed (station room []) + 9)
unfolding opened
C_added = station_moved room (tag_bytes room.keys refl) (room_sound, ap totals room_holds) (insert C 9) (tag_bytes C refl) (replicate 5 1) refl [] none (C, refl) (replicate 5 1) (omega arith)
