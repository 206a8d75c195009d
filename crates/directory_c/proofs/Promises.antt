-- A function that gives back what its call tells, with the slices as the call leaves them, means what the demands say of the call.
use mathlib.Core.Path.{◌≡◌, refl}
use mathlib.Core.List.{List}
use Prim.Native.Nat.{ℕ}
use Rattle.demands.specs.Calls.{Call, query, Query, Slices, run}
use Rattle.demands.specs.Told.{Told, told_by}
use Rattle.demands.specs.Histories.{CallBytes, QueryBytes}
use Rattle.demands.proofs.Demands.{demands}
use Rattle.directory_c.specs.Numbers.{lent_two, Does, Replies}

pub does : {R : Type 0} {show : Told → R} {c : Call} {s : Slices} {r : R} {left : Slices} → CallBytes c → r ≡ show (told_by (run c s).answer) → left ≡ (run c s).slices → Does show c s r left
does {show = show} {c = c} {s = s} b e l = record { is = e; leaves = l; means = λ z h. (told_by (run c s).answer, e, demands.on_sound s z c b h) }

-- a query leaves its slices as they are
pub replies : {R : Type 0} {show : Told → R} {q : Query} {words keys : List ℕ} {r : R} → QueryBytes q → r ≡ show (told_by (run (query q) (lent_two words keys)).answer) → Replies show (query q) words keys r
replies b e = does b e refl
