-- `all_bytes` counts safely: no more tags are accepted than bytes have had their turn.
use Prim.Native.Nat.{◌≤◌}
use Rattle.bench_sheet.proofs.all_bytes.Given as goal

abbrev pub invariant-loop-byte : goal.invariant-loop-byte
invariant-loop-byte g l = l.accepted ≤ l.byte-counter
