-- Key bytes stay bytes: an accepted start writes zeros, and so does a delete.
use Prim.Native.Nat.{ℕ, ◌+◌, ◌*◌}
use mathlib.Core.Path.{◌≡◌, refl}
use mathlib.Core.List.{List}
use Rattle.std.specs.Prelude.{Ok}
use lib.ListN.{length, replicate}
use Rattle.lists.specs.Scan.{at_most}
use Rattle.lists.proofs.Tests.{all_replicate}
use Rattle.lists.proofs.Parts.{splice_all}
use Rattle.frames.specs.declared.frame.Caps.{Caps}
use Rattle.frames.specs.declared.frame.Frame.{Frame}
use Rattle.pools.specs.Start as start-call
use Rattle.pools.specs.Start.{start_fits_in, start_of}
use Rattle.reading.specs.Answers.{Bytes}
use Rattle.pointed.proofs.Points.{tag_bytes}
use Rattle.writes.specs.Leaf.{key_out}
use Rattle.insert.proofs.Ready.{bytes_all}
use Rattle.demands.proofs.Cases.{either, refused_done}

zeros_bytes : (n : ℕ) → Bytes (replicate n 0)
zeros_bytes n = tag_bytes (replicate n 0) (all_replicate (at_most 255) n 0 refl)

pub key_out_bytes : (f : Frame) (n : ℕ) (keys : List ℕ) → Bytes keys → Bytes (key_out f n keys)
unfolding key_out
key_out_bytes f n keys k =
    let limit = f.form.limit in
    tag_bytes (key_out f n keys) (splice_all (at_most 255) keys (n * limit) (n * limit + limit) (replicate limit 0) (bytes_all keys k) (all_replicate (at_most 255) limit 0 refl))

-- an accepted start writes zeros
pub start_bytes : (words keys : List ℕ) (form : ℕ) (c : Caps) → (start_of words keys form c).answer ≡ Ok tt → Bytes (start_of words keys form c).keys
unfolding start_of
start_bytes words keys form c =
    either (λ (o : start-call.Out). o.answer ≡ Ok tt → Bytes o.keys) (start_fits_in form c (length words) (length keys)) _ _ (λ e. zeros_bytes (length keys)) (λ e. absurd (refused_done e))
