-- A leaf's key bytes are its tag and zeros, so a block whose key bytes are bytes has bytes after an insert too.
use Prim.Native.Nat.{ℕ, ◌+◌, ◌-◌, ◌*◌}
use mathlib.Core.Path.{refl, ◌∙◌}
use mathlib.Core.List.{List, ◌++◌}
use lib.ListN.{length, replicate}
use Rattle.lists.specs.Scan.{at_most}
use Rattle.lists.proofs.Tests.{and_both, all_append, all_replicate}
use Rattle.lists.proofs.Parts.{splice_all}
use Rattle.frames.specs.declared.frame.Frame.{Frame}
use Rattle.reading.specs.Answers.{Bytes}
use Rattle.pointed.proofs.Points.{tag_bytes}
use Rattle.writes.specs.Leaf.{key_in}
use Rattle.insert.proofs.Ready.{bytes_all}

pub key_in_bytes : (f : Frame) (n : ℕ) (tag keys : List ℕ) → Bytes tag → Bytes keys → Bytes (key_in f n tag keys)
unfolding key_in
key_in_bytes f n tag keys t k =
    let a = n * f.form.limit in
    let more : ℕ = f.form.limit - length tag in
    let zeros : List ℕ = replicate more 0 in
    tag_bytes (key_in f n tag keys)
    (splice_all (at_most 255) keys a (a + f.form.limit) (tag ++ zeros) (bytes_all keys k)
    (all_append (at_most 255) tag zeros ∙ and_both (bytes_all tag t) (all_replicate (at_most 255) more 0 refl)))
