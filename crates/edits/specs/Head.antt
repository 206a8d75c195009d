-- The head of an inner record with another prefix, and written anew.
use Rattle.std.specs.Prelude.{ℕ, ◌+◌, List}
use Rattle.lists.specs.Part.{splice}
use Rattle.prefix.specs.declared.Prefix.{Prefix}
use Rattle.frames.specs.Form.{header, pack_of}
use Rattle.frames.specs.declared.form.Form.{Form}
use Rattle.records.specs.Words.{with_kind, with_count, with_full}

-- the full length, and the stored bytes after the count below
unfoldable pub set_prefix : Form → Prefix → List ℕ → List ℕ
set_prefix form p rec = splice (with_full p.full.0 rec) (3 + form.counts) (header form) (pack_of form p.stored)

-- kind and child count in words 0 and 1, and the prefix
unfoldable pub set_head : Form → ℕ → ℕ → Prefix → List ℕ → List ℕ
set_head form kind n p rec = set_prefix form p (with_count n (with_kind kind rec))
