-- An inner record changed: its body by the kind, its child count; and a record built from a prefix and a row.
use Rattle.std.specs.Prelude.{ℕ, List, ◌++◌, length, replicate}
use Rattle.lists.specs.Part.{splice}
use Rattle.prefix.specs.declared.Prefix.{Prefix}
use Rattle.frames.specs.Form.{header, record_words}
use Rattle.records.specs.Words.{child_count, with_count}
use Rattle.records.specs.Own.{body_part}
use Rattle.frames.specs.declared.form.Form.{Form}
use Rattle.edits.specs.declared.representation.Change.{Change}
use Rattle.edits.specs.Change.{count_in}
use Rattle.edits.specs.Head.{set_head}
use Rattle.edits.specs.Body.{body_change, body_spread, body_of}

-- another body
abbrev pub with_body : Form → ℕ → List ℕ → List ℕ → List ℕ
with_body form kind rec body = splice rec (header form) (record_words form kind) body

-- its children changed for a byte: the body, and their count
unfoldable pub change_of : Form → ℕ → List ℕ → ℕ → Change → List ℕ
change_of form kind rec byte change =
    with_count (count_in change (child_count rec)) (with_body form kind rec (body_change kind (body_part form kind rec) (child_count rec) byte change))

-- the references by their bytes
unfoldable pub spread_of : Form → ℕ → List ℕ → List ℕ
spread_of form kind rec = body_spread kind (body_part form kind rec) (child_count rec)

-- kind, child count, length and stored prefix, and the body of the row; what is not used is 0
unfoldable pub build_rec : Form → ℕ → Prefix → List (ℕ × ℕ) → List ℕ
build_rec form kind p row = set_head form kind (length row) p (replicate (header form) 0) ++ body_of kind row
