-- `representation::body_entry` meets its contract: below 256 there is a place for the byte, and past it there is none.
use borrow.Author.Tests.{lt-ltb, le-ltb}
use Rattle.records.proofs.representation.body_entry.Goals as goal

pub returns-then-byte-lt-BYTES : goal.returns-then-byte-lt-BYTES
returns-then-byte-lt-BYTES c = simp (lt-ltb _ _ c.if-byte-lt-BYTES.true, c.body_child.ensures)

pub returns-else-byte-lt-BYTES : goal.returns-else-byte-lt-BYTES
returns-else-byte-lt-BYTES c = simp (le-ltb _ _ c.if-byte-lt-BYTES.false)
