-- `inner_node_indirect::indirect_change` meets its contract: one function for each change, with what the change needs.
use Rattle.edits.proofs.inner_node_indirect.indirect_change.Goals as goal

pub indirect_add-requires : goal.indirect_add-requires
indirect_add-requires c = (c.requires.0, rw c.in-Add.is at c.requires.1)

pub indirect_remove-requires : goal.indirect_remove-requires
indirect_remove-requires c = (c.requires.0, rw c.in-Remove.is at c.requires.1)

pub indirect_replace-requires : goal.indirect_replace-requires
indirect_replace-requires c = (c.requires.0, rw c.in-Replace.is at c.requires.1)

pub returns-in-Add : goal.returns-in-Add
returns-in-Add c = rw c.in-Add.is c.indirect_add.ensures

pub returns-in-Remove : goal.returns-in-Remove
returns-in-Remove c = rw c.in-Remove.is c.indirect_remove.ensures

pub returns-in-Replace : goal.returns-in-Replace
returns-in-Replace c = rw c.in-Replace.is c.indirect_replace.ensures
