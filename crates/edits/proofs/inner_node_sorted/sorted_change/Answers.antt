-- `inner_node_sorted::sorted_change` meets its contract: one function for each change, with what the change needs.
use Rattle.edits.proofs.inner_node_sorted.sorted_change.Goals as goal

pub sorted_add-requires : goal.sorted_add-requires
sorted_add-requires c = (rw c.in-Add.is at c.requires.1, c.requires.0.1)

pub sorted_remove-requires : goal.sorted_remove-requires
sorted_remove-requires c = (c.requires.0, rw c.in-Remove.is at c.requires.1)

pub sorted_replace-requires : goal.sorted_replace-requires
sorted_replace-requires c = (c.requires.0, rw c.in-Replace.is at c.requires.1)

pub returns-in-Add : goal.returns-in-Add
returns-in-Add c = rw c.in-Add.is c.sorted_add.ensures

pub returns-in-Remove : goal.returns-in-Remove
returns-in-Remove c = rw c.in-Remove.is c.sorted_remove.ensures

pub returns-in-Replace : goal.returns-in-Replace
returns-in-Replace c = rw c.in-Replace.is c.sorted_replace.ensures
