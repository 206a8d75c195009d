-- `lookup::leaf_at` meets its contract: the leaf lies within the slices.
use Rattle.tree.proofs.lookup.leaf_at.Goals as goal

pub at_leaf-requires : goal.at_leaf-requires
at_leaf-requires c = rw c.requires.fits.wide c.requires.fits
