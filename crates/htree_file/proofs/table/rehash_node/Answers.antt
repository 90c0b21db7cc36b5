use Rattle.std.proofs.Common.{refl}
use Rattle.tree_paths.specs.Paths.{holds}
use Rattle.htree_file.proofs.Hashing.{hashed_among}
use Rattle.htree_file.proofs.table.rehash_node.Goals as goal

pub returns-clause-hashed : goal.returns-clause-hashed
returns-clause-hashed c = hashed_among (holds c.args.set.now) c.args.nodes.now c.args.head.now c.args.i _ c.requires.within.0 (record { iv = refl; tag = refl; flags = refl }) c.hash_in-hash.ensures
