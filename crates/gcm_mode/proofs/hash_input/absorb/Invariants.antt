use Rattle.std.proofs.Common.{ℕ, List, ◌+◌, ◌*◌, ◌/◌, ◌++◌, length}
use Rattle.gcm_mode.specs.ByteBlocks.{first_blocks}
use Rattle.ghash_field.specs.Hasher.{Holds}
use Rattle.gcm_mode.proofs.hash_input.absorb.Given as goal

abbrev pub invariant-groups : goal.invariant-groups
invariant-groups l = (h : ℕ) (xs : List ℕ) → Holds l.fn.hash h xs → Holds l.hash h (xs ++ first_blocks l.bytes (4 * l.group-index))

abbrev pub invariant-others : goal.invariant-others
invariant-others l = (h : ℕ) (xs : List ℕ) → Holds l.fn.hash h xs → Holds l.hash h (xs ++ first_blocks l.bytes (4 * (length l.bytes / 16 / 4) + l.block-index))
