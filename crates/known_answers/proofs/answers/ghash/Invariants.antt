use Rattle.std.proofs.Common.{map, take}
use Rattle.std.specs.Int.{w128, from_be_bytes}
use Rattle.ghash_field.specs.Hasher.{Holds}
use Rattle.known_answers.proofs.answers.ghash.Given as goal

abbrev pub invariant-loop-block : goal.invariant-loop-block
invariant-loop-block l = Holds l.hash (from_be_bytes w128 l.subkey) (map (from_be_bytes w128) (take l.block-index l.blocks))
