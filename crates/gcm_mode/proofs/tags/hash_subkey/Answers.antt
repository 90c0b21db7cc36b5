use Rattle.std.proofs.Common.{ap, ◌∙◌, arith}
use Rattle.std.specs.Int.{w128, from_be_bytes}
use Rattle.gcm_mode.specs.Gcm.{hash_subkey}
use Rattle.gcm_mode.proofs.tags.hash_subkey.Goals as goal

pub returns : goal.returns
unfolding hash_subkey
returns c = c.from_be_bytes.ensures ∙ ap (from_be_bytes w128) (c.encrypt_eight.ensures 0 (omega arith))
