use Rattle.std.proofs.Common.{◌++◌, ap, ◌∙◌}
use Rattle.sha2.specs.Sha256.{sha256}
use Rattle.hmac_keys.specs.Hmac.{hmac, xor_each}
use Rattle.hmac_keys.proofs.hmac.Goals as goal

pub returns : goal.returns
unfolding hmac
returns c =
    c.digest_of_two.ensures
    ∙ (λ i. sha256 (
    (c.xor_each-2.ensures ∙ ap (xor_each 0x5c) c.block_key-block.ensures) i
    ++ (c.digest_of_two-inner.ensures
    ∙ ap (λ k. sha256 (k ++ c.args.text.now)) (c.xor_each.ensures ∙ ap (xor_each 0x36) c.block_key-block.ensures)) i))
