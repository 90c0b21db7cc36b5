use Rattle.std.proofs.Common.{[], subst, ap, ◌∙◌}
use Rattle.aes_block.specs.Cipher.{cipher}
use Rattle.ghash_field.specs.Hasher.{Holds}
use Rattle.gcm_mode.specs.CounterMode.{gctr, inc32}
use Rattle.gcm_mode.specs.Gcm.{gcm_text}
use Rattle.gcm_mode.proofs.seal.Goals as goal

pub returns-clause-text : goal.returns-clause-text
unfolding gcm_text
returns-clause-text c =
    let begun = subst (λ h. Holds c.begin.new.self h []) c.hash_subkey.ensures c.begin.ensures in
    c.apply_stream.ensures ∙ ap (λ b. gctr (cipher c.args.key.now) b c.args.text.now) (c.inc32.ensures ∙ ap inc32 (c.pre_counter_block-first.ensures.block (cipher c.args.key.now) begun))

pub returns-clause-tag : goal.returns-clause-tag
returns-clause-tag c =
    let begun = subst (λ h. Holds c.begin.new.self h []) c.hash_subkey.ensures c.begin.ensures in
    c.tag_of.ensures c.args.iv.now (c.pre_counter_block-first.ensures.hash _ begun) (c.pre_counter_block-first.ensures.block (cipher c.args.key.now) begun)
