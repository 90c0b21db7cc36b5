use Rattle.std.proofs.Common.{◌≡◌, [], rules, refl, subst, ap, ◌∙◌}
use Rattle.aes_block.specs.Cipher.{cipher}
use Rattle.ghash_field.specs.Hasher.{Holds}
use Rattle.gcm_mode.specs.CounterMode.{gctr, inc32}
use Rattle.gcm_mode.specs.Gcm.{gcm_text}
use Rattle.gcm_mode.proofs.Twice.{gcm_text-gcm_text}
use Rattle.gcm_mode.proofs.open_text.Goals as goal

pub returns-clause-tags : goal.returns-clause-tags
unfolding gcm_text
returns-clause-tags c =
    let same : c.args.tag.now ≡ c.tag_of-found.result = search rules in
    let begun = subst (λ h. Holds c.begin.new.self h []) c.hash_subkey.ensures c.begin.ensures in
    let first = c.pre_counter_block-first.ensures.block (cipher c.args.key.now) begun in (
      same ∙ c.tag_of-found.ensures c.args.iv.now (c.pre_counter_block-first.ensures.hash _ begun) first,
      c.apply_stream.ensures ∙ ap (λ b. gctr (cipher c.args.key.now) b c.args.text.now) (c.inc32.ensures ∙ ap inc32 first),
    )

pub returns-clause-undoes_seal : goal.returns-clause-undoes_seal
returns-clause-undoes_seal c = λ plain sealed tag.
    let opened = returns-clause-tags c in
    (refl, opened.1 ∙ ap (gcm_text (cipher c.args.key.now) c.args.iv.now) sealed ∙ gcm_text-gcm_text (cipher c.args.key.now) c.args.iv.now plain)
