-- Enciphered twice it is the same text.
use Rattle.std.proofs.Common.{◌∙◌, ap}
use Rattle.aes_block.specs.Cipher.{cipher}
use Rattle.gcm_mode.specs.Gcm.{gcm_tag, gcm_text}
use Rattle.gcm_mode.proofs.Twice.{gcm_text-gcm_text}
use Rattle.known_answers.proofs.answers.computed_tag.Goals as goal

pub returns : goal.returns
returns c =
    let e = cipher c.args.key.now in
    let iv = c.args.iv.now in
    let aad = c.args.aad.now in
    let text = c.args.text.now in
    c.seal.ensures.tag ∙ ap (gcm_tag e iv aad) (c.seal.ensures.text ∙ ap (gcm_text e iv) c.seal-tag.ensures.text ∙ gcm_text-gcm_text e iv text)
