use Rattle.std.proofs.Common.{ap, ◌∙◌}
use Rattle.aes_block.specs.Cipher.{cipher}
use Rattle.gcm_mode.specs.Gcm.{gcm_text}
use Rattle.gcm_mode.proofs.Twice.{gcm_text-gcm_text}
use Rattle.htree_file.proofs.pages.seal_page.Goals as goal

pub returns-clause-text : goal.returns-clause-text
returns-clause-text c =
    ap (gcm_text (cipher c.args.key.now) c.args.iv.now) c.seal.ensures.text ∙ gcm_text-gcm_text (cipher c.args.key.now) c.args.iv.now c.args.page.now
