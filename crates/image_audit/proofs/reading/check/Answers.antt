use Rattle.std.proofs.Common.{inr, Result, sym, subst}
use Rattle.image_audit.specs.declared.fault.CertFault.{CertFault}
use Rattle.image_audit.specs.declared.fault.Listed.{Listed}
use Rattle.image_audit.specs.Contents.{Answers}
use Rattle.image_audit.proofs.Entries.{certificate_entry_err, certificate_is}
use Rattle.image_audit.proofs.reading.check.Goals as goal

pub returns-in-Ok-read_entry : goal.returns-in-Ok-read_entry
returns-in-Ok-read_entry c =
    subst (λ (wanted : Result Listed CertFault). Answers wanted c.list_object.result)
    (sym (certificate_is c.args.keys.now c.args.block.now c.args.certificate.now c.in-Ok.root c.in-Ok.ensures c.in-Ok-read_entry.entry c.in-Ok-read_entry.ensures.answer)) c.list_object.ensures

pub returns-in-Err-read_entry : goal.returns-in-Err-read_entry
returns-in-Err-read_entry c =
    inr (sym (certificate_entry_err c.args.keys.now c.args.block.now c.args.certificate.now c.in-Ok.root c.in-Ok.ensures c.in-Err-read_entry.fault c.in-Err-read_entry.ensures.answer))
