use Rattle.std.proofs.Common.{◌∙◌, Ok, Err, sym, ap}
use Rattle.image_audit.specs.Checking.{entry_in}
use Rattle.image_audit.proofs.Entries.{entry_front_err, entry_is, entry_page_err, index_is}
use Rattle.image_audit.proofs.reading.read_entry.Goals as goal

pub returns-in-Err-clause-answer : goal.returns-in-Err-clause-answer
returns-in-Err-clause-answer c = sym (entry_front_err c.args.keys.now c.args.root c.args.certificate.now c.in-Err.fault c.in-Err.ensures.answer)

pub directory_page-requires-clause-index : goal.directory_page-requires-clause-index
directory_page-requires-clause-index c = index_is c.args.keys.now c.args.root c.args.certificate.now c.in-Ok.index c.in-Ok.ensures.answer

pub returns-in-Err-directory_page-clause-answer : goal.returns-in-Err-directory_page-clause-answer
returns-in-Err-directory_page-clause-answer c =
    sym (entry_page_err c.args.keys.now c.args.root c.args.certificate.now c.in-Ok.index c.in-Ok.ensures.answer c.in-Err-directory_page.fault c.in-Err-directory_page.ensures)

pub returns-in-Ok-entry_in-clause-answer : goal.returns-in-Ok-entry_in-clause-answer
returns-in-Ok-entry_in-clause-answer c =
    sym (entry_is c.args.keys.now c.args.root c.args.certificate.now c.in-Ok.index c.in-Ok.ensures.answer c.directory_page.new.page (Ok c.in-Ok-entry_in.entry) c.in-Ok-directory_page.ensures
    (ap entry_in (sym c.field.ensures) ∙ sym c.in-Ok-entry_in.ensures.answer))

pub returns-in-Err-entry_in-clause-answer : goal.returns-in-Err-entry_in-clause-answer
returns-in-Err-entry_in-clause-answer c =
    sym (entry_is c.args.keys.now c.args.root c.args.certificate.now c.in-Ok.index c.in-Ok.ensures.answer c.directory_page.new.page (Err c.in-Err-entry_in.fault) c.in-Ok-directory_page.ensures
    (ap entry_in (sym c.field.ensures) ∙ sym c.in-Err-entry_in.ensures.answer))
