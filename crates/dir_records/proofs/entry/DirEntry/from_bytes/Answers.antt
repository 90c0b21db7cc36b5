use Rattle.std.proofs.Common.{◌≡◌, IfSome, sym, subst, ◌∙◌}
use Rattle.dir_records.specs.Layout.{entry_bytes}
use Rattle.dir_records.specs.Form.{HasForm}
use Rattle.dir_records.proofs.Reading.{passes, written-entry_of}
use Rattle.dir_records.proofs.entry.DirEntry.from_bytes.Goals as goal

pub read-requires : goal.read-requires
read-requires c = (passes c.args.bytes.now (sym c.first_fault.ensures ∙ c.in-None.is)).count

pub returns-in-None-clause-written : goal.returns-in-None-clause-written
returns-in-None-clause-written c =
    subst (λ r. IfSome r (λ e. HasForm e × (entry_bytes e ≡ c.args.bytes.now))) (sym c.read.ensures)
    (written-entry_of c.args.bytes.now c.told-bytes c.fits-bytes (sym c.first_fault.ensures ∙ c.in-None.is))
