use Rattle.std.proofs.Common.{◌≡◌, ◌∙◌, ◌⊎◌, Err, Result, ap, subst}
use Rattle.tee_ports.specs.Faults.{Rose}
use Rattle.folder_audit.specs.declared.fault.AuditFault.{AuditFault}
use Rattle.folder_audit.specs.declared.fault.AuditFault.TheVariants.{Refused}
use Rattle.folder_audit.specs.Audit.{AuditsFolder, folder_states}
use Rattle.run_acts.specs.declared.MountFault.{MountFault}
use Rattle.script_runner.specs.Prints.{PrintsRefusal}
use Rattle.script_runner.proofs.AuditTexts.{runs_refused}
use Rattle.script_runner.proofs.audit_run.run_audit.Goals as goal

pub returns-in-Err-Refused-clause-audits : goal.returns-in-Err-Refused-clause-audits
returns-in-Err-Refused-clause-audits g c =
    let keys = c.args.keys.now in
    let audited = c.audit_folder-lines in
    let lines = audited.result.lines.items in
    let old = folder_states g.G.StoreFile.state c.args.folder.now.items in
    let new = folder_states g.G.StoreFile.state audited.new.folder.items in
    let sink = c.print_mount_refusal.new.sink in
    let is = c.in-Err-Refused.is in
    let named : ◌≡◌ {A = AuditFault} c.in-Err-Refused.field-0 (Refused c.in-Err-Refused.fault) = c.in-Err-Refused.field-0-is in
    let refused : ◌≡◌ {A = Result (Unit {0}) AuditFault} audited.result.end (Err (Refused c.in-Err-Refused.fault)) =
    is ∙ ap (λ (fault : AuditFault). Err fault) named in
    let failed : Type 0 = Rose (g.K.Sink.faults c.args.sink.now) (g.K.Sink.faults sink) ⊎ g.K.Sink.is_full sink in
    runs_refused keys failed (g.K.Sink.held c.args.sink.now) (g.K.Sink.held sink) old new lines c.in-Err-Refused.fault
    (subst (λ (end : Result (Unit {0}) AuditFault). AuditsFolder keys old new lines end) refused audited.ensures.audit)
    c.print_mount_refusal.result
    (subst (λ (f : MountFault). PrintsRefusal failed (g.K.Sink.held c.args.sink.now) (g.K.Sink.held sink) lines f c.print_mount_refusal.result) c.without_computed_tag-told.ensures.fault
    c.print_mount_refusal.ensures.prints)
