use Rattle.std.proofs.Common.{subst}
use Rattle.hmac_keys.specs.declared.Keys.{Keys}
use Rattle.folder_audit.specs.Audit.{EndsUnder, folder_states}
use Rattle.folder_audit.proofs.folder.audit_folder_under.Goals as goal

pub returns-clause-ends : goal.returns-clause-ends
returns-clause-ends g c =
    let state = g.G.StoreFile.state in
    let audit = c.audit_under-end in
    subst (λ (keys : Keys). EndsUnder keys c.args.block.now (folder_states state c.args.folder.now.items) (folder_states state audit.new.folder.items) audit.new.lines.items audit.result)
    c.copy.ensures audit.ensures.ends
