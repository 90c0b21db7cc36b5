use Rattle.std.proofs.Common.{◌∙◌, ◌<◌, length, subst, sym, ap, arith}
use Rattle.tee_types.specs.Limits.{file_count}
use Rattle.folder_audit.specs.Audit.{EndsUnder, OnlyReads, folder_states, with_directory}
use Rattle.folder_audit.proofs.Places.{put_directory, taken_directory}
use Rattle.folder_audit.proofs.folder.audit_under.Goals as goal

pub returns-clause-ends : goal.returns-clause-ends
returns-clause-ends g c =
    let state = g.G.StoreFile.state in
    let under = c.args.under.now in
    let folder = c.args.folder.now in
    let after = c.insert.new.self.items in
    let dir = c.remove-dir.result in
    let audit = c.audit_directory-dir in
    let lines = audit.new.lines.items in
    let within : 273 < length folder.items = omega (arith, folder.ok.0, c.requires.folder) in
    let taken = taken_directory folder.items c.remove-dir.new.self.items dir within c.remove-dir.ensures.value c.remove-dir.ensures.items in
    let put = put_directory audit.new.files.items after audit.result.0 c.in-Ok-insert.ensures.items in
    subst (λ l. EndsUnder under.keys under.block (folder_states state folder.items) (folder_states state l) lines audit.result.1) put
    (subst (λ l. EndsUnder under.keys under.block (folder_states state l) (folder_states state (with_directory audit.new.files.items audit.result.0)) lines audit.result.1) taken audit.ensures.ends)

pub returns-clause-rests : goal.returns-clause-rests
returns-clause-rests g c =
    let state = g.G.StoreFile.state in
    let folder = c.args.folder.now in
    let after = c.insert.new.self.items in
    let dir = c.remove-dir.result in
    let audit = c.audit_directory-dir in
    let within : 273 < length folder.items = omega (arith, folder.ok.0, c.requires.folder) in
    let taken = taken_directory folder.items c.remove-dir.new.self.items dir within c.remove-dir.ensures.value c.remove-dir.ensures.items in
    let put = put_directory audit.new.files.items after audit.result.0 c.in-Ok-insert.ensures.items in
    subst (λ l. OnlyReads (folder_states state folder.items) (folder_states state l)) put
    (subst (λ l. OnlyReads (folder_states state l) (folder_states state (with_directory audit.new.files.items audit.result.0))) taken audit.ensures.rests)

pub returns-clause-last : goal.returns-clause-last
returns-clause-last g c =
    let state = g.G.StoreFile.state in
    let folder = c.args.folder.now in
    let after = c.insert.new.self.items in
    let dir = c.remove-dir.result in
    let audit = c.audit_directory-dir in
    let within : 273 < length folder.items = omega (arith, folder.ok.0, c.requires.folder) in
    let taken = taken_directory folder.items c.remove-dir.new.self.items dir within c.remove-dir.ensures.value c.remove-dir.ensures.items in
    let put = put_directory audit.new.files.items after audit.result.0 c.in-Ok-insert.ensures.items in
    λ none.
    ap (λ l. folder_states state l none file_count) (sym put) ∙ audit.ensures.last none ∙ ap (λ l. folder_states state l none file_count) taken
