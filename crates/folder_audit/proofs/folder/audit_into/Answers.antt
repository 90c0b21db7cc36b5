use Rattle.std.proofs.Common.{◌∙◌, ◌<◌, length, set, Err, inl, inr, subst, sym, arith}
use Rattle.disk_model.specs.State.{FileState}
use Rattle.tee_types.specs.Limits.{file_count}
use Rattle.hmac_keys.specs.declared.Keys.{Keys}
use Rattle.folder_audit.specs.Audit.{AuditsFolder, EndsUnder, folder_states}
use Rattle.folder_audit.specs.Reading.{IsBlockOf}
use Rattle.folder_audit.proofs.Opened.{ends_from}
use Rattle.folder_audit.proofs.Places.{one_failed, one_passed, one_rest, touches_set}
use Rattle.folder_audit.proofs.Stepping.{rests_on}
use Rattle.folder_audit.proofs.folder.audit_into.Goals as goal

pub returns-in-Err-clause-audit : goal.returns-in-Err-clause-audit
returns-in-Err-clause-audit g c =
    let state = g.G.StoreFile.state in
    let folder = c.args.folder.now in
    let file = c.index_mut.result.now in
    let next = c.read_block.new.file in
    let old = folder_states state folder.items in
    let new = folder_states state (set folder.items file_count next) in
    let within : file_count < length folder.items = omega (arith, folder.ok.0, c.requires.folder) in
    let one = touches_set state folder.items file_count file next within c.index_mut.ensures.value in
    subst (λ fault. AuditsFolder c.args.keys.now old new c.args.lines.now.items {A = Unit {0}} (Err fault)) (sym c.failed_at.ensures)
    (record {
      rests = one_rest old new file_count (state file) (state next) one c.read_block.ensures.rests;
      ends = inr (c.requires.empty, one_failed old new file_count (state file) (state next) one c.in-Err.failed.count c.in-Err.ensures.failed);
    })

pub returns-clause-audit : goal.returns-clause-audit
returns-clause-audit g c =
    let state = g.G.StoreFile.state in
    let folder = c.args.folder.now in
    let file = c.index_mut.result.now in
    let next = c.read_block.new.file in
    let audit = c.audit_under in
    let old = folder_states state folder.items in
    let mid = folder_states state (set folder.items file_count next) in
    let new = folder_states state audit.new.folder.items in
    let within : file_count < length folder.items = omega (arith, folder.ok.0, c.requires.folder) in
    let one = touches_set state folder.items file_count file next within c.index_mut.ensures.value in
    let first = one_rest old mid file_count (state file) (state next) one c.read_block.ensures.rests in
    record {
      rests = rests_on old mid new first audit.ensures.rests;
      ends = inl (record {
        block = c.in-Ok.block;
        read = λ none. subst (λ (s : FileState). IsBlockOf s c.in-Ok.block) (sym (audit.ensures.last none ∙ one.new_is none)) c.in-Ok.ensures.block;
        holds = ends_from c.args.keys.now c.in-Ok.block old mid new first audit.ensures.rests (one_passed old mid file_count (state file) (state next) one c.in-Ok.ensures.passed) audit.new.lines.items audit.result
            (subst (λ (keys : Keys). EndsUnder keys c.in-Ok.block mid new audit.new.lines.items audit.result) c.copy.ensures audit.ensures.ends);
      });
    }
