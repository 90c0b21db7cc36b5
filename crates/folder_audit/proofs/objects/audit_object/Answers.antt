use Rattle.std.proofs.Common.{◌≡◌, ◌⊎◌, ◌∙◌, List, ℕ, Ok, ap, subst, sym}
use Rattle.disk_model.proofs.Goings.{rests_then}
use Rattle.hmac_keys.specs.KeyTable.{ssk, tsk}
use Rattle.htree_file.specs.Standing.{Told}
use Rattle.htree_file.proofs.Causes.{passed_then}
use Rattle.crash_core.specs.DeviceKeys.{object_key}
use Rattle.crash_core.specs.MountedObject.{mounted_object}
use Rattle.store_model.specs.Object.{Damaged, Sound}
use Rattle.object_file.specs.Held.{held_in}
use Rattle.object_file.specs.Loading.{IsOutsideObject}
use Rattle.folder_audit.specs.declared.finding.Finding.TheVariants.{Bad}
use Rattle.folder_audit.specs.Objects.{AuditAnswer, CertifyAnswer}
use Rattle.folder_audit.proofs.Found.{bad_found, object_found, whole_found, whole_nodes}
use Rattle.folder_audit.proofs.objects.audit_object.Goals as goal

pub returns-in-Err-clause-answer : goal.returns-in-Err-clause-answer
returns-in-Err-clause-answer g c =
    let state = g.G.StoreFile.state in
    let under = c.args.under.now in
    let dir = c.args.dir.now in
    let e = c.args.entry.now in
    let fault = c.in-Err.field-0.fault in
    let s = state dir.file in
    let x = state c.args.file in
    let y = state c.in-Err.field-0.file in
    let key : c.tsk-wrap.result ≡ object_key under.keys e.app = c.tsk-wrap.ensures ∙ ap (λ k. tsk k c.bytes.result) c.ssk.ensures ∙ ap (tsk (ssk under.keys.huk under.keys.chip)) c.bytes.ensures in
    subst (AuditAnswer under.keys under.block dir.tree c.args.index e s s x y) (sym c.object_answer.ensures)
    (object_found under.keys under.block dir.tree c.args.index e s x y fault
    (subst (λ (k : List ℕ). IsOutsideObject fault ⊎ (Told x y → mounted_object k y.reads e ≡ Damaged e.size)) key c.in-Err.ensures.damaged) c.in-Err.ensures.cause)

pub returns-then-count-eq0-clause-answer : goal.returns-then-count-eq0-clause-answer
returns-then-count-eq0-clause-answer g c =
    let state = g.G.StoreFile.state in
    let under = c.args.under.now in
    let dir = c.args.dir.now in
    let e = c.args.entry.now in
    let o = c.in-Ok.object in
    let last = c.find_bad-found.new.object.tree.file in
    let after = c.certify_object.result in
    let a = state dir.file in
    let b = state c.certify_object.new.dir.file in
    let x = state c.args.file in
    let y = state o.tree.file in
    let z = state last in
    let w = state after.0 in
    let key : c.tsk-wrap.result ≡ object_key under.keys e.app = c.tsk-wrap.ensures ∙ ap (λ k. tsk k c.bytes.result) c.ssk.ensures ∙ ap (tsk (ssk under.keys.huk under.keys.chip)) c.bytes.ensures in
    let nodes = whole_nodes o.tree.root o.tree.tree e.size c.in-Ok.ensures.verified c.in-Ok.ensures.size c.requires.form.size in
    whole_found under.keys under.block dir.tree c.args.index e x y z o c.in-Ok-found.bad c.in-Ok.ensures.rests c.find_bad-found.ensures.rests nodes.0 nodes.1
    (subst (λ (k : List ℕ). Told x y → mounted_object k y.reads e ≡ Sound (held_in o y.reads)) key c.in-Ok.ensures.object) c.in-Ok-found.ensures.finds
    a b w after.1 (passed_then x y z c.in-Ok.ensures.passed c.in-Ok-found.ensures.passed) (rw (sym c.into_file-file.ensures) c.certify_object.ensures.rests) (sym c.count.ensures ∙ c.if-count-eq0.true)
    (subst (λ f. CertifyAnswer under.keys under.block dir.tree c.args.index e a b (state f) w after.1) c.into_file-file.ensures c.certify_object.ensures.answer)

pub returns-then-count-eq0-clause-rests : goal.returns-then-count-eq0-clause-rests
returns-then-count-eq0-clause-rests g c =
    let state = g.G.StoreFile.state in
    let x = state c.args.file in
    let y = state c.in-Ok.object.tree.file in
    let z = state c.find_bad-found.new.object.tree.file in
    let w = state c.certify_object.result.0 in
    rests_then x z w (rests_then x y z c.in-Ok.ensures.rests c.find_bad-found.ensures.rests) (rw (sym c.into_file-file.ensures) c.certify_object.ensures.rests)

pub returns-else-count-eq0-clause-answer : goal.returns-else-count-eq0-clause-answer
returns-else-count-eq0-clause-answer g c =
    let state = g.G.StoreFile.state in
    let under = c.args.under.now in
    let dir = c.args.dir.now in
    let e = c.args.entry.now in
    let o = c.in-Ok.object in
    let last = c.find_bad-found.new.object.tree.file in
    let s = state dir.file in
    let x = state c.args.file in
    let y = state o.tree.file in
    let z = state last in
    let key : c.tsk-wrap.result ≡ object_key under.keys e.app = c.tsk-wrap.ensures ∙ ap (λ k. tsk k c.bytes.result) c.ssk.ensures ∙ ap (tsk (ssk under.keys.huk under.keys.chip)) c.bytes.ensures in
    let nodes = whole_nodes o.tree.root o.tree.tree e.size c.in-Ok.ensures.verified c.in-Ok.ensures.size c.requires.form.size in
    subst (λ f. AuditAnswer under.keys under.block dir.tree c.args.index e s s x (state f) (Ok (Bad c.in-Ok-found.bad))) (sym c.into_file-file.ensures)
    (bad_found under.keys under.block dir.tree c.args.index e x y z o c.in-Ok-found.bad c.in-Ok.ensures.rests c.find_bad-found.ensures.rests nodes.0 nodes.1
    (subst (λ (k : List ℕ). Told x y → mounted_object k y.reads e ≡ Sound (held_in o y.reads)) key c.in-Ok.ensures.object) c.in-Ok-found.ensures.finds
    s (passed_then x y z c.in-Ok.ensures.passed c.in-Ok-found.ensures.passed) (λ none. c.if-count-eq0.false (c.count.ensures ∙ none)))

pub returns-else-count-eq0-clause-rests : goal.returns-else-count-eq0-clause-rests
returns-else-count-eq0-clause-rests g c = rw c.into_file-file.ensures (rests_then _ _ _ c.in-Ok.ensures.rests c.find_bad-found.ensures.rests)

pub returns-in-Err-found-clause-rests : goal.returns-in-Err-found-clause-rests
returns-in-Err-found-clause-rests g c = rw c.into_file-file.ensures (rests_then _ _ _ c.in-Ok.ensures.rests c.find_bad-found.ensures.rests)
