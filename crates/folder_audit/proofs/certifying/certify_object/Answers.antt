use Rattle.std.proofs.Common.{◌∙◌, Ok, ap, subst, sym}
use Rattle.disk_model.proofs.Goings.{rests_then}
use Rattle.htree_file.proofs.Causes.{passed_then}
use Rattle.folder_audit.specs.Objects.{CertifyAnswer, IsWhole}
use Rattle.folder_audit.proofs.Found.{checked_found, load_found, not_eight}
use Rattle.folder_audit.proofs.certifying.certify_object.Goals as goal

pub returns-then-head-ne8-clause-answer : goal.returns-then-head-ne8-clause-answer
returns-then-head-ne8-clause-answer g c =
    let under = c.args.under.now in
    let dir = c.args.dir.now in
    let sound = g.met.G.StoreFile.sound in
    not_eight under.keys under.block dir.tree c.args.index c.args.entry.now c.requires.form (g.G.StoreFile.state dir.file) (g.G.StoreFile.state c.args.file)
    (sound dir.file).reads (sound c.args.file).reads (λ is. c.if-head-ne8.true (ap (λ h. h.greatest) c.head.ensures ∙ is))

pub returns-in-Err-clause-answer : goal.returns-in-Err-clause-answer
returns-in-Err-clause-answer g c =
    let under = c.args.under.now in
    let dir = c.args.dir.now in
    let e = c.args.entry.now in
    let s = g.G.StoreFile.state dir.file in
    let x = g.G.StoreFile.state c.args.file in
    let y = g.G.StoreFile.state c.in-Err.field-0.file in
    subst (CertifyAnswer under.keys under.block dir.tree c.args.index e s s x y) (sym c.tree_answer.ensures)
    (load_found under.keys under.block dir.tree c.args.index e (IsWhole under.keys e) s x y c.in-Err.field-0.fault c.in-Err.ensures.fault c.in-Err.ensures.cause)

pub returns-in-Ok-check_certificate-clause-answer :
    goal.returns-in-Ok-check_certificate-clause-answer
returns-in-Ok-check_certificate-clause-answer g c =
    let state = g.G.StoreFile.state in
    let sound = g.met.G.StoreFile.sound in
    let under = c.args.under.now in
    let dir = c.args.dir.now in
    let e = c.args.entry.now in
    let made = c.make_certificate-made in
    let object = c.in-Ok.object in
    let next = made.new.dir.file in
    let last = made.new.object.file in
    let a = state dir.file in
    let b = state next in
    let x = state c.args.file in
    let y = state object.file in
    let z = state last in
    let finding = c.in-Ok-check_certificate.finding in
    let both = c.in-Ok-made.ensures.passed in
    subst (λ f. CertifyAnswer under.keys under.block dir.tree c.args.index e a b x (state f) (Ok finding)) (sym c.into_file-file.ensures)
    (checked_found under.keys under.block dir.tree c.args.index e object.tree a b x y z c.in-Ok-made.certificate.items finding c.requires.form (sound next).reads (sound last).reads c.requires.low
    c.in-Ok.ensures.rests made.ensures.rests c.in-Ok.ensures.loaded both.0 (passed_then x y z c.in-Ok.ensures.passed both.1) c.in-Ok-made.ensures.ok c.in-Ok-check_certificate.ensures)

pub returns-in-Ok-check_certificate-clause-rests :
    goal.returns-in-Ok-check_certificate-clause-rests
returns-in-Ok-check_certificate-clause-rests g c = rw c.into_file-file.ensures (rests_then _ _ _ c.in-Ok.ensures.rests c.make_certificate-made.ensures.rests)

pub returns-in-Err-check_certificate-clause-rests :
    goal.returns-in-Err-check_certificate-clause-rests
returns-in-Err-check_certificate-clause-rests g c = rw c.into_file-file.ensures (rests_then _ _ _ c.in-Ok.ensures.rests c.make_certificate-made.ensures.rests)

pub returns-in-Err-made-clause-rests : goal.returns-in-Err-made-clause-rests
returns-in-Err-made-clause-rests g c = rw c.into_file-file.ensures (rests_then _ _ _ c.in-Ok.ensures.rests c.make_certificate-made.ensures.rests)
