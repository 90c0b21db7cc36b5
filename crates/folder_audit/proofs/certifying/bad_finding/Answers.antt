use Rattle.std.proofs.Common.{◌≡◌, ◌∙◌, ◌||◌, Bool, true, ap, refl}
use Rattle.std.proofs.lemmas.Bool.{eq-eqb}
use Rattle.tree_paths.specs.Paths.{holds}
use Rattle.folder_audit.proofs.Noted.{passing-some}
use Rattle.folder_audit.proofs.certifying.bad_finding.Goals as goal

pub returns : goal.returns
returns c =
    let k = c.args.block in
    let added : holds c.add.new.self k ≡ true = c.add.ensures k ∙ ap (λ (t : Bool). t || holds c.none-bad.result k) (eq-eqb k k refl) in
    passing-some (holds c.add.new.self) 256 k added c.if-block-lt1.false c.if-block-gt256.false
