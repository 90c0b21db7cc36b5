use Rattle.std.proofs.Common.{◌≡◌, ◌∙◌, ◌⊎◌, List, ℕ, Err, ap, subst, sym}
use Rattle.htree_file.specs.Standing.{Told}
use Rattle.hmac_keys.specs.KeyTable.{dir_tsk}
use Rattle.crash_core.specs.Directory.{directory_of}
use Rattle.crash_core.specs.DeviceKeys.{directory_key}
use Rattle.dir_file.specs.Loading.{IsOutsideDir}
use Rattle.store_commit.specs.DirectoryLooks.{HasNoDirectory}
use Rattle.store_commit.proofs.LookedDirectories.{looked_refused}
use Rattle.store_commit.proofs.sync.check_directory.Goals as goal

pub returns-in-Err-clause-refused : goal.returns-in-Err-clause-refused
returns-in-Err-clause-refused g c =
    let keys = c.args.keys.now in
    let b = c.in-Err.field-0 in
    let old = g.F.StoreFile.state c.args.file in
    let new = g.F.StoreFile.state b.file in
    let tsk_is : c.dir_tsk-tsk.result ≡ directory_key keys = c.dir_tsk-tsk.ensures ∙ ap dir_tsk c.ssk.ensures in
    subst (HasNoDirectory keys old new c.args.root) (sym c.directory_answer.ensures)
    (looked_refused keys old new c.args.root b.fault
    (subst (λ (t : List ℕ). IsOutsideDir b.fault ⊎ (Told old new → directory_of t new.reads c.args.root ≡ Err b.fault)) tsk_is c.in-Err.ensures.fault) c.in-Err.ensures.cause)
