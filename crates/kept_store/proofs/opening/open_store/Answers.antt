use Rattle.std.proofs.Common.{◌∙◌, ap, sym, subst}
use Rattle.disk_model.specs.State.{FileState}
use Rattle.disk_model.specs.Calls.{GoesOn}
use Rattle.disk_model.proofs.Goings.{goes_on_then}
use Rattle.hmac_keys.specs.KeyTable.{rpmb_key}
use Rattle.tee_types.specs.Limits.{directory_file}
use Rattle.object_calls.specs.OpeningFiles.{files_of}
use Rattle.object_calls.proofs.Files.{directory_here}
use Rattle.kept_store.proofs.Opened.{kept_mounted}
use Rattle.kept_store.proofs.Resting.{empty_alone, empty_made}
use Rattle.object_calls.specs.declared.bench.Bench.{Bench}
use Rattle.kept_store.specs.Kept.{FindsBlank, StaysUnmade}
use Rattle.kept_store.proofs.opening.open_store.Goals as goal

pub returns-in-Ok-mount-clause-keeps : goal.returns-in-Ok-mount-clause-keeps
returns-in-Ok-mount-clause-keeps g c =
    kept_mounted g.F.StoreFile.state c.args.keys.now c.in-Ok-mount.opening (rpmb_key c.args.keys.now.huk) c.args.devices.files.items c.in-Ok-format_new.bench.files.items
    (g.R.RpmbPort.state c.args.devices.card) (g.R.RpmbPort.state c.in-Ok-format_new.bench.card)
    (λ card has named. let found = c.in-Ok.ensures.kept card has named in let same = c.in-Ok-format_new.ensures.keeps found.0 in
    (ap (λ d. d.files.items) same ∙ ap (λ v. v.items) found.1, ap (λ d. (g.R.RpmbPort.state d.card).card) same ∙ c.in-Ok.ensures.rests.card))
    c.in-Ok-mount.ensures.mounted

pub returns-in-Ok-mount-clause-made : goal.returns-in-Ok-mount-clause-made
returns-in-Ok-mount-clause-made g c =
    let state = g.F.StoreFile.state in
    let o = c.in-Ok-mount.opening in
    let old = files_of state c.args.devices.files.items directory_file in
    let mid = files_of state c.in-Ok.found.devices.files.items directory_file in
    let formed = files_of state c.in-Ok-format_new.bench.files.items directory_file in
    empty_made c.in-Ok.found.is_new (g.R.RpmbPort.state c.args.devices.card) (rpmb_key c.args.keys.now.huk) old mid _ c.in-Ok.ensures.named c.in-Ok.ensures.empty
    (subst (λ (s : FileState). GoesOn mid s) (sym (directory_here state o.spare o.gate.dir.file o.files))
    (goes_on_then mid formed (state o.gate.dir.file) c.in-Ok-format_new.ensures.goes_on c.in-Ok-mount.ensures.gate.devices.keeps.goes_on))

pub returns-in-Err-format_new-clause-refused : goal.returns-in-Err-format_new-clause-refused
returns-in-Err-format_new-clause-refused g c =
    let state = g.F.StoreFile.state in
    let old = files_of state c.args.devices.files.items directory_file in
    let mid = files_of state c.in-Ok.found.devices.files.items directory_file in
    let port = g.R.RpmbPort.state c.args.devices.card in
    let key = rpmb_key c.args.keys.now.huk in
    let left = files_of state c.in-Err-format_new.halted.bench.files.items directory_file in
    subst (λ (b : Bench g.row.F.Denot g.row.R.Denot). FindsBlank port key (StaysUnmade state g.R.RpmbPort.state c.args.devices b)) (sym c.given_up.ensures.devices)
    (empty_alone port key old left (empty_made c.in-Ok.found.is_new port key old mid left c.in-Ok.ensures.named c.in-Ok.ensures.empty c.in-Err-format_new.ensures.goes_on_err))

pub returns-in-Err-mount-clause-refused : goal.returns-in-Err-mount-clause-refused
returns-in-Err-mount-clause-refused g c =
    let state = g.F.StoreFile.state in
    let old = files_of state c.args.devices.files.items directory_file in
    let mid = files_of state c.in-Ok.found.devices.files.items directory_file in
    let formed = files_of state c.in-Ok-format_new.bench.files.items directory_file in
    let port = g.R.RpmbPort.state c.args.devices.card in
    let key = rpmb_key c.args.keys.now.huk in
    let left = files_of state c.in-Err-mount.halted.bench.files.items directory_file in
    subst (λ (b : Bench g.row.F.Denot g.row.R.Denot). FindsBlank port key (StaysUnmade state g.R.RpmbPort.state c.args.devices b)) (sym c.given_up-in-Err-mount.ensures.devices)
    (empty_alone port key old left (empty_made c.in-Ok.found.is_new port key old mid left c.in-Ok.ensures.named c.in-Ok.ensures.empty
    (goes_on_then mid formed left c.in-Ok-format_new.ensures.goes_on c.in-Err-mount.ensures.leaves.keeps.goes_on)))
