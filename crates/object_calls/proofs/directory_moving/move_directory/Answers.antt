use Rattle.std.proofs.Common.{◌∙◌, ap}
use Rattle.object_calls.proofs.DirectoryFiles.{halted_goes_on, halted_migrates, halted_refused, halted_short, moved_current, moved_goes_on, moved_migrates, moved_moves, moved_passed, moved_writes}
use Rattle.object_calls.proofs.directory_moving.move_directory.Goals as goal

pub returns-in-Ok-clause-migrates : goal.returns-in-Ok-clause-migrates
returns-in-Ok-clause-migrates g c =
    let state = g.F.StoreFile.state in
    let port = g.R.RpmbPort.state in
    let took = c.take_apart-old in
    let left = c.put_together-files in
    moved_migrates state g.met.F.StoreFile.sound c.args.bench.files.items left.result.items took.result.objects.items took.result.spare took.result.dir _ _ took.ensures.files left.ensures.files
    c.args.keys.now c.new-host.result.key (port c.args.bench.card) (port c.into_port-card.result) (port c.new-host.result.port) (port c.move_files.new.host.port)
    (ap (λ h. h.key) c.new-host.ensures ∙ c.rpmb_key.ensures) (ap (λ h. port h.port) c.new-host.ensures) (ap port c.into_port-card.ensures) c.in-Ok.ensures.moves

pub returns-in-Ok-clause-moves : goal.returns-in-Ok-clause-moves
returns-in-Ok-clause-moves g c =
    let state = g.F.StoreFile.state in
    let port = g.R.RpmbPort.state in
    let took = c.take_apart-old in
    let left = c.put_together-files in
    moved_moves state g.met.F.StoreFile.sound c.args.bench.files.items left.result.items took.result.objects.items took.result.spare took.result.dir _ _ took.ensures.files left.ensures.files
    c.args.keys.now c.new-host.result.key (port c.args.bench.card) (port c.into_port-card.result) (port c.new-host.result.port) (port c.move_files.new.host.port)
    (ap (λ h. h.key) c.new-host.ensures ∙ c.rpmb_key.ensures) (ap (λ h. port h.port) c.new-host.ensures) (ap port c.into_port-card.ensures) c.in-Ok.ensures.moves

pub returns-in-Ok-clause-current : goal.returns-in-Ok-clause-current
returns-in-Ok-clause-current g c =
    let state = g.F.StoreFile.state in
    let port = g.R.RpmbPort.state in
    let took = c.take_apart-old in
    let left = c.put_together-files in
    moved_current state g.met.F.StoreFile.sound c.args.bench.files.items left.result.items took.result.objects.items took.result.spare took.result.dir _ _ took.ensures.files left.ensures.files
    c.args.keys.now c.new-host.result.key (port c.args.bench.card) (port c.into_port-card.result) (port c.new-host.result.port) (port c.move_files.new.host.port)
    (ap (λ h. h.key) c.new-host.ensures ∙ c.rpmb_key.ensures) (ap (λ h. port h.port) c.new-host.ensures) (ap port c.into_port-card.ensures) c.in-Ok.ensures.moves

pub returns-in-Ok-clause-writes : goal.returns-in-Ok-clause-writes
returns-in-Ok-clause-writes g c =
    let state = g.F.StoreFile.state in
    let port = g.R.RpmbPort.state in
    let took = c.take_apart-old in
    let left = c.put_together-files in
    moved_writes state g.met.F.StoreFile.sound c.args.bench.files.items left.result.items took.result.objects.items took.result.spare took.result.dir _ _ took.ensures.files left.ensures.files
    c.args.keys.now c.new-host.result.key (port c.args.bench.card) (port c.into_port-card.result) (port c.new-host.result.port) (port c.move_files.new.host.port)
    (ap (λ h. h.key) c.new-host.ensures ∙ c.rpmb_key.ensures) (ap (λ h. port h.port) c.new-host.ensures) (ap port c.into_port-card.ensures) c.in-Ok.ensures.moves

pub returns-in-Ok-clause-goes_on : goal.returns-in-Ok-clause-goes_on
returns-in-Ok-clause-goes_on g c =
    let state = g.F.StoreFile.state in
    let port = g.R.RpmbPort.state in
    let took = c.take_apart-old in
    let left = c.put_together-files in
    moved_goes_on state g.met.F.StoreFile.sound c.args.bench.files.items left.result.items took.result.objects.items took.result.spare took.result.dir _ _ took.ensures.files left.ensures.files
    c.args.keys.now c.new-host.result.key (port c.args.bench.card) (port c.into_port-card.result) (port c.new-host.result.port) (port c.move_files.new.host.port)
    (ap (λ h. h.key) c.new-host.ensures ∙ c.rpmb_key.ensures) (ap (λ h. port h.port) c.new-host.ensures) (ap port c.into_port-card.ensures) c.in-Ok.ensures.moves

pub returns-in-Ok-clause-passed : goal.returns-in-Ok-clause-passed
returns-in-Ok-clause-passed g c =
    let state = g.F.StoreFile.state in
    let port = g.R.RpmbPort.state in
    let took = c.take_apart-old in
    let left = c.put_together-files in
    moved_passed state g.met.F.StoreFile.sound c.args.bench.files.items left.result.items took.result.objects.items took.result.spare took.result.dir _ _ took.ensures.files left.ensures.files
    c.args.keys.now c.new-host.result.key (port c.args.bench.card) (port c.into_port-card.result) (port c.new-host.result.port) (port c.move_files.new.host.port)
    (ap (λ h. h.key) c.new-host.ensures ∙ c.rpmb_key.ensures) (ap (λ h. port h.port) c.new-host.ensures) (ap port c.into_port-card.ensures) c.in-Ok.ensures.moves

pub returns-in-Err-clause-migrates_err : goal.returns-in-Err-clause-migrates_err
returns-in-Err-clause-migrates_err g c =
    let state = g.F.StoreFile.state in
    let port = g.R.RpmbPort.state in
    let took = c.take_apart-old in
    let left = c.put_together-files-in-Err in
    halted_migrates state g.met.F.StoreFile.sound c.args.bench.files.items left.result.items took.result.objects.items took.result.spare took.result.dir _ _ took.ensures.files left.ensures.files
    c.args.keys.now c.new-host.result.key (port c.args.bench.card) (port c.into_port-card-in-Err.result) (port c.new-host.result.port) (port c.move_files.new.host.port)
    (ap (λ h. h.key) c.new-host.ensures ∙ c.rpmb_key.ensures) (ap (λ h. port h.port) c.new-host.ensures) (ap port c.into_port-card-in-Err.ensures) c.in-Err.ensures.stops

pub returns-in-Err-clause-refused : goal.returns-in-Err-clause-refused
returns-in-Err-clause-refused g c =
    let state = g.F.StoreFile.state in
    let port = g.R.RpmbPort.state in
    let took = c.take_apart-old in
    let left = c.put_together-files-in-Err in
    halted_refused state g.met.F.StoreFile.sound c.args.bench.files.items left.result.items took.result.objects.items took.result.spare took.result.dir _ _ took.ensures.files left.ensures.files
    c.args.keys.now c.new-host.result.key (port c.args.bench.card) (port c.into_port-card-in-Err.result) (port c.new-host.result.port) (port c.move_files.new.host.port)
    (ap (λ h. h.key) c.new-host.ensures ∙ c.rpmb_key.ensures) (ap (λ h. port h.port) c.new-host.ensures) (ap port c.into_port-card-in-Err.ensures) c.in-Err.ensures.stops

pub returns-in-Err-clause-goes_on_err : goal.returns-in-Err-clause-goes_on_err
returns-in-Err-clause-goes_on_err g c =
    let state = g.F.StoreFile.state in
    let port = g.R.RpmbPort.state in
    let took = c.take_apart-old in
    let left = c.put_together-files-in-Err in
    halted_goes_on state g.met.F.StoreFile.sound c.args.bench.files.items left.result.items took.result.objects.items took.result.spare took.result.dir _ _ took.ensures.files left.ensures.files
    c.args.keys.now c.new-host.result.key (port c.args.bench.card) (port c.into_port-card-in-Err.result) (port c.new-host.result.port) (port c.move_files.new.host.port)
    (ap (λ h. h.key) c.new-host.ensures ∙ c.rpmb_key.ensures) (ap (λ h. port h.port) c.new-host.ensures) (ap port c.into_port-card-in-Err.ensures) c.in-Err.ensures.stops

pub returns-in-Err-clause-short : goal.returns-in-Err-clause-short
returns-in-Err-clause-short g c =
    let state = g.F.StoreFile.state in
    let port = g.R.RpmbPort.state in
    let took = c.take_apart-old in
    let left = c.put_together-files-in-Err in
    halted_short state g.met.F.StoreFile.sound c.args.bench.files.items left.result.items took.result.objects.items took.result.spare took.result.dir _ _ took.ensures.files left.ensures.files
    c.args.keys.now c.new-host.result.key (port c.args.bench.card) (port c.into_port-card-in-Err.result) (port c.new-host.result.port) (port c.move_files.new.host.port)
    (ap (λ h. h.key) c.new-host.ensures ∙ c.rpmb_key.ensures) (ap (λ h. port h.port) c.new-host.ensures) (ap port c.into_port-card-in-Err.ensures) c.in-Err.ensures.stops
