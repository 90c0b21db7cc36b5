use Rattle.std.proofs.Common.{◌-◌, Ok, Err, get_or, refl, ap, arith}
use Rattle.object_calls.proofs.Syncs.{synced_one}
use Rattle.object_calls.proofs.file_syncing.sync_file.Goals as goal

pub returns-in-Ok : goal.returns-in-Ok
returns-in-Ok g c =
    let files = c.args.files.now in
    let x = c.index-files-file.result in
    synced_one g.F.StoreFile.state files c.args.file (get_or files (c.args.file - 1) x) c.sync.new.self (Unit {0}) (Ok tt) c.requires.file.0 (omega (arith, c.requires.files, c.requires.file.1))
    (ap (λ y. get_or files (c.args.file - 1) y) c.index-files-file.is)
    (c.in-Ok.ensures.synced, record { faults = c.in-Ok.ensures.cause.faults; starved = c.in-Ok.ensures.cause.starved })

pub returns-in-Err : goal.returns-in-Err
returns-in-Err g c =
    let files = c.args.files.now in
    let x = c.index-files-file.result in
    let cause = c.in-Err.ensures.cause in
    synced_one g.F.StoreFile.state files c.args.file (get_or files (c.args.file - 1) x) c.sync.new.self (Unit {0}) (Err _) c.requires.file.0 (omega (arith, c.requires.files, c.requires.file.1))
    (ap (λ y. get_or files (c.args.file - 1) y) c.index-files-file.is)
    (c.in-Err.ensures.unsettled, c.in-Err.failed.count, refl, record { rose = cause.rose; carried = cause.carried; calm = cause.calm })
