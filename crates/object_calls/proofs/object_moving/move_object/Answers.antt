use Rattle.std.proofs.Common.{◌≡◌, ℕ, Some, sym, subst}
use Rattle.std.proofs.lemmas.Result.{IfErr-weaker, on_ok_weaker}
use Rattle.store_commit.specs.View.{DirValue}
use Rattle.store_commit.specs.EntryForms.{Fits}
use Rattle.crash_core.specs.declared.change.EntryChange.TheVariants.{Put as PutChange}
use Rattle.crash_core.specs.MigrationLaws.{moved_entry}
use Rattle.node_image.specs.References.{current_format}
use Rattle.store_commit.specs.Causes.{counts}
use Rattle.object_calls.specs.OpeningFiles.{object_files}
use Rattle.object_calls.specs.ObjectMoves.{ObjectNotMoved, end_fault}
use Rattle.object_calls.proofs.ObjectMoving.{IsCommit, copy_goes_on, copy_migrates, fits_moved, move_goes_on, move_migrates, move_refused, moves_object, reserved_of, roomed_migrates}
use Rattle.object_calls.proofs.object_moving.move_object.Goals as goal

pub returns-then-is_err-clause-migrates : goal.returns-then-is_err-clause-migrates
returns-then-is_err-clause-migrates g c =
    roomed_migrates g.F.StoreFile.state g.R.RpmbPort.state c.args.gate.now c.reserve.new.self c.args.files.now.items c.reserve.ensures.same

pub returns-in_err-copy_object-clause-migrates : goal.returns-in_err-copy_object-clause-migrates
returns-in_err-copy_object-clause-migrates g c =
    let state = g.F.StoreFile.state in
    let port = g.R.RpmbPort.state in
    let g0 = c.args.gate.now in
    let gr = c.reserve_file-file.new.self in
    let file = c.reserve_file-file.result in
    let e = c.args.entry.now in
    let reserved = reserved_of state port g0 c.reserve.new.self gr file c.reserve.ensures.same c.reserve_file-file.ensures.same c.reserve_file-file.ensures.free in
    copy_migrates state port g.met.F.StoreFile.sound g0 gr c.args.files.now.items c.copy_object.new.files.items c.args.index file e c.requires.may reserved c.requires.at.1 c.in_err-copy_object.ensures.answer.0

pub returns-in_err-copy_object-clause-goes_on : goal.returns-in_err-copy_object-clause-goes_on
returns-in_err-copy_object-clause-goes_on g c =
    let state = g.F.StoreFile.state in
    let port = g.R.RpmbPort.state in
    let g0 = c.args.gate.now in
    let gr = c.reserve_file-file.new.self in
    let file = c.reserve_file-file.result in
    let reserved = reserved_of state port g0 c.reserve.new.self gr file c.reserve.ensures.same c.reserve_file-file.ensures.same c.reserve_file-file.ensures.free in
    copy_goes_on state port g0 gr c.args.files.now.items c.copy_object.new.files.items c.args.entry.now.file file reserved.dir reserved.host c.in_err-copy_object.ensures.answer.0

pub move_entry-requires-clause-fits : goal.move_entry-requires-clause-fits
move_entry-requires-clause-fits g c =
    let state = g.F.StoreFile.state in
    let port = g.R.RpmbPort.state in
    let g0 = c.args.gate.now in
    let gr = c.reserve_file-file.new.self in
    let file = c.reserve_file-file.result in
    let e = c.args.entry.now in
    let reserved = reserved_of state port g0 c.reserve.new.self gr file c.reserve.ensures.same c.reserve_file-file.ensures.same c.reserve_file-file.ensures.free in
    subst (λ (d : DirValue g.row.F.Denot). Fits d.dir.entries c.args.index (Some (moved_entry e file current_format))) (sym reserved.dir)
    (fits_moved g0.dir.dir.entries g0.holds c.args.index e file c.requires.may.settled.entries c.requires.at.0 c.requires.at.1 reserved.free.free)

pub returns-clause-migrates : goal.returns-clause-migrates
returns-clause-migrates g c =
    let state = g.F.StoreFile.state in
    let port = g.R.RpmbPort.state in
    let g0 = c.args.gate.now in
    let gr = c.reserve_file-file.new.self in
    let g1 = c.move_entry.new.self in
    let file = c.reserve_file-file.result in
    let e = c.args.entry.now in
    let old = c.args.files.now.items in
    let new = c.copy_object.new.files.items in
    let end = c.move_entry.result in
    let made = c.move_entry.ensures in
    let drew : ℕ = g.E.Entropy.faults c.args.entropy.now in
    let draws : ℕ = g.E.Entropy.faults c.move_entry.new.entropy in
    let reserved = reserved_of state port g0 c.reserve.new.self gr file c.reserve.ensures.same c.reserve_file-file.ensures.same c.reserve_file-file.ensures.free in
    let commit : IsCommit state port gr g1 (PutChange c.args.index (moved_entry e file current_format)) end drew draws =
    record { leaves = made.leaves; doubt = made.doubt; holds = made.holds; throughout = made.throughout; steps = made.steps; counted = made.counts; cause = made.cause } in
    move_migrates state port g.met.F.StoreFile.sound g0 gr old new c.args.index file e c.requires.may reserved c.requires.at.1 g1 end drew draws commit c.in_ok-copy_object.ensures.answer

pub returns-clause-moves : goal.returns-clause-moves
returns-clause-moves g c =
    let state = g.F.StoreFile.state in
    let port = g.R.RpmbPort.state in
    let g0 = c.args.gate.now in
    let gr = c.reserve_file-file.new.self in
    let g1 = c.move_entry.new.self in
    let file = c.reserve_file-file.result in
    let e = c.args.entry.now in
    let old = c.args.files.now.items in
    let new = c.copy_object.new.files.items in
    let end = c.move_entry.result in
    let made = c.move_entry.ensures in
    let drew : ℕ = g.E.Entropy.faults c.args.entropy.now in
    let draws : ℕ = g.E.Entropy.faults c.move_entry.new.entropy in
    let reserved = reserved_of state port g0 c.reserve.new.self gr file c.reserve.ensures.same c.reserve_file-file.ensures.same c.reserve_file-file.ensures.free in
    let commit : IsCommit state port gr g1 (PutChange c.args.index (moved_entry e file current_format)) end drew draws =
    record { leaves = made.leaves; doubt = made.doubt; holds = made.holds; throughout = made.throughout; steps = made.steps; counted = made.counts; cause = made.cause } in
    on_ok_weaker c.end_answer.result (moves_object state port g.met.F.StoreFile.sound g0 gr old new c.args.index file e c.requires.may reserved c.requires.at.1 g1 end drew draws commit c.in_ok-copy_object.ensures.answer) c.end_answer.ensures.made

pub returns-clause-refused : goal.returns-clause-refused
returns-clause-refused g c =
    let state = g.F.StoreFile.state in
    let port = g.R.RpmbPort.state in
    let g0 = c.args.gate.now in
    let gr = c.reserve_file-file.new.self in
    let g1 = c.move_entry.new.self in
    let file = c.reserve_file-file.result in
    let e = c.args.entry.now in
    let old = c.args.files.now.items in
    let new = c.copy_object.new.files.items in
    let end = c.move_entry.result in
    let made = c.move_entry.ensures in
    let drew : ℕ = g.E.Entropy.faults c.args.entropy.now in
    let draws : ℕ = g.E.Entropy.faults c.move_entry.new.entropy in
    let reserved = reserved_of state port g0 c.reserve.new.self gr file c.reserve.ensures.same c.reserve_file-file.ensures.same c.reserve_file-file.ensures.free in
    let commit : IsCommit state port gr g1 (PutChange c.args.index (moved_entry e file current_format)) end drew draws =
    record { leaves = made.leaves; doubt = made.doubt; holds = made.holds; throughout = made.throughout; steps = made.steps; counted = made.counts; cause = made.cause } in
    IfErr-weaker c.end_answer.result (λ fault. end_fault end ≡ Some fault)
    (ObjectNotMoved (object_files state old) (object_files state new) (counts (state g0.dir.file) (port g0.host.port) drew) (counts (state g1.dir.file) (port g1.host.port) draws) g0.host.key)
    (move_refused state port g.met.F.StoreFile.sound g0 gr old new c.args.index file e c.requires.may reserved c.requires.at.1 g1 end drew draws commit c.in_ok-copy_object.ensures.answer) c.end_answer.ensures.fault

pub returns-clause-goes_on : goal.returns-clause-goes_on
returns-clause-goes_on g c =
    let state = g.F.StoreFile.state in
    let port = g.R.RpmbPort.state in
    let g0 = c.args.gate.now in
    let gr = c.reserve_file-file.new.self in
    let g1 = c.move_entry.new.self in
    let file = c.reserve_file-file.result in
    let e = c.args.entry.now in
    let old = c.args.files.now.items in
    let new = c.copy_object.new.files.items in
    let end = c.move_entry.result in
    let made = c.move_entry.ensures in
    let drew : ℕ = g.E.Entropy.faults c.args.entropy.now in
    let draws : ℕ = g.E.Entropy.faults c.move_entry.new.entropy in
    let reserved = reserved_of state port g0 c.reserve.new.self gr file c.reserve.ensures.same c.reserve_file-file.ensures.same c.reserve_file-file.ensures.free in
    let commit : IsCommit state port gr g1 (PutChange c.args.index (moved_entry e file current_format)) end drew draws =
    record { leaves = made.leaves; doubt = made.doubt; holds = made.holds; throughout = made.throughout; steps = made.steps; counted = made.counts; cause = made.cause } in
    move_goes_on state port g.met.F.StoreFile.sound g0 gr old new c.args.index file e c.requires.may reserved c.requires.at.1 g1 end drew draws commit c.in_ok-copy_object.ensures.answer
