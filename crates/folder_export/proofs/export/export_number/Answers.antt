use Rattle.std.proofs.Common.{ℕ, get_or, ap}
use Rattle.std.specs.Prelude.{slice_set}
use Rattle.disk_model.specs.Calls.{GoesOn, Rests}
use Rattle.disk_model.specs.State.{FileState}
use Rattle.disk_model.proofs.Goings.{goes_on_none, rests_none}
use Rattle.folder_export.specs.Copies.{CopiesFile, OneFailed}
use Rattle.folder_export.specs.Folders.{states_of}
use Rattle.folder_export.proofs.States.{states_at, states_each, states_else}
use Rattle.folder_export.proofs.export.export_number.Goals as goal

pub returns-in-Ok-clause-rests : goal.returns-in-Ok-clause-rests
returns-in-Ok-clause-rests g c = λ none k.
    let files = c.args.files.now in
    let n = c.args.number in
    let x = get_or files n c.index-files-number.result in
    states_each none g.F.StoreFile.state Rests rests_none files n x c.export_file.new.from (ap (λ v. get_or files n v) c.index-files-number.is) c.export_file.ensures.rests k

pub returns-in-Ok-clause-goes_on : goal.returns-in-Ok-clause-goes_on
returns-in-Ok-clause-goes_on g c = λ none k.
    let folder = c.args.folder.now in
    let n = c.args.number in
    let u = get_or folder n c.index-folder-number.result in
    states_each none g.G.StoreFile.state GoesOn goes_on_none folder n u c.export_file.new.to (ap (λ v. get_or folder n v) c.index-folder-number.is) c.export_file.ensures.goes_on k

pub returns-in-Ok-clause-ok : goal.returns-in-Ok-clause-ok
returns-in-Ok-clause-ok g c = λ none.
    let files = c.args.files.now in
    let folder = c.args.folder.now in
    let n = c.args.number in
    let state = g.F.StoreFile.state in
    let kept = g.G.StoreFile.state in
    let x = get_or files n c.index-files-number.result in
    let y = c.export_file.new.from in
    let u = get_or folder n c.index-folder-number.result in
    let w = c.export_file.new.to in
    states_at none kept (λ (s t : FileState). CopiesFile (states_of none state files n) (states_of none state (slice_set files n y) n) s t) folder n u w c.requires.1
    (ap (λ v. get_or folder n v) c.index-folder-number.is)
    (states_at none state (λ (s t : FileState). CopiesFile s t (kept u) (kept w)) files n x y c.requires.0 (ap (λ v. get_or files n v) c.index-files-number.is) c.in-Ok.ensures.ok)

pub returns-in-Ok-clause-files : goal.returns-in-Ok-clause-files
returns-in-Ok-clause-files g c = λ none (k : ℕ) ne. states_else none g.F.StoreFile.state c.args.files.now c.args.number k c.export_file.new.from ne

pub returns-in-Ok-clause-folder : goal.returns-in-Ok-clause-folder
returns-in-Ok-clause-folder g c = λ none (k : ℕ) ne. states_else none g.G.StoreFile.state c.args.folder.now c.args.number k c.export_file.new.to ne

pub returns-in-Err-clause-rests : goal.returns-in-Err-clause-rests
returns-in-Err-clause-rests g c = λ none k.
    let files = c.args.files.now in
    let n = c.args.number in
    let x = get_or files n c.index-files-number.result in
    states_each none g.F.StoreFile.state Rests rests_none files n x c.export_file.new.from (ap (λ v. get_or files n v) c.index-files-number.is) c.export_file.ensures.rests k

pub returns-in-Err-clause-goes_on : goal.returns-in-Err-clause-goes_on
returns-in-Err-clause-goes_on g c = λ none k.
    let folder = c.args.folder.now in
    let n = c.args.number in
    let u = get_or folder n c.index-folder-number.result in
    states_each none g.G.StoreFile.state GoesOn goes_on_none folder n u c.export_file.new.to (ap (λ v. get_or folder n v) c.index-folder-number.is) c.export_file.ensures.goes_on k

pub returns-in-Err-clause-err : goal.returns-in-Err-clause-err
returns-in-Err-clause-err g c = λ none.
    let files = c.args.files.now in
    let folder = c.args.folder.now in
    let n : ℕ = c.args.number in
    let state = g.F.StoreFile.state in
    let kept = g.G.StoreFile.state in
    let fault = c.in-Err.fault in
    let x = get_or files n c.index-files-number.result in
    let y = c.export_file.new.from in
    let u = get_or folder n c.index-folder-number.result in
    let w = c.export_file.new.to in
    states_at none kept (λ (s t : FileState). OneFailed fault.place fault.count n (states_of none state files n) (states_of none state (slice_set files n y) n) s t) folder n u w c.requires.1
    (ap (λ v. get_or folder n v) c.index-folder-number.is)
    (states_at none state (λ (s t : FileState). OneFailed fault.place fault.count n s t (kept u) (kept w)) files n x y c.requires.0 (ap (λ v. get_or files n v) c.index-files-number.is) c.in-Err.ensures.err)

pub returns-in-Err-clause-files : goal.returns-in-Err-clause-files
returns-in-Err-clause-files g c = λ none (k : ℕ) ne. states_else none g.F.StoreFile.state c.args.files.now c.args.number k c.export_file.new.from ne

pub returns-in-Err-clause-folder : goal.returns-in-Err-clause-folder
returns-in-Err-clause-folder g c = λ none (k : ℕ) ne. states_else none g.G.StoreFile.state c.args.folder.now c.args.number k c.export_file.new.to ne
