use Rattle.std.proofs.Common.{ℕ, get_or, ap}
use Rattle.disk_model.specs.Calls.{GoesOn}
use Rattle.disk_model.specs.State.{FileState}
use Rattle.disk_model.proofs.Goings.{goes_on_none}
use Rattle.tee_types.specs.Limits.{file_count}
use Rattle.folder_export.specs.Copies.{FileFailed, WritesFile}
use Rattle.folder_export.proofs.States.{states_at, states_each, states_else}
use Rattle.folder_export.proofs.export.export_last.Goals as goal

pub returns-in-Ok-clause-goes_on : goal.returns-in-Ok-clause-goes_on
returns-in-Ok-clause-goes_on g c = λ none k.
    let folder = c.args.folder.now in
    let u = get_or folder file_count c.index-folder-274.result in
    states_each none g.G.StoreFile.state GoesOn goes_on_none folder file_count u c.export_block.new.to (ap (λ v. get_or folder file_count v) c.index-folder-274.is) c.export_block.ensures.goes_on k

pub returns-in-Ok-clause-ok : goal.returns-in-Ok-clause-ok
returns-in-Ok-clause-ok g c = λ none.
    let folder = c.args.folder.now in
    let u = get_or folder file_count c.index-folder-274.result in
    states_at none g.G.StoreFile.state (WritesFile c.args.block.now) folder file_count u c.export_block.new.to c.requires (ap (λ v. get_or folder file_count v) c.index-folder-274.is) c.in-Ok.ensures.ok

pub returns-in-Ok-clause-others : goal.returns-in-Ok-clause-others
returns-in-Ok-clause-others g c = λ none (k : ℕ) ne. states_else none g.G.StoreFile.state c.args.folder.now file_count k c.export_block.new.to ne

pub returns-in-Err-clause-goes_on : goal.returns-in-Err-clause-goes_on
returns-in-Err-clause-goes_on g c = λ none k.
    let folder = c.args.folder.now in
    let u = get_or folder file_count c.index-folder-274.result in
    states_each none g.G.StoreFile.state GoesOn goes_on_none folder file_count u c.export_block.new.to (ap (λ v. get_or folder file_count v) c.index-folder-274.is) c.export_block.ensures.goes_on k

pub returns-in-Err-clause-err : goal.returns-in-Err-clause-err
returns-in-Err-clause-err g c = λ none.
    let folder = c.args.folder.now in
    let u = get_or folder file_count c.index-folder-274.result in
    let count : ℕ = c.in-Err.failed.count in
    states_at none g.G.StoreFile.state (λ (s t : FileState). FileFailed s t count) folder file_count u c.export_block.new.to c.requires (ap (λ v. get_or folder file_count v) c.index-folder-274.is)
    c.in-Err.ensures.err

pub returns-in-Err-clause-others : goal.returns-in-Err-clause-others
returns-in-Err-clause-others g c = λ none (k : ℕ) ne. states_else none g.G.StoreFile.state c.args.folder.now file_count k c.export_block.new.to ne
