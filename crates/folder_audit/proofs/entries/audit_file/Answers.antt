use Rattle.std.proofs.Common.{◌≡◌, ◌+◌, ◌<◌, length, arith}
use Rattle.tee_types.specs.Limits.{directory_file, file_count}
use Rattle.tee_types.proofs.FileNumbers.{directory_behind}
use Rattle.folder_audit.proofs.Filed.{file_answer}
use Rattle.folder_audit.proofs.Places.{touches, two_last, two_rest}
use Rattle.folder_audit.proofs.entries.audit_file.Goals as goal

pub returns-clause-answer : goal.returns-clause-answer
returns-clause-answer g c =
    let state = g.G.StoreFile.state in
    let files = c.args.files.now in
    let rest = c.remove-file.new.self in
    let after = c.insert.new.self in
    let under = c.args.under.now in
    let dir = c.args.dir.now in
    let held = c.args.held.now in
    let n = held.entry.file in
    let audit = c.audit_object-file in
    let next = audit.new.dir.file in
    let low : n < directory_file = omega (arith, c.requires.form.file.1, directory_behind) in
    let many : length files.items ≡ file_count = omega (arith, files.ok.0, c.requires.files) in
    let many_after : length after.items ≡ file_count = omega (arith, after.ok.0, c.in-Ok.ensures.len, c.remove-file.ensures.len, c.requires.files) in
    let fewer : length rest.items + 1 ≡ length files.items = omega (arith, rest.ok.0, files.ok.0, c.remove-file.ensures.len) in
    let two = touches state files.items rest.items after.items dir.file next c.remove-file.result audit.result.0 n low many many_after fewer c.remove-file.ensures.items c.remove-file.ensures.value c.in-Ok.ensures.items in
    file_answer under.keys under.block dir.tree held.index held.entry _ _ (state dir.file) (state next) (state c.remove-file.result) (state audit.result.0) two audit.result.1 audit.ensures.answer

pub returns-clause-rests : goal.returns-clause-rests
returns-clause-rests g c =
    let state = g.G.StoreFile.state in
    let files = c.args.files.now in
    let rest = c.remove-file.new.self in
    let after = c.insert.new.self in
    let dir = c.args.dir.now in
    let n = c.args.held.now.entry.file in
    let audit = c.audit_object-file in
    let next = audit.new.dir.file in
    let low : n < directory_file = omega (arith, c.requires.form.file.1, directory_behind) in
    let many : length files.items ≡ file_count = omega (arith, files.ok.0, c.requires.files) in
    let many_after : length after.items ≡ file_count = omega (arith, after.ok.0, c.in-Ok.ensures.len, c.remove-file.ensures.len, c.requires.files) in
    let fewer : length rest.items + 1 ≡ length files.items = omega (arith, rest.ok.0, files.ok.0, c.remove-file.ensures.len) in
    let two = touches state files.items rest.items after.items dir.file next c.remove-file.result audit.result.0 n low many many_after fewer c.remove-file.ensures.items c.remove-file.ensures.value c.in-Ok.ensures.items in
    two_rest _ _ n (state dir.file) (state next) (state c.remove-file.result) (state audit.result.0) two audit.ensures.dir_rests audit.ensures.rests

pub returns-clause-last : goal.returns-clause-last
returns-clause-last g c =
    let state = g.G.StoreFile.state in
    let files = c.args.files.now in
    let rest = c.remove-file.new.self in
    let after = c.insert.new.self in
    let dir = c.args.dir.now in
    let n = c.args.held.now.entry.file in
    let audit = c.audit_object-file in
    let next = audit.new.dir.file in
    let low : n < directory_file = omega (arith, c.requires.form.file.1, directory_behind) in
    let many : length files.items ≡ file_count = omega (arith, files.ok.0, c.requires.files) in
    let many_after : length after.items ≡ file_count = omega (arith, after.ok.0, c.in-Ok.ensures.len, c.remove-file.ensures.len, c.requires.files) in
    let fewer : length rest.items + 1 ≡ length files.items = omega (arith, rest.ok.0, files.ok.0, c.remove-file.ensures.len) in
    let two = touches state files.items rest.items after.items dir.file next c.remove-file.result audit.result.0 n low many many_after fewer c.remove-file.ensures.items c.remove-file.ensures.value c.in-Ok.ensures.items in
    two_last _ _ n (state dir.file) (state next) (state c.remove-file.result) (state audit.result.0) two low
