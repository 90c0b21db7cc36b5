use Rattle.std.proofs.Common.{◌∙◌, refl, sym}
use Rattle.object_calls.proofs.ObjectCopies.{copies_between, copies_object, copy_not_made, exchanged}
use Rattle.object_calls.proofs.object_moving.copy_object.Goals as goal

pub returns-in-Ok-clause-answer : goal.returns-in-Ok-clause-answer
returns-in-Ok-clause-answer g c =
    let state = g.F.StoreFile.state in
    let files = c.args.files.now in
    let e = c.args.entry.now in
    let file = c.args.file in
    let own = c.requires.form.file in
    let x0 = c.index_mut.result.now in
    let x1 = c.copy_tree.new.from in
    let y0 = c.take_file-to.result in
    let y1 = c.in-Ok.copy in
    let now = c.put_file_back.new.files.items in
    let are = exchanged state files.items c.take_file-to.new.files.items now e.file file c.place_beside-from.result x0 x1 y0 y1 (sym files.ok.0 ∙ c.requires.whole) own c.requires.file.0 c.requires.file.1
    c.take_file-to.ensures.rest c.place_beside-from.ensures c.take_file-to.ensures.value c.index_mut.ensures.value c.put_file_back.ensures.files in
    let is = c.in-Ok.ensures in
    copies_object state files.items now e.file file x0 x1 y0 y1 are e c.root_of.result refl c.root_of.ensures c.copy_tree.ensures.rests is.keeps is.pending is.opens is.passed.0 is.passed.1

pub returns-in-Err-clause-answer : goal.returns-in-Err-clause-answer
returns-in-Err-clause-answer g c =
    let state = g.F.StoreFile.state in
    let files = c.args.files.now in
    let e = c.args.entry.now in
    let file = c.args.file in
    let own = c.requires.form.file in
    let x0 = c.index_mut.result.now in
    let x1 = c.copy_tree.new.from in
    let y0 = c.take_file-to.result in
    let y1 = c.in-Err.field-0.file in
    let now = c.put_file_back-in-Err.new.files.items in
    let are = exchanged state files.items c.take_file-to.new.files.items now e.file file c.place_beside-from.result x0 x1 y0 y1 (sym files.ok.0 ∙ c.requires.whole) own c.requires.file.0 c.requires.file.1
    c.take_file-to.ensures.rest c.place_beside-from.ensures c.take_file-to.ensures.value c.index_mut.ensures.value c.put_file_back-in-Err.ensures.files in
    let is = c.in-Err.ensures in
    let answer = c.copy_answer.ensures in (
      copies_between state files.items now e.file file x0 x1 y0 y1 are c.copy_tree.ensures.rests is.keeps_err,
      copy_not_made state files.items now e.file file x0 x1 y0 y1 are e c.in-Err.field-0.fault answer.0 c.copy_answer.result refl own c.requires.file.0 is.cause answer.1 answer.2,
    )
