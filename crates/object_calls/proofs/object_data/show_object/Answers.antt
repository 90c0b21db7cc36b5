use Rattle.std.proofs.Common.{subst, sym}
use Rattle.disk_model.proofs.Goings.{rests_then}
use Rattle.object_calls.specs.Next.{ShowAnswer}
use Rattle.object_calls.proofs.ObjectLoading.{IsLoaded, damaged_answer, loaded_answer}
use Rattle.object_calls.proofs.object_data.show_object.Goals as goal

pub returns-in-Ok-clause-answer : goal.returns-in-Ok-clause-answer
returns-in-Ok-clause-answer g c =
    let state = g.F.StoreFile.state in
    let key = c.args.wanted.tsk in
    let e = c.args.wanted.entry in
    let o = c.in-Ok.object in
    let a = state c.args.file in
    let b = state o.tree.file in
    let l = c.in-Ok.ensures in
    let s = c.show_loaded-shown.ensures in
    let loaded : IsLoaded key a b e o = record {
      root = l.root;
      key = l.key;
      verified = l.verified;
      size = l.size;
      long = l.attributes;
      front = l.bytes;
      object = l.object;
      rests = l.rests;
      passed = l.passed;
    } in
    subst (λ (f : g.row.F.Denot). ShowAnswer key a (state f) e c.show_loaded-shown.result) (sym c.into_file.ensures)
    (loaded_answer key a b (state c.show_loaded-shown.new.object.tree.file) e o loaded (g.met.F.StoreFile.sound o.tree.file) s.rests c.show_loaded-shown.result s.shows s.passed s.failed)

pub returns-in-Ok-clause-rests : goal.returns-in-Ok-clause-rests
returns-in-Ok-clause-rests g c = rw (c.into_file.ensures) (rests_then _ _ _ c.in-Ok.ensures.rests c.show_loaded-shown.ensures.rests)

pub returns-in-Err-clause-answer : goal.returns-in-Err-clause-answer
returns-in-Err-clause-answer g c =
    let state = g.F.StoreFile.state in
    let b = c.in-Err.field-0 in
    let e = c.args.wanted.entry in
    let l = c.in-Err.ensures in
    subst (ShowAnswer c.args.wanted.tsk (state c.args.file) (state b.file) e) (sym c.object_answer.ensures)
    (damaged_answer c.args.wanted.tsk (state c.args.file) (state b.file) e b.fault l.damaged l.differs l.cause)
