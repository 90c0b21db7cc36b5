use Rattle.std.proofs.Common.{◌+◌, subst, arith}
use Rattle.disk_model.proofs.Goings.{rests_then}
use Rattle.htree_file.proofs.Causes.{passed_then}
use Rattle.object_file.specs.Value.{ObjectValue}
use Rattle.folder_audit.specs.Objects.{NotesBlock}
use Rattle.folder_audit.proofs.Noted.{more_noted, same_on}
use Rattle.folder_audit.proofs.reading.find_bad.Goals as goal

pub returns-in_err-read_next-clause-rests : goal.returns-in_err-read_next-clause-rests
returns-in_err-read_next-clause-rests g c = rests_then _ _ _ c.loop-k.invariant.rests c.in_err-read_next.ensures.rests

pub loop-k-preserved : goal.loop-k-preserved
loop-k-preserved g c =
    let o = c.args.object.now in
    let m = c.loop-k.object in
    let n = c.read_next.new.object in
    let a = g.G.StoreFile.state o.tree.file in
    let b = g.G.StoreFile.state m.tree.file in
    let d = g.G.StoreFile.state n.tree.file in
    let before = c.loop-k.invariant in
    let notes = subst (λ (t : ObjectValue g.row.G.Denot). NotesBlock t.tree.key t.tree.tree b d (c.loop-k.k + 1) c.loop-k.bad c.read_next.new.bad) before.same c.in_ok-read_next.ensures.notes in
    record {
      same = same_on o m n before.same c.read_next.ensures.same;
      rests = rests_then a b d before.rests c.read_next.ensures.rests;
      passed = passed_then a b d before.passed c.in_ok-read_next.ensures.passed;
      finds = more_noted o.tree.key o.tree.tree a b d (c.loop-k.k + 1) c.loop-k.bad c.read_next.new.bad (omega arith) before.rests c.read_next.ensures.rests before.finds notes;
    }
