use Rattle.std.proofs.Common.{◌≡◌, ◌∙◌, length}
use Rattle.disk_model.proofs.Goings.{rests_then}
use Rattle.object_file.specs.Value.{size_in}
use Rattle.object_calls.proofs.Blocks.{reads_more}
use Rattle.object_calls.proofs.object_data.read_blocks.Goals as goal

pub loop-k-preserved : goal.loop-k-preserved
loop-k-preserved g c =
    let o = c.args.object.now in
    let m = c.loop-k.object in
    let n = c.read_next.new.object in
    let reads = c.loop-k.invariant in
    let long : length c.read_next.new.bytes ≡ size_in o = c.read_next.auto.bytes ∙ reads.data_are.long in
    reads_more g.F.StoreFile.state o m n c.loop-k.k c.loop-k.bytes c.read_next.new.bytes c.loop-k.bad c.read_next.new.bad reads c.read_next.ensures.same c.read_next.ensures.rests
    (g.met.F.StoreFile.sound m.tree.file) long
    c.in_ok-read_next.ensures.passed c.in_ok-read_next.ensures.shows

pub returns-in_err-read_next-clause-rests : goal.returns-in_err-read_next-clause-rests
returns-in_err-read_next-clause-rests g c = rests_then _ _ _ c.loop-k.invariant.rests c.in_err-read_next.ensures.rests
