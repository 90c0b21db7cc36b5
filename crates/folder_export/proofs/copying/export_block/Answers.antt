use Rattle.folder_export.proofs.Copied.{written_first, written_whole}
use Rattle.folder_export.proofs.copying.export_block.Goals as goal

pub returns-clause-ok : goal.returns-clause-ok
returns-clause-ok g c =
    let x = g.G.StoreFile.state c.args.to.now in
    let y = g.G.StoreFile.state c.write_at.new.self in
    let z = g.G.StoreFile.state c.end_at.new.to in
    let wrote = c.in_ok-write_at.ensures in
    let end = c.in_ok-end_at.ensures in
    written_whole x y z c.args.block.now 256 c.told-block wrote.changes.goes_on end.goes_on (written_first x y c.args.block.now wrote.cause wrote.written wrote.counted)
    end.passed end.resized end.same end.settled
