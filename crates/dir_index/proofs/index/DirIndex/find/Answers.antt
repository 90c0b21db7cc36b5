use Rattle.std.proofs.Common.{ap, sym, ◌∙◌, Some, get_or}
use Rattle.dir_index.specs.Index.{IndexEntry, IndexState, named}
use Rattle.dir_index.proofs.Places.{lookup_at, lookup_gap}
use Rattle.dir_index.proofs.index.DirIndex.find.Goals as goal

pub returns-in-Ok : goal.returns-in-Ok
returns-in-Ok c =
    let read = c.index.ensures in
    ap (λ (e : IndexEntry). Some e.1) (read ∙ ap (λ (s : IndexState). get_or s.entries c.in-Ok.place c.index.result.now) c.self.view_is)
    ∙ sym (lookup_at c.args.self.now.entries (named c.args.app c.args.id) c.in-Ok.place c.index.result.now c.in-Ok.ensures.found)

pub returns-in-Err : goal.returns-in-Err
returns-in-Err c = sym (lookup_gap c.args.self.now.entries (named c.args.app c.args.id) c.in-Err.field-0 c.in-Err.ensures.absent)
