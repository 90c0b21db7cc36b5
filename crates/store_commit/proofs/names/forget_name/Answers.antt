use Rattle.std.proofs.Common.{ap}
use Rattle.crash_core.specs.Entries.{name_of}
use Rattle.dir_index.specs.Index.{index_at}
use Rattle.store_commit.proofs.NameIndexes.{room_kept}
use Rattle.store_commit.proofs.names.forget_name.Goals as goal

pub returns-clause-names : goal.returns-clause-names
returns-clause-names c =
    c.changes_concern_one_name.ensures.remove c.args.index.now c.remove.new.self (name_of c.args.entry.now) c.len-names.ensures.ordered c.remove.ensures.entries

pub returns-clause-room : goal.returns-clause-room
returns-clause-room c =
    room_kept (index_at c.args.index.now (name_of c.args.entry.now)) c.args.index.now.spare c.remove.new.self.spare c.remove.ensures.held
    (λ none. ap (λ s. s.spare) (c.remove.ensures.absent none))
