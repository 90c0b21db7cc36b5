use Rattle.crash_core.specs.Entries.{name_of}
use Rattle.store_commit.proofs.names.add_name.Goals as goal

pub returns-then-is_none-clause-names : goal.returns-then-is_none-clause-names
returns-then-is_none-clause-names c absent =
    c.changes_concern_one_name.ensures.insert c.args.index.now c.insert.new.self (name_of c.args.entry.now) c.args.place c.insert.ensures.entries
