use Rattle.std.proofs.Common.{◌∙◌, ap}
use Rattle.crash_core.specs.Entries.{name_of}
use Rattle.dir_index.specs.Index.{with_index}
use Rattle.folder_audit.proofs.order.index_entry.Goals as goal

pub returns-then-is_none : goal.returns-then-is_none
returns-then-is_none c =
    rw c.in-Some.is (λ absent.
    c.changes_concern_one_name.ensures.insert c.args.index.now c.insert.new.self (name_of c.in-Some.entry) c.args.place
    (c.insert.ensures.entries ∙ ap (λ l. with_index l (name_of c.in-Some.entry) c.args.place) c.in_ok-reserve-in-Some.ensures.entries))
