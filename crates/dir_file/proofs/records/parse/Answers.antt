use Rattle.std.proofs.Common.{sym}
use Rattle.dir_file.specs.Pages.{some_pages}
use Rattle.dir_file.proofs.Parsing.{entries_next, entries_none, entries_refused}
use Rattle.dir_file.proofs.records.parse.Goals as goal

pub loop-i-init : goal.loop-i-init
loop-i-init c = entries_none (some_pages c.args.pages.now) c.new-entries.result.items c.new-entries.ensures.items

pub returns-in-Err : goal.returns-in-Err
returns-in-Err c = entries_refused (some_pages c.args.pages.now) c.loop-i.i c.loop-i.entries.items c.in-Err.bad c.loop-i.invariant (sym c.in-Err.ensures) c.loop-i-test.true

pub loop-i-preserved : goal.loop-i-preserved
loop-i-preserved c = entries_next (some_pages c.args.pages.now) c.loop-i.i c.loop-i.entries.items c.push.new.self.items c.in-Ok.entry c.loop-i.invariant (sym c.in-Ok.ensures) c.in-Ok-push.ensures.items
