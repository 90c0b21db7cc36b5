use Rattle.std.proofs.Common.{Some}
use Rattle.history_seats.specs.Changes.{view_in}
use Rattle.history_seats.proofs.Tags.{tag_in, event_in}
use Rattle.history_seats.proofs.seats.GateSeat.append.Goals as goal

pub append_as-requires-clause-next : goal.append_as-requires-clause-next
append_as-requires-clause-next g c = (event_in c.args.event (view_in c.args.slot) g.versions, c.requires.1.1.1.0)

pub append_as-requires-clause-tag : goal.append_as-requires-clause-tag
append_as-requires-clause-tag g c = tag_in c.args.self.now.knows (Some c.args.pass.knows) c.args.event (view_in c.args.slot) g.versions
