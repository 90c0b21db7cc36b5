use Rattle.std.proofs.Common.{◌∙◌, sym}
use Rattle.call_rules.proofs.DataCalls.{write_told, write_nothing, write_of_object}
use Rattle.call_rules.proofs.Lookups.{entry_object}
use Rattle.call_rules.proofs.write_call.write.Goals as goal

pub returns-in-Answered-clause-told : goal.returns-in-Answered-clause-told
returns-in-Answered-clause-told g c = λ s i m.
    write_told s i c.args.session.now m.session c.args.number c.in-Answered.reply c.in-Answered.ensures.misuse (c.in-Answered.ensures.refused s i m) c.args.bytes.now

pub returns-then-is_empty-clause-told : goal.returns-then-is_empty-clause-told
returns-then-is_empty-clause-told g c = λ s i m.
    write_nothing s i c.args.session.now m.session c.args.number c.in-Needs.found.handle c.in-Needs.ensures.found.opened.live c.in-Needs.ensures.found.has_right
    c.args.bytes.now (sym c.is_empty.ensures ∙ c.if-is_empty.true)

pub returns-else-is_empty-clause-writes : goal.returns-else-is_empty-clause-writes
returns-else-is_empty-clause-writes g c = λ s i m.
    write_of_object s i c.args.session.now m.session c.args.number c.in-Needs.found.handle c.in-Needs.ensures.found.opened.live c.in-Needs.ensures.found.has_right
    c.args.bytes.now (sym c.is_empty.ensures ∙ c.if-is_empty.false) c.in-Needs.found.held.entry.size
    (entry_object _ s.objects m.shaped _ c.in-Needs.found.held c.in-Needs.ensures.found.opened.named)
