use Rattle.std.proofs.Common.{◌∙◌, sym}
use Rattle.call_rules.proofs.Closing.{close_refused, close_done}
use Rattle.call_rules.proofs.close_call.close.Goals as goal

pub returns-in_default-clause-told : goal.returns-in_default-clause-told
returns-in_default-clause-told c = λ s i is. close_refused s i c.args.session.now is c.args.number (sym c.handle.ensures ∙ c.in_default.is)

pub returns-clause-told : goal.returns-clause-told
returns-clause-told c = λ s i is. close_done s i c.args.session.now is c.args.number c.in-Some._live (sym c.handle.ensures ∙ c.in-Some.is) c.close.new.self c.close.ensures
