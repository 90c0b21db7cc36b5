use Rattle.std.proofs.Common.{◌∙◌, sym}
use Rattle.call_rules.proofs.Enumerators.{reset_missed, reset_done}
use Rattle.call_rules.proofs.enumerator_calls.enum_reset.Goals as goal

pub returns-in_default-clause-told : goal.returns-in_default-clause-told
returns-in_default-clause-told c = λ s i is. reset_missed s i c.args.session.now is c.args.number (sym c.cursor.ensures ∙ c.in_default.is)

pub returns-clause-told : goal.returns-clause-told
returns-clause-told c = λ s i is. reset_done s i c.args.session.now is c.args.number c.in-Some._live (sym c.cursor.ensures ∙ c.in-Some.is) c.reset.new.self c.reset.ensures
