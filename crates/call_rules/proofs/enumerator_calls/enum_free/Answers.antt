use Rattle.std.proofs.Common.{◌∙◌, sym}
use Rattle.call_rules.proofs.Enumerators.{free_missed, free_done}
use Rattle.call_rules.proofs.enumerator_calls.enum_free.Goals as goal

pub returns-in_default-clause-told : goal.returns-in_default-clause-told
returns-in_default-clause-told c = λ s i is. free_missed s i c.args.session.now is c.args.number (sym c.cursor.ensures ∙ c.in_default.is)

pub returns-clause-told : goal.returns-clause-told
returns-clause-told c = λ s i is. free_done s i c.args.session.now is c.args.number c.in-Some._live (sym c.cursor.ensures ∙ c.in-Some.is) c.free.new.self c.free.ensures
