use Rattle.std.proofs.Common.{◌∙◌, refl, sym}
use Rattle.call_rules.proofs.Enumerators.{new_told, new_full}
use Rattle.call_rules.proofs.enumerator_calls.enum_new.Goals as goal

pub returns-in-Ok-clause-ok : goal.returns-in-Ok-clause-ok
returns-in-Ok-clause-ok c = λ s i is. new_told s i c.args.session.now is c.in-Ok.ensures.room c.in-Ok.number c.in-Ok.ensures.number c.add_enumerator.new.self c.in-Ok.ensures.ok

pub returns-then-has_all_enumerators-clause-ok : goal.returns-then-has_all_enumerators-clause-ok
returns-then-has_all_enumerators-clause-ok c = λ s i is. new_full s i c.args.session.now is (sym c.has_all_enumerators.ensures ∙ c.if-has_all_enumerators.true) c.args.session.now refl
