use Rattle.std.proofs.Common.{ℕ, List, Some, None, ◌∙◌, sym, ap}
use Rattle.std.specs.Option.{option_map}
use Rattle.store_model.specs.Enumerating.{next_object, shown}
use Rattle.call_rules.proofs.Enumerators.{next_missed, next_none, next_done, next_is}
use Rattle.call_rules.proofs.enumerator_calls.enum_next.Goals as goal

pub returns-in_default-clause-told : goal.returns-in_default-clause-told
returns-in_default-clause-told g c = λ s i m. next_missed s i c.args.session.now m.session c.args.number (sym c.cursor.ensures ∙ c.in_default.is)

pub returns-in_default-next_entry-clause-told : goal.returns-in_default-next_entry-clause-told
returns-in_default-next_entry-clause-told g c = λ s i m. next_none s i c.args.session.now m.session c.args.number c.in-Some.cursor (sym c.cursor.ensures ∙ c.in-Some.is)
    (ap (λ (app : List ℕ). option_map shown (next_object s.objects app c.in-Some.cursor)) (sym c.app.ensures)
    ∙ next_is _ s.objects m.shaped c.app.result c.in-Some.cursor None c.in_default-next_entry.ensures)

pub returns-clause-told : goal.returns-clause-told
returns-clause-told g c = λ s i m. next_done s i c.args.session.now m.session c.args.number c.in-Some.cursor (sym c.cursor.ensures ∙ c.in-Some.is)
    c.in-Some-next_entry.entry.id c.in-Some-next_entry.entry.size
    (ap (λ (app : List ℕ). option_map shown (next_object s.objects app c.in-Some.cursor)) (sym c.app.ensures)
    ∙ next_is _ s.objects m.shaped c.app.result c.in-Some.cursor (Some c.in-Some-next_entry.entry) c.in-Some-next_entry.ensures)
    c.given.new.self c.given.ensures
