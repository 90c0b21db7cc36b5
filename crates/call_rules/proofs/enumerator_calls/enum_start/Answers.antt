use Rattle.std.proofs.Common.{ℕ, List, Some, None, ◌∙◌, sym, ap}
use Rattle.std.specs.List.{list_any}
use Rattle.store_model.specs.Enumerating.{is_of}
use Rattle.call_rules.proofs.LookedUp.{applications_listed}
use Rattle.call_rules.proofs.Enumerators.{start_missed, start_none, start_done}
use Rattle.call_rules.proofs.enumerator_calls.enum_start.Goals as goal

pub returns-in_default-clause-told : goal.returns-in_default-clause-told
returns-in_default-clause-told g c = λ s i m. start_missed s i c.args.session.now m.session c.args.number (sym c.cursor.ensures ∙ c.in_default.is)

pub returns-in_default-next_above-clause-told : goal.returns-in_default-next_above-clause-told
returns-in_default-next_above-clause-told g c = λ s i m. start_none s i c.args.session.now m.session c.args.number c.in-Some._live (sym c.cursor.ensures ∙ c.in-Some.is)
    (ap (λ (app : List ℕ). list_any (is_of app) s.objects) (sym c.app.ensures) ∙ applications_listed _ s.objects c.app.result None m.shaped c.in_default-next_above.ensures)
    c.reset.new.self c.reset.ensures

pub returns-clause-told : goal.returns-clause-told
returns-clause-told g c = λ s i m. start_done s i c.args.session.now m.session c.args.number c.in-Some._live (sym c.cursor.ensures ∙ c.in-Some.is)
    (ap (λ (app : List ℕ). list_any (is_of app) s.objects) (sym c.app.ensures) ∙ applications_listed _ s.objects c.app.result (Some c.in-Some-next_above._first) m.shaped c.in-Some-next_above.ensures)
    c.start.new.self c.start.ensures
