use Rattle.std.proofs.Common.{ap, ◌∙◌}
use Rattle.script_text.specs.Grammar.{place_of}
use Rattle.script_text.proofs.Declared.{position-names}
use Rattle.script_text.proofs.script.Script.place_of.Goals as goal

pub returns-in_err-place-clause-place : goal.returns-in_err-place-clause-place
returns-in_err-place-clause-place c =
    c.from_residual.ensures ∙ c.in_err-place.ensures.index ∙ position-names c.args.name.now c.self.inside.declared.entries
    ∙ ap (λ s. place_of c.args.name.now s.applications) c.self.view_is

pub returns-clause-place : goal.returns-clause-place
returns-clause-place c =
    c.in_ok-place.ensures.index ∙ position-names c.args.name.now c.self.inside.declared.entries
    ∙ ap (λ s. place_of c.args.name.now s.applications) c.self.view_is
