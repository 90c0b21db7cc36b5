use Rattle.std.proofs.Common.{ap, ◌∙◌, ◌++◌, ◌∷◌, []}
use Rattle.script_text.specs.Script.{declarations_of}
use Rattle.script_text.specs.Grammar.{place_of}
use Rattle.script_text.proofs.Declared.{declarations-insert}
use Rattle.script_text.proofs.script.Script.declare.Goals as goal

pub returns : goal.returns
returns c =
    let entries = c.self.inside.declared.entries in
    ap (λ es. record { applications = declarations_of es; steps = c.self.inside.made.items }) c.in_ok-insert.ensures.entries
    ∙ ap (λ ds. record { applications = ds; steps = c.self.inside.made.items }) (declarations-insert entries c.args.name c.args.app (ap (λ s. place_of c.args.name.items s.applications) c.self.view_is ∙ c.requires.new))
    ∙ ap (λ s. record { applications = s.applications ++ record { name = c.args.name.items; app = c.args.app } ∷ []; steps = s.steps }) c.self.view_is
