use Rattle.std.proofs.Common.{map, ap, ◌∙◌}
use Rattle.script_text.proofs.Declared.{apps-declarations}
use Rattle.script_text.proofs.script.Script.applications.Goals as goal

pub returns : goal.returns
returns c = c.as_slice.ensures ∙ c.values.ensures.rest ∙ apps-declarations c.self.inside.declared.entries ∙ ap (λ s. map (λ d. d.app) s.applications) c.self.view_is
