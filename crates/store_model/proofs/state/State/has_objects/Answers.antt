use Rattle.std.proofs.Common.{sym, ap, ◌∙◌, is_some}
use Rattle.std.specs.List.{find}
use Rattle.store_model.specs.Enumerating.{is_of}
use Rattle.store_model.proofs.Enumerations.{list_any-find, is_some-shown}
use Rattle.store_model.proofs.state.State.has_objects.Goals as goal

pub returns : goal.returns
returns c =
    c.is_some.ensures ∙ ap is_some c.first_of.ensures ∙ is_some-shown (find (is_of c.args.app) c.args.self.now.objects) ∙ sym (list_any-find (is_of c.args.app) c.args.self.now.objects)
