use Rattle.std.proofs.Common.{ℕ, Bool, List, [], ◌∷◌, sym, ap, ◌∙◌}
use Rattle.std.specs.declared.ops.Bound.TheVariants.{Included}
use Rattle.std.specs.Option.{option_map}
use Rattle.std.specs.List.{find}
use Rattle.std.specs.BTreeMap.Range.{is_from_start}
use Rattle.store_model.specs.declared.name.ObjectName.{ObjectName}
use Rattle.store_model.specs.Name.{name_cmp}
use Rattle.store_model.specs.Object.{Object}
use Rattle.store_model.specs.Enumerating.{is_of, if_of, shown}
use Rattle.store_model.proofs.Enumerations.{find_cut, AreCut-first}
use Rattle.store_model.proofs.state.State.first_of.Goals as goal

pub returns : goal.returns
returns c =
    let objects = c.args.self.now.objects in
    let from : List ℕ → ObjectName × Object → Bool = λ id e. is_from_start name_cmp (Included (record { app = c.args.app; id = id })) e.0 in
    c.first_from.ensures.first
    ∙ ap (λ id. option_map shown (if_of c.args.app (find (from id) objects))) c.least_id-id.ensures
    ∙ sym (ap (option_map shown) (find_cut c.args.app (from (0 ∷ [])) (is_of c.args.app) objects c.first_from.ensures.ordered (AreCut-first c.args.app objects c.first_from.ensures.named)))
