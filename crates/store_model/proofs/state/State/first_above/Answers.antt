use Rattle.std.proofs.Common.{sym, ap, ◌∙◌}
use Rattle.std.specs.declared.ops.Bound.TheVariants.{Excluded}
use Rattle.std.specs.Option.{option_map}
use Rattle.std.specs.BTreeMap.Range.{is_from_start}
use Rattle.store_model.specs.declared.name.ObjectName.{ObjectName}
use Rattle.store_model.specs.Name.{name_cmp}
use Rattle.store_model.specs.Object.{Object}
use Rattle.store_model.specs.Enumerating.{is_above, shown}
use Rattle.store_model.proofs.Enumerations.{find_cut, AreCut-above}
use Rattle.store_model.proofs.state.State.first_above.Goals as goal

pub returns : goal.returns
returns c =
    let objects = c.args.self.now.objects in
    c.first_from.ensures.first
    ∙ sym (ap (option_map shown) (find_cut c.args.app (λ (e : ObjectName × Object). is_from_start name_cmp (Excluded (record { app = c.args.app; id = c.args.id })) e.0) (is_above c.args.app c.args.id) objects c.first_from.ensures.ordered (AreCut-above c.args.app c.args.id objects)))
