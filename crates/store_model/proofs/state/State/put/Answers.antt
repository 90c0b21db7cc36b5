use Rattle.std.proofs.Common.{length, ◌≡◌, ◌≤◌, ◌+◌, cond, is_some, false, sym, ap, subst, ◌∙◌}
use Rattle.store_model.specs.Object.{AreNamed}
use Rattle.store_model.specs.Handles.{lacks_room}
use Rattle.store_model.proofs.Maps.{AreNamed-insert_entry}
use Rattle.store_model.proofs.Room.{still_small}
use Rattle.store_model.proofs.state.State.put.Goals as goal

pub invariant_of-self-2 : goal.invariant_of-self-2
invariant_of-self-2 c =
    let inserted = c.in_ok-_replaced.ensures in
    let room : lacks_room c.self.inside.objects.entries c.args.name ≡ false = ap (λ s. lacks_room s.objects c.args.name) c.self.view_is ∙ c.requires.room in (
      subst (λ n. n ≤ 256) (sym (inserted.len ∙ ap (λ o. length c.self.inside.objects.entries + cond (is_some o) 0 1) inserted.old))
          (still_small _ (length c.self.inside.objects.entries) room c.self.invariant.0),
      subst AreNamed (sym inserted.entries) (AreNamed-insert_entry c.self.inside.objects.entries c.args.name c.args.object c.requires.named c.self.invariant.1),
    )
