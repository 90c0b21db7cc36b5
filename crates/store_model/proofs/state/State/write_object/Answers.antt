use Rattle.std.proofs.Common.{◌≤◌, sym, ap, subst, ◌∙◌}
use Rattle.std.specs.Option.{option_copied_mut}
use Rattle.std.proofs.lemmas.Result.{on_ok_weaker, on_err_weaker}
use Rattle.store_model.specs.Object.{AreNamed}
use Rattle.store_model.specs.Data.{written}
use Rattle.store_model.proofs.Maps.{AreNamed-set_value}
use Rattle.store_model.proofs.Changes.{change_ok, change_err, none_at_held}
use Rattle.store_model.proofs.state.State.write_object.Goals as goal

pub returns-in_default-clause-ok : goal.returns-in_default-clause-ok
returns-in_default-clause-ok c = λ attributes old found.
    absurd (none_at_held _ c.self.inside.objects.entries c.self.inside.sessions.items c.args.name.now _ c.self.view_is (ap option_copied_mut (sym c.in_default.is) ∙ c.get_mut.ensures.value) found)

pub invariant_of-self-2 : goal.invariant_of-self-2
invariant_of-self-2 c =
    let h = c.get_mut.follows.holds c.write.new.self in (
      subst (λ n. n ≤ 256) (sym h.2) c.self.invariant.0,
      subst AreNamed (sym h.0) (AreNamed-set_value _ c.self.inside.objects.entries c.write.new.self c.self.invariant.1),
    )

pub returns-clause-ok : goal.returns-clause-ok
returns-clause-ok c = λ attributes old found.
    on_ok_weaker c.write.result
    (λ done. change_ok _ c.self.inside.objects.entries _ c.self.inside.sessions.items c.args.name.now c.in-Some.object.now c.write.new.self attributes old (λ bytes. written bytes c.args.position c.args.bytes.now)
    c.self.view_is (ap option_copied_mut (sym c.in-Some.is) ∙ c.get_mut.ensures.value) (c.get_mut.follows.holds c.write.new.self).0 done found)
    c.write.ensures.ok

pub returns-clause-err : goal.returns-clause-err
returns-clause-err c =
    on_err_weaker c.write.result
    (λ kept. change_err _ c.self.inside.objects.entries _ c.self.inside.sessions.items c.args.name.now c.in-Some.object.now c.write.new.self
    c.self.view_is (ap option_copied_mut (sym c.in-Some.is) ∙ c.get_mut.ensures.value) (c.get_mut.follows.holds c.write.new.self).0 kept)
    c.write.ensures.err
