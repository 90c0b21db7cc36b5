use Rattle.std.proofs.Common.{length, sym, ap, ◌∙◌}
use Rattle.std.specs.Option.{option_map}
use Rattle.std.specs.List.{find}
use Rattle.std.specs.BTreeMap.Range.{is_from_start}
use Rattle.std.specs.Cmp.Lexicographic.{texts_ties}
use Rattle.store_model.specs.declared.name.ObjectName.{ObjectName}
use Rattle.store_model.specs.Name.{name_cmp}
use Rattle.store_model.specs.Object.{Object, size_of}
use Rattle.store_model.specs.Enumerating.{if_of, shown}
use Rattle.store_model.proofs.Enumerations.{find-filter_nil, find-filter_cons, range-from, shown-none, shown-first, shown-other}
use Rattle.store_model.proofs.state.State.first_from.Goals as goal

pub returns-in_err-name-clause-first : goal.returns-in_err-name-clause-first
returns-in_err-name-clause-first c =
    let test = λ (e : ObjectName × Object). is_from_start name_cmp c.args.start e.0 in
    let objects = c.self.inside.objects.entries in
    c.from_residual.ensures
    ∙ shown-none c.args.app test objects (find-filter_nil test objects (sym (range-from c.args.start objects) ∙ sym (c.range.ensures.between tt) ∙ c.in_err-name.ensures.steps.0))
    ∙ ap (λ s. option_map shown (if_of c.args.app (find test s.objects))) c.self.view_is

pub returns-then-eq-clause-first : goal.returns-then-eq-clause-first
returns-then-eq-clause-first c =
    let test = λ (e : ObjectName × Object). is_from_start name_cmp c.args.start e.0 in
    let objects = c.self.inside.objects.entries in
    let first : ObjectName × Object = (c.in_ok-name.name.now, c.in_ok-name.object.now) in
    shown-first c.args.app test objects first (length c.content.result.now)
    (find-filter_cons test objects first c.next.new.self (sym (range-from c.args.start objects) ∙ sym (c.range.ensures.between tt) ∙ c.in_ok-name.ensures.steps))
    (sym (texts_ties c.args.app (c.in_ok-name.name.now).app) ∙ sym c.eq.ensures ∙ c.if-eq.true)
    (ap size_of c.content.ensures.sound.1)
    ∙ ap (λ s. option_map shown (if_of c.args.app (find test s.objects))) c.self.view_is

pub returns-else-eq-clause-first : goal.returns-else-eq-clause-first
returns-else-eq-clause-first c =
    let test = λ (e : ObjectName × Object). is_from_start name_cmp c.args.start e.0 in
    let objects = c.self.inside.objects.entries in
    let first : ObjectName × Object = (c.in_ok-name.name.now, c.in_ok-name.object.now) in
    shown-other c.args.app test objects first
    (find-filter_cons test objects first c.next.new.self (sym (range-from c.args.start objects) ∙ sym (c.range.ensures.between tt) ∙ c.in_ok-name.ensures.steps))
    (sym (texts_ties c.args.app (c.in_ok-name.name.now).app) ∙ sym c.eq.ensures ∙ c.if-eq.false)
    ∙ ap (λ s. option_map shown (if_of c.args.app (find test s.objects))) c.self.view_is
