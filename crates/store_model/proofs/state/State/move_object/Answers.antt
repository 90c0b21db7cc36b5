use Rattle.std.proofs.Common.{◌≡◌, ◌≤◌, true, false, cond, is_some, Some, None, sym, ap, subst, ◌∙◌}
use Rattle.std.specs.Option.{option_copied_mut}
use Rattle.std.proofs.lemmas.Bool.{false≢true}
use Rattle.std.specs.Map.{lookup, set_value, remove_entry}
use Rattle.std.specs.BTreeMap.{insert_entry}
use Rattle.store_model.specs.Name.{name_cmp}
use Rattle.store_model.specs.Object.{AreNamed, holds, object_at, moved_object}
use Rattle.store_model.proofs.Maps.{at, apart, apart-sym, few-moved, moved_by_steps, moved_object-held, AreNamed-insert_entry, AreNamed-remove_entry}
use Rattle.store_model.proofs.state.State.move_object.Goals as goal

gone : (c : goal.Joined-none-2) → ⊥
gone c =
    let entries = c.self.inside.objects.entries in
    let free : holds entries c.args.new ≡ false = ap (λ s. holds s.objects c.args.new) c.self.view_is ∙ c.requires.free in
    let held : holds entries c.args.old.now ≡ true = sym c.contains_key.ensures ∙ c.if-not-contains_key.false in
    false≢true (ap is_some (
    ap option_copied_mut (sym c.in_default-get_mut.is) ∙ c.get_mut.ensures.value ∙ c.remove.ensures.updates.0 c.args.new
    ∙ ap (λ b. cond b None (lookup (at c.args.new) c.insert.new.self.entries)) (apart c.args.old.now c.args.new entries held free)
    ∙ c.in_ok-_none.ensures.updates.1))

pub invariant_of-self-in_default-get_mut : goal.invariant_of-self-in_default-get_mut
invariant_of-self-in_default-get_mut c = absurd (gone c)

pub returns-in_default-get_mut-clause-ok : goal.returns-in_default-get_mut-clause-ok
returns-in_default-get_mut-clause-ok c = absurd (gone c)

moved : (c : goal.Joined-none-3) → (c.get_mut.follows.lender c.in-Some.object).entries ≡ insert_entry name_cmp (remove_entry (at c.args.old.now) c.self.inside.objects.entries) c.args.new c.in-Some.object
moved c =
    let entries = c.self.inside.objects.entries in
    let free : holds entries c.args.new ≡ false = ap (λ s. holds s.objects c.args.new) c.self.view_is ∙ c.requires.free in
    let held : holds entries c.args.old.now ≡ true = sym c.contains_key.ensures ∙ c.if-not-contains_key.false in
    (c.get_mut.follows.holds c.in-Some.object).0
    ∙ ap (λ l. set_value (at c.args.new) l c.in-Some.object) (c.remove.ensures.entries ∙ ap (remove_entry (at c.args.old.now)) c.in_ok-_none.ensures.entries)
    ∙ moved_by_steps c.args.old.now c.args.new c.new-empty.result c.in-Some.object entries (apart c.args.old.now c.args.new entries held free) free c.in_ok-_none.ensures.was_ordered

pub invariant_of-self-2 : goal.invariant_of-self-2
invariant_of-self-2 c =
    let h = c.get_mut.follows.holds c.in-Some.object in
    let entries = c.self.inside.objects.entries in (
      subst (λ n. n ≤ 256) (sym h.2) (few-moved _ _ _ _ _ c.in_ok-_none.ensures.len c.remove.ensures.len (ap is_some c.in-Some.is) c.self.invariant.0),
      subst AreNamed (sym (moved c)) (AreNamed-insert_entry (remove_entry (at c.args.old.now) entries) c.args.new c.in-Some.object c.requires.named (AreNamed-remove_entry (at c.args.old.now) entries c.self.invariant.1)),
    )

pub returns-clause-ok : goal.returns-clause-ok
returns-clause-ok c =
    let entries = c.self.inside.objects.entries in
    let free : holds entries c.args.new ≡ false = ap (λ s. holds s.objects c.args.new) c.self.view_is ∙ c.requires.free in
    let held : holds entries c.args.old.now ≡ true = sym c.contains_key.ensures ∙ c.if-not-contains_key.false in
    let object : object_at entries c.args.old.now ≡ Some c.in-Some.object =
    sym (ap (λ b. cond b (Some c.new-empty.result) (lookup (at c.args.old.now) entries)) (apart-sym c.args.old.now c.args.new (apart c.args.old.now c.args.new entries held free)))
    ∙ sym (c.in_ok-_none.ensures.updates.0 c.args.old.now) ∙ sym c.remove.ensures.value ∙ c.in-Some.is in
    ap (λ es. record { objects = es; sessions = c.self.inside.sessions.items }) (moved c ∙ sym (moved_object-held entries c.args.old.now c.args.new c.in-Some.object object))
    ∙ ap (λ s. record { objects = moved_object s.objects c.args.old.now c.args.new; sessions = s.sessions }) c.self.view_is
