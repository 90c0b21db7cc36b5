use Rattle.std.proofs.Common.{◌≡◌, ◌<◌, ◌≤◌, true, ap, sym, subst, ◌∙◌, length, get_or, Some, None, Option, IfNone, List, ℕ, arith}
use Rattle.std.specs.List.{find}
use Rattle.std.specs.Option.{option_map}
use Rattle.std.specs.Cmp.Lexicographic.{texts_ties}
use Rattle.store_model.specs.declared.name.ObjectName.{ObjectName}
use Rattle.dir_index.specs.Index.{IndexEntry, IndexEntries, IndexState, IsOrdered, index_at}
use Rattle.dir_index.specs.Above.{is_above, shown}
use Rattle.dir_index.proofs.Above.{found_end, found_there, found_other, least_found, none_found}
use Rattle.dir_index.proofs.index.DirIndex.next_above.Goals as goal

-- no entry lies behind the boundary
at_end : (c : goal.After-from_residual) → find (λ (e : IndexEntry). is_above c.args.app c.args.after e.0) c.args.self.now.entries ≡ None
at_end c =
    let sorted = subst IsOrdered c.self.view_is c.self.invariant in
    let past : length c.deref.result.now ≤ c.first_above-place.result = omega (arith, c.in_err-name.ensures.lookup.3) in
    let is = c.deref.ensures.value ∙ ap (λ (s : IndexState). s.entries) c.self.view_is in
    found_end c.args.app c.args.after c.args.self.now.entries c.first_above-place.result sorted c.first_above-place.ensures (subst (λ (es : IndexEntries). length es ≤ c.first_above-place.result) is past)

pub returns-in_err-name-clause-value : goal.returns-in_err-name-clause-value
returns-in_err-name-clause-value c = c.from_residual.ensures ∙ sym (ap (option_map shown) (at_end c))

pub returns-in_err-name-clause-none : goal.returns-in_err-name-clause-none
returns-in_err-name-clause-none c =
    let none : (name : ObjectName) → is_above c.args.app c.args.after name ≡ true → index_at c.args.self.now name ≡ None =
    none_found c.args.app c.args.after c.args.self.now.entries (at_end c) in
    subst (λ (r : Option (List ℕ × ℕ)). IfNone r ((name : ObjectName) → is_above c.args.app c.args.after name ≡ true → index_at c.args.self.now name ≡ None)) (sym c.from_residual.ensures) none

-- the entry at the boundary is one of the application
at_boundary : (c : goal.After-row_known-1) → find (λ (e : IndexEntry). is_above c.args.app c.args.after e.0) c.args.self.now.entries ≡ Some c.in_ok-name.field-0.now
at_boundary c =
    let sorted = subst IsOrdered c.self.view_is c.self.invariant in
    let place = c.first_above-place.result in
    let first = c.in_ok-name.field-0.now in
    let is = c.deref.ensures.value ∙ ap (λ (s : IndexState). s.entries) c.self.view_is in
    let read = c.in_ok-name.ensures.lookup.1 ∙ ap (λ (es : IndexEntries). get_or es place first) is in
    let within = subst (λ (es : IndexEntries). place < length es) is c.in_ok-name.ensures.lookup.3.0 in
    found_there c.args.app c.args.after c.args.self.now.entries place first sorted c.first_above-place.ensures within read
    (sym (texts_ties c.args.app first.0.app) ∙ sym c.eq.ensures ∙ c.if-eq.true)

pub returns-then-eq-clause-value : goal.returns-then-eq-clause-value
returns-then-eq-clause-value c = sym (ap (option_map shown) (at_boundary c))

pub returns-then-eq-clause-least : goal.returns-then-eq-clause-least
returns-then-eq-clause-least c = least_found c.args.self.now c.args.app c.args.after c.in_ok-name.field-0.now (subst IsOrdered c.self.view_is c.self.invariant) (at_boundary c)

-- the entry at the boundary is one of another application
past_application : (c : goal.Else-eq) → find (λ (e : IndexEntry). is_above c.args.app c.args.after e.0) c.args.self.now.entries ≡ None
past_application c =
    let sorted = subst IsOrdered c.self.view_is c.self.invariant in
    let place = c.first_above-place.result in
    let first = c.in_ok-name.field-0.now in
    let is = c.deref.ensures.value ∙ ap (λ (s : IndexState). s.entries) c.self.view_is in
    let read = c.in_ok-name.ensures.lookup.1 ∙ ap (λ (es : IndexEntries). get_or es place first) is in
    let within = subst (λ (es : IndexEntries). place < length es) is c.in_ok-name.ensures.lookup.3.0 in
    found_other c.args.app c.args.after c.args.self.now.entries place first sorted c.first_above-place.ensures within read
    (sym (texts_ties c.args.app first.0.app) ∙ sym c.eq.ensures ∙ c.if-eq.false)

pub returns-else-eq-clause-value : goal.returns-else-eq-clause-value
returns-else-eq-clause-value c = sym (ap (option_map shown) (past_application c))

pub returns-else-eq-clause-none : goal.returns-else-eq-clause-none
returns-else-eq-clause-none c = none_found c.args.app c.args.after c.args.self.now.entries (past_application c)
