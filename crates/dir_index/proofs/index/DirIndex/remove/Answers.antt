use Rattle.std.proofs.Common.{ap, sym, subst, ◌∙◌, true≢false, is_some}
use Rattle.std.specs.List.{remove}
use Rattle.std.specs.List.Sorted.{IsStrictlySortedBy}
use Rattle.std.specs.Map.{keys_of}
use Rattle.store_model.specs.Name.{name_cmp}
use Rattle.dir_index.specs.Index.{IndexEntries, IndexState, named}
use Rattle.dir_index.proofs.Places.{lookup_at, lookup_gap, remove_at, remove_none, sorted_remove}
use Rattle.dir_index.proofs.index.DirIndex.remove.Goals as goal

pub returns-in-Ok-clause-entries : goal.returns-in-Ok-clause-entries
returns-in-Ok-clause-entries c =
    c.remove.ensures.items
    ∙ ap (λ (s : IndexState). remove s.entries c.in-Ok.place) c.self.view_is
    ∙ remove_at c.args.self.now.entries (named c.args.app c.args.id) c.in-Ok.place c.in-Ok.ensures.found

pub invariant_of-self : goal.invariant_of-self
invariant_of-self c =
    let removed = c.remove.ensures.items
    ∙ ap (λ (s : IndexState). remove s.entries c.in-Ok.place) c.self.view_is
    ∙ remove_at c.args.self.now.entries (named c.args.app c.args.id) c.in-Ok.place c.in-Ok.ensures.found in
    let sorted = subst (λ (s : IndexState). IsStrictlySortedBy name_cmp (keys_of s.entries)) c.self.view_is c.self.invariant in
    subst (λ (es : IndexEntries). IsStrictlySortedBy name_cmp (keys_of es)) (sym removed)
    (sorted_remove c.args.self.now.entries (named c.args.app c.args.id) sorted)

pub returns-in-Ok-clause-absent : goal.returns-in-Ok-clause-absent
returns-in-Ok-clause-absent c none =
    absurd (true≢false (sym (ap is_some (lookup_at c.args.self.now.entries (named c.args.app c.args.id) c.in-Ok.place (named c.args.app c.args.id, 0) c.in-Ok.ensures.found)) ∙ ap is_some none))

pub returns-in_default-clause-entries : goal.returns-in_default-clause-entries
returns-in_default-clause-entries c =
    let name = named c.args.app c.args.id in
    sym (remove_none c.args.self.now.entries name (lookup_gap c.args.self.now.entries name c.in_default.field-0 c.in_default.ensures.absent))

pub returns-in_default-clause-held : goal.returns-in_default-clause-held
returns-in_default-clause-held c held =
    absurd (true≢false (sym held ∙ ap is_some (lookup_gap c.args.self.now.entries (named c.args.app c.args.id) c.in_default.field-0 c.in_default.ensures.absent)))
