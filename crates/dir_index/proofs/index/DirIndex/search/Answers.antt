use Rattle.std.proofs.Common.{ap, sym, subst, ◌∙◌, rules, IfOk, IfErr}
use Rattle.std.proofs.lemmas.Fn.{always_returns_same}
use Rattle.std.specs.List.Sorted.{IsStrictlySortedBy}
use Rattle.std.specs.Map.{keys_of}
use Rattle.store_model.specs.Name.{name_cmp}
use Rattle.dir_index.specs.Index.{IndexEntry, IndexEntries, IndexState}
use Rattle.dir_index.specs.Search.{IsAt, IsGapFor}
use Rattle.dir_index.proofs.Places.{search_found, search_absent}
use Rattle.dir_index.proofs.index.DirIndex.search.Goals as goal

pub returns-clause-found : goal.returns-clause-found
returns-clause-found c =
    let facts = c.binary_search_by.ensures in
    let position = facts.position (λ (e : IndexEntry). name_cmp e.0 c.args.name.now) (always_returns_same _ _ _ (λ a r q k. search rules)) in
    let sorted = subst (λ (es : IndexEntries). IsStrictlySortedBy name_cmp (keys_of es)) (sym c.deref.ensures.value) c.self.invariant in
    subst (λ (es : IndexEntries). IfOk c.binary_search_by.result (IsAt es c.args.name.now))
    (c.deref.ensures.value ∙ ap (λ (s : IndexState). s.entries) c.self.view_is)
    (search_found c.deref.result.now c.args.name.now c.binary_search_by.result sorted facts.bound position)

pub returns-clause-absent : goal.returns-clause-absent
returns-clause-absent c =
    let facts = c.binary_search_by.ensures in
    let position = facts.position (λ (e : IndexEntry). name_cmp e.0 c.args.name.now) (always_returns_same _ _ _ (λ a r q k. search rules)) in
    let sorted = subst (λ (es : IndexEntries). IsStrictlySortedBy name_cmp (keys_of es)) (sym c.deref.ensures.value) c.self.invariant in
    subst (λ (es : IndexEntries). IfErr c.binary_search_by.result (IsGapFor es c.args.name.now))
    (c.deref.ensures.value ∙ ap (λ (s : IndexState). s.entries) c.self.view_is)
    (search_absent c.deref.result.now c.args.name.now c.binary_search_by.result sorted facts.bound position)
