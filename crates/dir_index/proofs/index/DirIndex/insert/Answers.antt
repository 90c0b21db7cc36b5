use Rattle.std.proofs.Common.{◌≡◌, ap, sym, subst, ◌∙◌, is_some, true≢false, if◌then◌else◌}
use Rattle.std.specs.List.{insert}
use Rattle.std.specs.Result.{is_ok}
use Rattle.std.specs.List.Sorted.{IsStrictlySortedBy}
use Rattle.std.specs.Map.{keys_of}
use Rattle.std.specs.BTreeMap.{insert_entry}
use Rattle.store_model.specs.Name.{name_cmp}
use Rattle.dir_index.specs.Index.{IndexEntries, IndexState, named}
use Rattle.dir_index.proofs.Places.{lookup_at, insert_gap, sorted_insert}
use Rattle.dir_index.proofs.index.DirIndex.insert.Goals as goal

-- the entries after the insertion
inserted : (c : goal.After-unwrap) → c.insert.new.self.items ≡ insert_entry name_cmp c.args.self.now.entries (named c.args.app c.args.id) c.args.index
inserted c =
    c.insert.ensures.items
    ∙ ap (λ b. if b then insert c.self.inside.entries.items c.in-Err.place (named c.args.app c.args.id, c.args.index) else c.self.inside.entries.items) (ap is_ok c.unwrap.ensures)
    ∙ ap (λ (s : IndexState). insert s.entries c.in-Err.place (named c.args.app c.args.id, c.args.index)) c.self.view_is
    ∙ insert_gap c.args.self.now.entries (named c.args.app c.args.id) c.args.index c.in-Err.place c.in-Err.ensures.absent

pub returns-in-Err-clause-entries : goal.returns-in-Err-clause-entries
returns-in-Err-clause-entries c = inserted c

pub invariant_of-self : goal.invariant_of-self
invariant_of-self c =
    let sorted = subst (λ (s : IndexState). IsStrictlySortedBy name_cmp (keys_of s.entries)) c.self.view_is c.self.invariant in
    subst (λ (es : IndexEntries). IsStrictlySortedBy name_cmp (keys_of es)) (sym (inserted c))
    (sorted_insert c.args.self.now.entries (named c.args.app c.args.id) c.args.index sorted)

-- the name is new
held : (c : goal.In_default) → ⊥
held c = absurd (true≢false (sym (ap is_some (lookup_at c.args.self.now.entries (named c.args.app c.args.id) c.in_default.field-0 (named c.args.app c.args.id, 0) c.in_default.ensures.found)) ∙ ap is_some c.requires.fresh))

pub returns-in_default-clause-entries : goal.returns-in_default-clause-entries
returns-in_default-clause-entries c = absurd (held c)

pub returns-in_default-clause-spare : goal.returns-in_default-clause-spare
returns-in_default-clause-spare c = absurd (held c)
