use Rattle.std.proofs.Common.{Option, sym, subst}
use Rattle.dir_records.specs.declared.entry.DirEntry.{DirEntry}
use Rattle.crash_core.specs.declared.change.EntryChange.{EntryChange}
use Rattle.store_commit.specs.NameIndex.{ChangesNames, ClearsName}
use Rattle.store_commit.proofs.NameIndexes.{clear_some}
use Rattle.store_commit.proofs.names.change_names.Goals as goal

pub returns-in-Clear-Some-clause-names : goal.returns-in-Clear-Some-clause-names
returns-in-Clear-Some-clause-names c =
    let s = c.args.index.now in
    let t = c.forget_name.new.index in
    subst (λ (change : EntryChange). ChangesNames s t c.args.before.now change) (sym c.in-Clear-Some.is-0)
    (subst (λ (b : Option DirEntry). ClearsName s t b c.in-Clear-Some.index-0) (sym c.in-Clear-Some.is-1)
    (clear_some s t c.in-Clear-Some.index-0 c.in-Clear-Some.old c.forget_name.ensures.names))
