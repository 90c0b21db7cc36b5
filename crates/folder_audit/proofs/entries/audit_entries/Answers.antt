use Rattle.std.proofs.Common.{◌≡◌, ◌∙◌, ◌+◌, ◌∷◌, ◌++◌, [], get_or, take, refl, sym, ap, subst, arith}
use Rattle.std.proofs.lemmas.List.{take_more}
use Rattle.htree_file.specs.Opening.{Loaded}
use Rattle.htree_file.proofs.Causes.{passed_none, rests_none}
use Rattle.crash_core.specs.Entries.{name_of}
use Rattle.dir_index.specs.Index.{IndexEntries, IndexEntry}
use Rattle.folder_audit.specs.Audit.{PutsLines, folder_states, with_directory}
use Rattle.folder_audit.specs.Entries.{IsLine}
use Rattle.folder_audit.proofs.Ordered.{form_of}
use Rattle.folder_audit.proofs.Stepping.{ends_at, lines_more, lines_none, passed_on, rests_on}
use Rattle.folder_audit.proofs.entries.audit_entries.Goals as goal

pub loop-place-init : goal.loop-place-init
loop-place-init g c =
    let under = c.args.under.now in
    let old = folder_states g.G.StoreFile.state (with_directory c.args.files.now.items c.args.dir.now.file) in
    record {
      puts = lines_none under.keys under.block c.args.dir.now.tree c.args.entries.now old c.args.lines.now.items;
      passed = λ none k. passed_none (old none k);
      rests = λ none k. rests_none (old none k);
      last = λ none. refl;
      dir = refl;
      whole = c.requires.files;
      capacity = omega arith;
    }

pub audit_entry-requires-clause-form : goal.audit_entry-requires-clause-form
audit_entry-requires-clause-form g c =
    let held = c.entry_of-held.result in
    let d : IndexEntry = (name_of held.entry, held.index) in
    form_of c.args.entries.now c.requires.entries (get_or c.args.names.now.entries c.loop-place.place d).1 held.entry (c.entry_of-held.ensures.named d).at

pub returns-in-Err-clause-answer : goal.returns-in-Err-clause-answer
returns-in-Err-clause-answer g c =
    let state = g.G.StoreFile.state in
    let under = c.args.under.now in
    let before = c.loop-place.invariant in
    let a = folder_states state (with_directory c.args.files.now.items c.args.dir.now.file) in
    let b = folder_states state (with_directory c.loop-place.files.items c.loop-place.dir.file) in
    let d = folder_states state (with_directory c.audit_entry.new.files.items c.audit_entry.new.dir.file) in
    ends_at under.keys under.block c.args.dir.now.tree c.args.entries.now a b d c.args.names.now.entries c.loop-place.place c.args.lines.now.items c.loop-place.lines.items c.audit_entry.new.lines.items c.in-Err.fault
    before.rests c.in-Err.ensures.rests before.passed before.puts c.in-Err.ensures.answer.0 c.in-Err.ensures.answer.1

pub returns-in-Err-clause-rests : goal.returns-in-Err-clause-rests
returns-in-Err-clause-rests g c =
    let state = g.G.StoreFile.state in
    let a = folder_states state (with_directory c.args.files.now.items c.args.dir.now.file) in
    let b = folder_states state (with_directory c.loop-place.files.items c.loop-place.dir.file) in
    let d = folder_states state (with_directory c.audit_entry.new.files.items c.audit_entry.new.dir.file) in
    rests_on a b d c.loop-place.invariant.rests c.in-Err.ensures.rests

pub loop-place-preserved : goal.loop-place-preserved
loop-place-preserved g c =
    let state = g.G.StoreFile.state in
    let under = c.args.under.now in
    let tree = c.args.dir.now.tree in
    let entries = c.args.entries.now in
    let names = c.args.names.now.entries in
    let place = c.loop-place.place in
    let before = c.loop-place.invariant in
    let next = c.audit_entry.new in
    let a = folder_states state (with_directory c.args.files.now.items c.args.dir.now.file) in
    let b = folder_states state (with_directory c.loop-place.files.items c.loop-place.dir.file) in
    let d = folder_states state (with_directory next.files.items next.dir.file) in
    let held = c.entry_of-held.result in
    let other : IndexEntry = (name_of held.entry, held.index) in
    let name = get_or names place other in
    let answer = c.in-Ok.ensures.answer in
    let more : take (place + 1) names ≡ take place names ++ name ∷ [] = take_more names place other (omega (arith, c.loop-place-test.true, c.len-place-end.ensures.value)) in
    let line = subst (λ (t : Loaded). IsLine under.keys under.block t held.index held.entry b d answer.0) (ap (λ t. t.tree) before.dir) answer.1 in
    let puts = lines_more under.keys under.block entries a b d before.rests c.in-Ok.ensures.rests tree (take place names) c.args.lines.now.items c.loop-place.lines.items name held.index held.entry answer.0 next.lines.items
    (c.entry_of-held.ensures.index other) (c.entry_of-held.ensures.named other) line answer.2 before.puts in
    record {
      puts = subst (λ (l : IndexEntries). PutsLines under.keys under.block tree entries a d l c.args.lines.now.items next.lines.items) (sym more) puts;
      passed = passed_on a b d before.passed line.passed;
      rests = rests_on a b d before.rests c.in-Ok.ensures.rests;
      last = λ none. c.in-Ok.ensures.last none ∙ before.last none;
      dir = c.in-Ok.ensures.dir ∙ (λ i. record (before.dir i) { file = next.dir.file });
      whole = c.in-Ok.ensures.whole;
      capacity = omega (arith, before.capacity, c.in-Ok.ensures.capacity);
    }
