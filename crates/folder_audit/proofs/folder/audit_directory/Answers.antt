use Rattle.std.proofs.Common.{◌≡◌, ◌∙◌, ℕ, List, length, Option, Err, ap, subst, sym, arith}
use Rattle.tee_types.specs.Limits.{directory_file, file_count}
use Rattle.dir_records.specs.declared.entry.DirEntry.{DirEntry}
use Rattle.folder_audit.specs.Audit.{EndsUnder, ListAnswer, OnlyReads, folder_states, with_directory}
use Rattle.folder_audit.specs.Order.{AreNamesOf}
use Rattle.folder_audit.proofs.Opened.{ends_listed, ends_unread}
use Rattle.folder_audit.proofs.Places.{directory_last, one_rest, touches_directory}
use Rattle.folder_audit.proofs.Stepping.{rests_on}
use Rattle.folder_audit.proofs.folder.audit_directory.Goals as goal

pub returns-in-Err-clause-ends : goal.returns-in-Err-clause-ends
returns-in-Err-clause-ends g c =
    let state = g.G.StoreFile.state in
    let files = c.args.files.now in
    let under = c.args.under.now in
    let unread = c.in-Err.field-0 in
    let many : length files.items ≡ file_count = omega (arith, files.ok.0, c.requires.files) in
    let old = folder_states state (with_directory files.items c.args.dir) in
    let new = folder_states state (with_directory files.items unread.file) in
    subst (λ (l : List ℕ). EndsUnder under.keys under.block old new l {A = Unit {0}} (Err unread.fault)) (sym c.requires.empty)
    (ends_unread old new (state c.args.dir) (state unread.file) (touches_directory state files.items c.args.dir unread.file many) under.keys under.block c.args.root unread.fault c.requires.named c.in-Err.ensures.stops)

pub returns-in-Err-clause-rests : goal.returns-in-Err-clause-rests
returns-in-Err-clause-rests g c =
    let state = g.G.StoreFile.state in
    let files = c.args.files.now in
    let next = c.in-Err.field-0.file in
    let many : length files.items ≡ file_count = omega (arith, files.ok.0, c.requires.files) in
    one_rest _ _ directory_file (state c.args.dir) (state next) (touches_directory state files.items c.args.dir next many) c.in-Err.ensures.rests_err

pub returns-in-Err-clause-last : goal.returns-in-Err-clause-last
returns-in-Err-clause-last g c =
    let state = g.G.StoreFile.state in
    let files = c.args.files.now in
    let next = c.in-Err.field-0.file in
    let many : length files.items ≡ file_count = omega (arith, files.ok.0, c.requires.files) in
    directory_last _ _ (state c.args.dir) (state next) (touches_directory state files.items c.args.dir next many)

pub returns-in_default-clause-rests : goal.returns-in_default-clause-rests
returns-in_default-clause-rests g c =
    let state = g.G.StoreFile.state in
    let files = c.args.files.now in
    let next = c.into_file.result in
    let many : length files.items ≡ file_count = omega (arith, files.ok.0, c.requires.files) in
    one_rest _ _ directory_file (state c.args.dir) (state next) (touches_directory state files.items c.args.dir next many) (rw c.into_file.ensures c.in-Ok.ensures.rests)

pub returns-in_default-clause-last : goal.returns-in_default-clause-last
returns-in_default-clause-last g c =
    let state = g.G.StoreFile.state in
    let files = c.args.files.now in
    let next = c.into_file.result in
    let many : length files.items ≡ file_count = omega (arith, files.ok.0, c.requires.files) in
    directory_last _ _ (state c.args.dir) (state next) (touches_directory state files.items c.args.dir next many)

pub returns-clause-ends : goal.returns-clause-ends
returns-clause-ends g c =
    let state = g.G.StoreFile.state in
    let under = c.args.under.now in
    let files = c.args.files.now in
    let tree = c.in-Ok.directory.tree in
    let entries = c.in-Ok.directory.entries.items in
    let names = c.in-Ok-names_of.names.entries in
    let audit = c.audit_entries-end in
    let lines = audit.new.lines.items in
    let many : length files.items ≡ file_count = omega (arith, files.ok.0, c.requires.files) in
    let old = folder_states state (with_directory files.items c.args.dir) in
    let mid = folder_states state (with_directory files.items tree.file) in
    let new = folder_states state (with_directory audit.new.files.items audit.new.dir.file) in
    let are = subst (λ (l : List (Option DirEntry)). AreNamesOf l names) c.deref.ensures.value c.in-Ok-names_of.ensures in
    let listed = subst (λ (l : List (Option DirEntry)). ListAnswer under.keys under.block tree.tree l mid new names c.args.lines.now.items lines audit.result) c.deref-2.ensures.value audit.ensures.answer in
    let from_none = subst (λ (l : List ℕ). ListAnswer under.keys under.block tree.tree entries mid new names l lines audit.result) c.requires.empty listed in
    subst (λ f. EndsUnder under.keys under.block old (folder_states state (with_directory audit.new.files.items f)) lines audit.result) (sym c.into_file-2.ensures)
    (ends_listed under.keys under.block c.args.root tree.tree entries old mid new (state c.args.dir) (state tree.file) (touches_directory state files.items c.args.dir tree.file many) c.in-Ok.ensures.rests
    audit.ensures.rests c.in-Ok.ensures.passed c.requires.named c.in-Ok.ensures.read c.in-Ok.ensures.current c.in-Ok.ensures.loaded names lines audit.result are from_none)

pub returns-clause-rests : goal.returns-clause-rests
returns-clause-rests g c =
    let state = g.G.StoreFile.state in
    let files = c.args.files.now in
    let next = c.in-Ok.directory.tree.file in
    let audit = c.audit_entries-end in
    let many : length files.items ≡ file_count = omega (arith, files.ok.0, c.requires.files) in
    let old = folder_states state (with_directory files.items c.args.dir) in
    let mid = folder_states state (with_directory files.items next) in
    let new = folder_states state (with_directory audit.new.files.items audit.new.dir.file) in
    subst (λ f. OnlyReads old (folder_states state (with_directory audit.new.files.items f))) (sym c.into_file-2.ensures)
    (rests_on old mid new (one_rest old mid directory_file (state c.args.dir) (state next) (touches_directory state files.items c.args.dir next many) c.in-Ok.ensures.rests) audit.ensures.rests)

pub returns-clause-last : goal.returns-clause-last
returns-clause-last g c =
    let state = g.G.StoreFile.state in
    let files = c.args.files.now in
    let next = c.in-Ok.directory.tree.file in
    let audit = c.audit_entries-end in
    let many : length files.items ≡ file_count = omega (arith, files.ok.0, c.requires.files) in
    let old = folder_states state (with_directory files.items c.args.dir) in
    let mid = folder_states state (with_directory files.items next) in
    λ none.
    ap (λ f. folder_states state (with_directory audit.new.files.items f) none file_count) c.into_file-2.ensures
    ∙ audit.ensures.last none ∙ directory_last old mid (state c.args.dir) (state next) (touches_directory state files.items c.args.dir next many) none
