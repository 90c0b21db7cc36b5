use Rattle.std.proofs.Common.{◌∙◌, Option, Vec, Global, sym, inr}
use Rattle.dir_records.specs.declared.entry.DirEntry.{DirEntry}
use Rattle.dir_file.proofs.Loading.{directory_wrong, err_differs, entries_widths, err_directory, few_blocks, ok_directory, ok_pages}
use Rattle.dir_file.proofs.Seen.{all_anew}
use Rattle.dir_file.proofs.load.read_directory.Goals as goal

pub returns-then-bytes-ne32768-clause-fault : goal.returns-then-bytes-ne32768-clause-fault
returns-then-bytes-ne32768-clause-fault g c =
    inr (λ told. directory_wrong (g.F.StoreFile.state c.args.tree.now.file).reads c.args.tree.now.key c.args.tree.now.tree c.in_ok-pages.pages.items c.length-bytes.result
    (few_blocks c.args.tree.now.root c.args.tree.now.tree c.length-bytes.ensures.verified) c.length-bytes.ensures.length c.if-bytes-ne32768.true (c.in_ok-pages.ensures.pages told))

pub returns-clause-directory : goal.returns-clause-directory
returns-clause-directory g c =
    let t = c.args.tree.now in
    ok_directory (g.F.StoreFile.state t.file) (g.F.StoreFile.state c.read_pages.new.tree.file) t.key t.root t.tree c.in_ok-pages.pages.items c.deref.result.now
    (Vec (Option DirEntry) Global) (λ v. v.items) c.read_entries.result c.length-bytes.ensures.verified c.in_ok-pages.ensures.count (sym c.length-bytes.ensures.length ∙ c.if-bytes-ne32768.false)
    c.deref.ensures.value c.in_ok-pages.ensures.pages c.read_entries.ensures

pub returns-clause-fault : goal.returns-clause-fault
returns-clause-fault g c =
    let t = c.args.tree.now in
    err_directory (g.F.StoreFile.state t.file) (g.F.StoreFile.state c.read_pages.new.tree.file) t.key t.root t.tree c.in_ok-pages.pages.items c.deref.result.now
    (Vec (Option DirEntry) Global) (λ v. v.items) c.read_entries.result c.length-bytes.ensures.verified c.in_ok-pages.ensures.count (sym c.length-bytes.ensures.length ∙ c.if-bytes-ne32768.false)
    c.deref.ensures.value c.in_ok-pages.ensures.pages c.read_entries.ensures

pub returns-clause-seen : goal.returns-clause-seen
returns-clause-seen g c =
    let t = c.args.tree.now in
    ok_pages (g.F.StoreFile.state t.file) (g.F.StoreFile.state c.read_pages.new.tree.file) t.key t.tree c.in_ok-pages.pages.items c.deref.result.now (Vec (Option DirEntry) Global) (λ v. v.items) c.read_entries.result c.in_ok-pages.ensures.count
    (sym c.length-bytes.ensures.length ∙ c.if-bytes-ne32768.false) c.deref.ensures.value c.in_ok-pages.ensures.seen c.read_entries.ensures

pub returns-clause-differs : goal.returns-clause-differs
returns-clause-differs g c =
    let t = c.args.tree.now in
    let a = g.F.StoreFile.state t.file in
    let d = g.F.StoreFile.state c.read_pages.new.tree.file in
    err_differs d t.key t.tree c.in_ok-pages.pages.items c.deref.result.now (Vec (Option DirEntry) Global) (λ v. v.items) c.read_entries.result
    c.in_ok-pages.ensures.count (sym c.length-bytes.ensures.length ∙ c.if-bytes-ne32768.false) c.deref.ensures.value
    (all_anew a d t.key t.tree c.in_ok-pages.pages.items c.in_ok-pages.ensures.rests c.in_ok-pages.ensures.seen) c.read_entries.ensures

pub returns-clause-widths : goal.returns-clause-widths
returns-clause-widths g c = entries_widths c.deref.result.now (Vec (Option DirEntry) Global) (λ v. v.items) c.read_entries.result c.read_entries.ensures
