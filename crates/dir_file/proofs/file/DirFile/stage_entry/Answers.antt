use Rattle.std.proofs.Common.{◌≡◌, ◌/◌, ℕ, List, Option, Ok, IfSome, refl, subst}
use Rattle.std.proofs.lemmas.Result.{err_from_is_err_and}
use Rattle.disk_model.specs.Calls.{Known}
use Rattle.node_image.specs.declared.head.Head.{Head}
use Rattle.node_image.specs.Layout.{greatest_of}
use Rattle.htree_file.specs.Changes.{OpensAfter, SealsChanges}
use Rattle.htree_file.specs.Opening.{load_of}
use Rattle.dir_records.specs.declared.entry.DirEntry.{DirEntry}
use Rattle.dir_file.specs.EntryForms.{Fits}
use Rattle.dir_file.proofs.ChangedEntry.{one_change}
use Rattle.dir_file.proofs.Settling.{idle_next, page_budget, page_records, stages_err, stages_ok}
use Rattle.dir_file.proofs.file.DirFile.stage_entry.Goals as goal

pub returns-clause-answer : goal.returns-clause-answer
returns-clause-answer g c =
    let t = c.self.inside.tree in
    let u = c.stage.new.self in
    let old = g.F.StoreFile.state t.file in
    let new = g.F.StoreFile.state u.file in
    let entries : List (Option DirEntry) = c.self.inside.entries.items in
    let entry : Option DirEntry = c.args.entry.now in
    let index : ℕ = c.args.index in
    let page : List ℕ = c.directory_page.new.page in
    let block : c.from-block.result ≡ index = c.from-block.ensures in
    let fits : Fits entries index entry = rw (← c.self.view_is) at c.requires.fits in
    let records = page_records page entries c.deref.result.now index c.from-block.result entry block c.deref.ensures.value c.directory_page.ensures in
    let s = c.in_ok-stage.ensures in
    let budget = page_budget index c.from-block.result t.tree.head.greatest old.written new.written block c.self.invariant.tree.blocks s.budget in
    let opened : Known old new → load_of old.reads t.root ≡ Ok t.tree → IfSome u.stage (λ s. OpensAfter t.key t.tree.head.wrapped old.reads t.root new.reads s.root 32768 (one_change (index / 32) page)) =
    subst (λ (m : ℕ). Known old new → load_of old.reads t.root ≡ Ok t.tree → IfSome u.stage (λ s. OpensAfter t.key t.tree.head.wrapped old.reads t.root new.reads s.root 32768 (one_change (m / 32) page))) block s.opened in
    let seals : IfSome u.stage (λ s. SealsChanges t.key t.tree s.tree (one_change (index / 32) page)) =
    subst (λ (m : ℕ). IfSome u.stage (λ s. SealsChanges t.key t.tree s.tree (one_change (m / 32) page))) block s.seals in
    let top : Head = record t.tree.head { length = 32768; greatest = greatest_of 32768 } in
    rw (← c.self.view_is)
    (stages_ok t u old new c.self.inside.tsk entries (g.met.F.StoreFile.sound t.file) (g.met.F.StoreFile.sound u.file) index entry page c.self.invariant.key fits records c.self.inside.next top
    s.same s.keeps s.firm budget s.unsettled s.open s.next s.format s.verified s.loaded opened seals s.spares refl refl)

pub returns-in_err-stage-clause-answer : goal.returns-in_err-stage-clause-answer
returns-in_err-stage-clause-answer g c =
    let t = c.self.inside.tree in
    let u = c.stage.new.self in
    let old = g.F.StoreFile.state t.file in
    let new = g.F.StoreFile.state u.file in
    let entries : List (Option DirEntry) = c.self.inside.entries.items in
    let entry : Option DirEntry = c.args.entry.now in
    let index : ℕ = c.args.index in
    let page : List ℕ = c.directory_page.new.page in
    let block : c.from-block.result ≡ index = c.from-block.ensures in
    let fits : Fits entries index entry = rw (← c.self.view_is) at c.requires.fits in
    let records = page_records page entries c.deref.result.now index c.from-block.result entry block c.deref.ensures.value c.directory_page.ensures in
    let s = c.in_err-stage.ensures in
    let budget = page_budget index c.from-block.result t.tree.head.greatest old.written new.written block c.self.invariant.tree.blocks s.budget in
    let p = err_from_is_err_and c.from_residual.result c.from_residual.ensures.1 in
    rw (← c.self.view_is, p.1, p.2)
    (stages_err t u old new c.self.inside.tsk entries (g.met.F.StoreFile.sound t.file) (g.met.F.StoreFile.sound u.file) index entry page c.self.invariant.key fits records c.self.inside.next t.tree.head
    s.same s.keeps s.firm budget s.unsettled c.in_err-stage.field-0.0 s.none
    (idle_next t.stage c.self.inside.next entries t.tree.head.wrapped c.self.invariant.staged (rw (← c.self.view_is) at c.requires.idle)))
