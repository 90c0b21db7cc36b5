use Rattle.std.proofs.Common.{◌≡◌, ◌∙◌, ◌+◌, ◌-◌, ◌*◌, ℕ, true, length, drop, sym, min}
use Rattle.std.specs.List.{list_any}
use Rattle.page_bytes.specs.Pages.{page_at}
use Rattle.page_bytes.proofs.Content.{length-bytes_from}
use Rattle.store_model.specs.Data.{meets_block}
use Rattle.object_file.specs.Held.{held_in, pages_in}
use Rattle.object_file.specs.Value.{size_in}
use Rattle.known_answers.proofs.DataBlocks.{bad_page, found-data, kept_told, take-read, take-zeros}
use Rattle.known_answers.proofs.objects.read_data.Goals as goal

pub returns-in-Ok-clause-bytes : goal.returns-in-Ok-clause-bytes
returns-in-Ok-clause-bytes g c =
    let o = c.args.object.now in
    let image = (g.F.StoreFile.state o.tree.file).reads in
    take-read (held_in o image).bytes (drop c.in-Ok.field-0 c.args.page.now) c.read.new.into (size_in o) (4096 * (c.args.block - 1)) (length c.args.page.now)
    (length-bytes_from (page_at (pages_in o.tree image)) 4096 (size_in o)) c.told-page
    (c.in-Ok.ensures.content (kept_told _ _ _ c.requires.kept c.read.ensures.rests))

pub returns-in-Ok-clause-bad : goal.returns-in-Ok-clause-bad
returns-in-Ok-clause-bad g c =
    let o = c.args.object.now in
    let image = (g.F.StoreFile.state o.tree.file).reads in
    sym (c.in-Ok.ensures.corrupt (kept_told _ _ _ c.requires.kept c.read.ensures.rests))
    ∙ found-data o image c.args.block (length c.args.page.now) c.read.ensures.verified c.requires.block.0 c.requires.block.1 c.told-page

found : goal.returns-in-Err-BadTag-clause-bad
found g c =
    let o = c.args.object.now in
    let image = (g.F.StoreFile.state o.tree.file).reads in
    let at : ℕ = 4096 * (c.args.block - 1) in
    let told = kept_told _ _ _ c.requires.kept c.read.ensures.rests in
    let bad : list_any (meets_block at (at + min (length c.args.page.now) (size_in o - at))) (held_in o image).bad ≡ true =
    (rw c.in-Err-BadTag.field-0-is at c.in-Err-BadTag.ensures.corrupt) told in
    sym bad ∙ found-data o image c.args.block (length c.args.page.now) c.read.ensures.verified c.requires.block.0 c.requires.block.1 c.told-page

pub returns-in-Err-BadTag-clause-bad : goal.returns-in-Err-BadTag-clause-bad
returns-in-Err-BadTag-clause-bad g c = found g c

pub returns-in-Err-BadTag-clause-bytes : goal.returns-in-Err-BadTag-clause-bytes
returns-in-Err-BadTag-clause-bytes g c =
    let o = c.args.object.now in
    let image = (g.F.StoreFile.state o.tree.file).reads in
    let bad = bad_page (pages_in o.tree image) c.args.block (sym (found g c)) in
    take-zeros (page_at (pages_in o.tree image)) (size_in o) c.args.block c.fill.new.self (length c.read.new.into) c.requires.block.0 bad
    (c.fill.ensures.after (λ y e. e)) (c.read.auto.into ∙ c.told-page)
