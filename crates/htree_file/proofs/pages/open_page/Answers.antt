use Rattle.std.proofs.Common.{◌≡◌, true, rules}
use Rattle.htree_file.specs.Pages.{is_block}
use Rattle.htree_file.proofs.PageLaws.{block_is, page_good}
use Rattle.htree_file.proofs.pages.open_page.Goals as goal

pub returns-in-Ok-clause-answer : goal.returns-in-Ok-clause-answer
returns-in-Ok-clause-answer c =
    let block : is_block c.args.page.now ≡ true = block_is c.args.page.now c.told-page c.fits-page in
    page_good c.args.key.now c.args.head.now c.args.node.now c.args.block c.args.page.now c.open_text.new.text block (search rules) (search rules)

pub returns-in-Ok-clause-block : goal.returns-in-Ok-clause-block
returns-in-Ok-clause-block c = block_is c.args.page.now c.told-page c.fits-page

pub returns-in-Err-clause-block : goal.returns-in-Err-clause-block
returns-in-Err-clause-block c = block_is c.args.page.now c.told-page c.fits-page
