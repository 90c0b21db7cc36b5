use Rattle.std.proofs.Common.{length, sym, ◌∙◌, ap, arith}
use Rattle.htree_file.specs.declared.change.NewPages.{NewPages}
use Rattle.htree_file.specs.Changes.{changes_of, page_at}
use Rattle.htree_file.proofs.ChangeLists.{length-numbered, numbered_page}
use Rattle.htree_file.proofs.change.NewPages.page.Goals as goal

pub bounds-pages-place : goal.bounds-pages-place
bounds-pages-place c =
    let long = ap (λ (p : NewPages). length (changes_of p)) c.in-All.is in
    omega (arith, long, length-numbered c.in-All.pages.now 0)

pub returns-in-All : goal.returns-in-All
returns-in-All c =
    let long = ap (λ (p : NewPages). length (changes_of p)) c.in-All.is in
    sym (ap (λ (p : NewPages). page_at (changes_of p) c.args.place) c.in-All.is ∙ numbered_page c.in-All.pages.now 0 c.args.place (omega (arith, long, length-numbered c.in-All.pages.now 0)))
