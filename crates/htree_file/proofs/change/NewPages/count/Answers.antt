use Rattle.std.proofs.Common.{length, sym, ◌∙◌, ap}
use Rattle.htree_file.specs.declared.change.NewPages.{NewPages}
use Rattle.htree_file.specs.Changes.{changes_of}
use Rattle.htree_file.proofs.ChangeLists.{length-numbered}
use Rattle.htree_file.proofs.change.NewPages.count.Goals as goal

pub returns-in-All : goal.returns-in-All
returns-in-All c = sym (ap (λ (p : NewPages). length (changes_of p)) c.in-All.is ∙ length-numbered c.in-All.pages.now 0)
