use Rattle.std.proofs.Common.{refl}
use Rattle.dir_file.proofs.MadeDirectory.{eight_blank}
use Rattle.dir_file.proofs.make.blank_pages.Goals as goal

pub returns : goal.returns
returns c = eight_blank _ refl
