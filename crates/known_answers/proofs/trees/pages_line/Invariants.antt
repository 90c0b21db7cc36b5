use Rattle.std.proofs.Common.{◌≡◌, ◌++◌, decimal}
use Rattle.std.specs.Prelude.{codes}
use Rattle.std.specs.String.{string_bytes}
use Rattle.node_image.specs.Selection.{row}
use Rattle.htree_file.specs.Pages.{page_in}
use Rattle.known_answers.specs.Files.{IsKept}
use Rattle.known_answers.specs.Trees.{page_words}
use Rattle.known_answers.proofs.trees.pages_line.Given as goal

abbrev pub invariant-loop-block : goal.invariant-loop-block
invariant-loop-block g l =
    let tree = l.initial.tree in
    let image = (g.F.StoreFile.state tree.file).reads in
    record {
      line : string_bytes l.line ≡ codes "length " ++ decimal tree.tree.head.length ++ page_words (row (page_in image tree.key tree.tree) l.block);
      same : l.tree ≡ record tree { file = l.tree.file };
      kept : IsKept (g.F.StoreFile.state l.tree.file) image;
    }
