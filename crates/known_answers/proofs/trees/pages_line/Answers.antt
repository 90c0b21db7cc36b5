use Rattle.std.proofs.Common.{◌≡◌, ℕ, List, ◌++◌, Option, decimal, ◌∙◌}
use Rattle.std.specs.Prelude.{codes}
use Rattle.std.specs.String.{string_bytes}
use Rattle.htree_file.specs.Pages.{page_in}
use Rattle.known_answers.specs.Trees.{page_word}
use Rattle.known_answers.proofs.Pages.{kept_then, words_more}
use Rattle.known_answers.proofs.trees.pages_line.Goals as goal

pub loop-block-preserved : goal.loop-block-preserved
loop-block-preserved g c =
    let tree = c.args.tree.now in
    let now = c.loop-block.tree in
    let before = c.loop-block.invariant in
    let k : ℕ = c.loop-block.block in
    let f : ℕ → Option (List ℕ) = page_in (g.F.StoreFile.state tree.file).reads tree.key tree.tree in
    let front : List ℕ = codes "length " ++ decimal tree.tree.head.length in
    let word : c.deref.result.now ≡ page_word (f k) =
    c.deref.ensures
    ∙ c.in_ok-page_word.ensures.word
    ∙ (λ i. page_word (page_in (before.kept.reads i) (before.same i).key (before.same i).tree k)) in
    record {
      line = words_more f k front (string_bytes c.loop-block.line) (string_bytes c.push_str.new.self) c.deref.result.now (string_bytes c.push_str-in-loop-block.new.self)
          before.line c.in_ok-push_str.ensures.bytes word c.in_ok-push_str-2.ensures.bytes;
      same = c.page_word.ensures.same ∙ (λ i. record (before.same i) { file = c.page_word.new.tree.file });
      kept = kept_then (g.F.StoreFile.state now.file) (g.F.StoreFile.state c.page_word.new.tree.file) _ before.kept c.page_word.ensures.kept;
    }
