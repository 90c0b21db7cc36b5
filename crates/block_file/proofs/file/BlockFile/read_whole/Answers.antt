use Rattle.std.proofs.Common.{◌≡◌, ◌∙◌, ◌++◌, ℕ, List, drop, sym, ap, subst, arith}
use Rattle.std.proofs.lemmas.List.{append-nil, drop_all}
use Rattle.block_file.specs.Parts.{PageAnswer}
use Rattle.block_file.proofs.file.BlockFile.read_whole.Goals as goal

pub returns-clause-answer : goal.returns-clause-answer
returns-clause-answer g c =
    let t = c.args.self.now in
    let page : List ℕ = c.read_page.new.page in
    let all : page ++ drop 4096 c.args.into.now ≡ page = ap (λ (l : List ℕ). page ++ l) (drop_all 4096 c.args.into.now (omega (arith, c.requires.long))) ∙ append-nil page in
    subst (λ (l : List ℕ). PageAnswer t.key t.tree (g.F.StoreFile.state t.file) (g.F.StoreFile.state c.read_page.new.self.file) c.args.k c.read_page.result l) (sym all) c.read_page.ensures.answer
