use Rattle.std.proofs.Common.{ℕ, List, Some, subst, box_value}
use Rattle.disk_model.specs.State.{FileState}
use Rattle.disk_model.proofs.Goings.{then_known}
use Rattle.disk_model.proofs.Laws.{keeps_none}
use Rattle.rpmb_card.specs.Card.{CardState}
use Rattle.host_card.specs.Kept.{Holds, Nowhere}
use Rattle.host_card.proofs.Moments.{held_still, on_ok}
use Rattle.host_card.proofs.kept_card.KeptCardRpmbPort.exchange.Goals as goal

pub returns-in_default-clause-mended : goal.returns-in_default-clause-mended
returns-in_default-clause-mended g c = record {
  between = g.F.StoreFile.state c.args.self.now.file;
  first = keeps_none Nowhere _;
  second = c.pass.ensures.ran;
  held = held_still c.args.self.now.key _ (box_value c.args.self.now.card) c.args.self.now.torn (g.met.F.StoreFile.sound c.args.self.now.file) c.args.self.now.holds;
  still = c.pass.ensures.held;
}

pub returns-in-Err-clause-mended : goal.returns-in-Err-clause-mended
returns-in-Err-clause-mended g c =
    let card : CardState = box_value c.args.self.now.card in
    let key : List ℕ = c.args.self.now.key in
    let holds : Holds key (g.F.StoreFile.state c.args.self.now.file) card (Some c.in-Some.torn) = subst (Holds key (g.F.StoreFile.state c.args.self.now.file) card) c.in-Some.is c.args.self.now.holds in
    record {
      between = g.F.StoreFile.state c.mend.new.file;
      first = c.in-Err.ensures.ran;
      second = keeps_none Nowhere _;
      held = c.in-Err.ensures.held card holds;
      still = held_still key _ card (Some c.in-Some.torn) (g.met.F.StoreFile.sound c.mend.new.file) (c.in-Err.ensures.torn card holds);
    }

pub returns-in-Ok-clause-mended : goal.returns-in-Ok-clause-mended
returns-in-Ok-clause-mended g c =
    let card : CardState = box_value c.args.self.now.card in
    let key : List ℕ = c.args.self.now.key in
    let holds : Holds key (g.F.StoreFile.state c.args.self.now.file) card (Some c.in-Some.torn) = subst (Holds key (g.F.StoreFile.state c.args.self.now.file) card) c.in-Some.is c.args.self.now.holds in
    record {
      between = g.F.StoreFile.state c.mend.new.file;
      first = c.in-Ok.ensures.ran;
      second = c.pass-in-Ok.ensures.ran;
      held = c.in-Ok.ensures.held card holds;
      still = c.pass-in-Ok.ensures.held;
    }

pub returns-in-Ok-clause-copies : goal.returns-in-Ok-clause-copies
returns-in-Ok-clause-copies g c =
    let old : FileState = g.F.StoreFile.state c.args.self.now.file in
    let mid : FileState = g.F.StoreFile.state c.mend.new.file in
    let new : FileState = g.F.StoreFile.state c.pass-in-Ok.new.self.file in
    on_ok c.pass-in-Ok.result c.pass-in-Ok.ensures.copies (λ copies does known. copies does (then_known old mid new c.in-Ok.ensures.ran.goes_on known))
