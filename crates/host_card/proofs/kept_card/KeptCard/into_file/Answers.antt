use Rattle.std.proofs.Common.{box_value}
use Rattle.host_card.proofs.Moments.{left_card}
use Rattle.host_card.proofs.kept_card.KeptCard.into_file.Goals as goal

pub returns-clause-left : goal.returns-clause-left
returns-clause-left g c = λ none. left_card c.args.self.key _ (box_value c.args.self.card) c.args.self.torn (g.met.F.StoreFile.sound c.args.self.file) c.args.self.holds none
