use Rattle.std.proofs.Common.{◌↔◌, [], ◌∷◌, Bool, IsTrue, sym, subst}
use Rattle.disk_model.specs.Images.{IsSpoiled}
use Rattle.disk_model.proofs.Sectors.{spoils_iff}
use Rattle.disk_model.proofs.span.Span.spoils.Goals as goal

pub returns-clause-meets : goal.returns-clause-meets
returns-clause-meets c = subst (λ (b : Bool). IsTrue b ↔ IsSpoiled (c.args.self.now ∷ []) c.args.place) (sym c.meets.ensures) (spoils_iff c.args.self.now c.args.place)
