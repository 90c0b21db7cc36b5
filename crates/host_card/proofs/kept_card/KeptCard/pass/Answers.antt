use Rattle.std.proofs.Common.{◌≡◌, ◌∙◌, sym, ap, subst, false, true≢false, box_value}
use Rattle.rpmb_card.specs.Card.{CardState, card_after, does_write}
use Rattle.host_card.specs.Kept.{Holds}
use Rattle.host_card.proofs.Moments.{held_still, holds_marked}
use Rattle.host_card.proofs.kept_card.KeptCard.pass.Goals as goal

pub returns-then-not-does_write-clause-held : goal.returns-then-not-does_write-clause-held
returns-then-not-does_write-clause-held g c =
    held_still c.args.self.now.key _ (box_value c.args.self.now.card) c.args.self.now.torn (g.met.F.StoreFile.sound c.args.self.now.file) c.args.self.now.holds

pub invariant_of-self : goal.invariant_of-self
invariant_of-self g c =
    let card : CardState = box_value c.args.self.now.card in
    let not : does_write card c.args.frame.now ≡ false = sym (c.does_write.ensures ∙ ap (λ (k : CardState). does_write k c.args.frame.now) c.deref.ensures) ∙ c.if-not-does_write.true in
    record {
      card_sound = c.answered.ensures.stays_sound;
      heard_few = c.answered.ensures.stays_few;
      faults_fit = c.args.self.now.faults_fit;
      holds = subst (λ (k : CardState). Holds c.args.self.now.key (g.F.StoreFile.state c.args.self.now.file) k c.args.self.now.torn)
          (sym (c.answered.ensures.after ∙ ap (λ (k : CardState). card_after k c.args.frame.now) c.deref_mut.ensures.value))
          (holds_marked c.args.self.now.key _ card c.args.self.now.torn c.args.frame.now not c.args.self.now.holds);
    }

pub returns-then-not-does_write-clause-copies : goal.returns-then-not-does_write-clause-copies
returns-then-not-does_write-clause-copies g c = λ does.
    let not : does_write (box_value c.args.self.now.card) c.args.frame.now ≡ false =
    sym (c.does_write.ensures ∙ ap (λ (k : CardState). does_write k c.args.frame.now) c.deref.ensures) ∙ c.if-not-does_write.true in
    absurd (true≢false (sym does ∙ not))

pub returns-in-Ok-clause-held : goal.returns-in-Ok-clause-held
returns-in-Ok-clause-held g c =
    let card : CardState = box_value c.args.self.now.card in
    c.in-Ok.ensures.held card (subst (Holds c.args.self.now.key (g.F.StoreFile.state c.args.self.now.file) card) c.requires c.args.self.now.holds)
