use Rattle.std.proofs.Common.{Some, sym, ap, ◌∙◌}
use Rattle.store_model.proofs.SoundObjects.{truncate_of-refused}
use Rattle.store_model.proofs.state.State.truncate.Goals as goal

pub returns-in-Some-truncate_refusal-clause-ok : goal.returns-in-Some-truncate_refusal-clause-ok
returns-in-Some-truncate_refusal-clause-ok c =
    let sound = c.in-Some-object.ensures.sound in
    let refused = truncate_of-refused c.args.self.now c.args.session c.args.number c.args.size c.in-Some.handle sound.0 sound.1 c.in-Some-truncate_refusal.reply
    (sym c.handle.ensures ∙ c.in-Some.is) (sym c.if-not-has.ensures) (c.in-Some-object.ensures.found ∙ ap Some sound.2)
    (sym (c.truncate_refusal.ensures.first sound.0 sound.1) ∙ c.in-Some-truncate_refusal.is) in
    record { replied = ap (λ o. o.reply) (sym refused); changed = ap (λ o. o.next) (sym refused) }
