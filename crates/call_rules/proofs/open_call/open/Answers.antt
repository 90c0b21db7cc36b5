use Rattle.std.proofs.Common.{◌∙◌, Some, None, sym}
use Rattle.call_rules.proofs.Creating.{named_for}
use Rattle.call_rules.proofs.Opening.{open_early, open_missed, open_conflict, open_opens}
use Rattle.call_rules.proofs.open_call.open.Goals as goal

pub returns-in-Some-clause-told : goal.returns-in-Some-clause-told
returns-in-Some-clause-told g c = λ s i m. open_early _ _ _ _ _ s i m c.in-Some.reply (sym c.open_refusal.ensures.rows ∙ c.in-Some.is) c.in-Some.ensures.refused

pub returns-in_default-look-clause-told : goal.returns-in_default-look-clause-told
returns-in_default-look-clause-told g c = λ s i m. open_missed _ _ c.args.session.now c.args.id c.args.flags s i m (sym c.open_refusal.ensures.rows ∙ c.in_default.is)
    (named_for _ c.args.session.now c.args.id c.app.result None c.app.ensures c.in_default-look.ensures.named)

pub returns-then-not-allows-clause-told : goal.returns-then-not-allows-clause-told
returns-then-not-allows-clause-told g c = λ s i m. open_conflict _ _ c.args.session.now c.args.id c.args.flags s i m c.in-Some-look.ensures.entries (sym c.open_refusal.ensures.rows ∙ c.in_default.is)
    c.in-Some-look.held (named_for _ c.args.session.now c.args.id c.app.result (Some c.in-Some-look.held) c.app.ensures c.in-Some-look.ensures.named) c.allows.result c.allows.ensures c.if-not-allows.true

pub returns-clause-opens : goal.returns-clause-opens
returns-clause-opens g c = λ s i m. open_opens _ _ c.args.session.now c.args.id c.args.flags s i m c.in-Some-look.ensures.entries (sym c.open_refusal.ensures.rows ∙ c.in_default.is)
    c.in-Some-look.held (named_for _ c.args.session.now c.args.id c.app.result (Some c.in-Some-look.held) c.app.ensures c.in-Some-look.ensures.named) c.allows.result c.allows.ensures c.if-not-allows.false
