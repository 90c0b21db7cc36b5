-- A read and a truncate are ruled whatever the size.
use Rattle.std.proofs.Common.{Option, IsNone, subst}
use Rattle.tee_types.specs.declared.reply.Reply.{Reply}
use Rattle.call_steps.proofs.Rulings.{decided-needs, decided-told, ruled-as, proper-as}
use Rattle.call_steps.proofs.call_rulings.ruling.Goals as goal

pub returns-in-Read-clause-told : goal.returns-in-Read-clause-told
returns-in-Read-clause-told g c = λ s i m.
    ruled-as s i c.args.session.now c.args.call.now _ c.answered-in-Read.result _ c.in-Read.is c.answered-in-Read.ensures (decided-told c.read.result _ (c.read.ensures.told s i c.in-Read.size m))

pub returns-in-Read-clause-proper : goal.returns-in-Read-clause-proper
returns-in-Read-clause-proper g c = λ on s i m none.
    proper-as s i c.args.call.now _ c.in-Read.is
    (decided-needs c.read.result _ _ (λ found is. is.proper) (c.read.ensures.reads s i c.in-Read.size m) (subst (λ (o : Option Reply). IsNone o) c.answered-in-Read.ensures none))

pub returns-in-Truncate-clause-told : goal.returns-in-Truncate-clause-told
returns-in-Truncate-clause-told g c = λ s i m.
    ruled-as s i c.args.session.now c.args.call.now _ c.answered-in-Truncate.result _ c.in-Truncate.is c.answered-in-Truncate.ensures (decided-told c.truncate.result _ (c.truncate.ensures.told s i c.in-Truncate.size m))

pub returns-in-Truncate-clause-proper : goal.returns-in-Truncate-clause-proper
returns-in-Truncate-clause-proper g c = λ on s i m none.
    proper-as s i c.args.call.now _ c.in-Truncate.is
    (decided-needs c.truncate.result _ _ (λ found is. is.proper) (c.truncate.ensures.resizes s i c.in-Truncate.size m) (subst (λ (o : Option Reply). IsNone o) c.answered-in-Truncate.ensures none))
