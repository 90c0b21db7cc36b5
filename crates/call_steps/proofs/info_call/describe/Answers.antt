-- What is loaded is of the version.
use Rattle.std.proofs.Common.{ℕ, List, sym, subst}
use Rattle.tee_types.specs.declared.reply.Reply.TheVariants.{Info as InfoReply}
use Rattle.call_steps.specs.InfoAnswers.{DescribesVersion}
use Rattle.call_steps.proofs.InfoAnswers.{describes-version}
use Rattle.call_steps.proofs.info_call.describe.Goals as goal

pub returns : goal.returns
returns g c = λ v gives.
    let store = g.L.StoreName.store in
    let slot = c.args.slot.now in
    let handle = c.args.handle in
    let size = c.size-size.result in
    subst (λ (bytes : List ℕ). DescribesVersion store slot v handle (InfoReply size handle.position handle.flags bytes)) (sym c.in_ok-attributes.ensures)
    (describes-version store slot v handle size c.attributes.result.now (c.size-size.ensures.version v gives) (c.attributes.ensures.version v gives))
