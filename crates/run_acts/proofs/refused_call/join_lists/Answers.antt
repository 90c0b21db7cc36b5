use Rattle.std.proofs.Common.{◌≡◌, ◌++◌, ◌∙◌, Global, List, Vec, ap, sym}
use Rattle.run_acts.specs.declared.refused_call.RefusedCall.{RefusedCall}
use Rattle.run_acts.proofs.QuotaLists.{all_in-more}
use Rattle.run_acts.proofs.refused_call.join_lists.Goals as goal

pub loop-list-preserved : goal.loop-list-preserved
loop-list-preserved c =
    let l = c.loop-list in
    let list : Vec RefusedCall Global = c.list-item.result in
    let grew : c.extend_from_slice.new.self.items ≡ l.calls.items ++ list.items =
    c.in_ok-extend_from_slice.ensures.items ∙ ap (λ (more : List RefusedCall). l.calls.items ++ more) c.as_slice.ensures.value in
    grew ∙ ap (λ (first : List RefusedCall). first ++ list.items) l.invariant ∙ sym (all_in-more c.args.lists.now l.list-index list c.loop-list-test.true c.list-item.is)
