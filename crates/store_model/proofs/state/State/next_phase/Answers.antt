use Rattle.std.proofs.Common.{◌≡◌, length, slice_index_or, slice_set, ap, ◌∙◌, arith}
use Rattle.store_model.specs.Machine.{next_phase}
use Rattle.store_model.proofs.Phases.{anew, anew_below, slice_set-anew_below, anew_below-all, map-anew}
use Rattle.store_model.proofs.state.State.next_phase.Goals as goal

pub loop-i-preserved : goal.loop-i-preserved
loop-i-preserved c =
    let i = c.loop-i.i in
    let d = c.index_mut.result.now in
    let sessions = c.self.inside.sessions.items in (
      c.loop-i.invariant.0,
      ap (slice_set c.loop-i.self-inside.sessions.items i) (c.begin_anew.ensures ∙ ap anew c.index_mut.ensures.value)
          ∙ ap (λ l. slice_set l i (anew (slice_index_or l i d))) c.loop-i.invariant.1
          ∙ slice_set-anew_below i sessions d (omega (arith, c.loop-i-test.true, c.len-i-end.ensures)),
    )

pub returns : goal.returns
returns c =
    let sessions = c.self.inside.sessions.items in
    let all : c.loop-i.i ≡ length sessions = omega (arith, c.loop-i-test.false, c.loop-i.auto.i-end, c.len-i-end.ensures) in
    ap (λ o. record { objects = o.entries; sessions = c.loop-i.self-inside.sessions.items }) c.loop-i.invariant.0
    ∙ ap (λ l. record { objects = c.self.inside.objects.entries; sessions = l })
    (c.loop-i.invariant.1 ∙ ap (λ n. anew_below n sessions) all ∙ anew_below-all sessions ∙ map-anew sessions)
    ∙ ap next_phase c.self.view_is
