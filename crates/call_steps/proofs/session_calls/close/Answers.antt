-- The handle is gone from the session as the machine has it.
use Rattle.std.proofs.Common.{◌<◌, ◌^◌, ℕ, true≢false, sym, ap, ◌∙◌, subst}
use Rattle.tee_types.specs.declared.call.Call.TheVariants.{Close}
use Rattle.tee_types.specs.declared.reply.Reply.TheVariants.{Done}
use Rattle.store_model.specs.Machine.{Session}
use Rattle.commit_gate.specs.CallerSessions.{CallerSession}
use Rattle.commit_gate.specs.Ruled.{IsRuled}
use Rattle.commit_gate.proofs.RuledAnswers.{ruled-alone, ruled-moves}
use Rattle.call_steps.proofs.Ruled.{moved-ruled, moved-served}
use Rattle.call_steps.proofs.session_calls.close.Goals as goal

pub close_handle-place-requires-clause-told : goal.close_handle-place-requires-clause-told
close_handle-place-requires-clause-told g c = λ scenario answered.
    let store = g.L.StoreName.store in
    let v = c.args.gate.now in
    let s = c.args.session.now in
    let after = c.close-reply.new.session in
    let ruled : IsRuled store v.journal.knows v.gate.dir.dir.entries v.gate.open_handles (Close c.args.handle) Done (record s { state = after }) =
    moved-ruled store v.journal.knows v.gate.dir.dir.entries v.gate.open_handles (Close c.args.handle) Done s c.requires.calm after
    (c.close-reply.ensures.application ∙ ap (λ (x : Session). x.application) c.state_mut.ensures.value)
    (λ undone. absurd (true≢false (sym undone)))
    (λ m i matches. c.in-Done.ensures.told m i (matches.session ∙ sym c.state_mut.ensures.value)) in
    ruled-alone store v.journal.knows v.gate.dir.dir.entries v.gate.open_handles (Close c.args.handle) Done (record s { state = after }) ruled c.reveal_invariant.ensures.machine scenario answered
    (subst (λ (n : ℕ). n < 2 ^ 32) (sym (c.reveal_invariant.ensures.guarded.tied.counter scenario answered)) c.reveal_invariant.ensures.counter)

pub close_handle-place-requires-clause-moved : goal.close_handle-place-requires-clause-moved
close_handle-place-requires-clause-moved g c =
    let store = g.L.StoreName.store in
    let v = c.args.gate.now in
    let s = c.args.session.now in
    let after = c.close-reply.new.session in
    let ruled : IsRuled store v.journal.knows v.gate.dir.dir.entries v.gate.open_handles (Close c.args.handle) Done (record s { state = after }) =
    moved-ruled store v.journal.knows v.gate.dir.dir.entries v.gate.open_handles (Close c.args.handle) Done s c.requires.calm after
    (c.close-reply.ensures.application ∙ ap (λ (x : Session). x.application) c.state_mut.ensures.value)
    (λ undone. absurd (true≢false (sym undone)))
    (λ m i matches. c.in-Done.ensures.told m i (matches.session ∙ sym c.state_mut.ensures.value)) in
    ruled-moves store v.journal.knows v.gate.dir.dir.entries v.gate.open_handles (Close c.args.handle) Done (record s { state = after }) ruled c.reveal_invariant.ensures.machine c.requires.calm.within

pub returns-in-Done-clause-served : goal.returns-in-Done-clause-served
returns-in-Done-clause-served g c =
    let e = c.close_handle-place.ensures in
    let s = c.args.session.now in
    moved-served g.L.StoreName.store (Close c.args.handle) _ c.args.gate.now c.close_handle-place.new.self s c.close_handle-place.new.session c.close-reply.new.session (record {
      appends = record { extends = e.extends; caller = e.whole; made = ap (λ (x : CallerSession g.row.E.Denot). x.made) e.session };
      place = e.place;
      knows = e.knows;
      spare = e.spare;
      gate = e.gate;
      notes = e.drops;
      closing = e.closing;
    })
