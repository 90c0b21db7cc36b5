use Rattle.std.proofs.Common.{◌≡◌, ℕ, ◌+◌, None, refl, sym, ap, ◌∙◌, subst, arith}
use Rattle.tee_types.specs.declared.call.Call.TheVariants.{EnumNew}
use Rattle.tee_types.specs.declared.reply.Reply.TheVariants.{Done}
use Rattle.store_model.specs.declared.event.Mark.TheVariants.{Unchanged}
use Rattle.store_model.specs.History.{count_of}
use Rattle.store_model.specs.Record.{events_of}
use Rattle.history_seats.specs.Views.{Sight, GateView, PassView}
use Rattle.history_seats.proofs.Numbering.{count-append, count-own, count-begins}
use Rattle.worked_calls.proofs.threads.call_once.Goals as goal

pub invariant_of-caller : goal.invariant_of-caller
invariant_of-caller g c =
    let session = c.caller.inside.session in
    let was = c.caller.invariant in
    let pass = c.in-Some.pass in
    let same : was.0 ≡ pass = cc in
    let given = c.append-pass.result.pass in
    let seen : count_of session (events_of given.knows.seen) ≡ count_of session (events_of c.desk.inside.gate.knows.all) + 1 =
    ap (λ (s : Sight PassView). count_of session (events_of s.knows.seen)) c.append-pass.ensures.pass
    ∙ ap (λ (s : Sight GateView). count_of session (events_of s.knows.all)) c.append-pass.ensures.gate
    ∙ count-append session c.desk.inside.gate.knows.all _
    ∙ ap (λ (n : ℕ). count_of session (events_of c.desk.inside.gate.knows.all) + n) (count-own session c.caller.inside.made EnumNew Done Unchanged None) in
    let mine : pass.knows.session ≡ session = ap (λ (s : Sight PassView). s.knows.session) (sym same) ∙ was.3 in
    let before : count_of session (events_of c.desk.inside.gate.knows.all) ≡ count_of session (events_of pass.knows.seen) =
    subst (λ (n : ℕ). count_of n (events_of c.desk.inside.gate.knows.all) ≡ count_of n (events_of pass.knows.seen)) mine
    (count-begins pass.knows.session pass.knows.seen c.desk.inside.gate.knows.all (c.append-pass.ensures.agreed.pass pass.knows refl).0.sees.begins) in
    let count : count_of session (events_of pass.knows.seen) ≡ c.caller.inside.made = ap (λ (s : Sight PassView). count_of session (events_of s.knows.seen)) (sym same) ∙ was.4 in (
      given,
      refl,
      ap (λ (s : Sight PassView). s.table) c.append-pass.ensures.pass ∙ ap (λ (s : Sight PassView). s.table) (sym same) ∙ was.2,
      ap (λ (s : Sight PassView). s.knows.session) c.append-pass.ensures.pass ∙ mine,
      omega arith,
    )
