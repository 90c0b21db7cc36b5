-- An event that is marked as made is a commit of the machine.
use Rattle.std.proofs.Common.{◌≡◌, ℕ, Bool, true, false, List, Option, inl, inr, refl, sym, ◌∙◌, subst}
use Rattle.tee_types.specs.declared.call.Call.{Call}
use Rattle.tee_types.specs.declared.reply.Reply.{Reply}
use Rattle.store_model.specs.declared.event.Event.{Event}
use Rattle.store_model.specs.declared.event.Event.TheVariants.{Call as CallEvent}
use Rattle.store_model.specs.declared.event.Mark.TheVariants.{Unchanged, Made}
use Rattle.store_model.specs.Legal.{IsLegalAnswer, IsLegalCall, IsLegalEvent, is_commit_due, mark_of}
use Rattle.store_model.specs.Legal.IsLegalAnswer.{Answered, Unavailable, Doubted, FoundCorrupt, Spent}
use Rattle.store_model.specs.Record.{file_of}
use Rattle.store_model.specs.ReplayState.{ReplayState}
use Rattle.history_seats.specs.Records.{HistoryRecord}
use Rattle.core_laws.specs.TamperScenarios.{TamperScenario}
use Rattle.core_laws.specs.Stores.{Store, replay_at}
use Rattle.core_laws.specs.Answered.{IsAnsweredAt}

marked_due : (counter n : ℕ) (b : Bool) → Made n ≡ mark_of counter b → b ≡ true
marked_due counter n true is = refl
marked_due counter n false is = absurd (cc (is))

answered_due : (tampered : List ℕ) (s : ReplayState) (session : ℕ) (call : Call) (reply : Reply) (n : ℕ) (file : Option ℕ) → IsLegalAnswer tampered s session call reply (Made n) file
    → is_commit_due s session call ≡ true
answered_due tampered s session call reply n file (Answered answer) = marked_due s.counter n (is_commit_due s session call) answer.marked
answered_due tampered s session call reply n file (Unavailable answer) = absurd (cc (answer.marked))
answered_due tampered s session call reply n file (Doubted answer) = absurd (cc (answer.marked))
answered_due tampered s session call reply n file (FoundCorrupt answer) = absurd (cc (answer.marked))
answered_due tampered s session call reply n file (Spent answer) = absurd (cc (answer.marked))

pub made_due : (store : Store) (scenario : TamperScenario) (before : List HistoryRecord) (r : HistoryRecord) (session number : ℕ) (call : Call) (reply : Reply) (n : ℕ)
    → r.event ≡ CallEvent session number call reply (Made n) → IsAnsweredAt store scenario before r → is_commit_due (replay_at store scenario before) session call ≡ true
made_due store scenario before r session number call reply n event (inl legal) =
    let is : IsLegalCall scenario.tampered (replay_at store scenario before) session call reply (Made n) (file_of r) =
    subst (λ (e : Event). IsLegalEvent scenario.tampered (replay_at store scenario before) e (file_of r)) event legal.legal in
    answered_due scenario.tampered (replay_at store scenario before) session call reply n (file_of r) is.answer
made_due store scenario before r session number call reply n event (inr clash) =
    let given = clash.told.given in
    let both : CallEvent session number call reply (Made n) ≡ CallEvent given.session given.number given.call given.reply given.mark = sym event ∙ given.is in
    let mark : Made n ≡ given.mark = cc (both) in
    let unmarked : Made n ≡ Unchanged = mark ∙ clash.told.unchanged in
    absurd (cc (unmarked))
