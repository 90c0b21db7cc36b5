-- Along a history the machine's handles stay well opened.
use Rattle.std.proofs.Common.{◌≡◌, ℕ, Bool, true, false, true≢false, List, [], ◌∷◌, ◌++◌, map, slice_index_or, zero, suc, Option, Some, None, inl, inr, refl, sym, ap, ◌∙◌, subst, append_assoc, arith}
use Rattle.tee_types.specs.declared.call.Call.{Call}
use Rattle.tee_types.specs.declared.reply.Reply.{Reply}
use Rattle.store_model.specs.declared.event.Event.{Event}
use Rattle.store_model.specs.declared.event.Event.TheVariants.{Call as CallEvent, Landed}
use Rattle.store_model.specs.declared.event.Mark.{Mark}
use Rattle.store_model.specs.declared.event.Mark.TheVariants.{Unchanged, Made, Doubtful}
use Rattle.store_model.specs.declared.session.Handle.{Handle}
use Rattle.store_model.specs.Machine.{MachineState, Session, handle_at, new_session, session_at}
use Rattle.store_model.specs.Calls.{state_after}
use Rattle.store_model.specs.Doubt.{Doubt}
use Rattle.store_model.specs.Legal.{IsLegalEvent, IsLegalFrom}
use Rattle.store_model.specs.Record.{Record, file_of}
use Rattle.store_model.specs.ReplayState.{PhaseOpening, ReplayState, is_undone, keeps_doubt, opening, replay, replay_after, replay_after_call, replay_landed}
use Rattle.core_laws.specs.Records.{HistoryRecord}
use Rattle.core_laws.specs.TamperScenarios.{TamperScenario}
use Rattle.core_laws.specs.Stores.{Store, replay_at, start_under}
use Rattle.core_laws.specs.Answered.{AreAnswered, IsAnsweredAt}
use Rattle.core_laws.proofs.DueEvents.{doubtful_due, undone-kept}
use Rattle.core_laws.proofs.Answers.{replay_state-snoc}
use Rattle.call_rules.specs.Numbers.{HasNumbers}
use Rattle.call_rules.specs.WellOpened.{WellOpened}
use Rattle.call_rules.specs.HandleLaws.{AreDoubtsDue, IsDoubtDue, IsDue, IsWellReplay}
use Rattle.call_rules.proofs.CallHandles.{well_opened-after}
use Rattle.call_rules.proofs.LandedHandles.{well_opened-landed}

-- sessions that begin have no handles
begun : (applications : List (List ℕ)) (i : ℕ) → (application : List ℕ) × (slice_index_or (map new_session applications) i (new_session []) ≡ new_session application)
begun [] i = ([], refl)
begun (a ∷ applications) zero = (a, refl)
begun (a ∷ applications) (suc i) = begun applications i

pub no-handles : (phase : PhaseOpening) (i number : ℕ) (h : Handle) → handle_at (session_at (opening phase).state i) number ≡ Some h → ⊥
no-handles phase i number h live =
    let gone : None ≡ Some h = ap (λ (y : Session). handle_at y number) (sym (begun phase.applications i).1) ∙ live in
    cc (gone)

pub well_opened-opening : (phase : PhaseOpening) → WellOpened (opening phase).state
well_opened-opening phase = record {
  numbered = λ i. subst HasNumbers (sym (begun phase.applications i).1) (omega arith);
  sound = λ i number h live. absurd (no-handles phase i number h live);
  compatible = λ i j number other h g live. absurd (no-handles phase i number h live);
}

pub well_replay-opening : (phase : PhaseOpening) → IsWellReplay (opening phase)
well_replay-opening phase = record { opened = well_opened-opening phase; due = λ doubt is. absurd (cc (is)) }

module _ (s : ReplayState) (well : IsWellReplay s) where
  unchanged : (session : ℕ) (call : Call) (keeps undone : Bool) → (keeps ≡ true → undone ≡ true)
      → IsWellReplay (record s {
        state = elim undone as (λ _. MachineState) [ true ↦ s.state | false ↦ state_after s.state session call ];
        doubt = elim keeps as (λ _. Option Doubt) [ true ↦ s.doubt | false ↦ None ];
      })
  unchanged session call true true h = record { opened = well.opened; due = well.due }
  unchanged session call true false h = absurd (true≢false (sym (h refl)))
  unchanged session call false true h = record { opened = well.opened; due = λ doubt is. absurd (cc (is)) }
  unchanged session call false false h = record { opened = well_opened-after s.state well.opened session call; due = λ doubt is. absurd (cc (is)) }

  by_mark : (session number : ℕ) (call : Call) (reply : Reply) (mark : Mark) (file : Option ℕ) → IsDoubtDue s (CallEvent session number call reply mark)
      → IsWellReplay (replay_after_call s session call reply mark file)
  by_mark session number call reply Unchanged file due = unchanged session call (keeps_doubt reply) (is_undone reply) (undone-kept reply)
  by_mark session number call reply (Made commit) file due =
      record { opened = well_opened-after s.state well.opened session call; due = λ doubt is. absurd (cc (is)) }
  by_mark session number call reply (Doubtful commit) file due = record {
    opened = well.opened;
    due = λ doubt is. (let same : record { commit = commit; session = session; call = call; file = file } ≡ doubt = cc (is) in subst (IsDue s.state) same due);
  }

  landed : (o : Option Doubt) → s.doubt ≡ o → IsWellReplay (replay_landed s o)
  landed None is = well
  landed (Some doubt) is = record { opened = well_opened-landed s.state doubt (well.due doubt is) well.opened; due = λ d none. absurd (cc (none)) }

  pub well_replay-after : (event : Event) (file : Option ℕ) → IsDoubtDue s event → IsWellReplay (replay_after s event file)
  well_replay-after (CallEvent session number call reply mark) file due = by_mark session number call reply mark file due
  well_replay-after (Landed commit) file due = landed s.doubt refl

pub well_replay-replay : {Root : Type 0} (s : ReplayState) (records : List (Record Root)) → AreDoubtsDue s records → IsWellReplay s → IsWellReplay (replay s records)
well_replay-replay s [] due well = well
well_replay-replay s (r ∷ records) due well =
    well_replay-replay (replay_after s r.event (file_of r)) records due.1 (well_replay-after s well r.event (file_of r) due.0)

legal_event : (tampered : List ℕ) (s : ReplayState) (event : Event) (file : Option ℕ) → IsLegalEvent tampered s event file → IsDoubtDue s event
legal_event tampered s (CallEvent session number call reply Unchanged) file legal = tt
legal_event tampered s (CallEvent session number call reply (Made commit)) file legal = tt
legal_event tampered s (CallEvent session number call reply (Doubtful commit)) file legal = doubtful_due tampered s session call reply commit file legal.answer
legal_event tampered s (Landed commit) file legal = tt

pub legal_doubts : {Root : Type 0} (tampered : List ℕ) (s : ReplayState) (records : List (Record Root)) → IsLegalFrom tampered s records → AreDoubtsDue s records
legal_doubts tampered s [] legal = tt
legal_doubts tampered s (r ∷ records) legal =
    (legal_event tampered s r.event (file_of r) legal.0, legal_doubts tampered (replay_after s r.event (file_of r)) records legal.1)

module _ (store : Store) (scenario : TamperScenario) where
  answered_event : (before : List HistoryRecord) (r : HistoryRecord) → IsAnsweredAt store scenario before r → IsDoubtDue (replay_at store scenario before) r.event
  answered_event before r (inl legal) = legal_event scenario.tampered (replay_at store scenario before) r.event (file_of r) legal.legal
  answered_event before r (inr clash) =
      let given = clash.told.given in
      subst (IsDoubtDue (replay_at store scenario before)) (sym (given.is ∙ ap (λ (m : Mark). CallEvent given.session given.number given.call given.reply m) clash.told.unchanged)) tt

  answered_doubts : (front rest : List HistoryRecord) → AreAnswered store scenario (front ++ rest) → AreDoubtsDue (replay_at store scenario front) rest
  answered_doubts front [] answered = tt
  answered_doubts front (r ∷ rest) answered = (
    answered_event front r (answered front r rest refl),
    subst (λ (s : ReplayState). AreDoubtsDue s rest) (replay_state-snoc store scenario front r)
        (answered_doubts (front ++ r ∷ []) rest (subst (AreAnswered store scenario) (sym (append_assoc front (r ∷ []) rest)) answered)),
  )

  pub well_replay-answered : (records : List HistoryRecord) → AreAnswered store scenario records → IsWellReplay (replay_at store scenario records)
  well_replay-answered records answered =
      well_replay-replay (start_under store scenario) records (answered_doubts [] records answered) (well_replay-opening _)
