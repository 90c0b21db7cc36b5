-- A session behind an answer that its object's file gave.
use Rattle.std.proofs.Common.{◌≡◌, ◌≤◌, ℕ, Bool, true, false, true≢false, List, [], ◌∷◌, ◌++◌, length, Option, Some, refl, sym, ap, ◌∙◌, subst, inl, inr}
use Rattle.tee_types.specs.declared.call.Call.{Call}
use Rattle.tee_types.specs.declared.reply.Reply.{Reply}
use Rattle.store_model.specs.declared.event.Event.TheVariants.{Call as CallEvent}
use Rattle.store_model.specs.declared.event.Mark.{Mark}
use Rattle.store_model.specs.declared.event.Mark.TheVariants.{Unchanged}
use Rattle.store_model.specs.Calls.{reply_of, state_after}
use Rattle.store_model.specs.Legal.{Answered, Doubted, FoundCorrupt, IsLegalAnswer, Spent, Unavailable}
use Rattle.store_model.specs.Machine.{MachineState, Session, session_at}
use Rattle.store_model.specs.ReplayState.{ReplayState, is_undone}
use Rattle.dir_records.specs.declared.entry.DirEntry.{DirEntry}
use Rattle.open_table.specs.Table.{TableState}
use Rattle.history_seats.specs.Known.{session_from}
use Rattle.history_seats.specs.Records.{HistoryRecord}
use Rattle.history_seats.specs.Settling.{calm}
use Rattle.history_seats.specs.Views.{GateView, SlotView}
use Rattle.core_laws.specs.TamperScenarios.{TamperScenario}
use Rattle.core_laws.specs.Given.{DiffersInBytes}
use Rattle.core_laws.specs.Stores.{Store, replay_at, start_under}
use Rattle.core_laws.specs.Answered.{AreAnswered, IsAnsweredAt}
use Rattle.core_laws.specs.Shown.{IsClashedAt}
use Rattle.core_laws.proofs.Answers.{answered-front, answered-last, replay_state-snoc}
use Rattle.core_laws.proofs.Mending.{none_some}
use Rattle.core_laws.proofs.SessionSteps.{unchanged_stands}
use Rattle.commit_gate.specs.JournalCalls.{IsMovedBy}
use Rattle.commit_gate.specs.CallerSessions.{CallerSession, IsCallerOf, pending_of}
use Rattle.commit_gate.specs.SessionViews.{SeesAll}
use Rattle.call_rules.specs.Matches.{Matches}
use Rattle.commit_gate.proofs.CallMoves.{stands-whole}
use Rattle.commit_gate.specs.KnownMachine.{IsSessionAt, KnowsMachine}
use Rattle.commit_gate.specs.SlotAnswers.{slot_record}
use Rattle.commit_gate.proofs.Knowing.{shown_stand}
use Rattle.call_steps.specs.EntryAnswers.{MeansAlike}
use Rattle.call_steps.specs.ServableReplies.{MovesAlike}

same_session : (session made i n : ℕ) (a b : Call) (p q : Reply) (m k : Mark) → CallEvent session made a p m ≡ CallEvent i n b q k → session ≡ i
same_session session made i n a b p q m k e = cc

same_call : (session made i n : ℕ) (a b : Call) (p q : Reply) (m k : Mark) → CallEvent session made a p m ≡ CallEvent i n b q k → a ≡ b
same_call session made i n a b p q m k e = cc

same_reply : (session made i n : ℕ) (a b : Call) (p q : Reply) (m k : Mark) → CallEvent session made a p m ≡ CallEvent i n b q k → p ≡ q
same_reply session made i n a b p q m k e = cc

-- An event that is answered, by a reply that tells something, has the machine's reply but for bytes of the object.
module _ (store : Store) (scenario : TamperScenario) (all : List HistoryRecord) (slot : SlotView) (knows : GateView) (number made : ℕ) (call : Call) (reply : Reply) (done : is_undone reply ≡ false) where
  abbrev here : ReplayState
  here = replay_at store scenario all

  off : (other : Reply) → is_undone other ≡ true → reply ≡ other → ⊥
  off other undone is = true≢false (sym undone ∙ ap is_undone (sym is) ∙ done)

  by_legal : (file : Option ℕ) → IsLegalAnswer scenario.tampered here number call reply Unchanged file → MeansAlike here.state number call reply
  by_legal file (Answered a) = inl a.replied
  by_legal file (Unavailable a) = absurd (off _ refl a.replied)
  by_legal file (Doubted a) = absurd (off _ refl a.replied)
  by_legal file (FoundCorrupt a) = absurd (off _ refl a.replied)
  by_legal file (Spent a) = absurd (off _ refl a.replied)

  by_clash : IsClashedAt store scenario all (slot_record store knows slot number made call reply) → MeansAlike here.state number call reply
  by_clash clash =
      let g = clash.told.given in
      let session = same_session number made g.session g.number call g.call reply g.reply Unchanged g.mark g.is in
      let same = same_call number made g.session g.number call g.call reply g.reply Unchanged g.mark g.is in
      let replied = same_reply number made g.session g.number call g.call reply g.reply Unchanged g.mark g.is in
      inr (subst (λ (p : ℕ × Call × Reply). DiffersInBytes p.2 (reply_of here.state p.0 p.1)) (λ i. (sym session i, sym same i, sym replied i)) clash.alike)

  pub means-alike : IsAnsweredAt store scenario all (slot_record store knows slot number made call reply) → MeansAlike here.state number call reply
  means-alike (inl legal) = by_legal (Some slot.file) legal.legal.answer
  means-alike (inr clash) = by_clash clash

-- The machine is as the gate's entries and open handles tell, with the session that sees the whole history.
pub here-matches : (E : Type 0) (store : Store) (knows : GateView) (entries : List (Option DirEntry)) (table : TableState) → KnowsMachine store knows entries table → (s : CallerSession E) → IsCallerOf store s
    → SeesAll knows s.pass → (scenario : TamperScenario) → AreAnswered store scenario knows.all → Matches entries table s.state (replay_at store scenario knows.all).state s.number
here-matches E store knows entries table machine s caller sees scenario answered =
    let of = machine scenario answered in
    let stands = shown_stand E store knows s caller sees scenario answered in
    record { shaped = of.shaped; handles = of.handles; within = stands.within; session = stands.is }

-- So the session moves as the machine's.
module _ {E : Type 0} (store : Store) (knows : GateView) (entries : List (Option DirEntry)) (table : TableState) (machine : KnowsMachine store knows entries table) (slot : SlotView) (call : Call) (reply : Reply)
    (s : CallerSession E) (within : knows.decided ≤ length knows.all) (state : Session) (moves : MovesAlike store knows entries table call reply state s) where
  abbrev r : HistoryRecord
  r = slot_record store knows slot s.number s.made call reply

  abbrev was : CallerSession E
  was = record s { state = state }

  module _ (scenario : TamperScenario) (answered : AreAnswered store scenario (knows.all ++ r ∷ [])) where
    front : AreAnswered store scenario knows.all
    front = answered-front store scenario knows.all (r ∷ []) answered

    abbrev before : ReplayState
    before = replay_at store scenario knows.all

    stands : IsSessionAt before.state was
    stands = shown_stand E store knows was moves.was moves.sees scenario front

    calmly : session_from knows.decided s.number (start_under store scenario) knows.all ≡ calm state
    calmly = stands-whole store knows was moves.was moves.sees scenario front ∙ ap (pending_of state) moves.settled

    by_undone : (b : Bool) → is_undone reply ≡ b → session_at (elim b as (λ _. MachineState) [ true ↦ before.state | false ↦ state_after before.state s.number call ]) s.number ≡ s.state
    by_undone true undone = stands.is ∙ sym (moves.undone undone)
    by_undone false done =
        moves.done done before.state (here-matches E store knows entries table machine was moves.was moves.sees scenario front) (means-alike store scenario knows.all slot knows s.number s.made call reply done (answered-last store scenario knows.all r answered))

    after : session_at (replay_at store scenario (knows.all ++ r ∷ [])).state s.number ≡ s.state
    after = ap (λ (t : ReplayState). session_at t.state s.number) (replay_state-snoc store scenario knows.all r) ∙ by_undone (is_undone reply) refl

    moved : session_from knows.decided s.number (start_under store scenario) (knows.all ++ r ∷ []) ≡ pending_of s.state s.doubt
    moved =
        unchanged_stands store scenario knows.all s.number knows.decided r state within refl calmly
        ∙ ap (λ (x : Session). calm x) after
        ∙ ap (pending_of s.state) (sym moves.settled)

  pub answer-moves : IsMovedBy store knows r s
  answer-moves = record {
    before = pending_of state s.doubt;
    was = moves.was.session;
    application = moves.application ∙ moves.was.session.application;
    moves = moved;
    doubt = λ doubt has. absurd (none_some doubt (sym moves.settled ∙ has));
  }
