-- A call that the rules answered is answered as the machine does, and its session is as the machine's.
use Rattle.std.proofs.Common.{◌≡◌, ◌≤◌, ◌<◌, ◌^◌, ◌&&◌, Bool, true, false, not, List, [], Option, length, refl, sym, ap, ◌∙◌, subst, inl, None}
use Rattle.history_seats.specs.Changes.{call_record}
use Rattle.std.proofs.lemmas.Grind.{get_or-set_at}
use Rattle.tee_types.specs.declared.call.Call.{Call}
use Rattle.tee_types.specs.declared.reply.Reply.{Reply}
use Rattle.open_table.specs.Table.{TableState}
use Rattle.store_model.specs.declared.event.Mark.TheVariants.{Unchanged}
use Rattle.store_model.specs.Calls.{is_commit, state_after}
use Rattle.store_model.specs.Files.{reads_file}
use Rattle.store_model.specs.Legal.{meant_by, stands_for_doubt}
use Rattle.store_model.specs.Machine.{MachineState, Outcome, new_session, session_at, with_session}
use Rattle.store_model.specs.ReplayState.{ReplayState, is_undone}
use Rattle.dir_records.specs.declared.entry.DirEntry.{DirEntry}
use Rattle.history_seats.specs.Views.{GateView}
use Rattle.core_laws.specs.TamperScenarios.{TamperScenario}
use Rattle.core_laws.specs.Stores.{Store, replay_at}
use Rattle.core_laws.specs.Answered.{AreAnswered}
use Rattle.commit_gate.specs.CallerSessions.{CallerSession}
use Rattle.commit_gate.specs.JournalCalls.{IsMovedBy, IsToldAlone, session_unless_undone}
use Rattle.commit_gate.proofs.CallMoves.{unchanged_move}
use Rattle.call_rules.specs.Matches.{Matches}
use Rattle.call_rules.specs.Told.{IsTold}
use Rattle.commit_gate.specs.KnownMachine.{KnowsMachine}
use Rattle.commit_gate.specs.Ruled.{IsRuled}
use Rattle.commit_gate.proofs.Knowing.{shown_stand}

and_none : (b : Bool) → (b && false) ≡ false
and_none true = refl
and_none false = refl

module _ {E : Type 0} (store : Store) (knows : GateView) (entries : List (Option DirEntry)) (table : TableState) (call : Call) (reply : Reply) (s : CallerSession E)
    (ruled : IsRuled store knows entries table call reply s) (known : KnowsMachine store knows entries table) where
  module _ (scenario : TamperScenario) (answered : AreAnswered store scenario knows.all) where
    abbrev here : ReplayState
    here = replay_at store scenario knows.all

    matches : Matches entries table ruled.before here.state s.number
    matches =
        let of = known scenario answered in
        let stands = shown_stand E store knows (record s { state = ruled.before }) ruled.was ruled.sees scenario answered in
        record { shaped = of.shaped; handles = of.handles; within = stands.within; session = stands.is }

    told : IsTold here.state s.number call reply s.state
    told = ruled.told here.state matches

    replied : reply ≡ meant_by here s.number call
    replied = sym (ap (λ (o : Outcome). o.reply) told.outcome)

    pub ruled-alone : here.counter < 2 ^ 32 → IsToldAlone here s.number call reply
    ruled-alone counted = inl (record {
      replied = replied;
      unchanged = subst (λ (x : Reply). is_commit here.state s.number call x ≡ false) replied told.no_commit;
      alone =
          ap (λ (b : Bool). not (stands_for_doubt here.doubt reply Unchanged) && b) (subst (λ (x : Reply). reads_file call x ≡ false) replied told.no_file)
          ∙ and_none (not (stands_for_doubt here.doubt reply Unchanged));
      counted = counted;
    })

    set_here : session_at (with_session here.state s.number s.state) s.number ≡ s.state
    set_here = get_or-set_at here.state.sessions s.number s.number s.state (new_session []) refl matches.within

    by_undone : (b : Bool) → is_undone reply ≡ b → session_at (elim b as (λ _. MachineState) [ true ↦ here.state | false ↦ state_after here.state s.number call ]) s.number ≡ s.state
    by_undone true undone = matches.session ∙ sym (ruled.undone undone)
    by_undone false done =
        ap (λ (o : Outcome). session_at o.next s.number) told.outcome
        ∙ set_here

    pub ruled-session : session_unless_undone s.number call reply here ≡ s.state
    ruled-session = by_undone (is_undone reply) refl

  pub ruled-moves : knows.decided ≤ length knows.all → IsMovedBy store knows (call_record s.number s.made call reply Unchanged None) s
  ruled-moves within =
      unchanged_move E store knows (call_record s.number s.made call reply Unchanged None) call reply s within refl ruled.keeps
      (record { before = ruled.before; was = ruled.was; sees = ruled.sees; application = ruled.application; moves = ruled-session })
