-- A call that waits for a commit in doubt in vain.
use Rattle.std.proofs.Common.{◌≡◌, ℕ, true, false, List, Option, IsSome, refl, inr, None}
use Rattle.store_model.specs.declared.event.Mark.TheVariants.{Unchanged}
use Rattle.history_seats.specs.Changes.{call_record}
use Rattle.tee_types.specs.declared.call.Call.{Call}
use Rattle.tee_types.specs.declared.reply.Cause.{Cause}
use Rattle.tee_types.specs.declared.reply.Reply.TheVariants.{NotAvailable}
use Rattle.open_table.specs.Table.{TableState}
use Rattle.store_model.specs.Calls.{reply_of}
use Rattle.store_model.specs.Files.{is_misuse}
use Rattle.store_model.specs.Machine.{MachineState}
use Rattle.store_model.specs.ReplayState.{is_of_card}
use Rattle.dir_records.specs.declared.entry.DirEntry.{DirEntry}
use Rattle.history_seats.specs.Views.{GateView}
use Rattle.core_laws.specs.TamperScenarios.{TamperScenario}
use Rattle.core_laws.specs.Stores.{Store, replay_at}
use Rattle.core_laws.specs.Answered.{AreAnswered}
use Rattle.commit_gate.specs.JournalCalls.{IsMovedBy, IsToldAlone}
use Rattle.commit_gate.specs.CallerSessions.{CallerSession}
use Rattle.commit_gate.proofs.CallMoves.{unchanged_move}
use Rattle.commit_gate.specs.Gates.{GateValue}
use Rattle.call_rules.specs.Matches.{Matches}
use Rattle.commit_gate.specs.declared.guarded_gate.Closing.{Closing}
use Rattle.commit_gate.specs.KnownMachine.{KnowsMachine}
use Rattle.commit_gate.specs.GuardedGates.{GateInvariant}
use Rattle.commit_gate.proofs.Knowing.{shown_stand}
use Rattle.commit_gate.proofs.DoubtResolving.{doubt-tied, the-doubt}
use Rattle.call_steps.specs.Seen.{HasSeen}

-- the machine, where the history is answered, matches what is behind the lock
pub seen-matches : {E : Type 0} (store : Store) (knows : GateView) (entries : List (Option DirEntry)) (table : TableState) (s : CallerSession E) → HasSeen store knows s
    → KnowsMachine store knows entries table → (scenario : TamperScenario) → AreAnswered store scenario knows.all → Matches entries table s.state (replay_at store scenario knows.all).state s.number
seen-matches {E} store knows entries table s seen known scenario answered =
    let of = known scenario answered in
    let stands = shown_stand E store knows s seen.caller seen.sees scenario answered in
    record { shaped = of.shaped; handles = of.handles; within = stands.within; session = stands.is }

module _ {E F R : Type 0} (store : Store) (gate : GateValue F R) (knows : GateView) (closing : Option Closing) (s : CallerSession E) (call : Call) (cause : Cause) (seen : HasSeen store knows s)
    (of_card : is_of_card cause ≡ true) where
  pub held-told : GateInvariant store gate knows closing → KnowsMachine store knows gate.dir.dir.entries gate.open_handles → IsSome gate.doubt
      → ((m : MachineState) (i : ℕ) → Matches gate.dir.dir.entries gate.open_handles s.state m i → is_misuse (reply_of m i call) ≡ false)
      → (scenario : TamperScenario) → AreAnswered store scenario knows.all → IsToldAlone (replay_at store scenario knows.all) s.number call (NotAvailable cause)
  held-told guarded known has proper scenario answered =
      let d = the-doubt gate.doubt has in
      let stands = (doubt-tied store gate knows closing d.0 d.1 guarded).stands scenario answered in
      inr (record {
        cause = cause;
        replied = refl;
        due = record {
          doubt = stands.doubt;
          is_open = stands.is_open;
          no_misuse = proper (replay_at store scenario knows.all).state s.number (seen-matches store knows gate.dir.dir.entries gate.open_handles s seen known scenario answered);
          of_card = of_card;
        };
      })

  pub held-moves : IsMovedBy store knows (call_record s.number s.made call (NotAvailable cause) Unchanged None) s
  held-moves =
      unchanged_move E store knows (call_record s.number s.made call (NotAvailable cause) Unchanged None) call (NotAvailable cause) s seen.within refl (λ doubt is. of_card)
      (record {
        before = s.state;
        was = record { session = seen.caller.session; doubt = seen.caller.doubt };
        sees = seen.sees;
        application = refl;
        moves = λ scenario answered. (shown_stand E store knows s seen.caller seen.sees scenario answered).is;
      })
