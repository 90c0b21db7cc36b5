-- Calls that were served.
use Rattle.std.proofs.Common.{◌≡◌, ◌≤◌, ◌+◌, ℕ, length, Some, refl, sym, ap, subst}
use Rattle.tee_types.specs.declared.call.Call.{Call}
use Rattle.tee_types.specs.declared.reply.Reply.{Reply}
use Rattle.store_model.specs.declared.event.Event.TheVariants.{Call as CallEvent}
use Rattle.store_model.specs.declared.event.Mark.TheVariants.{Unchanged}
use Rattle.history_seats.specs.Changes.{with_record}
use Rattle.history_seats.specs.Views.{SlotView}
use Rattle.core_laws.specs.Sessions.{Extends}
use Rattle.core_laws.specs.Stores.{Store}
use Rattle.commit_gate.specs.CallerSessions.{CallerSession, IsCallerOf, session_value}
use Rattle.commit_gate.specs.SessionViews.{pass_shown}
use Rattle.open_table.specs.HandleChanges.{NotesReply}
use Rattle.commit_gate.specs.GuardedGates.{GuardedGateValue}
use Rattle.commit_gate.specs.SlotAnswers.{slot_record}
use Rattle.call_steps.specs.AnswerServed.{IsServed}

-- An answer that was appended with a slot's seat was served.
module _ {F R E : Type 0} (store : Store) (old new : GuardedGateValue F R) (s now : CallerSession E) (view : SlotView) (file place : ℕ) (call : Call) (reply told : Reply) where
  pub answer-served : view.file ≡ file → told ≡ reply → place ≡ length old.journal.knows.all
      → Extends store (session_value s) (session_value now) (CallEvent s.number s.made call reply Unchanged) place → IsCallerOf store now
      → now ≡ record s { pass = pass_shown new.journal.knows s.pass; made = s.made + 1 }
      → new.journal.knows ≡ with_record (slot_record store old.journal.knows view s.number s.made call reply) old.journal.knows → old.journal.spare ≤ new.journal.spare + 1
      → new.gate ≡ record old.gate { open_handles = new.gate.open_handles } → NotesReply old.gate.open_handles new.gate.open_handles view.file s.number call reply
      → new.closing ≡ old.closing → IsServed store old new s now file call (record { place = place; reply = told })
  answer-served own copied at extends whole moved knows spare gate notes closing =
      subst (λ (r : Reply). IsServed store old new s now file call (record { place = place; reply = r })) (sym copied) (record {
        place = at;
        appends = record { extends = extends; caller = whole; made = ap (λ (x : CallerSession E). x.made) moved };
        last = slot_record store old.journal.knows view s.number s.made call reply;
        event = refl;
        tagged = ap Some own;
        knows = knows;
        spare = spare;
        gate = gate;
        notes = subst (λ (n : ℕ). NotesReply old.gate.open_handles new.gate.open_handles n s.number call reply) own notes;
        closing = closing;
      })
