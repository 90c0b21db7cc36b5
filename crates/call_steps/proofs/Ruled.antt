-- Sessions that are as a call leaves them that the rules answered.
use Rattle.std.proofs.Common.{◌≡◌, ◌≤◌, ◌+◌, ℕ, true, List, Option, Some, None, length, refl, sym, ap, ◌∙◌, subst}
use Rattle.tee_types.specs.declared.call.Call.{Call}
use Rattle.tee_types.specs.declared.reply.Reply.{Reply}
use Rattle.tee_types.specs.declared.reply.Reply.TheVariants.{Done, Handle, Content, Info, Found, Refused, Misuse, Corrupt, NotAvailable, CounterSpent, NoMemory}
use Rattle.open_table.specs.Table.{TableState}
use Rattle.store_model.specs.declared.event.Event.{Event}
use Rattle.store_model.specs.declared.event.Event.TheVariants.{Call as CallEvent}
use Rattle.store_model.specs.declared.event.Mark.TheVariants.{Unchanged}
use Rattle.store_model.specs.Machine.{MachineState, Session}
use Rattle.store_model.specs.Record.{fault_in_reply}
use Rattle.store_model.specs.ReplayState.{is_undone}
use Rattle.dir_records.specs.declared.entry.DirEntry.{DirEntry}
use Rattle.history_seats.specs.Changes.{with_record, call_record}
use Rattle.history_seats.specs.Views.{GateView}
use Rattle.core_laws.specs.Sessions.{Extends, SessionValue}
use Rattle.core_laws.specs.Stores.{Store}
use Rattle.commit_gate.specs.CallerSessions.{CallerSession, IsCallerOf, session_value}
use Rattle.commit_gate.specs.SessionViews.{pass_shown}
use Rattle.call_rules.specs.Matches.{Matches}
use Rattle.call_rules.specs.Plain.{IsPlain}
use Rattle.call_steps.specs.PlainReplies.{HasNoBytes}
use Rattle.call_rules.specs.Told.{IsTold}
use Rattle.commit_gate.specs.Gates.{GateValue}
use Rattle.open_table.specs.HandleChanges.{NotesReply}
use Rattle.commit_gate.specs.Answering.{LeavesHandles}
use Rattle.commit_gate.specs.Commits.{IsCalm}
use Rattle.commit_gate.specs.GuardedGates.{GuardedGateValue}
use Rattle.commit_gate.specs.Ruled.{IsRuled}
use Rattle.commit_gate.proofs.AloneCalls.{quiet-notes}
use Rattle.commit_gate.specs.declared.placed_reply.PlacedReply.{PlacedReply}
use Rattle.call_steps.specs.GateServed.{IsServed}

none-some : {A : Type 0} (a : A) → None ≡ Some a → ⊥
none-some a e = cc

module _ {E : Type 0} (store : Store) (knows : GateView) (entries : List (Option DirEntry)) (table : TableState) (call : Call) (reply : Reply) (s : CallerSession E) where
  -- a calm session whose state the call changed
  pub moved-ruled : IsCalm store knows s → (after : Session) → after.application ≡ s.state.application → (is_undone reply ≡ true → after ≡ s.state)
      → ((m : MachineState) (i : ℕ) → Matches entries table s.state m i → IsTold m i call reply after) → IsRuled store knows entries table call reply (record s { state = after })
  moved-ruled calm after application undone told = record {
    before = s.state;
    was = record { session = calm.caller.session; doubt = calm.caller.doubt };
    sees = calm.sees;
    application = application;
    undone = undone;
    keeps = λ doubt is. absurd (none-some doubt (sym calm.settled ∙ is));
    told = λ m matches. told m s.number matches;
  }

-- what extends a session's view does so whatever the session's state is
extends-moved : {E : Type 0} (store : Store) (s : CallerSession E) (state : Session) (after : SessionValue) (event : Event) (place : ℕ)
    → Extends store (session_value (record s { state = state })) after event place → Extends store (session_value s) after event place
extends-moved store s state after event place x = record {
  old = x.old;
  new = x.new;
  was = x.was;
  is = x.is;
  between = x.between;
  last = x.last;
  extends = x.extends;
  event_is = x.event_is;
  none_between = x.none_between;
  at = x.at;
  decided = x.decided;
  fair = x.fair;
  number = x.number;
}

pub moved-served : {E F R : Type 0} (store : Store) (call : Call) (answer : PlacedReply) (old new : GuardedGateValue F R) (s after : CallerSession E) (state : Session)
    → IsServed store call answer old new (record s { state = state }) after → IsServed store call answer old new s after
moved-served store call answer old new s after state x = record {
  appends = record {
    extends = extends-moved store s state (session_value after) (CallEvent s.number s.made call answer.reply Unchanged) answer.place x.appends.extends;
    caller = x.appends.caller;
    made = x.appends.made;
  };
  place = x.place;
  knows = x.knows;
  spare = x.spare;
  gate = x.gate;
  notes = x.notes;
  closing = x.closing;
}

pub plain-no-file : (reply : Reply) → IsPlain reply → fault_in_reply reply ≡ None
plain-no-file Done is = refl
plain-no-file (Handle number) is = refl
plain-no-file (Found id size) is = refl
plain-no-file (Refused code) is = refl
plain-no-file (Misuse reason) is = refl
plain-no-file (Content bytes) is = refl
plain-no-file (Info size position flags attributes) is = refl
plain-no-file Corrupt is = refl
plain-no-file (NotAvailable cause) is = absurd is
plain-no-file (CounterSpent counter) is = refl
plain-no-file NoMemory is = refl

same-table : {F R : Type 0} (old new : GateValue F R) → new ≡ old → new ≡ record old { open_handles = new.open_handles }
same-table old new same = subst (λ (g : GateValue _ _). g ≡ record old { open_handles = g.open_handles }) (sym same) refl

-- a call that was appended, and that left gate and handles
pub quiet-served : {E F R : Type 0} (store : Store) (call : Call) (answer : PlacedReply) (old new : GuardedGateValue F R) (s after : CallerSession E) → LeavesHandles call answer.reply
    → IsCallerOf store after → Extends store (session_value s) (session_value after) (CallEvent s.number s.made call answer.reply Unchanged) answer.place
    → after ≡ record s { pass = pass_shown new.journal.knows s.pass; made = s.made + 1 } → answer.place ≡ length old.journal.knows.all
    → new.journal.knows ≡ with_record (call_record s.number s.made call answer.reply Unchanged None) old.journal.knows → old.journal.spare ≤ new.journal.spare + 1 → new.gate ≡ old.gate
    → new.closing ≡ old.closing → IsServed store call answer old new s after
quiet-served store call answer old new s after leaves caller extends session place knows spare gate closing = record {
  appends = record { extends = extends; caller = caller; made = ap (λ (x : CallerSession _). x.made) session };
  place = place;
  knows = knows;
  spare = spare;
  gate = same-table old.gate new.gate gate;
  notes =
      subst (λ (t : TableState). NotesReply old.gate.open_handles t 0 s.number call answer.reply) (sym (ap (λ (g : GateValue _ _). g.open_handles) gate))
      (quiet-notes call answer.reply old.gate.open_handles 0 s.number leaves);
  closing = closing;
}

-- what the rules give has no bytes
pub plain-bare : (r : Reply) → IsPlain r → HasNoBytes r
plain-bare Done p = tt
plain-bare (Handle number) p = tt
plain-bare (Content bytes) p = p
plain-bare (Info size position flags attributes) p = p
plain-bare (Found id size) p = tt
plain-bare (Refused code) p = tt
plain-bare (Misuse reason) p = tt
plain-bare Corrupt p = tt
plain-bare (NotAvailable cause) p = tt
plain-bare (CounterSpent counter) p = tt
plain-bare NoMemory p = tt
