-- A misuse is answered at once, behind room that was made.
use Rattle.std.proofs.Common.{◌≡◌, ◌∙◌, ℕ, List, ap, length, refl, subst, sym, None}
use Rattle.store_model.specs.declared.event.Mark.TheVariants.{Unchanged}
use Rattle.std.specs.Prelude.{IsSome}
use Rattle.tee_types.specs.declared.call.Call.{Call}
use Rattle.store_model.specs.Machine.{Session}
use Rattle.history_seats.specs.Changes.{with_record, call_record}
use Rattle.history_seats.specs.Views.{GateView}
use Rattle.call_rules.specs.Matches.{Matches}
use Rattle.core_laws.specs.Stores.{Store}
use Rattle.call_steps.specs.CallerSessions.{CallerSession}
use Rattle.call_steps.specs.GateServed.{IsMisused, IsServedAtOnce}
use Rattle.call_steps.specs.Gates.{GateValue}
use Rattle.call_steps.specs.GuardedGates.{GuardedGateValue}
use Rattle.call_steps.specs.SessionViews.{shown}
use Rattle.call_steps.specs.SlotValues.{SlotValue}
use Rattle.call_steps.specs.declared.PlacedReply.{PlacedReply}
use Rattle.call_steps.proofs.Knowing.{same-open}
use Rattle.serial_calls.specs.ServedAnswers.{AreLetBe, IsAnsweredAtOnce}

module _ {E F R : Type 0} (store : Store) (call : Call) (first old new : GuardedGateValue F R) (was now : CallerSession E) (slots : List SlotValue)
    (ready : old.gate ≡ record first.gate { open_handles = old.gate.open_handles; room = old.gate.room }) (records : old.gate.open_handles.records ≡ first.gate.open_handles.records)
    (knows : old.journal.knows ≡ first.journal.knows) (closing : old.closing ≡ first.closing) where
  -- the call is a misuse there, too
  pub misused_ready : IsMisused first (shown first.journal.knows was).state call → IsMisused old (shown old.journal.knows was).state call
  misused_ready m =
      let state : Session = (shown first.journal.knows was).state in
      let open_ = same-open first.gate.dir.dir.entries first.gate.open_handles old.gate.open_handles _ records m.matches.handles in
      let here : Matches old.gate.dir.dir.entries old.gate.open_handles state m.machine m.number =
      subst (λ (g : GateValue F R). Matches g.dir.dir.entries g.open_handles state m.machine m.number) (sym ready)
      (record { shaped = m.matches.shaped; handles = open_; within = m.matches.within; session = m.matches.session }) in
      record {
        doubted = subst (λ (g : GateValue F R). IsSome g.doubt) (sym ready) m.doubted;
        machine = m.machine;
        number = m.number;
        matches = subst (λ (v : GateView). Matches old.gate.dir.dir.entries old.gate.open_handles (shown v was).state m.machine m.number) (sym knows) here;
        misuse = m.misuse;
      }

  -- only room was made
  let_be : new ≡ old → now.entropy ≡ was.entropy → AreLetBe (record { gate = first; slots = slots; session = was }) (record { gate = new; slots = slots; session = now })
  let_be same entropy = record {
    gate = subst (λ (g : GuardedGateValue F R). g.gate ≡ record first.gate { open_handles = g.gate.open_handles; room = g.gate.room }) (sym same) ready;
    closing = ap (λ (g : GuardedGateValue F R). g.closing) same ∙ closing;
    slots = refl;
    entropy = entropy;
  }

  -- the answer behind it
  pub answered_at_once : (answer : PlacedReply) → IsServedAtOnce store call answer old new was now
      → IsAnsweredAtOnce (record { gate = first; slots = slots; session = was }) (record { gate = new; slots = slots; session = now }) call answer
  answered_at_once answer s = record {
    let_be = record {
      gate = s.served.gate ∙ ap (λ (g : GateValue F R). record g { open_handles = new.gate.open_handles }) ready
          ∙ ap (λ (n : ℕ). record first.gate { open_handles = new.gate.open_handles; room = n }) (sym (ap (λ (g : GateValue F R). g.room) s.served.gate));
      closing = s.served.closing ∙ closing;
      slots = refl;
      entropy = s.entropy;
    };
    misuse = s.misuse;
    place = s.served.place ∙ ap (λ (v : GateView). length v.all) knows;
    knows = subst (λ (v : GateView). new.journal.knows ≡ with_record (call_record was.number was.made call answer.reply Unchanged None) v) knows s.served.knows;
  }

  pub unanswered_at_once : new ≡ old → now.entropy ≡ was.entropy
      → AreLetBe (record { gate = first; slots = slots; session = was }) (record { gate = new; slots = slots; session = now }) × (new.journal.knows ≡ first.journal.knows)
  unanswered_at_once same entropy = (let_be same entropy, ap (λ (g : GuardedGateValue F R). g.journal.knows) same ∙ knows)
