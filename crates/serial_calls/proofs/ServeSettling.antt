-- What becomes of a commit in doubt before a call is answered.
use Rattle.std.proofs.Common.{◌≡◌, ◌++◌, ℕ, List, None, Ok, Err, Option, Result, Some, sym, ap, ◌∙◌, subst, inl, inr}
use Rattle.std.proofs.lemmas.List.{append-nil}
use Rattle.disk_model.specs.Calls.{GoesOn}
use Rattle.disk_model.specs.State.{FileState}
use Rattle.call_steps.specs.Resolved.{HasResolved, IsSettled, StaysInDoubt, WasResolved}
use Rattle.history_seats.specs.Changes.{landing_of}
use Rattle.history_seats.specs.Records.{HistoryRecord}
use Rattle.history_seats.specs.Views.{GateView}
use Rattle.call_steps.specs.GuardedGates.{GuardedGateValue}
use Rattle.rpmb_card.specs.Port.{PortState}
use Rattle.call_steps.specs.Gates.{GateValue}
use Rattle.call_steps.specs.declared.DoubtedChange.{DoubtedChange}
use Rattle.call_steps.specs.declared.Resolved.{Resolved}
use Rattle.call_steps.specs.declared.Resolved.TheVariants.{Dropped, Landed}
use Rattle.store_model.specs.Record.{events_of}
use Rattle.tee_types.specs.declared.reply.Cause.{Cause}
use Rattle.call_steps.specs.EventCounts.{events_at, landing_events}
use Rattle.call_steps.specs.Devices.{PortGoesOn}
use Rattle.call_steps.specs.Slots.{AreOfObjectFiles}
use Rattle.call_steps.proofs.PortArms.{exchanged_arms}
use Rattle.call_steps.proofs.MoreRecords.{events_more, tagged_more}
use Rattle.serial_calls.proofs.CommittedCalls.{none_some}
use Rattle.call_steps.proofs.CountGrowth.{card_goes_on_none, grows_le, same_card, same_file_goes_on, same_port_goes_on}

module _ {F R : Type 0} (of_file : F → FileState) (of_port : R → PortState) (key : List ℕ) where
  -- The history has at most one landing more, and the gate's devices go on.
  pub record Settles (old mid : GuardedGateValue F R) : Type 0 where
    pub landed : Option ℕ
    pub events : events_at mid ≡ events_at old ++ landing_events landed
    pub tagged : AreOfObjectFiles old.journal.knows.all → AreOfObjectFiles mid.journal.knows.all
    pub dir : GoesOn (of_file old.gate.dir.file) (of_file mid.gate.dir.file)
    pub card : PortGoesOn key (of_port old.gate.host.port) (of_port mid.gate.host.port)

  -- nothing was told of the doubt
  pub quiet_settles : (old mid : GuardedGateValue F R) → mid.journal.knows.all ≡ old.journal.knows.all
      → of_file mid.gate.dir.file ≡ of_file old.gate.dir.file → PortGoesOn key (of_port old.gate.host.port) (of_port mid.gate.host.port) → Settles old mid
  quiet_settles old mid all dir card = record {
    landed = None;
    events = ap (λ (l : List HistoryRecord). events_of l) all ∙ sym (append-nil (events_at old));
    tagged = λ files. subst AreOfObjectFiles (sym all) files;
    dir = same_file_goes_on (of_file old.gate.dir.file) (of_file mid.gate.dir.file) dir;
    card = card;
  }

  pub same_settles : (old mid : GuardedGateValue F R) → mid ≡ old → Settles old mid
  same_settles old mid same =
      quiet_settles old mid (ap (λ (g : GuardedGateValue F R). g.journal.knows.all) same)
      (ap (λ (g : GuardedGateValue F R). of_file g.gate.dir.file) same)
      (same_port_goes_on key (of_port old.gate.host.port) (of_port mid.gate.host.port) (ap (λ (g : GuardedGateValue F R). of_port g.gate.host.port) same))

  card_goes_on : (nonce : List ℕ) (d : DoubtedChange) (old mid : GuardedGateValue F R) (result : Result Resolved Cause) → HasResolved of_file of_port nonce d old mid result
      → PortGoesOn key (of_port old.gate.host.port) (of_port mid.gate.host.port)
  card_goes_on nonce d old mid result r = record {
    told = λ card has. (card, record { told = r.card ∙ has.told; keyed = has.keyed });
    card = λ was is had has.
        card_goes_on_none was is (same_card (of_port mid.gate.host.port) key was is (record { told = r.card ∙ had.told; keyed = had.keyed }) has);
    calm = λ is. (r.calm is).0;
    counted = grows_le (of_port old.gate.host.port).faults (of_port mid.gate.host.port).faults r.answered.exchanged.counted;
    arms = exchanged_arms (of_port old.gate.host.port) (of_port mid.gate.host.port) _ _ r.answered.exchanged;
  }

  resolved_settles : (nonce : List ℕ) (d : DoubtedChange) (old mid : GuardedGateValue F R) (how : Resolved) → HasResolved of_file of_port nonce d old mid (Ok how) → Settles old mid
  resolved_settles nonce d old mid (Landed n) r = record {
    landed = Some n;
    events = ap (λ (k : GateView). events_of k.all) r.knows ∙ events_more old.journal.knows.all (landing_of n);
    tagged = λ files. subst (λ (k : GateView). AreOfObjectFiles k.all) (sym r.knows) (tagged_more old.journal.knows.all (landing_of n) (λ file is. absurd (none_some file is)) files);
    dir = same_file_goes_on (of_file old.gate.dir.file) (of_file mid.gate.dir.file) r.file;
    card = card_goes_on nonce d old mid (Ok (Landed n)) r;
  }
  resolved_settles nonce d old mid (Dropped n) r = record {
    landed = None;
    events = ap (λ (k : GateView). events_of k.all) r.knows ∙ sym (append-nil (events_at old));
    tagged = λ files. subst (λ (k : GateView). AreOfObjectFiles k.all) (sym r.knows) files;
    dir = same_file_goes_on (of_file old.gate.dir.file) (of_file mid.gate.dir.file) r.file;
    card = card_goes_on nonce d old mid (Ok (Dropped n)) r;
  }

  pub was_settles : (old mid : GuardedGateValue F R) → WasResolved of_file of_port old mid → Settles old mid
  was_settles old mid w = resolved_settles w.nonce w.doubted old mid w.how w.resolved

  pub settled_settles : (old mid : GuardedGateValue F R) → IsSettled of_file of_port old mid → Settles old mid
  settled_settles old mid (inl same) = same_settles old mid same.1
  settled_settles old mid (inr w) = was_settles old mid w

  pub stays_settles : (Reliable : Type 0) (drew draws : ℕ) (old mid : GuardedGateValue F R) (cause : Cause) → StaysInDoubt of_file of_port Reliable drew draws old mid cause → Settles old mid
  stays_settles Reliable drew draws old mid cause stays = elim stays.why [
    | inl same ↦ same_settles old mid same.0
    | inr read ↦
        quiet_settles old mid (ap (λ (k : GateView). k.all) read.1.knows) read.1.file (card_goes_on read.0 stays.doubted old mid (Err cause) read.1)
  ]

  -- room was made before
  pub reserved_settles : (old ready mid : GuardedGateValue F R) → ready.gate ≡ record old.gate { open_handles = ready.gate.open_handles; room = ready.gate.room }
      → ready.journal.knows ≡ old.journal.knows → Settles ready mid → Settles old mid
  reserved_settles old ready mid gate knows s = record {
    landed = s.landed;
    events = s.events ∙ ap (λ (k : GateView). events_of k.all ++ landing_events s.landed) knows;
    tagged = λ files. s.tagged (subst (λ (k : GateView). AreOfObjectFiles k.all) (sym knows) files);
    dir = subst (λ (g : GateValue F R). GoesOn (of_file g.dir.file) (of_file mid.gate.dir.file)) gate s.dir;
    card = subst (λ (g : GateValue F R). PortGoesOn key (of_port g.host.port) (of_port mid.gate.host.port)) gate s.card;
  }

  -- room was made behind
  pub settles_reserved : (old mid ready : GuardedGateValue F R) → ready.gate ≡ record mid.gate { open_handles = ready.gate.open_handles; room = ready.gate.room }
      → ready.journal.knows ≡ mid.journal.knows → Settles old mid → Settles old ready
  settles_reserved old mid ready gate knows s = record {
    landed = s.landed;
    events = ap (λ (k : GateView). events_of k.all) knows ∙ s.events;
    tagged = λ files. subst (λ (k : GateView). AreOfObjectFiles k.all) (sym knows) (s.tagged files);
    dir = subst (λ (g : GateValue F R). GoesOn (of_file old.gate.dir.file) (of_file g.dir.file)) (sym gate) s.dir;
    card = subst (λ (g : GateValue F R). PortGoesOn key (of_port old.gate.host.port) (of_port g.host.port)) (sym gate) s.card;
  }
