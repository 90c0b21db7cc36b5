-- The gate keeps what always holds of its devices, over each call that is made of it.
use Rattle.std.proofs.Common.{◌≡◌, ◌<◌, ◌++◌, ◌∷◌, [], ℕ, List, None, append_assoc, length, ap, ◌∙◌, inl, refl, subst, sym}
use Rattle.tee_types.specs.Limits.{IsObjectFile}
use Rattle.serial_calls.specs.CallerSessions.{CallerSession}
use Rattle.call_rules.specs.Plain.{IsPlain}
use Rattle.serial_calls.specs.ChangeReplies.{IsDoneOrRefused}
use Rattle.disk_model.specs.State.{FileState}
use Rattle.serial_calls.specs.GateServed.{IsLeft, IsServed, IsServedAlone, IsUnserved}
use Rattle.history_seats.specs.Records.{HistoryRecord}
use Rattle.hmac_keys.specs.KeyTable.{rpmb_key}
use Rattle.serial_calls.specs.declared.PlacedReply.{PlacedReply}
use Rattle.serial_calls.specs.GuardedGates.{GuardedGateValue}
use Rattle.serial_calls.specs.AnswerCauses.{HasToldCause}
use Rattle.serial_calls.specs.AnswerServed.{IsServed as IsServedWith}
use Rattle.serial_calls.specs.ObjectCommits.{IsCommitted}
use Rattle.rpmb_card.specs.Port.{PortState}
use Rattle.rpmb_host.specs.Honest.{HasCard}
use Rattle.serial_calls.specs.Gates.{DoubtStands, GateValue, gate_sides}
use Rattle.serial_calls.specs.declared.EntryChange.{EntryChange}
use Rattle.store_model.specs.Record.{events_of}
use Rattle.store_model.specs.declared.event.Event.TheVariants.{Call as CallEvent}
use Rattle.serial_calls.specs.Stores.{Store}
use Rattle.tee_types.specs.declared.call.Call.{Call}
use Rattle.store_model.specs.declared.event.Mark.{Mark}
use Rattle.tee_types.specs.declared.reply.Reply.{Reply}
use Rattle.serial_calls.specs.EventCounts.{events_at, landing_events}
use Rattle.serial_calls.specs.Appended.{AppendsCall}
use Rattle.serial_calls.specs.Devices.{AccusesRightly, CostsDoubt, Devices, Grows, file_in}
use Rattle.serial_calls.specs.ServeReady.{KnowsCard}
use Rattle.serial_calls.specs.Slots.{AreOfObjectFiles}
use Rattle.serial_calls.proofs.Cards.{settled_counts}
use Rattle.serial_calls.proofs.ChangedCalls.{done_accuses}
use Rattle.serial_calls.proofs.CommittedCalls.{committed_appends, committed_goes_on, committed_mark, end_accuses, end_costs}
use Rattle.serial_calls.proofs.RuledCalls.{plain_accuses, ruled_appends}
use Rattle.serial_calls.proofs.MoreRecords.{events_more, tagged_more}
use Rattle.serial_calls.proofs.ServeSettling.{Settles, reserved_settles, settled_settles, settles_reserved}
use Rattle.serial_calls.proofs.ToldCalls.{GatesGoOn, quiet_goes_on, told_accuses_file, told_appends, told_quiet}
use Rattle.serial_calls.proofs.WholeCalls.{alone_goes_on, precedes_accuses, precedes_settles, unserved_settles}
use Rattle.shared_calls.specs.Kept.{KeepsGate}
use Rattle.shared_calls.proofs.KeptGates.{keeps-appended, keeps-call, keeps-same, keeps-settled}

-- while no commit is in doubt, a card that is told with the host's key has the gate's counter
pub known-card : {F R : Type 0} (of_file : F → FileState) (of_port : R → PortState) (gate : GateValue F R) (key : List ℕ) → gate.host.key ≡ key → gate.doubt ≡ None
    → DoubtStands (gate_sides of_file of_port gate) gate.doubt → KnowsCard (of_port gate.host.port) gate.host.key key gate.counter
known-card of_file of_port gate key keyed idle stands = record {
  keyed = keyed;
  counted = λ card has.
      settled_counts (gate_sides of_file of_port gate) (subst (DoubtStands (gate_sides of_file of_port gate)) idle stands) card
      (subst (λ (k : List ℕ). HasCard (of_port gate.host.port) k card) (sym keyed) has);
}

module _ {F R : Type 0} (of_file : F → FileState) (of_port : R → PortState) (store : Store) (before : Devices) where
  abbrev key : List ℕ
  key = rpmb_key store.keys.huk

  abbrev Keeps : GuardedGateValue F R → Type 0
  Keeps gate = KeepsGate of_file of_port store before gate

  -- the gate's devices, with these files of objects, and a count of draws
  abbrev devices_at : GuardedGateValue F R → (files : ℕ → FileState) → (draws : ℕ) → Devices
  devices_at gate files draws = record { dir = of_file gate.gate.dir.file; file = files; card = of_port gate.gate.host.port; draws = draws }

  -- room was made
  pub keeps-reserved : (old new : GuardedGateValue F R) → new.gate ≡ record old.gate { open_handles = new.gate.open_handles; room = new.gate.room }
      → new.journal.knows ≡ old.journal.knows → Keeps old → Keeps new
  keeps-reserved old new gate knows k =
      keeps-same of_file of_port store before old new k (ap (λ k. k.all) knows) (ap (λ (g : GateValue F R). of_file g.dir.file) gate) (ap (λ (g : GateValue F R). of_port g.host.port) gate)

  -- the rules answered
  pub keeps-ruled : {E : Type 0} (old new : GuardedGateValue F R) (was now : CallerSession E) (call : Call) (answer : PlacedReply) → IsServed store call answer old new was now → IsPlain answer.reply
      → Keeps old → Keeps new
  unfolding ruled_appends
  keeps-ruled old new was now call answer s plain k =
      let gates : GatesGoOn of_file of_port (λ e. 0) key old.gate new.gate was now = quiet_goes_on of_file of_port (λ e. 0) key old.gate new.gate was now s.gate (inl refl) in
      keeps-appended of_file of_port store before old new k gates.dir gates.card (file_in []) (file_in []) 0 0 was now call answer (ruled_appends store old new was now call answer s)
      (plain_accuses key (devices_at old (file_in []) 0) (devices_at new (file_in []) 0) answer.reply plain) tt

  -- The reply of an object's file was told.
  module _ {E : Type 0} (old new : GuardedGateValue F R) (was now : CallerSession E) (file : ℕ) (object : IsObjectFile file) (call : Call) (answer : PlacedReply)
      (s : IsServedWith store old new was now file call answer) (k : Keeps old) where
    gates : GatesGoOn of_file of_port (λ e. 0) key old.gate new.gate was now
    gates = quiet_goes_on of_file of_port (λ e. 0) key old.gate new.gate was now s.gate (inl refl)

    pub keeps-told : (from to : FileState) → HasToldCause from to file answer.reply → Keeps new
    keeps-told from to cause =
        keeps-appended of_file of_port store before old new k gates.dir gates.card (λ n. from) (λ n. to) 0 0 was now call answer (told_appends store old new was now file object call answer s)
        (told_accuses_file key (devices_at old (λ n. from) 0) (devices_at new (λ n. to) 0) file from to (λ n own. (refl, refl)) answer.reply cause)
        (told_quiet store old new was now file object call answer s key (devices_at old (λ n. from) 0) (devices_at new (λ n. to) 0))

    -- it accuses no device
    pub keeps-done : IsDoneOrRefused answer.reply → Keeps new
    keeps-done done =
        keeps-appended of_file of_port store before old new k gates.dir gates.card (file_in []) (file_in []) 0 0 was now call answer (told_appends store old new was now file object call answer s)
        (done_accuses key (devices_at old (file_in []) 0) (devices_at new (file_in []) 0) answer.reply done)
        (told_quiet store old new was now file object call answer s key (devices_at old (file_in []) 0) (devices_at new (file_in []) 0))

  -- A commit was made, or not.
  pub keeps-committed : {E : Type 0} (draws : E → ℕ) (old new : GuardedGateValue F R) (file : ℕ) (object : IsObjectFile file) (was now : CallerSession E) (call : Call) (own : Reply) (change : EntryChange) (Reliable : Type 0)
      (answer : PlacedReply) → ((d0 d1 : Devices) → AccusesRightly key d0 d1 own) → KnowsCard (of_port old.gate.host.port) old.gate.host.key key old.gate.counter
      → IsCommitted of_file of_port store old new file was now call own change Reliable (draws was.entropy) (draws now.entropy) answer → Keeps old → Keeps new
  keeps-committed draws old new file object was now call own change Reliable answer owns known c k =
      let gates : GatesGoOn of_file of_port draws key old.gate new.gate was now =
      committed_goes_on of_file of_port draws store old new file was now call own change Reliable answer c key known in
      let d0 : Devices = devices_at old (file_in []) (draws was.entropy) in
      let d1 : Devices = devices_at new (file_in []) (draws now.entropy) in
      keeps-appended of_file of_port store before old new k gates.dir gates.card (file_in []) (file_in []) (draws was.entropy) (draws now.entropy) was now call answer
      (committed_appends of_file of_port draws store old new file was now call own change Reliable answer object c)
      (subst (AccusesRightly key d0 d1) (sym c.reply) (end_accuses of_file of_port draws old new [] [] was now key known c.end own c.gate.counts_are c.gate.cause c.gate.heard (owns d0 d1)))
      (subst (λ (p : Mark × Reply). CostsDoubt key d0 d1 p.0 p.1) (λ i. (sym (committed_mark of_file of_port draws store old new file was now call own change Reliable answer object c) i, sym c.reply i))
      (end_costs of_file of_port draws old new [] [] was now key known c.end own c.gate.cause c.gate.doubtful))

  -- What the gate does alone, behind the making of room.
  module _ {E : Type 0} (draws : E → ℕ) (first old new : GuardedGateValue F R) (was now : CallerSession E) (ready : old.gate ≡ record first.gate { open_handles = old.gate.open_handles; room = old.gate.room })
      (knows : old.journal.knows ≡ first.journal.knows) (Reliable : Type 0) (drawn : Grows (draws was.entropy) (draws now.entropy)) (keyed : first.gate.host.key ≡ key)
      (stands : DoubtStands (gate_sides of_file of_port first.gate) first.gate.doubt) (k : Keeps first) where
    pub keeps-alone : (call : Call) (answer : PlacedReply) → IsServedAlone of_file of_port Reliable (draws was.entropy) (draws now.entropy) store call answer old new was now → Keeps new
    unfolding ruled_appends
    keeps-alone call answer s =
        let settled : Settles of_file of_port key first s.between =
        reserved_settles of_file of_port key first old s.between ready knows
        (precedes_settles of_file of_port draws store first old new [] was now ready knows Reliable drawn keyed stands s.between answer.reply s.precedes) in
        let a : AppendsCall store s.between new was now call answer = ruled_appends store s.between new was now call answer s.served in
        let goes_on = alone_goes_on of_file of_port draws store first old new [] was now ready knows Reliable drawn keyed stands s.between settled s.served.gate in
        keeps-call of_file of_port store before first new k goes_on.dir goes_on.card (file_in []) (file_in []) (draws was.entropy) (draws now.entropy) settled.landed was.number was.made call answer.reply a.mark
        (subst (λ (n : ℕ). n < length store.mounted.applications) a.appends.extends.number a.appends.caller.session.known)
        (ap (λ (l : List HistoryRecord). events_of l) a.all ∙ events_more s.between.journal.knows.all a.last ∙ (λ i. settled.events i ++ a.event i ∷ [])
        ∙ append_assoc (events_at first) (landing_events settled.landed) (CallEvent was.number was.made call answer.reply a.mark ∷ []))
        (subst AreOfObjectFiles (sym a.all) (tagged_more s.between.journal.knows.all a.last a.tagged (settled.tagged k.tagged)))
        (precedes_accuses of_file of_port draws store first old new [] was now ready knows Reliable drawn keyed stands s.between answer.reply s.precedes s.served.gate) tt

    -- memory ran out
    pub keeps-unserved : IsUnserved of_file of_port Reliable (draws was.entropy) (draws now.entropy) store old new was now → Keeps new
    keeps-unserved u =
        keeps-settled of_file of_port store before first new k
        (unserved_settles of_file of_port draws store first old new [] was now ready knows Reliable drawn keyed stands u)

  -- the call was left to an object's file, and room was made again
  pub keeps-left : {E : Type 0} (first old mid new : GuardedGateValue F R) (was now : CallerSession E) → old.gate ≡ record first.gate { open_handles = old.gate.open_handles; room = old.gate.room }
      → old.journal.knows ≡ first.journal.knows → new.gate ≡ record mid.gate { open_handles = new.gate.open_handles; room = new.gate.room } → new.journal.knows ≡ mid.journal.knows
      → IsLeft of_file of_port store old mid was now → Keeps first → Keeps new
  keeps-left first old mid new was now ready knows again same left k =
      keeps-settled of_file of_port store before first new k
      (settles_reserved of_file of_port key first mid new again same
      (reserved_settles of_file of_port key first old mid ready knows (settled_settles of_file of_port key old mid left.settled)))
