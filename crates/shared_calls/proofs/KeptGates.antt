-- The gate's devices, and what the history tells of them, over a call.
use Rattle.std.proofs.Common.{◌≡◌, ◌<◌, ◌++◌, ◌∷◌, [], ℕ, List, length, None, Option, Some, ap, ◌∙◌, subst, sym}
use Rattle.serial_calls.specs.CallerSessions.{CallerSession}
use Rattle.disk_model.specs.Calls.{GoesOn}
use Rattle.disk_model.specs.State.{FileState}
use Rattle.disk_model.proofs.Goings.{goes_on_then}
use Rattle.history_seats.specs.Records.{HistoryRecord}
use Rattle.hmac_keys.specs.KeyTable.{rpmb_key}
use Rattle.serial_calls.specs.declared.PlacedReply.{PlacedReply}
use Rattle.serial_calls.specs.GuardedGates.{GuardedGateValue}
use Rattle.rpmb_card.specs.Port.{PortState}
use Rattle.store_model.specs.Record.{events_of}
use Rattle.store_model.specs.declared.event.Event.{Event}
use Rattle.store_model.specs.declared.event.Event.TheVariants.{Call as CallEvent, Landed}
use Rattle.store_model.specs.declared.event.Mark.{Mark}
use Rattle.serial_calls.specs.Stores.{Store}
use Rattle.tee_types.specs.declared.call.Call.{Call}
use Rattle.tee_types.specs.declared.reply.Device.{Device}
use Rattle.tee_types.specs.declared.reply.Device.TheVariants.{Card, Dir}
use Rattle.tee_types.specs.declared.reply.Reply.{Reply}
use Rattle.serial_calls.specs.EventCounts.{events_at, landing_events}
use Rattle.serial_calls.specs.Appended.{AppendsCall}
use Rattle.serial_calls.specs.Cards.{TellsCard}
use Rattle.serial_calls.specs.DeviceCounts.{Rise, counts_of}
use Rattle.serial_calls.specs.Devices.{AccusesRightly, CostsDoubt, Devices, PortGoesOn}
use Rattle.serial_calls.specs.Slots.{AreOfObjectFiles}
use Rattle.serial_calls.proofs.Cards.{TellsCard-append, TellsCard-call, TellsCard-landing}
use Rattle.serial_calls.proofs.CarriedCounts.{counts_of-append, counts_of-call, counts_of-landing}
use Rattle.serial_calls.proofs.CountGrowth.{grows_le, port_goes_on_then, same_port_goes_on}
use Rattle.serial_calls.proofs.Rises.{Rise-append}
use Rattle.serial_calls.proofs.MoreRecords.{events_more, tagged_more}
use Rattle.serial_calls.proofs.ServeSettling.{Settles, quiet_settles}
use Rattle.serial_calls.proofs.Tellings.{Rise-told_of}
use Rattle.shared_calls.specs.Kept.{AreOfSessions, KeepsGate}

-- the counts of a list of events behind another
pub counted-then : (device : Device) (from at to : ℕ) (first then all : List Event) → all ≡ first ++ then → Rise from at (counts_of device first) → Rise at to (counts_of device then)
    → Rise from to (counts_of device all)
counted-then device from at to first then all is a b =
    subst (λ (events : List Event). Rise from to (counts_of device events)) (sym is)
    (subst (Rise from to) (sym (counts_of-append device first then)) (Rise-append from at to (counts_of device first) (counts_of device then) a b))

AreOfSessions-append : (count : ℕ) (first then : List Event) → AreOfSessions count first → AreOfSessions count then → AreOfSessions count (first ++ then)
AreOfSessions-append count [] then a b = b
AreOfSessions-append count (CallEvent session number call reply mark ∷ first) then a b = (a.0, AreOfSessions-append count first then a.1 b)
AreOfSessions-append count (Landed commit ∷ first) then a b = AreOfSessions-append count first then a b

AreOfSessions-landing : (count : ℕ) (landed : Option ℕ) → AreOfSessions count (landing_events landed)
AreOfSessions-landing count None = tt
AreOfSessions-landing count (Some commit) = tt

module _ {F R : Type 0} (of_file : F → FileState) (of_port : R → PortState) (store : Store) (before : Devices) where
  abbrev sessions : ℕ
  sessions = length store.mounted.applications

  abbrev key : List ℕ
  key = rpmb_key store.keys.huk

  abbrev Keeps : GuardedGateValue F R → Type 0
  Keeps gate = KeepsGate of_file of_port store before gate

  -- a call that was appended is of a session of the store
  pub known-session : {E : Type 0} (old new : GuardedGateValue F R) (was now : CallerSession E) (call : Call) (answer : PlacedReply) → AppendsCall store old new was now call answer → was.number < sessions
  known-session old new was now call answer a = subst (λ (n : ℕ). n < sessions) a.appends.extends.number a.appends.caller.session.known

  module _ (old new : GuardedGateValue F R) (k : Keeps old) where
    abbrev dir_old : FileState
    dir_old = of_file old.gate.dir.file

    abbrev dir_new : FileState
    dir_new = of_file new.gate.dir.file

    abbrev port_old : PortState
    port_old = of_port old.gate.host.port

    abbrev port_new : PortState
    port_new = of_port new.gate.host.port

    -- the devices went on, and these events were appended, which carry what they counted
    pub keeps-added : GoesOn dir_old dir_new → PortGoesOn key port_old port_new → (added : List Event) → events_at new ≡ events_at old ++ added → AreOfSessions sessions added
        → AreOfObjectFiles new.journal.knows.all → Rise dir_old.faults dir_new.faults (counts_of Dir added) → Rise port_old.faults port_new.faults (counts_of Card added) → TellsCard key port_old added → Keeps new
    keeps-added dir card added events known tagged dir_counted card_counted told = record {
      sessions = subst (AreOfSessions sessions) (sym events) (AreOfSessions-append sessions (events_at old) added k.sessions known);
      tagged = tagged;
      dir = goes_on_then before.dir dir_old dir_new k.dir dir;
      dir_counted = counted-then Dir (before.dir).faults dir_old.faults dir_new.faults (events_at old) added (events_at new) events k.dir_counted dir_counted;
      card = port_goes_on_then key before.card port_old port_new k.card card;
      card_counted = counted-then Card (before.card).faults port_old.faults port_new.faults (events_at old) added (events_at new) events k.card_counted card_counted;
      card_told = subst (TellsCard key before.card) (sym events) (TellsCard-append key before.card port_old (events_at old) added k.card k.card_counted k.card_told told);
    }

    -- at most the landing of a commit in doubt was appended
    pub keeps-settled : Settles of_file of_port key old new → Keeps new
    keeps-settled s =
        keeps-added s.dir s.card (landing_events s.landed) s.events (AreOfSessions-landing sessions s.landed) (s.tagged k.tagged)
        (subst (Rise dir_old.faults dir_new.faults) (sym (counts_of-landing Dir s.landed)) (grows_le dir_old.faults dir_new.faults s.dir.faults))
        (subst (Rise port_old.faults port_new.faults) (sym (counts_of-landing Card s.landed)) s.card.counted) (TellsCard-landing key port_old s.landed)

    -- nothing was appended, and no device was called
    pub keeps-same : new.journal.knows.all ≡ old.journal.knows.all → of_file new.gate.dir.file ≡ of_file old.gate.dir.file
        → of_port new.gate.host.port ≡ of_port old.gate.host.port → Keeps new
    keeps-same all dir card = keeps-settled (quiet_settles of_file of_port key old new all dir (same_port_goes_on key (of_port old.gate.host.port) (of_port new.gate.host.port) card))

    module _ (dir : GoesOn dir_old dir_new) (card : PortGoesOn key port_old port_new)
        (were are : ℕ → FileState) (drew draws : ℕ) where
      abbrev pub d0 : Devices
      d0 = record { dir = of_file old.gate.dir.file; file = were; card = of_port old.gate.host.port; draws = drew }

      abbrev pub d1 : Devices
      d1 = record { dir = of_file new.gate.dir.file; file = are; card = of_port new.gate.host.port; draws = draws }

      -- a call was appended, behind the landing of a commit in doubt if that landed
      pub keeps-call : (landed : Option ℕ) (session number : ℕ) (call : Call) (reply : Reply) (mark : Mark) → session < sessions
          → events_at new ≡ events_at old ++ (landing_events landed ++ CallEvent session number call reply mark ∷ []) → AreOfObjectFiles new.journal.knows.all
          → AccusesRightly key d0 d1 reply → CostsDoubt key d0 d1 mark reply → Keeps new
      keeps-call landed session number call reply mark known events tagged accuses costs =
          let own : List Event = CallEvent session number call reply mark ∷ [] in
          keeps-added dir card (landing_events landed ++ own) events (AreOfSessions-append sessions (landing_events landed) own (AreOfSessions-landing sessions landed) (known, tt)) tagged
          (subst (Rise dir_old.faults dir_new.faults) (sym (counts_of-call session number call reply mark Dir landed))
          (Rise-told_of key d0 d1 Dir reply accuses (grows_le dir_old.faults dir_new.faults dir.faults)))
          (subst (Rise port_old.faults port_new.faults) (sym (counts_of-call session number call reply mark Card landed)) (Rise-told_of key d0 d1 Card reply accuses card.counted))
          (TellsCard-call key d0 d1 landed session number call reply mark accuses costs)

      -- the same, by the one record that was appended
      pub keeps-appended : {E : Type 0} (was now : CallerSession E) (call : Call) (answer : PlacedReply) (a : AppendsCall store old new was now call answer)
          → AccusesRightly key d0 d1 answer.reply → CostsDoubt key d0 d1 a.mark answer.reply → Keeps new
      keeps-appended was now call answer a accuses costs =
          keeps-call None was.number was.made call answer.reply a.mark (known-session old new was now call answer a)
          (ap (λ (l : List HistoryRecord). events_of l) a.all ∙ events_more old.journal.knows.all a.last ∙ ap (λ (e : Event). events_at old ++ e ∷ []) a.event)
          (subst AreOfObjectFiles (sym a.all) (tagged_more old.journal.knows.all a.last a.tagged k.tagged))
          accuses costs
