-- A served call, from a commit in doubt to its answer.
use Rattle.std.proofs.Common.{◌≡◌, ◌+◌, ◌++◌, ◌∷◌, ◌⊎◌, [], ℕ, true, List, Err, Ok, Result, Some, length, refl, sym, ap, ◌∙◌, subst, inl, inr}
use Rattle.std.proofs.lemmas.List.{length-map}
use Rattle.call_steps.specs.CallerSessions.{CallerSession}
use Rattle.disk_model.specs.Calls.{GoesOn as FileGoesOn}
use Rattle.disk_model.specs.Faults.{Rose}
use Rattle.disk_model.specs.State.{FileState}
use Rattle.disk_model.proofs.Goings.{goes_on_none}
use Rattle.call_steps.specs.Resolved.{HasResolved, StaysInDoubt}
use Rattle.call_steps.specs.SessionEvents.{Appends, IsWaiting}
use Rattle.call_steps.specs.GateServed.{IsServedAlone, IsUnserved, Precedes}
use Rattle.call_steps.specs.GateServed.Precedes.{HeldUp, Misused, Ruled}
use Rattle.history_seats.specs.Records.{HistoryRecord}
use Rattle.call_steps.specs.declared.PlacedReply.{PlacedReply}
use Rattle.call_steps.specs.GuardedGates.{GuardedGateValue}
use Rattle.call_steps.specs.SlotValues.{SlotValue}
use Rattle.hmac_keys.specs.KeyTable.{rpmb_key}
use Rattle.rpmb_card.specs.Card.{CardState}
use Rattle.rpmb_card.specs.Port.{PortState}
use Rattle.rpmb_host.specs.Honest.{HasCard}
use Rattle.call_steps.specs.CardCauses.{IsOfFrame}
use Rattle.call_steps.specs.Heard.{HeardCause}
use Rattle.call_steps.specs.Gates.{DoubtStands, GateValue, gate_sides}
use Rattle.call_steps.specs.declared.DoubtedChange.{DoubtedChange}
use Rattle.store_model.specs.Files.{is_misuse}
use Rattle.store_model.specs.Record.{events_of}
use Rattle.store_model.specs.declared.event.Event.TheVariants.{Call as CallEvent}
use Rattle.store_model.specs.declared.event.Mark.{Mark}
use Rattle.store_model.specs.declared.event.Mark.TheVariants.{Doubtful, Made, Unchanged}
use Rattle.core_laws.specs.Stores.{Store}
use Rattle.tee_types.specs.declared.call.Call.{Call}
use Rattle.tee_types.specs.declared.reply.Cause.{Cause}
use Rattle.tee_types.specs.declared.reply.Cause.TheVariants.{CardResult, Fault, Frame}
use Rattle.tee_types.specs.declared.reply.Reply.{Reply}
use Rattle.tee_types.specs.declared.reply.Reply.TheVariants.{NotAvailable}
use Rattle.serial_calls.specs.ServedAnswers.{GoesOnWith, GoesOnWithout, ServesCall}
use Rattle.serial_calls.specs.Appended.{AppendsCall}
use Rattle.serial_calls.specs.HeldFiles.{KeepsHolds}
use Rattle.call_steps.specs.Devices.{AccusesRightly, CostsDoubt, Devices, DevicesGoOn, Grows, IsOfHeard, PortGoesOn, TellsNoCard, faults_of, file_in}
use Rattle.call_steps.specs.Slots.{AreOfObjectFiles, AreSlots}
use Rattle.serial_calls.specs.ServeReplay.{ServesObject}
use Rattle.call_steps.specs.Rising.{Serving, devices_in}
use Rattle.call_steps.proofs.Cards.{doubted_counts}
use Rattle.call_steps.proofs.HeardAnswers.{answered_heard}
use Rattle.call_steps.proofs.GoingOn.{appends-then, waits-then}
use Rattle.call_steps.proofs.CountGrowth.{counts_grow, devices_go_on_then, grows_rose, grows_twice}
use Rattle.call_steps.proofs.MoreRecords.{events_more, tagged_more}
use Rattle.serial_calls.proofs.ServeSettling.{Settles, reserved_settles, same_settles, settled_settles, stays_settles, was_settles}
use Rattle.serial_calls.proofs.HeldSettling.{precedes_holds, room_holds, unserved_holds}
use Rattle.serial_calls.proofs.RuledCalls.{plain_accuses, ruled_appends}
use Rattle.serial_calls.proofs.ToldCalls.{quiet_holds}

-- the key of the store's card
abbrev card_key : Store → List ℕ
card_key store = rpmb_key store.keys.huk

none_since : (key : List ℕ) (old new : PortState) → PortGoesOn key old new → TellsNoCard new key → TellsNoCard old key
none_since key old new goes_on none card has = let then = goes_on.told card has in none then.0 then.1

-- what a reply accuses counted a fault since before, too; and no card that has the key was told before, where none was then
accuses_since : (key : List ℕ) (before mid after : Devices) → DevicesGoOn key before mid → (reply : Reply) → AccusesRightly key mid after reply → AccusesRightly key before after reply
accuses_since key before mid after goes_on (NotAvailable (Fault device count)) a =
    (grows_rose (faults_of before device) (faults_of mid device) (faults_of after device) (counts_grow key before mid goes_on device) a.0, a.1)
accuses_since key before mid after goes_on (NotAvailable (Frame fault)) a = (none_since key before.card mid.card goes_on.card a.0, a.1)
accuses_since key before mid after goes_on (NotAvailable (CardResult result)) a = (none_since key before.card mid.card goes_on.card a.0, a.1)
accuses_since key before mid after goes_on reply a = tt

-- so a doubt's price was paid since before
costs_since : (key : List ℕ) (before mid after : Devices) → DevicesGoOn key before mid → (mark : Mark) (reply : Reply) → CostsDoubt key mid after mark reply → CostsDoubt key before after mark reply
costs_since key before mid after goes_on Unchanged reply costs = tt
costs_since key before mid after goes_on (Made n) reply costs = tt
costs_since key before mid after goes_on (Doubtful n) (NotAvailable cause) costs = (
  costs.0,
  λ card has.
      let then = goes_on.card.told card has in
      grows_twice before.card mid.card after.card goes_on.card.counted (costs.1 then.0 then.1),
)
costs_since key before mid after goes_on (Doubtful n) reply costs = costs

length_events : (records : List HistoryRecord) → length records ≡ length (events_of records)
length_events records = sym (length-map records (λ (r : HistoryRecord). r.event))

module _ {F R E : Type 0} (of_file : F → FileState) (of_port : R → PortState) (draws : E → ℕ) (store : Store) (old mid new : GuardedGateValue F R) (was now : CallerSession E) (settled : Settles of_file of_port (card_key store) old mid) where
  -- the call's event follows the landing
  appends_goes_on : (shown : CallerSession E) (call : Call) (answer : PlacedReply) → shown.number ≡ was.number → shown.made ≡ was.made
      → (a : AppendsCall store mid new shown now call answer) → Appends store was now call answer a.mark → GoesOnWith store old new was now call answer
  appends_goes_on shown call answer number made a appends = record {
    landed = settled.landed;
    mark = a.mark;
    appends = appends;
    place = a.place ∙ length_events mid.journal.knows.all ∙ ap length settled.events;
    events = ap (λ (l : List HistoryRecord). events_of l) a.all ∙ events_more mid.journal.knows.all a.last
        ∙ (λ i. settled.events i ++ (a.event ∙ ap (λ (p : ℕ × ℕ). CallEvent p.0 p.1 call answer.reply a.mark) (λ j. (number j, made j))) i ∷ []);
  }

  -- no event more
  none_goes_on : IsWaiting store was now → new.journal.knows.all ≡ mid.journal.knows.all → GoesOnWithout store old new was now
  none_goes_on waits all = record { landed = settled.landed; waits = waits; events = ap (λ (l : List HistoryRecord). events_of l) all ∙ settled.events }

-- A call that was left to an object's file.
module _ {F R E : Type 0} (of_file : F → FileState) (of_port : R → PortState) (draws : E → ℕ) (store : Store) (old mid new : GuardedGateValue F R) (slots after : List SlotValue) (was shown now : CallerSession E)
    (settled : Settles of_file of_port (card_key store) old mid) (settled_held : KeepsHolds old.gate mid.gate) (drawn : Grows (draws was.entropy) (draws shown.entropy)) (waits : IsWaiting store was shown) where
  abbrev d0 : Devices
  d0 = devices_in of_file of_port draws (record { gate = old; slots = slots; session = was })

  abbrev dm : Devices
  dm = devices_in of_file of_port draws (record { gate = mid; slots = slots; session = shown })

  abbrev da : Devices
  da = devices_in of_file of_port draws (record { gate = new; slots = after; session = now })

  began : DevicesGoOn (card_key store) d0 dm
  began = record {
    dir = settled.dir;
    file = λ n. goes_on_none (file_in slots n);
    card = settled.card;
    draws = drawn;
  }

  pub object_serves : (call : Call) (X : Type 0) (result : Result PlacedReply X)
      → ServesObject of_file of_port draws store (record { gate = mid; slots = slots; session = shown }) (record { gate = new; slots = after; session = now }) call result
      → ServesCall of_file of_port draws store (record { gate = old; slots = slots; session = was }) (record { gate = new; slots = after; session = now }) call result
  unfolding appends_goes_on
  object_serves call X (Ok answer) s = record {
    answers = record {
      goes_on = appends_goes_on of_file of_port draws store old mid new was now settled shown call answer waits.number waits.made s.answers.appends
          (appends-then store was shown now waits call answer s.answers.appends.mark s.answers.appends.appends);
      accuses = accuses_since (card_key store) d0 dm da began answer.reply s.answers.accuses;
      costs = costs_since (card_key store) d0 dm da began s.answers.appends.mark answer.reply s.answers.costs;
    };
    slots = s.slots;
    tagged = λ files. subst AreOfObjectFiles (sym s.answers.appends.all)
        (tagged_more mid.journal.knows.all s.answers.appends.last s.answers.appends.tagged (settled.tagged files));
    held = λ held. s.held (settled_held held);
    devices = devices_go_on_then (card_key store) d0 dm da began s.devices;
  }
  object_serves call X (Err e) s = record {
    answers = none_goes_on of_file of_port draws store old mid new was now settled (waits-then store was shown now waits s.answers.waits) s.answers.all;
    slots = s.slots;
    tagged = λ files. subst AreOfObjectFiles (sym s.answers.all) (settled.tagged files);
    held = λ held. s.held (settled_held held);
    devices = devices_go_on_then (card_key store) d0 dm da began s.devices;
  }

-- A call that the gate answered alone, or memory ran out.
module _ {F R E : Type 0} (of_file : F → FileState) (of_port : R → PortState) (draws : E → ℕ) (store : Store) (first old new : GuardedGateValue F R) (slots : List SlotValue) (was now : CallerSession E)
    (ready : old.gate ≡ record first.gate { open_handles = old.gate.open_handles; room = old.gate.room }) (knows : old.journal.knows ≡ first.journal.knows) (Reliable : Type 0)
    (drawn : Grows (draws was.entropy) (draws now.entropy))
    (keyed : first.gate.host.key ≡ card_key store) (stands : DoubtStands (gate_sides of_file of_port first.gate) first.gate.doubt) where
  abbrev from : Serving F R E
  from = record { gate = first; slots = slots; session = was }

  abbrev to : Serving F R E
  to = record { gate = new; slots = slots; session = now }

  abbrev d1 : Devices
  d1 = devices_in of_file of_port draws from

  abbrev d2 : Devices
  d2 = devices_in of_file of_port draws to

  pub alone_goes_on : (between : GuardedGateValue F R) → Settles of_file of_port (card_key store) first between → new.gate ≡ record between.gate { open_handles = new.gate.open_handles } → DevicesGoOn (card_key store) d1 d2
  alone_goes_on between s same = record {
    dir = subst (λ (g : GateValue F R). FileGoesOn (of_file first.gate.dir.file) (of_file g.dir.file)) (sym same) s.dir;
    file = λ n. goes_on_none (file_in slots n);
    card = subst (λ (g : GateValue F R). PortGoesOn (card_key store) (of_port first.gate.host.port) (of_port g.host.port)) (sym same) s.card;
    draws = drawn;
  }

  -- why a commit is in doubt still: a card that is told with the key would have one of the two counters
  doubted_none : (d : DoubtedChange) → old.gate.doubt ≡ Some d
      → ((card : CardState) → HasCard (of_port old.gate.host.port) old.gate.host.key card → (card.counter ≡ old.gate.counter) ⊎ (card.counter ≡ old.gate.counter + 1) → ⊥)
      → TellsNoCard (of_port first.gate.host.port) (card_key store)
  doubted_none d was none card has =
      let began : first.gate.doubt ≡ Some d = sym (ap (λ (g : GateValue F R). g.doubt) ready) ∙ was in
      let had : HasCard (of_port first.gate.host.port) first.gate.host.key card = subst (λ (k : List ℕ). HasCard (of_port first.gate.host.port) k card) (sym keyed) has in
      let counts = doubted_counts (gate_sides of_file of_port first.gate) d (subst (DoubtStands (gate_sides of_file of_port first.gate)) began stands) card had in
      subst
      (λ (g : GateValue F R). HasCard (of_port g.host.port) g.host.key card → (card.counter ≡ g.counter) ⊎ (card.counter ≡ g.counter + 1) → ⊥) ready (none card) had counts

  frame_accuses : (cause : Cause) → IsOfFrame cause → TellsNoCard (of_port first.gate.host.port) (card_key store) → IsOfHeard (card_key store) (of_port new.gate.host.port) cause
      → AccusesRightly (card_key store) d1 d2 (NotAvailable cause)
  frame_accuses (Frame fault) is none heard = (none, heard)
  frame_accuses (CardResult result) is none heard = (none, heard)
  frame_accuses (Fault device count) is none heard = absurd is

  -- the frame that the read of the counter heard
  doubt_heard : (between : GuardedGateValue F R) (cause : Cause) (nonce : List ℕ) (d : DoubtedChange) → HasResolved of_file of_port nonce d old between (Err cause)
      → new.gate ≡ record between.gate { open_handles = new.gate.open_handles } → IsOfHeard (card_key store) (of_port new.gate.host.port) cause
  doubt_heard between cause nonce d read same =
      let key : old.gate.host.key ≡ card_key store = ap (λ (g : GateValue F R). g.host.key) ready ∙ keyed in
      let port : of_port between.gate.host.port ≡ of_port new.gate.host.port = sym (ap (λ (g : GateValue F R). of_port g.host.port) same) in (
        old.gate.counter,
        subst (λ (p : List ℕ × PortState). HeardCause p.0 old.gate.counter p.1 cause) (λ i. (key i, port i))
            (answered_heard old.gate.host.key old.gate.counter nonce (of_port old.gate.host.port) (of_port between.gate.host.port) cause read.answered),
      )

  doubt_accuses : (between : GuardedGateValue F R) (cause : Cause) → StaysInDoubt of_file of_port Reliable (draws was.entropy) (draws now.entropy) old between cause
      → new.gate ≡ record between.gate { open_handles = new.gate.open_handles } → AccusesRightly (card_key store) d1 d2 (NotAvailable cause)
  doubt_accuses between cause stays same = elim stays.why [
    | inl drew ↦ subst (λ (c : Cause). AccusesRightly (card_key store) d1 d2 (NotAvailable c)) (sym drew.2) (drew.1, refl)
    | inr read ↦ elim read.1.cause [
      | inl rose ↦
          let began : (of_port old.gate.host.port).faults ≡ (of_port first.gate.host.port).faults = ap (λ (g : GateValue F R). (of_port g.host.port).faults) ready in
          let ended : (of_port new.gate.host.port).faults ≡ (of_port between.gate.host.port).faults = ap (λ (g : GateValue F R). (of_port g.host.port).faults) same in
          subst (λ (c : Cause). AccusesRightly (card_key store) d1 d2 (NotAvailable c)) (sym rose.1) (subst (λ (p : ℕ × ℕ). Rose p.0 p.1) (λ i. (began i, sym ended i)) rose.0, sym ended)
      | inr none ↦ frame_accuses cause none.1 (doubted_none stays.doubted stays.was none.0) (doubt_heard between cause read.0 stays.doubted read.1 same)
    ]
  ]

  misuse_accuses : (reply : Reply) → is_misuse reply ≡ true → AccusesRightly (card_key store) d1 d2 reply
  misuse_accuses (NotAvailable cause) is = cc
  misuse_accuses reply is = tt

  pub precedes_accuses : (between : GuardedGateValue F R) (reply : Reply) → Precedes of_file of_port Reliable (draws was.entropy) (draws now.entropy) old between reply
      → new.gate ≡ record between.gate { open_handles = new.gate.open_handles } → AccusesRightly (card_key store) d1 d2 reply
  precedes_accuses between reply (Misused same is) gate = misuse_accuses reply is
  precedes_accuses between reply (Ruled settled plain) gate = plain_accuses (card_key store) d1 d2 reply plain
  precedes_accuses between reply (HeldUp cause stays is) gate = subst (AccusesRightly (card_key store) d1 d2) (sym is) (doubt_accuses between cause stays gate)

  pub precedes_settles : (between : GuardedGateValue F R) (reply : Reply) → Precedes of_file of_port Reliable (draws was.entropy) (draws now.entropy) old between reply → Settles of_file of_port (card_key store) old between
  precedes_settles between reply (Misused same is) = same_settles of_file of_port (card_key store) old between same
  precedes_settles between reply (Ruled settled plain) = settled_settles of_file of_port (card_key store) old between settled
  precedes_settles between reply (HeldUp cause stays is) = stays_settles of_file of_port (card_key store) Reliable (draws was.entropy) (draws now.entropy) old between cause stays

  pub alone_serves : AreSlots slots → (call : Call) (answer : PlacedReply) (X : Type 0) → IsServedAlone of_file of_port Reliable (draws was.entropy) (draws now.entropy) store call answer old new was now
      → ServesCall of_file of_port draws {X = X} store from to call (Ok answer)
  unfolding appends_goes_on ruled_appends
  alone_serves are call answer X s =
      let settled : Settles of_file of_port (card_key store) first s.between = reserved_settles of_file of_port (card_key store) first old s.between ready knows (precedes_settles s.between answer.reply s.precedes) in
      let a : AppendsCall store s.between new was now call answer = ruled_appends store s.between new was now call answer s.served in
      record {
        answers = record {
          goes_on = appends_goes_on of_file of_port draws store first s.between new was now settled was call answer refl refl a a.appends;
          accuses = precedes_accuses s.between answer.reply s.precedes s.served.gate;
          costs = tt;
        };
        slots = are;
        tagged = λ files. subst AreOfObjectFiles (sym a.all) (tagged_more s.between.journal.knows.all a.last a.tagged (settled.tagged files));
        held = λ held.
            quiet_holds s.between.gate new.gate s.served.gate
            (precedes_holds of_file of_port Reliable (draws was.entropy) (draws now.entropy) old s.between answer.reply s.precedes (room_holds first.gate old.gate ready held));
        devices = alone_goes_on s.between settled s.served.gate;
      }

  -- what became of the doubt, as memory ran out
  pub unserved_settles : IsUnserved of_file of_port Reliable (draws was.entropy) (draws now.entropy) store old new was now → Settles of_file of_port (card_key store) first new
  unserved_settles u =
      reserved_settles of_file of_port (card_key store) first old new ready knows (elim u.gate [
        | inl same ↦ same_settles of_file of_port (card_key store) old new same
        | inr w ↦ was_settles of_file of_port (card_key store) old new w
      ])

  -- the gate as memory ran out
  pub none_serves : AreSlots slots → (call : Call) (X : Type 0) (e : X) → Settles of_file of_port (card_key store) first new → KeepsHolds first.gate new.gate → IsWaiting store was now
      → ServesCall of_file of_port draws {X = X} store from to call (Err e)
  none_serves are call X e settled held waits = record {
    answers = none_goes_on of_file of_port draws store first new new was now settled waits refl;
    slots = are;
    tagged = settled.tagged;
    held = held;
    devices = alone_goes_on new settled refl;
  }

  pub unserved_serves : AreSlots slots → (call : Call) (X : Type 0) (e : X) → IsUnserved of_file of_port Reliable (draws was.entropy) (draws now.entropy) store old new was now
      → ServesCall of_file of_port draws {X = X} store from to call (Err e)
  unserved_serves are call X e u =
      none_serves are call X e (unserved_settles u)
      (λ held. unserved_holds of_file of_port Reliable (draws was.entropy) (draws now.entropy) store old new was now u (room_holds first.gate old.gate ready held))
      u.waits
