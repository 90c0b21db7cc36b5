-- One line of a script of the card, and its text.
use Rattle.std.proofs.Common.{◌≡◌, ◌+◌, ℕ, List, Vec, Global, Option, Result, Ok, Err, refl, sym, ap, subst}
use Rattle.std.specs.Prelude.{IfErr, IfOk, IsOkAnd, IsTrue, MatchResult}
use Rattle.rpmb_card.specs.Arms.{arm_stop}
use Rattle.rpmb_card.specs.Port.{PortState, Rearmed}
use Rattle.card_script.specs.declared.card_line.CardLine.{CardLine}
use Rattle.card_script.specs.declared.card_line.CardLine.TheVariants.{List as ListLine, Remount, Stop}
use Rattle.card_script.specs.declared.card_line.CardReply.{CardReply}
use Rattle.card_script.specs.declared.card_line.CardReply.TheVariants.{Done}
use Rattle.card_maps.specs.Course as course
use Rattle.rpmb_files.specs.declared.fault.CardFault.{CardFault}
use Rattle.rpmb_files.specs.declared.fault.CardFault.TheVariants.{Bad, Device, Full, NoMemory as NoMemoryFault, NotFound, Spent, TooLarge}
use Rattle.rpmb_files.specs.Devices.{GoesOn, devices}
use Rattle.rpmb_files.specs.Calls.{Leaves}
use Rattle.rpmb_files.specs.Replies.{FaultStands, OfNoCard, OfNoDraw, done_reply, fault_reply, found_reply}
use Rattle.rpmb_files.specs.Stores.{ShowsNames, StoreState, StoreValue, store_state}
use Rattle.card_maps.specs.declared.name.CardName.{CardName}
use Rattle.card_maps.specs.Names.{IsListing}
use Rattle.script_runner.specs.declared.status.Status.TheVariants.{NoMemory}
use Rattle.script_runner.specs.declared.card_state.CardEnd.{CardEnd}
use Rattle.script_runner.specs.declared.card_state.CardRun.{CardRun}
use Rattle.script_runner.specs.Sending.{IsWriteError, Sends, Stops}
use Rattle.script_runner.specs.CardRecords.{CardRecord, Named, Told, map_reply, record_text}
use Rattle.script_runner.specs.CardSteps.{DoesLine, FailsFor, MakesCall, Remounts}
use Rattle.script_runner.specs.CardRunning.{CardGoesOn, CardStops, IsLineCut, IsLineSent, unmade, unsent}

module _ (Reliable : Type 0) (old new : StoreState) where
  abbrev Stands : CardFault → Type 0
  Stands fault = FaultStands old.key old.devices new.devices fault

  -- a refusal that is a reply for a device
  fails : (fault : CardFault) → fault_reply fault ≡ course.Failed → Stands fault → (IsTrue old.devices.port.calm → OfNoCard fault) → (Reliable → OfNoDraw fault) → FailsFor Reliable old new
  fails (Device cause) is stands calm reliable = record { cause = cause; stands = stands; calm = calm; reliable = reliable }
  fails (TooLarge size) is stands calm reliable = absurd (cc (is))
  fails NotFound is stands calm reliable = absurd (cc (is))
  fails (Full need free) is stands calm reliable = absurd (cc (is))
  fails Spent is stands calm reliable = absurd (cc (is))
  fails (Bad block offset) is stands calm reliable = absurd (cc (is))
  fails NoMemoryFault is stands calm reliable = absurd (cc (is))

  done-fails : {A : Type 0} (r : Result A CardFault) → done_reply r ≡ course.Failed → IfErr r Stands → (IsTrue old.devices.port.calm → IfErr r OfNoCard) → (Reliable → IfErr r OfNoDraw) → FailsFor Reliable old new
  done-fails (Ok x) is stands calm reliable = absurd (cc (is))
  done-fails (Err fault) is stands calm reliable = fails fault is stands calm reliable

  found-fails : (r : Result (List ℕ) CardFault) → found_reply r ≡ course.Failed → IfErr r Stands → (IsTrue old.devices.port.calm → IfErr r OfNoCard) → (Reliable → IfErr r OfNoDraw) → FailsFor Reliable old new
  found-fails (Ok bytes) is stands calm reliable = absurd (cc (is))
  found-fails (Err fault) is stands calm reliable = fails fault is stands calm reliable

  pub MakesCall-done : {A : Type 0} (call : course.CardCall) (r : Result A CardFault) → Leaves old new call (done_reply r) → IfErr r Stands → GoesOn old.key old.devices new.devices → new.key ≡ old.key
      → (IsTrue old.devices.port.calm → IfErr r OfNoCard) → (Reliable → IfErr r OfNoDraw) → MakesCall Reliable old new call (done_reply r)
  MakesCall-done call r leaves stands goes key calm reliable = record {
    leaves = leaves;
    goes_on = goes;
    key = key;
    failed = λ is. done-fails r is stands calm reliable;
  }

  pub MakesCall-found : (call : course.CardCall) (r : Result (List ℕ) CardFault) → Leaves old new call (found_reply r) → IfErr r Stands → GoesOn old.key old.devices new.devices → new.key ≡ old.key
      → (IsTrue old.devices.port.calm → IfErr r OfNoCard) → (Reliable → IfErr r OfNoDraw) → MakesCall Reliable old new call (found_reply r)
  MakesCall-found call r leaves stands goes key calm reliable = record {
    leaves = leaves;
    goes_on = goes;
    key = key;
    failed = λ is. found-fails r is stands calm reliable;
  }

module _ {R E : Type 0} (of_port : R → PortState) (draws : E → ℕ) (Reliable : Type 0) (line : CardLine) (held_old held_new : Option (List ℕ)) (run : CardRun R E) (store : StoreValue R E) where
  abbrev State : StoreValue R E → StoreState
  State s = store_state of_port draws s

  -- the run with the store as the line left it
  abbrev Behind : CardRun R E
  Behind = record run { store = store }

  abbrev Text : CardRecord → List ℕ
  Text done = record_text run.at line done

  pub goes_on-done : (done : CardRecord) (next : CardRun R E) → DoesLine Reliable line done (State run.store) (State store) → IsLineSent held_old held_new (Text done) Behind next
      → CardGoesOn of_port draws Reliable line held_old held_new run next
  goes_on-done done next does sent = record {
    done = done;
    does = subst (λ s. DoesLine Reliable line done (State run.store) (State s)) (sym sent.store) does;
    sends = sent.sends;
    at = sent.at;
  }

  module _ (failed : Type 0) where
    pub stops-done : (done : CardRecord) (end : CardEnd R) → DoesLine Reliable line done (State run.store) (State store) → IsLineCut failed held_old held_new (Text done) Behind end
        → CardStops of_port draws Reliable failed line held_old held_new run end
    stops-done done end does cut = unsent done (State store) does (ap of_port cut.card) cut.stops cut.error

    -- what is said of the reply of a call that has one, or of none
    abbrev Ended : {N : Type 0} → CardEnd R → Result CardReply N → Type 0
    Ended end reply = MatchResult reply
        (λ r. IsLineCut failed held_old held_new (Text (Told r)) Behind end)
        (λ _. (end.card ≡ store.host.port) × (end.status ≡ NoMemory) × (held_new ≡ held_old))

    module _ (call : course.CardCall) (is : (r : CardReply) → MakesCall Reliable (State run.store) (State store) call (map_reply r) → DoesLine Reliable line (Told r) (State run.store) (State store)) (answered : course.CardReply) (makes : MakesCall Reliable (State run.store) (State store) call answered) where
      does : (r : CardReply) → map_reply r ≡ answered → DoesLine Reliable line (Told r) (State run.store) (State store)
      does r same = is r (subst (MakesCall Reliable (State run.store) (State store) call) (sym same) makes)

      pub goes_on-answered : {N : Type 0} (reply : Result CardReply N) (next : CardRun R E) → IfOk reply (λ r. map_reply r ≡ answered)
          → IsOkAnd reply (λ r. IsLineSent held_old held_new (Text (Told r)) Behind next) → CardGoesOn of_port draws Reliable line held_old held_new run next
      goes_on-answered (Ok r) next same sent = goes_on-done (Told r) next (does r same) sent
      goes_on-answered (Err e) next same sent = absurd sent

      pub stops-answered : {N : Type 0} (reply : Result CardReply N) (end : CardEnd R) → IfOk reply (λ r. map_reply r ≡ answered) → Ended end reply
          → CardStops of_port draws Reliable failed line held_old held_new run end
      stops-answered (Ok r) end same ended = stops-done (Told r) end (does r same) ended
      stops-answered (Err e) end same ended = unmade call answered (State store) makes (ap of_port ended.0) ended.2 ended.1

module _ {R E : Type 0} (of_port : R → PortState) (draws : E → ℕ) (Reliable : Type 0) (line : CardLine) (held_old held_new : Option (List ℕ)) (run : CardRun R E) where
  module _ (names shown : List CardName) (is : line ≡ ListLine) (same : shown ≡ names) (listing : IsListing run.store.shown names) (known : ShowsNames (store_state of_port draws run.store)) where
    listed : DoesLine Reliable line (Named names) (store_state of_port draws run.store) (store_state of_port draws run.store)
    listed = subst (λ l. DoesLine Reliable l (Named names) (store_state of_port draws run.store) (store_state of_port draws run.store)) (sym is) (record { same = refl; listing = listing; shown = known })

    abbrev Lines : List CardName → List ℕ
    Lines these = record_text run.at line (Named these)

    pub goes_on-listed : (kept : Vec ℕ Global) → Sends held_old held_new run.kept.items kept.items (Lines shown)
        → CardGoesOn of_port draws Reliable line held_old held_new run (record { store = run.store; at = run.at + 1; kept = kept })
    goes_on-listed kept sends = record {
      done = Named names;
      does = listed;
      sends = subst (λ these. Sends held_old held_new run.kept.items kept.items (Lines these)) same sends;
      at = refl;
    }

    pub stops-listed : (failed : Type 0) (end : CardEnd R) → end.card ≡ run.store.host.port → Stops held_old held_new run.kept.items (Lines shown) → IsWriteError failed end.status
        → CardStops of_port draws Reliable failed line held_old held_new run end
    stops-listed failed end card stops error =
        unsent (Named names) (store_state of_port draws run.store) listed (ap of_port card) (subst (λ these. Stops held_old held_new run.kept.items (Lines these)) same stops) error

  module _ (store : StoreValue R E) (is : line ≡ Remount) (remounts : Remounts (store_state of_port draws run.store) (store_state of_port draws store)) where
    remounted : DoesLine Reliable line (Told Done) (store_state of_port draws run.store) (store_state of_port draws store)
    remounted = subst (λ l. DoesLine Reliable l (Told Done) (store_state of_port draws run.store) (store_state of_port draws store)) (sym is) (refl, remounts)

    pub goes_on-remounted : (next : CardRun R E) → IsLineSent held_old held_new (record_text run.at line (Told Done)) (record { store = store; at = run.at; kept = run.kept }) next
        → CardGoesOn of_port draws Reliable line held_old held_new run next
    goes_on-remounted next sent = goes_on-done of_port draws Reliable line held_old held_new run store (Told Done) next remounted sent

    pub stops-remounted : (failed : Type 0) (end : CardEnd R) → IsLineCut failed held_old held_new (record_text run.at line (Told Done)) (record { store = store; at = run.at; kept = run.kept }) end
        → CardStops of_port draws Reliable failed line held_old held_new run end
    stops-remounted failed end cut = stops-done of_port draws Reliable line held_old held_new run store failed (Told Done) end remounted cut

  module _ (store : StoreValue R E) (exchanges number : ℕ) (is : line ≡ Stop exchanges) (same : number ≡ exchanges)
      (rearmed : Rearmed (of_port run.store.host.port) (of_port store.host.port) (arm_stop (of_port run.store.host.port).arms number))
      (key : store.host.key ≡ run.store.host.key) (entropy : store.entropy ≡ run.store.entropy) (shown : store.shown ≡ run.store.shown) (settled : store.settled ≡ run.store.settled) where
    armed : DoesLine Reliable line (Told Done) (store_state of_port draws run.store) (store_state of_port draws store)
    armed = subst (λ l. DoesLine Reliable l (Told Done) (store_state of_port draws run.store) (store_state of_port draws store)) (sym is) (
      refl,
      record {
        port = subst (λ n. Rearmed (of_port run.store.host.port) (of_port store.host.port) (arm_stop (of_port run.store.host.port).arms n)) same rearmed;
        others = λ i. record { devices = devices (of_port store.host.port) (draws (entropy i)); key = key i; shown = shown i; settled = settled i };
      },
    )

    pub goes_on-armed : (next : CardRun R E) → IsLineSent held_old held_new (record_text run.at line (Told Done)) (record run { store = store }) next
        → CardGoesOn of_port draws Reliable line held_old held_new run next
    goes_on-armed next sent = goes_on-done of_port draws Reliable line held_old held_new run store (Told Done) next armed sent

    pub stops-armed : (failed : Type 0) (end : CardEnd R) → IsLineCut failed held_old held_new (record_text run.at line (Told Done)) (record run { store = store }) end
        → CardStops of_port draws Reliable failed line held_old held_new run end
    stops-armed failed end cut = stops-done of_port draws Reliable line held_old held_new run store failed (Told Done) end armed cut
