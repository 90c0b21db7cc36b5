-- A run of lines, line after line.
use Rattle.std.specs.Prelude.{◌≡◌, ◌+◌, ℕ, List, Option}
use Rattle.rpmb_card.specs.Port.{PortState}
use Rattle.card_script.specs.declared.card_line.CardLine.{CardLine}
use Rattle.card_script.specs.declared.card_line.CardLine.TheVariants.{Remount}
use Rattle.card_maps.specs.Course as course
use Rattle.rpmb_files.specs.declared.fault.CardFault.{CardFault}
use Rattle.rpmb_files.specs.Devices.{Devices, devices}
use Rattle.rpmb_files.specs.Stores.{StoreState, store_state}
use Rattle.script_runner.specs.declared.status.Status.TheVariants.{NoMemory}
use Rattle.script_runner.specs.declared.card_state.CardEnd.{CardEnd}
use Rattle.script_runner.specs.declared.card_state.CardRun.{CardRun}
use Rattle.script_runner.specs.Sending.{IsWriteError, Sends, Stops}
use Rattle.script_runner.specs.CardRecords.{CardRecord, record_text}
use Rattle.script_runner.specs.CardRuns.{PrintsMount}
use Rattle.script_runner.specs.CardSteps.{Disarms, DoesLine, MakesCall, RefusesMount}

-- The text of a line went behind what was kept, and nothing else changed.
pub record IsLineSent {R E : Type 0} (held_old held_new : Option (List ℕ)) (text : List ℕ) (run next : CardRun R E) : Type 0 where
  pub sends : Sends held_old held_new run.kept.items next.kept.items text
  pub store : next.store ≡ run.store
  pub at : next.at ≡ run.at + 1

-- It could not be put, and the run ended.
pub record IsLineCut {R E : Type 0} (failed : Type 0) (held_old held_new : Option (List ℕ)) (text : List ℕ) (run : CardRun R E) (end : CardEnd R) : Type 0 where
  pub stops : Stops held_old held_new run.kept.items text
  pub card : end.card ≡ run.store.host.port
  pub error : IsWriteError failed end.status

module _ {R E : Type 0} (of_port : R → PortState) (draws : E → ℕ) (Reliable : Type 0) where
  -- A line was done; its text was put, or is kept.
  pub record CardGoesOn (line : CardLine) (held_old held_new : Option (List ℕ)) (run next : CardRun R E) : Type 0 where
    pub done : CardRecord
    pub does : DoesLine Reliable line done (store_state of_port draws run.store) (store_state of_port draws next.store)
    pub sends : Sends held_old held_new run.kept.items next.kept.items (record_text run.at line done)
    pub at : next.at ≡ run.at + 1

  -- The run ended in a line: its text could not be put, memory ran out in a call, or a mount was refused.
  pub data CardStops (failed : Type 0) (line : CardLine) (held_old held_new : Option (List ℕ)) (run : CardRun R E) (end : CardEnd R) : Type 0 where
    unsent : (done : CardRecord) (next : StoreState) → DoesLine Reliable line done (store_state of_port draws run.store) next
        → of_port end.card ≡ next.devices.port → Stops held_old held_new run.kept.items (record_text run.at line done) → IsWriteError failed end.status
        → CardStops failed line held_old held_new run end
    unmade : (call : course.CardCall) (reply : course.CardReply) (next : StoreState) → MakesCall Reliable (store_state of_port draws run.store) next call reply
        → of_port end.card ≡ next.devices.port → held_new ≡ held_old → end.status ≡ NoMemory → CardStops failed line held_old held_new run end
    unlisted : of_port end.card ≡ of_port run.store.host.port → held_new ≡ held_old → end.status ≡ NoMemory → CardStops failed line held_old held_new run end
    unmounted : (between : Devices) (fault : CardFault) (drawn : ℕ) → line ≡ Remount → Disarms (store_state of_port draws run.store) between
        → RefusesMount Reliable run.store.host.key between (devices (of_port end.card) drawn) fault
        → PrintsMount failed held_old held_new run.kept.items fault end.status → CardStops failed line held_old held_new run end
