-- The run of a script of the card, as `run` tells it.
use Rattle.std.specs.Prelude.{◌≡◌, ◌≤◌, ◌⊎◌, ℕ, List, [], ◌∷◌, ◌++◌, length, Option, Some, None, Result, Ok, Err}
use Rattle.rpmb_card.specs.Port.{PortState}
use Rattle.tee_ports.specs.Streams.{Appends, TakesFirst}
use Rattle.card_script.specs.declared.card_line.CardLine.{CardLine}
use Rattle.card_script.specs.declared.reading.CardScriptFault.{CardScriptFault}
use Rattle.card_script.specs.declared.reading.CardScriptFault.TheVariants.{BadLine as BadLineFault}
use Rattle.card_script.specs.CardScripts.{script_of}
use Rattle.card_maps.specs.Course as course
use Rattle.rpmb_files.specs.declared.fault.CardFault.{CardFault}
use Rattle.rpmb_files.specs.declared.fault.CardFault.TheVariants.{Bad, Device as DeviceFailed, NoMemory as Starved}
use Rattle.rpmb_files.specs.Stores.{StoreState}
use Rattle.script_runner.specs.declared.status.Status.{Status}
use Rattle.script_runner.specs.declared.status.Status.TheVariants.{BadLine, CardMapRefused, DeviceFault, Done, MountRefused, NoMemory, WriteFault}
use Rattle.script_runner.specs.RunCauses.{World}
use Rattle.script_runner.specs.ScriptReading.{IsReadError}
use Rattle.script_runner.specs.Sending.{Begins, IsWriteError, Stops}
use Rattle.script_runner.specs.Prints.{PrintsRefusal}
use Rattle.script_runner.specs.RunRefusals.{IsDeviceFault, IsRefusal, MayWantMemory}
use Rattle.script_runner.specs.CardRecords.{CardRecord, card_map_line, card_output, told_mount}
use Rattle.script_runner.specs.CardSteps.{IsRefusedAt, MakesCall, StandsAt}

-- the status of a text that is no script
abbrev pub IsCardScriptError : Result (List CardLine) CardScriptFault → Status → Type 0
IsCardScriptError meant (BadLine line) = meant ≡ Err (BadLineFault line)
IsCardScriptError meant NoMemory = Unit {0}
IsCardScriptError meant _ = ⊥

-- a mount may be refused so
abbrev pub IsOfMount : CardFault → Type 0
IsOfMount (Bad block offset) = Unit {0}
IsOfMount (DeviceFailed cause) = Unit {0}
IsOfMount Starved = Unit {0}
IsOfMount _ = ⊥

-- The text so far and the line of a mount that was refused were put, or the sink took no more, or there was no memory.
abbrev pub PrintsMount : (failed : Type 0) → (held_old held_new : Option (List ℕ)) → (kept : List ℕ) → CardFault → Status → Type 0
PrintsMount failed held_old held_new kept (Bad block offset) (CardMapRefused told at) =
    (told ≡ block) × (at ≡ offset) × Appends held_old held_new (kept ++ card_map_line block offset)
PrintsMount failed held_old held_new kept (Bad block offset) WriteFault = failed × Stops held_old held_new kept (card_map_line block offset)
PrintsMount failed held_old held_new kept (Bad block offset) NoMemory = Stops held_old held_new kept (card_map_line block offset)
PrintsMount failed held_old held_new kept (DeviceFailed cause) status = PrintsRefusal failed held_old held_new kept (told_mount cause) status
PrintsMount failed held_old held_new kept Starved NoMemory = Stops held_old held_new kept []
PrintsMount failed held_old held_new kept fault status = ⊥

-- What one run took, put and recorded, and why a mount was refused, if so.
pub record CardTrace : Type 0 where
  pub taken : List ℕ
  pub put : List ℕ
  pub records : List CardRecord
  pub refused : Option CardFault

-- Nothing was put, nor recorded.
pub record IsSilentCard (t : CardTrace) : Type 0 where
  pub put : t.put ≡ []
  pub records : t.records ≡ []
  pub refused : t.refused ≡ None

-- the source was read to its end, within the limit of a script
abbrev pub WasTaken : World → CardTrace → Type 0
WasTaken w t = w.source_ended × (length t.taken ≤ 16777216)

-- Why a mount was refused decides the status, and its line was put; or the sink took no more of it, or there was no memory for it.
abbrev pub EndsAtMount : (failed : Type 0) → (put text : List ℕ) → CardFault → Status → Type 0
EndsAtMount failed put text (Bad block offset) (CardMapRefused told at) = (told ≡ block) × (at ≡ offset) × (put ≡ text)
EndsAtMount failed put text (Bad block offset) WriteFault = failed
EndsAtMount failed put text (Bad block offset) NoMemory = Unit {0}
EndsAtMount failed put text (DeviceFailed cause) (MountRefused told) = (told ≡ told_mount cause) × IsRefusal told × (put ≡ text)
EndsAtMount failed put text (DeviceFailed cause) (DeviceFault told) = (told ≡ told_mount cause) × IsDeviceFault told × ((put ≡ text) ⊎ failed)
EndsAtMount failed put text (DeviceFailed cause) WriteFault = IsRefusal (told_mount cause) × failed
EndsAtMount failed put text (DeviceFailed cause) NoMemory = MayWantMemory (told_mount cause)
EndsAtMount failed put text Starved NoMemory = Unit {0}
EndsAtMount failed put text fault status = ⊥

-- `Reliable` says that the generator of the nonces never fails
module _ (Reliable : Type 0) (key : List ℕ) where
  -- How a run of these lines ended that put this text, and what it did to the port to the card.
  pub data EndsLines (failed : Type 0) (lines : List CardLine) (put : List ℕ) (records : List CardRecord) (refused : Option CardFault) (handed given : PortState) (status : Status) : Type 0 where
    -- every line was done, and the text was put
    all_done : (last : StoreState) → StandsAt Reliable key lines handed records [] last → given ≡ last.devices.port
        → refused ≡ None → put ≡ card_output lines records None → status ≡ Done → EndsLines failed lines put records refused handed given status
    -- the sink took no more of the text of what was done, or there was no memory for it
    cut_off : (left : List CardLine) (last : StoreState) → StandsAt Reliable key lines handed records left last → given ≡ last.devices.port
        → refused ≡ None → Begins put (card_output lines records None) → IsWriteError failed status → EndsLines failed lines put records refused handed given status
    -- memory ran out in a call
    starved : (line : CardLine) (left : List CardLine) (last next : StoreState) (call : course.CardCall) (reply : course.CardReply)
        → StandsAt Reliable key lines handed records (line ∷ left) last → MakesCall Reliable last next call reply → given ≡ next.devices.port
        → refused ≡ None → Begins put (card_output lines records None) → status ≡ NoMemory → EndsLines failed lines put records refused handed given status
    -- a mount was refused: the first, or that of a line
    at_mount : (fault : CardFault) → refused ≡ Some fault → IsRefusedAt Reliable key lines handed given records fault
        → Begins put (card_output lines records (Some fault)) → EndsAtMount failed put (card_output lines records (Some fault)) fault status
        → EndsLines failed lines put records refused handed given status

  -- The run of these lines, and what was put.
  pub record RunsLines (failed : Type 0) (lines : List CardLine) (held_old held_new : Option (List ℕ)) (handed given : PortState) (status : Status) : Type 0 where
    pub put : List ℕ
    pub records : List CardRecord
    pub refused : Option CardFault
    pub appended : Appends held_old held_new put
    pub ends : EndsLines failed lines put records refused handed given status

  -- How a run ended: the source could not be read, or what it gave is no script, and then nothing was done; or its lines were run.
  pub data EndsCard (w : World) (t : CardTrace) (handed given : PortState) (status : Status) : Type 0 where
    unread : IsReadError w.source_failed (length t.taken) status → IsSilentCard t → given ≡ handed → EndsCard w t handed given status
    no_script : WasTaken w t → IsCardScriptError (script_of t.taken) status → IsSilentCard t → given ≡ handed → EndsCard w t handed given status
    ran : (lines : List CardLine) → WasTaken w t → script_of t.taken ≡ Ok lines
        → EndsLines (w.sink_failed ⊎ w.sink_full) lines t.put t.records t.refused handed given status → EndsCard w t handed given status

  -- What was taken and put, how the run ended, and what it did to the port to the card.
  pub record RunsCard (left_old left_new held_old held_new : Option (List ℕ)) (w : World) (handed given : PortState) (status : Status) : Type 0 where
    pub trace : CardTrace
    pub taken : TakesFirst left_old left_new trace.taken
    -- bounded reading: one byte more than a script may have
    pub bounded : length trace.taken ≤ 16777217
    pub appended : Appends held_old held_new trace.put
    pub ends : EndsCard w trace handed given status

-- The script was run: to its end, or until a mount was refused or failed, or memory ran out.
abbrev pub RunsItsLines : Status → Type 0
RunsItsLines Done = Unit {0}
RunsItsLines NoMemory = Unit {0}
RunsItsLines (CardMapRefused block offset) = Unit {0}
RunsItsLines (MountRefused fault) = Unit {0}
RunsItsLines (DeviceFault fault) = Unit {0}
RunsItsLines _ = ⊥
