-- From the parts of a run of the card to the whole.
use Rattle.std.proofs.Common.{◌≡◌, ◌≤◌, ℕ, List, [], length, Option, Some, None, Result, Ok, Err, refl, sym, ap, subst, ◌∙◌, ⊎_elim, arith}
use Rattle.rpmb_card.specs.Port.{PortState}
use Rattle.card_script.specs.declared.card_line.CardLine.{CardLine}
use Rattle.card_script.specs.declared.reading.CardScriptFault.{CardScriptFault}
use Rattle.card_script.specs.declared.reading.CardScriptFault.TheVariants.{BadLine as BadLineFault}
use Rattle.card_script.specs.CardScripts.{script_of}
use Rattle.rpmb_files.specs.declared.fault.CardFault.{CardFault}
use Rattle.rpmb_files.specs.declared.fault.CardFault.TheVariants.{Bad, Device, NoMemory as Starved}
use Rattle.script_runner.specs.declared.status.Excess.TheVariants.{Bytes}
use Rattle.script_runner.specs.declared.status.Status.{Status}
use Rattle.script_runner.specs.declared.status.Status.TheVariants.{BadLine, CardMapRefused, DeviceFault, MountRefused, NoMemory, ReadFault, TooLong, WriteFault}
use Rattle.script_runner.specs.RunCauses.{World}
use Rattle.script_runner.specs.ScriptReading.{IsReadError}
use Rattle.script_runner.specs.Sending.{IsWriteError}
use Rattle.script_runner.specs.CardRecords.{CardRecord}
use Rattle.script_runner.specs.CardRuns.{CardTrace, EndsAtMount, EndsCard, EndsLines, IsCardScriptError, IsSilentCard, RunsCard, RunsItsLines, all_done, at_mount, cut_off, no_script, ran, starved, unread}
use Rattle.script_runner.proofs.Wholes.{all_taken, taken-le}

-- a run that read no script put nothing
abbrev pub silent : List ℕ → CardTrace
silent taken = record { taken = taken; put = []; records = []; refused = None }

pub silent_is : (taken : List ℕ) → IsSilentCard (silent taken)
silent_is taken = record { put = refl; records = refl; refused = refl }

written : (failed : Type 0) (status : Status) → (failed → ⊥) → IsWriteError failed status → RunsItsLines status
written failed WriteFault room error = absurd (room error)
written failed NoMemory room error = tt
written failed status room error = absurd error

mounted : (failed : Type 0) (put text : List ℕ) (fault : CardFault) (status : Status) → (failed → ⊥) → EndsAtMount failed put text fault status → RunsItsLines status
mounted failed put text (Bad block offset) (CardMapRefused told at) room ends = tt
mounted failed put text (Bad block offset) WriteFault room ends = absurd (room ends)
mounted failed put text (Bad block offset) NoMemory room ends = tt
mounted failed put text (Device cause) (MountRefused told) room ends = tt
mounted failed put text (Device cause) (DeviceFault told) room ends = tt
mounted failed put text (Device cause) WriteFault room ends = absurd (room ends.1)
mounted failed put text (Device cause) NoMemory room ends = tt
mounted failed put text Starved NoMemory room ends = tt
mounted failed put text fault status room ends = absurd ends

module _ (Reliable : Type 0) (key : List ℕ) (handed given : PortState) where
  lines-completed : (failed : Type 0) (lines : List CardLine) (put : List ℕ) (records : List CardRecord) (why : Option CardFault) (status : Status) → (failed → ⊥) → EndsLines Reliable key failed lines put records why handed given status → RunsItsLines status
  lines-completed failed lines put records why status room (all_done last at port refused_is text done) = subst RunsItsLines (sym done) tt
  lines-completed failed lines put records why status room (cut_off left last at port refused_is begins error) = written failed status room error
  lines-completed failed lines put records why status room (starved line left last next call reply at makes port refused_is begins done) = subst RunsItsLines (sym done) tt
  lines-completed failed lines put records why status room (at_mount fault is_fault at begins ends) = mounted failed put _ fault status room ends

  not-read : (w : World) (t : CardTrace) (status : Status) → IsReadError w.source_failed (length t.taken) status → (w.source_failed → ⊥) → length t.taken ≤ 16777216 → RunsItsLines status
  not-read w t ReadFault error source short = absurd (source error.0)
  not-read w t (TooLong Bytes) error source short = absurd (omega (arith, error, short))
  not-read w t NoMemory error source short = tt
  not-read w t status error source short = absurd error

  not-parsed : (text : List ℕ) (lines : List CardLine) (status : Status) → script_of text ≡ Ok lines → IsCardScriptError (script_of text) status → RunsItsLines status
  not-parsed text lines (BadLine line) is error =
      let e : ◌≡◌ {A = Result (List CardLine) CardScriptFault} (Ok lines) (Err (BadLineFault line)) = sym is ∙ error in absurd cc
  not-parsed text lines NoMemory is error = tt
  not-parsed text lines status is error = absurd error

  -- what a run needs to end well
  pub completed : (left_old left_new held_old held_new : Option (List ℕ)) (w : World) (status : Status) (bytes : List ℕ) (lines : List CardLine) → RunsCard Reliable key left_old left_new held_old held_new w handed given status
      → (w.source_ended → (rest : List ℕ) → left_new ≡ Some rest → rest ≡ []) → left_old ≡ Some bytes → length bytes ≤ 16777216 → script_of bytes ≡ Ok lines
      → (w.source_failed → ⊥) → (w.sink_failed → ⊥) → (w.sink_full → ⊥) → RunsItsLines status
  completed left_old left_new held_old held_new w status bytes lines run ends told short is source sink room = by run.ends
    where
      by : EndsCard Reliable key w run.trace handed given status → RunsItsLines status
      by (unread error silent same) =
          not-read w run.trace status error source (omega (arith, short, taken-le left_old left_new run.trace.taken bytes run.taken told))
      by (no_script taken error silent same) =
          let all = all_taken left_old left_new run.trace.taken bytes run.taken (ends taken.0) told in
          not-parsed run.trace.taken lines status (ap script_of all ∙ is) error
      by (ran other taken other_is at_end) = lines-completed _ other run.trace.put run.trace.records run.trace.refused status (⊎_elim sink room) at_end
