-- The words of a control.
use Rattle.std.specs.Prelude.{ℕ, List, [], ◌∷◌, if◌then◌else◌, codes, Option, Some, None}
use Rattle.std.specs.Map.{lookup}
use Rattle.script_text.specs.declared.controls.ControlVerb.{ControlVerb}
use Rattle.script_text.specs.declared.controls.ControlVerb.TheVariants.{Serial as SerialVerb, Threads as ThreadsVerb, Phase as PhaseVerb, Stop as StopVerb, Fail as FailVerb, Lose as LoseVerb, Taint as TaintVerb, Crash as CrashVerb, Save as SaveVerb, Restore as RestoreVerb, Flip as FlipVerb, Quota as QuotaVerb, List as ListVerb}
use Rattle.script_text.specs.declared.script.Arm.{Arm}
use Rattle.script_text.specs.declared.script.Arm.TheVariants.{Stop, Fail, Lose, Taint}
use Rattle.script_text.specs.declared.script.Control.{Control}
use Rattle.script_text.specs.declared.script.Control.TheVariants.{Mode as ModeControl, Phase, Arm as ArmControl, Crash, Save, Restore, Flip, Quota, List as ListControl}
use Rattle.script_text.specs.declared.script.Mode.TheVariants.{Serial, Threads}
use Rattle.script_text.specs.Words.{same_word, uuid_of, mask_of, number_of, object_count_of, place_of_call, seed_of, device_of, file_of, mark_of}
use Rattle.script_text.specs.Calls.{◌>>=◌}

-- `DEVICE N`: it passes so many calls
unfoldable pub stop_words : List (List ℕ) → Option Arm
stop_words (device ∷ calls ∷ []) = do
  d ← device_of device
  n ← number_of calls
  Some (Stop d n)
stop_words _ = None

-- `DEVICE N`: it fails that call
unfoldable pub fail_words : List (List ℕ) → Option Arm
fail_words (device ∷ call ∷ []) = do
  d ← device_of device
  n ← place_of_call call
  Some (Fail d n)
fail_words _ = None

-- `card N`: its answer to that call is lost
unfoldable pub lose_words : List (List ℕ) → Option Arm
lose_words (card ∷ call ∷ []) =
    if same_word card (codes "card")
    then (do
      n ← place_of_call call
      Some (Lose n))
    else None
lose_words _ = None

-- `FILE N OFFSET BYTES`: before that call the mask is laid over the file from that place on
unfoldable pub taint_words : List (List ℕ) → Option Arm
taint_words (file ∷ call ∷ at ∷ mask ∷ []) = do
  f ← file_of file
  n ← place_of_call call
  a ← number_of at
  m ← mask_of mask
  Some (Taint f n a m)
taint_words _ = None

-- `SEED`
unfoldable pub crash_words : List (List ℕ) → Option Control
crash_words (seed ∷ []) = do
  s ← seed_of seed
  Some (Crash s)
crash_words _ = None

-- `MARK`
unfoldable pub save_words : List (List ℕ) → Option Control
save_words (mark ∷ []) = do
  m ← mark_of mark
  Some (Save m)
save_words _ = None

-- `FILE MARK`
unfoldable pub restore_words : List (List ℕ) → Option Control
restore_words (file ∷ mark ∷ []) = do
  f ← file_of file
  m ← mark_of mark
  Some (Restore f m)
restore_words _ = None

-- `FILE OFFSET BYTES`: the mask is laid over the file from that place on
unfoldable pub flip_words : List (List ℕ) → Option Control
flip_words (file ∷ at ∷ mask ∷ []) = do
  f ← file_of file
  a ← number_of at
  m ← mask_of mask
  Some (Flip f a m)
flip_words _ = None

-- `UUID OBJECTS BYTES`: the application may have so many objects, of so many bytes of data together
unfoldable pub quota_words : List (List ℕ) → Option Control
quota_words (app ∷ objects ∷ bytes ∷ []) = do
  a ← uuid_of app
  o ← object_count_of objects
  b ← number_of bytes
  Some (Quota a o b)
quota_words _ = None

-- nothing
abbrev pub alone : Control → List (List ℕ) → Option Control
alone control [] = Some control
alone control _ = None

-- the control that arms a device
abbrev pub arming : Option Arm → Option Control
arming arm = do
  a ← arm
  Some (ArmControl a)

-- the word of each control
abbrev pub control_verbs : List (List ℕ × ControlVerb)
control_verbs =
    (codes "serial", SerialVerb) ∷ (codes "threads", ThreadsVerb) ∷ (codes "phase", PhaseVerb) ∷ (codes "stop", StopVerb)
    ∷ (codes "fail", FailVerb) ∷ (codes "lose", LoseVerb) ∷ (codes "taint", TaintVerb) ∷ (codes "crash", CrashVerb)
    ∷ (codes "save", SaveVerb) ∷ (codes "restore", RestoreVerb) ∷ (codes "flip", FlipVerb) ∷ (codes "quota", QuotaVerb) ∷ (codes "list", ListVerb) ∷ []

unfoldable pub control_verb_of : List ℕ → Option ControlVerb
control_verb_of word = lookup (same_word word) control_verbs

-- the control of these words behind the verb
abbrev pub control_words : ControlVerb → List (List ℕ) → Option Control
control_words SerialVerb words = alone (ModeControl Serial) words
control_words ThreadsVerb words = alone (ModeControl Threads) words
control_words PhaseVerb words = alone Phase words
control_words StopVerb words = arming (stop_words words)
control_words FailVerb words = arming (fail_words words)
control_words LoseVerb words = arming (lose_words words)
control_words TaintVerb words = arming (taint_words words)
control_words CrashVerb words = crash_words words
control_words SaveVerb words = save_words words
control_words RestoreVerb words = restore_words words
control_words FlipVerb words = flip_words words
control_words QuotaVerb words = quota_words words
control_words ListVerb words = alone ListControl words

-- the control of a line: its first word, and the words behind it
unfoldable pub control_of : List ℕ → List (List ℕ) → Option Control
control_of word words = do
  verb ← control_verb_of word
  control_words verb words
