-- What holds of every script.
use Rattle.std.specs.Prelude.{◌≡◌, ◌≤◌, ◌<◌, ◌^◌, ℕ, true, List, length, take, slice_get, All, Some, Ok}
use Rattle.tee_types.specs.Limits.{IsObjectFile, most_objects}
use Rattle.tee_types.specs.declared.reply.Device.{Device}
use Rattle.tee_types.specs.declared.reply.Device.TheVariants.{Dir, File, Card, Entropy}
use Rattle.store_model.specs.Sound.{AreBytes, IsCall}
use Rattle.script_text.specs.declared.script.Arm.{Arm}
use Rattle.script_text.specs.declared.script.Arm.TheVariants.{Stop, Fail, Lose, Taint}
use Rattle.script_text.specs.declared.script.Control.{Control}
use Rattle.script_text.specs.declared.script.Control.TheVariants.{Mode as ModeControl, Phase, Arm as ArmControl, Crash, Save, Restore, Flip, Quota, List as ListControl}
use Rattle.script_text.specs.declared.script.Step.{Step}
use Rattle.script_text.specs.declared.script.Step.TheVariants.{Call as CallStep, Control as ControlStep}
use Rattle.script_text.specs.Words.{is_mark}
use Rattle.script_text.specs.Script.{ScriptValue, is_saved}
use Rattle.script_text.specs.Grammar.{script_of}

-- the device can be armed: it is the directory's file, an object's file or the card
abbrev pub IsArmable : Device → Type 0
IsArmable Dir = Unit {0}
IsArmable (File number) = IsObjectFile number
IsArmable Card = Unit {0}
IsArmable Entropy = ⊥

-- the device is a file: the directory's or an object's
abbrev pub IsFileDevice : Device → Type 0
IsFileDevice Dir = Unit {0}
IsFileDevice (File number) = IsObjectFile number
IsFileDevice Card = ⊥
IsFileDevice Entropy = ⊥

-- the place is a number of 32 bits, and the mask bytes, one at least
abbrev pub IsMask : (at : ℕ) (mask : List ℕ) → Type 0
IsMask at mask = (at < 2 ^ 32) × (1 ≤ length mask) × AreBytes mask

-- the device can be armed, and a call has a number from 1
abbrev pub IsArm : Arm → Type 0
IsArm (Stop device calls) = IsArmable device
IsArm (Fail device call) = IsArmable device × (1 ≤ call)
IsArm (Lose call) = 1 ≤ call
IsArm (Taint file call at mask) = IsFileDevice file × (1 ≤ call) × IsMask at mask

-- what the control carries is well formed
abbrev pub IsControl : Control → Type 0
IsControl (ModeControl mode) = Unit {0}
IsControl Phase = Unit {0}
IsControl (ArmControl arm) = IsArm arm
IsControl (Crash seed) = seed < 2 ^ 64
IsControl (Save mark) = is_mark mark ≡ true
IsControl (Restore file mark) = IsFileDevice file × (is_mark mark ≡ true)
IsControl (Flip file at mask) = IsFileDevice file × IsMask at mask
IsControl (Quota app objects bytes) = (objects ≤ most_objects) × (bytes < 2 ^ 32)
IsControl ListControl = Unit {0}

-- what the step carries is well formed
abbrev pub IsFormed : Step → Type 0
IsFormed (CallStep app call) = IsCall call
IsFormed (ControlStep control) = IsControl control

-- The calls of a script carry identifiers and bytes, and its controls devices of the bench, marks, masks and quotas.
abbrev pub ScriptsCallWell : Type 0
ScriptsCallWell = (text : List ℕ) (script : ScriptValue) → script_of text ≡ Ok script → All IsFormed script.steps

-- what the steps put back was saved in front
abbrev pub AreSaved : List Step → Type 0
AreSaved steps = (i : ℕ) (file : Device) (mark : List ℕ) → slice_get steps i ≡ Some (ControlStep (Restore file mark)) → is_saved mark (take i steps) ≡ true

-- What a script puts back was saved above.
abbrev pub MarksAreSaved : Type 0
MarksAreSaved = (text : List ℕ) (script : ScriptValue) → script_of text ≡ Ok script → AreSaved script.steps
