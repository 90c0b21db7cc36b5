-- Acts that alter no file.
use Rattle.std.proofs.Common.{List, [], ◌∷◌, ◌++◌}
use Rattle.script_text.specs.declared.script.Arm.{Arm}
use Rattle.script_text.specs.declared.script.Arm.TheVariants.{Fail, Lose, Stop, Taint}
use Rattle.script_text.specs.declared.script.Control.TheVariants.{Arm as ArmControl}
use Rattle.run_acts.specs.Untainted.{ArmNoMask}
use Rattle.script_runner.specs.RecordLaws.{AlterNothing, AltersNothing}
use Rattle.script_runner.specs.Text.{Act, Do}

pub alter_front : (done left : List Act) → AlterNothing (done ++ left) → AlterNothing done
alter_front [] left none = tt
alter_front (act ∷ done) left none = (none.0, alter_front done left none.1)

pub alter_last : (before : List Act) (act : Act) → AlterNothing (before ++ act ∷ []) → AltersNothing act
alter_last [] act none = none.0
alter_last (first ∷ before) act none = alter_last before act none.1

-- one arm more that is no mask
pub mask_none : (arms : List Arm) (arm : Arm) → ArmNoMask arms → AltersNothing (Do (ArmControl arm)) → ArmNoMask (arms ++ arm ∷ [])
mask_none [] (Stop device calls) none last = tt
mask_none [] (Fail device call) none last = tt
mask_none [] (Lose call) none last = tt
mask_none [] (Taint file call at mask) none last = last
mask_none (Stop device calls ∷ arms) arm none last = mask_none arms arm none last
mask_none (Fail device call ∷ arms) arm none last = mask_none arms arm none last
mask_none (Lose call ∷ arms) arm none last = mask_none arms arm none last
mask_none (Taint file call at mask ∷ arms) arm none last = none
