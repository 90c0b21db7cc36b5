-- Each phase and each list finds what was left; and runs over devices that do not fail are done.
use Rattle.std.proofs.Common.{ℕ, List}
use Rattle.disk_model.specs.State.{FileState}
use Rattle.rpmb_card.specs.Port.{PortState}
use Rattle.script_runner.proofs.QuietEnds.{quiet_runs_end}
use Rattle.script_runner.proofs.RunLaws.{runs_find_left}
use Rattle.script_runner.specs.RunCauses.{World}
use Rattle.script_runner.specs.Trace.{applications_of}
use Rattle.trusted_storage.specs.Laws.{QuietRunsAreDone, WhatIsLeftIsFound}
use Rattle.trusted_storage.proofs.Holding.{of_begins, of_holds}

pub left_found : {F R : Type 0} (of_file : F → FileState) (of_port : R → PortState) (image : FileState → ℕ → ℕ → List ℕ) (Reliable : Type 0) (w : World) → WhatIsLeftIsFound of_file of_port image Reliable w
left_found of_file of_port image Reliable w c script s is begins none =
    let found = runs_find_left of_file of_port image Reliable w c.left_old c.left_new c.held_old c.held_new c.drew c.draws c.keys c.handed c.given c.status s script c.says
    (of_begins c.keys (applications_of script) c.handed s begins) is none in
    (found.finds, found.refused)

pub quiet_done : {F R : Type 0} (of_file : F → FileState) (of_port : R → PortState) (image : FileState → ℕ → ℕ → List ℕ) (Reliable : Type 0) (w : World) → QuietRunsAreDone of_file of_port image Reliable w
quiet_done of_file of_port image Reliable w c script s is opened holds quiet reliable undrawn unarmed none ran within =
    quiet_runs_end of_file of_port image Reliable w c.left_old c.left_new c.held_old c.held_new c.drew c.draws c.keys c.handed c.given c.status s script c.says (of_holds c.keys c.handed s holds) is opened quiet
    reliable undrawn unarmed none ran within
