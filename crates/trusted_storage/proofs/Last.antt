-- What holds of each bench of a run, holds of the one that is given back.
use Rattle.std.proofs.Common.{ℕ, List, [], ◌∷◌, ◌++◌, append_assoc, append-nil, sym, subst}
use Rattle.disk_model.specs.State.{FileState}
use Rattle.rpmb_card.specs.Port.{PortState}
use Rattle.run_acts.specs.Benches.{BenchState}
use Rattle.script_runner.proofs.Alterings.{alter_front}
use Rattle.script_runner.specs.HeldRuns.{HoldsLeftBehind}
use Rattle.script_runner.specs.RecordLaws.{AlterNothing, left_behind}
use Rattle.script_runner.specs.Records.{EachBench, RunRecord, acts_in, outcomes_in}
use Rattle.script_runner.specs.RunCauses.{World}
use Rattle.script_runner.specs.Trace.{applications_of}
use Rattle.trusted_storage.specs.Laws.{CutsAtExit}
use Rattle.trusted_storage.specs.Runs.{records_of}
use Rattle.trusted_storage.proofs.Holding.{begins_behind}
use Rattle.trusted_storage.proofs.Mapped.{all_hold}
use Rattle.trusted_storage.proofs.Served.{records_of_script}

each_bench-last : (P : List RunRecord → BenchState → Type 0) (done records : List RunRecord) (given : BenchState) → EachBench P done records given → P (done ++ records) given
each_bench-last P done [] given holds = subst (λ (l : List RunRecord). P l given) (sym (append-nil done)) holds
each_bench-last P done (r ∷ records) given holds = subst (λ (l : List RunRecord). P l given) (append_assoc done (r ∷ []) records) (each_bench-last P (done ++ r ∷ []) records given holds.1)

pub cuts_exit : {F R : Type 0} (of_file : F → FileState) (of_port : R → PortState) (image : FileState → ℕ → ℕ → List ℕ) (Reliable : Type 0) (w : World) → CutsAtExit of_file of_port image Reliable w
cuts_exit of_file of_port image Reliable w c script s is opened begins unaltered fed =
    let apps = applications_of script in
    let records = records_of c in
    let told = records_of_script of_file of_port image Reliable w c script is in
    let held = each_bench-last (HoldsLeftBehind c.keys apps s) [] records c.given (all_hold of_file of_port image Reliable w c script s is opened begins) in
    begins_behind c.keys apps (acts_in records) c.given (left_behind apps s (outcomes_in records)) (held (alter_front (acts_in records) told.left (subst AlterNothing told.acts_are unaltered)) fed)
