use Rattle.std.proofs.Common.{◌≡◌, vec_len, All}
use Rattle.mem_files.specs.Machine.{fresh}
use Rattle.mem_files.specs.Memory.{file_state}
use Rattle.script_runner.proofs.sim_devices.empty_files.Given as goal

abbrev pub invariant-loop : goal.invariant-loop
invariant-loop l = (vec_len l.files ≡ l.counter) × All (λ file. file_state file ≡ fresh) l.files.items
