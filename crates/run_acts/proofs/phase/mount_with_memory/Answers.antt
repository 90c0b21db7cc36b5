use Rattle.std.proofs.Common.{inr}
use Rattle.run_acts.specs.Benches.{bench_state}
use Rattle.run_acts.specs.PhaseRefusals.{unmounted}
use Rattle.run_acts.proofs.NotDrawn.{memory_not_drawn}
use Rattle.run_acts.proofs.phase.mount_with_memory.Goals as goal

pub returns-in-Err-2-clause-refused : goal.returns-in-Err-2-clause-refused
returns-in-Err-2-clause-refused g c = λ applications arms mode calls.
    let of_file = g.F.StoreFile.state in
    let of_port = g.R.RpmbPort.state in
    let halted = c.in-Err.halted in
    inr (record {
      fault_is = c.starved_bench.ensures.fault;
      left = bench_state of_file of_port halted.bench;
      leaves = unmounted halted.fault c.in-Err.ensures.refused c.in-Err.ensures.keeps_err;
      disarms = c.starved_bench.ensures.disarms;
    })

pub returns-in-Err-2-clause-drawn : goal.returns-in-Err-2-clause-drawn
returns-in-Err-2-clause-drawn g c = λ reliable. memory_not_drawn c.starved_bench.result.fault c.starved_bench.ensures.fault
