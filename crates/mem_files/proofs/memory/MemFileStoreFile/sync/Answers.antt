use Rattle.std.proofs.Common.{Result, Ok, Err}
use Rattle.std.specs.Result.{OnErr}
use Rattle.mem_files.specs.Memory.{file_state, file_armed}
use Rattle.mem_files.proofs.Steps.{fails_rests, starved_fails, synced_syncs}
use Rattle.mem_files.proofs.memory.MemFileStoreFile.sync.Goals as goal

whatever_err : {T E P : Type 0} → (r : Result T E) → P → OnErr r P
whatever_err (Ok x) p = tt
whatever_err (Err e) p = p

pub returns-in_err-begin-clause-unsettled : goal.returns-in_err-begin-clause-unsettled
returns-in_err-begin-clause-unsettled c =
    let rests = fails_rests (file_state c.args.self.now) (file_armed c.args.self.now) (file_state c.begin.new.self) _ c.in_err-begin.ensures.failed in whatever_err c.from_residual.result rests

pub returns-in-Ok-clause-synced : goal.returns-in-Ok-clause-synced
returns-in-Ok-clause-synced c =
    synced_syncs (file_state c.args.self.now) (file_armed c.args.self.now) (file_state c.begin.new.self) (file_state c.try_sync.new.self) c.in_ok-begin.ensures.passed.0 c.in-Ok.ensures.ok

pub returns-in-Err-clause-unsettled : goal.returns-in-Err-clause-unsettled
returns-in-Err-clause-unsettled c =
    let fails = starved_fails (file_state c.args.self.now) (file_state c.begin.new.self) (file_state c.try_sync.new.self) (file_state c.starve.new.self) c.in_ok-begin.ensures.passed c.in-Err.ensures.err c.starve.ensures.counted c.starve.ensures.rises in
    fails_rests (file_state c.args.self.now) (file_armed c.args.self.now) (file_state c.starve.new.self) _ fails
