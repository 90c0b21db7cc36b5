use Rattle.mem_files.specs.Memory.{file_state, file_armed}
use Rattle.mem_files.proofs.Steps.{fails_changes, fails_others, fails_others_struck, starved_fails, stopped_changes, stopped_others, stopped_others_struck, wrote_changes, wrote_reads, wrote_others, wrote_others_struck}
use Rattle.mem_files.proofs.memory.MemFileStoreFile.write_at.Goals as goal

pub returns-in_err-begin-clause-changes : goal.returns-in_err-begin-clause-changes
returns-in_err-begin-clause-changes c = fails_changes (file_state c.args.self.now) (file_armed c.args.self.now) (file_state c.begin.new.self) _ _ _ c.in_err-begin.ensures.failed

pub returns-in_err-begin-clause-others : goal.returns-in_err-begin-clause-others
returns-in_err-begin-clause-others c = λ known place byte out has.
    fails_others (file_state c.args.self.now) (file_armed c.args.self.now) (file_state c.begin.new.self) _ c.in_err-begin.ensures.failed known place byte has

pub returns-in-Ok-clause-changes : goal.returns-in-Ok-clause-changes
returns-in-Ok-clause-changes c =
    wrote_changes (file_state c.args.self.now) (file_armed c.args.self.now) (file_state c.begin.new.self) (file_state c.try_write.new.self) c.args.at c.args.from.now c.in_ok-begin.ensures.passed.0 c.in-Ok.ensures.ok c.in-Ok.ensures.counted

pub returns-in-Ok-clause-written : goal.returns-in-Ok-clause-written
returns-in-Ok-clause-written c =
    wrote_reads (file_state c.args.self.now) (file_armed c.args.self.now) (file_state c.begin.new.self) (file_state c.try_write.new.self) c.args.at c.args.from.now c.in_ok-begin.ensures.passed.0 c.in-Ok.ensures.ok

pub returns-in-Ok-clause-others : goal.returns-in-Ok-clause-others
returns-in-Ok-clause-others c =
    wrote_others (file_state c.args.self.now) (file_armed c.args.self.now) (file_state c.begin.new.self) (file_state c.try_write.new.self) c.args.at c.args.from.now c.in_ok-begin.ensures.passed.0 c.in-Ok.ensures.ok

pub returns-in-Err-clause-changes : goal.returns-in-Err-clause-changes
returns-in-Err-clause-changes c =
    let fails = starved_fails (file_state c.args.self.now) (file_state c.begin.new.self) (file_state c.try_write.new.self) (file_state c.starve.new.self) c.in_ok-begin.ensures.passed c.in-Err.ensures.err c.starve.ensures.counted c.starve.ensures.rises in
    fails_changes (file_state c.args.self.now) (file_armed c.args.self.now) (file_state c.starve.new.self) _ _ _ fails

pub returns-in-Err-clause-others : goal.returns-in-Err-clause-others
returns-in-Err-clause-others c = λ known place byte out has.
    let fails = starved_fails (file_state c.args.self.now) (file_state c.begin.new.self) (file_state c.try_write.new.self) (file_state c.starve.new.self) c.in_ok-begin.ensures.passed c.in-Err.ensures.err c.starve.ensures.counted c.starve.ensures.rises in
    fails_others (file_state c.args.self.now) (file_armed c.args.self.now) (file_state c.starve.new.self) _ fails known place byte has

pub returns-then-stops_next-clause-changes : goal.returns-then-stops_next-clause-changes
returns-then-stops_next-clause-changes c = stopped_changes (file_state c.args.self.now) (file_armed c.args.self.now) (file_state c.stop_within.new.self) c.args.at c.args.from.now _ c.stop_within.ensures

pub returns-then-stops_next-clause-others : goal.returns-then-stops_next-clause-others
returns-then-stops_next-clause-others c = stopped_others (file_state c.args.self.now) (file_armed c.args.self.now) (file_state c.stop_within.new.self) c.args.at c.args.from.now _ c.stop_within.ensures

pub returns-in_err-begin-clause-others_struck : goal.returns-in_err-begin-clause-others_struck
returns-in_err-begin-clause-others_struck c = λ tells place byte out has.
    fails_others_struck (file_state c.args.self.now) (file_armed c.args.self.now) (file_state c.begin.new.self) _ c.in_err-begin.ensures.failed place byte has

pub returns-in-Ok-clause-others_struck : goal.returns-in-Ok-clause-others_struck
returns-in-Ok-clause-others_struck c = λ tells.
    wrote_others_struck (file_state c.args.self.now) (file_armed c.args.self.now) (file_state c.begin.new.self) (file_state c.try_write.new.self) c.args.at c.args.from.now c.in_ok-begin.ensures.passed.0 c.in-Ok.ensures.ok

pub returns-in-Err-clause-others_struck : goal.returns-in-Err-clause-others_struck
returns-in-Err-clause-others_struck c = λ tells place byte out has.
    let fails = starved_fails (file_state c.args.self.now) (file_state c.begin.new.self) (file_state c.try_write.new.self) (file_state c.starve.new.self) c.in_ok-begin.ensures.passed c.in-Err.ensures.err c.starve.ensures.counted c.starve.ensures.rises in
    fails_others_struck (file_state c.args.self.now) (file_armed c.args.self.now) (file_state c.starve.new.self) _ fails place byte has

pub returns-then-stops_next-clause-others_struck : goal.returns-then-stops_next-clause-others_struck
returns-then-stops_next-clause-others_struck c = λ tells. stopped_others_struck (file_state c.args.self.now) (file_armed c.args.self.now) (file_state c.stop_within.new.self) c.args.at c.args.from.now _ c.stop_within.ensures
