use Rattle.mem_files.specs.Memory.{file_state, file_armed}
use Rattle.mem_files.proofs.Steps.{fails_changes, fails_others, fails_others_struck, starved_fails, resized_changes, resized_reads, resized_others, resized_others_struck}
use Rattle.mem_files.proofs.memory.MemFileStoreFile.set_len.Goals as goal

pub returns-in_err-begin-clause-changes : goal.returns-in_err-begin-clause-changes
returns-in_err-begin-clause-changes c = fails_changes (file_state c.args.self.now) (file_armed c.args.self.now) (file_state c.begin.new.self) _ _ _ c.in_err-begin.ensures.failed

pub returns-in_err-begin-clause-others : goal.returns-in_err-begin-clause-others
returns-in_err-begin-clause-others c = λ known place byte out has.
    fails_others (file_state c.args.self.now) (file_armed c.args.self.now) (file_state c.begin.new.self) _ c.in_err-begin.ensures.failed known place byte has

pub returns-in-Ok-clause-changes : goal.returns-in-Ok-clause-changes
returns-in-Ok-clause-changes c =
    resized_changes (file_state c.args.self.now) (file_armed c.args.self.now) (file_state c.begin.new.self) (file_state c.try_resize.new.self) c.args.size c.in_ok-begin.ensures.passed.0 c.in-Ok.ensures.ok

pub returns-in-Ok-clause-resized : goal.returns-in-Ok-clause-resized
returns-in-Ok-clause-resized c =
    resized_reads (file_state c.args.self.now) (file_armed c.args.self.now) (file_state c.begin.new.self) (file_state c.try_resize.new.self) c.args.size c.in_ok-begin.ensures.passed.0 c.in-Ok.ensures.ok

pub returns-in-Ok-clause-others : goal.returns-in-Ok-clause-others
returns-in-Ok-clause-others c =
    resized_others (file_state c.args.self.now) (file_armed c.args.self.now) (file_state c.begin.new.self) (file_state c.try_resize.new.self) c.args.size c.in_ok-begin.ensures.passed.0 c.in-Ok.ensures.ok

pub returns-in-Err-clause-changes : goal.returns-in-Err-clause-changes
returns-in-Err-clause-changes c =
    let fails = starved_fails (file_state c.args.self.now) (file_state c.begin.new.self) (file_state c.try_resize.new.self) (file_state c.starve.new.self) c.in_ok-begin.ensures.passed c.in-Err.ensures.err c.starve.ensures.counted c.starve.ensures.rises in
    fails_changes (file_state c.args.self.now) (file_armed c.args.self.now) (file_state c.starve.new.self) _ _ _ fails

pub returns-in-Err-clause-others : goal.returns-in-Err-clause-others
returns-in-Err-clause-others c = λ known place byte out has.
    let fails = starved_fails (file_state c.args.self.now) (file_state c.begin.new.self) (file_state c.try_resize.new.self) (file_state c.starve.new.self) c.in_ok-begin.ensures.passed c.in-Err.ensures.err c.starve.ensures.counted c.starve.ensures.rises in
    fails_others (file_state c.args.self.now) (file_armed c.args.self.now) (file_state c.starve.new.self) _ fails known place byte has

pub returns-in_err-begin-clause-others_struck : goal.returns-in_err-begin-clause-others_struck
returns-in_err-begin-clause-others_struck c = λ tells place byte out has.
    fails_others_struck (file_state c.args.self.now) (file_armed c.args.self.now) (file_state c.begin.new.self) _ c.in_err-begin.ensures.failed place byte has

pub returns-in-Ok-clause-others_struck : goal.returns-in-Ok-clause-others_struck
returns-in-Ok-clause-others_struck c = λ tells.
    resized_others_struck (file_state c.args.self.now) (file_armed c.args.self.now) (file_state c.begin.new.self) (file_state c.try_resize.new.self) c.args.size c.in_ok-begin.ensures.passed.0 c.in-Ok.ensures.ok

pub returns-in-Err-clause-others_struck : goal.returns-in-Err-clause-others_struck
returns-in-Err-clause-others_struck c = λ tells place byte out has.
    let fails = starved_fails (file_state c.args.self.now) (file_state c.begin.new.self) (file_state c.try_resize.new.self) (file_state c.starve.new.self) c.in_ok-begin.ensures.passed c.in-Err.ensures.err c.starve.ensures.counted c.starve.ensures.rises in
    fails_others_struck (file_state c.args.self.now) (file_armed c.args.self.now) (file_state c.starve.new.self) _ fails place byte has
