use Rattle.mem_files.specs.Memory.{file_state, file_armed}
use Rattle.mem_files.proofs.Steps.{begun_rests, fails_rests}
use Rattle.mem_files.proofs.memory.MemFileStoreFile.read_at.Goals as goal

pub returns-in_err-begin-clause-rests : goal.returns-in_err-begin-clause-rests
returns-in_err-begin-clause-rests c = fails_rests (file_state c.args.self.now) (file_armed c.args.self.now) (file_state c.begin.new.self) _ c.in_err-begin.ensures.failed

pub returns-clause-rests : goal.returns-clause-rests
returns-clause-rests c = begun_rests (file_state c.args.self.now) (file_armed c.args.self.now) (file_state c.begin.new.self) c.in_ok-begin.ensures.passed.0
