use Rattle.folder_audit.proofs.Front.{root_refused}
use Rattle.folder_audit.proofs.folder.root_served.Goals as goal

pub returns-in-Err : goal.returns-in-Err
returns-in-Err c = λ keys old new. root_refused keys c.args.block.now old new c.in-Err.fault c.in-Err.ensures.answer
