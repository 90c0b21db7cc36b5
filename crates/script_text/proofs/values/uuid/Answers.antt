use Rattle.std.proofs.Common.{sym}
use Rattle.std.proofs.lemmas.Bool.{false≢true}
use Rattle.script_text.specs.Words.{uuid_of}
use Rattle.script_text.proofs.Options.{none_unless}
use Rattle.script_text.proofs.values.uuid.Goals as goal

pub returns-in-Err : goal.returns-in-Err
returns-in-Err c = sym (none_unless (uuid_of c.args.word.now) (λ found. false≢true (c.in-Err.ensures.ok.1 found)))
