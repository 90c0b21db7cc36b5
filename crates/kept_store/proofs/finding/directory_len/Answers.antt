use Rattle.std.proofs.Common.{◌≡◌, IfOk, IsTrue, length, sym, subst, arith}
use Rattle.disk_model.specs.State.{FileState}
use Rattle.tee_types.specs.Limits.{directory_file}
use Rattle.tee_types.proofs.FileNumbers.{directory_behind}
use Rattle.kept_store.proofs.Resting.{all_rest, file_there}
use Rattle.kept_store.proofs.finding.directory_len.Goals as goal

pub returns-clause-rests : goal.returns-clause-rests
returns-clause-rests g c =
    all_rest g.F.StoreFile.state c.args.files.now.items 273 c.index_mut.result.now c.len.new.self (omega (arith, c.requires)) c.index_mut.ensures.value c.len.ensures.rests

pub returns-clause-told : goal.returns-clause-told
returns-clause-told g c =
    subst (λ (s : FileState). IfOk c.len.result (λ n. IsTrue s.tells → n ≡ length s.reads))
    (sym (file_there g.F.StoreFile.state c.args.files.now.items 273 directory_file c.len.new.self (omega (arith, c.requires)) directory_behind)) c.len.ensures.told
