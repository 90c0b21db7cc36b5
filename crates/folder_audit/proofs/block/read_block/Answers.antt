use Rattle.std.proofs.Common.{ℕ, List, refl, replicate}
use Rattle.folder_audit.proofs.Front.{front_read}
use Rattle.folder_audit.proofs.block.read_block.Goals as goal

pub returns-clause-block : goal.returns-clause-block
returns-clause-block g c = λ tells.
    let told = c.in_ok-read_at.ensures.told tells in
    let zeros : List ℕ = replicate 256 0 in
    front_read (g.G.StoreFile.state c.read_at.new.self).reads zeros c.read_at.new.into c.in_ok-read_at.field-0 256 refl told.0 told.1
