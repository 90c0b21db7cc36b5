use Rattle.aes_block.proofs.Deciphering.{deciphered}
use Rattle.aes_block.proofs.laws.deciphering_undoes_enciphering.Goals as goal

pub returns : goal.returns
returns c = deciphered
