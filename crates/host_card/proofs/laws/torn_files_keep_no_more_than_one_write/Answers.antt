use Rattle.host_card.proofs.AfterCuts.{no_more_than_one}
use Rattle.host_card.proofs.laws.torn_files_keep_no_more_than_one_write.Goals as goal

pub returns : goal.returns
returns c = no_more_than_one
