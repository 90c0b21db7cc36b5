use Rattle.std.proofs.Common.{refl}
use Rattle.std.proofs.lemmas.List.{get_or-replicate}
use Rattle.host_card.proofs.WhatIsRead.{sector_read}
use Rattle.host_card.proofs.card_file.read_sector.Goals as goal

pub returns-clause-told : goal.returns-clause-told
returns-clause-told g c = λ tells. sector_read _ _ _ c.args.at _ refl (λ i lt. get_or-replicate 512 i 0 0 lt) (c.in_ok-read_at.ensures.told tells)
