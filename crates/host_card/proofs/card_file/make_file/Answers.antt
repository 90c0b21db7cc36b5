use Rattle.host_card.proofs.WhatIsRead.{made}
use Rattle.host_card.proofs.card_file.make_file.Goals as goal

pub returns-clause-made : goal.returns-clause-made
returns-clause-made g c = made c.args.key.now _ _ _ c.in_ok-length.length c.in_ok-length.ensures.rests c.in_ok-length.ensures.told c.if-length-gt0.false c.in_ok-lay_out.ensures.goes_on c.in_ok-lay_out.ensures.laid
