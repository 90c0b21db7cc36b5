use Rattle.std.proofs.Common.{◌<◌, arith}
use Rattle.disk_model.proofs.Goings.{rests_then}
use Rattle.host_card.proofs.WhatIsRead.{spare_found}
use Rattle.host_card.proofs.versions.find_spare.Goals as goal

pub returns-in_err-second-clause-rests : goal.returns-in_err-second-clause-rests
returns-in_err-second-clause-rests g c = rests_then _ _ _ c.in_ok-first.ensures.rests c.read_version-2.ensures.rests

pub returns-clause-rests : goal.returns-clause-rests
returns-clause-rests g c = rests_then _ _ _ c.in_ok-first.ensures.rests c.read_version-2.ensures.rests

pub returns-clause-spare : goal.returns-clause-spare
returns-clause-spare g c = λ tells known.
    let low : c.args.address < 256 = omega arith in
    spare_found c.args.key.now _ _ _ c.args.address c.in_ok-first.first c.in_ok-second.second low c.in_ok-first.ensures.rests c.in_ok-second.ensures.rests
    c.in_ok-first.ensures.told c.in_ok-second.ensures.told tells known c.spare_of-version.result c.spare_of-version.ensures.number
