use Rattle.disk_model.proofs.Goings.{rests_then}
use Rattle.host_card.proofs.WhatIsRead.{version_read}
use Rattle.host_card.proofs.versions.read_version.Goals as goal

pub returns-in_err-second-clause-rests : goal.returns-in_err-second-clause-rests
returns-in_err-second-clause-rests g c = rests_then _ _ _ c.in_ok-first.ensures.rests c.read_sector-2.ensures.rests

pub returns-clause-rests : goal.returns-clause-rests
returns-clause-rests g c = rests_then _ _ _ c.in_ok-first.ensures.rests c.read_sector-2.ensures.rests

pub returns-clause-told : goal.returns-clause-told
returns-clause-told g c =
    version_read c.args.key.now _ _ _ c.args.place.address c.args.place.version c.begin-at.result c.in_ok-first.first c.in_ok-second.second c.version_of.result
    c.begin-at.ensures c.in_ok-first.ensures.rests c.in_ok-second.ensures.rests c.in_ok-first.ensures.told c.in_ok-second.ensures.told c.version_of.ensures.is
