use Rattle.std.proofs.Common.{◌<◌, sym, subst, arith}
use Rattle.disk_model.proofs.Goings.{rests_then}
use Rattle.host_card.specs.Versions.{HasWrite}
use Rattle.host_card.proofs.WhatIsRead.{block_found, newest_writes}
use Rattle.host_card.proofs.versions.read_block.Goals as goal

pub returns-in_err-second-clause-rests : goal.returns-in_err-second-clause-rests
returns-in_err-second-clause-rests g c = rests_then _ _ _ c.in_ok-first.ensures.rests c.read_version-2.ensures.rests

pub returns-clause-rests : goal.returns-clause-rests
returns-clause-rests g c = rests_then _ _ _ c.in_ok-first.ensures.rests c.read_version-2.ensures.rests

pub returns-clause-told : goal.returns-clause-told
returns-clause-told g c = λ tells known.
    let low : c.args.address < 256 = omega arith in
    block_found c.args.key.now _ _ _ c.args.address c.in_ok-first.first c.in_ok-second.second low c.in_ok-first.ensures.rests c.in_ok-second.ensures.rests
    c.in_ok-first.ensures.told c.in_ok-second.ensures.told tells known c.block_of.result c.block_of.ensures

pub returns-clause-writes : goal.returns-clause-writes
returns-clause-writes g c =
    subst (HasWrite c.args.key.now c.args.address) (sym c.block_of.ensures)
    (newest_writes c.args.key.now c.args.address c.in_ok-first.first c.in_ok-second.second c.in_ok-first.ensures.writes c.in_ok-second.ensures.writes)
