use Rattle.std.proofs.Common.{◌∙◌}
use Rattle.disk_model.proofs.Goings.{rests_then}
use Rattle.host_card.proofs.WhatIsRead.{first_read, header_fault, header_told}
use Rattle.host_card.proofs.card_file.check_header.Goals as goal

pub returns-in_err-first-clause-rests : goal.returns-in_err-first-clause-rests
returns-in_err-first-clause-rests g c = rests_then _ _ _ c.in_ok-length.ensures.rests c.read_sector.ensures.rests

pub returns-clause-rests : goal.returns-clause-rests
returns-clause-rests g c = rests_then _ _ _ c.in_ok-length.ensures.rests c.read_sector.ensures.rests

pub returns-clause-fault : goal.returns-clause-fault
returns-clause-fault g c =
    header_fault c.args.key.now _ _ c.in_ok-first.first c.check_first.result (c.in_ok-first.ensures.counts ∙ c.in_ok-length.ensures.cause.faults)
    (first_read _ _ _ c.in_ok-length.length c.in_ok-first.first c.in_ok-length.ensures.rests c.in_ok-first.ensures.rests c.in_ok-length.ensures.told c.in_ok-first.ensures.told
    c.if-length-lt-FILE_LENGTH.false) c.check_first.ensures

pub returns-clause-told : goal.returns-clause-told
returns-clause-told g c =
    header_told c.args.key.now (g.F.StoreFile.state c.args.file.now) (g.F.StoreFile.state c.read_sector.new.file) c.in_ok-first.first c.check_first.result
    (first_read _ _ _ c.in_ok-length.length c.in_ok-first.first c.in_ok-length.ensures.rests c.in_ok-first.ensures.rests c.in_ok-length.ensures.told c.in_ok-first.ensures.told
    c.if-length-lt-FILE_LENGTH.false) c.check_first.ensures
