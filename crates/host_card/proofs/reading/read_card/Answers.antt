use Rattle.std.proofs.Common.{ℕ, List, subst}
use Rattle.std.proofs.lemmas.Result.{err_from_is_err_and}
use Rattle.disk_model.proofs.Goings.{rests_then}
use Rattle.host_card.specs.Faults.{HasFault}
use Rattle.host_card.proofs.WhatIsRead.{card_read, fault_before}
use Rattle.host_card.proofs.reading.read_card.Goals as goal

pub returns-in_err-restore_blocks-clause-rests : goal.returns-in_err-restore_blocks-clause-rests
returns-in_err-restore_blocks-clause-rests g c = rests_then _ _ _ c.in_ok-check_header.ensures.rests c.restore_blocks.ensures.rests

pub returns-in_err-restore_blocks-clause-fault : goal.returns-in_err-restore_blocks-clause-fault
returns-in_err-restore_blocks-clause-fault g c =
    let p = err_from_is_err_and c.from_residual-in_err-restore_blocks.result c.from_residual-in_err-restore_blocks.ensures.1 in
    rw (p.1, p.2) (fault_before c.args.key.now _ _ _ _ c.in_ok-check_header.ensures.rests c.in_ok-check_header.ensures.counted c.restore_blocks.ensures.rests
    (subst (λ (k : List ℕ). HasFault k (g.F.StoreFile.state c.check_header.new.file) (g.F.StoreFile.state c.restore_blocks.new.file) c.in_err-restore_blocks.field-0.0) c.bytes-3.ensures c.in_err-restore_blocks.ensures.fault))

pub returns-clause-card : goal.returns-clause-card
returns-clause-card g c =
    card_read c.args.key.now c.bytes-2.result.now c.bytes-3.result.now (g.F.StoreFile.state c.args.file.now) (g.F.StoreFile.state c.check_header.new.file) (g.F.StoreFile.state c.restore_blocks.new.file)
    c.restore_blocks.new.card c.bytes-2.ensures c.bytes-3.ensures c.in_ok-check_header.ensures.rests c.in_ok-restore_blocks.ensures.rests c.in_ok-check_header.ensures.told c.in_ok-restore_blocks.ensures.told

pub returns-clause-rests : goal.returns-clause-rests
returns-clause-rests g c = rests_then _ _ _ c.in_ok-check_header.ensures.rests c.restore_blocks.ensures.rests
