use Rattle.std.proofs.Common.{refl, sym, subst, ◌∙◌, ap, ◌≡◌, ◌<◌, ℕ, ◌+◌, arith}
use Rattle.disk_model.proofs.Goings.{rests_none, rests_then}
use Rattle.std.proofs.lemmas.Result.{err_from_is_err_and}
use Rattle.rpmb_card.specs.Card.{CardState}
use Rattle.host_card.specs.Versions.{IsRestored}
use Rattle.host_card.proofs.Acting.{restored_none}
use Rattle.host_card.proofs.WhatIsRead.{fault_before, one_restored}
use Rattle.host_card.proofs.reading.restore_blocks.Goals as goal

pub loop-address-init : goal.loop-address-init
loop-address-init g c = record {
  sound = c.requires.sound;
  counted = refl;
  rests = rests_none _;
  register = ap (λ (card : CardState). card.register) c.requires.unused;
  restored = λ tells known. subst (IsRestored c.args.key.now (g.F.StoreFile.state c.args.file.now).reads 0) (sym c.requires.unused) (restored_none c.args.key.now (g.F.StoreFile.state c.args.file.now).reads);
}

pub returns-in_err-restore_block-clause-rests : goal.returns-in_err-restore_block-clause-rests
returns-in_err-restore_block-clause-rests g c = rests_then _ _ _ c.loop-address.invariant.rests c.restore_block.ensures.rests

pub returns-in_err-restore_block-clause-fault : goal.returns-in_err-restore_block-clause-fault
returns-in_err-restore_block-clause-fault g c =
    let p = err_from_is_err_and c.from_residual.result c.from_residual.ensures.1 in
    rw (p.1, p.2) (fault_before c.args.key.now _ _ _ _ c.loop-address.invariant.rests c.loop-address.invariant.counted c.restore_block.ensures.rests c.in_err-restore_block.ensures.fault)

pub loop-address-preserved : goal.loop-address-preserved
loop-address-preserved g c =
    let low : c.loop-address.address < 256 = omega (arith, c.loop-address-test.true) in
    let r = c.in_ok-restore_block.ensures in
    record {
      sound = r.sound;
      counted = r.counted ∙ c.loop-address.invariant.counted;
      rests = rests_then _ _ _ c.loop-address.invariant.rests r.rests;
      register = r.register ∙ c.loop-address.invariant.register;
      restored = one_restored c.args.key.now _ _ _ c.loop-address.address (c.loop-address.address + 1) c.loop-address.card c.restore_block.new.card refl low
          c.loop-address.invariant.rests r.rests c.loop-address.invariant.restored r.told;
    }

pub returns-clause-told : goal.returns-clause-told
returns-clause-told g c = λ tells known.
    let all : c.loop-address.address ≡ 256 = omega (arith, c.loop-address-test.false, c.loop-address.auto.address-end) in
    subst (λ (n : ℕ). IsRestored c.args.key.now (g.F.StoreFile.state c.args.file.now).reads n c.loop-address.card) all (c.loop-address.invariant.restored tells known)
