use Rattle.std.proofs.Common.{ℕ, List, Option, subst}
use Rattle.rpmb_files.specs.declared.store.Doubt.{Doubt}
use Rattle.rpmb_files.specs.Devices.{Devices, GoesOn, devices}
use Rattle.rpmb_files.specs.Knows.{Knows}
use Rattle.rpmb_files.proofs.Ends.{moved_card}
use Rattle.rpmb_files.proofs.Exchanges.{goes_same, goes_then}
use Rattle.rpmb_files.proofs.Mounting.{read_cause_then}
use Rattle.rpmb_files.proofs.Settling.{settles}
use Rattle.rpmb_files.proofs.settle.settle.Goals as goal

pub returns-in_default-clause-goes_on : goal.returns-in_default-clause-goes_on
returns-in_default-clause-goes_on g c =
    goes_same c.args.link.now.host.key (devices (g.R.RpmbPort.state c.args.link.now.host.port) (g.E.Entropy.faults c.args.link.now.entropy))

pub returns-in-Err-read_block-clause-goes_on : goal.returns-in-Err-read_block-clause-goes_on
returns-in-Err-read_block-clause-goes_on g c =
    let key : List ℕ = c.args.link.now.host.key in
    let old : Devices = devices (g.R.RpmbPort.state c.args.link.now.host.port) (g.E.Entropy.faults c.args.link.now.entropy) in
    let mid : Devices = devices (g.R.RpmbPort.state c.read_counter.new.self.host.port) (g.E.Entropy.faults c.read_counter.new.self.entropy) in
    let new : Devices = devices (g.R.RpmbPort.state c.read_block.new.self.host.port) (g.E.Entropy.faults c.read_block.new.self.entropy) in
    goes_then key old mid new c.in-Ok.ensures.goes_on (subst (λ (k : List ℕ). GoesOn k mid new) c.in-Ok.ensures.key c.in-Err-read_block.ensures.goes_on)

pub returns-in-Err-read_block-clause-cause : goal.returns-in-Err-read_block-clause-cause
returns-in-Err-read_block-clause-cause g c =
    let key : List ℕ = c.args.link.now.host.key in
    let own : List ℕ = c.read_counter.new.self.host.key in
    let old : Devices = devices (g.R.RpmbPort.state c.args.link.now.host.port) (g.E.Entropy.faults c.args.link.now.entropy) in
    let mid : Devices = devices (g.R.RpmbPort.state c.read_counter.new.self.host.port) (g.E.Entropy.faults c.read_counter.new.self.entropy) in
    let new : Devices = devices (g.R.RpmbPort.state c.read_block.new.self.host.port) (g.E.Entropy.faults c.read_block.new.self.entropy) in
    read_cause_then key own old mid new c.in-Err-read_block.cause c.in-Ok.ensures.key c.in-Ok.ensures.goes_on c.in-Ok.ensures.card c.in-Err-read_block.ensures.cause

pub returns-clause-goes_on : goal.returns-clause-goes_on
returns-clause-goes_on g c =
    let key : List ℕ = c.args.link.now.host.key in
    let old : Devices = devices (g.R.RpmbPort.state c.args.link.now.host.port) (g.E.Entropy.faults c.args.link.now.entropy) in
    let mid : Devices = devices (g.R.RpmbPort.state c.read_counter.new.self.host.port) (g.E.Entropy.faults c.read_counter.new.self.entropy) in
    let new : Devices = devices (g.R.RpmbPort.state c.read_block.new.self.host.port) (g.E.Entropy.faults c.read_block.new.self.entropy) in
    goes_then key old mid new c.in-Ok.ensures.goes_on (subst (λ (k : List ℕ). GoesOn k mid new) c.in-Ok.ensures.key c.in-Ok-read_block.ensures.goes_on)

pub returns-clause-knows : goal.returns-clause-knows
returns-clause-knows g c card has knows =
    let key : List ℕ = c.args.link.now.host.key in
    let own : List ℕ = c.read_counter.new.self.host.key in
    let old : Devices = devices (g.R.RpmbPort.state c.args.link.now.host.port) (g.E.Entropy.faults c.args.link.now.entropy) in
    let mid : Devices = devices (g.R.RpmbPort.state c.read_counter.new.self.host.port) (g.E.Entropy.faults c.read_counter.new.self.entropy) in
    settles c.args.link.now.counter c.in-Ok.counter c.args.table.now c.follow.new.table c.in-Some.unknown c.in-Ok-read_block.map card
    (subst (λ (d : Option Doubt). Knows c.args.link.now.counter c.args.table.now d card) c.in-Some.is knows) c.follow.ensures
    (c.in-Ok-read_block.ensures.told card (moved_card old.port mid.port key own card c.in-Ok.ensures.card c.in-Ok.ensures.key has)) (c.in-Ok.ensures.told card has)
