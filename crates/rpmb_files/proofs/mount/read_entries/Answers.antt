use Rattle.std.proofs.Common.{◌≡◌, ◌∙◌, ℕ, List, refl, sym, subst, arith}
use Rattle.card_maps.specs.CardMaps.{blocks_of}
use Rattle.card_maps.specs.CardWrites.{live_in}
use Rattle.card_maps.specs.Loading.{HasEntries}
use Rattle.rpmb_files.specs.Devices.{Devices, devices}
use Rattle.rpmb_files.proofs.Mounting.{entry_fault_then, read_more, read_none, read_skip}
use Rattle.rpmb_files.proofs.mount.read_entries.Goals as goal

pub loop-b-init : goal.loop-b-init
loop-b-init g c = (
  refl,
  refl,
  λ is. is,
  read_none c.args.link.now.host.key (devices (g.R.RpmbPort.state c.args.link.now.host.port) (g.E.Entropy.faults c.args.link.now.entropy)) c.args.map.now c.args.table.now
      c.requires.formed c.requires.none,
)

pub loop-b-preserved-then-not-is_live : goal.loop-b-preserved-then-not-is_live
loop-b-preserved-then-not-is_live g c =
    let key : List ℕ = c.args.link.now.host.key in
    let old : Devices = devices (g.R.RpmbPort.state c.args.link.now.host.port) (g.E.Entropy.faults c.args.link.now.entropy) in
    let now : Devices = devices (g.R.RpmbPort.state c.loop-b.link.host.port) (g.E.Entropy.faults c.loop-b.link.entropy) in (
      c.loop-b.invariant.0,
      c.loop-b.invariant.1,
      c.loop-b.invariant.2,
      read_skip key c.loop-b.link.host.key old now c.args.map.now c.loop-b.b c.loop-b.table c.requires.formed c.loop-b.invariant.3 c.loop-b.invariant.1 (omega arith) (omega arith)
          (sym c.is_live.ensures ∙ c.if-not-is_live.true),
    )

pub returns-in-Err-clause-fault : goal.returns-in-Err-clause-fault
returns-in-Err-clause-fault g c =
    let key : List ℕ = c.args.link.now.host.key in
    let old : Devices = devices (g.R.RpmbPort.state c.args.link.now.host.port) (g.E.Entropy.faults c.args.link.now.entropy) in
    let now : Devices = devices (g.R.RpmbPort.state c.loop-b.link.host.port) (g.E.Entropy.faults c.loop-b.link.entropy) in
    let new : Devices = devices (g.R.RpmbPort.state c.read_entry.new.link.host.port) (g.E.Entropy.faults c.read_entry.new.link.entropy) in
    entry_fault_then key c.loop-b.link.host.key old now c.args.map.now c.loop-b.b c.loop-b.table c.requires.formed c.loop-b.invariant.3 c.loop-b.invariant.1 (omega arith) (omega arith)
    new c.in-Err.fault (sym c.is_live.ensures ∙ c.if-not-is_live.false) c.in-Err.ensures.fault

pub loop-b-preserved : goal.loop-b-preserved
loop-b-preserved g c =
    let key : List ℕ = c.args.link.now.host.key in
    let old : Devices = devices (g.R.RpmbPort.state c.args.link.now.host.port) (g.E.Entropy.faults c.args.link.now.entropy) in
    let now : Devices = devices (g.R.RpmbPort.state c.loop-b.link.host.port) (g.E.Entropy.faults c.loop-b.link.entropy) in
    let new : Devices = devices (g.R.RpmbPort.state c.read_entry.new.link.host.port) (g.E.Entropy.faults c.read_entry.new.link.entropy) in (
      c.in-Ok.ensures.counter ∙ c.loop-b.invariant.0,
      c.in-Ok.ensures.key ∙ c.loop-b.invariant.1,
      λ is. (c.in-Ok.ensures.reliable (c.loop-b.invariant.2 is)).0,
      read_more key c.loop-b.link.host.key old now c.args.map.now c.loop-b.b c.loop-b.table c.requires.formed c.loop-b.invariant.3 c.loop-b.invariant.1 (omega arith) (omega arith)
          new c.read_entry.new.table (sym c.is_live.ensures ∙ c.if-not-is_live.false) c.in-Ok.ensures.goes_on c.in-Ok.ensures.card c.in-Ok.ensures.read,
    )

pub returns-clause-read : goal.returns-clause-read
returns-clause-read g c card has is =
    let at : c.loop-b.b ≡ 256 = omega arith in
    subst (λ (n : ℕ). HasEntries (blocks_of card) (live_in card) n c.loop-b.table) at (c.loop-b.invariant.3.entries card has is)
