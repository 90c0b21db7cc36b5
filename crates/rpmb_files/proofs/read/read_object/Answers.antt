use Rattle.std.proofs.Common.{◌≡◌, ◌∙◌, ℕ, List, map, take, refl, sym, ap, subst, arith}
use Rattle.std.proofs.lemmas.List.{take_all}
use Rattle.card_maps.specs.CardMaps.{blocks_of, joined}
use Rattle.card_maps.specs.Form.{size_in}
use Rattle.rpmb_files.specs.Devices.{Devices, GoesOn, devices}
use Rattle.rpmb_files.proofs.Ends.{moved_card}
use Rattle.rpmb_files.proofs.Exchanges.{goes_same, goes_then}
use Rattle.rpmb_files.proofs.Getting.{bytes_more, take_none}
use Rattle.rpmb_files.proofs.Mounting.{fault_then}
use Rattle.rpmb_files.proofs.read.read_object.Goals as goal

pub loop-number-init : goal.loop-number-init
loop-number-init g c = (
  refl,
  refl,
  refl,
  goes_same c.args.link.now.host.key (devices (g.R.RpmbPort.state c.args.link.now.host.port) (g.E.Entropy.faults c.args.link.now.entropy)),
  λ is. is,
  λ card has. c.in-Ok.ensures.items ∙ sym (take_none c.from-size.result),
)

pub loop-number-preserved : goal.loop-number-preserved
loop-number-preserved g c =
    let key : List ℕ = c.args.link.now.host.key in
    let old : Devices = devices (g.R.RpmbPort.state c.args.link.now.host.port) (g.E.Entropy.faults c.args.link.now.entropy) in
    let now : Devices = devices (g.R.RpmbPort.state c.loop-number.link.host.port) (g.E.Entropy.faults c.loop-number.link.entropy) in
    let new : Devices = devices (g.R.RpmbPort.state c.read_data.new.link.host.port) (g.E.Entropy.faults c.read_data.new.link.entropy) in (
      c.in-Ok-read_data.ensures.counter ∙ c.loop-number.invariant.0,
      c.in-Ok-read_data.ensures.key ∙ c.loop-number.invariant.1,
      c.in-Ok-read_data.ensures.card ∙ c.loop-number.invariant.2,
      goes_then key old now new c.loop-number.invariant.3 (subst (λ (k : List ℕ). GoesOn k now new) c.loop-number.invariant.1 c.in-Ok-read_data.ensures.goes_on),
      λ is. (c.in-Ok-read_data.ensures.reliable (c.loop-number.invariant.4 is)).0,
      λ card has. bytes_more (blocks_of card) c.numbers-number-items.result.now c.from-size.result c.loop-number.number-index c.loop-number.bytes.items c.read_data.new.bytes.items (omega arith)
          (c.loop-number.invariant.5 card has)
          (c.in-Ok-read_data.ensures.bytes card (moved_card old.port now.port key c.loop-number.link.host.key card c.loop-number.invariant.2 c.loop-number.invariant.1 has)),
    )

pub returns-in-Err-clause-cause : goal.returns-in-Err-clause-cause
returns-in-Err-clause-cause g c =
    let key : List ℕ = c.args.link.now.host.key in
    let old : Devices = devices (g.R.RpmbPort.state c.args.link.now.host.port) (g.E.Entropy.faults c.args.link.now.entropy) in
    let now : Devices = devices (g.R.RpmbPort.state c.loop-number.link.host.port) (g.E.Entropy.faults c.loop-number.link.entropy) in
    let new : Devices = devices (g.R.RpmbPort.state c.read_data.new.link.host.port) (g.E.Entropy.faults c.read_data.new.link.entropy) in
    fault_then key c.loop-number.link.host.key old now new c.in-Err.fault c.loop-number.invariant.1 c.loop-number.invariant.3 c.loop-number.invariant.2 c.in-Err.ensures.cause

pub returns-clause-bytes : goal.returns-clause-bytes
returns-clause-bytes g c card has =
    let all : take c.loop-number.number-index c.numbers-number-items.result.now ≡ c.numbers-number-items.result.now =
    take_all c.loop-number.number-index c.numbers-number-items.result.now (omega arith) in
    c.loop-number.invariant.5 card has
    ∙ ap (λ (n : ℕ). take n (joined (map (blocks_of card) (take c.loop-number.number-index c.numbers-number-items.result.now)))) (c.from-size.ensures ∙ c.size.ensures.value)
    ∙ ap (λ (l : List ℕ). take (size_in c.args.entry.now) (joined (map (blocks_of card) l))) (all ∙ c.numbers-number-items.ensures.value)
