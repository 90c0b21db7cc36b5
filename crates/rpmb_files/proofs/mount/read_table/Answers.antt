use Rattle.std.proofs.Common.{ℕ, List, subst}
use Rattle.rpmb_files.specs.Devices.{Devices, GoesOn, devices}
use Rattle.rpmb_files.proofs.Exchanges.{goes_then}
use Rattle.rpmb_files.proofs.Mounting.{fault_result, table_result}
use Rattle.rpmb_files.proofs.mount.read_table.Goals as goal

pub returns-clause-goes_on : goal.returns-clause-goes_on
returns-clause-goes_on g c =
    let key : List ℕ = c.args.link.now.host.key in
    let old : Devices = devices (g.R.RpmbPort.state c.args.link.now.host.port) (g.E.Entropy.faults c.args.link.now.entropy) in
    let mid : Devices = devices (g.R.RpmbPort.state c.read_counter.new.self.host.port) (g.E.Entropy.faults c.read_counter.new.self.entropy) in
    let new : Devices = devices (g.R.RpmbPort.state c.read_map.new.link.host.port) (g.E.Entropy.faults c.read_map.new.link.entropy) in
    goes_then key old mid new c.in-Ok.ensures.goes_on (subst (λ (k : List ℕ). GoesOn k mid new) c.in-Ok.ensures.key c.read_map.ensures.goes_on)

pub returns-clause-read : goal.returns-clause-read
returns-clause-read g c =
    let key : List ℕ = c.args.link.now.host.key in
    let own : List ℕ = c.read_counter.new.self.host.key in
    let old : Devices = devices (g.R.RpmbPort.state c.args.link.now.host.port) (g.E.Entropy.faults c.args.link.now.entropy) in
    let mid : Devices = devices (g.R.RpmbPort.state c.read_counter.new.self.host.port) (g.E.Entropy.faults c.read_counter.new.self.entropy) in
    let new : Devices = devices (g.R.RpmbPort.state c.read_map.new.link.host.port) (g.E.Entropy.faults c.read_map.new.link.entropy) in
    table_result key own old mid c.in-Ok.ensures.key c.in-Ok.ensures.goes_on c.in-Ok.ensures.card c.in-Ok.counter c.read_map.new.link.counter new c.read_map.result c.in-Ok.ensures.told
    c.read_map.ensures.counter c.read_map.ensures.read

pub returns-clause-fault : goal.returns-clause-fault
returns-clause-fault g c =
    let key : List ℕ = c.args.link.now.host.key in
    let own : List ℕ = c.read_counter.new.self.host.key in
    let old : Devices = devices (g.R.RpmbPort.state c.args.link.now.host.port) (g.E.Entropy.faults c.args.link.now.entropy) in
    let mid : Devices = devices (g.R.RpmbPort.state c.read_counter.new.self.host.port) (g.E.Entropy.faults c.read_counter.new.self.entropy) in
    let new : Devices = devices (g.R.RpmbPort.state c.read_map.new.link.host.port) (g.E.Entropy.faults c.read_map.new.link.entropy) in
    fault_result key own old mid c.in-Ok.ensures.key c.in-Ok.ensures.goes_on c.in-Ok.ensures.card new c.read_map.result c.read_map.ensures.fault
