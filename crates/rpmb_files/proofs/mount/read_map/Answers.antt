use Rattle.std.proofs.Common.{◌∙◌, ℕ, List, sym, subst}
use Rattle.rpmb_files.specs.Devices.{Devices, GoesOn, devices}
use Rattle.rpmb_files.proofs.Exchanges.{goes_then}
use Rattle.rpmb_files.proofs.Mounting.{entries_fault_then, has_none, map_bad, map_read}
use Rattle.rpmb_files.proofs.mount.read_map.Goals as goal

pub returns-in-Some-clause-fault : goal.returns-in-Some-clause-fault
returns-in-Some-clause-fault g c =
    let key : List ℕ = c.args.link.now.host.key in
    let own : List ℕ = c.read_block.new.self.host.key in
    let old : Devices = devices (g.R.RpmbPort.state c.args.link.now.host.port) (g.E.Entropy.faults c.args.link.now.entropy) in
    let mid : Devices = devices (g.R.RpmbPort.state c.read_block.new.self.host.port) (g.E.Entropy.faults c.read_block.new.self.entropy) in
    map_bad key own old mid c.in-Ok.ensures.key c.in-Ok.ensures.goes_on c.in-Ok.ensures.card c.in-Ok.map c.in-Some.offset c.in-Ok.ensures.told (sym c.in-Some.ensures)

pub read_entries-requires-clause-none : goal.read_entries-requires-clause-none
read_entries-requires-clause-none g c =
    has_none c.in-Ok.map c.in-Ok-new.table c.use_live.new.self c.in-Ok-new.ensures.long c.in-Ok-new.ensures.entries c.in-Ok-new.ensures.used c.use_live.ensures.entries c.use_live.ensures.used

pub returns-in-Ok-read_entries-clause-goes_on : goal.returns-in-Ok-read_entries-clause-goes_on
returns-in-Ok-read_entries-clause-goes_on g c =
    let key : List ℕ = c.args.link.now.host.key in
    let old : Devices = devices (g.R.RpmbPort.state c.args.link.now.host.port) (g.E.Entropy.faults c.args.link.now.entropy) in
    let mid : Devices = devices (g.R.RpmbPort.state c.read_block.new.self.host.port) (g.E.Entropy.faults c.read_block.new.self.entropy) in
    let new : Devices = devices (g.R.RpmbPort.state c.read_entries.new.link.host.port) (g.E.Entropy.faults c.read_entries.new.link.entropy) in
    goes_then key old mid new c.in-Ok.ensures.goes_on (subst (λ (k : List ℕ). GoesOn k mid new) c.in-Ok.ensures.key c.in-Ok-read_entries.ensures.goes_on)

pub returns-in-Ok-read_entries-clause-read : goal.returns-in-Ok-read_entries-clause-read
returns-in-Ok-read_entries-clause-read g c =
    let key : List ℕ = c.args.link.now.host.key in
    let own : List ℕ = c.read_block.new.self.host.key in
    let old : Devices = devices (g.R.RpmbPort.state c.args.link.now.host.port) (g.E.Entropy.faults c.args.link.now.entropy) in
    let mid : Devices = devices (g.R.RpmbPort.state c.read_block.new.self.host.port) (g.E.Entropy.faults c.read_block.new.self.entropy) in
    map_read key own old mid c.in-Ok.ensures.key c.in-Ok.ensures.goes_on c.in-Ok.ensures.card c.in-Ok.map c.read_entries.new.table c.in-Ok.ensures.told (sym c.map_fault.ensures ∙ c.in_default.is)
    c.in-Ok-read_entries.ensures.read

pub returns-in-Err-read_entries-clause-goes_on : goal.returns-in-Err-read_entries-clause-goes_on
returns-in-Err-read_entries-clause-goes_on g c =
    let key : List ℕ = c.args.link.now.host.key in
    let old : Devices = devices (g.R.RpmbPort.state c.args.link.now.host.port) (g.E.Entropy.faults c.args.link.now.entropy) in
    let mid : Devices = devices (g.R.RpmbPort.state c.read_block.new.self.host.port) (g.E.Entropy.faults c.read_block.new.self.entropy) in
    let new : Devices = devices (g.R.RpmbPort.state c.read_entries.new.link.host.port) (g.E.Entropy.faults c.read_entries.new.link.entropy) in
    goes_then key old mid new c.in-Ok.ensures.goes_on (subst (λ (k : List ℕ). GoesOn k mid new) c.in-Ok.ensures.key c.in-Err-read_entries.ensures.goes_on)

pub returns-in-Err-read_entries-clause-fault : goal.returns-in-Err-read_entries-clause-fault
returns-in-Err-read_entries-clause-fault g c =
    let key : List ℕ = c.args.link.now.host.key in
    let own : List ℕ = c.read_block.new.self.host.key in
    let old : Devices = devices (g.R.RpmbPort.state c.args.link.now.host.port) (g.E.Entropy.faults c.args.link.now.entropy) in
    let mid : Devices = devices (g.R.RpmbPort.state c.read_block.new.self.host.port) (g.E.Entropy.faults c.read_block.new.self.entropy) in
    let new : Devices = devices (g.R.RpmbPort.state c.read_entries.new.link.host.port) (g.E.Entropy.faults c.read_entries.new.link.entropy) in
    entries_fault_then key own old mid c.in-Ok.ensures.key c.in-Ok.ensures.goes_on c.in-Ok.ensures.card c.in-Ok.map new c.in-Err-read_entries.fault c.in-Ok.ensures.told c.in-Err-read_entries.ensures.fault
