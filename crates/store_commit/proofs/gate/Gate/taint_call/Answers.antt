use Rattle.std.proofs.Common.{◌≡◌, refl, ap}
use Rattle.disk_model.specs.State.{FileState}
use Rattle.disk_model.specs.Controls.{taint_armed}
use Rattle.store_commit.proofs.Rearming.{armed_file, either_file, rearmed_gate}
use Rattle.store_commit.proofs.gate.Gate.taint_call.Goals as goal

pub invariant_of-self : goal.invariant_of-self
invariant_of-self g c =
    let state = g.F.StoreFile.state in
    let i = c.self.inside in
    let n = c.taint_call.new.self in
    let p = g.R.RpmbPort.state i.host.port in
    let armed : FileState = taint_armed (state i.dir.file) (record { call = c.args.call; at = c.args.at; mask = c.args.mask.now }) in
    rearmed_gate (state i.dir.file) (state n.file) i.dir.dir n.dir p p i.host.key i.host.key i.counter i.doubt i.index i.holds
    (either_file c.taint_call.result (state i.dir.file) (state n.file) (state n.file ≡ armed)
    (λ is. armed_file (state i.dir.file) (state n.file) armed.arms armed.calm armed.steady is) c.taint_call.ensures.armed c.taint_call.ensures.refused)
    (ap (λ v. v.dir) c.taint_call.ensures.same) refl refl c.self.invariant
