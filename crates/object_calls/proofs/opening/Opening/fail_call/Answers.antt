use Rattle.std.proofs.Common.{◌≡◌, ◌∙◌, ◌++◌, ℕ, List, length, take, drop, sym, subst}
use Rattle.std.specs.Prelude.{OnErr, OnOk}
use Rattle.disk_model.specs.State.{pending}
use Rattle.object_calls.specs.OpeningArms.{FailsOnBench, StayDevices}
use Rattle.object_calls.specs.OpeningFiles.{numbered_files}
use Rattle.object_calls.specs.Opening.{IsOpening, bench_files}
use Rattle.object_calls.proofs.Files.{refilled}
use Rattle.object_calls.proofs.Rearming.{stays_open, fails_pending}
use Rattle.object_calls.proofs.opening.Opening.fail_call.Goals as goal

pub invariant_of-self : goal.invariant_of-self
invariant_of-self g c =
    let state = g.F.StoreFile.state in
    let port = g.R.RpmbPort.state in
    let i = c.self.inside in
    let n = c.fail_device.new in
    let e = c.fail_device.ensures in
    let was : List g.row.F.Denot = c.deref_mut.result.now in
    let held : was ≡ i.files.items = c.deref_mut.ensures.value in
    let long : length i.files.items ≡ i.files.len = sym i.files.ok.0 in
    let many : length n.files ≡ i.files.len = c.fail_device.auto.files ∙ c.deref_mut.ensures.len in
    let still : (k : ℕ) → pending (numbered_files state i.spare n.gate.dir.file n.files k) ≡ pending (numbered_files state i.spare i.gate.dir.file i.files.items k) =
    subst (λ (l : List g.row.F.Denot). (k : ℕ) → pending (numbered_files state i.spare n.gate.dir.file n.files k) ≡ pending (numbered_files state i.spare i.gate.dir.file l k)) held
    (fails_pending c.fail_device.result c.args.device c.args.call (numbered_files state i.spare i.gate.dir.file was) (numbered_files state i.spare n.gate.dir.file n.files) (port i.gate.host.port) (port n.gate.host.port) (e.fails i.spare) (e.refused i.spare)) in (
      subst (λ (l : List g.row.F.Denot). IsOpening state n.gate l i.storage_key) (sym (refilled i.files.len i.files.items n.files long many))
          (stays_open state i.gate i.files.items i.storage_key c.self.invariant.0 i.spare n.gate n.files e.gate (many ∙ sym long) still),
      c.self.invariant.1,
      c.self.invariant.2,
      c.self.invariant.3,
    )

pub returns-clause-fails : goal.returns-clause-fails
returns-clause-fails g c =
    let state = g.F.StoreFile.state in
    let port = g.R.RpmbPort.state in
    let i = c.self.inside in
    let n = c.fail_device.new in
    let e = c.fail_device.ensures in
    let long : length i.files.items ≡ i.files.len = sym i.files.ok.0 in
    let many : length n.files ≡ i.files.len = c.fail_device.auto.files ∙ c.deref_mut.ensures.len in
    subst (λ v. OnOk c.fail_device.result (FailsOnBench c.args.device c.args.call (bench_files state v) (numbered_files state i.spare n.gate.dir.file (take i.files.len (n.files ++ drop (length n.files) i.files.items))) (port v.gate.host.port) (port n.gate.host.port))) c.self.view_is
    (subst (λ (l : List g.row.F.Denot). OnOk c.fail_device.result (FailsOnBench c.args.device c.args.call (numbered_files state i.spare i.gate.dir.file i.files.items) (numbered_files state i.spare n.gate.dir.file l) (port i.gate.host.port) (port n.gate.host.port))) (sym (refilled i.files.len i.files.items n.files long many))
    (subst (λ (l : List g.row.F.Denot). OnOk c.fail_device.result (FailsOnBench c.args.device c.args.call (numbered_files state i.spare i.gate.dir.file l) (numbered_files state i.spare n.gate.dir.file n.files) (port i.gate.host.port) (port n.gate.host.port))) c.deref_mut.ensures.value (e.fails i.spare)))

pub returns-clause-refused : goal.returns-clause-refused
returns-clause-refused g c =
    let state = g.F.StoreFile.state in
    let port = g.R.RpmbPort.state in
    let i = c.self.inside in
    let n = c.fail_device.new in
    let e = c.fail_device.ensures in
    let long : length i.files.items ≡ i.files.len = sym i.files.ok.0 in
    let many : length n.files ≡ i.files.len = c.fail_device.auto.files ∙ c.deref_mut.ensures.len in
    subst (λ v. OnErr c.fail_device.result (StayDevices (bench_files state v) (numbered_files state i.spare n.gate.dir.file (take i.files.len (n.files ++ drop (length n.files) i.files.items))) (port v.gate.host.port) (port n.gate.host.port))) c.self.view_is
    (subst (λ (l : List g.row.F.Denot). OnErr c.fail_device.result (StayDevices (numbered_files state i.spare i.gate.dir.file i.files.items) (numbered_files state i.spare n.gate.dir.file l) (port i.gate.host.port) (port n.gate.host.port))) (sym (refilled i.files.len i.files.items n.files long many))
    (subst (λ (l : List g.row.F.Denot). OnErr c.fail_device.result (StayDevices (numbered_files state i.spare i.gate.dir.file l) (numbered_files state i.spare n.gate.dir.file n.files) (port i.gate.host.port) (port n.gate.host.port))) c.deref_mut.ensures.value (e.refused i.spare)))
