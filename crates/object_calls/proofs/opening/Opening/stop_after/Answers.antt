use Rattle.std.proofs.Common.{◌≡◌, ◌∙◌, ◌++◌, ℕ, List, length, take, drop, sym, subst}
use Rattle.disk_model.specs.State.{pending}
use Rattle.object_calls.specs.OpeningArms.{StopsOnBench}
use Rattle.object_calls.specs.OpeningFiles.{numbered_files}
use Rattle.object_calls.specs.Opening.{IsOpening, bench_files}
use Rattle.object_calls.proofs.Files.{refilled}
use Rattle.object_calls.proofs.Rearming.{stays_open, stops_pending}
use Rattle.object_calls.proofs.opening.Opening.stop_after.Goals as goal

pub invariant_of-self : goal.invariant_of-self
invariant_of-self g c =
    let state = g.F.StoreFile.state in
    let port = g.R.RpmbPort.state in
    let i = c.self.inside in
    let n = c.stop_device.new in
    let e = c.stop_device.ensures in
    let was : List g.row.F.Denot = c.deref_mut.result.now in
    let held : was ≡ i.files.items = c.deref_mut.ensures.value in
    let long : length i.files.items ≡ i.files.len = sym i.files.ok.0 in
    let many : length n.files ≡ i.files.len = c.stop_device.auto.files ∙ c.deref_mut.ensures.len in
    let still : (k : ℕ) → pending (numbered_files state i.spare n.gate.dir.file n.files k) ≡ pending (numbered_files state i.spare i.gate.dir.file i.files.items k) =
    subst (λ (l : List g.row.F.Denot). (k : ℕ) → pending (numbered_files state i.spare n.gate.dir.file n.files k) ≡ pending (numbered_files state i.spare i.gate.dir.file l k)) held
    (stops_pending c.args.device c.args.calls (numbered_files state i.spare i.gate.dir.file was) (numbered_files state i.spare n.gate.dir.file n.files) (port i.gate.host.port) (port n.gate.host.port) (e.stops i.spare)) in (
      subst (λ (l : List g.row.F.Denot). IsOpening state n.gate l i.storage_key) (sym (refilled i.files.len i.files.items n.files long many))
          (stays_open state i.gate i.files.items i.storage_key c.self.invariant.0 i.spare n.gate n.files e.gate (many ∙ sym long) still),
      c.self.invariant.1,
      c.self.invariant.2,
      c.self.invariant.3,
    )

pub returns-clause-stops : goal.returns-clause-stops
returns-clause-stops g c =
    let state = g.F.StoreFile.state in
    let port = g.R.RpmbPort.state in
    let i = c.self.inside in
    let n = c.stop_device.new in
    let e = c.stop_device.ensures in
    let long : length i.files.items ≡ i.files.len = sym i.files.ok.0 in
    let many : length n.files ≡ i.files.len = c.stop_device.auto.files ∙ c.deref_mut.ensures.len in
    subst (λ v. StopsOnBench c.args.device c.args.calls (bench_files state v) (numbered_files state i.spare n.gate.dir.file (take i.files.len (n.files ++ drop (length n.files) i.files.items))) (port v.gate.host.port) (port n.gate.host.port)) c.self.view_is
    (subst (λ (l : List g.row.F.Denot). StopsOnBench c.args.device c.args.calls (numbered_files state i.spare i.gate.dir.file i.files.items) (numbered_files state i.spare n.gate.dir.file l) (port i.gate.host.port) (port n.gate.host.port)) (sym (refilled i.files.len i.files.items n.files long many))
    (subst (λ (l : List g.row.F.Denot). StopsOnBench c.args.device c.args.calls (numbered_files state i.spare i.gate.dir.file l) (numbered_files state i.spare n.gate.dir.file n.files) (port i.gate.host.port) (port n.gate.host.port)) c.deref_mut.ensures.value (e.stops i.spare)))
