use Rattle.std.proofs.Common.{◌≡◌, ◌∙◌, [], ℕ, List, length, IsTrue, inl, refl, sym, ap, subst}
use Rattle.disk_model.specs.State.{FileState}
use Rattle.htree_file.specs.Answers.{FilePassed}
use Rattle.node_image.specs.References.{current_format}
use Rattle.hmac_keys.specs.KeyTable.{rpmb_key}
use Rattle.tee_types.specs.Limits.{directory_file}
use Rattle.crash_core.specs.EntryLists.{AreCurrent}
use Rattle.store_commit.specs.Causes.{counts}
use Rattle.store_commit.specs.Mounts.{HasRootRead, MountDiffers}
use Rattle.store_commit.specs.Reads.{IsRootRead}
use Rattle.object_calls.specs.Begins.{IsWholeOpening, MountsAsRead}
use Rattle.object_calls.specs.OpeningFiles.{files_of, numbered_files, object_files}
use Rattle.object_calls.specs.OldStores.{GateRefused}
use Rattle.object_calls.specs.MountRefusals.{BenchHeard}
use Rattle.object_calls.specs.Opening.{IsOpening, OpeningValue, bench_files, entries_in}
use Rattle.object_calls.specs.Syncing.{StopsSyncing, SyncsNamed}
use Rattle.object_calls.proofs.EntriesOf.{form_at}
use Rattle.object_calls.proofs.Files.{directory_here, others_same, refilled}
use Rattle.object_calls.proofs.Mounts.{gate_heard, gate_refused, mounted_of, none_rose_at, opening_of, sync_counts, sync_heard, sync_not_card, sync_not_drawn, sync_refused, whole_of}
use Rattle.object_calls.proofs.Syncs.{stops_bench, syncs_bench}
use Rattle.object_calls.proofs.mounting.mount.Goals as goal

pub new-requires-clause-opening : goal.new-requires-clause-opening
new-requires-clause-opening g c =
    let state = g.F.StoreFile.state in
    let port = g.R.RpmbPort.state in
    let took = c.take_apart-spare.result in
    let new = c.sync_named.new.files in
    let was : List g.row.F.Denot = c.deref_mut.result.now in
    let long : length took.objects.items ≡ took.objects.len = sym took.objects.ok.0 in
    let many : length new ≡ took.objects.len = c.sync_named.auto.files ∙ c.deref_mut.ensures.len in
    let o = c.in-Ok-mount_gate.ensures in
    subst (λ (l : List g.row.F.Denot). IsOpening state c.in-Ok-mount_gate.gate l c.ssk.result) (sym (refilled took.objects.len took.objects.items new long many))
    (opening_of state port (state took.dir) (port c.args.bench.card) c.args.keys.now c.in-Ok-mount_gate.gate new took.spare (object_files state was) c.ssk.result o.opens c.ssk.ensures c.in-Ok.table
    o.current o.idle o.unopened o.unheld (many ∙ c.take_apart-spare.ensures.objects) c.in-Ok-sync_named.ensures)

pub returns-in-Ok-sync_named-clause-files : goal.returns-in-Ok-sync_named-clause-files
returns-in-Ok-sync_named-clause-files g c =
    let state = g.F.StoreFile.state in
    let took = c.take_apart-spare.result in
    let gate = c.in-Ok-mount_gate.gate in
    let new = c.sync_named.new.files in
    let was : List g.row.F.Denot = c.deref_mut.result.now in
    let long : length took.objects.items ≡ took.objects.len = sym took.objects.ok.0 in
    let many : length new ≡ took.objects.len = c.sync_named.auto.files ∙ c.deref_mut.ensures.len in
    let opens = c.in-Ok-mount_gate.ensures.opens in
    let at_record : OpeningValue g.row.F.Denot g.row.R.Denot = record { gate = gate; files = new; spare = took.spare; storage_key = c.ssk.result; table = c.in-Ok.table; applications = [] } in
    let is : c.new.result ≡ at_record =
    c.new.ensures ∙ ap (λ (l : List g.row.F.Denot). let v : OpeningValue g.row.F.Denot g.row.R.Denot = record { gate = gate; files = l; spare = took.spare; storage_key = c.ssk.result; table = c.in-Ok.table; applications = [] } in v) (refilled took.objects.len took.objects.items new long many) in
    subst (λ (v : OpeningValue g.row.F.Denot g.row.R.Denot). SyncsNamed (entries_in v) 256 (files_of state c.args.bench.files.items) (bench_files state v)) (sym is)
    (subst (λ (f : ℕ → FileState). SyncsNamed gate.dir.dir.entries 256 f (numbered_files state took.spare gate.dir.file new)) (sym c.take_apart-spare.ensures.files)
    (subst (λ (l : List g.row.F.Denot). SyncsNamed gate.dir.dir.entries 256 (numbered_files state took.spare took.dir l) (numbered_files state took.spare gate.dir.file new)) c.deref_mut.ensures.value
    (syncs_bench state took.spare took.dir gate.dir.file was new gate.dir.dir.entries 256 (λ index e at. (form_at gate.dir.dir.entries opens.settled.entries index e at).file) c.in-Ok-sync_named.ensures)))

pub returns-in-Ok-sync_named-clause-mounted : goal.returns-in-Ok-sync_named-clause-mounted
returns-in-Ok-sync_named-clause-mounted g c =
    let state = g.F.StoreFile.state in
    let port = g.R.RpmbPort.state in
    let took = c.take_apart-spare.result in
    let gate = c.in-Ok-mount_gate.gate in
    let new = c.sync_named.new.files in
    let was : List g.row.F.Denot = c.deref_mut.result.now in
    let long : length took.objects.items ≡ took.objects.len = sym took.objects.ok.0 in
    let many : length new ≡ took.objects.len = c.sync_named.auto.files ∙ c.deref_mut.ensures.len in
    let at_record : OpeningValue g.row.F.Denot g.row.R.Denot = record { gate = gate; files = new; spare = took.spare; storage_key = c.ssk.result; table = c.in-Ok.table; applications = [] } in
    let is : c.new.result ≡ at_record =
    c.new.ensures ∙ ap (λ (l : List g.row.F.Denot). let v : OpeningValue g.row.F.Denot g.row.R.Denot = record { gate = gate; files = l; spare = took.spare; storage_key = c.ssk.result; table = c.in-Ok.table; applications = [] } in v) (refilled took.objects.len took.objects.items new long many) in
    subst (λ (v : OpeningValue g.row.F.Denot g.row.R.Denot). MountsAsRead state (files_of state c.args.bench.files.items directory_file) (port c.args.bench.card) c.args.keys.now v) (sym is)
    (subst (λ (s : FileState). MountsAsRead state s (port c.args.bench.card) c.args.keys.now at_record) (sym c.take_apart-spare.ensures.dir)
    (mounted_of state port (state took.dir) (port c.args.bench.card) c.args.keys.now gate new took.spare (object_files state was) c.ssk.result c.in-Ok-mount_gate.ensures.opens c.ssk.ensures c.in-Ok.table c.in-Ok-mount_gate.ensures.current.0))

pub returns-in-Ok-sync_named-clause-opens : goal.returns-in-Ok-sync_named-clause-opens
returns-in-Ok-sync_named-clause-opens g c =
    let state = g.F.StoreFile.state in
    let port = g.R.RpmbPort.state in
    let took = c.take_apart-spare.result in
    let gate = c.in-Ok-mount_gate.gate in
    let new = c.sync_named.new.files in
    let was : List g.row.F.Denot = c.deref_mut.result.now in
    let long : length took.objects.items ≡ took.objects.len = sym took.objects.ok.0 in
    let many : length new ≡ took.objects.len = c.sync_named.auto.files ∙ c.deref_mut.ensures.len in
    let o = c.in-Ok-mount_gate.ensures in
    let at_record : OpeningValue g.row.F.Denot g.row.R.Denot = record { gate = gate; files = new; spare = took.spare; storage_key = c.ssk.result; table = c.in-Ok.table; applications = [] } in
    let is : c.new.result ≡ at_record =
    c.new.ensures ∙ ap (λ (l : List g.row.F.Denot). let v : OpeningValue g.row.F.Denot g.row.R.Denot = record { gate = gate; files = l; spare = took.spare; storage_key = c.ssk.result; table = c.in-Ok.table; applications = [] } in v) (refilled took.objects.len took.objects.items new long many) in
    let opening = opening_of state port (state took.dir) (port c.args.bench.card) c.args.keys.now gate new took.spare (object_files state was) c.ssk.result o.opens c.ssk.ensures c.in-Ok.table
    o.current o.idle o.unopened o.unheld (many ∙ c.take_apart-spare.ensures.objects) c.in-Ok-sync_named.ensures in
    subst (IsWholeOpening state port) (sym is)
    (whole_of state port (state took.dir) (port c.args.bench.card) c.args.keys.now gate new took.spare (object_files state was) c.ssk.result o.opens c.ssk.ensures c.in-Ok.table g.met.F.StoreFile.sound opening)

pub returns-in-Ok-sync_named-clause-current : goal.returns-in-Ok-sync_named-clause-current
returns-in-Ok-sync_named-clause-current g c =
    subst (λ (v : OpeningValue g.row.F.Denot g.row.R.Denot). (v.gate.dir.dir.root.format ≡ current_format) × AreCurrent (entries_in v)) (sym c.new.ensures) c.in-Ok-mount_gate.ensures.current

pub returns-in-Ok-sync_named-clause-dir_passed : goal.returns-in-Ok-sync_named-clause-dir_passed
returns-in-Ok-sync_named-clause-dir_passed g c =
    let state = g.F.StoreFile.state in
    let took = c.take_apart-spare.result in
    let o : OpeningValue g.row.F.Denot g.row.R.Denot = c.new.result in
    let here : bench_files state o directory_file ≡ state c.in-Ok-mount_gate.gate.dir.file =
    directory_here state o.spare o.gate.dir.file o.files ∙ ap (λ (v : OpeningValue g.row.F.Denot g.row.R.Denot). state v.gate.dir.file) c.new.ensures in
    subst (λ (s : FileState). FilePassed s (bench_files state o directory_file)) (sym c.take_apart-spare.ensures.dir)
    (subst (FilePassed (state took.dir)) (sym here) c.in-Ok-mount_gate.ensures.passed.file)

pub returns-in-Err-clause-refused : goal.returns-in-Err-clause-refused
returns-in-Err-clause-refused g c =
    let state = g.F.StoreFile.state in
    let port = g.R.RpmbPort.state in
    let took = c.take_apart-spare in
    let broken = c.in-Err.field-0 in
    let left = c.put_together-files in
    let old : List g.row.F.Denot = c.args.bench.files.items in
    let new : List g.row.F.Denot = left.result.items in
    let p0 = port c.args.bench.card in
    let p1 = port broken.card in
    let keys = c.args.keys.now in
    let drew = g.E.Entropy.faults c.args.entropy.now in
    let draws = g.E.Entropy.faults c.mount_gate.new.entropy in
    gate_refused state old new p0 p1 keys drew draws broken.fault
    (record {
      refused = subst (λ (s : FileState). GateRefused s (files_of state new directory_file) p0 p1 keys drew draws broken.fault) (sym took.ensures.dir)
          (subst (λ (s : FileState). GateRefused (state took.result.dir) s p0 p1 keys drew draws broken.fault) (sym left.ensures.dir) c.in-Err.ensures.refused);
      differs = subst (λ (s : FileState). MountDiffers s p0 keys broken.fault) (sym left.ensures.dir) c.in-Err.ensures.differs;
      same = λ file other.
          ap (λ (f : ℕ → FileState). f file) left.ensures.files ∙ others_same state took.result.spare took.result.dir broken.dir took.result.objects.items file other
          ∙ sym (ap (λ (f : ℕ → FileState). f file) took.ensures.files);
    })

pub returns-in-Err-sync_named-clause-refused : goal.returns-in-Err-sync_named-clause-refused
returns-in-Err-sync_named-clause-refused g c =
    let state = g.F.StoreFile.state in
    let port = g.R.RpmbPort.state in
    let took = c.take_apart-spare.result in
    let d = c.close-dir.result.0 in
    let new = c.sync_named.new.files in
    let was : List g.row.F.Denot = c.deref_mut.result.now in
    let long : length took.objects.items ≡ took.objects.len = sym took.objects.ok.0 in
    let many : length new ≡ took.objects.len = c.sync_named.auto.files ∙ c.deref_mut.ensures.len in
    let cause = c.in-Err-sync_named.cause in
    let left : List g.row.F.Denot = c.put_together-files-in-Err-sync_named.result.items in
    let is : files_of state left ≡ numbered_files state took.spare d new =
    c.put_together-files-in-Err-sync_named.ensures.files ∙ ap (λ (l : List g.row.F.Denot). numbered_files state took.spare d l) (refilled took.objects.len took.objects.items new long many) in
    let stops = stops_bench state took.spare took.dir d was new cause c.in-Err-sync_named.ensures in
    sync_refused state c.args.bench.files.items left (port c.args.bench.card) (port c.close-dir.result.1) c.args.keys.now (g.E.Entropy.faults c.args.entropy.now) (g.E.Entropy.faults c.mount_gate.new.entropy) cause
    (subst (λ (f : ℕ → FileState). StopsSyncing f (files_of state left) cause) (sym c.take_apart-spare.ensures.files)
    (subst (λ (l : List g.row.F.Denot). StopsSyncing (numbered_files state took.spare took.dir l) (files_of state left) cause) c.deref_mut.ensures.value
    (subst (λ (f : ℕ → FileState). StopsSyncing (numbered_files state took.spare took.dir was) f cause) (sym is) stops)))

pub returns-in-Err-clause-heard : goal.returns-in-Err-clause-heard
returns-in-Err-clause-heard g c =
    let state = g.F.StoreFile.state in
    let port = g.R.RpmbPort.state in
    let took = c.take_apart-spare in
    let broken = c.in-Err.field-0 in
    let left = c.put_together-files in
    let new : List g.row.F.Denot = left.result.items in
    let p0 = port c.args.bench.card in
    let p1 = port broken.card in
    let keys = c.args.keys.now in
    let drew = g.E.Entropy.faults c.args.entropy.now in
    let draws = g.E.Entropy.faults c.mount_gate.new.entropy in
    subst (λ (s : FileState). BenchHeard s (files_of state new directory_file) p0 p1 keys broken.fault) (sym took.ensures.dir)
    (subst (λ (s : FileState). BenchHeard (state took.result.dir) s p0 p1 keys broken.fault) (sym left.ensures.dir)
    (gate_heard (state took.result.dir) (state broken.dir) p0 p1 keys drew draws broken.fault c.in-Err.ensures.refused c.in-Err.ensures.heard))

pub returns-in_default-clause-heard : goal.returns-in_default-clause-heard
returns-in_default-clause-heard g c = inl refl

pub returns-in-Err-sync_named-clause-heard : goal.returns-in-Err-sync_named-clause-heard
returns-in-Err-sync_named-clause-heard g c =
    let state = g.F.StoreFile.state in
    let port = g.R.RpmbPort.state in
    let gate = c.in-Ok-mount_gate.gate in
    let p0 = port c.args.bench.card in
    let key = rpmb_key c.args.keys.now.huk in
    let card_is : c.close-dir.result.1 ≡ gate.host.port = ap (λ p. p.1) c.close-dir.ensures.gives in
    let read : HasRootRead key p0 (port c.close-dir.result.1) =
    record {
      counter = gate.counter;
      root = gate.dir.dir.root;
      read = subst (λ (r : g.row.R.Denot). IsRootRead key p0 (port r) gate.counter gate.dir.dir.root) (sym card_is) c.in-Ok-mount_gate.ensures.opens.heard;
    } in
    sync_heard (files_of state c.args.bench.files.items directory_file) (files_of state c.put_together-files-in-Err-sync_named.result.items directory_file) p0 (port c.close-dir.result.1) c.args.keys.now (object_files state c.deref_mut.result.now)
    (object_files state c.sync_named.new.files) c.in-Err-sync_named.cause c.in-Err-sync_named.ensures read

pub returns-in-Err-sync_named-clause-counts : goal.returns-in-Err-sync_named-clause-counts
returns-in-Err-sync_named-clause-counts g c =
    let state = g.F.StoreFile.state in
    let port = g.R.RpmbPort.state in
    let gate = c.in-Ok-mount_gate.gate in
    let took = c.take_apart-spare.result in
    let left : List g.row.F.Denot = c.put_together-files-in-Err-sync_named.result.items in
    let first : List g.row.F.Denot = c.args.bench.files.items in
    let p0 = port c.args.bench.card in
    let p1 = port c.close-dir.result.1 in
    let drew = g.E.Entropy.faults c.args.entropy.now in
    let draws = g.E.Entropy.faults c.mount_gate.new.entropy in
    let card_is : c.close-dir.result.1 ≡ gate.host.port = ap (λ p. p.1) c.close-dir.ensures.gives in
    let dir_is : c.close-dir.result.0 ≡ gate.dir.file = ap (λ p. p.0) c.close-dir.ensures.gives in
    let was : files_of state first directory_file ≡ state took.dir = c.take_apart-spare.ensures.dir in
    let now : files_of state left directory_file ≡ state gate.dir.file = c.put_together-files-in-Err-sync_named.ensures.dir ∙ ap state dir_is in
    sync_counts (counts (files_of state first directory_file) p0 drew) (counts (files_of state left directory_file) p1 draws) (object_files state c.deref_mut.result.now)
    (object_files state c.sync_named.new.files) c.in-Err-sync_named.cause c.in-Err-sync_named.ensures
    (none_rose_at (files_of state first directory_file) (files_of state left directory_file) (state took.dir) (state gate.dir.file) p0 p1 (port gate.host.port) drew draws was now (ap port card_is) c.in-Ok-mount_gate.ensures.passed)

pub returns-in-Ok-sync_named-clause-calm : goal.returns-in-Ok-sync_named-clause-calm
returns-in-Ok-sync_named-clause-calm g c = λ calm.
    subst (λ (o : OpeningValue g.row.F.Denot g.row.R.Denot). IsTrue (g.R.RpmbPort.state o.gate.host.port).calm) (sym c.new.ensures) (c.in-Ok-mount_gate.ensures.calm calm)

pub returns-in-Err-sync_named-clause-calm_err : goal.returns-in-Err-sync_named-clause-calm_err
returns-in-Err-sync_named-clause-calm_err g c = λ calm.
    let state = g.F.StoreFile.state in
    let port = g.R.RpmbPort.state in
    let card_is : c.close-dir.result.1 ≡ c.in-Ok-mount_gate.gate.host.port = ap (λ p. p.1) c.close-dir.ensures.gives in (
      subst (λ (r : g.row.R.Denot). IsTrue (port r).calm) (sym card_is) (c.in-Ok-mount_gate.ensures.calm calm),
      sync_not_card (object_files state c.deref_mut.result.now) (object_files state c.sync_named.new.files) c.in-Err-sync_named.cause c.in-Err-sync_named.ensures,
    )

pub returns-in-Err-sync_named-clause-drawn : goal.returns-in-Err-sync_named-clause-drawn
returns-in-Err-sync_named-clause-drawn g c = λ reliable.
    let state = g.F.StoreFile.state in
    sync_not_drawn (object_files state c.deref_mut.result.now) (object_files state c.sync_named.new.files) c.in-Err-sync_named.cause c.in-Err-sync_named.ensures
