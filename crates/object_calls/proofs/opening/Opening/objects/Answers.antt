use Rattle.std.proofs.Common.{◌≡◌, ◌∙◌, length, sym, subst}
use Rattle.crash_core.specs.Opening.{opening_map, reads_of}
use Rattle.object_calls.specs.OpeningFiles.{numbered_files}
use Rattle.object_calls.specs.ObjectMaps.{OpensObjectMap}
use Rattle.object_calls.specs.Opening.{OpeningValue, bench_files, entries_in}
use Rattle.object_calls.proofs.Files.{numbered_sound}
use Rattle.object_calls.proofs.EntryCounting.{length-map_of}
use Rattle.object_calls.proofs.EntriesOf.{distinct_names}
use Rattle.object_calls.proofs.ObjectMaps.{opening_sound}
use Rattle.object_calls.proofs.opening.Opening.objects.Goals as goal

pub returns-clause-objects : goal.returns-clause-objects
returns-clause-objects g c =
    let state = g.F.StoreFile.state in
    let i = c.self.inside in
    λ keys.
    subst (λ v. length (opening_map keys (bench_files state v) (entries_in v)) ≡ c.count_entries.result) c.self.view_is
    (length-map_of keys (reads_of (numbered_files state i.spare i.gate.dir.file i.files.items)) i.gate.dir.dir.entries (distinct_names i.gate.dir.dir.entries c.self.invariant.0.entries)
    ∙ sym c.count_entries.ensures)

pub returns-clause-map : goal.returns-clause-map
returns-clause-map g c =
    let state = g.F.StoreFile.state in
    let i = c.self.inside in
    let o : OpeningValue g.row.F.Denot g.row.R.Denot =
    record { gate = i.gate; files = i.files.items; spare = i.spare; storage_key = i.storage_key; table = i.table; applications = i.applications.items } in
    let is = c.self.invariant.0 in
    subst (OpensObjectMap state) c.self.view_is
    (λ keys. opening_sound keys (bench_files state o) (numbered_sound state g.met.F.StoreFile.sound i.spare i.gate.dir.file i.files.items) (entries_in o) is.entries is.identified)
