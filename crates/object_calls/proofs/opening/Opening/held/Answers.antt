use Rattle.std.proofs.Common.{◌≡◌, ◌∙◌, ap, length, subst, sym}
use Rattle.app_totals.specs.Totals.{objects_of}
use Rattle.app_totals.specs.declared.numbers.Totals.{Totals}
use Rattle.crash_core.specs.Opening.{opening_map, reads_of}
use Rattle.object_calls.specs.OpeningFiles.{numbered_files}
use Rattle.object_calls.specs.Opening.{bench_files, entries_in}
use Rattle.object_calls.proofs.EntryCounting.{length-objects_of}
use Rattle.object_calls.proofs.EntriesOf.{distinct_names}
use Rattle.object_calls.proofs.opening.Opening.held.Goals as goal

pub returns : goal.returns
returns g c =
    let state = g.F.StoreFile.state in
    let i = c.self.inside in
    λ keys.
    subst (λ v. length (objects_of c.args.app (opening_map keys (bench_files state v) (entries_in v))) ≡ c.totals.result.objects) c.self.view_is
    (length-objects_of c.args.app keys (reads_of (numbered_files state i.spare i.gate.dir.file i.files.items)) i.gate.dir.dir.entries (distinct_names i.gate.dir.dir.entries c.self.invariant.0.entries)
    ∙ sym (ap (λ (t : Totals). t.objects) c.totals.ensures.told))
