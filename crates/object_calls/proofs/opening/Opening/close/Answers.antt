use Rattle.std.proofs.Common.{◌≡◌, ◌∙◌, ap, subst}
use Rattle.store_commit.specs.Gates.{DoubtStands, gate_sides}
use Rattle.object_calls.specs.Begins.{IsWholeOpening}
use Rattle.object_calls.specs.Opening.{OpeningValue, bench_files}
use Rattle.object_calls.specs.OpeningFiles.{files_of, numbered_files}
use Rattle.object_calls.proofs.Openings.{whole_opening}
use Rattle.object_calls.proofs.opening.Opening.close.Goals as goal

pub returns-clause-files : goal.returns-clause-files
returns-clause-files g c =
    let state = g.F.StoreFile.state in
    let i = c.self.inside in
    subst (λ (v : OpeningValue g.row.F.Denot g.row.R.Denot). files_of state c.put_together-files.result.items ≡ bench_files state v) c.self.view_is
    (c.put_together-files.ensures.files ∙ ap (λ (d : g.row.F.Denot). numbered_files state i.spare d i.files.items) (ap (λ p. p.0) c.close-dir.ensures.gives))

pub returns-clause-opens : goal.returns-clause-opens
returns-clause-opens g c =
    let state = g.F.StoreFile.state in
    let port = g.R.RpmbPort.state in
    let i = c.self.inside in
    let o : OpeningValue g.row.F.Denot g.row.R.Denot = record { gate = i.gate; files = i.files.items; spare = i.spare; storage_key = i.storage_key; table = i.table; applications = i.applications.items } in
    let settled = subst (DoubtStands (gate_sides state port i.gate)) c.self.invariant.0.idle c.close-dir.ensures.stands in
    subst (IsWholeOpening state port) c.self.view_is (whole_opening state port g.met.F.StoreFile.sound o settled c.self.invariant.0)
