use Rattle.std.proofs.Common.{◌∙◌, ℕ, sym, ap, subst}
use Rattle.disk_model.specs.State.{FileState}
use Rattle.tee_types.specs.Limits.{directory_file}
use Rattle.store_commit.specs.Causes.{counts}
use Rattle.store_commit.specs.Counts.{NoneRose}
use Rattle.store_commit.specs.Formats.{FormatGoesOn, Formats, IsFormatWritten}
use Rattle.object_calls.specs.OpeningFiles.{files_of}
use Rattle.object_calls.proofs.Files.{others_same}
use Rattle.object_calls.proofs.FormedBench.{mounts_none}
use Rattle.object_calls.proofs.formatting.format.Goals as goal

pub returns-in-Ok-clause-made : goal.returns-in-Ok-clause-made
returns-in-Ok-clause-made g c =
    subst (λ (s : FileState). Formats s (g.R.RpmbPort.state c.args.bench.card) (g.R.RpmbPort.state c.in-Ok.card) c.args.keys.now) (sym c.put_together-files.ensures.dir)
    c.in-Ok.ensures.made

pub returns-in-Ok-clause-mounts : goal.returns-in-Ok-clause-mounts
returns-in-Ok-clause-mounts g c =
    mounts_none g.F.StoreFile.state c.put_together-files.result.items (g.R.RpmbPort.state c.args.bench.card) (g.R.RpmbPort.state c.in-Ok.card) c.args.keys.now
    (subst (λ (s : FileState). Formats s (g.R.RpmbPort.state c.args.bench.card) (g.R.RpmbPort.state c.in-Ok.card) c.args.keys.now) (sym c.put_together-files.ensures.dir)
    c.in-Ok.ensures.made)

pub returns-in-Ok-clause-written : goal.returns-in-Ok-clause-written
returns-in-Ok-clause-written g c =
    subst (λ (s : FileState). IsFormatWritten s (g.R.RpmbPort.state c.args.bench.card) (g.R.RpmbPort.state c.in-Ok.card) c.args.keys.now) (sym c.put_together-files.ensures.dir)
    c.in-Ok.ensures.written

pub returns-in-Ok-clause-passed : goal.returns-in-Ok-clause-passed
returns-in-Ok-clause-passed g c =
    let state = g.F.StoreFile.state in
    let port = g.R.RpmbPort.state in
    let drew = g.E.Entropy.faults c.args.entropy.now in
    let draws = g.E.Entropy.faults c.format_parts.new.entropy in
    subst (λ (s : FileState). NoneRose (counts s (port c.args.bench.card) drew) (counts (files_of state c.put_together-files.result.items directory_file) (port c.in-Ok.card) draws)) (sym c.take_apart-spare.ensures.dir)
    (subst (λ (s : FileState). NoneRose (counts (state c.take_apart-spare.result.dir) (port c.args.bench.card) drew) (counts s (port c.in-Ok.card) draws)) (sym c.put_together-files.ensures.dir)
    c.in-Ok.ensures.passed)

pub returns-in-Ok-clause-goes_on : goal.returns-in-Ok-clause-goes_on
returns-in-Ok-clause-goes_on g c =
    let state = g.F.StoreFile.state in
    let port = g.R.RpmbPort.state in
    subst (λ (s : FileState). FormatGoesOn s (files_of state c.put_together-files.result.items directory_file) (port c.args.bench.card) (port c.in-Ok.card)) (sym c.take_apart-spare.ensures.dir)
    (subst (λ (s : FileState). FormatGoesOn (state c.take_apart-spare.result.dir) s (port c.args.bench.card) (port c.in-Ok.card)) (sym c.put_together-files.ensures.dir)
    c.in-Ok.ensures.goes_on)

pub returns-in-Ok-clause-others : goal.returns-in-Ok-clause-others
returns-in-Ok-clause-others g c = λ file other.
    let took = c.take_apart-spare in
    ap (λ (f : ℕ → FileState). f file) c.put_together-files.ensures.files ∙ others_same g.F.StoreFile.state took.result.spare took.result.dir c.in-Ok.dir took.result.objects.items file other
    ∙ sym (ap (λ (f : ℕ → FileState). f file) took.ensures.files)

pub returns-in-Err-clause-others_err : goal.returns-in-Err-clause-others_err
returns-in-Err-clause-others_err g c = λ file other.
    let took = c.take_apart-spare in
    ap (λ (f : ℕ → FileState). f file) c.put_together-files-in-Err.ensures.files ∙ others_same g.F.StoreFile.state took.result.spare took.result.dir c.in-Err.field-0.dir took.result.objects.items file other
    ∙ sym (ap (λ (f : ℕ → FileState). f file) took.ensures.files)
