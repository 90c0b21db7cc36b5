use Rattle.std.proofs.Common.{◌≡◌, ◌∙◌, length, ap, arith}
use Rattle.tee_types.specs.Limits.{directory_file, last_file}
use Rattle.object_calls.specs.OpeningFiles.{files_of}
use Rattle.object_calls.proofs.Files.{taken_apart, whole_bench, whole_directory, whole_numbered}
use Rattle.object_calls.proofs.bench.take_apart.Goals as goal

pub returns-clause-files : goal.returns-clause-files
returns-clause-files g c =
    let state = g.F.StoreFile.state in
    let kept = c.pop.new.self in
    let objects = c.remove-spare.new.self in
    let spare = c.remove-spare.result in
    let dir = c.in-Some.dir in
    let is : c.args.files.items ≡ whole_bench spare dir objects.items =
    taken_apart c.args.files.items kept.items objects.items spare dir c.in-Some.ensures.items (omega (arith, kept.ok.0, c.remove-spare.ensures.len)) c.remove-spare.ensures.value c.remove-spare.ensures.items in
    let many : length objects.items ≡ last_file = omega (arith, objects.ok.0, c.remove-spare.ensures.len, c.in-Some.ensures.cases, c.requires) in
    ap (files_of state) is ∙ whole_numbered state spare dir objects.items many

pub returns-clause-dir : goal.returns-clause-dir
returns-clause-dir g c =
    let state = g.F.StoreFile.state in
    let kept = c.pop.new.self in
    let objects = c.remove-spare.new.self in
    let spare = c.remove-spare.result in
    let dir = c.in-Some.dir in
    let is : c.args.files.items ≡ whole_bench spare dir objects.items =
    taken_apart c.args.files.items kept.items objects.items spare dir c.in-Some.ensures.items (omega (arith, kept.ok.0, c.remove-spare.ensures.len)) c.remove-spare.ensures.value c.remove-spare.ensures.items in
    let many : length objects.items ≡ last_file = omega (arith, objects.ok.0, c.remove-spare.ensures.len, c.in-Some.ensures.cases, c.requires) in
    ap (λ l. files_of state l directory_file) is ∙ whole_directory state spare dir objects.items many
