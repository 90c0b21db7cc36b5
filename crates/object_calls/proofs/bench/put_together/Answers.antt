use Rattle.std.proofs.Common.{rules, ◌≡◌, ◌∙◌, ◌++◌, [], ◌∷◌, length, sym, ap}
use Rattle.tee_types.specs.Limits.{directory_file, last_file}
use Rattle.object_calls.specs.OpeningFiles.{files_of}
use Rattle.object_calls.proofs.Files.{whole_bench, whole_directory, whole_numbered}
use Rattle.object_calls.proofs.bench.put_together.Goals as goal

pub returns-clause-files : goal.returns-clause-files
returns-clause-files g c =
    let state = g.F.StoreFile.state in
    let objects = c.args.objects in
    let pushed : c.push.new.self.items ≡ objects.items ++ c.args.dir ∷ [] = search rules in
    let is : c.insert.new.self.items ≡ whole_bench c.args.spare c.args.dir objects.items = c.in-Ok.ensures.items ∙ ap (λ l. c.args.spare ∷ l) pushed in
    let many : length objects.items ≡ last_file = sym objects.ok.0 ∙ c.requires.objects in
    ap (files_of state) is ∙ whole_numbered state c.args.spare c.args.dir objects.items many

pub returns-clause-dir : goal.returns-clause-dir
returns-clause-dir g c =
    let state = g.F.StoreFile.state in
    let objects = c.args.objects in
    let pushed : c.push.new.self.items ≡ objects.items ++ c.args.dir ∷ [] = search rules in
    let is : c.insert.new.self.items ≡ whole_bench c.args.spare c.args.dir objects.items = c.in-Ok.ensures.items ∙ ap (λ l. c.args.spare ∷ l) pushed in
    let many : length objects.items ≡ last_file = sym objects.ok.0 ∙ c.requires.objects in
    ap (λ l. files_of state l directory_file) is ∙ whole_directory state c.args.spare c.args.dir objects.items many
