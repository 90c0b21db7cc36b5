use Rattle.std.proofs.Common.{◌≤◌, ◌-◌, ℕ, ap, get_or, length, subst, sym, arith}
use Rattle.std.specs.Prelude.{slice_set}
use Rattle.disk_model.specs.State.{FileState}
use Rattle.disk_model.specs.Calls.{Rests}
use Rattle.object_calls.specs.OpeningFiles.{object_files}
use Rattle.object_calls.specs.Next.{ShowAnswer}
use Rattle.object_calls.proofs.Files.{object_else, object_get, object_here}
use Rattle.object_calls.proofs.object_walk.show_in.Goals as goal

pub returns-clause-answer : goal.returns-clause-answer
returns-clause-answer g c =
    let state = g.F.StoreFile.state in
    let files = c.args.files.now in
    let e = c.args.wanted.entry in
    let n : ℕ = e.file in
    let x = get_or files (n - 1) c.index-files-place.result in
    let y = c.replace_with.new.dest in
    let form = c.requires.form in
    let upto : n ≤ length files = omega (arith, form.file.1, c.requires.files) in
    subst (λ (s : FileState). ShowAnswer c.args.wanted.tsk s (object_files state (slice_set files (n - 1) y) n) e c.replace_with.result)
    (sym (object_get state files n x form.file.0 upto (ap (λ v. get_or files (n - 1) v) c.index-files-place.is)))
    (subst (λ (s : FileState). ShowAnswer c.args.wanted.tsk (state x) s e c.replace_with.result) (sym (object_here state files n y form.file.0 upto)) c.replace_with.ensures.1)

pub returns-clause-reads : goal.returns-clause-reads
returns-clause-reads g c =
    let state = g.F.StoreFile.state in
    let files = c.args.files.now in
    let n : ℕ = c.args.wanted.entry.file in
    let x = get_or files (n - 1) c.index-files-place.result in
    let y = c.replace_with.new.dest in
    let form = c.requires.form in
    let upto : n ≤ length files = omega (arith, form.file.1, c.requires.files) in
    record {
      rests = subst (λ (s : FileState). Rests s (object_files state (slice_set files (n - 1) y) n))
          (sym (object_get state files n x form.file.0 upto (ap (λ v. get_or files (n - 1) v) c.index-files-place.is)))
          (subst (Rests (state x)) (sym (object_here state files n y form.file.0 upto)) c.replace_with.ensures.0);
      others = λ k one ne. object_else state files n k y form.file.0 ne;
    }
