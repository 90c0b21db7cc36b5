use Rattle.std.proofs.Common.{◌≡◌, ◌∙◌, ◌<◌, ◌+◌, ◌++◌, ◌∷◌, [], ℕ, List, Some, length, length-append, ap, subst, sym, arith}
use Rattle.std.specs.Prelude.{slice_get}
use Rattle.disk_model.specs.State.{FileState}
use Rattle.object_calls.specs.OpeningFiles.{files_of}
use Rattle.object_calls.proofs.Files.{files_get}
use Rattle.run_acts.proofs.SavedImages.{image_more}
use Rattle.run_acts.proofs.alterations.save_all.Goals as goal

pub loop-file-preserved : goal.loop-file-preserved
loop-file-preserved g c =
    let state = g.F.StoreFile.state in
    let files = c.args.files.now in
    let images : List (List ℕ) = c.loop-file.images.items in
    let image : List ℕ = c.in_ok-save.field-0 in
    let item = c.file-item.result in
    let reads : ℕ → List ℕ = λ k. (files_of state files k).reads in
    let long : length images ≡ c.loop-file.file-index = c.loop-file.invariant.count in
    let read : image ≡ reads (length images) =
    c.in_ok-save.ensures ∙ ap (λ (s : FileState). s.reads) (sym (files_get state files c.loop-file.file-index item c.loop-file-test.true c.file-item.is)) ∙ ap reads (sym long) in
    let pushed : c.push.new.self.items ≡ images ++ image ∷ [] = c.in_ok-push.ensures.items in
    let more : length (images ++ image ∷ []) ≡ length images + 1 = length-append images (image ∷ []) in
    record {
      count = ap length pushed ∙ more ∙ omega (arith, long);
      each = subst (λ (i : List (List ℕ)). (k : ℕ) → k < length i → slice_get i k ≡ Some (reads k)) (sym pushed)
          (λ k lt. image_more reads images image c.loop-file.invariant.each read k (omega (arith, lt, more)));
    }
