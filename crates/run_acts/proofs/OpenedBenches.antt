-- What was opened, or not, kept the files of objects.
use Rattle.std.proofs.Common.{◌≡◌, ◌∙◌, ℕ, List, true, Result, Ok, Err, subst}
use Rattle.std.specs.Prelude.{MatchResult}
use Rattle.htree_file.specs.Answers.{FilePassed}
use Rattle.htree_file.proofs.Causes.{passed_then}
use Rattle.hmac_keys.specs.declared.Keys.{Keys}
use Rattle.object_calls.specs.declared.bench.Bench.{Bench}
use Rattle.object_calls.specs.declared.bench.Halted.{Halted}
use Rattle.run_acts.specs.Benches.{BenchState, HasPassed, KeepsObjectFiles}
use Rattle.run_acts.proofs.MountedBenches.{each_file}
use Rattle.run_acts.proofs.ShownFiles.{same_passed}
use Rattle.run_acts.specs.Opens.{FormsBench, IsNotFormed, OpensBench, ReadsBlock, StopsOpening, is_blank, found, made, unformed}

pub opens_keeps : (keys : Keys) (old new : BenchState) → OpensBench keys old new → KeepsObjectFiles old new
opens_keeps keys old new (found block some read) file from = read.files file
opens_keeps keys old new (made block between blank read forms) file from = forms.others file from ∙ read.files file

pub opens_passed : (keys : Keys) (old new : BenchState) → OpensBench keys old new → HasPassed old new
opens_passed keys old new (found block some read) = record { files = λ file. same_passed (old.files file) (new.files file) (read.files file); card = read.passed }
opens_passed keys old new (made block between blank read forms) = record {
  files = λ file. passed_then (old.files file) (between.files file) (new.files file) (same_passed (old.files file) (between.files file) (read.files file))
      (each_file (λ k. FilePassed (between.files k) (new.files k)) forms.dir_passed (λ k from. same_passed (between.files k) (new.files k) (forms.others k from)) file);
  card = forms.card_passed ∙ read.passed;
}

-- after the block was read as zero, the format's answer is the whole one's
pub formed_answer : {F R : Type 0} (view : Bench F R → BenchState) (keys : Keys) (old between : BenchState) (block : List ℕ) (drew drawn draws : ℕ) (r : Result (Bench F R) (Halted F R))
    → is_blank block ≡ true → ReadsBlock keys old between block → drawn ≡ drew
    → MatchResult r (λ b. FormsBench keys between (view b)) (λ h. IsNotFormed keys between (view h.bench) drawn draws h.fault)
    → MatchResult r (λ b. OpensBench keys old (view b)) (λ h. StopsOpening keys old (view h.bench) drew draws h.fault)
formed_answer view keys old between block drew drawn draws (Ok b) blank read same answer = made block between blank read answer
formed_answer view keys old between block drew drawn draws (Err h) blank read same answer =
    unformed block between blank read (subst (λ (n : ℕ). IsNotFormed keys between (view h.bench) n draws h.fault) same answer)
