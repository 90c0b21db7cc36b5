use Rattle.std.proofs.Common.{◌≡◌, ◌⊎◌, inl, inr, ⊎_elim, Result, Ok, Err, ◌∙◌, ap, arith}
use Rattle.std.specs.Result.{OnErr, OnOk}
use Rattle.disk_model.specs.State.{FileState}
use Rattle.mem_files.specs.Memory.{file_state}
use Rattle.mem_files.specs.Machine.{begun, wrote}
use Rattle.mem_files.proofs.memory.MemFile.stop_within.Goals as goal

either_way : {T E P Q : Type 0} → (r : Result T E) → OnOk r P → OnErr r Q → P ⊎ Q
either_way (Ok x) p q = inl p
either_way (Err e) p q = inr q

pub returns : goal.returns
returns c =
    let a = file_state c.args.self.now in
    let b = file_state c.count.new.self in
    let left = file_state c.try_write.new.self in
    let begins : b ≡ begun a = c.count.ensures in
    record {
      left = left;
      either = ⊎_elim (λ wrote_it. inl (wrote_it ∙ ap (λ (s : FileState). wrote s c.args.at c.args.from.now) begins)) (λ nothing. inr (nothing ∙ begins))
          (either_way {P = left ≡ wrote b c.args.at c.args.from.now} {Q = left ≡ b} c.try_write.result c.try_write.ensures.ok c.try_write.ensures.err);
      same = c.fail.ensures.counted;
      carried = c.fail.ensures.carried;
      faults = c.fail.ensures.rises;
      written = omega (arith, c.try_write.ensures.counted, ap (λ (s : FileState). s.written) begins);
      stops = c.requires.stops;
    }
