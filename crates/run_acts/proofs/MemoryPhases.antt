-- Files in no call of which memory ran out.
use Rattle.std.proofs.Common.{◌≡◌, ◌∙◌, ℕ, ap}
use Rattle.disk_model.specs.State.{FileState}
use Rattle.run_acts.specs.Benches.{BenchState, HadMemory}
use Rattle.run_acts.specs.Disarming.{Disarms}

-- to remove arms starves no file
pub fed_disarmed : (old closed new : BenchState) → ((file : ℕ) → (closed.files file).starved ≡ (old.files file).starved) → Disarms closed new → HadMemory old new
fed_disarmed old closed new same disarms file = ap (λ (f : FileState). f.starved) (disarms.files file) ∙ same file
