-- What ties a gate to its history tells under a tamper scenario.
use Rattle.std.proofs.Common.{ℕ, List, Option, Some, None, sym, subst}
use Rattle.dir_records.specs.declared.entry.DirEntry.{DirEntry}
use Rattle.history_seats.specs.Settling.{IsOpenDoubt}
use Rattle.history_seats.specs.Views.{GateView}
use Rattle.core_laws.specs.Answered.{AreAnswered}
use Rattle.core_laws.specs.TamperScenarios.{TamperScenario}
use Rattle.core_laws.specs.Mapped.{IsMappedBoth}
use Rattle.core_laws.specs.Stores.{Store}
use Rattle.core_laws.specs.Ties.{IsReplayDoubt, IsTied, IsTiedDoubt}
use Rattle.crash_core.specs.declared.change.DoubtedChange.{DoubtedChange}
use Rattle.commit_gate.specs.Readings.{AreDoubtsRead}
use Rattle.commit_gate.specs.CoreTies.{TiesTell}

module _ (store : Store) (scenario : TamperScenario) (view : GateView) (entries : List (Option DirEntry)) (counter : ℕ) (answered : AreAnswered store scenario view.all) (mapped : IsMappedBoth store scenario view.decided view.all) where
  doubts_read : (doubt : Option DoubtedChange) → IsTied store view entries counter doubt → AreDoubtsRead store scenario view entries doubt
  doubts_read None tied = tt
  doubts_read (Some d) tied =
      let of : IsTiedDoubt store view entries d = tied.doubt in
      let s : IsReplayDoubt _ entries d = of.stands scenario answered in
      record {
        doubt = s.doubt;
        is_open = s.is_open;
        number = s.number;
        late = of.is_open;
        landed = record {
          matched = of.landed;
          in_step = mapped.landed s.doubt s.is_open (subst (λ (n : ℕ). IsOpenDoubt n view.decided view.all) (sym s.number) of.is_open);
        };
      }

pub ties_tell : TiesTell
ties_tell store scenario view entries counter doubt mounted tied answered mapped = record {
  mounted = mounted;
  counted = tied.counter scenario answered;
  rising = tied.rising scenario answered;
  now = record { matched = record { listed = tied.listed; unique = tied.unique; versions = tied.versions; real = tied.real }; in_step = mapped.now };
  doubts = doubts_read store scenario view entries counter answered mapped doubt tied;
}
