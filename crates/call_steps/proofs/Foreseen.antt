-- What is told of a call that is forecast.
use Rattle.std.proofs.Common.{◌≡◌, ℕ, Option, None, Result, Ok, Err, IsErr, subst}
use Rattle.disk_model.specs.State.{FileState}
use Rattle.rpmb_card.specs.Port.{PortState}
use Rattle.tee_types.specs.declared.call.Call.{Call}
use Rattle.app_totals.specs.declared.numbers.Forecast.{Forecast}
use Rattle.core_laws.specs.Stores.{Store}
use Rattle.core_laws.specs.Ties.{IsTied}
use Rattle.commit_gate.specs.CallerSessions.{CallerSession}
use Rattle.commit_gate.specs.GuardedGates.{GateInvariant, GuardedGateValue}
use Rattle.commit_gate.specs.declared.DoubtedChange.{DoubtedChange}
use Rattle.commit_gate.specs.declared.placed_reply.PlacedReply.{PlacedReply}
use Rattle.call_steps.specs.Foreseen.{AreRisingAt, Forecasts, HasNoOpenDoubt}
use Rattle.call_steps.specs.GateServed.{ServesAlone}

-- the names of the machine's objects rise
pub names-rise : {F R : Type 0} (store : Store) (v : GuardedGateValue F R) → GateInvariant store v.gate v.journal.knows v.closing → AreRisingAt store v.journal.knows.all
names-rise store v guarded = guarded.tied.rising

-- no commit of the history may land while the gate has none in doubt
pub none-lands : {F R : Type 0} (store : Store) (v : GuardedGateValue F R) → GateInvariant store v.gate v.journal.knows v.closing → v.gate.doubt ≡ None → HasNoOpenDoubt v.journal.knows
none-lands store v guarded idle =
    let tied : IsTied store v.journal.knows v.gate.dir.dir.entries v.gate.counter None =
    subst (λ (o : Option DoubtedChange). IsTied store v.journal.knows v.gate.dir.dir.entries v.gate.counter o) idle guarded.tied in
    tied.doubt

module _ {E F R : Type 0} (of_file : F → FileState) (of_port : R → PortState) (store : Store) (call : Call) (old new : GuardedGateValue F R) (before after : CallerSession E) (reliable : Type 0) (drew draws : ℕ) where
  -- memory ran out
  pub starved-first : {X : Type 0} (result : Result (Result Forecast PlacedReply) X) → IsErr result → (e : X) → ServesAlone of_file of_port reliable drew draws {X = X} store call old new before after (Err e)
      → Forecasts of_file of_port store call old new before after {X = X} reliable drew draws result
  starved-first (Ok found) is e unserved = absurd (cc (is))
  starved-first (Err none) is e unserved = unserved
