-- What the settling of a commit in doubt leaves behind the lock.
use Rattle.std.specs.Prelude.{◌≡◌, ◌≤◌, ◌+◌, ◌⊎◌, ℕ, List, Some, None, Result, Ok, Err, IfErr, IsTrue, OnOk}
use Rattle.disk_model.specs.Faults.{Rose}
use Rattle.disk_model.specs.State.{FileState}
use Rattle.rpmb_card.specs.Port.{PortState}
use Rattle.tee_types.specs.declared.reply.Cause.{Cause}
use Rattle.tee_types.specs.declared.reply.Cause.TheVariants.{Fault}
use Rattle.tee_types.specs.declared.reply.Device.TheVariants.{Entropy}
use Rattle.commit_gate.specs.declared.DoubtedChange.{DoubtedChange}
use Rattle.commit_gate.specs.declared.Resolved.{Resolved}
use Rattle.commit_gate.specs.CardCauses.{IsOfFrame}
use Rattle.commit_gate.specs.Causes.{StaysCalm}
use Rattle.commit_gate.specs.Gates.{gate_sides}
use Rattle.commit_gate.specs.Resolving.{IsAnswered, LeavesDoubt, Resolves, ResolvesHolds, StaysDoubted, TellsCounter}
use Rattle.commit_gate.specs.GuardedGates.{GuardedGateValue}
use Rattle.commit_gate.specs.Settled.{ClosesIfLanded, closing_left, view_settled}

module _ {F R : Type 0} (of_file : F → FileState) (of_port : R → PortState) where
  -- One read of the card's counter, with that nonce, gave that answer of the commit in doubt.
  pub record HasResolved (nonce : List ℕ) (d : DoubtedChange) (old new : GuardedGateValue F R) (result : Result Resolved Cause) : Type 0 where
    pub resolves : Resolves (gate_sides of_file of_port old.gate) (gate_sides of_file of_port new.gate) d result
    pub doubt : LeavesDoubt old.gate.doubt new.gate.doubt result
    pub holds : ResolvesHolds d result old.gate.holds new.gate.holds
    pub handles : ClosesIfLanded result old.closing old.gate.open_handles new.gate.open_handles
    pub closing : new.closing ≡ closing_left result old.closing
    pub knows : new.journal.knows ≡ view_settled result old.journal.knows
    pub spare : old.journal.spare ≤ new.journal.spare + 1
    pub names : old.gate.room ≤ new.gate.room
    pub file : of_file new.gate.dir.file ≡ of_file old.gate.dir.file
    pub card : (of_port new.gate.host.port).card ≡ (of_port old.gate.host.port).card
    pub counter : TellsCounter old.gate.host.key old.gate.counter (of_port old.gate.host.port) result
    pub answered : IsAnswered old.gate.host.key old.gate.counter nonce (of_port old.gate.host.port) (of_port new.gate.host.port) result
    pub calm : IsTrue (of_port old.gate.host.port).calm → StaysCalm (of_port old.gate.host.port) (of_port new.gate.host.port) × IfErr result IsOfFrame
    pub passed : OnOk result ((of_port new.gate.host.port).faults ≡ (of_port old.gate.host.port).faults)
    pub cause : IfErr result (StaysDoubted old.gate.host.key old.gate.counter (of_port old.gate.host.port) (of_port new.gate.host.port))

  -- A commit was in doubt, and what became of it is in the history.
  pub record WasResolved (old new : GuardedGateValue F R) : Type 0 where
    pub doubted : DoubtedChange
    pub was : old.gate.doubt ≡ Some doubted
    pub nonce : List ℕ
    pub how : Resolved
    pub resolved : HasResolved nonce doubted old new (Ok how)

  -- none was in doubt, and nothing changed; or it was resolved
  abbrev pub IsSettled : (old new : GuardedGateValue F R) → Type 0
  IsSettled old new = ((old.gate.doubt ≡ None) × (new ≡ old)) ⊎ WasResolved old new

  -- A commit is in doubt still: no nonce could be drawn from a generator that may fail, or one read of the counter did not tell.
  pub record StaysInDoubt (reliable : Type 0) (drew draws : ℕ) (old new : GuardedGateValue F R) (cause : Cause) : Type 0 where
    pub doubted : DoubtedChange
    pub was : old.gate.doubt ≡ Some doubted
    pub why : ((new ≡ old) × Rose drew draws × (cause ≡ Fault Entropy draws) × (reliable → ⊥)) ⊎ ((nonce : List ℕ) × HasResolved nonce doubted old new (Err cause))
