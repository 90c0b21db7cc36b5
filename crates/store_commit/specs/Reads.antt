-- Exchanges with the card at a mount and at a format, whatever the card is: what was sent, what was received, and the verdict on it.
use Rattle.std.specs.Prelude.{◌≡◌, ◌≢◌, ◌⊎◌, ℕ, List, Result, Ok, Err}
use Rattle.tee_ports.specs.declared.failed.Failed.{Failed}
use Rattle.node_image.specs.declared.node.RootRef.{RootRef}
use Rattle.rpmb_frame.specs.declared.frame.Frame.{Frame}
use Rattle.rpmb_card.specs.Protocol.{last_counter}
use Rattle.rpmb_card.specs.Port.{Exchanged, PortState}
use Rattle.rpmb_host.specs.declared.fault.HostFault.{HostFault}
use Rattle.rpmb_host.specs.declared.fault.HostFault.TheVariants.{Failed as NoAnswer, BadFrame, CardResult as RefusedBy}
use Rattle.rpmb_host.specs.Calls.{WriteExchanges, block_wanted, counter_wanted, judged, write_wanted}
use Rattle.rpmb_host.specs.Requests.{block_request, counter_request, write_request}
use Rattle.crash_core.specs.CardBlock.{root_block, root_in}
use Rattle.tee_types.specs.declared.reply.Cause.TheVariants.{Fault}
use Rattle.tee_types.specs.declared.reply.Device.TheVariants.{Card}
use Rattle.store_commit.specs.declared.fault.MountFault.{MountFault}
use Rattle.store_commit.specs.declared.fault.MountFault.TheVariants.{Frame as BadAnswer, CardResult, Failed as DeviceFailed}

-- one exchange, which asks for the counter, and the verdict on what came of it
pub record AsksCounter (key : List ℕ) (old new : PortState) (answer : Result Frame HostFault) : Type 0 where
  pub nonce : List ℕ
  pub outcome : Result (List ℕ) Failed
  pub exchanged : Exchanged old new (counter_request nonce) outcome
  pub judged_so : judged key (counter_wanted nonce) outcome ≡ answer

-- one exchange, which asks for block 0
pub record AsksBlock (key : List ℕ) (old new : PortState) (answer : Result Frame HostFault) : Type 0 where
  pub nonce : List ℕ
  pub outcome : Result (List ℕ) Failed
  pub exchanged : Exchanged old new (block_request 0 nonce) outcome
  pub judged_so : judged key (block_wanted 0 nonce) outcome ≡ answer

-- the exchanges of a write of block 0, and the verdict on the last
pub record AsksWrite (key : List ℕ) (counter : ℕ) (block : List ℕ) (old new : PortState) (answer : Result Frame HostFault) : Type 0 where
  pub outcome : Result (List ℕ) Failed
  pub exchanged : WriteExchanges old new (write_request key 0 counter block) outcome
  pub judged_so : judged key (write_wanted 0 counter) outcome ≡ answer

-- the counter, as a verified answer has it
pub record IsCounterRead (key : List ℕ) (old new : PortState) (counter : ℕ) : Type 0 where
  pub frame : Frame
  pub asks : AsksCounter key old new (Ok frame)
  pub is : frame.counter ≡ counter

-- the same of block 0
pub record IsBlockRead (key : List ℕ) (old new : PortState) (block : List ℕ) : Type 0 where
  pub frame : Frame
  pub asks : AsksBlock key old new (Ok frame)
  pub is : frame.block ≡ block

-- the counter, and then block 0
pub record IsCardRead (key : List ℕ) (old new : PortState) (counter : ℕ) (block : List ℕ) : Type 0 where
  pub between : PortState
  pub first : IsCounterRead key old between counter
  pub second : IsBlockRead key between new block

-- block 0 that was read names that reference
pub record IsRootRead (key : List ℕ) (old new : PortState) (counter : ℕ) (root : RootRef) : Type 0 where
  pub block : List ℕ
  pub read : IsCardRead key old new counter block
  pub named : root_in block ≡ Ok root

-- the answer about the counter was refused, or after it the one about block 0
abbrev pub IsReadRefused : (key : List ℕ) → (old new : PortState) → HostFault → Type 0
IsReadRefused key old new fault =
    AsksCounter key old new (Err fault)
    ⊎ ((between : PortState) × (counter : ℕ) × IsCounterRead key old between counter × AsksBlock key between new (Err fault))

-- block 0 was written, at the counter that was read before, to name the reference
pub record IsRootWritten (key : List ℕ) (old new : PortState) (root : RootRef) (answer : Result Frame HostFault) : Type 0 where
  pub between : PortState
  pub counter : ℕ
  pub read : IsCounterRead key old between counter
  pub unspent : counter ≢ last_counter
  pub asks : AsksWrite key counter (root_block root) between new answer

-- what is said of a fault of the host, where a refusal is one
abbrev pub OfHost : (HostFault → Type 0) → MountFault → Type 0
OfHost Says (BadAnswer fault) = Says (BadFrame fault)
OfHost Says (CardResult result) = Says (RefusedBy result)
OfHost Says (DeviceFailed (Fault Card count)) = Says (NoAnswer count)
OfHost Says fault = Unit {0}
