-- What a call of the host makes of its exchanges.
use Rattle.std.specs.Prelude.{ℕ, Bool, true, false, ◌≡◌, ◌⊎◌, ◌+◌, List, Some, None, Result, Ok, Err, IsErr}
use Rattle.std.specs.Result.{result_map_both}
use Rattle.tee_ports.specs.declared.failed.Failed.{Failed}
use Rattle.tee_ports.specs.Faults.{Rose}
use Rattle.rpmb_frame.specs.declared.frame.Frame.{Frame}
use Rattle.rpmb_card.specs.Port.{PortState, Exchanged, last_heard}
use Rattle.rpmb_card.specs.Protocol.{counter_read_kind, block_read_kind, block_written_kind}
use Rattle.rpmb_host.specs.declared.fault.HostFault.{HostFault}
use Rattle.rpmb_host.specs.declared.fault.HostFault.TheVariants.{Failed as HostFailed}
use Rattle.rpmb_host.specs.declared.verdict.Wanted.{Wanted}
use Rattle.rpmb_host.specs.Requests.{result_request}
use Rattle.rpmb_host.specs.Verdict.{verdict}

-- a host: its port and its key
pub record HostState (R : Type 0) : Type 0 where
  pub port : R
  pub key : List ℕ

-- what came of a call's last exchange: a failure, or the frame that was heard last
abbrev pub fault_received : PortState → HostFault → Result (List ℕ) Failed
fault_received port (HostFailed count) = Err (record { count = count })
fault_received port _ = Ok (last_heard port)

abbrev pub received : {A : Type 0} → PortState → Result A HostFault → Result (List ℕ) Failed
received port (Ok value) = Ok (last_heard port)
received port (Err fault) = fault_received port fault

-- what a call makes of it
abbrev pub judged : (key : List ℕ) → Wanted → Result (List ℕ) Failed → Result Frame HostFault
judged key wanted (Ok answer) = verdict key wanted answer
judged key wanted (Err failed) = Err (HostFailed failed.count)

abbrev pub told : {A : Type 0} → (Frame → A) → Result Frame HostFault → Result A HostFault
told field answer = result_map_both field (λ fault. fault) answer

-- a failure raised the count of faults, and carries it; any other answer left it
abbrev pub FaultCounts : PortState → PortState → HostFault → Type 0
FaultCounts old new (HostFailed count) = Rose old.faults new.faults × (count ≡ new.faults)
FaultCounts old new _ = new.faults ≡ old.faults

abbrev pub Counts : {A : Type 0} → PortState → PortState → Result A HostFault → Type 0
Counts old new (Ok value) = new.faults ≡ old.faults
Counts old new (Err fault) = FaultCounts old new fault

-- an exchange failed
abbrev pub is_failure : HostFault → Bool
is_failure (HostFailed count) = true
is_failure _ = false

abbrev pub has_failed : {A : Type 0} → Result A HostFault → Bool
has_failed (Ok value) = false
has_failed (Err fault) = is_failure fault

-- the wanted answers
abbrev pub counter_wanted : (nonce : List ℕ) → Wanted
counter_wanted nonce = record { kind = counter_read_kind; nonce = Some nonce; counter = None; address = None }

abbrev pub block_wanted : ℕ → (nonce : List ℕ) → Wanted
block_wanted address nonce = record { kind = block_read_kind; nonce = Some nonce; counter = None; address = Some address }

abbrev pub write_wanted : (address counter : ℕ) → Wanted
write_wanted address counter =
    record { kind = block_written_kind; nonce = None; counter = Some (counter + 1); address = Some address }

-- the exchanges of a write: the write, and where it was answered, whatever the answer, one read of its result
abbrev pub WriteExchanges : PortState → PortState → (write : List ℕ) → Result (List ℕ) Failed → Type 0
WriteExchanges old new write outcome =
    (IsErr outcome × Exchanged old new write outcome)
    ⊎ ((between : PortState) × (answer : List ℕ) × Exchanged old between write (Ok answer)
    × Exchanged between new result_request outcome)
