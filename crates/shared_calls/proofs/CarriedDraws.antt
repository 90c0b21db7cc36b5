-- The counts that replies carry for a session's entropy.
use Rattle.std.proofs.Common.{[], ℕ, List, subst, sym}
use Rattle.serial_calls.specs.CallerSessions.{CallerSession}
use Rattle.disk_model.specs.State.{FileState}
use Rattle.hmac_keys.specs.KeyTable.{rpmb_key}
use Rattle.serial_calls.specs.declared.PlacedReply.{PlacedReply}
use Rattle.serial_calls.specs.GuardedGates.{GuardedGateValue}
use Rattle.serial_calls.specs.ObjectCommits.{IsCommitted}
use Rattle.rpmb_card.specs.Port.{PortState}
use Rattle.serial_calls.specs.declared.EntryChange.{EntryChange}
use Rattle.serial_calls.specs.Stores.{Store}
use Rattle.tee_types.specs.declared.call.Call.{Call}
use Rattle.tee_types.specs.declared.reply.Cause.TheVariants.{CardResult, Fault, Frame}
use Rattle.tee_types.specs.declared.reply.Device.TheVariants.{Card, Dir, Entropy, File}
use Rattle.tee_types.specs.declared.reply.Reply.{Reply}
use Rattle.tee_types.specs.declared.reply.Reply.TheVariants.{NotAvailable}
use Rattle.serial_calls.specs.Devices.{AccusesRightly, Devices, devices_of}
use Rattle.serial_calls.specs.ServeReady.{KnowsCard}
use Rattle.serial_calls.proofs.CommittedCalls.{end_accuses}
use Rattle.shared_calls.specs.SharedCounts.{CarriesDraws}

-- as it accuses rightly
pub carries-accused : (key : List ℕ) (d0 d1 : Devices) (reply : Reply) → AccusesRightly key d0 d1 reply → CarriesDraws d0.draws d1.draws reply
carries-accused key d0 d1 (NotAvailable (Fault Entropy count)) accuses = accuses
carries-accused key d0 d1 (NotAvailable (Fault Dir count)) accuses = tt
carries-accused key d0 d1 (NotAvailable (Fault Card count)) accuses = tt
carries-accused key d0 d1 (NotAvailable (Fault (File n) count)) accuses = tt
carries-accused key d0 d1 (NotAvailable (Frame fault)) accuses = tt
carries-accused key d0 d1 (NotAvailable (CardResult result)) accuses = tt
carries-accused key d0 d1 reply accuses = tt

-- to a commit
pub carries-committed : {F R E : Type 0} (of_file : F → FileState) (of_port : R → PortState) (draws : E → ℕ) (store : Store) (old new : GuardedGateValue F R) (file : ℕ) (was now : CallerSession E) (call : Call) (own : Reply)
    (change : EntryChange) (Reliable : Type 0) (answer : PlacedReply) → ((d0 d1 : Devices) → AccusesRightly (rpmb_key store.keys.huk) d0 d1 own)
    → KnowsCard (of_port old.gate.host.port) old.gate.host.key (rpmb_key store.keys.huk) old.gate.counter
    → IsCommitted of_file of_port store old new file was now call own change Reliable (draws was.entropy) (draws now.entropy) answer
    → CarriesDraws (draws was.entropy) (draws now.entropy) answer.reply
carries-committed of_file of_port draws store old new file was now call own change Reliable answer owns known c =
    let key : List ℕ = rpmb_key store.keys.huk in
    let d0 : Devices = devices_of of_file of_port old.gate [] (draws was.entropy) in
    let d1 : Devices = devices_of of_file of_port new.gate [] (draws now.entropy) in
    carries-accused key d0 d1 answer.reply
    (subst (AccusesRightly key d0 d1) (sym c.reply) (end_accuses of_file of_port draws old new [] [] was now key known c.end own c.gate.counts_are c.gate.cause c.gate.heard (owns d0 d1)))
