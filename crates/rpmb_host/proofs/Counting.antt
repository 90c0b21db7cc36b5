-- Faults and calm over the exchanges of a call.
use Rattle.std.proofs.Common.{◌≡◌, false, List, ℕ, Result, Ok, Err, IsTrue, inl, inr, refl, ◌∙◌}
use Rattle.rpmb_card.specs.Port.{PortState, Exchanged}
use Rattle.rpmb_host.specs.declared.fault.HostFault.{HostFault}
use Rattle.rpmb_host.specs.declared.fault.HostFault.TheVariants.{Failed as HostFailed, BadFrame, CardResult, Spent}
use Rattle.rpmb_host.specs.Requests.{result_request}
use Rattle.rpmb_host.specs.Calls.{Counts, WriteExchanges, has_failed, received}

pub exchange_counts : {A : Type 0} (old new : PortState) (frame : List ℕ) (r : Result A HostFault) → Exchanged old new frame (received new r) → Counts old new r
exchange_counts old new frame (Ok value) e = e.passed
exchange_counts old new frame (Err (HostFailed count)) e = (e.rose, e.carried)
exchange_counts old new frame (Err (BadFrame fault)) e = e.passed
exchange_counts old new frame (Err (CardResult result)) e = e.passed
exchange_counts old new frame (Err Spent) e = e.passed

pub exchange_calm : {A : Type 0} (old new : PortState) (frame : List ℕ) (r : Result A HostFault) → Exchanged old new frame (received new r)
    → IsTrue old.calm → (has_failed r ≡ false) × IsTrue new.calm
exchange_calm old new frame (Ok value) e calm = (refl, e.stays_calm calm)
exchange_calm old new frame (Err (HostFailed count)) e calm = let impossible = e.calm calm in absurd (cc)
exchange_calm old new frame (Err (BadFrame fault)) e calm = (refl, e.stays_calm calm)
exchange_calm old new frame (Err (CardResult result)) e calm = (refl, e.stays_calm calm)
exchange_calm old new frame (Err Spent) e calm = (refl, e.stays_calm calm)

-- the count before an exchange that left it
counts_before : {A : Type 0} (old between new : PortState) (r : Result A HostFault) → between.faults ≡ old.faults → Counts between new r → Counts old new r
counts_before old between new (Ok value) same counts = counts ∙ same
counts_before old between new (Err (HostFailed count)) same counts = rw same at counts
counts_before old between new (Err (BadFrame fault)) same counts = counts ∙ same
counts_before old between new (Err (CardResult result)) same counts = counts ∙ same
counts_before old between new (Err Spent) same counts = counts ∙ same

pub write_counts : {A : Type 0} (old new : PortState) (write : List ℕ) (r : Result A HostFault) → WriteExchanges old new write (received new r) → Counts old new r
write_counts old new write r (inl one) = exchange_counts old new write r one.1
write_counts old new write r (inr two) =
    counts_before old two.0 new r two.2.passed (exchange_counts two.0 new result_request r two.3)

pub write_calm : {A : Type 0} (old new : PortState) (write : List ℕ) (r : Result A HostFault) → WriteExchanges old new write (received new r)
    → IsTrue old.calm → (has_failed r ≡ false) × IsTrue new.calm
write_calm old new write r (inl one) calm = exchange_calm old new write r one.1 calm
write_calm old new write r (inr two) calm = exchange_calm two.0 new result_request r two.3 (two.2.stays_calm calm)
