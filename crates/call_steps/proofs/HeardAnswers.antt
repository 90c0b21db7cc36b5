-- The frame that a read of the card's counter heard, where it did not tell what became of a commit in doubt.
use Rattle.std.proofs.Common.{◌≡◌, ℕ, List, Result, Ok, Err, refl, sym, subst}
use Rattle.rpmb_card.specs.Port.{Exchanged, PortState}
use Rattle.rpmb_host.specs.Calls.{counter_wanted, judged, received, told}
use Rattle.rpmb_host.specs.Requests.{counter_request}
use Rattle.rpmb_host.specs.declared.fault.HostFault.{HostFault}
use Rattle.tee_types.specs.declared.reply.Cause.{Cause}
use Rattle.commit_gate.specs.Heard.{HeardCause}
use Rattle.commit_gate.specs.Resolving.{IsAnswered, MeantBy}
use Rattle.commit_gate.proofs.Hearing.{neither_heard, refused_counter, some_read}

pub answered_heard : (key : List ℕ) (counter : ℕ) (nonce : List ℕ) (old new : PortState) (cause : Cause) → IsAnswered key counter nonce old new (Err cause) → HeardCause key counter new cause
answered_heard key counter nonce old new cause a = by_read a.read a.exchanged a.judged_so a.meant
  where
    by_read : (read : Result ℕ HostFault) → Exchanged old new (counter_request nonce) (received new read)
        → read ≡ told (λ f. f.counter) (judged key (counter_wanted nonce) (received new read)) → MeantBy counter read (Err cause) → HeardCause key counter new cause
    by_read (Ok found) x judged_so meant =
        subst (HeardCause key counter new) (sym meant.2)
        (neither_heard key counter found nonce new meant.0 meant.1 judged_so (some_read old new (counter_request nonce) (received {A = ℕ} new (Ok found)) x refl))
    by_read (Err fault) x judged_so meant =
        refused_counter key counter nonce new fault cause meant judged_so (some_read old new (counter_request nonce) (received {A = ℕ} new (Err fault)) x)
