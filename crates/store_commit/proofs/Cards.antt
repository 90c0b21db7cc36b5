-- What reading the card tells, and why it is refused.
use Rattle.std.proofs.Common.{◌≡◌, ◌≢◌, ◌∙◌, ◌+◌, ◌==◌, ℕ, List, Option, Some, Result, Ok, Err, false, if◌then◌else◌, refl, sym, ap, subst}
use Rattle.disk_model.specs.Faults.{Rose}
use Rattle.rpmb_card.specs.Protocol.{done_result, last_counter}
use Rattle.rpmb_card.specs.Card.{CardState, given_result}
use Rattle.rpmb_card.specs.Port.{PortState}
use Rattle.rpmb_host.specs.Honest.{HasCard, card_write}
use Rattle.rpmb_host.specs.Calls.{Counts, has_failed}
use Rattle.rpmb_host.specs.declared.fault.HostFault.{HostFault}
use Rattle.rpmb_host.specs.declared.fault.HostFault.TheVariants.{Failed as NoAnswer, BadFrame, CardResult as RefusedBy, Spent as IsSpent}
use Rattle.tee_types.specs.declared.reply.Cause.{Cause}
use Rattle.tee_types.specs.declared.reply.Cause.TheVariants.{Fault, Frame as OfFrame, CardResult as OfResult}
use Rattle.tee_types.specs.declared.reply.Device.{Device}
use Rattle.tee_types.specs.declared.reply.Device.TheVariants.{Dir, File, Card, Entropy}
use Rattle.store_commit.specs.declared.fault.MountFault.{MountFault}
use Rattle.store_commit.specs.declared.fault.MountFault.TheVariants.{NoStore, CardBlock, Directory, Frame, CardResult, Failed, Spent, NoMemory, OldFormat}
use Rattle.store_commit.specs.Mounts.{CardRefused, NoCardOf, host_answer}
use Rattle.store_commit.proofs.CardWrites.{write_done}

-- the port's card is told as before
pub has_still : (p q : PortState) (key k : List ℕ) (card : CardState) → q.card ≡ p.card → k ≡ key → HasCard p key card → HasCard q k card
has_still p q key k card stays same has = record { told = stays ∙ has.told; keyed = has.keyed ∙ ap (λ (l : List ℕ). let o : Option (List ℕ) = Some l in o) (sym same) }

-- a refusal of the host
pub host_refused : (old new : PortState) (key : List ℕ) (drew draws : ℕ) (fault : HostFault) (A : Type 0) (told : CardState → Result A HostFault) → ((card : CardState) → HasCard old key card → (x : A) × (told card ≡ Ok x))
    → Counts {A = A} old new (Err fault) → ((card : CardState) → HasCard old key card → has_failed {A = A} (Err fault) ≡ false → Err fault ≡ told card)
    → fault ≢ IsSpent → CardRefused old new key drew draws (host_answer fault)
host_refused old new key drew draws (NoAnswer count) A told ok counts honest unspent = counts
host_refused old new key drew draws (BadFrame fault) A told ok counts honest unspent = λ card has. absurd (cc (honest card has refl, (ok card has).1))
host_refused old new key drew draws (RefusedBy result) A told ok counts honest unspent = λ card has. absurd (cc (honest card has refl, (ok card has).1))
host_refused old new key drew draws IsSpent A told ok counts honest unspent = absurd (unspent refl)

-- a later refusal, where the counts and the card were as before
pub refused_then : (p q r : PortState) (key k : List ℕ) (drew between draws : ℕ) (fault : MountFault) → q.faults ≡ p.faults → q.card ≡ p.card → k ≡ key → between ≡ drew
    → CardRefused q r k between draws fault → CardRefused p r key drew draws fault
refused_then p q r key k drew between draws fault faults card same drawn refused = by_fault fault refused
  where
    no_card : NoCardOf q k → NoCardOf p key
    no_card none card' has = none card' (has_still p q key k card' card same has)

    by_device : (device : Device) (count : ℕ) → CardRefused q r k between draws (Failed (Fault device count)) → CardRefused p r key drew draws (Failed (Fault device count))
    by_device Card count c = (subst (λ (n : ℕ). Rose n r.faults) faults c.0, c.1)
    by_device Entropy count c = (subst (λ (n : ℕ). Rose n draws) drawn c.0, c.1)
    by_device Dir count c = absurd c
    by_device (File n) count c = absurd c

    by_cause : (cause : Cause) → CardRefused q r k between draws (Failed cause) → CardRefused p r key drew draws (Failed cause)
    by_cause (Fault device count) c = by_device device count c
    by_cause (OfFrame f) c = absurd c
    by_cause (OfResult n) c = absurd c

    by_fault : (f : MountFault) → CardRefused q r k between draws f → CardRefused p r key drew draws f
    by_fault NoStore c = absurd c
    by_fault (CardBlock byte) c = absurd c
    by_fault (Directory d) c = absurd c
    by_fault (Frame f) c = no_card c
    by_fault (CardResult n) c = no_card c
    by_fault (Failed cause) c = by_cause cause c
    by_fault Spent c = absurd c
    by_fault NoMemory c = absurd c
    by_fault (OldFormat file) c = absurd c

-- a card with that counter writes
pub card_writes : (card : CardState) (counter : ℕ) → card.counter ≡ counter → counter ≢ last_counter → card_write card 0 counter ≡ Ok (counter + 1)
card_writes card counter current unspent =
    ap (λ (n : ℕ). let r : Result ℕ HostFault = if n == done_result then Ok (counter + 1) else Err (RefusedBy (given_result card.counter n)) in r) (write_done card counter current unspent)

-- a draw that failed
pub drawn_refused : (old : PortState) (key : List ℕ) (drew draws : ℕ) (cause : Cause) → Rose drew draws × (cause ≡ Fault Entropy draws)
    → CardRefused old old key drew draws (Failed cause)
drawn_refused old key drew draws cause drawn = subst (λ (x : Cause). CardRefused old old key drew draws (Failed x)) (sym drawn.1) (drawn.0, refl)
