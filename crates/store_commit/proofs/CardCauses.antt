-- The causes that the card's part of a commit gives.
use Rattle.std.proofs.Common.{◌≡◌, ◌≢◌, ◌⊎◌, ◌∙◌, ◌+◌, ◌≤◌, ◌==◌, ℕ, List, Some, Result, Ok, Err, false, if◌then◌else◌, refl, sym, ap, subst, inl, inr, arith}
use Rattle.disk_model.specs.Faults.{Rose, next_count}
use Rattle.disk_model.specs.State.{FileState}
use Rattle.node_image.specs.declared.node.RootRef.{RootRef}
use Rattle.rpmb_card.specs.Protocol.{done_result, last_counter}
use Rattle.rpmb_card.specs.Card.{CardState, given_result}
use Rattle.rpmb_card.specs.Port.{PortState}
use Rattle.rpmb_host.specs.declared.fault.HostFault.{HostFault}
use Rattle.rpmb_host.specs.declared.fault.HostFault.TheVariants.{Failed, BadFrame, CardResult as RefusedBy, Spent}
use Rattle.rpmb_host.specs.Calls.{FaultCounts, is_failure}
use Rattle.rpmb_host.specs.Honest.{HasCard, card_write, written_card}
use Rattle.crash_core.specs.CardBlock.{root_block}
use Rattle.tee_types.specs.declared.reply.Cause.{Cause}
use Rattle.tee_types.specs.declared.reply.Cause.TheVariants.{Fault, Frame, CardResult}
use Rattle.tee_types.specs.declared.reply.Device.TheVariants.{Dir, File, Card, Entropy}
use Rattle.store_commit.specs.declared.change.CardEnd.{CardEnd}
use Rattle.store_commit.specs.declared.change.CardEnd.TheVariants.{Landed, Lost, Unknown}
use Rattle.store_commit.specs.CardCauses.{AskCalm, AskCause, CardCalm, CardCounts, FaultIs, IsCardFault, IsOfFrame, PortCause}
use Rattle.store_commit.specs.Causes.{IsByCard, IsDrawn, NoCard, NotDrawn, NotOfCard, StaysCalm}
use Rattle.store_commit.specs.Prepared.{SideCause}
use Rattle.store_commit.proofs.CardWrites.{next_card, write_done}

-- a counter read that was refused
pub asked_fault : (key : List ℕ) (counter : ℕ) (old new : PortState) (fault : HostFault) (before why : Cause) → FaultIs fault why → FaultCounts old new fault
    → ((card : CardState) → HasCard old key card → is_failure fault ≡ false → let r : Result ℕ HostFault = Err fault in r ≡ Ok card.counter)
    → AskCause key counter old new before (Unknown why)
asked_fault key counter old new (Failed count) before why is counts honest = inl (counts.0, is ∙ ap (λ (n : ℕ). Fault Card n) counts.1)
asked_fault key counter old new (BadFrame fault) before why is counts honest = inr ((λ card has which. absurd (cc (honest card has refl))), subst IsOfFrame (sym is) tt)
asked_fault key counter old new (RefusedBy result) before why is counts honest = inr ((λ card has which. absurd (cc (honest card has refl))), subst IsOfFrame (sym is) tt)
asked_fault key counter old new Spent before why is counts honest = absurd is

-- a counter that is neither
pub asked_neither : (key : List ℕ) (counter now : ℕ) (old new : PortState) (before why : Cause) → now ≢ counter → now ≢ counter + 1 → IsOfFrame why
    → ((card : CardState) → HasCard old key card → let r : Result ℕ HostFault = Ok now in r ≡ Ok card.counter)
    → AskCause key counter old new before (Unknown why)
asked_neither key counter now old new before why a b of honest =
    inr ((λ card has which. let e : now ≡ card.counter = cc (honest card has) in neither card.counter e which), of)
  where
    neither : (held : ℕ) → now ≡ held → (held ≡ counter) ⊎ (held ≡ counter + 1) → ⊥
    neither held e (inl is) = a (e ∙ is)
    neither held e (inr is) = b (e ∙ is)

twice : (a b c : ℕ) → next_count a ≤ b → next_count b ≤ c → next_count (next_count a) ≤ c
twice a b c h k = omega arith

then_rose : (a b c : ℕ) → a ≤ b → next_count b ≤ c → next_count a ≤ c
then_rose a b c h k = omega arith

module _ (key : List ℕ) (counter : ℕ) (root : RootRef) (old mid new : PortState) (fault : HostFault) (cause : Cause) (unspent : counter ≢ last_counter)
    (counted : old.faults ≤ mid.faults) (is : FaultIs fault cause) (counts : FaultCounts old mid fault)
    (honest : (card : CardState) → HasCard old key card → is_failure fault ≡ false → let r : Result ℕ HostFault = Err fault in r ≡ card_write card 0 counter)
    (left : (card : CardState) → HasCard old key card → (mid.card ≡ Some card) ⊎ (mid.card ≡ Some (written_card card 0 counter (root_block root)))) where
  -- a card that has the key and the counter takes the write
  takes : (card : CardState) → card.counter ≡ counter → card_write card 0 counter ≡ Ok (counter + 1)
  takes card current = ap (λ (n : ℕ). let r : Result ℕ HostFault = if n == done_result then Ok (counter + 1) else Err (RefusedBy (given_result card.counter n)) in r) (write_done card counter current unspent)

  no_card : is_failure fault ≡ false → NoCard old key counter
  no_card other card has current = let e : (let r : Result ℕ HostFault = Err fault in r ≡ Ok (counter + 1)) = honest card has other ∙ takes card current in absurd (cc (e))

  -- over such a card the count rose
  rose : (card : CardState) → HasCard old key card → card.counter ≡ counter → Rose old.faults mid.faults
  rose card has current = by_fault fault counts is (λ other. no_card other card has current)
    where
      by_fault : (f : HostFault) → FaultCounts old mid f → FaultIs f cause → (is_failure f ≡ false → ⊥) → Rose old.faults mid.faults
      by_fault (Failed count) c e none = c.0
      by_fault (BadFrame f) c e none = absurd (none refl)
      by_fault (RefusedBy f) c e none = absurd (none refl)
      by_fault Spent c e none = absurd e

  -- the write's own cause, where the count stands as after it
  own_cause : new.faults ≡ mid.faults → PortCause key counter old new cause
  own_cause same = by_fault fault is counts no_card
    where
      by_fault : (f : HostFault) → FaultIs f cause → FaultCounts old mid f → (is_failure f ≡ false → NoCard old key counter) → PortCause key counter old new cause
      by_fault (Failed count) e c none = subst (PortCause key counter old new) (sym e) (omega (arith, c.0, same), c.1 ∙ sym same)
      by_fault (BadFrame f) e c none = subst (PortCause key counter old new) (sym e) (none refl)
      by_fault (RefusedBy f) e c none = subst (PortCause key counter old new) (sym e) (none refl)
      by_fault Spent e c none = absurd e

  -- the card between
  between : (card : CardState) → HasCard old key card → card.counter ≡ counter
      → (held : CardState) × HasCard mid key held × ((held.counter ≡ counter) ⊎ (held.counter ≡ counter + 1))
  between card has current = by_way (left card has)
    where
      by_way : (mid.card ≡ Some card) ⊎ (mid.card ≡ Some (written_card card 0 counter (root_block root)))
          → (held : CardState) × HasCard mid key held × ((held.counter ≡ counter) ⊎ (held.counter ≡ counter + 1))
      by_way (inl here) = (card, record { told = here; keyed = has.keyed }, inl current)
      by_way (inr gone) =
          let sealed = next_card mid key card counter root has.keyed current unspent gone in
          (sealed.next, sealed.has, inr (sealed.same.counter ∙ ap (λ (n : ℕ). n + 1) current))

  pub write_cause : (end : CardEnd) → AskCause key counter mid new cause end → IsCardFault key counter old new end
  write_cause Landed asked = tt
  write_cause (Lost why) asked = subst (PortCause key counter old new) (sym asked.1) (own_cause asked.0)
  write_cause (Unknown why) (inl failed) = (
    subst (PortCause key counter old new) (sym failed.1) (then_rose old.faults mid.faults new.faults counted failed.0, refl),
    λ card has current. twice old.faults mid.faults new.faults (rose card has current) failed.0,
  )
  write_cause (Unknown why) (inr (none, of)) = (of_frame why of, λ card has current. absurd (gone card has current))
    where
      gone : NoCard old key counter
      gone card has current = let b = between card has current in none b.0 b.1 b.2

      of_frame : (w : Cause) → IsOfFrame w → PortCause key counter old new w
      of_frame (Fault device count) f = absurd f
      of_frame (Frame f) g = gone
      of_frame (CardResult f) g = gone

-- the port's count at the end
lost_count : (old mid new : PortState) (fault : HostFault) (cause : Cause) → FaultIs fault cause → FaultCounts old mid fault → new.faults ≡ mid.faults → CardCounts old new (Lost cause)
lost_count old mid new (Failed count) cause is c same =
    subst (λ (w : Cause). CardCounts old new (Lost w)) (sym is) (subst (λ (n : ℕ). Rose old.faults n) (sym same) c.0, c.1 ∙ sym same)
lost_count old mid new (BadFrame f) cause is c same = subst (λ (w : Cause). CardCounts old new (Lost w)) (sym is) (same ∙ c)
lost_count old mid new (RefusedBy r) cause is c same = subst (λ (w : Cause). CardCounts old new (Lost w)) (sym is) (same ∙ c)
lost_count old mid new Spent cause is c same = absurd is

frame_count : (old new : PortState) (why : Cause) → IsOfFrame why → old.faults ≤ new.faults → CardCounts old new (Unknown why)
frame_count old new (Fault device count) of counted = absurd of
frame_count old new (Frame f) of counted = counted
frame_count old new (CardResult r) of counted = counted

pub write_counts : (key : List ℕ) (counter : ℕ) (old mid new : PortState) (fault : HostFault) (cause : Cause) (end : CardEnd) → FaultIs fault cause → FaultCounts old mid fault
    → old.faults ≤ mid.faults → mid.faults ≤ new.faults → AskCause key counter mid new cause end → CardCounts old new end
write_counts key counter old mid new fault cause Landed is c first second asked = omega (arith, first, second)
write_counts key counter old mid new fault cause (Lost why) is c first second asked =
    subst (λ (w : Cause). CardCounts old new (Lost w)) (sym asked.1) (lost_count old mid new fault cause is c asked.0)
write_counts key counter old mid new fault cause (Unknown why) is c first second (inl failed) =
    subst (λ (w : Cause). CardCounts old new (Unknown w)) (sym failed.1) (then_rose old.faults mid.faults new.faults first failed.0, refl)
write_counts key counter old mid new fault cause (Unknown why) is c first second (inr (none, of)) = frame_count old new why of (omega (arith, first, second))

-- a cause of the port is no draw
pub port_not_drawn : (key : List ℕ) (counter : ℕ) (old new : PortState) (cause : Cause) → PortCause key counter old new cause → NotDrawn cause
port_not_drawn key counter old new (Fault Dir count) c = tt
port_not_drawn key counter old new (Fault (File n) count) c = tt
port_not_drawn key counter old new (Fault Card count) c = tt
port_not_drawn key counter old new (Fault Entropy count) c = absurd c
port_not_drawn key counter old new (Frame fault) c = tt
port_not_drawn key counter old new (CardResult result) c = tt

-- a fault that is no failure is no count
pub not_failed : (fault : HostFault) (cause : Cause) → FaultIs fault cause → is_failure fault ≡ false → IsOfFrame cause
not_failed (Failed count) cause is other = absurd (cc (other))
not_failed (BadFrame f) cause is other = subst IsOfFrame (sym is) tt
not_failed (RefusedBy r) cause is other = subst IsOfFrame (sym is) tt
not_failed Spent cause is other = absurd is

pub same_faults : (old new : PortState) (fault : HostFault) → FaultCounts old new fault → is_failure fault ≡ false → new.faults ≡ old.faults
same_faults old new (Failed count) counts other = absurd (cc (other))
same_faults old new (BadFrame f) counts other = counts
same_faults old new (RefusedBy r) counts other = counts
same_faults old new Spent counts other = counts

pub calm_then : (old mid new : PortState) → StaysCalm old mid → StaysCalm mid new → StaysCalm old new
calm_then old mid new a b = record { calm = b.calm; faults = b.faults ∙ a.faults }

pub calm_end : (cause : Cause) (end : CardEnd) → IsOfFrame cause → AskCalm cause end → CardCalm end
calm_end cause Landed own asked = tt
calm_end cause (Lost why) own asked = subst IsOfFrame (sym asked) own
calm_end cause (Unknown why) own asked = asked

-- a cause of a frame is no failure of the card
pub frame_not_card : (cause : Cause) → IsOfFrame cause → NotOfCard cause
frame_not_card (Fault Dir count) of = tt
frame_not_card (Fault (File n) count) of = tt
frame_not_card (Fault Card count) of = absurd of
frame_not_card (Fault Entropy count) of = tt
frame_not_card (Frame fault) of = tt
frame_not_card (CardResult result) of = tt

pub port_by_card : (key : List ℕ) (counter : ℕ) (old new : PortState) (cause : Cause) → PortCause key counter old new cause → IsByCard cause
port_by_card key counter old new (Fault Dir count) c = c
port_by_card key counter old new (Fault (File n) count) c = c
port_by_card key counter old new (Fault Card count) c = tt
port_by_card key counter old new (Fault Entropy count) c = c
port_by_card key counter old new (Frame fault) c = tt
port_by_card key counter old new (CardResult result) c = tt

pub not_both : (cause : Cause) → NotDrawn cause → IsDrawn cause → ⊥
not_both (Fault Dir count) not is = is
not_both (Fault (File n) count) not is = is
not_both (Fault Card count) not is = is
not_both (Fault Entropy count) not is = not
not_both (Frame fault) not is = is
not_both (CardResult result) not is = is

-- nor is one of the directory's part
pub side_not_card : (old new : FileState) (drew draws : ℕ) (cause : Cause) → SideCause old new drew draws cause → NotOfCard cause
side_not_card old new drew draws (Fault Dir count) side = tt
side_not_card old new drew draws (Fault (File n) count) side = tt
side_not_card old new drew draws (Fault Card count) side = side
side_not_card old new drew draws (Fault Entropy count) side = tt
side_not_card old new drew draws (Frame fault) side = tt
side_not_card old new drew draws (CardResult result) side = tt
