-- Single exchanges: what they keep, and why they give nothing.
use Rattle.std.proofs.Common.{◌≡◌, ◌∙◌, ◌≤◌, ◌<◌, ℕ, Bool, true, false, List, Result, Ok, Err, IsTrue, if◌then◌else◌, nat_lt, refl, sym, ap, subst, arith}
use Rattle.tee_ports.specs.Faults.{Rose}
use Rattle.std.proofs.lemmas.Bool.{ltb-true}
use Rattle.rpmb_card.specs.Card.{CardState, given_result}
use Rattle.rpmb_card.specs.Port.{PortState}
use Rattle.rpmb_card.specs.Protocol.{address_failure}
use Rattle.card_maps.specs.CardMaps.{blocks_of}
use Rattle.card_maps.proofs.Ranges.{false_or}
use Rattle.rpmb_host.specs.declared.fault.HostFault.{HostFault}
use Rattle.rpmb_host.specs.declared.fault.HostFault.TheVariants.{Failed as NoAnswer, BadFrame, CardResult as RefusedBy, Spent}
use Rattle.rpmb_host.specs.Calls.{FaultCounts, is_failure}
use Rattle.rpmb_host.specs.Honest.{card_block}
use Rattle.tee_types.specs.declared.reply.Cause.{Cause}
use Rattle.tee_types.specs.declared.reply.Cause.TheVariants.{Fault, Frame as OfFrame, CardResult}
use Rattle.tee_types.specs.declared.reply.Device.TheVariants.{Dir, File, Card, Entropy}
use Rattle.rpmb_files.specs.Devices.{Devices, GoesOn}
use Rattle.rpmb_files.specs.Causes.{CauseStands, DrawFailed, HeardCause, NotDrawn, NotOfCard}
use Rattle.rpmb_files.specs.Links.{FaultIs}

pub err_ok : {A : Type 0} (fault : HostFault) (value : A) → (let r : Result A HostFault = Err fault in r ≡ Ok value) → ⊥
err_ok fault value is = absurd (cc (is))

-- a fault that is no failure counts nothing
pub same_faults : (old new : PortState) (fault : HostFault) → FaultCounts old new fault → is_failure fault ≡ false → new.faults ≡ old.faults
same_faults old new (NoAnswer count) counts other = absurd (cc (other))
same_faults old new (BadFrame f) counts other = counts
same_faults old new (RefusedBy r) counts other = counts
same_faults old new Spent counts other = counts

-- the cause of an exchange that gave nothing
pub read_cause : (Besides : Type 0) (key : List ℕ) (old new : Devices) (fault : HostFault) (cause : Cause) → FaultIs fault cause → FaultCounts old.port new.port fault → HeardCause key new.port cause
    → (is_failure fault ≡ false → Besides) → CauseStands Besides key old new cause
read_cause Besides key old new (NoAnswer count) cause is counts heard besides = subst (CauseStands Besides key old new) (sym is) counts
read_cause Besides key old new (BadFrame f) cause is counts heard besides = subst (CauseStands Besides key old new) (sym is) (subst (HeardCause key new.port) is heard, besides refl)
read_cause Besides key old new (RefusedBy r) cause is counts heard besides = subst (CauseStands Besides key old new) (sym is) (subst (HeardCause key new.port) is heard, besides refl)
read_cause Besides key old new Spent cause is counts heard besides = absurd is

-- a draw that failed
pub draw_cause : (Besides : Type 0) (key : List ℕ) (old new : Devices) (cause : Cause) → DrawFailed old.draws new.draws cause → CauseStands Besides key old new cause
draw_cause Besides key old new (Fault Entropy count) failed = failed
draw_cause Besides key old new (Fault Dir count) failed = absurd failed
draw_cause Besides key old new (Fault (File n) count) failed = absurd failed
draw_cause Besides key old new (Fault Card count) failed = absurd failed
draw_cause Besides key old new (OfFrame f) failed = absurd failed
draw_cause Besides key old new (CardResult r) failed = absurd failed

pub draw_not_card : (old new : ℕ) (cause : Cause) → DrawFailed old new cause → NotOfCard cause
draw_not_card old new (Fault Entropy count) failed = tt
draw_not_card old new (Fault Dir count) failed = tt
draw_not_card old new (Fault (File n) count) failed = tt
draw_not_card old new (Fault Card count) failed = failed
draw_not_card old new (OfFrame f) failed = tt
draw_not_card old new (CardResult r) failed = tt

pub not_failed : (fault : HostFault) (cause : Cause) → FaultIs fault cause → is_failure fault ≡ false → NotOfCard cause
not_failed (NoAnswer count) cause is other = absurd (cc (other))
not_failed (BadFrame f) cause is other = subst NotOfCard (sym is) tt
not_failed (RefusedBy r) cause is other = subst NotOfCard (sym is) tt
not_failed Spent cause is other = absurd is

pub not_drawn : (fault : HostFault) (cause : Cause) → FaultIs fault cause → NotDrawn cause
not_drawn (NoAnswer count) cause is = subst NotDrawn (sym is) tt
not_drawn (BadFrame f) cause is = subst NotDrawn (sym is) tt
not_drawn (RefusedBy r) cause is = subst NotDrawn (sym is) tt
not_drawn Spent cause is = absurd is

-- WHAT IS KEPT
-- where the card is as it was
pub card_stays : (key : List ℕ) (old new : Devices) → new.port.card ≡ old.port.card → old.port.faults ≤ new.port.faults → old.draws ≤ new.draws
    → (IsTrue old.port.calm → IsTrue new.port.calm × (new.port.faults ≡ old.port.faults)) → GoesOn key old new
card_stays key old new stays counted drawn calm = record {
  keeps = λ card has. (card, record { told = stays ∙ has.told; keyed = has.keyed });
  was = λ card has. (card, record { told = sym stays ∙ has.told; keyed = has.keyed });
  counted = counted;
  drawn = drawn;
  calm = λ is. (calm is).0;
  passed = λ is. (calm is).1;
}

pub goes_then : (key : List ℕ) (old mid new : Devices) → GoesOn key old mid → GoesOn key mid new → GoesOn key old new
goes_then key old mid new a b = record {
  keeps = λ card has. (let held = a.keeps card has in b.keeps held.0 held.1);
  was = λ card has. (let held = b.was card has in a.was held.0 held.1);
  counted = omega (arith, a.counted, b.counted);
  drawn = omega (arith, a.drawn, b.drawn);
  calm = λ is. b.calm (a.calm is);
  passed = λ is. b.passed (a.calm is) ∙ a.passed is;
}

pub goes_same : (key : List ℕ) (old : Devices) → GoesOn key old old
goes_same key old = record {
  keeps = λ card has. (card, has);
  was = λ card has. (card, has);
  counted = omega arith;
  drawn = omega arith;
  calm = λ is. is;
  passed = λ is. refl;
}

-- a cause that stands from a later time on
pub cause_then : (Besides Before : Type 0) (key : List ℕ) (old mid new : Devices) (cause : Cause) → GoesOn key old mid → (Besides → Before) → CauseStands Besides key mid new cause → CauseStands Before key old new cause
cause_then Besides Before key old mid new (Fault Card count) goes before c = (rose old.port.faults mid.port.faults new.port.faults goes.counted c.0, c.1)
  where
    rose : (a b n : ℕ) → a ≤ b → Rose b n → Rose a n
    rose a b n le r = omega (arith, le, r)
cause_then Besides Before key old mid new (Fault Entropy count) goes before c = (rose old.draws mid.draws new.draws goes.drawn c.0, c.1)
  where
    rose : (a b n : ℕ) → a ≤ b → Rose b n → Rose a n
    rose a b n le r = omega (arith, le, r)
cause_then Besides Before key old mid new (Fault Dir count) goes before c = c
cause_then Besides Before key old mid new (Fault (File n) count) goes before c = c
cause_then Besides Before key old mid new (OfFrame f) goes before c = (c.0, before c.1)
cause_then Besides Before key old mid new (CardResult r) goes before c = (c.0, before c.1)

-- what a read of a block gives
pub read_block_is : (card : CardState) (address : ℕ) → address < 256 → card_block card address ≡ Ok (blocks_of card address)
read_block_is card address lt =
    ap (λ (b : Bool). let r : Result (List ℕ) HostFault = if b then Err (RefusedBy (given_result card.counter address_failure)) else Ok (blocks_of card address) in r)
    (false_or (nat_lt 255 address) (λ aye. absurd (omega (arith, lt, ltb-true 255 address aye))))
