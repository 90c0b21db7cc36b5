-- Exchanges by their number.
use Rattle.std.proofs.Common.{◌≡◌, ◌∙◌, inl, inr, ℕ, zero, suc, ◌+◌, ◌*◌, ◌^◌, ◌<◌, ◌≤◌, Bool, false, List, Option, Result, Ok, Err, IsTrue, refl, sym, ap, subst, arith}
use Rattle.std.specs.Prelude.{None, OnOk}
use Rattle.tee_ports.specs.declared.failed.Failed.{Failed}
use Rattle.tee_ports.specs.Faults.{Rose}
use Rattle.rpmb_card.specs.Arms.{Arms, count_call}
use Rattle.rpmb_card.specs.Port.{Exchanged, PortState}
use Rattle.rpmb_host.specs.Calls.{FaultCounts, WriteExchanges, fault_received, is_failure}
use Rattle.rpmb_host.specs.Requests.{result_request}
use Rattle.rpmb_host.specs.declared.fault.HostFault.{HostFault}
use Rattle.rpmb_host.specs.declared.fault.HostFault.TheVariants.{Failed as NoAnswer, BadFrame, CardResult as RefusedBy, Spent}
use Rattle.rpmb_host.specs.Honest.{HadCard}
use Rattle.card_maps.specs.TableStates.{TableState}
use Rattle.rpmb_files.specs.declared.fault.CardFault.{CardFault}
use Rattle.rpmb_files.specs.declared.store.Doubt.{Doubt}
use Rattle.rpmb_files.specs.Counts.{ExchangesAreCounted, HadCardAt, HasExchanged, HasWritten, RoseBy, arms_after}
use Rattle.rpmb_files.specs.Knows.{IsStore}

-- the count of calls after some more
calls_after : (arms : Arms) (count : ℕ) → arms.calls + count < 2 ^ 64 → (arms_after arms count).calls ≡ arms.calls + count
calls_after arms zero room = (let e : arms.calls ≡ arms.calls + 0 = omega arith in e)
calls_after arms (suc count) room =
    let before : (arms_after arms count).calls ≡ arms.calls + count = calls_after arms count (omega (arith, room)) in
    omega (arith, before, room)

pub exchanges_counted : ExchangesAreCounted
exchanges_counted old new count exchanged tells room = ap (λ (a : Arms). a.calls) (exchanged.counted tells) ∙ calls_after old.arms count room

-- none, one, and some more
pub none_exchanged : (old : PortState) → HasExchanged old old 0
none_exchanged old = record { tells = refl; counted = λ tells. refl }

pub one_exchanged : (old new : PortState) (frame : List ℕ) (outcome : Result (List ℕ) Failed) → Exchanged old new frame outcome → HasExchanged old new 1
one_exchanged old new frame outcome x = record { tells = x.tells_arms; counted = x.counted_call }

arms_then : (arms : Arms) (n m : ℕ) → arms_after (arms_after arms n) m ≡ arms_after arms (n + m)
arms_then arms n zero = ap (arms_after arms) (let e : n ≡ n + 0 = omega arith in e)
arms_then arms n (suc m) = ap count_call (arms_then arms n m) ∙ ap (arms_after arms) (let e : suc (n + m) ≡ n + suc m = omega arith in e)

pub exchanged_then : (old mid new : PortState) (n m : ℕ) → HasExchanged old mid n → HasExchanged mid new m → HasExchanged old new (n + m)
exchanged_then old mid new n m a b = record {
  tells = b.tells ∙ a.tells;
  counted = λ tells.
      b.counted (subst (λ (t : Bool). IsTrue t) (sym a.tells) tells)
      ∙ ap (λ (x : Arms). arms_after x m) (a.counted tells) ∙ arms_then old.arms n m;
}

pub exchanged_as : (old new : PortState) (n m : ℕ) → n ≡ m → HasExchanged old new n → HasExchanged old new m
exchanged_as old new n m same x = subst (HasExchanged old new) same x

-- a write that was answered
pub write_answered : (old new : PortState) (write answer : List ℕ) → WriteExchanges old new write (Ok answer) → HasExchanged old new 2
write_answered old new write answer (inl (failed, x)) = absurd (cc (failed))
write_answered old new write answer (inr (between, first, one, two)) =
    exchanged_as old new (1 + 1) 2 (omega arith) (exchanged_then old between new 1 1 (one_exchanged old between write (Ok first) one) (one_exchanged between new result_request (Ok answer) two))

-- none were written, and more
pub written_none : (Answers : Type 0) (old : PortState) → HasWritten Answers old old 0
written_none Answers old = record {
  more = 0;
  few = omega arith;
  exchanges = none_exchanged old;
  faults = λ answers. (let n : ℕ = old.faults in omega arith);
  calm = λ answers is. refl;
}

pub written_more : (Answers Now : Type 0) (old now new : PortState) (n : ℕ) → HasWritten Answers old now n → (Answers → Now) → (IsTrue old.calm → IsTrue now.calm) → HasWritten Now now new 1
    → HasWritten Answers old new (n + 1)
written_more Answers Now old now new n a answers calm b = record {
  more = a.more + b.more;
  few = omega (arith, a.few, b.few);
  exchanges =
      exchanged_as old new (2 * n + a.more + (2 * 1 + b.more)) (2 * (n + 1) + (a.more + b.more)) (omega arith)
      (exchanged_then old now new (2 * n + a.more) (2 * 1 + b.more) a.exchanges b.exchanges);
  faults = λ card. rose old.faults now.faults new.faults a.more b.more (a.faults card) (b.faults (answers card));
  calm = λ card is. omega (arith, a.calm card is, b.calm (answers card) (calm is));
}
  where
    rose : (f g h n m : ℕ) → RoseBy n f g → RoseBy m g h → RoseBy (n + m) f h
    rose f g h n m first second = omega (arith, first, second)

-- one write, whose result came
pub written_told : (Answers : Type 0) (old new : PortState) (write answer : List ℕ) → WriteExchanges old new write (Ok answer) → old.faults ≤ new.faults → HasWritten Answers old new 1
written_told Answers old new write answer x counted = record {
  more = 0;
  few = omega arith;
  exchanges = exchanged_as old new 2 (2 * 1 + 0) (omega arith) (write_answered old new write answer x);
  faults = λ card. omega (arith, counted);
  calm = λ card is. refl;
}

-- or did not, and then the counter told that it stands
module _ (Answers : Type 0) (old mid new : PortState) (write : List ℕ) (fault : HostFault) (counts : FaultCounts old mid fault) (asked : HasExchanged mid new 1) (passed : new.faults ≡ mid.faults)
    (counted : old.faults ≤ mid.faults) (honest : is_failure fault ≡ false → Answers → ⊥) (calm : IsTrue old.calm → is_failure fault ≡ false) where
  rises : (f : HostFault) → FaultCounts old mid f → (is_failure f ≡ false → Answers → ⊥) → Answers → RoseBy 1 old.faults new.faults
  rises (NoAnswer count) is none card = (let r : Rose old.faults mid.faults = is.0 in omega (arith, r, passed))
  rises (BadFrame f) is none card = absurd (none refl card)
  rises (RefusedBy r) is none card = absurd (none refl card)
  rises Spent is none card = absurd (none refl card)

  pub written_asked : WriteExchanges old mid write (fault_received mid fault) → HasWritten Answers old new 1
  written_asked (inl (failed, x)) = record {
    more = 0;
    few = omega arith;
    exchanges = exchanged_as old new (1 + 1) (2 * 1 + 0) (omega arith) (exchanged_then old mid new 1 1 (one_exchanged old mid write (fault_received mid fault) x) asked);
    faults = λ card. omega (arith, counted, passed);
    calm = λ card is. refl;
  }
  written_asked (inr (between, first, one, two)) = record {
    more = 1;
    few = omega arith;
    exchanges =
        exchanged_as old new (1 + 1 + 1) (2 * 1 + 1) (omega arith)
        (exchanged_then old mid new (1 + 1) 1
        (exchanged_then old between mid 1 1 (one_exchanged old between write (Ok first) one) (one_exchanged between mid result_request (fault_received mid fault) two)) asked);
    faults = rises fault counts honest;
    calm = λ card is. absurd (honest (calm is) card);
  }

-- where another card answers
pub written_by : (Before Answers : Type 0) (old new : PortState) (n : ℕ) → (Answers → Before) → HasWritten Before old new n → HasWritten Answers old new n
written_by Before Answers old new n answers w = record {
  more = w.more;
  few = w.few;
  exchanges = w.exchanges;
  faults = λ card. w.faults (answers card);
  calm = λ card. w.calm (answers card);
}

-- the writes of a call that began without a doubt
pub written_settled : (p0 p1 p2 : PortState) (key0 key1 : List ℕ) (c0 c1 n m : ℕ) (t : TableState) (d : Option Doubt) (result : Result Unit CardFault) → p1 ≡ p0 → key1 ≡ key0 → c1 ≡ c0 → n ≡ m
    → IsStore p0 key0 c0 t d → d ≡ None → OnOk result (HasWritten (HadCardAt p1 key1 c1) p1 p2 n) → OnOk result (HasWritten (HadCard p0 key0) p0 p2 m)
written_settled p0 p1 p2 key0 key1 c0 c1 n m t d (Err fault) port key counter count store none w = tt
written_settled p0 p1 p2 key0 key1 c0 c1 n m t d (Ok done) port key counter count store none w =
    let known : IsStore p0 key0 c0 t None = subst (λ (x : Option Doubt). IsStore p0 key0 c0 t x) none store in
    let was : HasWritten (HadCardAt p0 key0 c0) p0 p2 m =
    subst (HasWritten (HadCardAt p0 key0 c0) p0 p2) count
    (subst (λ (c : ℕ). HasWritten (HadCardAt p0 key0 c) p0 p2 n) counter
    (subst (λ (k : List ℕ). HasWritten (HadCardAt p0 k c1) p0 p2 n) key (subst (λ (p : PortState). HasWritten (HadCardAt p key1 c1) p p2 n) port w))) in
    written_by (HadCardAt p0 key0 c0) (HadCard p0 key0) p0 p2 m (λ card. (card.0, card.1, (known card.0 card.1).1)) was
