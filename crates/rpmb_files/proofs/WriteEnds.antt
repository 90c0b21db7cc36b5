-- How a write ends: what it leaves, and why.
use Rattle.std.proofs.Common.{◌≡◌, ◌≢◌, ◌⊎◌, ◌∙◌, ◌+◌, ◌≤◌, ◌<◌, ℕ, Bool, List, Some, Result, Ok, Err, IsTrue, if◌then◌else◌, sym, ap, inl, inr, arith}
use Rattle.std.proofs.lemmas.Bool.{eq-eqb}
use Rattle.rpmb_card.specs.Card.{CardState, given_result}
use Rattle.rpmb_card.specs.Port.{PortState}
use Rattle.rpmb_card.specs.Protocol.{done_result, last_counter}
use Rattle.rpmb_host.specs.declared.fault.HostFault.{HostFault}
use Rattle.rpmb_host.specs.declared.fault.HostFault.TheVariants.{Failed as NoAnswer, BadFrame, CardResult as RefusedBy, Spent}
use Rattle.rpmb_host.specs.Calls.{FaultCounts}
use Rattle.rpmb_host.specs.Honest.{HadCard, HasCard, card_write, write_end, written_card}
use Rattle.card_maps.proofs.Prefixes.{counter_up, write_done}
use Rattle.rpmb_files.specs.Devices.{Devices, GoesOn}
use Rattle.rpmb_files.specs.Causes.{NoCardAt}
use Rattle.rpmb_files.specs.Links.{NoneOfBoth, TellsCounter}

-- the count after a later call that counted nothing
pub counts_on : (old mid new : PortState) (fault : HostFault) → new.faults ≡ mid.faults → FaultCounts old mid fault → FaultCounts old new fault
counts_on old mid new (NoAnswer count) same counts = (omega (arith, counts.0, same), counts.1 ∙ sym same)
counts_on old mid new (BadFrame f) same counts = same ∙ counts
counts_on old mid new (RefusedBy r) same counts = same ∙ counts
counts_on old mid new Spent same counts = same ∙ counts

module _ (card : CardState) (address counter : ℕ) (block : List ℕ) (lt : address < 256) (unspent : counter ≢ last_counter) (current : card.counter ≡ counter) where
  pub is_done : write_end card address counter ≡ done_result
  is_done = ap (write_end card address) (sym current) ∙ write_done card address lt (λ e. unspent (sym current ∙ e))

  pub up : (written_card card address counter block).counter ≡ counter + 1
  up =
      ap (λ (k : ℕ). (written_card card address k block).counter) (sym current)
      ∙ counter_up card address block (write_done card address lt (λ e. unspent (sym current ∙ e))) ∙ ap (λ (k : ℕ). k + 1) current

  -- an honest card writes
  pub writes : (fault : HostFault) → (let r : Result ℕ HostFault = Err fault in r ≡ card_write card address counter) → ⊥
  writes fault is = absurd (cc (is, done))
    where
      done : card_write card address counter ≡ Ok (counter + 1)
      done = ap (λ (b : Bool). let r : Result ℕ HostFault = if b then Ok (counter + 1) else Err (RefusedBy (given_result card.counter (write_end card address counter))) in r) (eq-eqb (write_end card address counter) done_result is_done)

module _ (key : List ℕ) (old mid new : Devices) (address counter : ℕ) (block : List ℕ) (lt : address < 256) (unspent : counter ≢ last_counter)
    (left : (card : CardState) → HasCard old.port key card → (mid.port.card ≡ Some card) ⊎ (mid.port.card ≡ Some (written_card card address counter block))) where
  pub write_goes : (was : (card : CardState) → HasCard mid.port key card → HadCard old.port key) → old.port.faults ≤ mid.port.faults → mid.draws ≡ old.draws
      → (IsTrue old.port.calm → IsTrue mid.port.calm × (mid.port.faults ≡ old.port.faults)) → GoesOn key old mid
  write_goes was counted drawn calm = record {
    keeps = λ card has. elim (left card has) [
      | inl is ↦ (card, record { told = is; keyed = has.keyed })
      | inr is ↦ (written_card card address counter block, record { told = is; keyed = has.keyed })
    ];
    was = was;
    counted = counted;
    drawn = omega (arith, drawn);
    calm = λ is. (calm is).0;
    passed = λ is. (calm is).1;
  }

  -- the counter tells that the write does not stand
  pub same_leaves : TellsCounter key mid.port counter → new.port.card ≡ mid.port.card → (card : CardState) → HasCard old.port key card → card.counter ≡ counter → HasCard new.port key card
  same_leaves tells stays card has current = elim (left card has) [
    | inl is ↦ record { told = stays ∙ is; keyed = has.keyed }
    | inr is ↦
        let e : (written_card card address counter block).counter ≡ counter = tells (written_card card address counter block) (record { told = is; keyed = has.keyed }) in
        absurd (omega (arith, e, up card address counter block lt unspent current))
  ]

  -- a card that has the counter has one of the two behind the write
  pub none_before : NoneOfBoth key counter mid → NoCardAt key counter old
  none_before none card has current = elim (left card has) [
    | inl is ↦ none card (record { told = is; keyed = has.keyed }) (inl current)
    | inr is ↦ none (written_card card address counter block) (record { told = is; keyed = has.keyed }) (inr (up card address counter block lt unspent current))
  ]
