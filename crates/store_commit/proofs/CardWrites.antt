-- What a write of block 0 leaves of a card, and what the counter read after it tells.
use Rattle.std.proofs.Common.{◌≡◌, ◌≢◌, ◌⊎◌, ◌∙◌, ◌+◌, ℕ, ◌==◌, List, Some, Result, Bool, true, false, not, IfSome, if◌then◌else◌, nat_lt, refl, sym, ap, subst, inl, inr, arith}
use Rattle.std.proofs.lemmas.Bool.{eq-eqb, ne_eqb}
use Rattle.tee_ports.specs.declared.failed.Failed.{Failed}
use Rattle.node_image.specs.declared.node.RootRef.{RootRef}
use Rattle.rpmb_card.specs.Protocol.{address_failure, counter_failure, done_result, last_counter, write_failure}
use Rattle.rpmb_card.specs.Card.{CardState, IsCard, written}
use Rattle.rpmb_card.specs.Port.{PortState}
use Rattle.rpmb_host.specs.Calls.{WriteExchanges}
use Rattle.rpmb_host.specs.Honest.{HasCard, write_end, written_card}
use Rattle.rpmb_host.specs.Requests.{write_fields}
use Rattle.crash_core.specs.CardBlock.{root_block}
use Rattle.crash_core.specs.Pictures.{SameCard}
use Rattle.crash_core.specs.Seals.{sealed_card}
use Rattle.tee_types.specs.declared.reply.Cause.{Cause}
use Rattle.store_commit.specs.declared.change.CardEnd.{CardEnd}
use Rattle.store_commit.specs.declared.change.CardEnd.TheVariants.{Landed, Lost, Unknown}
use Rattle.store_commit.specs.CardEnds.{AskLeft, CardLeft, IsSealedCard}

-- the card of a port that made the exchanges of a write
pub sound_of : (old new : PortState) (write : List ℕ) (outcome : Result (List ℕ) Failed) → WriteExchanges old new write outcome → IfSome old.card IsCard
sound_of old new write outcome (inl (failed, exchanged)) = exchanged.sound
sound_of old new write outcome (inr (between, answer, first, second)) = first.sound

-- the write is done
pub write_done : (card : CardState) (counter : ℕ) → card.counter ≡ counter → counter ≢ last_counter → write_end card 0 counter ≡ done_result
write_done card counter current unspent =
    let other : card.counter == last_counter ≡ false = ne_eqb card.counter last_counter (λ e. unspent (sym current ∙ e)) in
    let same : counter == card.counter ≡ true = eq-eqb counter card.counter (sym current) in
    ap (λ (b : Bool). let r : ℕ = if b then write_failure else if nat_lt 255 0 then address_failure else if not (counter == card.counter) then counter_failure else done_result in r) other
    ∙ ap (λ (b : Bool). let r : ℕ = if not b then counter_failure else done_result in r) same

-- the card after it is the sealed one
pub next_card : (new : PortState) (key : List ℕ) (card : CardState) (counter : ℕ) (root : RootRef) → card.key ≡ Some key
    → card.counter ≡ counter → counter ≢ last_counter → new.card ≡ Some (written_card card 0 counter (root_block root)) → IsSealedCard new key card root
next_card new key card counter root keyed current unspent left =
    let done = write_done card counter current unspent in
    record {
      next = written_card card 0 counter (root_block root);
      has = record { told = left; keyed = keyed };
      same = subst (λ (r : ℕ). SameCard (written card (write_fields 0 counter (root_block root)) r) (sealed_card card root)) (sym done)
          (record { key = refl; counter = refl; blocks = refl });
    }

-- what the counter read tells
pub asked : (mid new : PortState) (key : List ℕ) (card : CardState) (counter : ℕ) (root : RootRef) (cause : Cause) (end : CardEnd)
    → card.key ≡ Some key → card.counter ≡ counter → counter ≢ last_counter
    → (mid.card ≡ Some card) ⊎ (mid.card ≡ Some (written_card card 0 counter (root_block root))) → new.card ≡ mid.card
    → ((held : CardState) → HasCard mid key held → AskLeft held.counter counter cause end) → CardLeft new key card root end
asked mid new key card counter root cause end keyed current unspent left stays tells = by_end end tells left
  where
    moved : mid.card ≡ Some (written_card card 0 counter (root_block root)) → IsSealedCard new key card root
    moved is = next_card new key card counter root keyed current unspent (stays ∙ is)

    risen : mid.card ≡ Some (written_card card 0 counter (root_block root)) → IsSealedCard mid key card root
    risen is = next_card mid key card counter root keyed current unspent is

    here : mid.card ≡ Some card → HasCard mid key card
    here is = record { told = is; keyed = keyed }

    by_end : (e : CardEnd) → ((held : CardState) → HasCard mid key held → AskLeft held.counter counter cause e)
        → (mid.card ≡ Some card) ⊎ (mid.card ≡ Some (written_card card 0 counter (root_block root))) → CardLeft new key card root e
    by_end Landed says (inl is) = let e : card.counter ≡ counter + 1 = says card (here is) in absurd (omega (arith, current))
    by_end Landed says (inr is) = moved is
    by_end (Lost why) says (inl is) = record { told = stays ∙ is; keyed = keyed }
    by_end (Lost why) says (inr is) =
        let sealed = risen is in
        let e : sealed.next.counter ≡ counter = (says sealed.next sealed.has).0 in
        let up : sealed.next.counter ≡ card.counter + 1 = sealed.same.counter in
        absurd (omega (arith, current))
    by_end (Unknown why) says (inl is) = inl (record { told = stays ∙ is; keyed = keyed })
    by_end (Unknown why) says (inr is) = inr (moved is)
