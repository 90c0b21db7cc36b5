-- What the calls of a host give over a port that tells a card with the host's key.
use Rattle.std.proofs.Common.{◌≡◌, ℕ, true, false, nat_eq, nat_lt, get_or, [], ◌+◌, ◌<◌, ◌^◌, List, length, Option, Some, None, Result, Ok, Err, IfSome, IsErr, refl, sym, ap, subst, ◌∙◌, arith, ◌⊎◌, inl, inr}
use Rattle.std.proofs.lemmas.Bool.{eqb-true, ltb-false}
use Rattle.std.proofs.lemmas.List.{get_or-set_same}
use Rattle.tee_ports.specs.declared.failed.Failed.{Failed}
use Rattle.rpmb_frame.specs.declared.frame.Frame.{Frame}
use Rattle.rpmb_card.specs.Card.{CardState, IsCard, card_after, card_answer}
use Rattle.rpmb_card.specs.Port.{PortState, Exchanged, acted, last_heard}
use Rattle.rpmb_host.specs.declared.fault.HostFault.{HostFault}
use Rattle.rpmb_host.specs.declared.fault.HostFault.TheVariants.{Failed as HostFailed, BadFrame, CardResult, Spent}
use Rattle.rpmb_host.specs.declared.verdict.Wanted.{Wanted}
use Rattle.rpmb_host.specs.Verdict.{verdict}
use Rattle.rpmb_host.specs.Requests.{counter_request, block_request, result_request, write_request}
use Rattle.rpmb_host.specs.Honest.{HasCard, IsWritten, card_block, card_write, write_end, written_card}
use Rattle.rpmb_host.specs.Calls.{WriteExchanges, has_failed, block_wanted, counter_wanted, judged, received, told, write_wanted}
use Rattle.rpmb_host.proofs.HonestReads.{block-told, bool_cases, counter-told, is_keyed, request-block, request-counter}
use Rattle.rpmb_host.proofs.HonestWrites.{card_after-write, request-result, write-told}

-- a call that did not fail has an answer
pub received-ok : {A : Type 0} (port : PortState) (r : Result A HostFault) → has_failed r ≡ false → received port r ≡ Ok (last_heard port)
received-ok port (Ok value) h = refl
received-ok port (Err (HostFailed count)) h = cc
received-ok port (Err (BadFrame fault)) h = refl
received-ok port (Err (CardResult result)) h = refl
received-ok port (Err Spent) h = refl

-- the answer is the card's
pub card_answers : (old new : PortState) (frame answer : List ℕ) (card : CardState) → Exchanged old new frame (Ok answer)
    → old.card ≡ Some card → answer ≡ card_answer card frame
card_answers old new frame answer card e is_told =
    subst (λ (o : Option CardState). IfSome o (λ s. answer ≡ card_answer s frame)) is_told e.answer

pub card_sound : (old new : PortState) (frame : List ℕ) (r : Result (List ℕ) Failed) (card : CardState) → Exchanged old new frame r
    → old.card ≡ Some card → IsCard card
card_sound old new frame r card e is_told = subst (λ (o : Option CardState). IfSome o IsCard) is_told e.sound

-- a request that leaves every card leaves the port's
acted_same : (o : Option CardState) (frame : List ℕ) → ((s : CardState) → card_after s frame ≡ s) → acted o frame ≡ o
acted_same None frame same = refl
acted_same (Some s) frame same = ap Some (same s)

pub card_stays : (old new : PortState) (frame : List ℕ) (r : Result (List ℕ) Failed) → Exchanged old new frame r
    → ((s : CardState) → card_after s frame ≡ s) → new.card ≡ old.card
card_stays old new frame (Ok answer) e same = e.acts ∙ acted_same old.card frame same
card_stays old new frame (Err failed) e same = elim e.may_act [
  | inl stays ↦ stays
  | inr acts ↦ acts ∙ acted_same old.card frame same
]

-- what is told of a frame that came from the card
told_of : {A : Type 0} (old new : PortState) (key frame : List ℕ) (wanted : Wanted) (field : Frame → A) (r : Result A HostFault) (card : CardState)
    → Exchanged old new frame (received new r) → r ≡ told field (judged key wanted (received new r)) → old.card ≡ Some card
    → has_failed r ≡ false → r ≡ told field (verdict key wanted (card_answer card frame))
told_of old new key frame wanted field r card e says is_told answers =
    let came = received-ok new r answers in
    let exchange : Exchanged old new frame (Ok (last_heard new)) = subst (λ x. Exchanged old new frame x) came e in
    says
    ∙ ap (λ x. told field (judged key wanted x)) came
    ∙ ap (λ x. told field (verdict key wanted x)) (card_answers old new frame (last_heard new) card exchange is_told)

pub counter_honest : (old new : PortState) (key nonce : List ℕ) (r : Result ℕ HostFault) → length nonce ≡ 16
    → Exchanged old new (counter_request nonce) (received new r)
    → r ≡ told (λ f. f.counter) (judged key (counter_wanted nonce) (received new r))
    → (card : CardState) → HasCard old key card → has_failed r ≡ false → r ≡ Ok card.counter
counter_honest old new key nonce r len e says card has answers =
    let sound : IsCard card = card_sound old new (counter_request nonce) (received new r) card e has.told in
    told_of old new key (counter_request nonce) (counter_wanted nonce) (λ f. f.counter) r card e says has.told answers
    ∙ ap (λ (s : CardState). told (λ f. f.counter) (verdict key (counter_wanted nonce) (card_answer s (counter_request nonce)))) (sym (is_keyed key card has.keyed))
    ∙ counter-told key nonce card sound len

pub counter_stays : (nonce : List ℕ) → length nonce ≡ 16 → (s : CardState) → card_after s (counter_request nonce) ≡ s
counter_stays nonce len s = rw (request-counter nonce len)

pub block_honest : (old new : PortState) (key : List ℕ) (address : ℕ) (nonce : List ℕ) (r : Result (List ℕ) HostFault)
    → address < 2 ^ 16 → length nonce ≡ 16 → Exchanged old new (block_request address nonce) (received new r)
    → r ≡ told (λ f. f.block) (judged key (block_wanted address nonce) (received new r))
    → (card : CardState) → HasCard old key card → has_failed r ≡ false → r ≡ card_block card address
block_honest old new key address nonce r low len e says card has answers =
    let sound : IsCard card = card_sound old new (block_request address nonce) (received new r) card e has.told in
    told_of old new key (block_request address nonce) (block_wanted address nonce) (λ f. f.block) r card e says has.told answers
    ∙ ap (λ (s : CardState). told (λ f. f.block) (verdict key (block_wanted address nonce) (card_answer s (block_request address nonce)))) (sym (is_keyed key card has.keyed))
    ∙ block-told key address nonce card sound low len

pub block_stays : (address : ℕ) (nonce : List ℕ) → address < 2 ^ 16 → length nonce ≡ 16 → (s : CardState)
    → card_after s (block_request address nonce) ≡ s
block_stays address nonce low len s = rw (request-block address nonce low len)

-- an exchange acts on the card, or leaves it
acts_or_not : (old new : PortState) (frame : List ℕ) (r : Result (List ℕ) Failed) → Exchanged old new frame r
    → (new.card ≡ old.card) ⊎ (new.card ≡ acted old.card frame)
acts_or_not old new frame (Ok answer) e = inr e.acts
acts_or_not old new frame (Err failed) e = e.may_act

result_stays : (s : CardState) → card_after s result_request ≡ s
result_stays s = rw request-result

-- the card that took the write
acted-write : (key : List ℕ) (address counter : ℕ) (block : List ℕ) (o : Option CardState) (card : CardState)
    → address < 2 ^ 16 → counter < 2 ^ 32 → length block ≡ 256 → o ≡ Some card → card.key ≡ Some key
    → acted o (write_request key address counter block) ≡ Some (written_card card address counter block)
acted-write key address counter block o card low fits long is_told has_key =
    let w : List ℕ = write_request key address counter block in
    ap (λ (x : Option CardState). acted x w) is_told
    ∙ ap (λ (s : CardState). Some (card_after s w)) (sym (is_keyed key card has_key))
    ∙ ap Some (card_after-write key address counter block card low fits long)
    ∙ ap (λ (s : CardState). Some (written_card s address counter block)) (is_keyed key card has_key)

pub write_left : (old new : PortState) (key : List ℕ) (address counter : ℕ) (block : List ℕ) (outcome : Result (List ℕ) Failed)
    → address < 2 ^ 16 → counter < 2 ^ 32 → length block ≡ 256
    → WriteExchanges old new (write_request key address counter block) outcome
    → (card : CardState) → HasCard old key card
    → (new.card ≡ Some card) ⊎ (new.card ≡ Some (written_card card address counter block))
write_left old new key address counter block outcome low fits long (inl one) card has =
    elim (acts_or_not old new (write_request key address counter block) outcome one.1) [
      | inl stays ↦ inl (stays ∙ has.told)
      | inr acts ↦ inr (acts ∙ acted-write key address counter block old.card card low fits long has.told has.keyed)
    ]
write_left old new key address counter block outcome low fits long (inr two) card has =
    inr (card_stays two.0 new result_request outcome two.3 result_stays
    ∙ two.2.acts
    ∙ acted-write key address counter block old.card card low fits long has.told has.keyed)

no_error : {A E : Type 0} {r : Result A E} {x : A} → r ≡ Ok x → IsErr r → ⊥
no_error e h = let impossible = rw e at h in cc

pub write_honest : (old new : PortState) (key : List ℕ) (address counter : ℕ) (block : List ℕ) (r : Result ℕ HostFault)
    → address < 2 ^ 16 → counter + 1 < 2 ^ 32 → length block ≡ 256
    → WriteExchanges old new (write_request key address counter block) (received new r)
    → r ≡ told (λ f. f.counter) (judged key (write_wanted address counter) (received new r))
    → (card : CardState) → HasCard old key card → has_failed r ≡ false
    → (r ≡ card_write card address counter) × (new.card ≡ Some (written_card card address counter block))
write_honest old new key address counter block r low fits long (inl one) says card has answers =
    absurd (no_error (received-ok new r answers) one.0)
write_honest old new key address counter block r low fits long (inr two) says card has answers =
    let w : List ℕ = write_request key address counter block in
    let between : two.0.card ≡ Some (written_card card address counter block) =
    two.2.acts ∙ acted-write key address counter block old.card card low (omega arith) long has.told has.keyed in
    let sound : IsCard card = card_sound old two.0 w (Ok two.1) card two.2 has.told in
    let field : Frame → ℕ = λ f. f.counter in
    let wanted : Wanted = write_wanted address counter in (
      told_of two.0 new key result_request wanted field r (written_card card address counter block) two.3 says between answers
          ∙ ap (λ (s : CardState). told field (verdict key wanted (card_answer (written_card s address counter block) result_request))) (sym (is_keyed key card has.keyed))
          ∙ write-told key address counter block card sound low fits,
      card_stays two.0 new result_request (received new r) two.3 result_stays ∙ between,
    )

-- which writes are done
write_end-done : (card : CardState) (address counter : ℕ) → nat_eq (write_end card address counter) 0 ≡ true
    → (address < 256) × (counter ≡ card.counter)
write_end-done card address counter is_done =
    elim (bool_cases (nat_eq card.counter 4294967295)) [
      | inl worn ↦ let impossible = rw worn at is_done in cc
      | inr fresh ↦ elim (bool_cases (nat_lt 255 address)) [
        | inl past ↦ let impossible = rw (fresh, past) at is_done in cc
        | inr within ↦ elim (bool_cases (nat_eq counter card.counter)) [
          | inl same ↦ (omega (arith, ltb-false 255 address within), eqb-true counter card.counter same)
          | inr other ↦ let impossible = rw (fresh, within, other) at is_done in cc
        ]
      ]
    ]

-- the card after a write that was done
written_is : (card : CardState) (address counter : ℕ) (block : List ℕ) → IsCard card → nat_eq (write_end card address counter) 0 ≡ true
    → (get_or (written_card card address counter block).blocks address [] ≡ block)
    × ((written_card card address counter block).counter ≡ counter + 1)
written_is card address counter block sound is_done =
    let facts = write_end-done card address counter is_done in
    let here : address < length card.blocks = omega (arith, facts.0, sound.blocks) in
    (rw is_done (get_or-set_same card.blocks address block [] here), rw is_done (ap (λ (n : ℕ). n + 1) (sym facts.1)))

pub write_written : (card : CardState) (new : Option CardState) (address counter next : ℕ) (block : List ℕ) → IsCard card
    → Ok next ≡ card_write card address counter
    → new ≡ Some (written_card card address counter block) → IsWritten card new address counter block next
write_written card new address counter next block sound says is_new =
    elim (bool_cases (nat_eq (write_end card address counter) 0)) [
      | inl is_done ↦
          let facts = write_end-done card address counter is_done in
          let same : Ok next ≡ Ok (counter + 1) = says ∙ rw is_done in
          let rises : next ≡ counter + 1 = cc in
          let card_is = written_is card address counter block sound is_done in
          record {
            within = facts.0;
            current = facts.1;
            rose = rises;
            stands = subst (λ (o : Option CardState). IfSome o (λ s. get_or s.blocks address [] ≡ block)) (sym is_new) card_is.0;
            counted = subst (λ (o : Option CardState). IfSome o (λ s. s.counter ≡ next)) (sym is_new) (card_is.1 ∙ sym rises);
          }
      | inr refuses ↦ let impossible = rw refuses at says in cc
    ]

-- a card that took part in a write
pub write_sound : (old new : PortState) (write : List ℕ) (outcome : Result (List ℕ) Failed) (card : CardState)
    → WriteExchanges old new write outcome → old.card ≡ Some card → IsCard card
write_sound old new write outcome card (inl one) is_told = card_sound old new write outcome card one.1 is_told
write_sound old new write outcome card (inr two) is_told = card_sound old two.0 write (Ok two.1) card two.2 is_told
