-- A card that is told after a call, with the host's key, was told before it, with that key.
use Rattle.std.proofs.Common.{◌≡◌, ◌⊎◌, ◌∙◌, ◌<◌, ◌^◌, ℕ, List, length, Option, Some, None, Result, Ok, Err, Bool, true, false, if◌then◌else◌, nat_eq, refl, sym, ap, inl, inr}
use Rattle.tee_ports.specs.declared.failed.Failed.{Failed}
use Rattle.rpmb_frame.specs.Layout.{frame_of}
use Rattle.rpmb_card.specs.Protocol.{program_key_kind, write_block_kind}
use Rattle.rpmb_card.specs.Card.{CardState, card_after, programmed, write_result, written}
use Rattle.rpmb_card.specs.Port.{Exchanged, PortState, acted}
use Rattle.rpmb_host.specs.Requests.{result_request, write_request}
use Rattle.rpmb_host.specs.Honest.{HadCard, HasCard}
use Rattle.rpmb_host.specs.Calls.{WriteExchanges}
use Rattle.rpmb_host.proofs.HonestWrites.{request-result, request-write}

-- a call that leaves the card and the key
pub was_left : (old new : PortState) (old_key new_key : List ℕ) (card : CardState) → new.card ≡ old.card → new_key ≡ old_key
    → HasCard new new_key card → HadCard old old_key
was_left old new old_key new_key card same key has =
    (card, record { told = sym same ∙ has.told; keyed = has.keyed ∙ ap (λ (k : List ℕ). Some k) key })

-- a frame that programs no key leaves the key
keeps_key : (s : CardState) (bytes : List ℕ) → nat_eq (frame_of bytes).kind program_key_kind ≡ false → (card_after s bytes).key ≡ s.key
keeps_key s bytes other =
    ap (λ (b : Bool). let r : CardState = if b then programmed s (frame_of bytes).key_or_mac
    else if nat_eq (frame_of bytes).kind write_block_kind then written s (frame_of bytes) (write_result s bytes) else s in r.key) other
    ∙ by_kind (nat_eq (frame_of bytes).kind write_block_kind)
  where
    by_kind : (b : Bool) → (let r : CardState = if b then written s (frame_of bytes) (write_result s bytes) else s in r.key ≡ s.key)
    by_kind true = refl
    by_kind false = refl

was_acted : (o : Option CardState) (frame key : List ℕ) (card : CardState) → nat_eq (frame_of frame).kind program_key_kind ≡ false
    → acted o frame ≡ Some card → card.key ≡ Some key → (was : CardState) × (o ≡ Some was) × (was.key ≡ Some key)
was_acted None frame key card other is keyed = absurd (cc (is))
was_acted (Some was) frame key card other is keyed =
    let e : card_after was frame ≡ card = cc in
    (was, refl, sym (keeps_key was frame other) ∙ ap (λ (c : CardState). c.key) e ∙ keyed)

was_exchanged : (old new : PortState) (frame : List ℕ) (outcome : Result (List ℕ) Failed) (key : List ℕ) (card : CardState)
    → nat_eq (frame_of frame).kind program_key_kind ≡ false → Exchanged old new frame outcome → HasCard new key card → HadCard old key
was_exchanged old new frame (Ok answer) key card other x has =
    let w = was_acted old.card frame key card other (sym x.acts ∙ has.told) has.keyed in (w.0, record { told = w.1; keyed = w.2 })
was_exchanged old new frame (Err failed) key card other x has = by_way x.may_act
  where
    by_way : (new.card ≡ old.card) ⊎ (new.card ≡ acted old.card frame) → HadCard old key
    by_way (inl same) = (card, record { told = sym same ∙ has.told; keyed = has.keyed })
    by_way (inr acts) =
        let w = was_acted old.card frame key card other (sym acts ∙ has.told) has.keyed in (w.0, record { told = w.1; keyed = w.2 })

-- the exchanges of a write
was_exchanges : (old new : PortState) (write : List ℕ) (outcome : Result (List ℕ) Failed) (key : List ℕ) (card : CardState)
    → nat_eq (frame_of write).kind program_key_kind ≡ false → nat_eq (frame_of result_request).kind program_key_kind ≡ false
    → WriteExchanges old new write outcome → HasCard new key card → HadCard old key
was_exchanges old new write outcome key card writes reads (inl one) has = was_exchanged old new write outcome key card writes one.1 has
was_exchanges old new write outcome key card writes reads (inr two) has =
    let w = was_exchanged two.0 new result_request outcome key card reads two.3 has in
    was_exchanged old two.0 write (Ok two.1) key w.0 writes two.2 w.1

pub was_written : (old new : PortState) (old_key new_key : List ℕ) (address counter : ℕ) (block : List ℕ) (outcome : Result (List ℕ) Failed) (card : CardState)
    → address < 2 ^ 16 → counter < 2 ^ 32 → length block ≡ 256 → WriteExchanges old new (write_request old_key address counter block) outcome
    → new_key ≡ old_key → HasCard new new_key card → HadCard old old_key
was_written old new old_key new_key address counter block outcome card low fits long exchanges key has =
    was_exchanges old new (write_request old_key address counter block) outcome old_key card
    (ap (λ f. nat_eq f.kind program_key_kind) (request-write old_key address counter block low fits long))
    (ap (λ f. nat_eq f.kind program_key_kind) request-result)
    exchanges (record { told = has.told; keyed = has.keyed ∙ ap (λ (k : List ℕ). Some k) key })
