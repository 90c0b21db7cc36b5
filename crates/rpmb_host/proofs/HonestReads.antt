-- What a card that has the host's key answers to the host's requests, and what the host makes of it.
use Rattle.std.proofs.Common.{◌≡◌, ℕ, Bool, true, false, ◌<◌, ◌^◌, List, [], length, get_or, Some, Ok, Err, if◌then◌else◌, nat_eq, nat_lt, bit_or, bit_and, refl, sym, ◌∙◌, arith, lit<, ◌⊎◌, inl, inr}
use Rattle.std.specs.Str.{bytes_eq}
use Rattle.std.proofs.lemmas.Nat.{or_lt}
use Rattle.std.proofs.lemmas.Bool.{ltb-false, eq-eqb}
use Rattle.rpmb_frame.specs.declared.frame.Frame.{Frame}
use Rattle.rpmb_frame.specs.Layout.{HasWidths, frame_bytes, frame_of}
use Rattle.rpmb_frame.specs.Authentication.{carried_mac, mac_of, sealed}
use Rattle.rpmb_frame.proofs.RoundTrips.{frame_of-frame_bytes}
use Rattle.rpmb_card.proofs.Comparison.{bytes_eq-same}
use Rattle.rpmb_card.specs.EmptyFrame.{empty_frame}
use Rattle.rpmb_card.specs.Protocol.{read_counter_kind, read_block_kind, block_read_kind}
use Rattle.rpmb_card.specs.Card.{CardState, IsCard, given_result, card_answer, counter_answer}
use Rattle.rpmb_host.specs.declared.fault.HostFault.TheVariants.{CardResult}
use Rattle.rpmb_host.specs.declared.verdict.Wanted.{Wanted}
use Rattle.rpmb_host.specs.Verdict.{verdict, fields_verdict}
use Rattle.rpmb_host.specs.Requests.{counter_request, block_request}
use Rattle.rpmb_host.specs.Honest.{card_block}
use Rattle.rpmb_host.specs.Calls.{counter_wanted, block_wanted, told}
use Rattle.rpmb_host.proofs.Widths.{empty_widths, frame_of-sealed, sealed_authentic, with_mac}

pub bool_cases : (b : Bool) → (b ≡ true) ⊎ (b ≡ false)
bool_cases true = inl refl
bool_cases false = inr refl

-- the MAC of a sealed frame is right
pub verdict-sealed : (key : List ℕ) (wanted : Wanted) (f : Frame) → HasWidths f
    → verdict key wanted (sealed key (frame_bytes f)) ≡ fields_verdict wanted (with_mac key f)
verdict-sealed key wanted f widths =
    let b : List ℕ = sealed key (frame_bytes f) in
    let right : bytes_eq (carried_mac b) (mac_of key b) ≡ true = bytes_eq-same _ _ (sealed_authentic key f widths) in
    rw (right, frame_of-sealed key f widths)

-- a card with this key
abbrev pub keyed : List ℕ → CardState → CardState
keyed key s = record s { key = Some key }

pub is_keyed : (key : List ℕ) (s : CardState) → s.key ≡ Some key → keyed key s ≡ s
is_keyed key s e = λ i. record { key = sym e i; counter = s.counter; blocks = s.blocks; register = s.register }

-- a result, and its bit, without the bit
pub given-low : (counter result : ℕ) → bit_and result 127 ≡ result → bit_and (bit_or result 128) 127 ≡ result
    → bit_and (given_result counter result) 127 ≡ result
given-low counter result without with_bit =
    elim (nat_eq counter 4294967295) as (λ (b : Bool). bit_and (if b then bit_or result 128 else result) 127 ≡ result) [
      | true ↦ with_bit
      | false ↦ without
    ]

-- a result with its bit has its width
pub given_width : (counter result : ℕ) → result < 2 ^ 16 → given_result counter result < 2 ^ 16
given_width counter result low =
    elim (nat_eq counter 4294967295) as (λ (b : Bool). (if b then bit_or result 128 else result) < 2 ^ 16) [
      | true ↦ or_lt 16 result 128 low (lit< tt)
      | false ↦ low
    ]

abbrev pub counter_fields : List ℕ → Frame
counter_fields nonce = record empty_frame { nonce = nonce; kind = read_counter_kind }

counter_widths : (nonce : List ℕ) → length nonce ≡ 16 → HasWidths (counter_fields nonce)
counter_widths nonce len =
    let w : HasWidths empty_frame = empty_widths in (w.0, w.1, w.2, len, w.4, w.5, w.6, w.7, lit< tt)

pub request-counter : (nonce : List ℕ) → length nonce ≡ 16 → frame_of (counter_request nonce) ≡ counter_fields nonce
request-counter nonce len = frame_of-frame_bytes (counter_fields nonce) (counter_widths nonce len)

-- a card with a key answers with its counter
pub answer-counter : (key nonce : List ℕ) (s : CardState) → length nonce ≡ 16
    → card_answer (keyed key s) (counter_request nonce) ≡ sealed key (frame_bytes (counter_answer (keyed key s) (counter_fields nonce)))
answer-counter key nonce s len = rw (request-counter nonce len)

-- and the host finds it
pub counter-told : (key nonce : List ℕ) (s : CardState) → IsCard s → length nonce ≡ 16
    → told (λ f. f.counter) (verdict key (counter_wanted nonce) (card_answer (keyed key s) (counter_request nonce))) ≡ Ok s.counter
counter-told key nonce s sound len =
    let w : HasWidths empty_frame = empty_widths in
    let g : Frame = counter_answer (keyed key s) (counter_fields nonce) in
    let g_widths : HasWidths g = (w.0, w.1, w.2, len, sound.counter, w.5, w.6, given_width s.counter 0 (lit< tt), lit< tt) in
    let same : bytes_eq nonce nonce ≡ true = bytes_eq-same nonce nonce refl in
    rw (answer-counter key nonce s len, verdict-sealed key (counter_wanted nonce) g g_widths, same, given-low s.counter 0 refl refl)

abbrev pub block_fields : ℕ → List ℕ → Frame
block_fields address nonce = record empty_frame { nonce = nonce; address = address; kind = read_block_kind }

pub request-block : (address : ℕ) (nonce : List ℕ) → address < 2 ^ 16 → length nonce ≡ 16
    → frame_of (block_request address nonce) ≡ block_fields address nonce
request-block address nonce low len =
    let w : HasWidths empty_frame = empty_widths in
    frame_of-frame_bytes (block_fields address nonce) (w.0, w.1, w.2, len, w.4, low, w.6, w.7, lit< tt)

-- the answer with this block and result
abbrev block_frame : CardState → ℕ → List ℕ → List ℕ → ℕ → Frame
block_frame s address nonce block result = record empty_frame {
  block = block;
  nonce = nonce;
  address = address;
  count = 1;
  result = given_result s.counter result;
  kind = block_read_kind;
}

-- a block that the card has not
block_refused : (key : List ℕ) (address : ℕ) (nonce : List ℕ) (s : CardState) → address < 2 ^ 16 → length nonce ≡ 16
    → nat_lt 255 address ≡ true
    → told (λ f. f.block) (verdict key (block_wanted address nonce) (card_answer (keyed key s) (block_request address nonce)))
    ≡ Err (CardResult (given_result s.counter 4))
block_refused key address nonce s low len past =
    let w : HasWidths empty_frame = empty_widths in
    let g : Frame = block_frame s address nonce empty_frame.block 4 in
    let g_widths : HasWidths g = (w.0, w.1, w.2, len, w.4, low, lit< tt, given_width s.counter 4 (lit< tt), lit< tt) in
    let same : bytes_eq nonce nonce ≡ true = bytes_eq-same nonce nonce refl in
    rw (request-block address nonce low len, past, verdict-sealed key (block_wanted address nonce) g g_widths, same, given-low s.counter 4 refl refl)

-- a block of the card
block_given : (key : List ℕ) (address : ℕ) (nonce : List ℕ) (s : CardState) → IsCard s → address < 2 ^ 16 → length nonce ≡ 16
    → nat_lt 255 address ≡ false
    → told (λ f. f.block) (verdict key (block_wanted address nonce) (card_answer (keyed key s) (block_request address nonce)))
    ≡ Ok (get_or s.blocks address [])
block_given key address nonce s sound low len within =
    let w : HasWidths empty_frame = empty_widths in
    let block : List ℕ = get_or s.blocks address [] in
    let g : Frame = block_frame s address nonce block 0 in
    let block_long : length block ≡ 256 = sound.block address (omega (arith, ltb-false 255 address within)) in
    let g_widths : HasWidths g = (w.0, w.1, block_long, len, w.4, low, lit< tt, given_width s.counter 0 (lit< tt), lit< tt) in
    let same : bytes_eq nonce nonce ≡ true = bytes_eq-same nonce nonce refl in
    rw (request-block address nonce low len, within, verdict-sealed key (block_wanted address nonce) g g_widths, same, given-low s.counter 0 refl refl, eq-eqb address address refl)

pub block-told : (key : List ℕ) (address : ℕ) (nonce : List ℕ) (s : CardState) → IsCard s → address < 2 ^ 16 → length nonce ≡ 16
    → told (λ f. f.block) (verdict key (block_wanted address nonce) (card_answer (keyed key s) (block_request address nonce)))
    ≡ card_block s address
block-told key address nonce s sound low len =
    elim (bool_cases (nat_lt 255 address)) [
      | inl past ↦ block_refused key address nonce s low len past ∙ rw past
      | inr within ↦ block_given key address nonce s sound low len within ∙ rw within
    ]
