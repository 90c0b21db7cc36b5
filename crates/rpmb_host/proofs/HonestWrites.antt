-- What a card that has the host's key makes of a write, and what the host makes of its result.
use Rattle.std.proofs.Common.{◌≡◌, ℕ, true, false, ◌+◌, ◌<◌, ◌^◌, List, length, Ok, Err, if◌then◌else◌, nat_eq, nat_lt, bit_and, refl, sym, ap, subst, ◌∙◌, arith, lit<, inl, inr}
use Rattle.std.specs.Str.{bytes_eq}
use Rattle.std.proofs.lemmas.Bool.{eq-eqb, eqb-true}
use Rattle.rpmb_frame.specs.declared.frame.Frame.{Frame}
use Rattle.rpmb_frame.specs.Layout.{HasWidths, frame_of}
use Rattle.rpmb_frame.specs.Authentication.{carried_mac, mac_of}
use Rattle.rpmb_frame.proofs.RoundTrips.{frame_of-frame_bytes}
use Rattle.rpmb_card.proofs.Comparison.{bytes_eq-same}
use Rattle.rpmb_card.specs.EmptyFrame.{empty_frame}
use Rattle.rpmb_card.specs.Protocol.{read_result_kind, block_written_kind}
use Rattle.rpmb_card.specs.Card.{CardState, IsCard, given_result, card_answer, card_after, programmed, write_result, written}
use Rattle.rpmb_host.specs.declared.fault.HostFault.TheVariants.{CardResult}
use Rattle.rpmb_host.specs.Verdict.{verdict}
use Rattle.rpmb_host.specs.Requests.{result_request, write_fields, write_request}
use Rattle.rpmb_host.specs.Honest.{card_write, write_end, written_card}
use Rattle.rpmb_host.specs.Calls.{told, write_wanted}
use Rattle.rpmb_host.proofs.Widths.{empty_widths, frame_of-sealed, sealed_authentic, with_mac}
use Rattle.rpmb_host.proofs.HonestReads.{bool_cases, given-low, given_width, keyed, verdict-sealed}

write_widths : (address counter : ℕ) (block : List ℕ) → address < 2 ^ 16 → counter < 2 ^ 32 → length block ≡ 256
    → HasWidths (write_fields address counter block)
write_widths address counter block low fits long =
    let w : HasWidths empty_frame = empty_widths in (w.0, w.1, long, w.3, fits, low, lit< tt, w.7, lit< tt)

pub request-write : (key : List ℕ) (address counter : ℕ) (block : List ℕ) → address < 2 ^ 16 → counter < 2 ^ 32 → length block ≡ 256
    → frame_of (write_request key address counter block) ≡ with_mac key (write_fields address counter block)
request-write key address counter block low fits long =
    frame_of-sealed key (write_fields address counter block) (write_widths address counter block low fits long)

-- how the write ends
pub write_result-request : (key : List ℕ) (address counter : ℕ) (block : List ℕ) (s : CardState)
    → address < 2 ^ 16 → counter < 2 ^ 32 → length block ≡ 256
    → write_result (keyed key s) (write_request key address counter block) ≡ write_end s address counter
write_result-request key address counter block s low fits long =
    let f : Frame = write_fields address counter block in
    let w : List ℕ = write_request key address counter block in
    let right : bytes_eq (carried_mac w) (mac_of key w) ≡ true =
    bytes_eq-same _ _ (sealed_authentic key f (write_widths address counter block low fits long)) in
    rw (request-write key address counter block low fits long, right)

-- the card after the write
pub card_after-write : (key : List ℕ) (address counter : ℕ) (block : List ℕ) (s : CardState)
    → address < 2 ^ 16 → counter < 2 ^ 32 → length block ≡ 256
    → card_after (keyed key s) (write_request key address counter block) ≡ written_card (keyed key s) address counter block
card_after-write key address counter block s low fits long =
    let ends = write_result-request key address counter block s low fits long in
    let w : List ℕ = write_request key address counter block in
    let by_kind : Frame → CardState = λ f.
    if nat_eq f.kind 1 then programmed (keyed key s) f.key_or_mac
    else if nat_eq f.kind 3 then written (keyed key s) f (write_result (keyed key s) w)
    else keyed key s in
    ap by_kind (request-write key address counter block low fits long)
    ∙ ap (λ (n : ℕ). written (keyed key s) (write_fields address counter block) n) ends

abbrev result_fields : Frame
result_fields = record empty_frame { kind = read_result_kind }

pub request-result : frame_of result_request ≡ result_fields
request-result =
    let w : HasWidths empty_frame = empty_widths in
    frame_of-frame_bytes result_fields (w.0, w.1, w.2, w.3, w.4, w.5, w.6, w.7, lit< tt)

-- the answer to a read of the result
abbrev result_frame : (counter address result : ℕ) → Frame
result_frame counter address result = record empty_frame {
  counter = counter;
  address = address;
  result = given_result counter result;
  kind = block_written_kind;
}

result_widths : (counter address result : ℕ) → counter < 2 ^ 32 → address < 2 ^ 16 → result < 2 ^ 16
    → HasWidths (result_frame counter address result)
result_widths counter address result fits low small =
    let w : HasWidths empty_frame = empty_widths in
    (w.0, w.1, w.2, w.3, fits, low, w.6, given_width counter result small, lit< tt)

-- a write that the card refused
refused : (key : List ℕ) (address counter n : ℕ) (block : List ℕ) (s : CardState) → address < 2 ^ 16 → s.counter < 2 ^ 32
    → n < 2 ^ 16 → nat_eq n 0 ≡ false → nat_eq (bit_and (given_result s.counter n) 127) 0 ≡ false
    → told (λ f. f.counter) (verdict key (write_wanted address counter)
    (card_answer (written (keyed key s) (write_fields address counter block) n) result_request))
    ≡ Err (CardResult (given_result s.counter n))
refused key address counter n block s low fits small refuses says =
    let g : Frame = result_frame s.counter address n in
    let g_widths : HasWidths g = result_widths s.counter address n fits low small in
    rw (request-result, refuses, verdict-sealed key (write_wanted address counter) g g_widths, says)

-- a write that was done
done : (key : List ℕ) (address counter : ℕ) (block : List ℕ) (s : CardState) → address < 2 ^ 16 → counter + 1 < 2 ^ 32
    → counter ≡ s.counter
    → told (λ f. f.counter) (verdict key (write_wanted address counter)
    (card_answer (written (keyed key s) (write_fields address counter block) 0) result_request))
    ≡ Ok (counter + 1)
done key address counter block s low fits same =
    let g : Frame = result_frame (s.counter + 1) address 0 in
    let g_fits : s.counter + 1 < 2 ^ 32 = omega arith in
    let g_widths : HasWidths g = result_widths (s.counter + 1) address 0 g_fits low (lit< tt) in
    let next : nat_eq (s.counter + 1) (counter + 1) ≡ true = eq-eqb (s.counter + 1) (counter + 1) (omega arith) in
    rw (request-result, verdict-sealed key (write_wanted address counter) g g_widths, given-low (s.counter + 1) 0 refl refl, next, eq-eqb address address refl)
    (ap (λ (c : ℕ). Ok (c + 1)) (sym same))

-- a result that refuses, with its bit or without
says_no : (counter n : ℕ) → bit_and (given_result counter n) 127 ≡ n → nat_eq n 0 ≡ false
    → nat_eq (bit_and (given_result counter n) 127) 0 ≡ false
says_no counter n low refuses = ap (λ (m : ℕ). nat_eq m 0) low ∙ refuses

-- what the host makes of the result, by how the write ended
pub write-told : (key : List ℕ) (address counter : ℕ) (block : List ℕ) (s : CardState) → IsCard s → address < 2 ^ 16
    → counter + 1 < 2 ^ 32
    → told (λ f. f.counter) (verdict key (write_wanted address counter)
    (card_answer (written (keyed key s) (write_fields address counter block) (write_end s address counter)) result_request))
    ≡ card_write s address counter
write-told key address counter block s sound low fits =
    let refuse : (n : ℕ) → n < 2 ^ 16 → nat_eq n 0 ≡ false → bit_and (given_result s.counter n) 127 ≡ n
    → told (λ f. f.counter) (verdict key (write_wanted address counter)
    (card_answer (written (keyed key s) (write_fields address counter block) n) result_request))
    ≡ Err (CardResult (given_result s.counter n)) =
    λ n small refuses stays. refused key address counter n block s low sound.counter small refuses (says_no s.counter n stays refuses) in
    let Tells : ℕ → Type 0 = λ n.
    told (λ f. f.counter) (verdict key (write_wanted address counter)
    (card_answer (written (keyed key s) (write_fields address counter block) n) result_request))
    ≡ (if nat_eq n 0 then Ok (counter + 1) else Err (CardResult (given_result s.counter n))) in
    elim (bool_cases (nat_eq s.counter 4294967295)) [
      | inl worn ↦
          let ends : write_end s address counter ≡ 5 = rw worn in
          subst Tells (sym ends) (refuse 5 (lit< tt) refl (given-low s.counter 5 refl refl))
      | inr fresh ↦ elim (bool_cases (nat_lt 255 address)) [
        | inl past ↦
            let ends : write_end s address counter ≡ 4 = rw (fresh, past) in
            subst Tells (sym ends) (refuse 4 (lit< tt) refl (given-low s.counter 4 refl refl))
        | inr within ↦ elim (bool_cases (nat_eq counter s.counter)) [
          | inl same ↦
              let ends : write_end s address counter ≡ 0 = rw (fresh, within, same) in
              subst Tells (sym ends) (done key address counter block s low fits (eqb-true counter s.counter same))
          | inr other ↦
              let ends : write_end s address counter ≡ 3 = rw (fresh, within, other) in
              subst Tells (sym ends) (refuse 3 (lit< tt) refl (given-low s.counter 3 refl refl))
        ]
      ]
    ]
