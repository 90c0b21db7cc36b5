-- Whether a frame is the wanted answer (JESD84-B51, 6.6.22): its MAC, its nonce, its kind, its result, its write counter
-- and its address, in this order.
use Rattle.std.specs.Prelude.{ℕ, Bool, true, false, ◌==◌, not, if◌then◌else◌, bit_and, List, Option, Some, None, unwrap_or, Result, Ok, Err}
use Rattle.std.specs.Str.{bytes_eq}
use Rattle.tee_types.specs.declared.reply.FrameFault.TheVariants.{Mac, Nonce, Kind, Counter, Address}
use Rattle.rpmb_frame.specs.declared.frame.Frame.{Frame}
use Rattle.rpmb_frame.specs.Layout.{frame_of}
use Rattle.rpmb_frame.specs.Authentication.{carried_mac, mac_of}
use Rattle.rpmb_host.specs.declared.fault.HostFault.{HostFault}
use Rattle.rpmb_host.specs.declared.fault.HostFault.TheVariants.{Failed, BadFrame, CardResult, Spent}
use Rattle.rpmb_card.specs.Protocol.{result_bits}
use Rattle.rpmb_host.specs.declared.verdict.Wanted.{Wanted}

-- a value is wanted, and this is another
abbrev pub is_other_nonce : Option (List ℕ) → List ℕ → Bool
is_other_nonce None found = false
is_other_nonce (Some want) found = not (bytes_eq found want)

abbrev pub is_other : Option ℕ → ℕ → Bool
is_other None found = false
is_other (Some want) found = not (found == want)

-- the fields behind the result
abbrev pub place_verdict : Wanted → Frame → Result Frame HostFault
place_verdict wanted f =
    if is_other wanted.counter f.counter then Err (BadFrame (Counter (unwrap_or wanted.counter 0) f.counter))
    else if is_other wanted.address f.address then Err (BadFrame (Address (unwrap_or wanted.address 0) f.address))
    else Ok f

-- all fields but the MAC
abbrev pub fields_verdict : Wanted → Frame → Result Frame HostFault
fields_verdict wanted f =
    if is_other_nonce wanted.nonce f.nonce then Err (BadFrame (Nonce (unwrap_or wanted.nonce f.nonce) f.nonce))
    else if not (f.kind == wanted.kind) then Err (BadFrame (Kind wanted.kind f.kind))
    else if not (bit_and f.result result_bits == 0) then Err (CardResult f.result)
    else place_verdict wanted f

-- the frame, or what is wrong with it first
abbrev pub verdict : (key : List ℕ) → Wanted → (bytes : List ℕ) → Result Frame HostFault
verdict key wanted bytes =
    if bytes_eq (carried_mac bytes) (mac_of key bytes) then fields_verdict wanted (frame_of bytes)
    else Err (BadFrame Mac)

-- a call's answer came of a frame: an exchange neither failed nor was left out
abbrev pub is_of_frame : {A : Type 0} → Result A HostFault → Bool
is_of_frame (Ok value) = true
is_of_frame (Err (Failed count)) = false
is_of_frame (Err (BadFrame fault)) = true
is_of_frame (Err (CardResult result)) = true
is_of_frame (Err Spent) = false
