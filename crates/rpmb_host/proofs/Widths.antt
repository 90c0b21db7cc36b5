-- The fields of frames that are made from the empty frame, and of sealed frames.
use Rattle.std.proofs.Common.{◌≡◌, ℕ, ◌≤◌, List, ◌++◌, length, refl, ap, ◌∙◌, arith, lit<}
use Rattle.std.specs.Int.{w16, w32, to_be_bytes}
use Rattle.std.proofs.lemmas.List.{length-append, length-replicate, take_at}
use Rattle.sha2.proofs.Facts256.{length-sha256}
use Rattle.hmac_keys.specs.Hmac.{hmac}
use Rattle.rpmb_frame.specs.declared.frame.Frame.{Frame}
use Rattle.rpmb_frame.specs.Layout.{HasWidths, frame_bytes, frame_of}
use Rattle.rpmb_frame.specs.Authentication.{IsAuthentic, mac_of, sealed}
use Rattle.byte_fields.proofs.Fields.{rest_after}
use Rattle.rpmb_frame.proofs.RoundTrips.{frame_of-frame_bytes}
use Rattle.rpmb_frame.proofs.Seals.{IsAuthentic-sealed}
use Rattle.rpmb_card.specs.EmptyFrame.{empty_frame}

pub empty_widths : HasWidths empty_frame
unfolding empty_frame
empty_widths = (
  length-replicate {A = ℕ} 196 0,
  length-replicate {A = ℕ} 32 0,
  length-replicate {A = ℕ} 256 0,
  length-replicate {A = ℕ} 16 0,
  lit< tt,
  lit< tt,
  lit< tt,
  lit< tt,
  lit< tt,
)

-- a MAC has 32 bytes
pub length-mac_of : (key bytes : List ℕ) → length (mac_of key bytes) ≡ 32
unfolding mac_of hmac
length-mac_of key bytes = length-sha256 _

-- the frame with its MAC
abbrev pub with_mac : List ℕ → Frame → Frame
with_mac key f = record f { key_or_mac = mac_of key (frame_bytes f) }

-- what stands behind the MAC
abbrev behind_mac : Frame → List ℕ
behind_mac f =
    f.block ++ (f.nonce ++ (to_be_bytes w32 f.counter ++ (to_be_bytes w16 f.address
    ++ (to_be_bytes w16 f.count ++ (to_be_bytes w16 f.result ++ to_be_bytes w16 f.kind)))))

long : (f : Frame) → HasWidths f → 196 ≤ length (frame_bytes f)
unfolding frame_bytes
long f widths = omega (arith, widths.0, length-append f.stuff (f.key_or_mac ++ behind_mac f))

sealed-frame_bytes : (key : List ℕ) (f : Frame) → HasWidths f → sealed key (frame_bytes f) ≡ frame_bytes (with_mac key f)
unfolding sealed frame_bytes
sealed-frame_bytes key f widths =
    let b : List ℕ = frame_bytes f in
    let at_mac = rest_after b f.stuff (f.key_or_mac ++ behind_mac f) 0 196 196 refl widths.0 refl in
    let at_block = rest_after b f.key_or_mac (behind_mac f) 196 32 228 at_mac widths.1 refl in
    let front = take_at f.stuff (f.key_or_mac ++ behind_mac f) 196 widths.0 in
    λ i. front i ++ (mac_of key b ++ at_block i)

pub frame_of-sealed : (key : List ℕ) (f : Frame) → HasWidths f → frame_of (sealed key (frame_bytes f)) ≡ with_mac key f
frame_of-sealed key f widths =
    let with_widths : HasWidths (with_mac key f) = (
      widths.0,
      length-mac_of key (frame_bytes f),
      widths.2,
      widths.3,
      widths.4,
      widths.5,
      widths.6,
      widths.7,
      widths.8,
    ) in
    ap frame_of (sealed-frame_bytes key f widths) ∙ frame_of-frame_bytes (with_mac key f) with_widths

pub sealed_authentic : (key : List ℕ) (f : Frame) → HasWidths f → IsAuthentic key (sealed key (frame_bytes f))
sealed_authentic key f widths = IsAuthentic-sealed key (frame_bytes f) (long f widths) (length-mac_of key (frame_bytes f))
