-- A sealed frame carries its own MAC.
use Rattle.std.proofs.Common.{◌≡◌, ℕ, ◌≤◌, List, ◌++◌, length, take, drop, refl, sym, ap, ◌∙◌}
use Rattle.std.proofs.lemmas.List.{drop_at, length-take-le}
use Rattle.hmac_keys.specs.Hmac.{hmac}
use Rattle.rpmb_frame.specs.Authentication.{IsAuthentic, mac_of, sealed}
use Rattle.byte_fields.proofs.Fields.{field_here, rest_after}

-- the MAC and what follows it in a sealed frame
drop-sealed : (key bytes : List ℕ) → 196 ≤ length bytes → drop 196 (sealed key bytes) ≡ mac_of key bytes ++ drop 228 bytes
unfolding sealed
drop-sealed key bytes long = drop_at (take 196 bytes) (mac_of key bytes ++ drop 228 bytes) 196 (length-take-le 196 bytes long)

-- the MAC of a frame is not taken over the MAC that it carries
mac_of-sealed : (key bytes : List ℕ) → 196 ≤ length bytes → length (mac_of key bytes) ≡ 32 → mac_of key (sealed key bytes) ≡ mac_of key bytes
unfolding mac_of
mac_of-sealed key bytes long len =
    ap (λ z. hmac key (take 284 z)) (rest_after (sealed key bytes) (mac_of key bytes) (drop 228 bytes) 196 32 228 (drop-sealed key bytes long) len refl)

pub IsAuthentic-sealed : (key bytes : List ℕ) → 196 ≤ length bytes → length (mac_of key bytes) ≡ 32 → IsAuthentic key (sealed key bytes)
IsAuthentic-sealed key bytes long len =
    field_here (sealed key bytes) (mac_of key bytes) (drop 228 bytes) 196 32 (drop-sealed key bytes long) len
    ∙ sym (mac_of-sealed key bytes long len)
