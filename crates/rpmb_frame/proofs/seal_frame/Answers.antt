use Rattle.std.proofs.Common.{◌≡◌, ◌+◌, ◌++◌, length, take, drop, sym, ap, ◌∙◌, arith}
use Rattle.rpmb_frame.specs.Authentication.{carried_mac, mac_of, sealed}
use Rattle.rpmb_frame.proofs.Seals.{IsAuthentic-sealed}
use Rattle.rpmb_frame.proofs.seal_frame.Goals as goal

pub returns-clause-sealed : goal.returns-clause-sealed
unfolding sealed
returns-clause-sealed c =
    let len : 196 + length c.mac-mac.result ≡ 228 = omega arith in
    c.put.ensures ∙ (λ i. take 196 c.args.bytes.now ++ (c.mac-mac.ensures i ++ drop (len i) c.args.bytes.now))

pub returns-clause-verifies : goal.returns-clause-verifies
returns-clause-verifies c =
    let len : length (mac_of c.args.key.now c.args.bytes.now) ≡ 32 = sym (ap length c.mac-mac.ensures) ∙ omega arith in
    ap carried_mac (returns-clause-sealed c)
    ∙ IsAuthentic-sealed c.args.key.now c.args.bytes.now (omega arith) len
    ∙ sym (ap (mac_of c.args.key.now) (returns-clause-sealed c))
