use Rattle.std.proofs.Common.{◌≡◌, ℕ, ◌+◌, ◌*◌, List, get_or, bit_xor, arith, ap, ◌∙◌, refl}
use Rattle.aes_block.specs.Cipher.{cipher}
use Rattle.gcm_mode.specs.CounterMode.{stream_byte}
use Rattle.gcm_mode.proofs.Stream.{counter-none, eight-stream, gctr-all}
use Rattle.gcm_mode.proofs.counter_mode.apply_last.Goals as goal

pub returns-then-text-gt0 : goal.returns-then-text-gt0
returns-then-text-gt0 c =
    let first : List ℕ = c.args.first.now in
    let e : List ℕ → List ℕ = cipher c.args.key.now in
    gctr-all e first c.args.text.now _ c.xor_last.auto.part (λ k lt.
    let place : 128 * 0 + k ≡ k = omega arith in
    c.xor_last.ensures k lt
    ∙ ap (bit_xor (get_or c.args.text.now k 0))
    (eight-stream e first first c.encrypt_eight.new.blocks c.next_eight-streams.result 0 k (omega arith) (counter-none first) c.next_eight-streams.ensures.blocks c.encrypt_eight.ensures
    ∙ ap (stream_byte e first) place))

pub returns-else-text-gt0 : goal.returns-else-text-gt0
returns-else-text-gt0 c = gctr-all _ _ _ _ refl (λ k lt. absurd (omega arith))
