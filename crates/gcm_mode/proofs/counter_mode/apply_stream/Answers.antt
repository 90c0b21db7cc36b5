use Rattle.std.proofs.Common.{◌≡◌, ℕ, ◌+◌, ◌-◌, ◌*◌, ◌/◌, ◌<◌, ◌≤◌, List, length, drop, take, get_or, bit_xor, arith, ap, refl, ◌∙◌, length-take, length-drop}
use Rattle.std.proofs.lemmas.List.{get_or-take, get_or-drop}
use Rattle.aes_block.specs.Cipher.{cipher}
use Rattle.gcm_mode.specs.CounterMode.{counter_block, stream_byte}
use Rattle.gcm_mode.proofs.Stream.{counter-eight, counter-none, eight-stream, gctr-all, gctr-later}
use Rattle.gcm_mode.proofs.Writes.{added-more, left-more, put-length}
use Rattle.gcm_mode.proofs.counter_mode.apply_stream.Goals as goal

pub groups-init : goal.groups-init
groups-init c = record { done = λ k none. absurd (omega arith); left = λ k le. refl; count = counter-none c.args.first.now }

pub groups-preserved : goal.groups-preserved
groups-preserved c =
    let g : ℕ = c.groups.g in
    let text : List ℕ = c.groups.text in
    let n : ℕ = 128 * g + 128 - 128 * g in
    let fits : 128 * g + n ≤ length text = omega (arith, c.groups.auto.text) in
    let len : length c.xor_eight.new.part ≡ n = c.xor_eight.auto.part ∙ length-take n (drop (128 * g) text) ∙ omega (arith, length-drop (128 * g) text) in
    let first : List ℕ = c.args.first.now in
    let e : List ℕ → List ℕ = cipher c.args.key.now in
    let wide : n ≡ 128 = omega arith in
    let stream : (k : ℕ) → k < n → get_or c.xor_eight.new.part k 0 ≡ bit_xor (get_or text (128 * g + k) 0) (stream_byte e first (128 * g + k)) = λ k lt.
    c.xor_eight.ensures k (omega arith)
    ∙ (λ t. bit_xor ((get_or-take n (drop (128 * g) text) k 0 lt ∙ get_or-drop (128 * g) text k 0) t)
    (eight-stream e first c.groups.counter c.encrypt_eight.new.blocks c.next_eight-streams.result g k (omega arith) c.groups.invariant.count c.next_eight-streams.ensures.blocks c.encrypt_eight.ensures t)) in
    record {
      done = added-more (stream_byte e first) c.args.text.now text c.xor_eight.new.part (128 * g) n (128 * (g + 1)) fits len c.groups.invariant.done c.groups.invariant.left stream (omega arith);
      left = left-more c.args.text.now text c.xor_eight.new.part (128 * g) n (128 * (g + 1)) fits len c.groups.invariant.left (omega arith);
      count = c.next_eight-streams.ensures.counter ∙ counter-eight first c.groups.counter g c.groups.invariant.count;
    }

pub returns : goal.returns
returns c =
    let first : List ℕ = c.args.first.now in
    let orig : List ℕ = c.args.text.now in
    let text : List ℕ = c.groups.text in
    let part : List ℕ = c.apply_last.new.text in
    let e : List ℕ → List ℕ = cipher c.args.key.now in
    let g : ℕ = length orig / 128 in
    let at : c.groups.g ≡ g = omega arith in
    let a : ℕ = 128 * g in
    let n : ℕ = length text - a in
    let fits : a + n ≤ length text = omega (arith, c.groups.auto.text) in
    let tail : length (take n (drop a text)) ≡ n = length-take n (drop a text) ∙ omega (arith, length-drop a text) in
    let len : length part ≡ n = c.apply_last.auto.text ∙ tail in
    let counter : c.groups.counter ≡ counter_block first (8 * g) = c.groups.invariant.count ∙ ap (λ j. counter_block first (8 * j)) at in
    let stream : (k : ℕ) → k < n → get_or part k 0 ≡ bit_xor (get_or text (a + k) 0) (stream_byte e first (a + k)) = λ k lt.
    let place : 16 * (8 * g) + k ≡ a + k = omega arith in
    ap (λ xs. get_or xs k 0) c.apply_last.ensures
    ∙ gctr-later e first c.groups.counter (take n (drop a text)) (8 * g) k counter (omega (arith, tail))
    ∙ (λ t. bit_xor ((get_or-take n (drop a text) k 0 lt ∙ get_or-drop a text k 0) t) (stream_byte e first (place t))) in
    gctr-all e first orig _ (put-length a n text part fits len ∙ c.groups.auto.text)
    (added-more (stream_byte e first) orig text part a n (length orig) fits len
    (λ k lt. c.groups.invariant.done k (omega (arith, at))) (λ k le. c.groups.invariant.left k (omega (arith, at)))
    stream (omega (arith, c.groups.auto.text)))
