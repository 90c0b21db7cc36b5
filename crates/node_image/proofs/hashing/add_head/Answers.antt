use Rattle.std.proofs.Common.{◌++◌, option_copied, sym, ap, subst, append_assoc, ◌∙◌}
use Rattle.sha2.specs.Hashers.{Holds256}
use Rattle.node_image.specs.Hashes.{head_input}
use Rattle.node_image.proofs.hashing.add_head.Goals as goal

pub returns-in-Some : goal.returns-in-Some
returns-in-Some c = λ m held.
    let w = c.in-Some.head.now.wrapped in
    let l = c.to_be_bytes.result in
    let g = c.to_be_bytes-in-Some.result in
    subst (λ z. Holds256 c.update-in-Some-2.new.self z)
    (append_assoc (m ++ w) l g ∙ append_assoc m w (l ++ g)
    ∙ (λ i. m ++ (w ++ (c.to_be_bytes.ensures i ++ c.to_be_bytes-in-Some.ensures i)))
    ∙ ap (λ o. m ++ head_input (option_copied o)) (sym c.in-Some.is))
    (c.update-in-Some-2.ensures _ (c.update-in-Some.ensures _ (c.update.ensures m held)))
