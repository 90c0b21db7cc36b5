-- A card that was never used is a card.
use Rattle.std.proofs.Common.{◌≡◌, ℕ, List, [], length, replicate, ap, sym, ◌∙◌, lit<}
use Rattle.std.proofs.lemmas.List.{length-replicate, get_or-replicate}
use Rattle.rpmb_card.specs.Card.{IsCard, blank, keyed, zero_blocks}

pub blank_sound : IsCard blank
unfolding zero_blocks
blank_sound =
    let zeros : List ℕ = replicate 256 0 in record {
      key = λ key is. cc;
      counter = lit< tt;
      blocks = length-replicate 256 zeros;
      block = λ address lt. ap length (get_or-replicate 256 address zeros [] lt) ∙ length-replicate {A = ℕ} 256 0;
    }

-- and so is one that has a key and was never written
pub keyed_sound : (key : List ℕ) → length key ≡ 32 → IsCard (keyed key)
keyed_sound key long = record { key = λ it is. let same : key ≡ it = cc (is) in ap length (sym same) ∙ long; counter = blank_sound.counter; blocks = blank_sound.blocks; block = blank_sound.block }
