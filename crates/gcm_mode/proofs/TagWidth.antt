-- How long a tag is.
use Rattle.std.proofs.Common.{◌≡◌, ℕ, List, length, refl, ◌∙◌}
use Rattle.gcm_mode.specs.Gcm.{gcm_tag, pre_counter_block}
use Rattle.gcm_mode.proofs.Stream.{length-gctr}

pub tag_width : (e : List ℕ → List ℕ) (iv aad ciphertext : List ℕ) → length (gcm_tag e iv aad ciphertext) ≡ 16
unfolding gcm_tag
tag_width e iv aad ciphertext = length-gctr e (pre_counter_block e iv) _ ∙ refl
