-- The bytes of a part of an image, place by place.
use Rattle.std.proofs.Common.{◌≡◌, ℕ, zero, suc, ◌+◌, ◌<◌, ◌≤◌, List, length, get_or, take, drop, refl, sym, ◌∙◌, ap, arith}
use Rattle.std.proofs.lemmas.List.{ext_get_or, get_or-take, get_or-drop, length-take-le, length-drop}
use Rattle.node_image.specs.Selection.{bytes_at}

pub length-bytes_at : (image : List ℕ) (at width : ℕ) → length (bytes_at image at width) ≡ width
unfolding bytes_at
length-bytes_at image at zero = refl
length-bytes_at image at (suc n) = ap suc (length-bytes_at image (suc at) n)

pub get_or-bytes_at : (image : List ℕ) (at width j : ℕ) → j < width → get_or (bytes_at image at width) j 0 ≡ get_or image (at + j) 0
unfolding bytes_at
get_or-bytes_at image at zero j lt = absurd (omega arith)
get_or-bytes_at image at (suc n) zero lt = ap (λ (k : ℕ). get_or image k 0) (let e : at ≡ at + 0 = omega arith in e)
get_or-bytes_at image at (suc n) (suc j) lt =
    get_or-bytes_at image (suc at) n j (omega arith) ∙ ap (λ (k : ℕ). get_or image k 0) (let e : suc at + j ≡ at + suc j = omega arith in e)

-- bytes that are equal at each place are equal
pub bytes_same : (a b : List ℕ) (at width : ℕ) → ((j : ℕ) → j < width → get_or a (at + j) 0 ≡ get_or b (at + j) 0) → bytes_at a at width ≡ bytes_at b at width
bytes_same a b at width each =
    ext_get_or 0 (bytes_at a at width) (bytes_at b at width) (length-bytes_at a at width ∙ sym (length-bytes_at b at width))
    (λ j lt. let under : j < width = omega (arith, length-bytes_at a at width) in get_or-bytes_at a at width j under ∙ each j under ∙ sym (get_or-bytes_at b at width j under))

-- and equal bytes at each place
pub bytes_give : (a b : List ℕ) (at width : ℕ) → bytes_at a at width ≡ bytes_at b at width → (j : ℕ) → j < width → get_or a (at + j) 0 ≡ get_or b (at + j) 0
bytes_give a b at width same j lt = sym (get_or-bytes_at a at width j lt) ∙ ap (λ (l : List ℕ). get_or l j 0) same ∙ get_or-bytes_at b at width j lt

-- within the image they are its own
pub bytes_within : (image : List ℕ) (at width : ℕ) → at + width ≤ length image → bytes_at image at width ≡ take width (drop at image)
bytes_within image at width fits =
    let long : length (take width (drop at image)) ≡ width = length-take-le width (drop at image) (omega (arith, length-drop at image)) in
    ext_get_or 0 (bytes_at image at width) (take width (drop at image)) (length-bytes_at image at width ∙ sym long)
    (λ j lt. let under : j < width = omega (arith, length-bytes_at image at width) in get_or-bytes_at image at width j under ∙ sym (get_or-take width (drop at image) j 0 under ∙ get_or-drop at image j 0))
