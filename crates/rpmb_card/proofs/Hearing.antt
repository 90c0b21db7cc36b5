-- Frames that stay heard.
use Rattle.std.proofs.Common.{◌≡◌, ◌∙◌, ◌+◌, ◌-◌, ◌<◌, ◌≤◌, ℕ, List, [], ◌∷◌, length, drop, get_or, Result, Ok, Err, ap, arith, length-append, length-drop}
use Rattle.std.proofs.lemmas.List.{get_or-drop, get_or_append_left}
use Rattle.std.proofs.Math.Seq.{get_or-append_seam}
use Rattle.tee_ports.specs.declared.failed.Failed.{Failed}
use Rattle.rpmb_card.specs.Port.{Exchanged, IsHeard, PortState}

-- the last two of the frames that were heard before an exchange are heard after it
pub stays_heard : (old new : PortState) (frame : List ℕ) (outcome : Result (List ℕ) Failed) → Exchanged old new frame outcome
    → (k : ℕ) → length old.heard ≤ k + 2 → k < length old.heard → IsHeard new (get_or old.heard k [])
stays_heard old new frame (Err failed) x k late lt =
    record { place = k; below = omega (arith, ap length x.heard, lt); is = ap (λ (l : List (List ℕ)). get_or l k []) x.heard }
stays_heard old new frame (Ok answer) x k late lt =
    let n : ℕ = length old.heard - 2 in
    let front : List (List ℕ) = drop n old.heard in
    let long : length front ≡ length old.heard - n = length-drop n old.heard in
    let at : n + (k - n) ≡ k = omega (arith, late) in
    record {
      place = k - n;
      below = omega (arith, ap length x.heard, length-append front (answer ∷ []), long, late, lt);
      is = ap (λ (l : List (List ℕ)). get_or l (k - n) []) x.heard
          ∙ get_or_append_left front (answer ∷ []) [] (k - n) (omega (arith, long, late, lt))
          ∙ get_or-drop n old.heard (k - n) [] ∙ ap (λ (m : ℕ). get_or old.heard m []) at;
    }

-- an answer is heard last
pub answer_heard : (old new : PortState) (frame answer : List ℕ) → Exchanged old new frame (Ok answer) → IsHeard new answer
answer_heard old new frame answer x =
    let front : List (List ℕ) = drop (length old.heard - 2) old.heard in
    record {
      place = length front;
      below = omega (arith, ap length x.heard, length-append front (answer ∷ []));
      is = ap (λ (l : List (List ℕ)). get_or l (length front) []) x.heard
          ∙ get_or-append_seam front answer [] [];
    }
