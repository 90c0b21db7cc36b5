-- A port that carries frames to a card, as contracts see it, and what one exchange of a frame for an answer does to it.
use Rattle.std.specs.Prelude.{◌≡◌, ◌⊎◌, ℕ, Bool, ◌-◌, ◌<◌, ◌≤◌, ◌^◌, List, ◌∷◌, [], ◌++◌, length, drop, slice_index_or, Option, Some, None, Result, Ok, Err, IsTrue, IsOk, IsErr, IfOk, IfErr, OnOk, OnErr, IfSome, ◌||◌}
use Rattle.tee_ports.specs.declared.failed.Failed.{Failed}
use Rattle.tee_ports.specs.Faults.{Rose}
use Rattle.rpmb_card.specs.Card.{CardState, IsCard, card_after, card_answer}
use Rattle.rpmb_card.specs.declared.arms.Fate.{Fate}
use Rattle.rpmb_card.specs.declared.arms.Fate.TheVariants.{Passes, Fails, Loses}
use Rattle.rpmb_card.specs.Arms.{Arms, fate_of, count_call, is_unarmed}

pub record PortState : Type 0 where
  -- how many exchanges failed, and for want of memory
  pub faults : ℕ
  pub starved : ℕ
  -- the card behind the port, if the port tells one
  pub card : Option CardState
  -- the last three frames that came as answers, or fewer where fewer came, the latest last
  pub heard : List (List ℕ)
  -- no exchange fails until faults are armed
  pub calm : Bool
  -- the port tells which faults are armed, and which these are
  pub tells_arms : Bool
  pub arms : Arms

-- what holds of every port
pub record Sound (port : PortState) : Type 0 where
  pub card : IfSome port.card IsCard
  pub faults : port.faults < 2 ^ 64
  -- a card never starves
  pub starved : port.starved ≡ 0
  pub heard : length port.heard ≤ 3
  -- one that tells its armed faults, and has none, is calm
  pub calm : IsTrue port.tells_arms → IsTrue (is_unarmed port.arms) → IsTrue port.calm

-- the frame is one of those that were heard
pub record IsHeard (port : PortState) (frame : List ℕ) : Type 0 where
  pub place : ℕ
  pub below : place < length port.heard
  pub is : slice_index_or port.heard place [] ≡ frame

-- the frame that was heard last
abbrev pub last_heard : PortState → List ℕ
last_heard port = slice_index_or port.heard (length port.heard - 1) []

-- the frames heard after one more
abbrev pub heard_after : List (List ℕ) → List ℕ → List (List ℕ)
heard_after heard answer = drop (length heard - 2) heard ++ answer ∷ []

abbrev pub heard_with : List (List ℕ) → Result (List ℕ) Failed → List (List ℕ)
heard_with heard (Ok answer) = heard_after heard answer
heard_with heard (Err failed) = heard

-- the card after it took the frame, if a card is told
abbrev pub acted : Option CardState → List ℕ → Option CardState
acted None frame = None
acted (Some card) frame = Some (card_after card frame)

-- what an armed fault makes of an exchange
abbrev pub Meets : Fate → Option CardState → Option CardState → List ℕ → Result (List ℕ) Failed → Type 0
Meets Passes old new frame result = IsOk result
Meets Fails old new frame result = IsErr result × (new ≡ old)
Meets Loses old new frame result = IsErr result × (new ≡ acted old frame)

-- one exchange: this frame was sent, and this came of it
pub record Exchanged (old new : PortState) (frame : List ℕ) (result : Result (List ℕ) Failed) : Type 0 where
  -- a card that is told acts once and answers; after a failure it has not acted, or acted once
  pub answer : IfOk result (λ answer. IfSome old.card (λ card. answer ≡ card_answer card frame))
  pub acts : OnOk result (new.card ≡ acted old.card frame)
  pub may_act : OnErr result ((new.card ≡ old.card) ⊎ (new.card ≡ acted old.card frame))
  pub sound : IfSome old.card IsCard
  pub stays_sound : IfSome new.card IsCard
  -- only an answer is heard
  pub heard : new.heard ≡ heard_with old.heard result
  -- a failure raised the count, and carries it; an answer left it; a card never starves
  pub passed : OnOk result (new.faults ≡ old.faults)
  pub rose : OnErr result (Rose old.faults new.faults)
  pub carried : IfErr result (λ failed. failed.count ≡ new.faults)
  pub counted : old.faults ≤ new.faults
  pub fits : new.faults < 2 ^ 64
  pub starved : new.starved ≡ old.starved
  -- a calm port answers, and stays calm
  pub calm : IsTrue old.calm → IsOk result
  pub stays_calm : IsTrue old.calm → IsTrue new.calm
  -- a port that tells its armed faults fails exactly as they say
  pub tells_arms : new.tells_arms ≡ old.tells_arms
  pub fate : IsTrue old.tells_arms → Meets (fate_of old.arms) old.card new.card frame result
  pub counted_call : IsTrue old.tells_arms → new.arms ≡ count_call old.arms

-- An arming, or its end, changes only what is armed and whether the port is calm; a port that tells its armed faults
-- then has these. Without any it is calm, if it tells them or was calm before.
pub record Rearmed (old new : PortState) (arms : Arms) : Type 0 where
  pub others : new ≡ record old { calm = new.calm; arms = new.arms }
  pub armed : IsTrue old.tells_arms → new.arms ≡ arms
  pub calm : IsTrue (is_unarmed arms) → IsTrue (old.tells_arms || old.calm) → IsTrue new.calm
