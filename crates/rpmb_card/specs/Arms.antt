-- The faults that a simulated device was told to make (its arms). Calls are counted from 1 since the last arming.
use Rattle.std.specs.Prelude.{ℕ, Bool, ◌==◌, ◌&&◌, if◌then◌else◌, nat_lt, Option, Some, None, is_none, List, [], ◌∷◌, ◌++◌, length, false}
use Rattle.std.specs.List.{list_any}
use Rattle.std.specs.Option.{option_map_or}
use Rattle.tee_ports.specs.Faults.{next_count}
use Rattle.rpmb_card.specs.declared.arms.Fate.{Fate}
use Rattle.rpmb_card.specs.declared.arms.Fate.TheVariants.{Passes, Fails, Loses}

-- how many calls were made, after how many all fail, which fail, and which answers are lost
pub record Arms : Type 0 where
  pub calls : ℕ
  pub stop_after : Option ℕ
  pub failing : List ℕ
  pub losing : List ℕ

abbrev pub no_arms : Arms
no_arms = record { calls = 0; stop_after = None; failing = []; losing = [] }

-- nothing is armed
abbrev pub is_unarmed : Arms → Bool
is_unarmed arms = is_none arms.stop_after && length arms.failing == 0 && length arms.losing == 0

-- the number of the next call
abbrev pub next_call : Arms → ℕ
next_call arms = next_count arms.calls

abbrev pub names : List ℕ → ℕ → Bool
names calls call = list_any (λ c. c == call) calls

-- what becomes of the next call: it fails without reaching the card, or its answer is lost
abbrev pub fate_of : Arms → Fate
fate_of arms =
    if option_map_or (λ calls. nat_lt calls (next_call arms)) arms.stop_after false then Fails
    else if names arms.failing (next_call arms) then Fails
    else if names arms.losing (next_call arms) then Loses
    else Passes

-- after one more call
abbrev pub count_call : Arms → Arms
count_call arms = record arms { calls = next_call arms }

-- after each arming
abbrev pub arm_stop : Arms → ℕ → Arms
arm_stop arms calls = record arms { calls = 0; stop_after = Some calls }

abbrev pub arm_failure : Arms → ℕ → Arms
arm_failure arms call = record arms { calls = 0; failing = arms.failing ++ call ∷ [] }

abbrev pub arm_loss : Arms → ℕ → Arms
arm_loss arms call = record arms { calls = 0; losing = arms.losing ++ call ∷ [] }
