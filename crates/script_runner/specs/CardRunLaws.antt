-- What holds of every run of a script of the card.
use Rattle.std.specs.Prelude.{◌≡◌, ◌⊎◌, ◌≤◌, ℕ, List, [], ◌∷◌, ◌++◌, length, Option, Ok, IsTrue}
use Rattle.rpmb_card.specs.Card.{CardState}
use Rattle.rpmb_card.specs.Port.{PortState}
use Rattle.rpmb_files.specs.Counts.{RoseBy}
use Rattle.rpmb_host.specs.Honest.{HasCard}
use Rattle.card_script.specs.declared.card_line.CardLine.{CardLine}
use Rattle.card_script.specs.declared.card_line.CardLine.TheVariants.{Stop}
use Rattle.card_script.specs.CardScripts.{script_of}
use Rattle.card_maps.specs.CardMaps.{CardMap, card_map}
use Rattle.card_maps.specs.Course as course
use Rattle.script_runner.specs.declared.status.Status.{Status}
use Rattle.script_runner.specs.declared.status.Status.TheVariants.{Done, NoMemory}
use Rattle.script_runner.specs.RunCauses.{World}
use Rattle.script_runner.specs.CardPoints.{CallOnCard, CardPoint, LinesOnCard, device_replies, mounted_on}
use Rattle.script_runner.specs.CardRuns.{CardTrace, RunsCard}

-- The port tells this card with the key: the one that the lines left, or the one that one more call left, in which memory ran out.
abbrev pub EndsOnCard : (key : List ℕ) → CardPoint → (given : PortState) → Type 0
EndsOnCard key last given =
    HasCard given key last.card
    ⊎ ((call : course.CardCall) × (reply : course.CardReply) × (next : CardPoint) × CallOnCard call reply last next × HasCard given key next.card)

-- What a run did to a card with this map: the first of the lines of its script were done, each answered as the finite map says.
pub record RunsOnCard (key : List ℕ) (t : CardTrace) (card : CardState) (m : CardMap) (given : PortState) : Type 0 where
  pub done : List CardLine
  pub of_script : (lines : List CardLine) → script_of t.taken ≡ Ok lines → (left : List CardLine) × (lines ≡ done ++ left)
  pub last : CardPoint
  pub goes : LinesOnCard done t.records (mounted_on card m) last
  pub ends : EndsOnCard key last given

-- no line arms the card
abbrev pub ArmNothing : List CardLine → Type 0
ArmNothing [] = Unit {0}
ArmNothing (Stop exchanges ∷ lines) = ⊥
ArmNothing (line ∷ lines) = ArmNothing lines

module _ (Reliable : Type 0) (w : World) where
  -- Over a card that has the key and the form of objects, the replies of a run are those of a finite map.
  abbrev pub CardRunsAreOfAMap : Type 0
  CardRunsAreOfAMap =
      (key : List ℕ) (left_old left_new held_old held_new : Option (List ℕ)) (handed given : PortState) (status : Status)
      → (r : RunsCard Reliable key left_old left_new held_old held_new w handed given status)
      → (card : CardState) → HasCard handed key card → (m : CardMap) → card_map card ≡ Ok m → RunsOnCard key r.trace card m given

  -- Over a card that has the key, with a generator that never fails, no more replies are for a device than the port's count of faults rose.
  abbrev pub CardRunsCount : Type 0
  CardRunsCount =
      (key : List ℕ) (left_old left_new held_old held_new : Option (List ℕ)) (handed given : PortState) (status : Status)
      → (r : RunsCard Reliable key left_old left_new held_old held_new w handed given status)
      → (card : CardState) → HasCard handed key card → Reliable → RoseBy (device_replies r.trace.records) handed.faults given.faults

  -- Over such a card with the form of objects, and a port that does not fail, a script that arms nothing and is not too long is done to its end,
  -- where the source and the sink do not fail and the sink has room; or there is no memory.
  abbrev pub QuietCardRunsEnd : Type 0
  QuietCardRunsEnd =
      (key : List ℕ) (left_old left_new held_old held_new : Option (List ℕ)) (handed given : PortState) (status : Status)
      → (r : RunsCard Reliable key left_old left_new held_old held_new w handed given status)
      → (card : CardState) → HasCard handed key card → (m : CardMap) → card_map card ≡ Ok m → IsTrue handed.calm → Reliable
      → (lines : List CardLine) → script_of r.trace.taken ≡ Ok lines → length r.trace.taken ≤ 16777216 → ArmNothing lines → ¬ w.source_failed → ¬ w.sink_failed → ¬ w.sink_full
      → (status ≡ Done) ⊎ (status ≡ NoMemory)
