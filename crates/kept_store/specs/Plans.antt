-- What a call does about the store of a folder, by what lies there.
use Rattle.std.specs.Prelude.{Bool, false, true, Result, Ok, Err}
use Rattle.kept_store.specs.declared.fault.OpenFault.{OpenFault}
use Rattle.kept_store.specs.declared.fault.OpenFault.TheVariants.{CardMissing, Exists, NoStore}
use Rattle.kept_store.specs.declared.planning.Seen.{Seen}
use Rattle.kept_store.specs.declared.planning.Seen.TheVariants.{Nothing, Directory, Export, Card}
use Rattle.kept_store.specs.declared.planning.Asked.{Asked}
use Rattle.kept_store.specs.declared.planning.Asked.TheVariants.{Open, Create, OpenOrCreate}
use Rattle.kept_store.specs.declared.planning.CardPlan.{CardPlan}
use Rattle.kept_store.specs.declared.planning.CardPlan.TheVariants.{MakeCard, OpenCard}

-- what lies in a folder in which the files of the card, of an exported block and of the directory have bytes, or not
abbrev pub seen_of : (card block directory : Bool) → Seen
seen_of true block directory = Card
seen_of false true directory = Export
seen_of false false true = Directory
seen_of false false false = Nothing

-- A card is made only where there is none, and no directory without one. What is there is never made anew.
abbrev pub plan_of : Asked → Seen → Result CardPlan OpenFault
plan_of Create Nothing = Ok MakeCard
plan_of Create Directory = Err Exists
plan_of Create Export = Err Exists
plan_of Create Card = Err Exists
plan_of Open Nothing = Err NoStore
plan_of OpenOrCreate Nothing = Ok MakeCard
plan_of Open Directory = Err CardMissing
plan_of OpenOrCreate Directory = Err CardMissing
plan_of Open Export = Ok MakeCard
plan_of OpenOrCreate Export = Ok MakeCard
plan_of Open Card = Ok OpenCard
plan_of OpenOrCreate Card = Ok OpenCard
