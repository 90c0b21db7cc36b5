-- What one reply may be: the machine's; or a device failed, and the call was not done, or is in doubt; or the card's counter is at its end. And
-- where it stands.
use Rattle.std.specs.Prelude.{◌≡◌, ◌++◌, ℕ, List, [], ◌∷◌, length}
use Rattle.store_model.specs.declared.event.Event.{Event}
use Rattle.store_model.specs.declared.event.Event.TheVariants.{Call as CallEvent}
use Rattle.store_model.specs.declared.event.Mark.{Mark}
use Rattle.store_model.specs.Files.{FileMap}
use Rattle.store_model.specs.History.{AreNumbered, count_of}
use Rattle.store_model.specs.Legal.{IsLegalFrom}
use Rattle.store_model.specs.Record.{Record, events_of}
use Rattle.store_model.specs.ReplayState.{opening}
use Rattle.tee_types.specs.declared.call.Call.{Call}
use Rattle.tee_types.specs.declared.reply.Reply.{Reply}
use Rattle.trusted_storage.specs.Objects.{ObjectMap}

-- The events of a phase are a legal history of a store whose files are honest: each reply is one that may be given where the events before it
-- lead. The phase opened with these objects, a session for each of these applications, and no commit in doubt.
pub record IsLegalPhase (objects : ObjectMap) (applications : List (List ℕ)) (events : List Event) : Type 0 where
  -- the file of each object, and the card's write counter, as the phase opened
  pub files : FileMap
  pub counter : ℕ
  -- the events, each with the file of its object
  pub records : List (Record (Unit {0}))
  pub events_are : events_of records ≡ events
  pub legal : IsLegalFrom [] (opening (record { objects = objects; files = files; applications = applications; counter = counter })) records
  -- the calls of each session have the numbers 0, 1, 2 and so on
  pub numbered : AreNumbered events

-- The session's call stands with that reply at that place, the last in the history as the session sees it now. What it saw before begins that
-- history, and no other event of the session has come since.
pub record StandsAt (session number : ℕ) (call : Call) (reply : Reply) (place : ℕ) (before now : List Event) : Type 0 where
  pub mark : Mark
  pub between : List Event
  pub is : now ≡ (before ++ between) ++ CallEvent session number call reply mark ∷ []
  pub none_between : count_of session between ≡ 0
  pub at : length (before ++ between) ≡ place
