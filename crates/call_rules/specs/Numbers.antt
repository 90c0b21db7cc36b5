-- The numbers of a session's live handles.
use Rattle.enumerators.specs.Places.{IsNumbered}
use Rattle.store_model.specs.Machine.{Session}

-- they rise, each below that of the next handle
abbrev pub HasNumbers : Session → Type 0
HasNumbers session = IsNumbered 0 session.handles session.next_handle
