-- What a rename and a delete ask for.
use Rattle.std.specs.Prelude.{List, ℕ}
use Rattle.call_rules.specs.declared.decision.OpenObject.{OpenObject}
use Rattle.call_steps.specs.declared.SessionMove.{SessionMove}
use Rattle.call_steps.specs.declared.SessionMove.TheVariants.{Replaces}
use Rattle.call_steps.specs.NameLaws.{renamed_entry}
use Rattle.call_steps.specs.declared.EntryChange.{EntryChange}
use Rattle.call_steps.specs.declared.EntryChange.TheVariants.{Clear, Put}
use Rattle.store_model.specs.declared.name.ObjectName.{ObjectName}

-- the object's entry is put again, under the new identifier
abbrev pub rename_change : OpenObject → (id : List ℕ) → EntryChange
rename_change found id = Put found.held.index (renamed_entry found.held.entry id)

-- the session's handle of that number is on the object of the new name
abbrev pub rename_step : OpenObject → (handle : ℕ) → ObjectName → SessionMove
rename_step found handle name = Replaces handle (record found.handle { name = name })

-- the object's entry goes
abbrev pub delete_change : OpenObject → EntryChange
delete_change found = Clear found.held.index
