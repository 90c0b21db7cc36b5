-- How a command ends that was not done.
use Rattle.tee_store.specs.declared.keys.KeysFault.{KeysFault}
use Rattle.tee_store.specs.declared.keys.KeysFault.TheVariants.{Missing, System, WrongLength}
use Rattle.tee_store.specs.declared.kinds.Kind.{Kind}
use Rattle.tee_store.specs.declared.kinds.Kind.TheVariants.{Damaged, Device, Refused, Usage}
use Rattle.tee_store.specs.declared.words_fault.WordsFault.TheVariants.{NoMemory}
use Rattle.tee_store.specs.declared.faults.Fault.{Fault}
use Rattle.tee_store.specs.declared.faults.Fault.TheVariants.{Audit, Call, Found, Keys, Open, Words}
use Rattle.tee_store.specs.Kinds.{kind_of_audit, kind_of_open, kind_of_reply}

abbrev pub kind_of_keys : KeysFault → Kind
kind_of_keys Missing = Refused
kind_of_keys WrongLength = Damaged
kind_of_keys (System error) = Device

abbrev pub kind_of_fault : Fault → Kind
kind_of_fault (Words NoMemory) = Device
kind_of_fault (Words fault) = Usage
kind_of_fault (Keys fault) = kind_of_keys fault
kind_of_fault (Open fault) = kind_of_open fault
kind_of_fault (Audit fault) = kind_of_audit fault
kind_of_fault (Found count) = Damaged
kind_of_fault (Call reply in_doubt) = kind_of_reply reply
kind_of_fault fault = Device
