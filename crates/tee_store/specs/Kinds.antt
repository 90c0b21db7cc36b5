-- How a command ends, by what came of it, and its exit status.
use Rattle.std.specs.Prelude.{ℕ}
use Rattle.folder_audit.specs.declared.fault.AuditFault.{AuditFault}
use Rattle.folder_audit.specs.declared.fault.AuditFault.TheVariants.{Refused as AuditRefused}
use Rattle.host_card.specs.declared.card_fault.CardFault.{CardFault}
use Rattle.host_card.specs.declared.card_fault.CardFault.TheVariants.{Failed as CardFailed, NoMemory as NoCardMemory}
use Rattle.kept_store.specs.declared.fault.OpenFault.{OpenFault}
use Rattle.kept_store.specs.declared.fault.OpenFault.TheVariants.{Block, Busy as StoreBusy, Card, CardMissing, Store, Unlocked, Unreadable}
use Rattle.store_commit.specs.declared.fault.MountFault.{MountFault}
use Rattle.store_commit.specs.declared.fault.MountFault.TheVariants.{Failed as MountFailed, NoMemory as NoMountMemory, NoStore, OldFormat, Spent}
use Rattle.tee_types.specs.declared.reply.Cause.{Cause}
use Rattle.tee_types.specs.declared.reply.Cause.TheVariants.{Fault}
use Rattle.tee_types.specs.declared.reply.Code.{Code}
use Rattle.tee_types.specs.declared.reply.Code.TheVariants.{NoSpace}
use Rattle.tee_types.specs.declared.reply.Reply.{Reply}
use Rattle.tee_types.specs.declared.reply.Reply.TheVariants.{Corrupt, CounterSpent, Misuse, NoMemory, NotAvailable, Refused as RefusedReply}
use Rattle.tee_store.specs.declared.kinds.Kind.{Kind}
use Rattle.tee_store.specs.declared.kinds.Kind.TheVariants.{Busy, Damaged, Device, Done, Refused, Usage}

abbrev pub status_of : Kind → ℕ
status_of Done = 0
status_of Refused = 1
status_of Usage = 2
status_of Damaged = 3
status_of Device = 4
status_of Busy = 5

abbrev pub kind_of_code : Code → Kind
kind_of_code NoSpace = Device
kind_of_code code = Refused

abbrev pub kind_of_cause : Cause → Kind
kind_of_cause (Fault device count) = Device
kind_of_cause cause = Damaged

abbrev pub kind_of_reply : Reply → Kind
kind_of_reply (RefusedReply code) = kind_of_code code
kind_of_reply (Misuse reason) = Refused
kind_of_reply Corrupt = Damaged
kind_of_reply (NotAvailable cause) = kind_of_cause cause
kind_of_reply (CounterSpent counter) = Device
kind_of_reply NoMemory = Device
kind_of_reply reply = Done

abbrev pub kind_of_card : CardFault → Kind
kind_of_card (CardFailed count) = Device
kind_of_card NoCardMemory = Device
kind_of_card fault = Damaged

abbrev pub kind_of_mount : MountFault → Kind
kind_of_mount NoStore = Refused
kind_of_mount (OldFormat file) = Refused
kind_of_mount (MountFailed cause) = kind_of_cause cause
kind_of_mount Spent = Device
kind_of_mount NoMountMemory = Device
kind_of_mount fault = Damaged

abbrev pub kind_of_open : OpenFault → Kind
kind_of_open (Card fault) = kind_of_card fault
kind_of_open (Store fault) = kind_of_mount fault
kind_of_open StoreBusy = Busy
kind_of_open CardMissing = Damaged
kind_of_open Unreadable = Device
kind_of_open Unlocked = Device
kind_of_open (Block count) = Device
kind_of_open fault = Refused

abbrev pub kind_of_audit : AuditFault → Kind
kind_of_audit (AuditRefused fault) = kind_of_mount fault
kind_of_audit fault = Device
