-- A create by its parts.
use Rattle.std.proofs.Common.{List, Option, refl, subst, sym, true, ◌≡◌}
use Rattle.call_rules.specs.declared.decision.NewPlace.{NewPlace}
use Rattle.dir_records.specs.declared.entry.DirEntry.{DirEntry}
use Rattle.open_table.specs.Table.{TableState}
use Rattle.serial_calls.specs.Rules.{IsCreate, MakesByRule, MayCreate, create_call, new_object}
use Rattle.store_model.specs.Files.{makes_object}
use Rattle.store_model.specs.Machine.{Session}
use Rattle.tee_types.specs.declared.call.Call.{Call}
use Rattle.tee_types.specs.declared.call.Call.TheVariants.{Create}
use Rattle.tee_types.specs.declared.reply.Reply.{Reply}

pub create_is : (call : Call) → IsCreate call → create_call (new_object call) ≡ call
create_is (Create id flags attributes bytes) create = refl
create_is call create = absurd create

pub makes_by_rule : (entries : List (Option DirEntry)) (table : TableState) (session : Session) (call : Call) (place : NewPlace) → IsCreate call → MayCreate entries table session (new_object call) place
    → MakesByRule entries table session call
makes_by_rule entries table session (Create id flags attributes bytes) place create may =
    λ s i matches. subst (λ (r : Reply). makes_object (Create id flags attributes bytes) r ≡ true) (sym (may.rule s i matches)) refl
makes_by_rule entries table session call place create may = absurd create
