use Rattle.std.proofs.Common.{◌≡◌, ℕ, List, false, refl, sym, subst}
use Rattle.tee_types.specs.declared.flags.Flags.{Flags}
use Rattle.tee_types.specs.declared.call.Call.{Call}
use Rattle.tee_types.specs.declared.call.Call.TheVariants.{Create, Write, Truncate}
use Rattle.app_totals.specs.Meant.{may_grow}
use Rattle.app_totals.specs.OwnHandles.{HasOwnHandles}
use Rattle.app_totals.proofs.LeftTotals.{quiet-none}
use Rattle.call_rules.proofs.growth.grown.Goals as goal

quiet : (call : Call) → ((id : List ℕ) (flags : Flags) (attributes bytes : List ℕ) → call ≡ Create id flags attributes bytes → ⊥) → ((number : ℕ) (bytes : List ℕ) → call ≡ Write number bytes → ⊥)
    → ((number size : ℕ) → call ≡ Truncate number size → ⊥) → may_grow call ≡ false
quiet (Create id flags attributes bytes) create write truncate = absurd (create id flags attributes bytes refl)
quiet (Write number bytes) create write truncate = absurd (write number bytes refl)
quiet (Truncate number size) create write truncate = absurd (truncate number size refl)
quiet _ create write truncate = refl

pub returns-in_default : goal.returns-in_default
returns-in_default g c = λ s i m own.
    sym (quiet-none s i (subst HasOwnHandles (sym m.session) own) c.args.call.now (quiet c.args.call.now c.in_default.not-Create c.in_default.not-Write c.in_default.not-Truncate))
