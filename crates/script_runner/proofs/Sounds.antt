-- A script that was read has few applications.
use Rattle.std.proofs.Common.{◌≡◌, ◌≤◌, Bool, true, false, length, refl, ap, arith, Result, Ok, Err, if◌then◌else◌, nat_lt}
use Rattle.std.proofs.lemmas.Bool.{ltb-false}
use Rattle.script_text.specs.declared.reading.ScriptFault.{ScriptFault}
use Rattle.script_text.specs.declared.reading.ScriptFault.TheVariants.{TooManyApps}
use Rattle.script_text.specs.Script.{ScriptValue}
use Rattle.script_text.specs.Grammar.{few_applications}

pub few_applications-le : (read : Result ScriptValue ScriptFault) (script : ScriptValue) → few_applications read ≡ Ok script → length script.applications ≤ 16
few_applications-le (Err fault) script e = absurd cc
few_applications-le (Ok s) script e = one (nat_lt 16 (length s.applications)) refl e
  where
    one : (b : Bool) → nat_lt 16 (length s.applications) ≡ b → ◌≡◌ {A = Result ScriptValue ScriptFault} (if b then Err (TooManyApps (length s.applications)) else Ok s) (Ok script) → length script.applications ≤ 16
    one true is e = absurd cc
    one false is e =
        let same : s ≡ script = cc in
        let short = ltb-false 16 (length s.applications) is in
        omega (arith, short, ap (λ (x : ScriptValue). length x.applications) same)
