-- A script: the applications that it declares, and its steps.
use Rattle.std.specs.Prelude.{◌≡◌, ℕ, ◌<◌, Bool, true, false, List, [], map, nat_eq, Option, Some, None}
use Rattle.std.specs.List.{list_any}
use Rattle.std.specs.Option.{option_map_or}
use Rattle.std.specs.Cmp.Lexicographic.{pointwise}
use Rattle.std.proofs.Common.{Vec, Global}
use Rattle.indexmap.specs.IndexSet.{insert_key}
use Rattle.script_text.specs.declared.script.Control.TheVariants.{Save}
use Rattle.script_text.specs.declared.script.Step.{Step}
use Rattle.script_text.specs.declared.script.Step.TheVariants.{Call as CallStep, Control as ControlStep}
use Rattle.script_text.specs.Words.{same_word}

-- the name by which the lines of a script call an application, and the application, its UUID
pub record Declaration : Type 0 where
  pub name : List ℕ
  pub app : List ℕ

pub record ScriptValue : Type 0 where
  pub applications : List Declaration
  pub steps : List Step

abbrev pub no_script : ScriptValue
no_script = record { applications = []; steps = [] }

-- the declarations that a map of names holds, in its order
abbrev pub declarations_of : List (Vec ℕ Global × List ℕ) → List Declaration
declarations_of entries = map (λ e. record { name = (e.0).items; app = e.1 }) entries

-- the step's application is one of the first n
abbrev pub IsPlaced : ℕ → Step → Type 0
IsPlaced n (CallStep app call) = app < n
IsPlaced n (ControlStep control) = Unit {0}

abbrev pub is_call : Step → Bool
is_call (CallStep app call) = true
is_call (ControlStep control) = false

-- a call is one of these steps
abbrev pub has_call : List Step → Bool
has_call steps = list_any is_call steps

-- the mark under which a step saves the files
abbrev pub saved_mark : Step → Option (List ℕ)
saved_mark (ControlStep (Save mark)) = Some mark
saved_mark step = None

-- a step saves the files under that mark
abbrev pub is_saved : (mark : List ℕ) → List Step → Bool
is_saved mark steps = list_any (λ step. option_map_or (same_word mark) (saved_mark step) false) steps

-- the marks that are kept, with one more
abbrev pub with_mark : List (Vec ℕ Global) → Option (Vec ℕ Global) → List (Vec ℕ Global)
with_mark kept None = kept
with_mark kept (Some mark) = insert_key (λ x y. pointwise nat_eq x.items y.items) kept mark

-- the marks that are kept are those under which the steps save
abbrev pub IsSavedIn : List Step → List (Vec ℕ Global) → Type 0
IsSavedIn steps kept = (mark : List ℕ) → list_any (λ k. same_word mark k.items) kept ≡ is_saved mark steps
