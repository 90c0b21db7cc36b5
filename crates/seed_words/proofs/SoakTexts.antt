-- The text of a soak is read as its script.
use Rattle.std.proofs.Common.{◌≡◌, ◌+◌, ◌<◌, ℕ, zero, suc, true, false, cond, List, [], ◌∷◌, ◌++◌, map, length, Option, Some, None, Ok, refl, sym, ap, subst, ◌∙◌, append_assoc, append-nil, arith}
use Rattle.std.specs.Prelude.{codes, decimal, nat_eq, nat_lt}
use Rattle.std.specs.Fmt.{digits}
use Rattle.std.specs.List.{flat_map, join_with_byte, list_all, starts_with}
use Rattle.uuid.specs.Text.{by_index}
use Rattle.tee_types.specs.declared.call.Call.{Call}
use Rattle.script_text.specs.declared.script.Control.{Control}
use Rattle.script_text.specs.declared.script.Control.TheVariants.{Mode as ModeControl}
use Rattle.script_text.specs.declared.script.Mode.TheVariants.{Threads}
use Rattle.script_text.specs.declared.script.Step.{Step}
use Rattle.script_text.specs.declared.script.Step.TheVariants.{Call as CallStep, Control as ControlStep}
use Rattle.script_text.specs.Lines.{is_ascii, words_of}
use Rattle.script_text.specs.Words.{is_name, same_word}
use Rattle.script_text.specs.Script.{Declaration, ScriptValue, no_script}
use Rattle.script_text.specs.Calls.{call_words}
use Rattle.script_text.specs.Controls.{control_of, control_verb_of}
use Rattle.script_text.specs.Grammar.{app_line, call_line, control_line, few_applications, line_of, place_of, step_line, with_step, words_line}
use Rattle.script_text.specs.Forms.{call_text}
use Rattle.seed_words.specs.Joined.{joined}
use Rattle.seed_words.specs.Scripts.{app_calls, app_steps, soak_app, soak_name, soak_script}
use Rattle.seed_words.specs.Texts.{app_text, declaration_line, line_of_call, soak_text}
use Rattle.seed_words.specs.Laws.{SoakTextsAreScripts}
use Rattle.seed_words.proofs.PrintedWords.{IsWord, ascii-printed, is_ink, is_printed, printed-join, words_of-join}
use Rattle.seed_words.proofs.Joins.{joined-more}
use Rattle.seed_words.proofs.PrintedCalls.{ReadsBack}
use Rattle.seed_words.proofs.PrintedRounds.{AllReadBack, app_calls-back}
use Rattle.seed_words.proofs.ReadTexts.{Reads, reads-append, reads-joined, reads-line, reads-nothing, script_from-text}

-- what holds of each number below eight
below_eight : (P : ℕ → Type 0) → P 0 → P 1 → P 2 → P 3 → P 4 → P 5 → P 6 → P 7 → (k : ℕ) → k < 8 → P k
below_eight P p0 p1 p2 p3 p4 p5 p6 p7 zero lt = p0
below_eight P p0 p1 p2 p3 p4 p5 p6 p7 (suc zero) lt = p1
below_eight P p0 p1 p2 p3 p4 p5 p6 p7 (suc (suc zero)) lt = p2
below_eight P p0 p1 p2 p3 p4 p5 p6 p7 (suc (suc (suc zero))) lt = p3
below_eight P p0 p1 p2 p3 p4 p5 p6 p7 (suc (suc (suc (suc zero)))) lt = p4
below_eight P p0 p1 p2 p3 p4 p5 p6 p7 (suc (suc (suc (suc (suc zero))))) lt = p5
below_eight P p0 p1 p2 p3 p4 p5 p6 p7 (suc (suc (suc (suc (suc (suc zero)))))) lt = p6
below_eight P p0 p1 p2 p3 p4 p5 p6 p7 (suc (suc (suc (suc (suc (suc (suc zero))))))) lt = p7
below_eight P p0 p1 p2 p3 p4 p5 p6 p7 (suc (suc (suc (suc (suc (suc (suc (suc k)))))))) lt = absurd (omega arith)

-- the first applications
abbrev first_apps : ℕ → List Declaration
first_apps count = joined (λ app. soak_app app ∷ []) count

-- the script of their lines
abbrev declared : ℕ → ScriptValue
declared count = record { applications = first_apps count; steps = [] }

-- the line of an application, without its LF
abbrev declaration : ℕ → List ℕ
declaration app = codes "app " ++ soak_name app ++ codes " 00000000-0000-0000-0000-00000000000" ++ decimal (app + 1)

abbrev Declares : ℕ → Type 0
Declares app = (list_all is_printed (declaration app) ≡ true) × (line_of (declared app) (declaration app) ≡ Some (declared (app + 1)))

declares : (app : ℕ) → app < 8 → Declares app
unfolding words_of is_name app_line words_line line_of by_index digits joined
declares = below_eight Declares (refl, refl) (refl, refl) (refl, refl) (refl, refl) (refl, refl) (refl, refl) (refl, refl) (refl, refl)

-- What a name is, so that its lines are calls.
record IsNameOf (app : ℕ) (name : List ℕ) : Type 0 where
  is_word : IsWord name
  no_comment : starts_with nat_eq name (codes "#") ≡ false
  no_app : same_word name (codes "app") ≡ false
  no_control : control_verb_of name ≡ None
  placed : place_of name (first_apps 8) ≡ Some app

some_name : (app : ℕ) → app < 8 → nat_lt 0 (length (soak_name app)) ≡ true
unfolding digits
some_name = below_eight (λ app. nat_lt 0 (length (soak_name app)) ≡ true) refl refl refl refl refl refl refl refl

ink_name : (app : ℕ) → app < 8 → list_all is_ink (soak_name app) ≡ true
unfolding digits
ink_name = below_eight (λ app. list_all is_ink (soak_name app) ≡ true) refl refl refl refl refl refl refl refl

no_comment_name : (app : ℕ) → app < 8 → starts_with nat_eq (soak_name app) (codes "#") ≡ false
unfolding digits
no_comment_name = below_eight (λ app. starts_with nat_eq (soak_name app) (codes "#") ≡ false) refl refl refl refl refl refl refl refl

no_app_name : (app : ℕ) → app < 8 → same_word (soak_name app) (codes "app") ≡ false
unfolding digits
no_app_name = below_eight (λ app. same_word (soak_name app) (codes "app") ≡ false) refl refl refl refl refl refl refl refl

no_control_name : (app : ℕ) → app < 8 → control_verb_of (soak_name app) ≡ None
unfolding control_verb_of digits
no_control_name = below_eight (λ app. control_verb_of (soak_name app) ≡ None) refl refl refl refl refl refl refl refl

placed_name : (app : ℕ) → app < 8 → place_of (soak_name app) (first_apps 8) ≡ Some app
unfolding digits joined
placed_name = below_eight (λ app. place_of (soak_name app) (first_apps 8) ≡ Some app) refl refl refl refl refl refl refl refl

names : (app : ℕ) → app < 8 → IsNameOf app (soak_name app)
names app lt = record {
  is_word = record { some = some_name app lt; ink = ink_name app lt };
  no_comment = no_comment_name app lt;
  no_app = no_app_name app lt;
  no_control = no_control_name app lt;
  placed = placed_name app lt;
}

control_of-none : (name : List ℕ) (words : List (List ℕ)) → control_verb_of name ≡ None → control_of name words ≡ None
unfolding control_of
control_of-none name words none = rw none

-- a line whose first word is the name of an application is a call
call_line-call : (above : ScriptValue) (app : ℕ) (name : List ℕ) (words : List (List ℕ)) (call : Call) → place_of name above.applications ≡ Some app → call_words words ≡ Some call → call_line above name words ≡ Some (with_step above (CallStep app call))
unfolding call_line
call_line-call above app name words call placed means = rw (placed, means)

-- what a line is, where its words mean this control
stepped : ScriptValue → List ℕ → List (List ℕ) → Option Control → Option ScriptValue
stepped above name words control = elim control [ Some c ↦ control_line above c | None ↦ call_line above name words ]

step_line-call : (above : ScriptValue) (name : List ℕ) (words : List (List ℕ)) → control_verb_of name ≡ None → step_line above name words ≡ call_line above name words
unfolding step_line stepped
step_line-call above name words none = ap (stepped above name words) (control_of-none name words none)

words_line-step : (above : ScriptValue) (name : List ℕ) (words : List (List ℕ)) → starts_with nat_eq name (codes "#") ≡ false → same_word name (codes "app") ≡ false → words_line above (name ∷ words) ≡ step_line above name words
unfolding words_line
words_line-step above name words no_comment no_app =
    ap (λ t. cond t (Some above) (cond (same_word name (codes "app")) (app_line above words) (step_line above name words))) no_comment
    ∙ ap (λ t. cond t (app_line above words) (step_line above name words)) no_app

line_of-words : (above : ScriptValue) (line : List ℕ) (words : List (List ℕ)) → is_ascii line ≡ true → words_of line ≡ words → line_of above line ≡ words_line above words
unfolding line_of
line_of-words above line words ascii are = ap (λ t. cond t (words_line above (words_of line)) None) ascii ∙ ap (words_line above) are

line_of_call-join : (app : ℕ) (call : Call) (verb : List ℕ) (words : List (List ℕ)) → call_text call ≡ join_with_byte 32 (verb ∷ words) → line_of_call app call ≡ join_with_byte 32 (soak_name app ∷ verb ∷ words) ++ 10 ∷ []
unfolding line_of_call
line_of_call-join app call verb words text =
    ap (λ t. soak_name app ++ codes " " ++ t ++ codes "\n") text
    ∙ ap (λ t. t ++ codes "\n") (append_assoc (soak_name app) (codes " ") (join_with_byte 32 (verb ∷ words)))

-- the line of a call adds it
reads-call : (above : ScriptValue) (app : ℕ) (call : Call) → app < 8 → above.applications ≡ first_apps 8 → ReadsBack call → Reads (line_of_call app call) above (with_step above (CallStep app call))
reads-call above app call lt apps back =
    let name = names app lt in
    let line = join_with_byte 32 (soak_name app ∷ back.verb ∷ back.words) in
    let printed = printed-join (soak_name app) (back.verb ∷ back.words) name.is_word (back.is_word, back.are_words) in
    let means =
    line_of-words above line (soak_name app ∷ back.verb ∷ back.words) (ascii-printed line printed) (words_of-join (soak_name app) (back.verb ∷ back.words) name.is_word (back.is_word, back.are_words))
    ∙ words_line-step above (soak_name app) (back.verb ∷ back.words) name.no_comment name.no_app
    ∙ step_line-call above (soak_name app) (back.verb ∷ back.words) name.no_control
    ∙ call_line-call above app (soak_name app) (back.verb ∷ back.words) call (ap (place_of (soak_name app)) apps ∙ name.placed) back.means
    in
    subst (λ t. Reads t above (with_step above (CallStep app call))) (sym (line_of_call-join app call back.verb back.words back.text)) (reads-line line above (with_step above (CallStep app call)) printed means)

abbrev with_steps : ScriptValue → List Step → ScriptValue
with_steps script steps = record script { steps = script.steps ++ steps }

-- the lines of some calls add them
reads-calls : (above : ScriptValue) (app : ℕ) (calls : List Call) → app < 8 → above.applications ≡ first_apps 8 → AllReadBack calls → Reads (flat_map (line_of_call app) calls) above (with_steps above (map (CallStep app) calls))
reads-calls above app [] lt apps back =
    subst (λ steps. Reads [] above (record above { steps = steps })) (sym (append-nil above.steps)) (reads-nothing above)
reads-calls above app (call ∷ calls) lt apps back =
    let next = with_step above (CallStep app call) in
    let both = reads-append (line_of_call app call) (flat_map (line_of_call app) calls) above next (with_steps next (map (CallStep app) calls))
    (reads-call above app call lt apps back.0) (reads-calls next app calls lt apps back.1) in
    subst (λ steps. Reads (line_of_call app call ++ flat_map (line_of_call app) calls) above (record above { steps = steps })) (append_assoc above.steps (CallStep app call ∷ []) (map (CallStep app) calls)) both

-- the script of the lines of the applications, the mode and the calls of the first applications
abbrev calling : (number count : ℕ) → ScriptValue
calling number count = record { applications = first_apps 8; steps = ControlStep (ModeControl Threads) ∷ joined (app_steps number) count }

reads-app : (number app : ℕ) → app < 8 → Reads (app_text number app) (calling number app) (calling number (app + 1))
reads-app number app lt =
    subst (λ steps. Reads (app_text number app) (calling number app) (record { applications = first_apps 8; steps = ControlStep (ModeControl Threads) ∷ steps }))
    (sym (joined-more (app_steps number) app))
    (reads-calls (calling number app) app (app_calls number app) lt refl (app_calls-back number app))

reads-declaration : (app : ℕ) → app < 8 → Reads (declaration_line app) (declared app) (declared (app + 1))
reads-declaration app lt = let is = declares app lt in reads-line (declaration app) (declared app) (declared (app + 1)) is.0 is.1

mode : (above : ScriptValue) → line_of above (codes "threads") ≡ Some (with_step above (ControlStep (ModeControl Threads)))
unfolding words_of control_verb_of control_of control_line step_line words_line line_of
mode above = refl

reads-mode : Reads (codes "threads\n") (declared 8) (with_step (declared 8) (ControlStep (ModeControl Threads)))
reads-mode = reads-line (codes "threads") (declared 8) (with_step (declared 8) (ControlStep (ModeControl Threads))) refl (mode (declared 8))

-- no line, and no call of any application
nothing : no_script ≡ declared 0
unfolding joined
nothing = refl

no_calls : (number : ℕ) → with_step (declared 8) (ControlStep (ModeControl Threads)) ≡ calling number 0
unfolding joined
no_calls number = refl

reads-soak : (number : ℕ) → Reads (soak_text number) no_script (soak_script number)
reads-soak number =
    let apps = subst (λ s. Reads (joined declaration_line 8) s (declared 8)) (sym nothing) (reads-joined declaration_line declared 8 reads-declaration) in
    let mode = subst (λ s. Reads (codes "threads\n") (declared 8) s) (no_calls number) reads-mode in
    let calls = reads-joined (app_text number) (calling number) 8 (reads-app number) in
    reads-append (joined declaration_line 8 ++ codes "threads\n") (joined (app_text number) 8) no_script (calling number 0) (soak_script number)
    (reads-append (joined declaration_line 8) (codes "threads\n") no_script (declared 8) (calling number 0) apps mode)
    calls

few : (number : ℕ) → few_applications (Ok (soak_script number)) ≡ Ok (soak_script number)
unfolding joined
few number = refl

pub soak_texts_are_scripts : SoakTextsAreScripts
soak_texts_are_scripts number = ap few_applications (script_from-text (soak_text number) no_script (soak_script number) 1 (reads-soak number)) ∙ few number
