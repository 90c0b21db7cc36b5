-- The text of a soak, written round by round and application by application.
use Rattle.std.proofs.Common.{◌≡◌, ◌+◌, ◌*◌, ℕ, List, ◌++◌, Ok, Err, sym, ap, subst, ◌∙◌, append_assoc, append-nil, arith}
use Rattle.std.specs.Prelude.{codes}
use Rattle.std.specs.List.{flat_map}
use Rattle.std.proofs.lemmas.Grind.{flat_map-append}
use Rattle.rand_chacha.specs.ChaCha.{ChaCha}
use Rattle.tee_types.specs.declared.call.Call.{Call}
use Rattle.script_text.specs.declared.reading.ScriptFault.{ScriptFault}
use Rattle.script_text.specs.declared.reading.ScriptFault.TheVariants.{BadLine, TooManyApps}
use Rattle.script_text.specs.Grammar.{script_of}
use Rattle.script_text.specs.Parsed.{IsParsed}
use Rattle.seed_words.specs.declared.soak_words.RoundWords.{RoundWords}
use Rattle.seed_words.specs.Joined.{joined}
use Rattle.seed_words.specs.SoakWords.{words_at, words_of_round}
use Rattle.seed_words.specs.Rounds.{round_calls}
use Rattle.seed_words.specs.Scripts.{soak_script}
use Rattle.seed_words.specs.Texts.{app_text, declaration_line, line_of_call, soak_text}
use Rattle.seed_words.proofs.Joins.{joined-more, joined-none}
use Rattle.seed_words.proofs.SoakTexts.{soak_texts_are_scripts}

-- the calls of a round of an application
abbrev pub calls_at : (number app : ℕ) → ℕ → List Call
calls_at number app i = round_calls (words_of_round number app i) i

-- the generator behind a round
pub words_at-more : (number app i : ℕ) (old new : ChaCha) → old ≡ words_at number app i → new ≡ record old { word_pos = old.word_pos + 4 } → new ≡ words_at number app (i + 1)
words_at-more number app i old new at is =
    let next : 4 * i + 4 ≡ 4 * (i + 1) = omega arith in
    is ∙ ap (λ (w : ChaCha). record w { word_pos = w.word_pos + 4 }) at ∙ ap (λ p. record (words_at number app i) { word_pos = p }) next

pub calls_text-none : (number app : ℕ) (old : List ℕ) → old ≡ old ++ flat_map (line_of_call app) (joined (calls_at number app) 0)
calls_text-none number app old = sym (ap (λ t. old ++ flat_map (line_of_call app) t) (joined-none (calls_at number app)) ∙ append-nil old)

-- the text behind a round
pub calls_text-more : (number app i : ℕ) (old text new : List ℕ) (words : RoundWords) → text ≡ old ++ flat_map (line_of_call app) (joined (calls_at number app) i) → words ≡ words_of_round number app i
    → new ≡ text ++ flat_map (line_of_call app) (round_calls words i) → new ≡ old ++ flat_map (line_of_call app) (joined (calls_at number app) (i + 1))
calls_text-more number app i old text new words so are is =
    let front = flat_map (line_of_call app) (joined (calls_at number app) i) in
    is
    ∙ ap (λ t. t ++ flat_map (line_of_call app) (round_calls words i)) so
    ∙ ap (λ w. (old ++ front) ++ flat_map (line_of_call app) (round_calls w i)) are
    ∙ append_assoc old front (flat_map (line_of_call app) (calls_at number app i))
    ∙ ap (λ t. old ++ t) (sym (flat_map-append (line_of_call app) (joined (calls_at number app) i) (calls_at number app i)))
    ∙ ap (λ t. old ++ flat_map (line_of_call app) t) (sym (joined-more (calls_at number app) i))

-- what stands in front of the calls
abbrev pub head_text : List ℕ
head_text = joined declaration_line 8 ++ codes "threads\n"

pub head-calls : (number apps : ℕ) (text new : List ℕ) → text ≡ joined declaration_line apps → apps ≡ 8 → new ≡ text ++ codes "threads\n" → new ≡ head_text ++ joined (app_text number) 0
head-calls number apps text new so all is =
    is ∙ ap (λ t. t ++ codes "threads\n") (so ∙ ap (joined declaration_line) all) ∙ sym (append-nil head_text) ∙ ap (λ t. head_text ++ t) (sym (joined-none (app_text number)))

pub head-more : (number app : ℕ) (text new : List ℕ) → text ≡ head_text ++ joined (app_text number) app → new ≡ text ++ app_text number app → new ≡ head_text ++ joined (app_text number) (app + 1)
head-more number app text new so is =
    is ∙ ap (λ t. t ++ app_text number app) so ∙ append_assoc head_text (joined (app_text number) app) (app_text number app) ∙ ap (λ t. head_text ++ t) (sym (joined-more (app_text number) app))

-- no text of a soak has a line outside the grammar
pub not-bad_line : (text : List ℕ) (number line : ℕ) (fault : ScriptFault) → text ≡ soak_text number → fault ≡ BadLine line → IsParsed (Err fault) (script_of text) → ⊥
not-bad_line text number line fault same is parsed =
    let bad : script_of text ≡ Err (BadLine line) = let P : ScriptFault → Type 0 = λ f. IsParsed (Err f) (script_of text) in subst P is parsed in
    let good : script_of text ≡ Ok (soak_script number) = ap script_of same ∙ soak_texts_are_scripts number in
    let both : Ok (soak_script number) ≡ Err (BadLine line) = sym good ∙ bad in
    cc

-- nor does one declare too many applications
pub not-too_many : (text : List ℕ) (number apps : ℕ) (fault : ScriptFault) → text ≡ soak_text number → fault ≡ TooManyApps apps → IsParsed (Err fault) (script_of text) → ⊥
not-too_many text number apps fault same is parsed =
    let bad : script_of text ≡ Err (TooManyApps apps) = let P : ScriptFault → Type 0 = λ f. IsParsed (Err f) (script_of text) in subst P is parsed in
    let good : script_of text ≡ Ok (soak_script number) = ap script_of same ∙ soak_texts_are_scripts number in
    let both : Ok (soak_script number) ≡ Err (TooManyApps apps) = sym good ∙ bad in
    cc
