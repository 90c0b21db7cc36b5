-- The text of lines of the card, sent piece after piece.
use Rattle.std.proofs.Common.{◌≡◌, ◌+◌, ◌<◌, ◌≤◌, ℕ, List, [], ◌∷◌, ◌++◌, length, take, drop, get_or, Option, refl, sym, ap, ◌∙◌, append_assoc, subst}
use Rattle.std.proofs.lemmas.List.{append-nil, take_more, take-append-drop, take_all}
use Rattle.card_script.specs.declared.card_line.CardLine.{CardLine}
use Rattle.card_script.specs.declared.card_line.CardReply.TheVariants.{Done}
use Rattle.card_script.specs.CardText.{answer_line, listed_line}
use Rattle.card_maps.specs.declared.name.CardName.{CardName}
use Rattle.script_runner.specs.Sending.{Sends, Stops}
use Rattle.script_runner.specs.CardRecords.{names_text}
use Rattle.script_runner.proofs.Sent.{Stops-append, Stops-longer}

abbrev pub name_line : CardName → List ℕ
name_line name = listed_line name.app name.id name.size

names_text-append : (front back : List CardName) → names_text (front ++ back) ≡ names_text front ++ names_text back
names_text-append [] back = refl
names_text-append (name ∷ front) back =
    ap (λ t. name_line name ++ t) (names_text-append front back) ∙ sym (append_assoc (name_line name) (names_text front) (names_text back))

-- the line of a list, and the first of its names
abbrev pub listed_upto : ℕ → CardLine → List CardName → ℕ → List ℕ
listed_upto place line names i = answer_line place line Done ++ names_text (take i names)

pub listed_upto-none : (place : ℕ) (line : CardLine) (names : List CardName) → listed_upto place line names 0 ≡ answer_line place line Done
listed_upto-none place line names = append-nil (answer_line place line Done)

pub listed_upto-more : (place : ℕ) (line : CardLine) (names : List CardName) (i : ℕ) (name : CardName) → i < length names → name ≡ get_or names i name
    → listed_upto place line names (i + 1) ≡ listed_upto place line names i ++ name_line name
listed_upto-more place line names i name lt at =
    let head = answer_line place line Done in
    let front = take i names in
    let grown : take (i + 1) names ≡ front ++ name ∷ [] = take_more names i name lt ∙ ap (λ n. front ++ n ∷ []) (sym at) in
    ap (λ f. head ++ names_text f) grown
    ∙ ap (λ t. head ++ t) (names_text-append front (name ∷ []) ∙ ap (λ t. names_text front ++ t) (append-nil (name_line name)))
    ∙ sym (append_assoc head (names_text front) (name_line name))

pub listed_upto-all : (place : ℕ) (line : CardLine) (names : List CardName) (i : ℕ) → length names ≤ i → listed_upto place line names i ≡ answer_line place line Done ++ names_text names
listed_upto-all place line names i le = ap (λ f. answer_line place line Done ++ names_text f) (take_all i names le)

listed_upto-rest : (place : ℕ) (line : CardLine) (names : List CardName) (i : ℕ) → answer_line place line Done ++ names_text names ≡ listed_upto place line names i ++ names_text (drop i names)
listed_upto-rest place line names i =
    ap (λ n. answer_line place line Done ++ names_text n) (sym (take-append-drop i names))
    ∙ ap (λ t. answer_line place line Done ++ t) (names_text-append (take i names) (drop i names))
    ∙ sym (append_assoc (answer_line place line Done) (names_text (take i names)) (names_text (drop i names)))

-- stopped at the line of a name
pub Stops-at_name : (held between new : Option (List ℕ)) (kept_old kept : List ℕ) (place : ℕ) (line : CardLine) (names : List CardName) (i : ℕ) (name : CardName) → i < length names → name ≡ get_or names i name
    → Sends held between kept_old kept (listed_upto place line names i) → Stops between new kept (name_line name) → Stops held new kept_old (answer_line place line Done ++ names_text names)
Stops-at_name held between new kept_old kept place line names i name lt at sent stops =
    let here : Stops held new kept_old (listed_upto place line names (i + 1)) =
    subst (Stops held new kept_old) (sym (listed_upto-more place line names i name lt at)) (Stops-append held between new kept_old kept _ _ sent stops) in
    subst (Stops held new kept_old) (sym (listed_upto-rest place line names (i + 1))) (Stops-longer held new kept_old _ _ here)
