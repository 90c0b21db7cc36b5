use Rattle.std.proofs.Common.{◌≡◌, ◌<◌, ◌-◌, ◌∷◌, ◌∙◌, ℕ, length, take, drop, sym, ap, arith, length-drop}
use Rattle.std.proofs.lemmas.Bool.Decides.{nat_tests}
use Rattle.std.proofs.lemmas.List.{take_all}
use Rattle.script_text.specs.Lines.{words_of}
use Rattle.script_text.proofs.Cuts.{words_of-none, words_of-word}
use Rattle.script_text.proofs.words.cut_word.Goals as goal

pub returns-then-is_empty : goal.returns-then-is_empty
returns-then-is_empty c =
    let line = c.args.line.now in
    let k = c.blanks_length.result in
    let whole : take (length line - k) (drop k line) ≡ drop k line = take_all (length line - k) (drop k line) (omega (arith, length-drop {A = ℕ})) in
    let none : length (take (length line - k) (drop k line)) ≡ 0 = grind (arith, nat_tests) in
    words_of-none line k c.blanks_length.ensures.length (sym (ap length whole) ∙ none)

pub returns : goal.returns
returns c =
    let line = c.args.line.now in
    let k = c.blanks_length.result in
    let n = c.word_length-end.result in
    let words = take (length line - k) (drop k line) in
    let whole : words ≡ drop k line = take_all (length line - k) (drop k line) (omega (arith, length-drop {A = ℕ})) in
    let some : 0 < length words = grind (arith, nat_tests) in
    words_of-word line words k n c.blanks_length.ensures.length whole some c.word_length-end.ensures.within c.word_length-end.ensures.length
    ∙ ap (λ rest. take n words ∷ words_of rest) (sym c.behind.ensures)
