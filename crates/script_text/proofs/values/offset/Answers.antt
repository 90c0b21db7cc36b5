use Rattle.std.proofs.Common.{◌≡◌, ℕ, List, [], ◌∷◌, length, None, refl, sym, arith}
use Rattle.std.proofs.lemmas.Bool.Decides.{nat_tests}
use Rattle.script_text.specs.Words.{numeral_of, offset_of}
use Rattle.script_text.proofs.values.offset.Goals as goal

offset_of-nothing : (word : List ℕ) → length word ≡ 0 → offset_of word ≡ None
unfolding numeral_of offset_of
offset_of-nothing [] e = refl
offset_of-nothing (b ∷ word) e = absurd (omega arith)

pub returns-then-is_empty : goal.returns-then-is_empty
returns-then-is_empty c =
    let nothing : length c.args.word.now ≡ 0 = grind (arith, nat_tests) in
    sym (offset_of-nothing c.args.word.now nothing)
