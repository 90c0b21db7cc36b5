use Rattle.std.proofs.Common.{◌≡◌, ◌++◌, List, ℕ, codes, decimal, ap, ◌∙◌, append_assoc}
use Rattle.script_runner.specs.CardRecords.{card_map_line}
use Rattle.script_runner.proofs.card_refusal.put_card_map.Goals as goal

-- three pieces behind a text
line-of : (o0 o1 o2 o3 a b s e : List ℕ) → o1 ≡ o0 ++ a ++ b → (n : List ℕ) → o2 ≡ o1 ++ s ++ n → o3 ≡ o2 ++ e → o3 ≡ o0 ++ (a ++ b ++ s ++ n ++ e)
line-of o0 o1 o2 o3 a b s e one n two three = three ∙ ap (λ t. t ++ e) two ∙ ap (λ t. (t ++ s ++ n) ++ e) one ∙ simp append_assoc

pub returns-clause-ok : goal.returns-clause-ok
unfolding card_map_line
returns-clause-ok c =
    let out = c.args.out.now.items in
    line-of out _ _ _ (codes "# refused card-map ") (decimal c.args.block) (codes " ") (codes "\n")
    (c.in_ok-put_word_number.ensures.ok ∙ ap (λ n. out ++ codes "# refused card-map " ++ decimal n) c.from.ensures) (decimal c.args.offset)
    (c.in_ok-put_word_number-2.ensures.ok ∙ ap (λ n. c.put_word_number.new.out.items ++ codes " " ++ decimal n) c.from-2.ensures) c.in_ok-put.ensures.ok
