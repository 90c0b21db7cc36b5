use Rattle.std.proofs.Common.{◌≡◌, ◌++◌}
use Rattle.std.specs.Prelude.{codes}
use Rattle.seed_words.specs.Joined.{joined}
use Rattle.seed_words.specs.Texts.{app_text, declaration_line}
use Rattle.seed_words.proofs.soak_texts.soak_text.Given as goal

abbrev pub invariant-declarations : goal.invariant-declarations
invariant-declarations l = l.text.items ≡ joined declaration_line l.app

abbrev pub invariant-calls : goal.invariant-calls
invariant-calls l = l.text.items ≡ joined declaration_line 8 ++ codes "threads\n" ++ joined (app_text l.number) l.app
