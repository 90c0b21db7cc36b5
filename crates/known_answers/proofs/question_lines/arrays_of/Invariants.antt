use Rattle.std.proofs.Common.{map, take}
use Rattle.std.specs.Prelude.{IsTrue}
use Rattle.known_answers.specs.Asks.{AreArrays}
use Rattle.known_answers.specs.Forms.{are_arrays}
use Rattle.known_answers.proofs.question_lines.arrays_of.Given as goal

abbrev pub invariant-loop-word : goal.invariant-loop-word
invariant-loop-word g l = record {
  value : AreArrays (map (λ w. w.now) (take l.word-index l.words)) l.arrays.items;
  form : IsTrue (are_arrays g.row.N (map (λ w. w.now) (take l.word-index l.words)));
}
