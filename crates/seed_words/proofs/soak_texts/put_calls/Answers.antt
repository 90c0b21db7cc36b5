use Rattle.std.proofs.Common.{ap, ◌∙◌}
use Rattle.seed_words.specs.SoakWords.{next_words}
use Rattle.seed_words.proofs.Written.{calls_text-more, calls_text-none, words_at-more}
use Rattle.seed_words.proofs.soak_texts.put_calls.Goals as goal

pub loop-i-init : goal.loop-i-init
loop-i-init c = record { words = c.app_words-words.ensures; text = calls_text-none c.args.number c.args.app c.args.out.now.items }

pub loop-i-preserved : goal.loop-i-preserved
loop-i-preserved c = record {
  words = words_at-more c.args.number c.args.app c.loop-i.i c.loop-i.words c.round_words.new.words c.loop-i.invariant.words c.round_words.ensures.after;
  text = calls_text-more c.args.number c.args.app c.loop-i.i c.args.out.now.items c.loop-i.out.items c.put_round.new.out.items c.round_words.result c.loop-i.invariant.text
      (c.round_words.ensures.words ∙ ap next_words c.loop-i.invariant.words) c.in_ok-put_round.ensures;
}
