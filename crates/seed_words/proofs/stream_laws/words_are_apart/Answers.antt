use Rattle.seed_words.proofs.Sources.{apart}
use Rattle.seed_words.proofs.stream_laws.words_are_apart.Goals as goal

pub returns : goal.returns
returns c = apart
