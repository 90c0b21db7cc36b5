-- The words that a soak is made from: those of ChaCha20 (RFC 8439, 2.3) under a key made of its number, a stream of them for each
-- application.
use Rattle.std.specs.Prelude.{ℕ, ◌+◌, ◌*◌, List, ◌++◌, replicate}
use Rattle.std.specs.Int.{w32, to_be_bytes}
use Rattle.rand_chacha.specs.ChaCha.{ChaCha, key_of, word_at}
use Rattle.seed_words.specs.declared.soak_words.RoundWords.{RoundWords}

-- 28 zero bytes, then the number, its greatest byte first
abbrev pub seed_of : ℕ → List ℕ
seed_of number = replicate 28 0 ++ to_be_bytes w32 number

-- the generator of an application as its round i begins: each round before it took four words
abbrev pub words_at : (number app i : ℕ) → ChaCha
words_at number app i = record { key = key_of (seed_of number); stream = app; word_pos = 4 * i }

-- the next four words of a generator, after the ten double rounds of ChaCha20
abbrev pub next_words : ChaCha → RoundWords
next_words g = record {
  created = word_at 10 g.key g.stream g.word_pos;
  offset = word_at 10 g.key g.stream (g.word_pos + 1);
  written = word_at 10 g.key g.stream (g.word_pos + 2);
  first = word_at 10 g.key g.stream (g.word_pos + 3);
}

-- the words of round i of an application
abbrev pub words_of_round : (number app i : ℕ) → RoundWords
words_of_round number app i = next_words (words_at number app i)
