-- The calls of a soak are printed as words that are read back as them.
use Rattle.std.proofs.Common.{◌≡◌, ◌==◌, ◌+◌, ◌%◌, ◌<◌, ◌≤◌, ℕ, zero, suc, true, false, cond, List, [], ◌∷◌, ◌++◌, length, slice_index, refl, ◌∙◌, length-append, arith}
use Rattle.hex.specs.Hex.{IsBytes}
use Rattle.tee_types.specs.declared.call.Call.{Call}
use Rattle.tee_types.specs.declared.call.Call.TheVariants.{Create, Rename, Read, Delete, Close, Write}
use Rattle.seed_words.specs.declared.soak_words.RoundWords.{RoundWords}
use Rattle.seed_words.specs.Joined.{joined}
use Rattle.seed_words.specs.SoakWords.{words_of_round}
use Rattle.seed_words.specs.Rounds.{all_rights, create_of, fourth_of, id_of_round, last_of, rising, round_calls, seek_of, write_of}
use Rattle.seed_words.specs.Scripts.{app_calls}
use Rattle.seed_words.proofs.PrintedCalls.{ReadsBack, close_back, create_back, delete_back, read_back, rename_back, seek_back, write_back}

-- each of these calls
abbrev pub AllReadBack : List Call → Type 0
AllReadBack [] = Unit {0}
AllReadBack (call ∷ calls) = ReadsBack call × AllReadBack calls

AllReadBack-append : (front back : List Call) → AllReadBack front → AllReadBack back → AllReadBack (front ++ back)
AllReadBack-append [] back first second = second
AllReadBack-append (call ∷ front) back first second = (first.0, AllReadBack-append front back first.1 second)

AllReadBack-joined : (f : ℕ → List Call) (count : ℕ) → ((k : ℕ) → k < count → AllReadBack (f k)) → AllReadBack (joined f count)
unfolding joined
AllReadBack-joined f zero each = tt
AllReadBack-joined f (suc k) each = AllReadBack-append (joined f k) (f k) (AllReadBack-joined f k (λ j lt. each j (omega arith))) (each k (omega arith))

IsBytes-more : (bytes : List ℕ) (byte : ℕ) → IsBytes bytes → byte < 256 → (i : ℕ) → slice_index (bytes ++ byte ∷ []) i < 256
IsBytes-more [] byte are small zero = small
IsBytes-more [] byte are small (suc i) = omega arith
IsBytes-more (first ∷ bytes) byte are small zero = are 0
IsBytes-more (first ∷ bytes) byte are small (suc i) = IsBytes-more bytes byte (λ k. are (suc k)) small i

IsBytes-rising : (first count : ℕ) → IsBytes (rising first count)
unfolding joined
IsBytes-rising first zero = λ i. omega arith
IsBytes-rising first (suc k) = IsBytes-more (rising first k) ((first + k) % 256) (IsBytes-rising first k) (omega arith)

pub length-rising : (first count : ℕ) → length (rising first count) ≡ count
unfolding joined
length-rising first zero = refl
length-rising first (suc k) = length-append (rising first k) ((first + k) % 256 ∷ []) ∙ omega (arith, length-rising first k)

IsBytes-one : (byte : ℕ) → byte < 256 → IsBytes (byte ∷ [])
IsBytes-one byte small = IsBytes-more [] byte (λ i. omega arith) small

filled_create : (i : ℕ) (bytes : List ℕ) → i < 256 → 0 < length bytes → IsBytes bytes → ReadsBack (Create (i ∷ []) all_rights [] bytes)
filled_create i [] small some are = absurd (omega arith)
filled_create i (byte ∷ bytes) small some are = create_back i byte [] bytes (IsBytes-one i small) (omega arith) are

filled_write : (handle : ℕ) (bytes : List ℕ) → handle ≤ 4294967295 → 0 < length bytes → IsBytes bytes → ReadsBack (Write handle bytes)
filled_write handle [] h some are = absurd (omega arith)
filled_write handle (byte ∷ bytes) h some are = write_back handle byte bytes h are

create_of-back : (w : RoundWords) (i : ℕ) → ReadsBack (create_of w i)
create_of-back w i = filled_create (i % 16) (rising w.first (1 + w.created % 4096)) (omega arith) (omega (arith, length-rising w.first (1 + w.created % 4096))) (IsBytes-rising w.first (1 + w.created % 4096))

write_of-back : (w : RoundWords) (i : ℕ) → i < 100 → ReadsBack (write_of w i)
write_of-back w i lt = filled_write i (rising (w.first + 128) (1 + w.written % 1024)) (omega arith) (omega (arith, length-rising (w.first + 128) (1 + w.written % 1024))) (IsBytes-rising (w.first + 128) (1 + w.written % 1024))

seek_of-back : (w : RoundWords) (i : ℕ) → i < 100 → ReadsBack (seek_of w i)
seek_of-back w i lt = seek_back i (w.offset % 16384) (omega arith) (omega arith)

fourth_of-back : (i : ℕ) → i < 100 → ReadsBack (fourth_of i)
fourth_of-back i lt = elim (i % 5 == 4) as (λ t. ReadsBack (cond t (Rename i (id_of_round i)) (Read i 4096))) [
  | true ↦ rename_back i (i % 16) [] (omega arith) (IsBytes-one (i % 16) (omega arith)) (omega arith)
  | false ↦ read_back i 4096 (omega arith) (omega arith)
]

last_of-back : (i : ℕ) → i < 100 → ReadsBack (last_of i)
last_of-back i lt = elim (i % 4 == 3) as (λ t. ReadsBack (cond t (Delete i) (Close i))) [
  | true ↦ delete_back i (omega arith)
  | false ↦ close_back i (omega arith)
]

round_calls-back : (w : RoundWords) (i : ℕ) → i < 100 → AllReadBack (round_calls w i)
unfolding round_calls
round_calls-back w i lt = (create_of-back w i, (seek_of-back w i lt, (write_of-back w i lt, (fourth_of-back i lt, (last_of-back i lt, tt)))))

-- the calls of an application
pub app_calls-back : (number app : ℕ) → AllReadBack (app_calls number app)
unfolding app_calls
app_calls-back number app = AllReadBack-joined (λ i. round_calls (words_of_round number app i) i) 100 (λ i lt. round_calls-back (words_of_round number app i) i lt)
