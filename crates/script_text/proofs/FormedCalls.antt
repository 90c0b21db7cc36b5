-- The calls of a script carry identifiers and bytes.
use Rattle.std.proofs.Common.{◌≡◌, ◌≤◌, ◌<◌, ◌*◌, ◌&&◌, nat_le, ℕ, Bool, true, false, cond, List, [], ◌∷◌, length, ap, refl, subst, Option, Some, None, Result, Ok, Err, arith}
use Rattle.std.specs.Prelude.{codes}
use Rattle.std.specs.Option.{option_map}
use Rattle.std.specs.Result.{result_ok}
use Rattle.std.proofs.lemmas.Bool.{and_parts}
use Rattle.std.proofs.lemmas.Bool.Decides.{nat_tests}
use Rattle.std.proofs.lemmas.List.Elements.{All-nil, All-from_get_or}
use Rattle.hex.specs.Hex.{decode_of}
use Rattle.hex.specs.declared.error.FromHexError.{FromHexError}
use Rattle.hex.proofs.HexLemmas.{decode_of-ok}
use Rattle.tee_types.specs.Identifier.{IsIdentifier}
use Rattle.tee_types.specs.declared.call.Call.{Call}
use Rattle.tee_types.specs.declared.call.Call.TheVariants.{Create, Open, Close, Read, Write, Truncate, Seek, Rename, Delete, Info, EnumNew, EnumStart, EnumNext, EnumReset, EnumFree}
use Rattle.store_model.specs.Sound.{AreBytes, IsCall}
use Rattle.script_text.specs.declared.calls.Verb.{Verb}
use Rattle.script_text.specs.declared.calls.Verb.TheVariants.{Create as CreateVerb, Open as OpenVerb, Close as CloseVerb, Read as ReadVerb, Write as WriteVerb, Truncate as TruncateVerb, Seek as SeekVerb, Rename as RenameVerb, Delete as DeleteVerb, Info as InfoVerb, Enumerate as EnumerateVerb, Start as StartVerb, Next as NextVerb, Reset as ResetVerb, Free as FreeVerb}
use Rattle.script_text.specs.Calls.{◌>>=◌, create_words, open_words, write_words, seek_words, rename_words, one_number, two_numbers, no_words, verb_of, call_of, call_words}
use Rattle.script_text.specs.Words.{same_word, id_of, bytes_of, mask_of, flags_of, number_of, offset_of, whence_of}

decoded-bytes : (text bytes : List ℕ) → decode_of text ≡ Ok bytes → AreBytes bytes
decoded-bytes text bytes is = All-from_get_or (λ b. b < 256) bytes 0 (λ i lt. (decode_of-ok text bytes is).3 i)

result_ok-some : (r : Result (List ℕ) FromHexError) (x : List ℕ) → result_ok r ≡ Some x → r ≡ Ok x
result_ok-some (Ok y) x is = let same : y ≡ x = cc (is) in ap (λ (z : List ℕ). Ok z) same
result_ok-some (Err e) x is = absurd (cc (is))

pub cond-some : {A : Type 0} (c : Bool) (o : Option A) (x : A) → cond c o None ≡ Some x → (c ≡ true) × (o ≡ Some x)
cond-some true o x is = (refl, is)
cond-some false o x is = absurd (cc (is))

pub id-formed : (word id : List ℕ) → id_of word ≡ Some id → IsIdentifier id
unfolding id_of
id-formed word id is =
    let parts = cond-some (nat_le 2 (length word) && nat_le (length word) 128) (result_ok (decode_of word)) id is in
    let decoded : decode_of word ≡ Ok id = result_ok-some (decode_of word) id parts.1 in
    let bounds = and_parts (nat_le 2 (length word)) (nat_le (length word) 128) parts.0 in
    let low : 2 ≤ length word = grind (arith, nat_tests, bounds.0) in
    let high : length word ≤ 128 = grind (arith, nat_tests, bounds.1) in
    let long : length word ≡ 2 * length id = (decode_of-ok word id decoded).2 in
    (omega (arith, low, long), omega (arith, high, long))

pub bytes-formed : (word bytes : List ℕ) → bytes_of word ≡ Some bytes → AreBytes bytes
unfolding bytes_of
bytes-formed word bytes is = one (same_word word (codes "-")) is
  where
    one : (c : Bool) → cond c (Some []) (cond (nat_le 2 (length word)) (result_ok (decode_of word)) None) ≡ Some bytes → AreBytes bytes
    one true is = let same : [] ≡ bytes = cc (is) in subst AreBytes same (All-nil (λ b. b < 256))
    one false is =
        let parts = cond-some (nat_le 2 (length word)) (result_ok (decode_of word)) bytes is in
        decoded-bytes word bytes (result_ok-some (decode_of word) bytes parts.1)

bytes-long : (word bytes : List ℕ) → nat_le 2 (length word) ≡ true → decode_of word ≡ Ok bytes → 1 ≤ length bytes
bytes-long word bytes two decoded =
    let low : 2 ≤ length word = grind (arith, nat_tests, two) in
    let long : length word ≡ 2 * length bytes = (decode_of-ok word bytes decoded).2 in
    omega (arith, low, long)

pub mask-formed : (word mask : List ℕ) → mask_of word ≡ Some mask → (1 ≤ length mask) × AreBytes mask
unfolding mask_of bytes_of
mask-formed word mask is = one (same_word word (codes "-")) is
  where
    one : (c : Bool) → cond c None (cond c (Some []) (cond (nat_le 2 (length word)) (result_ok (decode_of word)) None)) ≡ Some mask → (1 ≤ length mask) × AreBytes mask
    one true is = absurd (cc (is))
    one false is =
        let parts = cond-some (nat_le 2 (length word)) (result_ok (decode_of word)) mask is in
        let decoded = result_ok-some (decode_of word) mask parts.1 in
        (bytes-long word mask parts.0 decoded, decoded-bytes word mask decoded)

-- what a chain of steps gave
pub from_bind : {A B : Type 0} (o : Option A) (f : A → Option B) (y : B) → (o >>= f) ≡ Some y → (x : A) × (o ≡ Some x) × (f x ≡ Some y)
from_bind (Some x) f y is = (x, refl, is)
from_bind None f y is = absurd (cc (is))

from_map : {A B : Type 0} (o : Option A) (f : A → B) (y : B) → option_map f o ≡ Some y → (x : A) × (f x ≡ y)
from_map (Some x) f y is = (x, cc (is))
from_map None f y is = absurd (cc (is))

-- a call that carries nothing
plain : {A : Type 0} (o : Option A) (f : A → Call) (call : Call) → ((x : A) → IsCall (f x)) → option_map f o ≡ Some call → IsCall call
plain o f call fine is = let made = from_map o f call is in subst IsCall made.1 (fine made.0)

create-formed : (words : List (List ℕ)) (call : Call) → create_words words ≡ Some call → IsCall call
unfolding create_words
create-formed (id ∷ flags ∷ attributes ∷ bytes ∷ []) call is =
    let i = from_bind (id_of id) _ call is in
    let f = from_bind (flags_of flags) _ call i.2 in
    let a = from_bind (bytes_of attributes) _ call f.2 in
    let b = from_bind (bytes_of bytes) _ call a.2 in
    let same : Create i.0 f.0 a.0 b.0 ≡ call = cc (b.2) in
    subst IsCall same (id-formed id i.0 i.1, bytes-formed attributes a.0 a.1, bytes-formed bytes b.0 b.1)
create-formed [] call is = absurd (cc (is))
create-formed (id ∷ []) call is = absurd (cc (is))
create-formed (id ∷ flags ∷ []) call is = absurd (cc (is))
create-formed (id ∷ flags ∷ attributes ∷ []) call is = absurd (cc (is))
create-formed (id ∷ flags ∷ attributes ∷ bytes ∷ more ∷ words) call is = absurd (cc (is))

open-formed : (words : List (List ℕ)) (call : Call) → open_words words ≡ Some call → IsCall call
unfolding open_words
open-formed (id ∷ flags ∷ []) call is =
    let i = from_bind (id_of id) _ call is in
    let f = from_bind (flags_of flags) _ call i.2 in
    let same : Open i.0 f.0 ≡ call = cc (f.2) in
    subst IsCall same tt
open-formed [] call is = absurd (cc (is))
open-formed (id ∷ []) call is = absurd (cc (is))
open-formed (id ∷ flags ∷ more ∷ words) call is = absurd (cc (is))

write-formed : (words : List (List ℕ)) (call : Call) → write_words words ≡ Some call → IsCall call
unfolding write_words
write-formed (handle ∷ bytes ∷ []) call is =
    let h = from_bind (number_of handle) _ call is in
    let b = from_bind (bytes_of bytes) _ call h.2 in
    let same : Write h.0 b.0 ≡ call = cc (b.2) in
    subst IsCall same (bytes-formed bytes b.0 b.1)
write-formed [] call is = absurd (cc (is))
write-formed (handle ∷ []) call is = absurd (cc (is))
write-formed (handle ∷ bytes ∷ more ∷ words) call is = absurd (cc (is))

seek-formed : (words : List (List ℕ)) (call : Call) → seek_words words ≡ Some call → IsCall call
unfolding seek_words
seek-formed (handle ∷ offset ∷ whence ∷ []) call is =
    let h = from_bind (number_of handle) _ call is in
    let o = from_bind (offset_of offset) _ call h.2 in
    let w = from_bind (whence_of whence) _ call o.2 in
    let same : Seek h.0 o.0 w.0 ≡ call = cc (w.2) in
    subst IsCall same tt
seek-formed [] call is = absurd (cc (is))
seek-formed (handle ∷ []) call is = absurd (cc (is))
seek-formed (handle ∷ offset ∷ []) call is = absurd (cc (is))
seek-formed (handle ∷ offset ∷ whence ∷ more ∷ words) call is = absurd (cc (is))

rename-formed : (words : List (List ℕ)) (call : Call) → rename_words words ≡ Some call → IsCall call
unfolding rename_words
rename-formed (handle ∷ id ∷ []) call is =
    let h = from_bind (number_of handle) _ call is in
    let i = from_bind (id_of id) _ call h.2 in
    let same : Rename h.0 i.0 ≡ call = cc (i.2) in
    subst IsCall same (id-formed id i.0 i.1)
rename-formed [] call is = absurd (cc (is))
rename-formed (handle ∷ []) call is = absurd (cc (is))
rename-formed (handle ∷ id ∷ more ∷ words) call is = absurd (cc (is))

none-formed : (words : List (List ℕ)) (made call : Call) → IsCall made → no_words made words ≡ Some call → IsCall call
none-formed [] made call fine is = let same : made ≡ call = cc (is) in subst IsCall same fine
none-formed (word ∷ words) made call fine is = absurd (cc (is))

verb-formed : (verb : Verb) (words : List (List ℕ)) (call : Call) → call_of verb words ≡ Some call → IsCall call
verb-formed CreateVerb words call is = create-formed words call is
verb-formed OpenVerb words call is = open-formed words call is
verb-formed CloseVerb words call is = plain (one_number words) (λ n. Close n) call (λ n. tt) is
verb-formed ReadVerb words call is = plain (two_numbers words) (λ n. Read n.0 n.1) call (λ n. tt) is
verb-formed WriteVerb words call is = write-formed words call is
verb-formed TruncateVerb words call is = plain (two_numbers words) (λ n. Truncate n.0 n.1) call (λ n. tt) is
verb-formed SeekVerb words call is = seek-formed words call is
verb-formed RenameVerb words call is = rename-formed words call is
verb-formed DeleteVerb words call is = plain (one_number words) (λ n. Delete n) call (λ n. tt) is
verb-formed InfoVerb words call is = plain (one_number words) (λ n. Info n) call (λ n. tt) is
verb-formed EnumerateVerb words call is = none-formed words EnumNew call tt is
verb-formed StartVerb words call is = plain (one_number words) (λ n. EnumStart n) call (λ n. tt) is
verb-formed NextVerb words call is = plain (one_number words) (λ n. EnumNext n) call (λ n. tt) is
verb-formed ResetVerb words call is = plain (one_number words) (λ n. EnumReset n) call (λ n. tt) is
verb-formed FreeVerb words call is = plain (one_number words) (λ n. EnumFree n) call (λ n. tt) is

-- the call of a line is well formed
pub call-formed : (words : List (List ℕ)) (call : Call) → call_words words ≡ Some call → IsCall call
unfolding call_words
call-formed [] call is = absurd (cc (is))
call-formed (verb ∷ words) call is =
    let v = from_bind (verb_of verb) (λ (v : Verb). call_of v words) call is in
    verb-formed v.0 words call v.2
