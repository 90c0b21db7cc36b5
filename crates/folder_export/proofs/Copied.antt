-- Bytes that are copied part by part.
use Rattle.std.proofs.Common.{◌≡◌, ◌∙◌, ◌+◌, ◌-◌, ◌<◌, ◌≤◌, ◌^◌, ◌++◌, ℕ, List, [], length, take, drop, replicate, min, Bool, IsTrue, refl, sym, ap, subst, arith, length-append, length-take, append_assoc, append-nil}
use Rattle.std.proofs.lemmas.List.{drop-take, take-append-drop, take-take, take_all, take_at}
use Rattle.disk_model.specs.Bytes.{after_resize, after_write}
use Rattle.disk_model.specs.Calls.{GoesOn, Known, Rests}
use Rattle.disk_model.specs.State.{FileState}
use Rattle.disk_model.proofs.Goings.{first_known, then_known}
use Rattle.tee_ports.specs.Files.{Passes}
use Rattle.folder_export.specs.Copies.{CopiesFile, CopiesFront, IsSettled, IsTold, WritesFile, WritesFront}
use Rattle.folder_export.proofs.Causes.{passes_none, passes_then}

-- the front of a file that has so many bytes
front_fits : (old : List ℕ) (at : ℕ) (bytes : List ℕ) → length bytes ≡ at → take at old ≡ bytes → at ≤ length old
front_fits old at bytes many front = omega (arith, length-take at old, ap length front, many)

-- a part that is written behind it
pub front_more : (old : List ℕ) (at : ℕ) (bytes part : List ℕ) → length bytes ≡ at → take at old ≡ bytes
    → take (length (bytes ++ part)) (after_write old at part) ≡ bytes ++ part
front_more old at bytes part many front =
    let rest = drop (at + length part) old in
    let none : at - length old ≡ 0 = omega (arith, front_fits old at bytes many front) in
    let filled : after_write old at part ≡ take at old ++ (part ++ rest) = ap (λ (n : ℕ). take at old ++ (replicate n 0 ++ (part ++ rest))) none in
    let whole : after_write old at part ≡ (bytes ++ part) ++ rest = filled ∙ ap (λ (l : List ℕ). l ++ (part ++ rest)) front ∙ sym (append_assoc bytes part rest) in
    ap (take (length (bytes ++ part))) whole ∙ take_at (bytes ++ part) rest (length (bytes ++ part)) refl

-- a file that ends behind it
pub front_ended : (old bytes : List ℕ) → take (length bytes) old ≡ bytes → after_resize old (length bytes) ≡ bytes
front_ended old bytes front =
    let none : length bytes - length old ≡ 0 = omega (arith, front_fits old (length bytes) bytes refl front) in
    ap (λ (n : ℕ). take (length bytes) old ++ replicate n 0) none ∙ ap (λ (l : List ℕ). l ++ []) front ∙ append-nil bytes

take_parts : (bytes : List ℕ) (at n : ℕ) → take (at + n) bytes ≡ take at bytes ++ take n (drop at bytes)
take_parts bytes at n =
    sym (take-append-drop at (take (at + n) bytes))
    ∙ ap (λ (l : List ℕ). l ++ drop at (take (at + n) bytes)) (take-take at (at + n) bytes (omega arith))
    ∙ ap (λ (l : List ℕ). take at bytes ++ l) (drop-take at n bytes)

-- what is told at the end of calls that change nothing is told before the last of them, and from the first on
pub told_first : (a b c : FileState) → Rests a b → Rests b c → IsTold a c → IsTold a b
told_first a b c first second told = record {
  tells = subst (λ (t : Bool). IsTrue t) second.goes_on.tells told.tells;
  known = first_known a b c second.goes_on told.known;
  few = subst (λ (l : List ℕ). length l < 2 ^ 32) (second.reads (then_known a b c first.goes_on told.known)) told.few;
}

pub told_then : (a b c : FileState) → Rests a b → IsTold a c → IsTold b c
told_then a b c first told = record { tells = told.tells; known = then_known a b c first.goes_on told.known; few = told.few }

-- nothing was copied yet
pub copied_none : (a x : FileState) → CopiesFront 0 a a x x
copied_none a x = record {
  passed = passes_none a;
  bytes = [];
  many = refl;
  writes = record { passed = passes_none x; front = λ known. refl; once = λ fits. omega arith };
  are = λ told fits. refl;
}

-- one more part was copied
pub copied_more : (a b c x y z : FileState) (at : ℕ) (part : List ℕ) → Rests a b → Rests b c → GoesOn x y → GoesOn y z
    → CopiesFront at a b x y → Passes b c → Passes y z
    → (IsTrue c.tells → at + length part ≤ length c.reads → part ≡ take (length part) (drop at c.reads))
    → (Known y z → z.reads ≡ after_write y.reads at part) → z.written ≡ min (y.written + length part) (2 ^ 64 - 1)
    → CopiesFront (at + length part) a c x z
copied_more a b c x y z at part first second goes more copied from_passed to_passed told written counted = record {
  passed = passes_then a b c copied.passed from_passed;
  bytes = copied.bytes ++ part;
  many = length-append copied.bytes part ∙ ap (λ (n : ℕ). n + length part) copied.many;
  writes = record {
    passed = passes_then x y z (copied.writes).passed to_passed;
    front = λ known.
        let in_front : take at y.reads ≡ copied.bytes = subst (λ (n : ℕ). take n y.reads ≡ copied.bytes) copied.many ((copied.writes).front (first_known x y z more known)) in
        ap (take (length (copied.bytes ++ part))) (written (then_known x y z goes known)) ∙ front_more y.reads at copied.bytes part copied.many in_front;
    once = λ fits.
        let all = length-append copied.bytes part in
        let before = (copied.writes).once (omega (arith, all, fits)) in
        omega (arith, all, fits, before, counted);
  };
  are = λ ends fits.
      let same : c.reads ≡ b.reads = second.reads (then_known a b c first.goes_on ends.known) in
      let long : at ≤ length b.reads = omega (arith, ap length same, fits) in
      let in_front : copied.bytes ≡ take at c.reads = copied.are (told_first a b c first second ends) long ∙ ap (take at) (sym same) in
      let behind : part ≡ take (length part) (drop at c.reads) = told ends.tells fits in
      ap (λ (l : List ℕ). l ++ part) in_front ∙ ap (λ (l : List ℕ). take at c.reads ++ l) behind ∙ sym (take_parts c.reads at (length part));
}

-- all was written at once
pub written_first : (x y : FileState) (bytes : List ℕ) → Passes x y → (Known x y → y.reads ≡ after_write x.reads 0 bytes)
    → y.written ≡ min (x.written + length bytes) (2 ^ 64 - 1) → WritesFront bytes x y
written_first x y bytes passed written counted = record {
  passed = passed;
  front = λ known. ap (take (length bytes)) (written known) ∙ front_more x.reads 0 [] bytes refl refl;
  once = λ fits. omega (arith, fits, counted);
}

-- the file ends behind what was written
pub written_whole : (x y z : FileState) (bytes : List ℕ) (count : ℕ) → length bytes ≡ count → GoesOn x y → GoesOn y z → WritesFront bytes x y → Passes y z
    → (Known y z → z.reads ≡ after_resize y.reads count) → z.written ≡ y.written → IsSettled z → WritesFile bytes x z
written_whole x y z bytes count many goes more front passed resized same settled = record {
  passed = passes_then x y z front.passed passed;
  reads = λ known. resized (then_known x y z goes known) ∙ ap (after_resize y.reads) (sym many) ∙ front_ended y.reads bytes (front.front (first_known x y z more known));
  once = λ fits. same ∙ front.once fits;
  settled = settled;
}

-- all of a file was copied
pub copied_whole : (a b c x y z : FileState) (count : ℕ) → Rests a b → Passes a b → (IsTold a b → count ≡ length b.reads) → Rests b c → CopiesFront count b c x y
    → GoesOn x y → GoesOn y z → Passes y z → (Known y z → z.reads ≡ after_resize y.reads count) → z.written ≡ y.written → IsSettled z → CopiesFile a c x z
copied_whole a b c x y z count first passed told second copied goes more ended resized same settled = record {
  passed = passes_then a b c passed copied.passed;
  bytes = copied.bytes;
  writes = written_whole x y z copied.bytes count copied.many goes more copied.writes ended resized same settled;
  are = λ ends.
      let reads : c.reads ≡ b.reads = second.reads (then_known a b c first.goes_on ends.known) in
      let all : count ≡ length c.reads = told (told_first a b c first second ends) ∙ ap length (sym reads) in
      copied.are (told_then a b c first ends) (omega (arith, all)) ∙ take_all count c.reads (omega (arith, all));
}
