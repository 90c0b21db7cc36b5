-- Legality is closed under prefixes: what the rest of a history names is not needed for its beginning.
use Rattle.std.proofs.Common.{◌≡◌, ◌⊎◌, ◌+◌, ◌≤◌, ℕ, suc, Bool, true, false, cond, List, [], ◌∷◌, ◌++◌, length, ap, sym, ◌∙◌, refl, subst, inl, inr, Option, Some, None}
use Rattle.std.specs.List.{All, range_with_len}
use Rattle.std.specs.List.Sorted.{IsStrictlySortedBy}
use Rattle.std.specs.Map.{keys_of}
use Rattle.std.specs.Cmp.Lexicographic.{slice_cmp}
use Rattle.std.specs.Ordering.{nat_cmp}
use Rattle.std.proofs.lemmas.List.Elements.{All-nil, All-cons, All-head, All-tail}
use Rattle.std.proofs.lemmas.Map.Lookups.{CmpEqualImpliesEq, exact_bytes, exact_pairs}
use Rattle.std.proofs.lemmas.Map.Views.{tells_apart}
use Rattle.tee_types.specs.Identifier.{IsIdentifier}
use Rattle.store_model.specs.declared.name.ObjectName.{ObjectName}
use Rattle.store_model.specs.Name.{name_cmp}
use Rattle.store_model.specs.Object.{Object, Sound, Damaged, ObjectMap, size_of, object_at}
use Rattle.store_model.specs.Sound.{IsObject, IsObjectMap}
use Rattle.store_model.specs.Files.{FileMap}
use Rattle.store_model.specs.Record.{Record, file_of, is_named, events_of}
use Rattle.store_model.specs.History.{numbers_of, AreNumbered}
use Rattle.store_model.specs.ReplayState.{PhaseOpening, ReplayState, replay_after, replay}
use Rattle.store_model.specs.Legal.{IsLegalFrom}
use Rattle.store_model.specs.Damage.{HasLessDamage, IsMended, IsMaybeMended, IsAlteredBack}
use Rattle.store_model.specs.LegalHistory.{IsLegal, opening_with, doubt_of}
use Rattle.store_model.specs.Laws.{PrefixesAreLegal}
use Rattle.store_model.proofs.EventNumbers.{numbers-append}
use Rattle.store_model.proofs.Maps.{at}
use Rattle.store_model.proofs.Closeness.{listing, AreClose, IsUnnamed}
use Rattle.store_model.proofs.EventSteps.{replay_over, IsInStep}
use Rattle.store_model.proofs.LegalSteps.{event-step}

legal-over : {Root : Type 0} (tampered : List ℕ) (s : ReplayState) (b : ObjectMap) (records : List (Record Root)) → IsInStep s b records → IsLegalFrom tampered s records → IsLegalFrom tampered (replay_over s b) records
legal-over tampered s b [] in_step legal = tt
legal-over tampered s b (r ∷ records) in_step legal =
    let step = event-step tampered s b r records in_step r.event (file_of r) refl legal.0 in
    (step.legal, subst (λ (x : ReplayState). IsLegalFrom tampered x records) (sym step.after) (legal-over tampered (replay_after s r.event (file_of r)) step.left records step.in_step legal.1))

legal-front : {Root : Type 0} (tampered : List ℕ) (s : ReplayState) (front back : List (Record Root)) → IsLegalFrom tampered s (front ++ back) → IsLegalFrom tampered s front
legal-front tampered s [] back legal = tt
legal-front tampered s (r ∷ front) back legal = (legal.0, legal-front tampered (replay_after s r.event (file_of r)) front back legal.1)

-- names that are alike are one
exact_names : CmpEqualImpliesEq name_cmp
exact_names a b is =
    let both : (a.app, a.id) ≡ (b.app, b.id) = exact_pairs (slice_cmp nat_cmp) (slice_cmp nat_cmp) exact_bytes exact_bytes (a.app, a.id) (b.app, b.id) is in
    λ k. record { app = (both k).0; id = (both k).1 }

module _ {Root : Type 0} (files : FileMap) (tampered : List ℕ) (front back : List (Record Root)) where
  is_held : Option ℕ → Bool
  is_held None = false
  is_held (Some file) = is_named front file

  -- the altered map, where the beginning names the object's file, and the first map elsewhere
  mixed : ObjectMap → ObjectMap → ObjectMap
  mixed [] new = []
  mixed (e ∷ old) [] = []
  mixed (e ∷ old) (f ∷ new) = (e.0, cond (is_held (files e.0)) f.1 e.1) ∷ mixed old new

  abbrev Altered : ObjectMap → ObjectMap → Type 0
  Altered old new = IsAlteredBack files tampered (front ++ back) old new

  held-file : (o : Option ℕ) (file : ℕ) (held : Bool) → is_held o ≡ held → o ≡ Some file → is_named front file ≡ held
  unfolding is_held
  held-file o file held is some = ap is_held (sym some) ∙ is

  mixed-entry : (e f : ObjectName × Object) → IsMaybeMended files tampered (front ++ back) e f → (held : Bool) → is_held (files e.0) ≡ held
      → (cond held f.1 e.1 ≡ e.1) ⊎ IsMended files tampered front e.0 e.1 (cond held f.1 e.1)
  mixed-entry e f maybe false is = inl refl
  mixed-entry e f maybe true is = one maybe.object
    where
      one : (f.1 ≡ e.1) ⊎ IsMended files tampered (front ++ back) e.0 e.1 f.1 → (f.1 ≡ e.1) ⊎ IsMended files tampered front e.0 e.1 f.1
      one (inl same) = inl same
      one (inr m) = inr (record { file = m.file; of_object = m.of_object; not_honest = m.not_honest; named = held-file (files e.0) m.file true is m.of_object; less = m.less })

  mixed-altered : (old new : ObjectMap) → Altered old new → IsAlteredBack files tampered front old (mixed old new)
  unfolding mixed
  mixed-altered [] [] altered = tt
  mixed-altered [] (f ∷ new) altered = absurd altered
  mixed-altered (e ∷ old) [] altered = absurd altered
  mixed-altered (e ∷ old) (f ∷ new) altered =
      (record { name = refl; object = mixed-entry e f altered.0 (is_held (files e.0)) refl }, mixed-altered old new altered.1)

  mixed-keys : (old new : ObjectMap) → Altered old new → keys_of (mixed old new) ≡ keys_of old
  unfolding mixed
  mixed-keys [] new altered = refl
  mixed-keys (e ∷ old) [] altered = absurd altered
  mixed-keys (e ∷ old) (f ∷ new) altered = ap (λ l. e.0 ∷ l) (mixed-keys old new altered.1)

  mixed-length : (old new : ObjectMap) → Altered old new → length (mixed old new) ≡ length old
  unfolding mixed
  mixed-length [] new altered = refl
  mixed-length (e ∷ old) [] altered = absurd altered
  mixed-length (e ∷ old) (f ∷ new) altered = ap suc (mixed-length old new altered.1)

  mixed-named : (P : ObjectName → Type 0) (old new : ObjectMap) → Altered old new → All (λ e. P e.0) old → All (λ e. P e.0) (mixed old new)
  unfolding mixed
  mixed-named P [] new altered named = All-nil (λ e. P e.0)
  mixed-named P (e ∷ old) [] altered named = absurd altered
  mixed-named P (e ∷ old) (f ∷ new) altered named =
      All-cons (λ e. P e.0) (e.0, cond (is_held (files e.0)) f.1 e.1) (mixed old new) (All-head (λ e. P e.0) e old named) (mixed-named P old new altered.1 (All-tail (λ e. P e.0) e old named))

  mixed-sound : (old new : ObjectMap) → Altered old new → All (λ e. IsObject e.1) old → All (λ e. IsObject e.1) new → All (λ e. IsObject e.1) (mixed old new)
  unfolding mixed
  mixed-sound [] new altered sound sound' = All-nil (λ e. IsObject e.1)
  mixed-sound (e ∷ old) [] altered sound sound' = absurd altered
  mixed-sound (e ∷ old) (f ∷ new) altered sound sound' =
      All-cons (λ e. IsObject e.1) (e.0, cond (is_held (files e.0)) f.1 e.1) (mixed old new)
      (elim (is_held (files e.0)) as (λ c. IsObject (cond c f.1 e.1)) [
        | true ↦ All-head (λ e. IsObject e.1) f new sound'
        | false ↦ All-head (λ e. IsObject e.1) e old sound
      ])
      (mixed-sound old new altered.1 (All-tail (λ e. IsObject e.1) e old sound) (All-tail (λ e. IsObject e.1) f new sound'))

  -- less damage is of one size
  same-size : (old new : Object) → HasLessDamage old new → size_of new ≡ size_of old
  same-size (Sound c) (Sound d) less = less.size
  same-size (Sound c) (Damaged n) less = absurd less
  same-size (Damaged n) (Sound d) less = less
  same-size (Damaged n) (Damaged m) less = less

  mixed-size : (e f : ObjectName × Object) → IsMaybeMended files tampered (front ++ back) e f → (held : Bool) → size_of (cond held f.1 e.1) ≡ size_of f.1
  mixed-size e f maybe true = refl
  mixed-size e f maybe false = one maybe.object
    where
      one : (f.1 ≡ e.1) ⊎ IsMended files tampered (front ++ back) e.0 e.1 f.1 → size_of e.1 ≡ size_of f.1
      one (inl same) = ap size_of (sym same)
      one (inr m) = sym (same-size e.1 f.1 m.less)

  mixed-listed : (old new : ObjectMap) → Altered old new → listing (mixed old new) ≡ listing new
  unfolding mixed
  mixed-listed [] [] altered = refl
  mixed-listed [] (f ∷ new) altered = absurd altered
  mixed-listed (e ∷ old) [] altered = absurd altered
  mixed-listed (e ∷ old) (f ∷ new) altered =
      λ k. (sym (altered.0).name k, mixed-size e f altered.0 (is_held (files e.0)) k) ∷ mixed-listed old new altered.1 k

  -- an object that is not taken from the altered map has a file that the beginning does not name, or is the same
  mixed-first : (name : ObjectName) (e f : ObjectName × Object) → IsMaybeMended files tampered (front ++ back) e f → at name e.0 ≡ true → (held : Bool) → is_held (files e.0) ≡ held
      → (cond held f.1 e.1 ≡ f.1) ⊎ IsUnnamed files front name
  mixed-first name e f maybe here true is = inl refl
  mixed-first name e f maybe here false is = one maybe.object
    where
      one : (f.1 ≡ e.1) ⊎ IsMended files tampered (front ++ back) e.0 e.1 f.1 → (e.1 ≡ f.1) ⊎ IsUnnamed files front name
      one (inl same) = inl (sym same)
      one (inr m) = inr (record {
        file = m.file;
        of_object = ap files (tells_apart exact_names name e.0 here) ∙ m.of_object;
        unnamed = held-file (files e.0) m.file false is m.of_object;
      })

  mixed-each : (old new : ObjectMap) (name : ObjectName) → Altered old new → (object_at (mixed old new) name ≡ object_at new name) ⊎ IsUnnamed files front name
  unfolding mixed
  mixed-each [] [] name altered = inl refl
  mixed-each [] (f ∷ new) name altered = absurd altered
  mixed-each (e ∷ old) [] name altered = absurd altered
  mixed-each (e ∷ old) (f ∷ new) name altered =
      one (at name e.0) refl (ap (at name) (altered.0).name) (mixed-each old new name altered.1)
    where
      object : Object
      object = cond (is_held (files e.0)) f.1 e.1

      one : (here : Bool) → at name e.0 ≡ here → at name f.0 ≡ at name e.0 → (object_at (mixed old new) name ≡ object_at new name) ⊎ IsUnnamed files front name
          → (cond (at name e.0) (Some (cond (is_held (files e.0)) f.1 e.1)) (object_at (mixed old new) name) ≡ cond (at name f.0) (Some f.1) (object_at new name)) ⊎ IsUnnamed files front name
      one true here alike rest = first (mixed-first name e f altered.0 here (is_held (files e.0)) refl)
        where
          first : (cond (is_held (files e.0)) f.1 e.1 ≡ f.1) ⊎ IsUnnamed files front name
              → (cond (at name e.0) (Some (cond (is_held (files e.0)) f.1 e.1)) (object_at (mixed old new) name) ≡ cond (at name f.0) (Some f.1) (object_at new name)) ⊎ IsUnnamed files front name
          first (inl same) = inl (ap (λ (c : Bool). cond c (Some (cond (is_held (files e.0)) f.1 e.1)) (object_at (mixed old new) name)) here
              ∙ ap (λ (x : Object). Some x) same ∙ sym (ap (λ (c : Bool). cond c (Some f.1) (object_at new name)) (alike ∙ here)))
          first (inr u) = inr u
      one false here alike (inl same) = inl (ap (λ (c : Bool). cond c (Some (cond (is_held (files e.0)) f.1 e.1)) (object_at (mixed old new) name)) here
          ∙ same ∙ sym (ap (λ (c : Bool). cond c (Some f.1) (object_at new name)) (alike ∙ here)))
      one false here alike (inr u) = inr u

  mixed-close : (old new : ObjectMap) → Altered old new → AreClose files front new (mixed old new)
  mixed-close old new altered = record { listed = mixed-listed old new altered; each = λ name. mixed-each old new name altered }

  mixed-map : (old new : ObjectMap) → Altered old new → IsObjectMap old → IsObjectMap new → IsObjectMap (mixed old new)
  mixed-map old new altered is is' = record {
    few = subst (λ (n : ℕ). n ≤ 256) (sym (mixed-length old new altered)) is.few;
    rising = subst (IsStrictlySortedBy name_cmp) (sym (mixed-keys old new altered)) is.rising;
    named = mixed-named (λ n. IsIdentifier n.id) old new altered is.named;
    sound = mixed-sound old new altered is.sound is'.sound;
  }

-- the numbers of a beginning
events-append : {Root : Type 0} (xs ys : List (Record Root)) → events_of (xs ++ ys) ≡ events_of xs ++ events_of ys
events-append [] ys = refl
events-append (x ∷ xs) ys = ap (λ l. x.event ∷ l) (events-append xs ys)

first_of : List ℕ → ℕ
first_of [] = 0
first_of (x ∷ xs) = x

rest_of : List ℕ → List ℕ
rest_of [] = []
rest_of (x ∷ xs) = xs

range-front : (a : ℕ) (xs ys : List ℕ) → xs ++ ys ≡ range_with_len a (length (xs ++ ys)) → xs ≡ range_with_len a (length xs)
unfolding first_of rest_of
range-front a [] ys is = refl
range-front a (x ∷ xs) ys is = λ k. ap first_of is k ∷ range-front (a + 1) xs ys (ap rest_of is) k

numbered-front : {Root : Type 0} (front back : List (Record Root)) → AreNumbered (events_of (front ++ back)) → AreNumbered (events_of front)
numbered-front front back numbered session =
    let split : numbers_of session (events_of (front ++ back)) ≡ numbers_of session (events_of front) ++ numbers_of session (events_of back) =
    ap (numbers_of session) (events-append front back) ∙ numbers-append session (events_of front) (events_of back) in
    range-front 0 (numbers_of session (events_of front)) (numbers_of session (events_of back))
    (subst (λ (l : List ℕ). l ≡ range_with_len 0 (length l)) split (numbered session))

pub prefix-legal : {Root : Type 0} (phase : PhaseOpening) (tampered : List ℕ) (front back : List (Record Root)) (doubt : Option ℕ)
    → IsLegal phase tampered (front ++ back) doubt → (left : Option ℕ) × IsLegal phase tampered front left
prefix-legal phase tampered front back doubt legal =
    let begins : ObjectMap = mixed phase.files tampered front back phase.objects legal.begins in (
      doubt_of (replay (opening_with phase begins) front),
      record {
        opens = legal.opens;
        begins = begins;
        begins_sound = mixed-map phase.files tampered front back phase.objects legal.begins legal.altered legal.opens legal.begins_sound;
        altered = mixed-altered phase.files tampered front back phase.objects legal.begins legal.altered;
        events_legal = legal-over tampered (opening_with phase legal.begins) begins front
            (record {
              close = mixed-close phase.files tampered front back phase.objects legal.begins legal.altered;
              rising = (legal.begins_sound).rising;
              landed = λ d is. absurd (cc (is));
            })
            (legal-front tampered (opening_with phase legal.begins) front back legal.events_legal);
        doubt_left = inl refl;
        numbered = numbered-front front back legal.numbered;
      },
    )

pub prefixes_are_legal : (Root : Type 0) → PrefixesAreLegal Root
prefixes_are_legal Root phase tampered front back doubt legal = prefix-legal phase tampered front back doubt legal
