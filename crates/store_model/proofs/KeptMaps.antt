-- A well formed call leaves a map of objects.
use Rattle.std.proofs.Common.{◌≡◌, ◌⊎◌, ◌≤◌, ◌<◌, ◌+◌, ◌-◌, ℕ, zero, Bool, true, false, cond, not, ◌&&◌, ◌||◌, List, [], ◌∷◌, ◌++◌, length, take, drop, replicate, filter, min, max, get_or, ap, sym, ◌∙◌, refl, subst, inl, inr, Option, Some, None, is_some, true≢false, arith, lit<, nat_lt, nat_le, length-append, length-drop}
use Rattle.std.specs.List.{All}
use Rattle.std.specs.Map.{lookup, set_value, remove_entry}
use Rattle.std.specs.BTreeMap.{insert_entry}
use Rattle.std.specs.Ordering.{match_ordering, nat_cmp, is_eq}
use Rattle.std.specs.declared.cmp.Ordering.TheVariants.{Less, Equal, Greater}
use Rattle.std.specs.List.Sorted.{IsStrictlySortedBy}
use Rattle.std.proofs.lemmas.List.{length-take, length-replicate}
use Rattle.std.proofs.lemmas.List.Elements.{All-nil, All-cons, All-head, All-tail, All-append, All-take, All-drop, All-replicate}
use Rattle.std.proofs.lemmas.Map.{length-set_value, keys-set_value}
use Rattle.std.proofs.lemmas.Bool.{ltb-false}
use Rattle.std.proofs.lemmas.Bool.Decides.{nat_tests}
use Rattle.std.proofs.lemmas.List.{get_or-take, get_or-drop, get_or_past}
use Rattle.std.proofs.Math.ListN.{get_or-append}
use Rattle.std.proofs.Math.Seq.{get_or-append_right}
use Rattle.std.proofs.lemmas.List.Kept.{IsStrictlySortedBy-filter}
use Rattle.std.proofs.lemmas.List.{get_or-replicate}
use Rattle.store_model.specs.declared.name.ObjectName.{ObjectName}
use Rattle.store_model.specs.Name.{name_cmp}
use Rattle.store_model.specs.Object.{Object, Contents, Sound, ObjectMap, block_start, block_end, object_at, holds, with_object, without_object, changed_object, moved_object}
use Rattle.store_model.specs.Sound.{AreBytes, IsBadBlock, AreContents, IsObject, IsObjectMap, IsCall}
use Rattle.store_model.specs.Data.{meets_block, write_refusals, truncate_refusals, written, written_contents, resized, resized_contents}
use Rattle.tee_types.specs.Identifier.{IsIdentifier}
use Rattle.tee_types.specs.declared.flags.Flags.{Flags}
use Rattle.tee_types.specs.declared.call.Call.{Call}
use Rattle.tee_types.specs.declared.call.Call.TheVariants.{Create, Write, Truncate, Rename, Delete}
use Rattle.tee_types.specs.declared.reply.Reply.{Reply}
use Rattle.store_model.specs.declared.session.Handle.{Handle}
use Rattle.store_model.specs.Machine.{MachineState, first_refusal, session_at, handle_at, name_in}
use Rattle.store_model.specs.Handles.{lacks_room, create_refusals}
use Rattle.store_model.specs.Calls.{reply_of, state_after, is_done, is_commit}
use Rattle.store_model.specs.Laws.{CallsKeepMaps}
use Rattle.store_model.proofs.MapLaws.{rising-with, rising-without}
use Rattle.store_model.proofs.QuietCalls.{others_keep_maps}
use Rattle.store_model.proofs.MadeChanges.{unrefused}
use Rattle.store_model.proofs.CloseCommits.{ChangedBy, put-left, write-left, truncate-left, rename-left, delete-left, and-right}
use Rattle.store_model.proofs.Maps.{at, IsBelow, IsBelow-trans}
use Rattle.store_model.proofs.Closeness.{IsRising}

-- what holds of each entry holds after an insertion, a change and a removal
all-with : (P : ObjectName × Object → Type 0) (name : ObjectName) (x : Object) (m : ObjectMap) → P (name, x) → ((e : ObjectName × Object) → P e → P (e.0, x)) → All P m → All P (insert_entry name_cmp m name x)
all-with P name x [] here kept all = All-cons P (name, x) [] here (All-nil P)
all-with P name x (e ∷ m) here kept all = elim (name_cmp name e.0) as (λ o. All P (match_ordering o ((name, x) ∷ e ∷ m) ((e.0, x) ∷ m) (e ∷ insert_entry name_cmp m name x))) [
  | Less ↦ All-cons P (name, x) (e ∷ m) here all
  | Equal ↦ All-cons P (e.0, x) m (kept e (All-head P e m all)) (All-tail P e m all)
  | Greater ↦ All-cons P e (insert_entry name_cmp m name x) (All-head P e m all) (all-with P name x m here kept (All-tail P e m all))
]

all-changed : (P : ObjectName × Object → Type 0) (test : ObjectName → Bool) (x : Object) (m : ObjectMap) → ((e : ObjectName × Object) → P e → P (e.0, x)) → All P m → All P (set_value test m x)
all-changed P test x [] kept all = All-nil P
all-changed P test x (e ∷ m) kept all = elim (test e.0) as (λ c. All P (cond c ((e.0, x) ∷ m) (e ∷ set_value test m x))) [
  | true ↦ All-cons P (e.0, x) m (kept e (All-head P e m all)) (All-tail P e m all)
  | false ↦ All-cons P e (set_value test m x) (All-head P e m all) (all-changed P test x m kept (All-tail P e m all))
]

all-without : (P : ObjectName × Object → Type 0) (test : ObjectName → Bool) (m : ObjectMap) → All P m → All P (remove_entry test m)
all-without P test [] all = All-nil P
all-without P test (e ∷ m) all = elim (test e.0) as (λ c. All P (cond c m (e ∷ remove_entry test m))) [
  | true ↦ All-tail P e m all
  | false ↦ All-cons P e (remove_entry test m) (All-head P e m all) (all-without P test m (All-tail P e m all))
]

all-filtered : {P Q : ℕ → Type 0} (p : ℕ → Bool) (xs : List ℕ) → ((x : ℕ) → P x → p x ≡ true → Q x) → All P xs → All Q (filter p xs)
all-filtered {Q = Q} p [] each all = All-nil Q
all-filtered {P = P} {Q = Q} p (x ∷ xs) each all = (elim (p x) as (λ c. p x ≡ c → All Q (cond c (x ∷ filter p xs) (filter p xs))) [
  | true ↦ λ is. All-cons Q x (filter p xs) (each x (All-head P x xs all) is) (all-filtered p xs each (All-tail P x xs all))
  | false ↦ λ is. all-filtered p xs each (All-tail P x xs all)
]) refl

found-all : (P : Object → Type 0) (test : ObjectName → Bool) (m : ObjectMap) (x : Object) → All (λ e. P e.1) m → lookup test m ≡ Some x → P x
found-all P test [] x all is = absurd (cc (is))
found-all P test (e ∷ m) x all is = (elim (test e.0) as (λ c. cond c (Some e.1) (lookup test m) ≡ Some x → P x) [
  | true ↦ λ here. let same : e.1 ≡ x = cc (here) in subst P same (All-head (λ e. P e.1) e m all)
  | false ↦ λ there. found-all P test m x (All-tail (λ e. P e.1) e m all) there
]) is

-- how long a map is
none-below : (name : ObjectName) (m : ObjectMap) → IsBelow name m → object_at m name ≡ None
none-below name [] below = refl
none-below name (e ∷ m) below = ap (λ o. cond (is_eq o) (Some e.1) (object_at m name)) below.0 ∙ none-below name m below.1

long-with : (m : ObjectMap) (name : ObjectName) (x : Object) → length (with_object m name x) ≤ length m + 1
long-with [] name x = omega arith
long-with (e ∷ m) name x = elim (name_cmp name e.0) as (λ o. length (match_ordering o ((name, x) ∷ e ∷ m) ((e.0, x) ∷ m) (e ∷ insert_entry name_cmp m name x)) ≤ length (e ∷ m) + 1) [
  | Less ↦ omega arith
  | Equal ↦ omega arith
  | Greater ↦ omega (arith, long-with m name x)
]

held-with : (m : ObjectMap) (name : ObjectName) (x : Object) → IsRising m → holds m name ≡ true → length (with_object m name x) ≤ length m
unfolding IsStrictlySortedBy
held-with [] name x rising held = absurd (true≢false (sym held))
held-with (e ∷ m) name x rising held = (elim (name_cmp name e.0) as (λ o. name_cmp name e.0 ≡ o → length (match_ordering o ((name, x) ∷ e ∷ m) ((e.0, x) ∷ m) (e ∷ insert_entry name_cmp m name x)) ≤ length (e ∷ m)) [
  | Less ↦ λ h. absurd (true≢false (sym held ∙ ap is_some (none-below name (e ∷ m) (h, IsBelow-trans name e.0 m h rising.0))))
  | Equal ↦ λ h. omega arith
  | Greater ↦ λ h. omega (arith, held-with m name x rising.1 (sym (ap (λ o. is_some (cond (is_eq o) (Some e.1) (object_at m name))) h) ∙ held))
]) refl

long-without : (m : ObjectMap) (test : ObjectName → Bool) → length (remove_entry test m) ≤ length m
long-without [] test = omega arith
long-without (e ∷ m) test = elim (test e.0) as (λ c. length (cond c m (e ∷ remove_entry test m)) ≤ length (e ∷ m)) [
  | true ↦ omega arith
  | false ↦ omega (arith, long-without m test)
]

shorter-without : (m : ObjectMap) (test : ObjectName → Bool) (x : Object) → lookup test m ≡ Some x → length (remove_entry test m) + 1 ≤ length m
shorter-without [] test x is = absurd (cc (is))
shorter-without (e ∷ m) test x is = (elim (test e.0) as (λ c. cond c (Some e.1) (lookup test m) ≡ Some x → length (cond c m (e ∷ remove_entry test m)) + 1 ≤ length (e ∷ m)) [
  | true ↦ λ here. omega arith
  | false ↦ λ there. omega (arith, shorter-without m test x there)
]) is

-- a block that a range does not meet
apart_from : (first last k : ℕ) → not (meets_block first last k) ≡ true → (last ≤ first) ⊎ (last ≤ block_start k) ⊎ (block_end k ≤ first)
apart_from first last k is = one (nat_lt first last) refl (nat_lt (block_start k) last) refl (nat_lt first (block_end k)) refl
  where
    one : (a : Bool) → nat_lt first last ≡ a → (b : Bool) → nat_lt (block_start k) last ≡ b → (c : Bool) → nat_lt first (block_end k) ≡ c
        → (last ≤ first) ⊎ (last ≤ block_start k) ⊎ (block_end k ≤ first)
    one false h b i c j = inl (ltb-false first last h)
    one true h false i c j = inr (inl (ltb-false (block_start k) last i))
    one true h true i false j = inr (inr (ltb-false first (block_end k) j))
    one true h true i true j = absurd (true≢false (sym is ∙ (λ l. not (h l && i l && j l))))

written-length : (old : List ℕ) (position : ℕ) (bytes : List ℕ) → length (written old position bytes) ≡ max (length old) (position + length bytes)
written-length old position bytes = simp (length-append, length-take, length-replicate, length-drop) (omega arith)

resized-length : (old : List ℕ) (size : ℕ) → length (resized old size) ≡ size
resized-length old size = simp (length-append, length-take, length-replicate) (omega arith)

written-bytes : (old : List ℕ) (position : ℕ) (bytes : List ℕ) → AreBytes old → AreBytes bytes → AreBytes (written old position bytes)
written-bytes old position bytes are are' =
    All-append (λ b. b < 256) (take position old ++ replicate (position - length old) 0 ++ bytes) (drop (position + length bytes) old)
    (All-append (λ b. b < 256) (take position old ++ replicate (position - length old) 0) bytes
    (All-append (λ b. b < 256) (take position old) (replicate (position - length old) 0) (All-take (λ b. b < 256) position old are) (All-replicate (λ b. b < 256) (position - length old) 0 (lit< tt))) are')
    (All-drop (λ b. b < 256) (position + length bytes) old are)

resized-bytes : (old : List ℕ) (size : ℕ) → AreBytes old → AreBytes (resized old size)
resized-bytes old size are =
    All-append (λ b. b < 256) (take size old) (replicate (size - length old) 0) (All-take (λ b. b < 256) size old are) (All-replicate (λ b. b < 256) (size - length old) 0 (lit< tt))

-- what a write and a new size leave as it was
written-before : (old : List ℕ) (position : ℕ) (bytes : List ℕ) (place : ℕ) → place < min position (length old) → get_or (written old position bytes) place 0 ≡ get_or old place 0
written-before old position bytes place before =
    let front : place < length (take position old) = simp length-take (omega (arith, before)) in
    let more : place < length (take position old ++ replicate (position - length old) 0) = simp (length-append, length-take, length-replicate) (omega (arith, before)) in
    let most : place < length (take position old ++ replicate (position - length old) 0 ++ bytes) = simp (length-append, length-take, length-replicate) (omega (arith, before)) in
    get_or-append (take position old ++ replicate (position - length old) 0 ++ bytes) (drop (position + length bytes) old) 0 place most
    ∙ get_or-append (take position old ++ replicate (position - length old) 0) bytes 0 place more
    ∙ get_or-append (take position old) (replicate (position - length old) 0) 0 place front
    ∙ get_or-take position old place 0 (omega (arith, before))

written-behind : (old : List ℕ) (position : ℕ) (bytes : List ℕ) (place : ℕ) → position + length bytes ≤ place → get_or (written old position bytes) place 0 ≡ get_or old place 0
written-behind old position bytes place behind =
    let front : length (take position old ++ replicate (position - length old) 0 ++ bytes) ≡ position + length bytes = simp (length-append, length-take, length-replicate) (omega arith) in
    let at_ : position + length bytes + (place - (position + length bytes)) ≡ place = omega (arith, behind) in
    get_or-append_right (take position old ++ replicate (position - length old) 0 ++ bytes) (drop (position + length bytes) old) place 0 (omega (arith, front, behind))
    ∙ ap (λ n. get_or (drop (position + length bytes) old) (place - n) 0) front
    ∙ get_or-drop (position + length bytes) old (place - (position + length bytes)) 0
    ∙ ap (λ n. get_or old n 0) at_

zeros : (n place : ℕ) → get_or (replicate n zero) place zero ≡ zero
zeros n place = one (nat_lt place n) refl
  where
    one : (c : Bool) → nat_lt place n ≡ c → get_or (replicate n zero) place zero ≡ zero
    one true h = get_or-replicate n place 0 0 (grind (arith, nat_tests, h))
    one false h = get_or_past (replicate n 0) place 0 (simp length-replicate (ltb-false place n h))

resized-zero : (old : List ℕ) (size place : ℕ) → get_or old place 0 ≡ 0 → get_or (resized old size) place 0 ≡ 0
resized-zero old size place zero_ = one (nat_lt place (length (take size old))) refl
  where
    one : (c : Bool) → nat_lt place (length (take size old)) ≡ c → get_or (resized old size) place 0 ≡ 0
    one true h =
        let within : place < length (take size old) = grind (arith, nat_tests, h) in
        let below : place < size = omega (arith, within, length-take size old) in
        get_or-append (take size old) (replicate (size - length old) 0) 0 place within ∙ get_or-take size old place 0 below ∙ zero_
    one false h =
        get_or-append_right (take size old) (replicate (size - length old) 0) place 0 (ltb-false place (length (take size old)) h) ∙ zeros (size - length old) (place - length (take size old))

-- the contents after each change
written-contents : (c : Contents) (position : ℕ) (bytes : List ℕ) → 0 < length bytes → position + length bytes ≤ 1044480 → AreBytes bytes → AreContents c → AreContents (written_contents c position bytes)
written-contents c position bytes some fits are is = record {
  attributes = is.attributes;
  attributes_fit = is.attributes_fit;
  bytes = written-bytes c.bytes position bytes is.bytes are;
  bytes_fit = rw (written-length c.bytes position bytes) (omega (arith, is.bytes_fit, fits));
  bad_rising = IsStrictlySortedBy-filter nat_cmp (λ k. not (meets_block (min position (length c.bytes)) (position + length bytes) k)) c.bad is.bad_rising;
  bad = all-filtered (λ k. not (meets_block (min position (length c.bytes)) (position + length bytes) k)) c.bad (λ k bad off. kept k bad (apart_from (min position (length c.bytes)) (position + length bytes) k off)) is.bad;
}
  where
    kept : (k : ℕ) → IsBadBlock c.bytes k → (position + length bytes ≤ min position (length c.bytes)) ⊎ (position + length bytes ≤ block_start k) ⊎ (block_end k ≤ min position (length c.bytes))
        → IsBadBlock (written c.bytes position bytes) k
    kept k bad off = record {
      numbered = bad.numbered;
      within = rw (written-length c.bytes position bytes) (omega (arith, bad.within));
      zero = zero_ off;
    }
      where
        zero_ : (position + length bytes ≤ min position (length c.bytes)) ⊎ (position + length bytes ≤ block_start k) ⊎ (block_end k ≤ min position (length c.bytes))
            → (place : ℕ) → block_start k ≤ place → place < block_end k → get_or (written c.bytes position bytes) place 0 ≡ 0
        zero_ (inl none) place from to = absurd (omega (arith, none, some))
        zero_ (inr (inl behind)) place from to = written-behind c.bytes position bytes place (omega (arith, behind, from)) ∙ bad.zero place from to
        zero_ (inr (inr before)) place from to = written-before c.bytes position bytes place (omega (arith, before, to)) ∙ bad.zero place from to

resized-contents : (c : Contents) (size : ℕ) → size ≤ 1044480 → AreContents c → AreContents (resized_contents c size)
resized-contents c size fits is = record {
  attributes = is.attributes;
  attributes_fit = is.attributes_fit;
  bytes = resized-bytes c.bytes size is.bytes;
  bytes_fit = rw (resized-length c.bytes size) fits;
  bad_rising = IsStrictlySortedBy-filter nat_cmp (λ k. not (meets_block (min size (length c.bytes)) (max size (length c.bytes)) k)) c.bad is.bad_rising;
  bad = all-filtered (λ k. not (meets_block (min size (length c.bytes)) (max size (length c.bytes)) k)) c.bad (λ k bad off. kept k bad (apart_from (min size (length c.bytes)) (max size (length c.bytes)) k off)) is.bad;
}
  where
    within : (k : ℕ) → IsBadBlock c.bytes k → (max size (length c.bytes) ≤ min size (length c.bytes)) ⊎ (max size (length c.bytes) ≤ block_start k) ⊎ (block_end k ≤ min size (length c.bytes)) → block_start k < size
    within k bad (inl same) = omega (arith, same, bad.within)
    within k bad (inr (inl behind)) = absurd (omega (arith, behind, bad.within))
    within k bad (inr (inr before)) = omega (arith, before, bad.numbered)

    kept : (k : ℕ) → IsBadBlock c.bytes k → (max size (length c.bytes) ≤ min size (length c.bytes)) ⊎ (max size (length c.bytes) ≤ block_start k) ⊎ (block_end k ≤ min size (length c.bytes)) → IsBadBlock (resized c.bytes size) k
    kept k bad off = record {
      numbered = bad.numbered;
      within = rw (resized-length c.bytes size) (within k bad off);
      zero = λ place from to. resized-zero c.bytes size place (bad.zero place from to);
    }

new-contents : (attributes bytes : List ℕ) → AreBytes attributes → AreBytes bytes → length attributes ≤ 2048 → length bytes ≤ 1044480 → AreContents (record { attributes = attributes; bytes = bytes; bad = [] })
unfolding IsStrictlySortedBy
new-contents attributes bytes are are' fit fit' = record {
  attributes = are;
  attributes_fit = fit;
  bytes = are';
  bytes_fit = fit';
  bad_rising = tt;
  bad = All-nil (IsBadBlock bytes);
}

-- no row refuses
abbrev AllOff : List (Bool × Reply) → Type 0
AllOff [] = Unit {0}
AllOff (row ∷ rows) = (row.0 ≡ false) × AllOff rows

all-off : (rows : List (Bool × Reply)) → first_refusal rows ≡ None → AllOff rows
all-off [] none = tt
all-off ((true, reply) ∷ rows) none = absurd (cc (none))
all-off ((false, reply) ∷ rows) none = (refl, all-off rows none)

or-both : (a b : Bool) → (a || b) ≡ false → (a ≡ false) × (b ≡ false)
or-both true b is = absurd (true≢false is)
or-both false b is = (refl, is)

-- the maps after each change
put-map : (m : ObjectMap) (name : ObjectName) (x : Object) → IsObjectMap m → IsIdentifier name.id → IsObject x → lacks_room m name ≡ false → IsObjectMap (with_object m name x)
put-map m name x is named sound room = record {
  few = few (holds m name) refl (nat_le 256 (length m)) refl;
  rising = rising-with m name x is.rising;
  named = all-with (λ e. IsIdentifier (e.0).id) name x m named (λ e h. h) is.named;
  sound = all-with (λ e. IsObject e.1) name x m sound (λ e h. sound) is.sound;
}
  where
    few : (held : Bool) → holds m name ≡ held → (full : Bool) → nat_le 256 (length m) ≡ full → length (with_object m name x) ≤ 256
    few true h full f = omega (arith, held-with m name x is.rising h, is.few)
    few false h true f = absurd (true≢false ((λ k. not (sym h k) && sym f k) ∙ room))
    few false h false f = let below : length m < 256 = grind (arith, nat_tests, f) in omega (arith, long-with m name x, below)

changed-map : (m : ObjectMap) (name : ObjectName) (x : Object) → IsObjectMap m → IsObject x → IsObjectMap (changed_object m name x)
changed-map m name x is sound = record {
  few = subst (λ n. n ≤ 256) (sym (length-set_value (at name) m x)) is.few;
  rising = subst (IsStrictlySortedBy name_cmp) (sym (keys-set_value (at name) m x)) is.rising;
  named = all-changed (λ e. IsIdentifier (e.0).id) (at name) x m (λ e h. h) is.named;
  sound = all-changed (λ e. IsObject e.1) (at name) x m (λ e h. sound) is.sound;
}

removed-map : (m : ObjectMap) (name : ObjectName) → IsObjectMap m → IsObjectMap (without_object m name)
removed-map m name is = record {
  few = omega (arith, long-without m (at name), is.few);
  rising = rising-without m (at name) is.rising;
  named = all-without (λ e. IsIdentifier (e.0).id) (at name) m is.named;
  sound = all-without (λ e. IsObject e.1) (at name) m is.sound;
}

moved-map : (m : ObjectMap) (old new : ObjectName) → IsObjectMap m → IsIdentifier new.id → IsObjectMap (moved_object m old new)
moved-map m old new is named = one (object_at m old) refl
  where
    gone : IsObjectMap (without_object m old)
    gone = removed-map m old is

    one : (o : Option Object) → object_at m old ≡ o → IsObjectMap (elim o as (λ _. ObjectMap) [ Some object ↦ with_object (without_object m old) new object | None ↦ m ])
    one None found = is
    one (Some x) found =
        let sound : IsObject x = found-all IsObject (at old) m x is.sound found in
        record {
          few = omega (arith, long-with (without_object m old) new x, shorter-without m (at old) x found, is.few);
          rising = rising-with (without_object m old) new x gone.rising;
          named = all-with (λ e. IsIdentifier (e.0).id) new x (without_object m old) named (λ e h. h) gone.named;
          sound = all-with (λ e. IsObject e.1) new x (without_object m old) sound (λ e h. sound) gone.sound;
        }

module _ (s : MachineState) (i : ℕ) (is : IsObjectMap s.objects) where
  abbrev IsKept : ObjectMap → Type 0
  IsKept m = IsObjectMap m

  old-contents : (name : ObjectName) (c : Contents) → object_at s.objects name ≡ Some (Sound c) → AreContents c
  old-contents name c found = found-all IsObject (at name) s.objects (Sound c) is.sound found

  data-kept : (number : ℕ) (change : Handle → Contents → Contents) (left : ObjectMap) → ChangedBy s i number change left
      → ((h : Handle) (c : Contents) → handle_at (session_at s i) number ≡ Some h → object_at s.objects h.name ≡ Some (Sound c) → AreContents (change h c)) → IsObjectMap left
  data-kept number change left by fine =
      let has = by.has in
      let found : object_at s.objects (has.handle).name ≡ Some (Sound has.old) = ap (object_at s.objects) has.named ∙ has.was in
      subst IsObjectMap (sym by.leaves)
      (changed-map s.objects by.name by.object is (subst IsObject (sym has.is) (fine has.handle has.old has.live found)))

  kept-create : (id : List ℕ) (flags : Flags) (attributes bytes : List ℕ) → IsCall (Create id flags attributes bytes) → is_commit s i (Create id flags attributes bytes) (reply_of s i (Create id flags attributes bytes)) ≡ true
      → IsObjectMap (state_after s i (Create id flags attributes bytes)).objects
  kept-create id flags attributes bytes formed due =
      let rows = all-off (create_refusals s i (name_in s i id) flags attributes bytes) (unrefused s i (Create id flags attributes bytes) due) in
      let short = rows.1.1.0 in
      let room = or-both (nat_lt 1044480 (length bytes)) (lacks_room s.objects (name_in s i id)) rows.1.1.1.1.1.0 in
      subst IsObjectMap (sym (put-left s i id flags attributes bytes due))
      (put-map s.objects (name_in s i id) (Sound (record { attributes = attributes; bytes = bytes; bad = [] })) is formed.0
      (new-contents attributes bytes formed.1 formed.2 (ltb-false 2048 (length attributes) short) (ltb-false 1044480 (length bytes) room.0)) room.1)

  kept-write : (number : ℕ) (bytes : List ℕ) → IsCall (Write number bytes) → is_commit s i (Write number bytes) (reply_of s i (Write number bytes)) ≡ true → IsObjectMap (state_after s i (Write number bytes)).objects
  kept-write number bytes formed due =
      data-kept number (λ live old. written_contents old live.position bytes) _ (write-left s i number bytes due)
      (λ h c live found.
      let rows = all-off (write_refusals c h.position (length bytes)) (unrefused s i (Write number bytes) due h c live found) in
      let some : nat_lt 0 (length bytes) ≡ true = and-right (is_done (reply_of s i (Write number bytes))) (nat_lt 0 (length bytes)) due in
      written-contents c h.position bytes (grind (arith, nat_tests, some)) (ltb-false 1044480 (h.position + length bytes) rows.1.0) formed (old-contents h.name c found))

  kept-truncate : (number size : ℕ) → is_commit s i (Truncate number size) (reply_of s i (Truncate number size)) ≡ true → IsObjectMap (state_after s i (Truncate number size)).objects
  kept-truncate number size due =
      data-kept number (λ live old. resized_contents old size) _ (truncate-left s i number size due)
      (λ h c live found. resized-contents c size (ltb-false 1044480 size (all-off (truncate_refusals c size) (unrefused s i (Truncate number size) due h c live found)).0) (old-contents h.name c found))

  kept-commit : (call : Call) → IsCall call → is_commit s i call (reply_of s i call) ≡ true → IsObjectMap (state_after s i call).objects
  kept-commit (Create id flags attributes bytes) formed due = kept-create id flags attributes bytes formed due
  kept-commit (Write number bytes) formed due = kept-write number bytes formed due
  kept-commit (Truncate number size) formed due = kept-truncate number size due
  kept-commit (Rename number id) formed due =
      let by = rename-left s i number id due in
      subst IsObjectMap (sym by.leaves) (moved-map s.objects (by.handle).name (name_in s i id) is formed)
  kept-commit (Delete number) formed due =
      let by = delete-left s i number due in
      subst IsObjectMap (sym by.leaves) (removed-map s.objects (by.handle).name is)
  kept-commit call formed due = absurd (true≢false (sym due))

pub calls_keep_maps : CallsKeepMaps
calls_keep_maps s i call formed is = one (is_commit s i call (reply_of s i call)) refl
  where
    one : (due : Bool) → is_commit s i call (reply_of s i call) ≡ due → IsObjectMap (state_after s i call).objects
    one true due = kept-commit s i is call formed due
    one false due = subst IsObjectMap (sym (others_keep_maps s i call due)) is
