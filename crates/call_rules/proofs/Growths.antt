-- What a call on the data of an object leaves its application.
use Rattle.std.proofs.Common.{◌≡◌, ◌∙◌, ◌+◌, ◌-◌, ◌≤◌, ℕ, Bool, true, false, List, [], ◌∷◌, length, max, cond, Option, Some, None, refl, sym, ap, arith}
use Rattle.std.specs.Prelude.{nat_lt}
use Rattle.std.specs.List.{list_any}
use Rattle.std.specs.Ordering.{is_eq}
use Rattle.std.proofs.lemmas.Bool.Decides.{nat_tests}
use Rattle.std.proofs.lemmas.List.{length-take, length-replicate}
use Rattle.std.proofs.Common.{length-append, length-drop}
use Rattle.tee_types.specs.Identifier.{bytes_cmp}
use Rattle.tee_types.specs.Limits.{most_data_bytes}
use Rattle.tee_types.specs.declared.call.Call.{Call}
use Rattle.tee_types.specs.declared.call.Call.TheVariants.{Write, Truncate}
use Rattle.tee_types.specs.declared.reply.Reply.{Reply}
use Rattle.tee_types.specs.declared.reply.Reply.TheVariants.{Done, Corrupt, Refused}
use Rattle.tee_types.specs.declared.reply.Code.TheVariants.{NoSpace, Overflow}
use Rattle.store_model.specs.declared.session.Handle.{Handle}
use Rattle.store_model.specs.declared.name.ObjectName.{ObjectName}
use Rattle.store_model.specs.Object.{Object, Contents, Sound, ObjectMap, object_at, size_of, changed_object}
use Rattle.store_model.specs.Machine.{Session, MachineState, Outcome, session_at, handle_at, unless_refused, first_refusal, refuse, of_sound}
use Rattle.store_model.specs.Data.{greatest_position, spoils, range_written, range_resized, written, written_contents, resized, resized_contents, write_from, write_refusals, truncate_from, truncate_refusals, with_position, with_contents}
use Rattle.store_model.specs.Calls.{outcome_of, state_after}
use Rattle.dir_records.specs.declared.entry.DirEntry.{DirEntry}
use Rattle.open_table.specs.Table.{TableState}
use Rattle.app_totals.specs.declared.numbers.Totals.{Totals}
use Rattle.app_totals.specs.Totals.{totals_of}
use Rattle.app_totals.specs.EntryTotals.{entry_totals}
use Rattle.app_totals.specs.Meant.{sound_state, held_by, raised, resized_totals, grown}
use Rattle.app_totals.specs.OwnHandles.{HasOwnHandles}
use Rattle.app_totals.proofs.Names.{itself}
use Rattle.app_totals.proofs.OwnHandles.{handle_has}
use Rattle.app_totals.proofs.Listings.{totals_of-listing, listing-sound}
use Rattle.app_totals.proofs.LeftTotals.{raised-changed, over-sound, unmoved-none}
use Rattle.core_laws.specs.EntryLists.{AreDistinct}
use Rattle.call_rules.specs.Growth.{allowed_totals}
use Rattle.call_rules.specs.Matches.{Matches}
use Rattle.call_rules.specs.Objects.{IsOfObject}
use Rattle.call_rules.specs.Told.{IsTold}
use Rattle.call_rules.proofs.SoundMatches.{IsGood, all_good}
use Rattle.call_rules.proofs.WeighedShapes.{totals_entries}

written-long : (old : List ℕ) (position : ℕ) (bytes : List ℕ) → length (written old position bytes) ≡ max (length old) (position + length bytes)
written-long old position bytes = simp (length-append, length-take, length-replicate, length-drop) (omega arith)

resized-long : (old : List ℕ) (size : ℕ) → length (resized old size) ≡ size
resized-long old size = simp (length-append, length-take, length-replicate) (omega arith)

-- an outcome that is refused, and one that is done
refused-is : (rows : List (Bool × Reply)) (t : MachineState) (done : Outcome) (reply : Reply) → first_refusal rows ≡ Some reply → unless_refused rows t done ≡ refuse t reply
refused-is rows t done reply is = ap (λ (o : Option Reply). elim o [ Some r ↦ refuse t r | None ↦ done ]) is

done-is : (rows : List (Bool × Reply)) (t : MachineState) (done : Outcome) → first_refusal rows ≡ None → unless_refused rows t done ≡ done
done-is rows t done is = ap (λ (o : Option Reply). elim o [ Some r ↦ refuse t r | None ↦ done ]) is

-- what the rules answer leaves the objects
pub told-none : (s : MachineState) (i : ℕ) (call : Call) (reply : Reply) (session : Session) → IsTold (sound_state s) i call reply session
    → raised (held_by s i) (totals_of (session_at s i).application (state_after (sound_state s) i call).objects) ≡ None
told-none s i call reply session is = unmoved-none s i (state_after (sound_state s) i call).objects (ap (λ (o : Outcome). o.next.objects) is.outcome)

module _ (entries : List (Option DirEntry)) (table : TableState) (caller : Session) (distinct : AreDistinct entries) (s : MachineState) (i : ℕ) (m : Matches entries table caller s i) where
  abbrev t : MachineState
  t = sound_state s

  abbrev app : List ℕ
  app = (session_at s i).application

  -- what is there, by the entries
  pub held-entries : held_by s i ≡ entry_totals caller.application entries
  held-entries = totals_entries entries s.objects app distinct m.shaped ∙ ap (λ (x : Session). entry_totals x.application entries) m.session

  -- a call that changes the data of an own object to a size, if that is allowed
  module _ (call : Call) (name : ObjectName) (size : ℕ) (rows : Contents → List (Bool × Reply)) (next : Contents → MachineState) (change : Contents → Contents) (new : ℕ)
      (of_object : IsOfObject t i call name size (λ c. unless_refused (rows c) t (record { reply = Done; next = next c })))
      (left : (c : Contents) → (next c).objects ≡ changed_object t.objects name (Sound (change c)))
      (long : (c : Contents) → length c.bytes ≡ size → length (change c).bytes ≡ new)
      (its : name.app ≡ app) where
    there : IsGood of_object.there.object
    there = all_good s name of_object.there.object of_object.there.at

    abbrev c : Contents
    c = there.contents

    found : object_at t.objects name ≡ Some (Sound c)
    found = of_object.there.at ∙ ap (λ (x : Object). Some x) there.is

    sized : length c.bytes ≡ size
    sized = sym (ap size_of there.is) ∙ of_object.there.sized

    done : outcome_of t i call ≡ unless_refused (rows c) t (record { reply = Done; next = next c })
    done = of_object.outcome ∙ ap (λ (o : Option Object). of_sound t o (λ x. unless_refused (rows x) t (record { reply = Done; next = next x }))) found

    pub data-refused : ((x : Contents) → (reply : Reply) × (first_refusal (rows x) ≡ Some reply)) → raised (held_by s i) (totals_of app (state_after t i call).objects) ≡ None
    data-refused refused =
        let why = refused c in
        unmoved-none s i (state_after t i call).objects (ap (λ (o : Outcome). o.next.objects) (done ∙ refused-is (rows c) t (record { reply = Done; next = next c }) why.0 why.1))

    pub data-done : ((x : Contents) → x.bad ≡ [] → first_refusal (rows x) ≡ None) → raised (held_by s i) (totals_of app (state_after t i call).objects) ≡ resized_totals (entry_totals caller.application entries) size new
    data-done passed =
        let objects : (state_after t i call).objects ≡ changed_object t.objects name (Sound (change c)) =
        ap (λ (o : Outcome). o.next.objects) (done ∙ done-is (rows c) t (record { reply = Done; next = next c }) (passed c there.good)) ∙ left c in
        over-sound s i (state_after t i call).objects
        ∙ ap (λ (l : ObjectMap). raised (totals_of app t.objects) (totals_of app l)) objects
        ∙ raised-changed app t.objects name (Sound c) (Sound (change c)) (ap (λ (a : List ℕ). is_eq (bytes_cmp app a)) its ∙ itself app) found
        ∙ (λ k. resized_totals ((totals_of-listing app s.objects t.objects (listing-sound s.objects) ∙ held-entries) k) (sized k) (long c sized k))

  -- the object of a live handle is of the caller's application
  pub own_name : HasOwnHandles caller → (number : ℕ) (h : Handle) → handle_at caller number ≡ Some h → h.name.app ≡ app
  own_name own number h live = handle_has (λ x. x.name.app ≡ caller.application) number caller.handles h own live ∙ ap (λ (x : Session). x.application) (sym m.session)

  -- nothing spoils an object with no bad block
  good_row : (bad : List ℕ) (test : ℕ → Bool) → bad ≡ [] → first_refusal ((list_any test bad, Corrupt) ∷ []) ≡ None
  good_row bad test good = ap (λ (l : List ℕ). first_refusal ((list_any test l, Corrupt) ∷ [])) good

  -- A write of some bytes.
  module _ (own : HasOwnHandles caller) (number : ℕ) (h : Handle) (live : handle_at caller number ≡ Some h) (bytes : List ℕ) (size : ℕ)
      (of_object : IsOfObject t i (Write number bytes) h.name size (write_from t i number bytes h)) where
    abbrev end : ℕ
    end = h.position + length bytes

    abbrev next : Contents → MachineState
    next c = with_position (with_contents t h (written_contents c h.position bytes)) i number h end

    abbrev change : Contents → Contents
    change c = written_contents c h.position bytes

    abbrev held : Totals
    held = entry_totals caller.application entries

    abbrev rows_of_write : Contents → Bool → Bool → List (Bool × Reply)
    rows_of_write c far wide = (far, Refused Overflow) ∷ (wide, Refused NoSpace) ∷ (spoils c (range_written c h.position (length bytes)), Corrupt) ∷ []

    long : (c : Contents) → length c.bytes ≡ size → length (change c).bytes ≡ max end size
    long c sized = written-long c.bytes h.position bytes ∙ ap (λ n. max n end) sized ∙ omega arith

    passes : (c : Contents) → nat_lt most_data_bytes end ≡ false → c.bad ≡ [] → first_refusal (write_refusals c h.position (length bytes)) ≡ None
    passes c small good =
        let near : nat_lt greatest_position end ≡ false = grind (arith, nat_tests, small) in
        (λ k. first_refusal (rows_of_write c (near k) (small k))) ∙ good_row c.bad _ good

    refuses : (c : Contents) → nat_lt most_data_bytes end ≡ true → (reply : Reply) × (first_refusal (write_refusals c h.position (length bytes)) ≡ Some reply)
    refuses c large = (elim (nat_lt greatest_position end) as (λ b. nat_lt greatest_position end ≡ b → (reply : Reply) × (first_refusal (write_refusals c h.position (length bytes)) ≡ Some reply)) [
      | true ↦ λ far. (Refused Overflow, ap (λ x. first_refusal (rows_of_write c x (nat_lt most_data_bytes end))) far)
      | false ↦ λ near. (Refused NoSpace, λ k. first_refusal (rows_of_write c (near k) (large k)))
    ]) refl

    written-done : nat_lt most_data_bytes end ≡ false → grown s i (Write number bytes) ≡ resized_totals held size (max end size)
    written-done small =
        data-done (Write number bytes) h.name size (λ c. write_refusals c h.position (length bytes)) next change (max end size) of_object (λ c. refl) long (own_name own number h live)
        (λ c good. passes c small good)

    written-refused : nat_lt most_data_bytes end ≡ true → grown s i (Write number bytes) ≡ None
    written-refused large =
        data-refused (Write number bytes) h.name size (λ c. write_refusals c h.position (length bytes)) next change (max end size) of_object (λ c. refl) long (own_name own number h live)
        (λ c. refuses c large)

    none-more : end ≤ size → resized_totals held size (max end size) ≡ None
    none-more le =
        let off : nat_lt size (max end size) ≡ false = grind (arith, nat_tests, le) in
        ap (λ x. cond x (Some (record held { bytes = held.bytes + (max end size - size) })) None) off

    pub write-grown : grown s i (Write number bytes) ≡ allowed_totals held size (max end size)
    write-grown = (elim (nat_lt most_data_bytes (max end size)) as (λ b. nat_lt most_data_bytes (max end size) ≡ b → grown s i (Write number bytes) ≡ cond b None (resized_totals held size (max end size))) [
      | false ↦ λ small. written-done (grind (arith, nat_tests, small))
      | true ↦ λ large. (elim (nat_lt most_data_bytes end) as (λ b. nat_lt most_data_bytes end ≡ b → grown s i (Write number bytes) ≡ None) [
        | true ↦ λ wide. written-refused wide
        | false ↦ λ near. written-done near ∙ none-more (grind (arith, nat_tests, near, large))
      ]) refl
    ]) refl

  -- A truncation.
  module _ (own : HasOwnHandles caller) (number new : ℕ) (h : Handle) (live : handle_at caller number ≡ Some h) (size : ℕ)
      (of_object : IsOfObject t i (Truncate number new) h.name size (truncate_from t new h)) where
    abbrev next-cut : Contents → MachineState
    next-cut c = with_contents t h (resized_contents c new)

    abbrev cut : Contents → Contents
    cut c = resized_contents c new

    abbrev rows_of_cut : Contents → Bool → List (Bool × Reply)
    rows_of_cut c wide = (wide, Refused NoSpace) ∷ (spoils c (range_resized c new), Corrupt) ∷ []

    long-cut : (c : Contents) → length c.bytes ≡ size → length (cut c).bytes ≡ new
    long-cut c was = resized-long c.bytes new

    pub truncate-grown : grown s i (Truncate number new) ≡ allowed_totals (entry_totals caller.application entries) size new
    truncate-grown = (elim (nat_lt most_data_bytes new) as (λ b. nat_lt most_data_bytes new ≡ b → grown s i (Truncate number new) ≡ cond b None (resized_totals (entry_totals caller.application entries) size new)) [
      | false ↦ λ small.
          data-done (Truncate number new) h.name size (λ c. truncate_refusals c new) next-cut cut new of_object (λ c. refl) long-cut (own_name own number h live)
          (λ c good. ap (λ b. first_refusal (rows_of_cut c b)) small ∙ good_row c.bad _ good)
      | true ↦ λ large.
          data-refused (Truncate number new) h.name size (λ c. truncate_refusals c new) next-cut cut new of_object (λ c. refl) long-cut (own_name own number h live)
          (λ c. (Refused NoSpace, ap (λ b. first_refusal (rows_of_cut c b)) large))
    ]) refl
