-- What a read of a locked slot's object tells of its version.
use Rattle.std.proofs.Common.{◌≡◌, ◌∙◌, ◌+◌, ◌-◌, ◌++◌, ℕ, Bool, List, length, length-drop, take, drop, min, None, Result, Ok, Err, IsTrue, inl, refl, sym, ap, subst}
use Rattle.std.proofs.lemmas.List.{length-take}
use Rattle.std.proofs.Math.Seq.{take-append_seam}
use Rattle.disk_model.specs.Calls.{GoesOn}
use Rattle.disk_model.specs.State.{FileState}
use Rattle.htree_file.specs.Standing.{Told}
use Rattle.page_bytes.specs.Pages.{page_at}
use Rattle.page_bytes.proofs.Content.{length-bytes_from}
use Rattle.tee_types.specs.declared.call.Call.TheVariants.{Read}
use Rattle.tee_types.specs.declared.reply.Reply.TheVariants.{Content}
use Rattle.store_model.specs.Object.{Contents, Sound}
use Rattle.store_model.specs.Data.{bytes_at, meets_block}
use Rattle.hmac_keys.specs.declared.Keys.{Keys}
use Rattle.history_seats.specs.Records.{Version}
use Rattle.node_image.specs.declared.node.RootRef.{RootRef}
use Rattle.core_laws.specs.Given.{Gave, Tells, is_asked, decoding_given}
use Rattle.core_laws.specs.Decodings.{wrap_of}
use Rattle.core_laws.specs.Masked.{IsMaskedOf, told_taints}
use Rattle.core_laws.specs.Stores.{Store}
use Rattle.object_slots.proofs.MaskedObjects.{given_masked}
use Rattle.object_file.specs.Held.{held_in, pages_in}
use Rattle.object_file.specs.Value.{size_in}
use Rattle.object_slots.specs.declared.fault.SlotFault.{SlotFault}
use Rattle.object_slots.specs.SlotReads.{CorruptAnswer, ReadsObject, read_count}
use Rattle.object_slots.specs.SlotValues.{HeldObject, Holding, IfLive, IsLive, SlotValue, free, live, made, staged}
use Rattle.object_slots.proofs.GiveLaws.{reads_tell}
use Rattle.object_slots.specs.SlotObjects.{IsObjectOf}
use Rattle.object_slots.specs.GuardedSlots.{SlotInvariant}
use Rattle.object_slots.specs.GuardedReads.{GivesVersion, ReadsVersion, TellsRead, given_count}
use Rattle.object_slots.proofs.Contents.{slot_object, slot_rests}

sound_same : (a b : Contents) → Sound a ≡ Sound b → a ≡ b
sound_same a b e = cc

front_of : (n : ℕ) (xs ys : List ℕ) → length xs ≡ n → take n (xs ++ ys) ≡ xs
front_of n xs ys is = ap (λ (m : ℕ). take m (xs ++ ys)) (sym is) ∙ take-append_seam xs ys

-- An object of a version, read.
module _ (keys : Keys) (old new : FileState) (o : HeldObject) (v : Version) (at : ℕ) (before after : List ℕ) (whole : length after ≡ length before) (is : IsObjectOf keys old o v) where
  count_same : read_count o at (length before) ≡ given_count v at (length after)
  count_same = λ i. min (sym whole i) (sym is.size i - at)

  tells : GoesOn old new → (n : ℕ) → ReadsObject old new o at before after (Ok n) → TellsRead keys (told_taints new) v at (length after) (take n after)
  tells goes n reads handle =
      let own = reads_tell (wrap_of keys v) old new o at before after n handle is.key is.long whole is.front reads in
      let asked : ℕ → Bool = is_asked (size_in o) at (Read handle (length before)) in
      let told = subst
      (λ (x : RootRef × ℕ × ℕ × ℕ). (gave : Gave (wrap_of keys v) x.0 x.1 (is_asked x.1 at (Read handle x.3)))
      × IsMaskedOf keys (told_taints new) v (is_asked x.1 at (Read handle x.3)) gave.tree gave.block × Tells (decoding_given gave) x.1 x.2 at (Read handle x.3) (Content (take n after)))
      (λ i. (sym is.root i, sym is.size i, sym is.attributes i, sym whole i))
      (own.0, given_masked keys old new goes o v is (wrap_of keys v) (size_in o) asked own.0 own.1, own.2) in
      (record { gave = told.0; masked = told.1 }, told.2)

  -- an honest file is told, and holds the version's object
  held : (c : Contents) → v.object ≡ Sound c → IsTrue old.honest → held_in o old.reads ≡ c
  held c object honest = sound_same (held_in o old.reads) c (sym (is.object honest) ∙ object)

  long : length (bytes_at (held_in o old.reads).bytes at (length before)) ≡ read_count o at (length before)
  long =
      let bytes : List ℕ = (held_in o old.reads).bytes in
      let all : length bytes ≡ size_in o = length-bytes_from (page_at (pages_in o.tree old.reads)) 4096 (size_in o) in
      let cut : length (take (length before) (drop at bytes)) ≡ min (length before) (length (drop at bytes)) = length-take (length before) (drop at bytes) in
      let rest : length (drop at bytes) ≡ length bytes - at = length-drop at bytes in
      cut ∙ (λ i. min (length before) (rest i)) ∙ (λ i. min (length before) (all i - at))

  content : (n : ℕ) → ReadsObject old new o at before after (Ok n) → Told old new → (c : Contents) → held_in o old.reads ≡ c → take n after ≡ bytes_at c.bytes at (length after)
  content n reads told c same =
      ap (take n) (reads.content told)
      ∙ front_of n (bytes_at (held_in o old.reads).bytes at (length before)) (drop n before) (long ∙ sym reads.count)
      ∙ (λ i. bytes_at (same i).bytes at (sym whole i))

  corrupt_same : (result : Result ℕ SlotFault) → CorruptAnswer (held_in o old.reads) (meets_block at (at + read_count o at (length before))) result → (c : Contents)
      → held_in o old.reads ≡ c → CorruptAnswer c (meets_block at (at + given_count v at (length after))) result
  corrupt_same result answer c same =
      subst (λ (x : Contents × ℕ). CorruptAnswer x.0 (meets_block at (at + x.1)) result) (λ i. (same i, count_same i)) answer

  by_result : (result : Result ℕ SlotFault) → GoesOn old new → (IsTrue new.honest → IsTrue new.tells) → (IsTrue new.honest → IsTrue old.honest) → ReadsObject old new o at before after result
      → ReadsVersion keys new v at after result
  by_result (Ok n) goes tell was reads = record {
    count = reads.count ∙ count_same;
    tells = tells goes n reads;
    content = λ honest c object. content n reads (tell honest, inl honest) c (held c object (was honest));
    corrupt = λ honest c object. corrupt_same (Ok n) (reads.corrupt (tell honest, inl honest)) c (held c object (was honest));
  }
  by_result (Err fault) goes tell was reads = record {
    count = tt;
    tells = tt;
    content = λ honest c object. tt;
    corrupt = λ honest c object. corrupt_same (Err fault) (reads.corrupt (tell honest, inl honest)) c (held c object (was honest));
  }

module _ (store : Store) (old new : SlotValue) (same : new ≡ record old { file = new.file }) (at : ℕ) (before after : List ℕ) (whole : length after ≡ length before) (result : Result ℕ SlotFault)
    (is : SlotInvariant store old) where
  -- the slot stays as it is, and the read is of the version
  by_holding : (holds : Holding) → old.holds ≡ holds → IsLive holds → IfLive holds (λ o. ReadsObject old.file new.file o at before after result)
      → SlotInvariant store new × ((v : Version) → GivesVersion old v → ReadsVersion store.keys new.file v at after result)
  by_holding free holds on reads = absurd on
  by_holding (made o) holds on reads = absurd on
  by_holding (staged o s) holds on reads = absurd on
  by_holding (live o) holds on reads =
      let guarded : SlotInvariant store (record old { file = new.file }) = slot_rests store old new.file reads.rests reads.steps is in (
        subst (SlotInvariant store) (sym same) guarded,
        λ v given. by_result store.keys old.file new.file o v at before after whole (slot_object store old v o is given holds) result
            reads.rests.goes_on (guarded.own.holds None).sound.told reads.rests.goes_on.honest reads,
      )

pub read_guarded : (store : Store) (old new : SlotValue) (at : ℕ) (before after : List ℕ) (result : Result ℕ SlotFault) → new ≡ record old { file = new.file } → length after ≡ length before → SlotInvariant store old
    → IsLive old.holds → IfLive old.holds (λ o. ReadsObject old.file new.file o at before after result)
    → SlotInvariant store new × ((v : Version) → GivesVersion old v → ReadsVersion store.keys new.file v at after result)
read_guarded store old new at before after result same whole is on reads = by_holding store old new same at before after whole result is old.holds refl on reads
