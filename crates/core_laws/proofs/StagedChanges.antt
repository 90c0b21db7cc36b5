-- A change that was staged over what was given is the machine's commit, or the promises end.
use Rattle.std.proofs.Common.{◌≡◌, ◌⊎◌, ◌+◌, ◌==◌, ◌<◌, ℕ, Bool, true, false, true≢false, nat_lt, List, [], length, max, min, Option, Some, None, IsSome, option_map, refl, sym, ap, ◌∙◌, subst, inl, inr, arith}
use Rattle.std.proofs.lemmas.Bool.{eq-eqb}
use Rattle.std.specs.List.{list_any}
use Rattle.tee_types.specs.declared.call.Call.{Call}
use Rattle.tee_types.specs.declared.call.Call.TheVariants.{Truncate, Write}
use Rattle.tee_types.specs.Limits.{most_data_bytes}
use Rattle.tee_types.specs.Rights.{has, write_bit}
use Rattle.node_image.specs.declared.head.Head.{Head}
use Rattle.node_image.proofs.Matching.{length-row, row_at}
use Rattle.htree_file.specs.Opening.{IsVerified}
use Rattle.htree_file.proofs.Sizes.{sized_few}
use Rattle.page_bytes.specs.Pages.{page_at}
use Rattle.page_bytes.specs.Ranges.{needs, resize_range, write_range}
use Rattle.page_bytes.proofs.Content.{length-bytes_from}
use Rattle.store_model.specs.declared.session.Handle.{Handle}
use Rattle.store_model.specs.declared.name.ObjectName.{ObjectName}
use Rattle.store_model.specs.Object.{Contents, Sound, changed_object, object_at}
use Rattle.store_model.specs.Machine.{handle_at, session_at}
use Rattle.store_model.specs.Calls.{is_commit, reply_of, state_after}
use Rattle.store_model.specs.Data.{greatest_position, needs_block, range_resized, range_written, resized_contents, spoils, truncate_of, write_of, written_contents}
use Rattle.store_model.specs.Files.{object_named}
use Rattle.store_model.specs.ReplayState.{ReplayState}
use Rattle.crash_core.specs.MountedObject.{contents_of, object_of}
use Rattle.crash_core.proofs.ObjectChanges.{bad-needed, resize_range-shifted, write_range-shifted}
use Rattle.history_seats.specs.Records.{HistoryRecord, Version}
use Rattle.history_seats.specs.Directory.{given_version}
use Rattle.history_seats.proofs.Lists.{or_right}
use Rattle.core_laws.specs.Decodings.{IsReal, Decoding, object_decoded, opened_decoded, page_decoded, pages_decoded}
use Rattle.core_laws.specs.TamperScenarios.{TamperScenario, object_under}
use Rattle.core_laws.specs.Given.{is_asked, position_by, position_of, decoding_given}
use Rattle.core_laws.specs.Stores.{Store, replay_at}
use Rattle.core_laws.specs.Mapped.{IsMapped}
use Rattle.tee_types.specs.declared.reply.Reply.TheVariants.{Done}
use Rattle.core_laws.specs.Shown.{EndsCommit, IsGivenAt, IsPartial, IsWriteEndAt, Strays, asked_of, stands_for}
use Rattle.core_laws.specs.WriteLaws.{IsMadeOver}
use Rattle.core_laws.specs.ChangeLaws.{IsDueChange, TruncationsAreDueOrEnd, WritesAreDueOrEnd}
use Rattle.core_laws.proofs.Mending.{some_same}
use Rattle.core_laws.proofs.ReplayState.{verified_under}
use Rattle.core_laws.proofs.SameTrees.{alike_trees}
use Rattle.core_laws.proofs.InStep.{entry_object}
use Rattle.core_laws.proofs.Rewrites.{all_good, truncations_stand, writes_stand}
use Rattle.core_laws.proofs.ToldReplies.{FirstBad, OtherLength, DecodedCase, DecodedSound, decoded_case}
use Rattle.core_laws.proofs.ChangeCalls.{IsDone, truncate_commits, truncate_done, write_commits, write_done}

module _ (store : Store) (scenario : TamperScenario) (before : List HistoryRecord) (r : HistoryRecord) (x : IsGivenAt store scenario before r) (real : IsReal store.keys x.version) (mapped : IsMapped store scenario before)
    (partial : IsPartial x.call) where
  abbrev here : ReplayState
  here = replay_at store scenario before

  abbrev v : Version
  v = x.version

  abbrev given : Decoding
  given = decoding_given x.gave

  pub there_under : object_at here.state.objects x.name ≡ Some (object_under store.keys scenario x.tag.file x.tag.generation v)
  there_under =
      entry_object store scenario before x.name x.entry v mapped x.named ((λ i. given_version store.mounted before (x.file i) (x.generation i)) ∙ x.gives)
      ∙ (λ i. Some (object_under store.keys scenario (x.file i) (x.generation i) v))

  pub end_by : EndsCommit Done x.reply x.mark → Strays (stands_for x) (asked_of x) given → IsWriteEndAt store scenario before r
  end_by ends strays = record { given = x; changes = partial; ends = ends; strays = strays }

  -- What stands is sound and good at each block that was asked; or what was given strays.
  pub record IsFine : Type 0 where
    pub sp : Decoding
    pub stands : stands_for x ≡ Some sp
    pub page : List ℕ
    pub sound : object_of v.size v.attributes (opened_decoded sp) ≡ Sound (contents_of v.size v.attributes (pages_decoded sp) page)
    pub good : (k : ℕ) → k < length sp.tree.nodes → asked_of x k ≡ true → IsSome (page_decoded sp k)

  first-asked : asked_of x 0 ≡ true
  first-asked = refl

  pub fine_or_end : EndsCommit Done x.reply x.mark → IsFine ⊎ IsWriteEndAt store scenario before r
  fine_or_end ends = by_stands (stands_for x) refl
    where
      strays-at : (sp : Decoding) → stands_for x ≡ Some sp → Strays (Some sp) (asked_of x) given → IsWriteEndAt store scenario before r
      strays-at sp stands strays = end_by ends (subst (λ (o : Option Decoding). Strays o (asked_of x) given) (sym stands) strays)

      by_case : (sp : Decoding) (stands : stands_for x ≡ Some sp) → IsVerified v.root sp.tree → DecodedCase v.size v.attributes sp → IsFine ⊎ IsWriteEndAt store scenario before r
      by_case sp stands verified (OtherLength off damaged) = elim (alike_trees v.root sp.tree x.gave.tree verified x.gave.verified) [
        | inl alike ↦ absurd (true≢false (sym (eq-eqb sp.tree.head.length (4096 + v.size) (ap (λ (h : Head). h.length) alike.head ∙ x.gave.long)) ∙ off))
        | inr clash ↦ inr (strays-at sp stands (inl (inl clash)))
      ]
      by_case sp stands verified (FirstBad bad damaged) = inr (strays-at sp stands (inl (inr (0, first-asked, bad))))
      by_case sp stands verified (DecodedSound long page first sound) = elim (all_good (asked_of x) sp) [
        | inr bad ↦ inr (strays-at sp stands (inl (inr bad)))
        | inl good ↦ inl (record { sp = sp; stands = stands; page = page; sound = sound; good = good })
      ]

      by_stands : (o : Option Decoding) → stands_for x ≡ o → IsFine ⊎ IsWriteEndAt store scenario before r
      by_stands None none = inr (end_by ends (subst (λ (o : Option Decoding). Strays o (asked_of x) given) (sym none) tt))
      by_stands (Some sp) stands =
          let verified = verified_under store.keys scenario x.tag.file x.tag.generation v sp stands real in
          let some : 0 < length sp.tree.nodes = omega (arith, verified.hashed.all, (sized_few sp.tree.head verified.hashed.sized).0) in
          by_case sp stands verified (decoded_case v.size v.attributes sp some (row_at (page_decoded sp) (length sp.tree.nodes) 0 None some))

  module _ (fine : IsFine) where
    abbrev pub held : Contents
    held = contents_of v.size v.attributes (pages_decoded fine.sp) fine.page

    pub held_under : object_under store.keys scenario x.tag.file x.tag.generation v ≡ Sound held
    held_under = ap (object_decoded v.size v.attributes) fine.stands ∙ fine.sound

    pub held_there : object_at here.state.objects x.name ≡ Some (Sound held)
    held_there = there_under ∙ ap Some held_under

    pub held_long : length held.bytes ≡ v.size
    held_long = length-bytes_from (page_at (pages_decoded fine.sp)) 4096 v.size

    -- each page that is asked is good
    pub page_good : (k : ℕ) → k < length (pages_decoded fine.sp) → asked_of x k ≡ true → IsSome (page_at (pages_decoded fine.sp) k)
    page_good k lt asked =
        let low : k < length fine.sp.tree.nodes = omega (arith, lt, length-row (page_decoded fine.sp) (length fine.sp.tree.nodes)) in
        subst (λ (o : Option (List ℕ)). IsSome o) (sym (row_at (page_decoded fine.sp) (length fine.sp.tree.nodes) k None low)) (fine.good k low asked)

-- A write.
module _ (store : Store) (scenario : TamperScenario) (before : List HistoryRecord) (r : HistoryRecord) (x : IsGivenAt store scenario before r) (real : IsReal store.keys x.version) (mapped : IsMapped store scenario before)
    (next : Version) (number : ℕ) (bytes : List ℕ) (is : x.call ≡ Write number bytes)
    (handle : Handle) (live : handle_at (session_at (replay_at store scenario before).state x.session) number ≡ Some handle) (right : has handle.flags write_bit ≡ true)
    (some : (length bytes == 0) ≡ false) (low : nat_lt greatest_position (handle.position + length bytes) ≡ false) (fits : nat_lt most_data_bytes (handle.position + length bytes) ≡ false)
    (size : next.size ≡ max x.version.size (x.position + length bytes))
    (made : IsMadeOver store.keys x.version next (decoding_given x.gave) (write_range (4096 + x.version.size) (4096 + x.position) (length bytes)) (4096 + x.position) bytes) where
  pub partial_write : IsPartial x.call
  partial_write = subst IsPartial (sym is) tt

  named : handle.name ≡ x.name
  named =
      some_same handle.name x.name
      (sym (ap (option_map (λ (h : Handle). h.name)) live) ∙ sym (ap (object_named (replay_at store scenario before).state x.session) is) ∙ x.of_call)

  place : handle.position ≡ x.position
  place = sym (x.at ∙ ap (position_by (replay_at store scenario before).state x.session) is ∙ ap position_of live)

  asked-is : (k : ℕ) → asked_of x k ≡ is_asked x.version.size x.position (Write number bytes) k
  asked-is k = ap (λ (c : Call). is_asked x.version.size x.position c k) is

  module _ (fine : IsFine store scenario before r x real mapped partial_write) where
    abbrev c : Contents
    c = held store scenario before r x real mapped partial_write fine

    spares : spoils c (range_written c handle.position (length bytes)) ≡ false
    spares =
        (λ i. list_any (needs_block (held_long store scenario before r x real mapped partial_write fine i) (min (place i) (held_long store scenario before r x real mapped partial_write fine i)) (place i + length bytes)) c.bad)
        ∙ bad-needed (pages_decoded fine.sp) x.version.size (min x.position x.version.size) (x.position + length bytes)
        (λ k one below needed.
        page_good store scenario before r x real mapped partial_write fine k below
        (asked-is k ∙ or_right (k == 0) (needs (write_range (4096 + x.version.size) (4096 + x.position) (length bytes)) k)
        (ap (λ r. needs r k) (write_range-shifted x.version.size x.position (length bytes)) ∙ needed)))

    at-handle : object_at (replay_at store scenario before).state.objects handle.name ≡ Some (Sound c)
    at-handle = ap (object_at (replay_at store scenario before).state.objects) named ∙ held_there store scenario before r x real mapped partial_write fine

    done : IsDone (replay_at store scenario before).state handle (write_of (replay_at store scenario before).state x.session number bytes) (written_contents c handle.position bytes)
    done = write_done (replay_at store scenario before).state x.session number handle live right c at-handle bytes some low fits spares

    pub due_write : object_under store.keys scenario x.tag.file x.tag.generation next ≡ Sound (written_contents c x.position bytes) → IsDueChange store scenario before r x next
    due_write stands = record {
      meant = ap (reply_of (replay_at store scenario before).state x.session) is ∙ done.reply;
      due =
          ap (λ (y : Call). is_commit (replay_at store scenario before).state x.session y (reply_of (replay_at store scenario before).state x.session y)) is
          ∙ write_commits (replay_at store scenario before).state x.session number handle live right c at-handle bytes some low fits spares;
      changes =
          ap (λ (y : Call). (state_after (replay_at store scenario before).state x.session y).objects) is ∙ done.objects
          ∙ (λ i. changed_object (replay_at store scenario before).state.objects (named i) (Sound (written_contents c (place i) bytes)))
          ∙ ap (changed_object (replay_at store scenario before).state.objects x.name) (sym stands);
    }

  pub write_or_end : EndsCommit Done x.reply x.mark → IsDueChange store scenario before r x next ⊎ IsWriteEndAt store scenario before r
  write_or_end ended = elim (fine_or_end store scenario before r x real mapped partial_write ended) [
    | inr ends ↦ inr ends
    | inl fine ↦ elim (stood fine) [
      | inl stands ↦ inl (due_write fine stands)
      | inr strays ↦ inr (end_by store scenario before r x real mapped partial_write ended (subst (λ (q : ℕ → Bool). Strays (stands_for x) q (decoding_given x.gave)) (λ i k. sym (asked-is k) i) strays))
    ]
  ]
    where
      stood : (fine : IsFine store scenario before r x real mapped partial_write)
          → (object_under store.keys scenario x.tag.file x.tag.generation next ≡ Sound (written_contents (held store scenario before r x real mapped partial_write fine) x.position bytes))
          ⊎ Strays (stands_for x) (is_asked x.version.size x.position (Write number bytes)) (decoding_given x.gave)
      stood fine =
          writes_stand store.keys scenario x.tag.file x.tag.generation x.version next number x.position bytes real size
          (record { tree = x.gave.tree; verified = x.gave.verified; long = x.gave.long; block = x.gave.block; good = λ k e. x.gave.good k (asked-is k ∙ e) })
          made (held store scenario before r x real mapped partial_write fine) (held_under store scenario before r x real mapped partial_write fine)

pub writes_due : WritesAreDueOrEnd
writes_due store scenario before r x real ended mapped next number bytes is changing size made =
    write_or_end store scenario before r x real mapped next number bytes is changing.0.handle changing.0.live changing.1 changing.2 changing.3 changing.4 size made ended

-- A truncation.
module _ (store : Store) (scenario : TamperScenario) (before : List HistoryRecord) (r : HistoryRecord) (x : IsGivenAt store scenario before r) (real : IsReal store.keys x.version) (mapped : IsMapped store scenario before)
    (next : Version) (number : ℕ) (is : x.call ≡ Truncate number next.size)
    (handle : Handle) (live : handle_at (session_at (replay_at store scenario before).state x.session) number ≡ Some handle) (right : has handle.flags write_bit ≡ true)
    (other : (next.size == x.version.size) ≡ false) (fits : nat_lt most_data_bytes next.size ≡ false)
    (made : IsMadeOver store.keys x.version next (decoding_given x.gave) (resize_range (4096 + x.version.size) (4096 + next.size)) (4096 + next.size) []) where
  pub partial_cut : IsPartial x.call
  partial_cut = subst IsPartial (sym is) tt

  cut-named : handle.name ≡ x.name
  cut-named =
      some_same handle.name x.name
      (sym (ap (option_map (λ (h : Handle). h.name)) live) ∙ sym (ap (object_named (replay_at store scenario before).state x.session) is) ∙ x.of_call)

  cut-asked : (k : ℕ) → asked_of x k ≡ is_asked x.version.size x.position (Truncate number next.size) k
  cut-asked k = ap (λ (c : Call). is_asked x.version.size x.position c k) is

  module _ (fine : IsFine store scenario before r x real mapped partial_cut) where
    abbrev cut_held : Contents
    cut_held = held store scenario before r x real mapped partial_cut fine

    cut-spares : spoils cut_held (range_resized cut_held next.size) ≡ false
    cut-spares =
        (λ i. list_any (needs_block (held_long store scenario before r x real mapped partial_cut fine i) (min next.size (held_long store scenario before r x real mapped partial_cut fine i))
        (max next.size (held_long store scenario before r x real mapped partial_cut fine i))) cut_held.bad)
        ∙ bad-needed (pages_decoded fine.sp) x.version.size (min next.size x.version.size) (max next.size x.version.size)
        (λ k one below needed.
        page_good store scenario before r x real mapped partial_cut fine k below
        (cut-asked k ∙ or_right (k == 0) (needs (resize_range (4096 + x.version.size) (4096 + next.size)) k)
        (ap (λ r. needs r k) (resize_range-shifted x.version.size next.size) ∙ needed)))

    cut-there : object_at (replay_at store scenario before).state.objects handle.name ≡ Some (Sound cut_held)
    cut-there = ap (object_at (replay_at store scenario before).state.objects) cut-named ∙ held_there store scenario before r x real mapped partial_cut fine

    cut-other : (next.size == length cut_held.bytes) ≡ false
    cut-other = ap (λ (n : ℕ). next.size == n) (held_long store scenario before r x real mapped partial_cut fine) ∙ other

    cut-done : IsDone (replay_at store scenario before).state handle (truncate_of (replay_at store scenario before).state x.session number next.size) (resized_contents cut_held next.size)
    cut-done = truncate_done (replay_at store scenario before).state x.session number handle live right cut_held cut-there next.size cut-other fits cut-spares

    pub due_cut : object_under store.keys scenario x.tag.file x.tag.generation next ≡ Sound (resized_contents cut_held next.size) → IsDueChange store scenario before r x next
    due_cut stands = record {
      meant = ap (reply_of (replay_at store scenario before).state x.session) is ∙ cut-done.reply;
      due =
          ap (λ (y : Call). is_commit (replay_at store scenario before).state x.session y (reply_of (replay_at store scenario before).state x.session y)) is
          ∙ truncate_commits (replay_at store scenario before).state x.session number handle live right cut_held cut-there next.size cut-other fits cut-spares;
      changes =
          ap (λ (y : Call). (state_after (replay_at store scenario before).state x.session y).objects) is ∙ cut-done.objects
          ∙ ap (λ (n : ObjectName). changed_object (replay_at store scenario before).state.objects n (Sound (resized_contents cut_held next.size))) cut-named
          ∙ ap (changed_object (replay_at store scenario before).state.objects x.name) (sym stands);
    }

  pub cut_or_end : EndsCommit Done x.reply x.mark → IsDueChange store scenario before r x next ⊎ IsWriteEndAt store scenario before r
  cut_or_end ended = elim (fine_or_end store scenario before r x real mapped partial_cut ended) [
    | inr ends ↦ inr ends
    | inl fine ↦ elim (cut-stood fine) [
      | inl stands ↦ inl (due_cut fine stands)
      | inr strays ↦ inr (end_by store scenario before r x real mapped partial_cut ended (subst (λ (q : ℕ → Bool). Strays (stands_for x) q (decoding_given x.gave)) (λ i k. sym (cut-asked k) i) strays))
    ]
  ]
    where
      cut-stood : (fine : IsFine store scenario before r x real mapped partial_cut)
          → (object_under store.keys scenario x.tag.file x.tag.generation next ≡ Sound (resized_contents (held store scenario before r x real mapped partial_cut fine) next.size))
          ⊎ Strays (stands_for x) (is_asked x.version.size x.position (Truncate number next.size)) (decoding_given x.gave)
      cut-stood fine =
          truncations_stand store.keys scenario x.tag.file x.tag.generation x.version next number x.position real
          (record { tree = x.gave.tree; verified = x.gave.verified; long = x.gave.long; block = x.gave.block; good = λ k e. x.gave.good k (cut-asked k ∙ e) })
          made (held store scenario before r x real mapped partial_cut fine) (held_under store scenario before r x real mapped partial_cut fine)

pub truncations_due : TruncationsAreDueOrEnd
truncations_due store scenario before r x real ended mapped next number is changing made =
    cut_or_end store scenario before r x real mapped next number is changing.0.handle changing.0.live changing.1 changing.2 changing.3 made ended
