-- A reply that tells what an object's file gave is legal, or shows a clash, or the promises end there.
use Rattle.std.proofs.Common.{◌≡◌, ◌⊎◌, ◌+◌, ◌-◌, ◌==◌, ◌<◌, ◌^◌, ℕ, Bool, true, false, true≢false, cond, List, length, min, take, Option, Some, None, IsSome, option_map, refl, sym, ap, ◌∙◌, subst, inl, inr, arith}
use Rattle.std.specs.Option.{option_and_then}
use Rattle.std.proofs.lemmas.Bool.{cases_Bool, eq-eqb, eqb-true}
use Rattle.tee_types.specs.declared.call.Call.{Call}
use Rattle.tee_types.specs.declared.call.Call.TheVariants.{Info, Open, Read}
use Rattle.tee_types.specs.declared.reply.Reply.{Reply}
use Rattle.tee_types.specs.declared.reply.Reply.TheVariants.{Content, Corrupt, Handle as HandleReply, Info as InfoReply}
use Rattle.tee_types.specs.declared.flags.Flags.{Flags}
use Rattle.tee_types.specs.Rights.{has, read_bit}
use Rattle.aes_block.specs.WrappedKey.{unwrapped_of}
use Rattle.node_image.specs.declared.head.Head.{Head}
use Rattle.node_image.proofs.Matching.{row_at}
use Rattle.htree_file.proofs.Sizes.{sized_few}
use Rattle.htree_file.specs.Opening.{IsVerified}
use Rattle.page_bytes.specs.Pages.{bytes_from, page_at}
use Rattle.page_bytes.specs.Ranges.{meets}
use Rattle.page_bytes.proofs.Content.{length-bytes_from}
use Rattle.store_model.specs.declared.session.Handle.{Handle}
use Rattle.store_model.specs.declared.event.Event.{Event}
use Rattle.store_model.specs.declared.event.Event.TheVariants.{Call as CallEvent}
use Rattle.store_model.specs.declared.event.Mark.TheVariants.{Unchanged}
use Rattle.store_model.specs.Object.{Contents, Damaged, Object, Sound, object_at}
use Rattle.store_model.specs.Machine.{handle_at, name_in, session_at}
use Rattle.store_model.specs.Calls.{is_commit, reply_of}
use Rattle.store_model.specs.Data.{bytes_at}
use Rattle.store_model.specs.Files.{IsFree, file_named, makes_object, object_named}
use Rattle.store_model.specs.Legal.{Answered, IsLegalEvent, IsTagged, counter_after, mark_of}
use Rattle.store_model.specs.Record.{Tag, fault_in_reply, file_of}
use Rattle.store_model.specs.ReplayState.{ReplayState}
use Rattle.crash_core.specs.MountedObject.{contents_of, object_of, object_with}
use Rattle.history_seats.specs.Records.{HistoryRecord, Version}
use Rattle.history_seats.specs.Mounts.{Entry}
use Rattle.history_seats.specs.Settling.{commits}
use Rattle.history_seats.specs.Directory.{given_version}
use Rattle.history_seats.proofs.Lists.{or_right, or_second}
use Rattle.core_laws.specs.Decodings.{IsReal, Decoding, object_decoded, opened_decoded, page_decoded, pages_decoded, wrap_of}
use Rattle.core_laws.specs.TamperScenarios.{TamperScenario, object_under}
use Rattle.core_laws.specs.Clashes.{Clash, IsAlike, NodeClash}
use Rattle.core_laws.specs.Stores.{Store, replay_at}
use Rattle.core_laws.specs.Mapped.{IsMapped}
use Rattle.core_laws.specs.Given.{DiffersInBytes, Tells, is_asked, position_by, position_of, decoding_given}
use Rattle.core_laws.specs.Shown.{IsEndAt, IsGivenAt, IsToldAt, Lacks, asked_of, meant_at, stands_for}
use Rattle.core_laws.specs.Answered.{IsAnsweredAt}
use Rattle.core_laws.specs.ReadLaws.{IsAdmitted, IsOpening, ToldRepliesAreAnswered}
use Rattle.core_laws.proofs.Mending.{none_some, some_same}
use Rattle.core_laws.proofs.ReplayState.{key_under, verified_under}
use Rattle.core_laws.proofs.SameTrees.{alike_trees}
use Rattle.core_laws.proofs.InStep.{entry_object}
use Rattle.core_laws.proofs.SessionSteps.{sessions_at}
use Rattle.core_laws.proofs.Comparing.{bad-at, compare, count-is, good-met, is_some_of, met-low, same-bytes, within}
use Rattle.core_laws.proofs.ReadCalls.{info-damaged, info-good, meets_bad, open-damaged, open-good, read-bad, read-damaged, read-good}

-- what an object that is spelled out is, by the length of its tree and its first page
pub data DecodedCase (size attributes : ℕ) (sp : Decoding) : Type 0 where
  OtherLength : (sp.tree.head.length == 4096 + size) ≡ false → object_of size attributes (opened_decoded sp) ≡ Damaged size → DecodedCase size attributes sp
  FirstBad : page_decoded sp 0 ≡ None → object_of size attributes (opened_decoded sp) ≡ Damaged size → DecodedCase size attributes sp
  DecodedSound : sp.tree.head.length ≡ 4096 + size → (page : List ℕ) → page_decoded sp 0 ≡ Some page
      → object_of size attributes (opened_decoded sp) ≡ Sound (contents_of size attributes (pages_decoded sp) page) → DecodedCase size attributes sp

pub decoded_case : (size attributes : ℕ) (sp : Decoding) → 0 < length sp.tree.nodes → page_at (pages_decoded sp) 0 ≡ page_decoded sp 0 → DecodedCase size attributes sp
decoded_case size attributes sp some first = by_length (sp.tree.head.length == 4096 + size) refl
  where
    by_page : (o : Option (List ℕ)) → page_at (pages_decoded sp) 0 ≡ o → (sp.tree.head.length == 4096 + size) ≡ true → DecodedCase size attributes sp
    by_page None e long =
        FirstBad (sym first ∙ e)
        ((λ i. cond (long i) (object_with size attributes (pages_decoded sp) (e i)) (Damaged size)))
    by_page (Some page) e long =
        DecodedSound (eqb-true sp.tree.head.length (4096 + size) long) page (sym first ∙ e)
        ((λ i. cond (long i) (object_with size attributes (pages_decoded sp) (e i)) (Damaged size)))

    by_length : (b : Bool) → (sp.tree.head.length == 4096 + size) ≡ b → DecodedCase size attributes sp
    by_length true e = by_page (page_at (pages_decoded sp) 0) refl e
    by_length false e = OtherLength e (ap (λ (b : Bool). cond b (object_with size attributes (pages_decoded sp) (page_at (pages_decoded sp) 0)) (Damaged size)) e)

module _ (store : Store) (scenario : TamperScenario) (before : List HistoryRecord) (r : HistoryRecord) (x : IsToldAt store scenario before r) (real : IsReal store.keys x.given.version)
    (mapped : IsMapped store scenario before) (known : x.given.session < length store.mounted.applications) (counted : (replay_at store scenario before).counter < 2 ^ 32) where
  abbrev g : IsGivenAt store scenario before r
  g = x.given

  abbrev here : ReplayState
  here = replay_at store scenario before

  abbrev v : Version
  v = x.given.version

  abbrev given : Decoding
  given = decoding_given x.given.gave

  abbrev Result : Type 0
  Result = IsAnsweredAt store scenario before r ⊎ IsEndAt store scenario before r

  event : r.event ≡ CallEvent g.session g.number g.call g.reply Unchanged
  event = g.is ∙ ap (CallEvent g.session g.number g.call g.reply) x.unchanged

  object-there : object_at here.state.objects g.name ≡ Some (object_under store.keys scenario g.tag.file g.tag.generation v)
  object-there =
      entry_object store scenario before g.name g.entry v mapped g.named ((λ i. given_version store.mounted before (g.file i) (g.generation i)) ∙ g.gives)
      ∙ (λ i. Some (object_under store.keys scenario (g.file i) (g.generation i) v))

  file-is : file_of r ≡ Some g.tag.file
  file-is = ap (option_map (λ (tag : Tag Version). tag.file)) g.tagged

  named-file : file_named here.files here.state g.session g.call ≡ Some g.tag.file
  named-file =
      ap (option_and_then here.files) g.of_call ∙ mapped.files g.name ∙ ap (option_map (λ (e : Entry). e.file)) g.named ∙ ap Some g.file

  tagged : makes_object g.call (meant_at g) ≡ false → fault_in_reply g.reply ≡ None → IsTagged here g.session g.call g.reply Unchanged (file_of r)
  tagged makes faultless = record {
    own = λ number is.
        subst (λ (b : Bool). elim b as (λ _. Type 0) [ true ↦ IsFree here.files number | false ↦ file_named here.files here.state g.session g.call ≡ Some number ]) (sym makes)
        (named-file ∙ sym file-is ∙ is);
    needed = λ needs none. absurd (none_some g.tag.file (sym none ∙ file-is));
    fault = λ number fault. absurd (none_some number (sym faultless ∙ fault));
  }

  -- the machine's own reply is legal
  pub legal-same : makes_object g.call (meant_at g) ≡ false → fault_in_reply g.reply ≡ None → is_commit here.state g.session g.call (meant_at g) ≡ false → g.reply ≡ meant_at g → Result
  legal-same makes faultless quiet same = inl (inl (record {
    legal = subst (λ (e : Event). IsLegalEvent scenario.tampered here e (file_of r)) (sym event) (record {
      declared = omega (arith, known, sessions_at store scenario before);
      tagged = tagged makes faultless;
      answer = Answered (record {
        replied = same;
        marked = ap (mark_of here.counter) (sym quiet);
        counted = subst (λ (b : Bool). counter_after here.counter b < 2 ^ 32) (sym quiet) counted;
      });
    });
    kept = λ is _. absurd (true≢false (sym is ∙ ap commits event));
  }))

  lacking : meant_at g ≡ Corrupt → Lacks (stands_for g) (asked_of g) g.gave.tree → Result
  lacking meant lacks = inr (inl (record { told = x; meant = meant; lacks = lacks }))

  clashed : (sp : Decoding) → stands_for g ≡ Some sp → DiffersInBytes g.reply (meant_at g) → Clash (asked_of g) sp given → Result
  clashed sp stands alike clash = inl (inr (record { told = x; alike = alike; sp = sp; stands = stands; clash = clash }))

  lacks-at : (sp : Decoding) → stands_for g ≡ Some sp → NodeClash sp.tree g.gave.tree ⊎ ((k : ℕ) × (asked_of g k ≡ true) × (page_decoded sp k ≡ None)) → Lacks (stands_for g) (asked_of g) g.gave.tree
  lacks-at sp stands lacks = subst (λ (o : Option Decoding). Lacks o (asked_of g) g.gave.tree) (sym stands) lacks

  first-asked : asked_of g 0 ≡ true
  first-asked = refl

  -- Where the object is damaged the machine finds it corrupt, and the tamper scenario lacks something.
  module _ (sp : Decoding) (stands : stands_for g ≡ Some sp) where
    verified : IsVerified v.root sp.tree
    verified = verified_under store.keys scenario g.tag.file g.tag.generation v sp stands real

    same-key : sp.tree.head ≡ g.gave.tree.head → sp.key ≡ given.key
    same-key head = key_under store.keys scenario g.tag.file g.tag.generation v sp stands ∙ ap (λ (h : Head). unwrapped_of (wrap_of store.keys v) h.wrapped) head

    trees : IsAlike sp.tree g.gave.tree ⊎ NodeClash sp.tree g.gave.tree
    trees = alike_trees v.root sp.tree g.gave.tree verified g.gave.verified

    some-node : 0 < length sp.tree.nodes
    some-node = omega (arith, verified.hashed.all, (sized_few sp.tree.head verified.hashed.sized).0)

    is-there : (o : Object) → object_of v.size v.attributes (opened_decoded sp) ≡ o → object_at here.state.objects g.name ≡ Some o
    is-there o is = object-there ∙ ap (λ (y : Option Decoding). Some (object_decoded v.size v.attributes y)) stands ∙ ap Some is

    -- what lacks where the tree has another length, or its first block is bad
    other-length : meant_at g ≡ Corrupt → (sp.tree.head.length == 4096 + v.size) ≡ false → Result
    other-length meant off = elim trees [
      | inl alike ↦ absurd (true≢false (sym (eq-eqb sp.tree.head.length (4096 + v.size) (ap (λ (h : Head). h.length) alike.head ∙ g.gave.long)) ∙ off))
      | inr clash ↦ lacking meant (lacks-at sp stands (inl clash))
    ]

    bad-at-block : meant_at g ≡ Corrupt → (k : ℕ) → asked_of g k ≡ true → page_decoded sp k ≡ None → Result
    bad-at-block meant k asked bad = lacking meant (lacks-at sp stands (inr (k, asked, bad)))

    -- what was given is what stands, or they clash
    compared : ((k : ℕ) → asked_of g k ≡ true → (k < length sp.tree.nodes) × IsSome (page_decoded sp k)) → DiffersInBytes g.reply (meant_at g)
        → (((k : ℕ) → k < length sp.tree.nodes → asked_of g k ≡ true → page_decoded sp k ≡ page_decoded given k) → Result) → Result
    compared good alike_replies same = elim trees [
      | inr clash ↦ clashed sp stands alike_replies (inl clash)
      | inl alike ↦ elim (compare (asked_of g) sp given (same-key alike.head) alike good g.gave.good) [
        | inl each ↦ same each
        | inr clash ↦ clashed sp stands alike_replies (inr clash)
      ]
    ]

  -- where nothing stands for the version, the tamper scenario lacks it
  nothing-stands : stands_for g ≡ None → meant_at g ≡ Corrupt → Result
  nothing-stands none meant = lacking meant (subst (λ (o : Option Decoding). Lacks o (asked_of g) g.gave.tree) (sym none) tt)

  damaged-there : stands_for g ≡ None → object_at here.state.objects g.name ≡ Some (Damaged v.size)
  damaged-there none = object-there ∙ ap (λ (y : Option Decoding). Some (object_decoded v.size v.attributes y)) none

  -- A Read.
  module _ (number count : ℕ) (is : g.call ≡ Read number count) (handle : Handle) (live : handle_at (session_at here.state g.session) number ≡ Some handle)
      (right : has handle.flags read_bit ≡ true) (bytes : List ℕ) (replied : g.reply ≡ Content bytes)
      (told : bytes ≡ bytes_from (page_decoded given) (4096 + g.position) (min count (v.size - g.position))) where
    named : handle.name ≡ g.name
    named =
        some_same handle.name g.name
        (sym (ap (option_map (λ (h : Handle). h.name)) live) ∙ sym (ap (object_named here.state g.session) is) ∙ g.of_call)

    place : handle.position ≡ g.position
    place = sym (g.at ∙ ap (position_by here.state g.session) is ∙ ap position_of live)

    at-handle : (o : Object) → object_at here.state.objects g.name ≡ Some o → object_at here.state.objects handle.name ≡ Some o
    at-handle o there = ap (object_at here.state.objects) named ∙ there

    meant-is : (reply : Reply) → reply_of here.state g.session (Read number count) ≡ reply → meant_at g ≡ reply
    meant-is reply e = ap (reply_of here.state g.session) is ∙ e

    met-asked : (k : ℕ) → meets (4096 + g.position) (4096 + g.position + min count (v.size - g.position)) k ≡ true → asked_of g k ≡ true
    met-asked k e = ap (λ (c : Call). is_asked v.size g.position c k) is ∙ or_right (k == 0) (meets (4096 + g.position) (4096 + g.position + min count (v.size - g.position)) k) e

    asked-cases : (k : ℕ) → asked_of g k ≡ true → (k ≡ 0) ⊎ (meets (4096 + g.position) (4096 + g.position + min count (v.size - g.position)) k ≡ true)
    asked-cases k e = elim (cases_Bool (k == 0)) [
      | inl first ↦ inl (eqb-true k 0 first)
      | inr other ↦ inr (or_second (k == 0) (meets (4096 + g.position) (4096 + g.position + min count (v.size - g.position)) k) (sym (ap (λ (c : Call). is_asked v.size g.position c k) is) ∙ e) other)
    ]

    read-sound : (sp : Decoding) → stands_for g ≡ Some sp → sp.tree.head.length ≡ 4096 + v.size → (page : List ℕ) → page_decoded sp 0 ≡ Some page
        → object_of v.size v.attributes (opened_decoded sp) ≡ Sound (contents_of v.size v.attributes (pages_decoded sp) page) → Result
    read-sound sp stands long page first sound = by_test (meets_bad here.state g.session number count handle live right c g.position) refl
      where
        c : Contents
        c = contents_of v.size v.attributes (pages_decoded sp) page

        ok : IsVerified v.root sp.tree
        ok = verified sp stands

        there : object_at here.state.objects handle.name ≡ Some (Sound c)
        there = at-handle (Sound c) (is-there sp stands (Sound c) sound)

        good-asked : meets_bad here.state g.session number count handle live right c g.position ≡ false → (k : ℕ) → asked_of g k ≡ true → (k < length sp.tree.nodes) × IsSome (page_decoded sp k)
        good-asked fine k e = elim (asked-cases k e) [
          | inl zero_is ↦ (omega (arith, some-node sp stands, zero_is), is_some_of (page_decoded sp k) page (ap (page_decoded sp) zero_is ∙ first))
          | inr met ↦ (within v.size g.position count sp v.root ok long k (met-low v.size g.position count sp v.root ok long k met).1, good-met v.size g.position count sp v.root ok long fine k met)
        ]

        same-count : length bytes ≡ length (bytes_at c.bytes g.position count)
        same-count = ap length told ∙ length-bytes_from (page_decoded given) (4096 + g.position) (min count (v.size - g.position)) ∙ sym (count-is v.size g.position count sp v.root ok long)

        by_test : (b : Bool) → meets_bad here.state g.session number count handle live right c g.position ≡ b → Result
        by_test true bad =
            let at = bad-at v.size g.position count sp v.root ok long bad in
            bad-at-block sp stands (meant-is Corrupt (read-bad here.state g.session number count handle live right c g.position there place bad)) at.0 (met-asked at.0 at.1) at.2
        by_test false fine =
            let meant : meant_at g ≡ Content (bytes_at c.bytes g.position count) = meant-is (Content (bytes_at c.bytes g.position count)) (read-good here.state g.session number count handle live right c g.position there place fine) in
            let differs : DiffersInBytes g.reply (meant_at g) = subst (λ (y : Reply). DiffersInBytes y (meant_at g)) (sym replied) (subst (λ (y : Reply). DiffersInBytes (Content bytes) y) (sym meant) same-count) in
            compared sp stands (good-asked fine) differs
            (λ each.
            let same : bytes ≡ bytes_at c.bytes g.position count =
            told ∙ same-bytes v.size g.position count sp v.root ok long (page_decoded given) (λ k lt met. each k lt (met-asked k met)) in
            legal-same (ap (λ (y : Call). makes_object y (meant_at g)) is) (ap fault_in_reply replied) (ap (λ (y : Call). is_commit here.state g.session y (meant_at g)) is)
            (replied ∙ ap Content same ∙ sym meant))

    pub read-told : Result
    read-told = by_stands (stands_for g) refl
      where
        by_case : (sp : Decoding) → stands_for g ≡ Some sp → DecodedCase v.size v.attributes sp → Result
        by_case sp stands (OtherLength off damaged) =
            other-length sp stands (meant-is Corrupt (read-damaged here.state g.session number count handle live right v.size (at-handle (Damaged v.size) (is-there sp stands (Damaged v.size) damaged)))) off
        by_case sp stands (FirstBad bad damaged) =
            bad-at-block sp stands (meant-is Corrupt (read-damaged here.state g.session number count handle live right v.size (at-handle (Damaged v.size) (is-there sp stands (Damaged v.size) damaged)))) 0 first-asked bad
        by_case sp stands (DecodedSound long page first sound) = read-sound sp stands long page first sound

        by_stands : (o : Option Decoding) → stands_for g ≡ o → Result
        by_stands None none = nothing-stands none (meant-is Corrupt (read-damaged here.state g.session number count handle live right v.size (at-handle (Damaged v.size) (damaged-there none))))
        by_stands (Some sp) stands = by_case sp stands (decoded_case v.size v.attributes sp (some-node sp stands) (row_at (page_decoded sp) (length sp.tree.nodes) 0 None (some-node sp stands)))

  -- An Info.
  module _ (number : ℕ) (is : g.call ≡ Info number) (handle : Handle) (live : handle_at (session_at here.state g.session) number ≡ Some handle)
      (long_said at_said : ℕ) (flags_said : Flags) (attributes : List ℕ) (replied : g.reply ≡ InfoReply long_said at_said flags_said attributes)
      (size_is : long_said ≡ v.size) (position_is : at_said ≡ handle.position) (flags_are : flags_said ≡ handle.flags)
      (given_page : List ℕ) (gave_first : page_decoded given 0 ≡ Some given_page) (told : attributes ≡ take v.attributes given_page) where
    info-named : handle.name ≡ g.name
    info-named =
        some_same handle.name g.name
        (sym (ap (option_map (λ (h : Handle). h.name)) live) ∙ sym (ap (object_named here.state g.session) is) ∙ g.of_call)

    info-at : (o : Object) → object_at here.state.objects g.name ≡ Some o → object_at here.state.objects handle.name ≡ Some o
    info-at o there = ap (object_at here.state.objects) info-named ∙ there

    info-meant : (reply : Reply) → reply_of here.state g.session (Info number) ≡ reply → meant_at g ≡ reply
    info-meant reply e = ap (reply_of here.state g.session) is ∙ e

    info-asked : (k : ℕ) → asked_of g k ≡ true → k ≡ 0
    info-asked k e = elim (cases_Bool (k == 0)) [
      | inl first ↦ eqb-true k 0 first
      | inr other ↦ absurd (true≢false (sym (or_second (k == 0) false (sym (ap (λ (c : Call). is_asked v.size g.position c k) is) ∙ e) other)))
    ]

    info-sound : (sp : Decoding) → stands_for g ≡ Some sp → (page : List ℕ) → page_decoded sp 0 ≡ Some page
        → object_of v.size v.attributes (opened_decoded sp) ≡ Sound (contents_of v.size v.attributes (pages_decoded sp) page) → Result
    info-sound sp stands page first sound =
        compared sp stands (λ k e. let first_is : k ≡ 0 = info-asked k e in (omega (arith, some-node sp stands, first_is), is_some_of (page_decoded sp k) page (ap (page_decoded sp) first_is ∙ first))) differs
        (λ each.
        let pages : page ≡ given_page = some_same page given_page (sym first ∙ each 0 (some-node sp stands) first-asked ∙ gave_first) in
        legal-same (ap (λ (y : Call). makes_object y (meant_at g)) is) (ap fault_in_reply replied) (ap (λ (y : Call). is_commit here.state g.session y (meant_at g)) is)
        (replied ∙ (λ i. InfoReply (long_is i) (position_is i) (flags_are i) ((told ∙ ap (take v.attributes) (sym pages)) i)) ∙ sym meant))
      where
        c : Contents
        c = contents_of v.size v.attributes (pages_decoded sp) page

        meant : meant_at g ≡ InfoReply (length c.bytes) handle.position handle.flags c.attributes
        meant = info-meant (InfoReply (length c.bytes) handle.position handle.flags c.attributes) (info-good here.state g.session number handle live c (info-at (Sound c) (is-there sp stands (Sound c) sound)))

        long_is : long_said ≡ length c.bytes
        long_is = size_is ∙ sym (length-bytes_from (page_at (pages_decoded sp)) 4096 v.size)

        differs : DiffersInBytes g.reply (meant_at g)
        differs =
            subst (λ (y : Reply). DiffersInBytes y (meant_at g)) (sym replied)
            (subst (λ (y : Reply). DiffersInBytes (InfoReply long_said at_said flags_said attributes) y) (sym meant) (long_is, position_is, flags_are))

    pub info-told : Result
    info-told = by_stands (stands_for g) refl
      where
        corrupt : object_at here.state.objects g.name ≡ Some (Damaged v.size) → meant_at g ≡ Corrupt
        corrupt there = info-meant Corrupt (info-damaged here.state g.session number handle live v.size (info-at (Damaged v.size) there))

        by_case : (sp : Decoding) → stands_for g ≡ Some sp → DecodedCase v.size v.attributes sp → Result
        by_case sp stands (OtherLength off damaged) = other-length sp stands (corrupt (is-there sp stands (Damaged v.size) damaged)) off
        by_case sp stands (FirstBad bad damaged) = bad-at-block sp stands (corrupt (is-there sp stands (Damaged v.size) damaged)) 0 first-asked bad
        by_case sp stands (DecodedSound long page first sound) = info-sound sp stands page first sound

        by_stands : (o : Option Decoding) → stands_for g ≡ o → Result
        by_stands None none = nothing-stands none (corrupt (damaged-there none))
        by_stands (Some sp) stands = by_case sp stands (decoded_case v.size v.attributes sp (some-node sp stands) (row_at (page_decoded sp) (length sp.tree.nodes) 0 None (some-node sp stands)))

  -- An Open.
  module _ (id : List ℕ) (flags : Flags) (is : g.call ≡ Open id flags) (number : ℕ) (replied : g.reply ≡ HandleReply number)
      (opens : IsOpening here.state g.session (name_in here.state g.session id) flags number) where
    open-at : (o : Object) → object_at here.state.objects g.name ≡ Some o → object_at here.state.objects (name_in here.state g.session id) ≡ Some o
    open-at o there =
        ap (object_at here.state.objects) (some_same (name_in here.state g.session id) g.name (sym (ap (object_named here.state g.session) is) ∙ g.of_call)) ∙ there

    open-meant : (reply : Reply) → reply_of here.state g.session (Open id flags) ≡ reply → meant_at g ≡ reply
    open-meant reply e = ap (reply_of here.state g.session) is ∙ e

    pub open-told : Result
    open-told = by_stands (stands_for g) refl
      where
        corrupt : object_at here.state.objects g.name ≡ Some (Damaged v.size) → meant_at g ≡ Corrupt
        corrupt there = open-meant Corrupt (open-damaged here.state g.session id flags number opens v.size (open-at (Damaged v.size) there))

        by_case : (sp : Decoding) → stands_for g ≡ Some sp → DecodedCase v.size v.attributes sp → Result
        by_case sp stands (OtherLength off damaged) = other-length sp stands (corrupt (is-there sp stands (Damaged v.size) damaged)) off
        by_case sp stands (FirstBad bad damaged) = bad-at-block sp stands (corrupt (is-there sp stands (Damaged v.size) damaged)) 0 first-asked bad
        by_case sp stands (DecodedSound long page first sound) =
            let c : Contents = contents_of v.size v.attributes (pages_decoded sp) page in
            let meant : meant_at g ≡ HandleReply number = open-meant (HandleReply number) (open-good here.state g.session id flags number opens c (open-at (Sound c) (is-there sp stands (Sound c) sound))) in
            legal-same (ap (λ (y : Call). makes_object y (meant_at g)) is) (ap fault_in_reply replied) (ap (λ (y : Call). is_commit here.state g.session y (meant_at g)) is) (replied ∙ sym meant)

        by_stands : (o : Option Decoding) → stands_for g ≡ o → Result
        by_stands None none = nothing-stands none (corrupt (damaged-there none))
        by_stands (Some sp) stands = by_case sp stands (decoded_case v.size v.attributes sp (some-node sp stands) (row_at (page_decoded sp) (length sp.tree.nodes) 0 None (some-node sp stands)))

  by_reply : (call : Call) (reply : Reply) → g.call ≡ call → g.reply ≡ reply → Tells given v.size v.attributes g.position call reply → IsAdmitted here.state g.session v.size call reply → Result
  by_reply (Read number count) (Content bytes) is replied tells admitted =
      read-told number count is admitted.0.handle admitted.0.live admitted.1 bytes replied tells
  by_reply (Info number) (InfoReply long at flags attributes) is replied tells admitted =
      info-told number is admitted.0.handle admitted.0.live long at flags attributes replied admitted.1.0 admitted.1.1 admitted.1.2 tells.0 tells.1 tells.2
  by_reply (Open id flags) (HandleReply number) is replied tells admitted = open-told id flags is number replied admitted
  by_reply (Open id flags) reply is replied tells admitted = absurd tells
  by_reply (Read number count) reply is replied tells admitted = absurd tells
  by_reply (Info number) reply is replied tells admitted = absurd tells
  by_reply call reply is replied tells admitted = absurd admitted

pub told_replies : ToldRepliesAreAnswered
told_replies store scenario before r x real mapped known counted admitted =
    by_reply store scenario before r x real mapped known counted x.given.call x.given.reply refl refl x.tells admitted
