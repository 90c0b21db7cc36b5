-- A legal event over two maps that differ only in damage: it is legal over both, and leaves two such maps.
use Rattle.std.proofs.Common.{◌≡◌, ◌⊎◌, ◌<◌, ◌^◌, ℕ, Bool, true, false, not, ◌&&◌, ◌||◌, List, ◌∷◌, ap, sym, ◌∙◌, refl, subst, inl, inr, Option, Some, None, true≢false, eq-eqb}
use Rattle.std.specs.Option.{option_and_then}
use Rattle.tee_types.specs.declared.call.Call.{Call}
use Rattle.tee_types.specs.declared.call.Call.TheVariants.{Create, Open, Close, Read, Write, Truncate, Seek, Rename, Delete, Info, EnumNew, EnumStart, EnumNext, EnumReset, EnumFree}
use Rattle.tee_types.specs.declared.reply.Reply.{Reply}
use Rattle.tee_types.specs.declared.reply.Reply.TheVariants.{Misuse}
use Rattle.tee_types.specs.declared.reply.Cause.{Cause}
use Rattle.store_model.specs.declared.event.Event.{Event}
use Rattle.store_model.specs.declared.event.Mark.{Mark}
use Rattle.store_model.specs.declared.event.Mark.TheVariants.{Unchanged, Made, Doubtful}
use Rattle.store_model.specs.declared.name.ObjectName.{ObjectName}
use Rattle.store_model.specs.Object.{ObjectMap, object_at}
use Rattle.store_model.specs.Machine.{MachineState}
use Rattle.store_model.specs.Calls.{state_after, is_commit}
use Rattle.store_model.specs.Record.{Record, is_file, concerns_file, is_named}
use Rattle.store_model.specs.Files.{FileMap, IsFree, object_named, file_named, files_after, makes_object, reads_file, is_misuse, is_corrupt}
use Rattle.store_model.specs.Doubt.{Doubt}
use Rattle.store_model.specs.ReplayState.{ReplayState, replay_after}
use Rattle.store_model.specs.Legal.{mark_of, counter_after, meant_by, is_commit_due, tells_object, IsHindered, IsLegalAnswer, stands_for_doubt, needs_file, IsFileOf, IsTagged, IsLegalEvent}
use Rattle.store_model.specs.Legal.IsHindered.{NotMade, Unread, Unresolved}
use Rattle.store_model.specs.Legal.IsLegalAnswer.{Answered, Unavailable, Doubted, FoundCorrupt, Spent}
use Rattle.store_model.proofs.Closeness.{listing, IsRising, AreClose, IsUnnamed}
use Rattle.store_model.proofs.InStep.{over, agree}

-- the replay with another map
abbrev pub replay_over : ReplayState → ObjectMap → ReplayState
replay_over s objects = record s { state = over s.state objects }

-- the two maps that a doubted call leaves
pub record AreCloseLanded {Root : Type 0} (s : ReplayState) (b : ObjectMap) (records : List (Record Root)) (doubt : Doubt) : Type 0 where
  pub close : AreClose (files_after s.files s.state doubt.session doubt.call doubt.file) records (state_after s.state doubt.session doubt.call).objects (state_after (over s.state b) doubt.session doubt.call).objects
  pub rising : IsRising (state_after s.state doubt.session doubt.call).objects

-- The map of the replay and this one differ only in damage, at objects whose files none of these records names; and so do those with
-- the doubted call landed.
pub record IsInStep {Root : Type 0} (s : ReplayState) (b : ObjectMap) (records : List (Record Root)) : Type 0 where
  pub close : AreClose s.files records s.state.objects b
  pub rising : IsRising s.state.objects
  pub landed : (doubt : Doubt) → s.doubt ≡ Some doubt → AreCloseLanded s b records doubt

or-right : (a c : Bool) → (a || c) ≡ false → c ≡ false
or-right true c is = absurd (true≢false is)
or-right false c is = is

pub or-left : (a c : Bool) → (a || c) ≡ false → a ≡ false
or-left true c is = absurd (true≢false is)
or-left false c is = refl

-- fewer records name less
pub fewer : {Root : Type 0} (files : FileMap) (r : Record Root) (records : List (Record Root)) (a b : ObjectMap) → AreClose files (r ∷ records) a b → AreClose files records a b
fewer files r records a b close = record { listed = close.listed; each = λ name. one name (close.each name) }
  where
    one : (name : ObjectName) → (object_at b name ≡ object_at a name) ⊎ IsUnnamed files (r ∷ records) name → (object_at b name ≡ object_at a name) ⊎ IsUnnamed files records name
    one name (inl same) = inl same
    one name (inr u) = inr (record { file = u.file; of_object = u.of_object; unnamed = or-right (concerns_file u.file r) (is_named records u.file) u.unnamed })

-- only a create makes an object, and no call that makes one is looked into
no-make : (call : Call) (meant : Reply) → reads_file call meant ≡ true → makes_object call meant ≡ false
no-make (Create id flags attributes bytes) meant read = absurd (true≢false (sym read))
no-make (Open id flags) meant read = refl
no-make (Close number) meant read = refl
no-make (Read number size) meant read = refl
no-make (Write number bytes) meant read = refl
no-make (Truncate number size) meant read = refl
no-make (Seek number offset whence) meant read = refl
no-make (Rename number id) meant read = refl
no-make (Delete number) meant read = refl
no-make (Info number) meant read = refl
no-make EnumNew meant read = refl
no-make (EnumStart number) meant read = refl
no-make (EnumNext number) meant read = refl
no-make (EnumReset number) meant read = refl
no-make (EnumFree number) meant read = refl

-- no misuse is a commit
pub no-commit : (s : MachineState) (i : ℕ) (call : Call) (meant : Reply) → is_misuse meant ≡ true → is_commit s i call meant ≡ false
no-commit s i call (Misuse reason) is = quiet call
  where
    quiet : (call : Call) → is_commit s i call (Misuse reason) ≡ false
    quiet (Create id flags attributes bytes) = refl
    quiet (Open id flags) = refl
    quiet (Close number) = refl
    quiet (Read number size) = refl
    quiet (Write number bytes) = refl
    quiet (Truncate number size) = refl
    quiet (Seek number offset whence) = refl
    quiet (Rename number id) = refl
    quiet (Delete number) = refl
    quiet (Info number) = refl
    quiet EnumNew = refl
    quiet (EnumStart number) = refl
    quiet (EnumNext number) = refl
    quiet (EnumReset number) = refl
    quiet (EnumFree number) = refl
no-commit s i call meant is = absurd (true≢false (sym is))

-- a call makes an object over both maps
pub makes-same : (s : ReplayState) (b : ObjectMap) (session : ℕ) (call : Call) → listing b ≡ listing s.state.objects
    → makes_object call (meant_by (replay_over s b) session call) ≡ makes_object call (meant_by s session call)
makes-same s b session (Create id flags attributes bytes) listed =
    ap (makes_object (Create id flags attributes bytes)) (agree s.state b session listed (Create id flags attributes bytes) (λ name is. inr refl)).reply
makes-same s b session (Open id flags) listed = refl
makes-same s b session (Close number) listed = refl
makes-same s b session (Read number size) listed = refl
makes-same s b session (Write number bytes) listed = refl
makes-same s b session (Truncate number size) listed = refl
makes-same s b session (Seek number offset whence) listed = refl
makes-same s b session (Rename number id) listed = refl
makes-same s b session (Delete number) listed = refl
makes-same s b session (Info number) listed = refl
makes-same s b session EnumNew listed = refl
makes-same s b session (EnumStart number) listed = refl
makes-same s b session (EnumNext number) listed = refl
makes-same s b session (EnumReset number) listed = refl
makes-same s b session (EnumFree number) listed = refl

-- What an event leaves of the two maps.
pub record IsStep {Root : Type 0} (tampered : List ℕ) (s : ReplayState) (b : ObjectMap) (event : Event) (file : Option ℕ) (records : List (Record Root)) : Type 0 where
  pub left : ObjectMap
  pub legal : IsLegalEvent tampered (replay_over s b) event file
  pub after : replay_after (replay_over s b) event file ≡ replay_over (replay_after s event file) left
  pub in_step : IsInStep (replay_after s event file) left records

module _ {Root : Type 0} (tampered : List ℕ) (s : ReplayState) (b : ObjectMap) (file : Option ℕ) (records : List (Record Root)) (session : ℕ) (call : Call) (reply : Reply) (mark : Mark) where
  abbrev t : ReplayState
  t = replay_over s b

  -- what is legal does not depend on more of the machine than its answer
  module _ (same : meant_by t session call ≡ meant_by s session call) (due : is_commit_due t session call ≡ is_commit_due s session call) where
    pub hindered : (cause : Cause) → IsHindered s session call cause file → IsHindered t session call cause file
    hindered cause (NotMade made) = NotMade (due ∙ made)
    hindered cause (Unread unread) = Unread (record {
      touches = unread.touches;
      tells = ap (λ (m : Reply). tells_object m || is_corrupt m) same ∙ unread.tells;
      number = unread.number;
      count = unread.count;
      named = unread.named;
      failed = unread.failed;
    })
    hindered cause (Unresolved open_) = Unresolved (record { doubt = open_.doubt; is_open = open_.is_open; no_misuse = ap is_misuse same ∙ open_.no_misuse; of_card = open_.of_card })

    pub answer : IsLegalAnswer tampered s session call reply mark file → IsLegalAnswer tampered t session call reply mark file
    answer (Answered a) = Answered (record {
      replied = a.replied ∙ sym same;
      marked = a.marked ∙ ap (mark_of s.counter) (sym due);
      counted = subst (λ (c : Bool). counter_after s.counter c < 2 ^ 32) (sym due) a.counted;
    })
    answer (Unavailable a) = Unavailable (record { cause = a.cause; replied = a.replied; marked = a.marked; due = hindered a.cause a.due })
    answer (Doubted a) = Doubted (record { cause = a.cause; replied = a.replied; marked = a.marked; due = due ∙ a.due; counted = a.counted })
    answer (FoundCorrupt a) = FoundCorrupt (record {
      replied = a.replied;
      marked = a.marked;
      touches = a.touches;
      due = (λ k. due k || tells_object (same k)) ∙ a.due;
      number = a.number;
      named = a.named;
      not_honest = a.not_honest;
    })
    answer (Spent a) = Spent (record { replied = a.replied; marked = a.marked; due = due ∙ a.due; spent = a.spent })

  -- the tag, where a create is answered alike
  pub own-same : makes_object call (meant_by t session call) ≡ makes_object call (meant_by s session call) → (number : ℕ) → IsFileOf s session call number → IsFileOf t session call number
  own-same makes number own =
      subst (λ (c : Bool). elim c as (λ _. Type 0) [ true ↦ IsFree s.files number | false ↦ file_named s.files s.state session call ≡ Some number ]) (sym makes) own

  pub needs-same : (m : Mark) → reads_file call (meant_by t session call) ≡ reads_file call (meant_by s session call) → needs_file t session call reply m ≡ needs_file s session call reply m
  needs-same Unchanged reads = ap (λ (c : Bool). not (stands_for_doubt s.doubt reply Unchanged) && c) reads
  needs-same (Made commit) reads = refl
  needs-same (Doubtful commit) reads = refl

  pub tagged-same : meant_by t session call ≡ meant_by s session call → IsTagged s session call reply mark file → IsTagged t session call reply mark file
  tagged-same same tagged = record {
    own = λ number named. own-same (ap (makes_object call) same) number (tagged.own number named);
    needed = λ needs none. tagged.needed (sym (needs-same mark (ap (reads_file call) same)) ∙ needs) none;
    fault = tagged.fault;
  }

  -- an object that differs is not looked into, since no tag names its file
  module _ (close : AreClose s.files records s.state.objects b) where
    pub needs-read : (m : Mark) → stands_for_doubt s.doubt reply m ≡ false → reads_file call (meant_by s session call) ≡ true → needs_file s session call reply m ≡ true
    needs-read Unchanged unexempt read = λ k. (not (unexempt k) && read k)
    needs-read (Made commit) unexempt read = refl
    needs-read (Doubtful commit) unexempt read = refl

    pub named-by : (name : ObjectName) (n : ℕ) → object_named s.state session call ≡ Some name → s.files name ≡ Some n → file_named s.files s.state session call ≡ Some n
    named-by name n is has = ap (option_and_then s.files) is ∙ has

    pub unread : (tagged : IsTagged s session call reply mark file) → stands_for_doubt s.doubt reply mark ≡ false → (name : ObjectName) → object_named s.state session call ≡ Some name
        → (n : ℕ) → s.files name ≡ Some n → (f : Option ℕ) → file ≡ f → is_file n f ≡ false → reads_file call (meant_by s session call) ≡ true → ⊥
    unread tagged unexempt name is n has None named off read =
        let none : Some n ≡ None = sym (named-by name n is has) ∙ tagged.needed (needs-read mark unexempt read) named in
        absurd (cc (none))
    unread tagged unexempt name is n has (Some g) named off read =
        let own : file_named s.files s.state session call ≡ Some g =
        subst (λ (c : Bool). elim c as (λ _. Type 0) [ true ↦ IsFree s.files g | false ↦ file_named s.files s.state session call ≡ Some g ]) (no-make call (meant_by s session call) read) (tagged.own g named) in
        let both : Some n ≡ Some g = sym (named-by name n is has) ∙ own in
        let same : n ≡ g = cc (both) in
        true≢false (sym (eq-eqb g n (sym same)) ∙ off)
