-- How a run ends, from an earlier point of it.
use Rattle.std.proofs.Common.{◌≡◌, ◌⊎◌, inl, inr, ◌+◌, ℕ, List, [], ◌∷◌, ◌++◌, refl, sym, ap, ◌∙◌, subst, arith, append_assoc, append-nil, None, Option, Some}
use Rattle.disk_model.specs.State.{FileState}
use Rattle.hmac_keys.specs.declared.Keys.{Keys}
use Rattle.rpmb_card.specs.Port.{PortState}
use Rattle.run_acts.specs.declared.MountFault.{MountFault}
use Rattle.run_acts.specs.declared.MountFault.TheVariants.{Failed, Spent}
use Rattle.script_text.specs.declared.script.Control.{Control}
use Rattle.script_text.specs.declared.script.Mode.{Mode}
use Rattle.script_text.specs.declared.script.Step.{Step}
use Rattle.script_text.specs.Script.{ScriptValue}
use Rattle.tee_ports.specs.Streams.{Appends}
use Rattle.tee_ports.proofs.Streams.{Appends-append, Appends-none}
use Rattle.run_acts.specs.Lines.{refusal_line, why_text}
use Rattle.run_acts.specs.Benches.{BenchState, IsWhole}
use Rattle.run_acts.specs.PhaseOutcomes.{OverCommits}
use Rattle.script_runner.specs.declared.status.Status.{Status}
use Rattle.script_runner.specs.declared.status.Status.TheVariants.{DeviceFault, Done, MountRefused, NoMemory, OverCommitted, WriteFault}
use Rattle.script_runner.specs.Sending.{Begins, IsWriteError, Sends, Stops}
use Rattle.script_runner.proofs.Sent.{Sends-append, Stops-longer}
use Rattle.script_runner.specs.Text.{Act, ActOutcome, CutShort, Do, Exceeded, Refused, Serve, acts_of, acts_text, stop_of}
use Rattle.script_runner.specs.Trace.{applications_of}
use Rattle.script_runner.specs.Course.{Goes, StopsAt}
use Rattle.script_runner.specs.SavedFiles.{Standing, with_bench}
use Rattle.script_runner.specs.Ending.{GoesThrough}
use Rattle.script_runner.specs.RunRefusals.{IsDeviceFault, IsRefusal}
use Rattle.script_runner.specs.Points.{Point, phases_in, standing_at}
use Rattle.script_runner.specs.Records.{RunRecord, acts_in, outcomes_in}
use Rattle.script_runner.specs.Running.{Advances, EndsFrom}
use Rattle.script_runner.specs.Prints.{HasActCause, MayStopWriting, MayWant, PrintsExcess, PrintsRefusal}
use Rattle.script_runner.proofs.Walks.{acts-behind, acts_in-append, acts_text-append, goes-acts, goes-append, goes-no_stop, goes-through, outcomes_in-append, phases_in-append}

-- what was put behind a front has the cause of what was put alone
pub HasActCause-behind : (failed : Type 0) (front put text all : List ℕ) (stop : Option ActOutcome) (One Two : Type 0) (status : Status) → all ≡ front ++ text → (One → Two) → HasActCause failed put text stop One status
    → HasActCause failed (front ++ put) all stop Two status
HasActCause-behind failed front put text all stop One Two Done e f h = (ap (λ t. front ++ t) h.0 ∙ sym e, h.1, f h.2)
HasActCause-behind failed front put text all stop One Two (OverCommitted sum) e f h = (ap (λ t. front ++ t) h.0 ∙ sym e, h.1)
HasActCause-behind failed front put text all stop One Two (MountRefused fault) e f h = (ap (λ t. front ++ t) h.0 ∙ sym e, h.1, h.2)
HasActCause-behind failed front put text all stop One Two (DeviceFault fault) e f h = (one h.0, h.1, h.2)
  where
    one : (put ≡ text) ⊎ failed → (front ++ put ≡ all) ⊎ failed
    one (inl is) = inl (ap (λ t. front ++ t) is ∙ sym e)
    one (inr x) = inr x
HasActCause-behind failed front put text all stop One Two status e f h = h

-- a fault of the sink that holds of more of the run
pub HasActCause-failed : (failed more : Type 0) (put text : List ℕ) (stop : Option ActOutcome) (Through : Type 0) (status : Status) → (failed → more) → HasActCause failed put text stop Through status
    → HasActCause more put text stop Through status
HasActCause-failed failed more put text stop Through WriteFault f h = (f h.0, h.1)
HasActCause-failed failed more put text stop Through (DeviceFault fault) f h = (one h.0, h.1, h.2)
  where
    one : (put ≡ text) ⊎ failed → (put ≡ text) ⊎ more
    one (inl is) = inl is
    one (inr x) = inr (f x)
HasActCause-failed failed more put text stop Through status f h = h

-- of a device that failed nothing is printed
pub refusal_line-none : (fault : MountFault) → IsDeviceFault fault → refusal_line fault ≡ []
unfolding refusal_line why_text
refusal_line-none (Failed cause) h = refl
refusal_line-none Spent h = refl
refusal_line-none fault h = absurd h

module _ {F R : Type 0} (of_file : F → FileState) (of_port : R → PortState) (image : FileState → ℕ → ℕ → List ℕ) (Reliable : Type 0) (keys : Keys) where
  -- the acts of one way are done, then those of the next
  pub Advances-append : (script : ScriptValue) (old mid new : Point) → Advances of_file of_port image Reliable keys script old mid → Advances of_file of_port image Reliable keys script mid new → Advances of_file of_port image Reliable keys script old new
  Advances-append script old mid new a b =
      let apps = applications_of script in
      let both = acts_in-append a.records b.records in
      let front = acts_text script old.number (acts_in a.records) (outcomes_in a.records) in
      let more : acts_text script mid.number (acts_in b.records) (outcomes_in b.records) ≡ acts_text script (old.number + phases_in (acts_in a.records)) (acts_in b.records) (outcomes_in b.records) =
      ap (λ n. acts_text script n (acts_in b.records) (outcomes_in b.records)) a.number_is in
      let text : acts_text script old.number (acts_in (a.records ++ b.records)) (outcomes_in (a.records ++ b.records))
      ≡ front ++ acts_text script (old.number + phases_in (acts_in a.records)) (acts_in b.records) (outcomes_in b.records) =
      ap (λ acts. acts_text script old.number acts (outcomes_in (a.records ++ b.records))) both
      ∙ ap (λ outcomes. acts_text script old.number (acts_in a.records ++ acts_in b.records) outcomes) (outcomes_in-append a.records b.records)
      ∙ acts_text-append of_file of_port image Reliable keys apps script old.number a.records (standing_at old) (standing_at mid) a.goes (acts_in b.records) (outcomes_in b.records) in record {
        records = a.records ++ b.records;
        acts = a.acts ∙ ap (λ x. acts_in a.records ++ x) b.acts ∙ sym (append_assoc (acts_in a.records) (acts_in b.records) (acts_of new.mode new.steps))
            ∙ ap (λ x. x ++ acts_of new.mode new.steps) (sym both);
        goes = goes-append of_file of_port image Reliable keys apps a.records b.records (standing_at old) (standing_at mid) (standing_at new) a.goes b.goes;
        number_is = omega (arith, b.number_is, a.number_is, phases_in-append (acts_in a.records) (acts_in b.records), ap phases_in both);
        sent = subst (Sends old.held new.held old.kept new.kept) (ap (λ t. front ++ t) more ∙ sym text)
            (Sends-append old.held mid.held new.held old.kept mid.kept new.kept front _ a.sent b.sent);
      }

module _ {F R : Type 0} (of_file : F → FileState) (of_port : R → PortState) (image : FileState → ℕ → ℕ → List ℕ) (Reliable : Type 0) (drew draws : ℕ) (keys : Keys) where
  -- how a bench goes through acts behind others that were done
  through-behind : (apps : List (List ℕ)) (front back : List RunRecord) (old mid : Standing) (given : BenchState) → Goes of_file of_port image Reliable keys apps front old mid
      → GoesThrough of_file of_port image Reliable drew draws keys apps back mid given → GoesThrough of_file of_port image Reliable drew draws keys apps (front ++ back) old given
  through-behind apps front back old mid given h g = record {
    last = g.last;
    acts = acts-behind of_file of_port image Reliable keys apps drew draws front back old mid g.last h g.acts;
    given_is = g.given_is;
  }

  -- a run that ends from a later point on ends from the earlier one
  pub EndsFrom-behind : (script : ScriptValue) (failed : Type 0) (old mid : Point) (held : Option (List ℕ)) (given : BenchState) (status : Status) → Advances of_file of_port image Reliable keys script old mid → EndsFrom of_file of_port image Reliable drew draws keys script failed mid held given status → EndsFrom of_file of_port image Reliable drew draws keys script failed old held given status
  EndsFrom-behind script failed old mid held given status a e =
      let apps = applications_of script in
      let left = acts_of mid.mode mid.steps in
      let records = a.records ++ e.records in
      let both = acts_in-append a.records e.records in
      let came = outcomes_in-append a.records e.records in
      let front = acts_text script old.number (acts_in a.records) (outcomes_in a.records) in
      let rest = acts_text script mid.number left (outcomes_in e.records) in
      let text : acts_text script old.number (acts_of old.mode old.steps) (outcomes_in records) ≡ front ++ rest =
      ap (λ acts. acts_text script old.number acts (outcomes_in records)) a.acts
      ∙ ap (λ outcomes. acts_text script old.number (acts_in a.records ++ left) outcomes) came
      ∙ acts_text-append of_file of_port image Reliable keys apps script old.number a.records (standing_at old) (standing_at mid) a.goes left (outcomes_in e.records)
      ∙ ap (λ n. front ++ acts_text script n left (outcomes_in e.records)) (sym a.number_is) in
      let all : old.kept ++ (front ++ rest) ≡ a.sent.0 ++ (mid.kept ++ rest) =
      sym (append_assoc old.kept front rest) ∙ ap (λ t. t ++ rest) a.sent.2 ∙ append_assoc a.sent.0 mid.kept rest in
      let stop : stop_of (outcomes_in records) ≡ stop_of (outcomes_in e.records) =
      ap stop_of came ∙ goes-no_stop of_file of_port image Reliable keys apps a.records (standing_at old) (standing_at mid) a.goes (outcomes_in e.records) in
      let through : acts_in e.records ≡ left → acts_in records ≡ acts_of old.mode old.steps =
      λ is. both ∙ ap (λ l. acts_in a.records ++ l) is ∙ sym a.acts in
      let Through = acts_in records ≡ acts_of old.mode old.steps in record {
        put = a.sent.0 ++ e.put;
        records = records;
        left = e.left;
        appended = Appends-append old.held mid.held held a.sent.0 e.put a.sent.1 e.appended;
        begins = (
          e.begins.0,
          ap (λ t. old.kept ++ t) text ∙ all ∙ ap (λ t. a.sent.0 ++ t) e.begins.1 ∙ sym (append_assoc a.sent.0 e.put e.begins.0),
        );
        front = a.acts ∙ ap (λ x. acts_in a.records ++ x) e.front ∙ sym (append_assoc (acts_in a.records) (acts_in e.records) e.left) ∙ ap (λ x. x ++ e.left) (sym both);
        goes = through-behind apps a.records e.records (standing_at old) (standing_at mid) given a.goes e.goes;
        cause = subst (λ t. HasActCause failed (a.sent.0 ++ e.put) (old.kept ++ t) (stop_of (outcomes_in records)) Through status) (sym text)
            (subst (λ (s : Option ActOutcome). HasActCause failed (a.sent.0 ++ e.put) (old.kept ++ (front ++ rest)) s Through status) (sym stop)
            (HasActCause-behind failed a.sent.0 e.put (mid.kept ++ rest) (old.kept ++ (front ++ rest)) (stop_of (outcomes_in e.records)) (acts_in e.records ≡ left) Through status all through e.cause));
      }

  -- no act was begun from there on
  none-through : (apps : List (List ℕ)) (here : Standing) → GoesThrough of_file of_port image Reliable drew draws keys apps [] here here.bench
  none-through apps here = record { last = here; acts = refl; given_is = refl }

  -- nothing more was done nor put, and there is no memory
  pub EndsFrom-no_memory : (script : ScriptValue) (failed : Type 0) (old : Point) → EndsFrom of_file of_port image Reliable drew draws keys script failed old old.held old.bench NoMemory
  EndsFrom-no_memory script failed old = record {
    put = [];
    records = [];
    left = acts_of old.mode old.steps;
    appended = Appends-none old.held;
    begins = (_, refl);
    front = refl;
    goes = none-through (applications_of script) (standing_at old);
    cause = tt;
  }

  -- all acts were done, and the text that was kept was put
  pub EndsFrom-done : (script : ScriptValue) (failed : Type 0) (old : Point) (held : Option (List ℕ)) → old.steps ≡ [] → Appends old.held held old.kept → EndsFrom of_file of_port image Reliable drew draws keys script failed old held old.bench Done
  EndsFrom-done script failed old held none put =
      let acts : acts_of old.mode old.steps ≡ [] = ap (acts_of old.mode) none in
      let text : old.kept ++ acts_text script old.number (acts_of old.mode old.steps) [] ≡ old.kept = ap (λ a. old.kept ++ acts_text script old.number a []) acts ∙ append-nil old.kept in record {
        put = old.kept;
        records = [];
        left = [];
        appended = put;
        begins = ([], text ∙ sym (append-nil old.kept));
        front = acts;
        goes = none-through (applications_of script) (standing_at old);
        cause = (sym text, refl, sym acts);
      }

  -- The run stops at the next act.
  module _ (script : ScriptValue) (old : Point) (given : BenchState) (act : Act) (left : List Act) (next : acts_of old.mode old.steps ≡ act ∷ left) where
    abbrev stopped : ActOutcome → RunRecord
    stopped outcome = record { act = act; outcome = outcome; before = standing_at old; behind = with_bench (standing_at old) given }

    abbrev Stops' : ActOutcome → Type 0
    Stops' outcome = StopsAt of_file of_port image Reliable keys (applications_of script) drew draws act outcome (standing_at old) (with_bench (standing_at old) given)

    stop-through : (outcome : ActOutcome) → Stops' outcome → GoesThrough of_file of_port image Reliable drew draws keys (applications_of script) (stopped outcome ∷ []) (standing_at old) given
    stop-through outcome stops = record { last = with_bench (standing_at old) given; acts = (refl, inr (stops, refl), refl); given_is = refl }

    -- there is no memory for all of a crash
    pub EndsFrom-crashed : (failed : Type 0) → Stops' CutShort → EndsFrom of_file of_port image Reliable drew draws keys script failed old old.held given NoMemory
    EndsFrom-crashed failed stops = record {
      put = [];
      records = stopped CutShort ∷ [];
      left = left;
      appended = Appends-none old.held;
      begins = (_, refl);
      front = next;
      goes = stop-through CutShort stops;
      cause = tt;
    }

    -- the text of these acts, of which the first was refused
    refused_act : (first : Act) (here : Standing) (fault : MountFault) → StopsAt of_file of_port image Reliable keys (applications_of script) drew draws first (Refused fault) here (with_bench here given)
        → acts_text script old.number (first ∷ left) (Refused fault ∷ []) ≡ refusal_line fault
    refused_act (Serve mode calls) here fault h = refl
    refused_act (Do control) here fault h = subst (λ (c : Control). acts_text script old.number (Do c ∷ left) (Refused fault ∷ []) ≡ refusal_line fault) (sym h.0) refl

    module _ (failed : Type 0) (held : Option (List ℕ)) (fault : MountFault) (stops : Stops' (Refused fault)) where
      refused_text : acts_text script old.number (acts_of old.mode old.steps) (Refused fault ∷ []) ≡ refusal_line fault
      refused_text = ap (λ acts. acts_text script old.number acts (Refused fault ∷ [])) next ∙ refused_act act (standing_at old) fault stops

      same_stop : (printed : MountFault) → printed ≡ fault → ◌≡◌ {A = Option ActOutcome} (Some (Refused fault)) (Some (Refused printed))
      same_stop printed is = ap (λ f. Some (Refused f)) (sym is)

      -- the next act was refused
      pub EndsFrom-refused : (status : Status) → PrintsRefusal failed old.held held old.kept fault status → EndsFrom of_file of_port image Reliable drew draws keys script failed old held given status
      EndsFrom-refused WriteFault t = record {
        put = t.2.0;
        records = stopped (Refused fault) ∷ [];
        left = left;
        appended = t.2.1;
        begins = subst (λ x. Begins t.2.0 (old.kept ++ x)) (sym refused_text) t.2.2;
        front = next;
        goes = stop-through (Refused fault) stops;
        cause = (t.1, t.0);
      }
      EndsFrom-refused NoMemory t = record {
        put = t.1.0;
        records = stopped (Refused fault) ∷ [];
        left = left;
        appended = t.1.1;
        begins = subst (λ x. Begins t.1.0 (old.kept ++ x)) (sym refused_text) t.1.2;
        front = next;
        goes = stop-through (Refused fault) stops;
        cause = t.0;
      }
      EndsFrom-refused (MountRefused printed) t =
          let text = ap (λ x. old.kept ++ x) refused_text in record {
            put = old.kept ++ refusal_line fault;
            records = stopped (Refused fault) ∷ [];
            left = left;
            appended = t.2;
            begins = ([], text ∙ sym (append-nil _));
            front = next;
            goes = stop-through (Refused fault) stops;
            cause = (sym text, same_stop printed t.0, subst IsRefusal (sym t.0) t.1);
          }
      EndsFrom-refused (DeviceFault printed) t = one t.2
        where
          text : old.kept ++ acts_text script old.number (acts_of old.mode old.steps) (Refused fault ∷ []) ≡ old.kept
          text = ap (λ x. old.kept ++ x) (refused_text ∙ refusal_line-none fault t.1) ∙ append-nil old.kept

          one : Appends old.held held old.kept ⊎ (failed × Stops old.held held old.kept []) → EndsFrom of_file of_port image Reliable drew draws keys script failed old held given (DeviceFault printed)
          one (inl put) = record {
            put = old.kept;
            records = stopped (Refused fault) ∷ [];
            left = left;
            appended = put;
            begins = ([], text ∙ sym (append-nil old.kept));
            front = next;
            goes = stop-through (Refused fault) stops;
            cause = (inl (sym text), same_stop printed t.0, subst IsDeviceFault (sym t.0) t.1);
          }
          one (inr x) = record {
            put = x.1.0;
            records = stopped (Refused fault) ∷ [];
            left = left;
            appended = x.1.1;
            begins = (x.1.2.0, text ∙ sym (append-nil old.kept) ∙ x.1.2.1);
            front = next;
            goes = stop-through (Refused fault) stops;
            cause = (inr x.0, same_stop printed t.0, subst IsDeviceFault (sym t.0) t.1);
          }
      EndsFrom-refused status t = absurd t

  -- the quotas of the next phase are over-committed
  pub EndsFrom-exceeded : (script : ScriptValue) (failed : Type 0) (old : Point) (held : Option (List ℕ)) (given : BenchState) (sum : ℕ) (mode : Mode) (calls : List Step) (left : List Act)
      → acts_of old.mode old.steps ≡ Serve mode calls ∷ left → OverCommits of_file of_port keys (applications_of script) old.quotas old.bench given sum
      → IsWhole given → (status : Status) → PrintsExcess failed old.held held old.kept sum status
      → EndsFrom of_file of_port image Reliable drew draws keys script failed old held given status
  EndsFrom-exceeded script failed old held given sum mode calls left next over whole status t = one status t
    where
      records : List RunRecord
      records = stopped script old given (Serve mode calls) left next (Exceeded sum) ∷ []

      through : GoesThrough of_file of_port image Reliable drew draws keys (applications_of script) records (standing_at old) given
      through = stop-through script old given (Serve mode calls) left next (Exceeded sum) ((over, whole), refl)

      text : old.kept ++ acts_text script old.number (acts_of old.mode old.steps) (Exceeded sum ∷ []) ≡ old.kept
      text = ap (λ a. old.kept ++ acts_text script old.number a (Exceeded sum ∷ [])) next ∙ append-nil old.kept

      one : (s : Status) → PrintsExcess failed old.held held old.kept sum s → EndsFrom of_file of_port image Reliable drew draws keys script failed old held given s
      one (OverCommitted told) x = record {
        put = old.kept;
        records = records;
        left = left;
        appended = x.1;
        begins = ([], text ∙ sym (append-nil old.kept));
        front = next;
        goes = through;
        cause = (sym text, ap (λ n. Some (Exceeded n)) (sym x.0));
      }
      one WriteFault x = record {
        put = x.1.0;
        records = records;
        left = left;
        appended = x.1.1;
        begins = (x.1.2.0, text ∙ sym (append-nil old.kept) ∙ x.1.2.1);
        front = next;
        goes = through;
        cause = (x.0, tt);
      }
      one s x = absurd x

  -- the text of acts that were done could not be put
  pub EndsFrom-text : (script : ScriptValue) (failed : Type 0) (old : Point) (held : Option (List ℕ)) (given : Standing) (records : List RunRecord) (left : List Act) (status : Status) → acts_of old.mode old.steps ≡ acts_in records ++ left
      → Goes of_file of_port image Reliable keys (applications_of script) records (standing_at old) given
      → Stops old.held held old.kept (acts_text script old.number (acts_in records) (outcomes_in records)) → IsWriteError failed status → EndsFrom of_file of_port image Reliable drew draws keys script failed old held given.bench status
  EndsFrom-text script failed old held given records left status front goes stops error = one status error
    where
      apps : List (List ℕ)
      apps = applications_of script

      text : acts_text script old.number (acts_of old.mode old.steps) (outcomes_in records) ≡ acts_text script old.number (acts_in records) (outcomes_in records) ++ acts_text script (old.number + phases_in (acts_in records)) left []
      text = ap (λ acts. acts_text script old.number acts (outcomes_in records)) front ∙ ap (acts_text script old.number (acts_in records ++ left)) (sym (append-nil (outcomes_in records)))
          ∙ acts_text-append of_file of_port image Reliable keys apps script old.number records (standing_at old) given goes left []

      longer : Stops old.held held old.kept (acts_text script old.number (acts_of old.mode old.steps) (outcomes_in records))
      longer = subst (Stops old.held held old.kept) (sym text) (Stops-longer old.held held old.kept _ _ stops)

      through : GoesThrough of_file of_port image Reliable drew draws keys apps records (standing_at old) given.bench
      through = record { last = given; acts = goes-acts of_file of_port image Reliable keys apps drew draws records (standing_at old) given goes; given_is = refl }

      none : stop_of (outcomes_in records) ≡ None
      none = goes-through of_file of_port image Reliable keys apps records (standing_at old) given goes

      one : (s : Status) → IsWriteError failed s → EndsFrom of_file of_port image Reliable drew draws keys script failed old held given.bench s
      one WriteFault x = record {
        put = longer.0;
        records = records;
        left = left;
        appended = longer.1;
        begins = longer.2;
        front = front;
        goes = through;
        cause = (x, subst MayStopWriting (sym none) tt);
      }
      one NoMemory x = record {
        put = longer.0;
        records = records;
        left = left;
        appended = longer.1;
        begins = longer.2;
        front = front;
        goes = through;
        cause = subst MayWant (sym none) tt;
      }
      one status x = absurd x
