-- The steps of a file in memory are those of a file.
use Rattle.std.proofs.Common.{◌≡◌, ◌⊎◌, inl, inr, ⊎_elim, ℕ, ◌+◌, ◌<◌, ◌≤◌, List, [], ◌∷◌, length, min, max, Bool, true, false, IsTrue, IsSomeAnd, Option, Some, None, Contains, fold, filter, ◌==◌, if◌then◌else◌, length-append, refl, sym, ◌∙◌, ap, subst, arith}
use Rattle.std.proofs.lemmas.Bool.{cases_lt, false≢true}
use Rattle.disk_model.specs.declared.span.Change.{Change}
use Rattle.disk_model.specs.Faults.{next_count}
use Rattle.disk_model.specs.Images.{Has}
use Rattle.disk_model.specs.Bytes.{after_mask, after_write, after_resize}
use Rattle.disk_model.specs.Arms.{Arms, Taint, count_call, NamesNext, StopsNext, next_taints}
use Rattle.disk_model.specs.State.{FileState}
use Rattle.disk_model.specs.Calls.{Known, GoesOn, Changes, Rests, Syncs}
use Rattle.disk_model.specs.Keeps.{Outside}
use Rattle.disk_model.specs.Masks.{AreMasked}
use Rattle.disk_model.specs.Controls.{Stored, stored, is_struck, strike, struck}
use Rattle.disk_model.proofs.Masks.{length-masked, struck_masked}
use Rattle.disk_model.proofs.Spans.{within_span}
use Rattle.disk_model.proofs.Writes.{written_keeps, resized_keeps}
use Rattle.mem_files.specs.Held.{change_of}
use Rattle.mem_files.specs.Memory.{IsArmed}
use Rattle.mem_files.specs.Machine.{begun, wrote, resized, synced, FailsBegun, StopsWithin}

-- what masks leave of a file that is honest still
record IsStruckFrom (s t : Stored) : Type 0 where
  honest : IsTrue t.honest → IsTrue s.honest
  settled : IsTrue t.honest → t.settled ≡ s.settled
  reads : IsTrue t.honest → t.reads ≡ s.reads
  length : length t.reads ≡ length s.reads

strike_from : (s : Stored) (taint : Taint) → IsStruckFrom s (strike s taint)
strike_from s taint = elim (is_struck s taint) as (λ (b : Bool). IsStruckFrom s (if b then record {
  settled = after_mask s.settled taint.at taint.mask;
  reads = after_mask s.reads taint.at taint.mask;
  honest = false;
} else s)) [
  | true ↦ record {
    honest = λ h. absurd (false≢true h);
    settled = λ h. absurd (false≢true h);
    reads = λ h. absurd (false≢true h);
    length = length-masked s.reads taint.at taint.mask;
  }
  | false ↦ record { honest = λ h. h; settled = λ h. refl; reads = λ h. refl; length = refl }
]

struck_from : (s : Stored) (taints : List Taint) → IsStruckFrom s (fold strike s taints)
struck_from s [] = record { honest = λ h. h; settled = λ h. refl; reads = λ h. refl; length = refl }
struck_from s (taint ∷ taints) =
    let one = strike_from s taint in
    let rest = struck_from (strike s taint) taints in
    record {
      honest = λ h. one.honest (rest.honest h);
      settled = λ h. rest.settled h ∙ one.settled (rest.honest h);
      reads = λ h. rest.reads h ∙ one.reads (rest.honest h);
      length = rest.length ∙ one.length;
    }

not_named : (s : FileState) → IsArmed s → IsTrue s.calm → NamesNext s.arms → ⊥
not_named s armed calm named = ⊎_elim
    (λ stopped. no_stop s.arms.stop_after (next_count s.arms.calls) (armed.calm calm).0 stopped)
    (λ fails. none_fails s.arms.failing (next_count s.arms.calls) (armed.calm calm).1 fails)
    named
  where
    no_stop : (stop : Option ℕ) (call : ℕ) → stop ≡ None → IsSomeAnd stop (λ calls. calls < call) → ⊥
    no_stop None call is stopped = stopped
    no_stop (Some calls) call is stopped = cc

    none_fails : (failing : List ℕ) (call : ℕ) → failing ≡ [] → Contains failing call → ⊥
    none_fails [] call is fails = omega (arith, fails.1)
    none_fails (k ∷ failing) call is fails = cc

-- As a call begins.
module _ (a : FileState) (armed : IsArmed a) where
  from_struck : IsStruckFrom (stored a) (struck a)
  from_struck = struck_from (stored a) (next_taints a.arms)

  none_struck : a.arms.taints ≡ [] → struck a ≡ stored a
  none_struck none = ap (λ (taints : List Taint). fold strike (stored a) (filter (λ (taint : Taint). taint.call == next_count a.arms.calls) taints)) none

  unstruck : a.arms.taints ≡ [] → IsTrue a.honest → IsTrue (struck a).honest
  unstruck none h = subst (λ (s : Stored). IsTrue s.honest) (sym (none_struck none)) h

  pub begun_reads : IsTrue (struck a).honest ⊎ IsTrue a.steady → (struck a).reads ≡ a.reads
  begun_reads (inl honest) = from_struck.reads honest
  begun_reads (inr steady) = ap (λ (s : Stored). s.reads) (none_struck (armed.steady steady))

  -- nothing was counted as a fault
  goes_on : (reads settled : List ℕ) (trail : List Change) (from written : ℕ) → a.written ≤ written
      → GoesOn a (record (begun a) { reads = reads; settled = settled; trail = trail; pending_from = from; written = written })
  goes_on reads settled trail from written more = record {
    honest = from_struck.honest;
    stays_honest = λ tells none h. unstruck none h;
    steady = refl;
    calm = λ h. h;
    tells = refl;
    tells_arms = refl;
    arms = λ tells. record { stop_after = refl; failing = refl; taints = refl };
    faults = omega arith;
    starved = omega arith;
    quiet = λ h. inl refl;
    written = more;
  }

  -- a call that reads
  pub begun_rests : (b : FileState) → b ≡ begun a → Rests a b
  begun_rests b is = subst (λ (s : FileState). Rests a s) (sym is) (record {
    trail = refl;
    settled = from_struck.settled;
    pending_from = refl;
    reads = begun_reads;
    masked = λ tells. struck_masked a;
    written = refl;
    goes_on = goes_on (struck a).reads (struck a).settled a.trail a.pending_from a.written (omega arith);
  })

  -- a call that failed
  pub fails_rests : (b : FileState) (count : ℕ) → FailsBegun a b count → Rests a b
  fails_rests b count fails = record {
    trail = ap (λ (s : FileState). s.trail) fails.same;
    settled = λ h. ap (λ (s : FileState). s.settled) fails.same ∙ from_struck.settled (was_honest h);
    pending_from = ap (λ (s : FileState). s.pending_from) fails.same;
    reads = λ known. ap (λ (s : FileState). s.reads) fails.same ∙ begun_reads (was_known known);
    masked = λ tells. subst (AreMasked a.arms a.reads) (sym (ap (λ (s : FileState). s.reads) fails.same)) (struck_masked a);
    written = ap (λ (s : FileState). s.written) fails.same;
    goes_on = record {
      honest = λ h. from_struck.honest (was_honest h);
      stays_honest = λ tells none h. subst (λ (x : Bool). IsTrue x) (sym (ap (λ (s : FileState). s.honest) fails.same)) (unstruck none h);
      steady = ap (λ (s : FileState). s.steady) fails.same;
      calm = λ h. subst (λ (x : Bool). IsTrue x) (sym (ap (λ (s : FileState). s.calm) fails.same)) h;
      tells = ap (λ (s : FileState). s.tells) fails.same;
      tells_arms = ap (λ (s : FileState). s.tells_arms) fails.same;
      arms = λ tells. let same : b.arms ≡ count_call a.arms = ap (λ (s : FileState). s.arms) fails.same in
          record { stop_after = ap (λ (x : Arms). x.stop_after) same; failing = ap (λ (x : Arms). x.failing) same; taints = ap (λ (x : Arms). x.taints) same };
      faults = fails.faults;
      starved = fails.starved;
      quiet = λ calm. inr (elim fails.cause [ inl named ↦ absurd (not_named a armed calm named.0) | inr memory ↦ omega (arith, memory.1) ]);
      written = omega (arith, ap (λ (s : FileState). s.written) fails.same);
    };
  }
    where
      was_honest : IsTrue b.honest → IsTrue (struck a).honest
      was_honest h = subst (λ (x : Bool). IsTrue x) (ap (λ (s : FileState). s.honest) fails.same) h

      was_known : Known a b → IsTrue (struck a).honest ⊎ IsTrue a.steady
      was_known (inl honest) = inl (was_honest honest)
      was_known (inr steady) = inr steady

  pub fails_changes : (b : FileState) (count from upto : ℕ) → FailsBegun a b count → Changes from upto a b
  fails_changes b count from upto fails = let rests = fails_rests b count fails in record { trail = inl rests.trail; settled = rests.settled; pending_from = rests.pending_from; goes_on = rests.goes_on }

  pub fails_others : (b : FileState) (count : ℕ) → FailsBegun a b count → Known a b → (place byte : ℕ) → Has a.reads place byte → Has b.reads place byte
  fails_others b count fails known place byte has = subst (λ (l : List ℕ). Has l place byte) (sym ((fails_rests b count fails).reads known)) has

  pub fails_others_struck : (b : FileState) (count : ℕ) → FailsBegun a b count → (place byte : ℕ) → Has (struck a).reads place byte → Has b.reads place byte
  fails_others_struck b count fails place byte has = subst (λ (l : List ℕ). Has l place byte) (sym (ap (λ (s : FileState). s.reads) fails.same)) has

  known_struck : (b : FileState) → (IsTrue b.honest → IsTrue (struck a).honest) → Known a b → IsTrue (struck a).honest ⊎ IsTrue a.steady
  known_struck b back (inl honest) = inl (back honest)
  known_struck b back (inr steady) = inr steady

  -- a write that succeeded
  module _ (b c : FileState) (at : ℕ) (bytes : List ℕ) (begins : b ≡ begun a) (is : c ≡ wrote b at bytes) where
    wrote_begun : c ≡ wrote (begun a) at bytes
    wrote_begun = is ∙ ap (λ (s : FileState). wrote s at bytes) begins

    pub wrote_changes : b.written ≤ c.written → Changes at (at + length bytes) a c
    wrote_changes more = subst (λ (s : FileState). Changes at (at + length bytes) a s) (sym wrote_begun) (record {
      trail = inr (record {
        change = change_of a.pending_from (min at (length (struck a).reads)) (at + length bytes);
        trail = refl;
        base = refl;
        within = λ place hit.
            let both = within_span (change_of a.pending_from (min at (length (struck a).reads)) (at + length bytes)).span place hit in
            ⊎_elim (λ low. inr (omega (arith, both.0, low, from_struck.length))) (λ high. inl (high, omega (arith, both.1, high))) (cases_lt place at);
      });
      settled = from_struck.settled;
      pending_from = refl;
      goes_on = goes_on (after_write (struck a).reads at bytes) (struck a).settled (wrote (begun a) at bytes).trail a.pending_from (wrote (begun a) at bytes).written
          (omega (arith, more, ap (λ (s : FileState). s.written) begins, ap (λ (s : FileState). s.written) wrote_begun));
    })

    pub wrote_reads : Known a c → c.reads ≡ after_write a.reads at bytes
    wrote_reads known = ap (λ (s : FileState). s.reads) wrote_begun
        ∙ ap (λ (l : List ℕ). after_write l at bytes) (begun_reads (known_struck c (λ h. subst (λ (x : Bool). IsTrue x) (ap (λ (s : FileState). s.honest) wrote_begun) h) known))

    pub wrote_others : Known a c → (place byte : ℕ) → Outside at (at + length bytes) place → Has a.reads place byte → Has c.reads place byte
    wrote_others known place byte out has = subst (λ (l : List ℕ). Has l place byte) (sym (wrote_reads known)) (written_keeps a.reads at bytes place byte out has)

    pub wrote_others_struck : (place byte : ℕ) → Outside at (at + length bytes) place → Has (struck a).reads place byte → Has c.reads place byte
    wrote_others_struck place byte out has = subst (λ (l : List ℕ). Has l place byte) (sym (ap (λ (s : FileState). s.reads) wrote_begun)) (written_keeps (struck a).reads at bytes place byte out has)

  -- a change of the length that succeeded
  module _ (b c : FileState) (size : ℕ) (begins : b ≡ begun a) (is : c ≡ resized b size) where
    resized_begun : c ≡ resized (begun a) size
    resized_begun = is ∙ ap (λ (s : FileState). resized s size) begins

    pub resized_changes : Changes size (length a.reads) a c
    resized_changes = subst (λ (s : FileState). Changes size (length a.reads) a s) (sym resized_begun) (record {
      trail = inr (record {
        change = change_of a.pending_from (min size (length (struck a).reads)) (max size (length (struck a).reads));
        trail = refl;
        base = refl;
        within = λ place hit.
            let both = within_span (change_of a.pending_from (min size (length (struck a).reads)) (max size (length (struck a).reads))).span place hit in
            ⊎_elim (λ low. inl (omega (arith, both.0, both.1, low, from_struck.length), low)) (λ high. inr high) (cases_lt place (length a.reads));
      });
      settled = from_struck.settled;
      pending_from = refl;
      goes_on = goes_on (after_resize (struck a).reads size) (struck a).settled (resized (begun a) size).trail a.pending_from a.written (omega arith);
    })

    pub resized_reads : Known a c → c.reads ≡ after_resize a.reads size
    resized_reads known = ap (λ (s : FileState). s.reads) resized_begun
        ∙ ap (λ (l : List ℕ). after_resize l size) (begun_reads (known_struck c (λ h. subst (λ (x : Bool). IsTrue x) (ap (λ (s : FileState). s.honest) resized_begun) h) known))

    pub resized_others : Known a c → (place byte : ℕ) → Outside size (length a.reads) place → Has a.reads place byte → Has c.reads place byte
    resized_others known place byte out has = subst (λ (l : List ℕ). Has l place byte) (sym (resized_reads known)) (resized_keeps a.reads size place byte (⊎_elim (λ low. low) (λ high. omega (arith, high, has.below)) out) has)

    pub resized_others_struck : (place byte : ℕ) → Outside size (length a.reads) place → Has (struck a).reads place byte → Has c.reads place byte
    resized_others_struck place byte out has = subst (λ (l : List ℕ). Has l place byte) (sym (ap (λ (s : FileState). s.reads) resized_begun))
        (resized_keeps (struck a).reads size place byte (⊎_elim (λ low. low) (λ high. omega (arith, high, has.below, from_struck.length)) out) has)

  -- a sync that succeeded
  pub synced_syncs : (b c : FileState) → b ≡ begun a → c ≡ synced b → Syncs a c
  synced_syncs b c begins is = subst (λ (s : FileState). Syncs a s) (sym (is ∙ ap synced begins)) (record {
    trail = record { change = change_of a.pending_from 0 0; trail = refl; base = refl; within = λ place hit. let both = within_span (change_of a.pending_from 0 0).span place hit in omega (arith, both.1) };
    settled = λ honest. refl;
    pending_from = sym (length-append a.trail (change_of a.pending_from 0 0 ∷ []));
    reads = λ known. begun_reads (known_struck (synced (begun a)) (λ h. h) known);
    struck = λ tells. refl;
    written = refl;
    goes_on = goes_on (struck a).reads (struck a).reads (synced (begun a)).trail (synced (begun a)).pending_from a.written (omega arith);
  })

-- a call that found no memory failed as one that was set to fail does
pub starved_fails : (a b c d : FileState) → (b ≡ begun a) × (NamesNext a.arms → ⊥) → c ≡ b
    → d ≡ record c { faults = next_count c.faults; starved = next_count c.starved } → (c.faults ≤ d.faults) × (c.starved ≤ d.starved)
    → FailsBegun a d d.faults
starved_fails a b c d begins same counted rises =
    let is : c ≡ begun a = same ∙ begins.0 in
    let is_faults : c.faults ≡ a.faults = ap (λ (s : FileState). s.faults) is in
    let is_starved : c.starved ≡ a.starved = ap (λ (s : FileState). s.starved) is in
    let more : d.starved ≡ next_count c.starved = ap (λ (s : FileState). s.starved) counted in
    record {
      same = counted ∙ ap (λ (s : FileState). record s { faults = next_count s.faults; starved = next_count c.starved }) is ∙ ap (λ (n : ℕ). record (begun a) { faults = next_count a.faults; starved = n }) (sym more);
      carried = refl;
      faults = omega (arith, rises.0, is_faults);
      starved = omega (arith, rises.1, is_starved);
      cause = inr (begins.1, more ∙ ap next_count is_starved);
    }

-- a device that stops at the next call is set to fail it
pub stops_named : (arms : Arms) → StopsNext arms → NamesNext arms
stops_named arms stops = inl (past arms.stop_after stops.0)
  where
    past : (stop : Option ℕ) → IsSomeAnd stop (λ calls. calls + 1 ≡ next_count arms.calls) → IsSomeAnd stop (λ calls. calls < next_count arms.calls)
    past None is = is
    past (Some calls) is = omega (arith, is)

-- A write within which the device stopped.
module _ (a : FileState) (armed : IsArmed a) (d : FileState) (at : ℕ) (bytes : List ℕ) (count : ℕ) (stops : StopsWithin a d at bytes count) where
  abbrev left : FileState
  left = stops.left

  left_changes : Changes at (at + length bytes) a left
  left_changes = elim stops.either [
    | inl wrote_it ↦ wrote_changes a armed (begun a) left at bytes refl wrote_it stops.written
    | inr nothing ↦ let rests = begun_rests a armed left nothing in record { trail = inl rests.trail; settled = rests.settled; pending_from = rests.pending_from; goes_on = rests.goes_on }
  ]

  stopped_calm : IsTrue a.calm → ⊥
  stopped_calm calm = not_named a armed calm (stops_named a.arms stops.stops)

  pub stopped_changes : Changes at (at + length bytes) a d
  stopped_changes = subst (λ (s : FileState). Changes at (at + length bytes) a s) (sym stops.same) (record {
    trail = elim left_changes.trail [ inl same ↦ inl same | inr adds ↦ inr (record { change = adds.change; trail = adds.trail; base = adds.base; within = adds.within }) ];
    settled = left_changes.settled;
    pending_from = left_changes.pending_from;
    goes_on = record {
      honest = left_changes.goes_on.honest;
      stays_honest = left_changes.goes_on.stays_honest;
      steady = left_changes.goes_on.steady;
      calm = left_changes.goes_on.calm;
      tells = left_changes.goes_on.tells;
      tells_arms = left_changes.goes_on.tells_arms;
      arms = left_changes.goes_on.arms;
      faults = omega (arith, left_changes.goes_on.faults, stops.faults, ap (λ (s : FileState). s.faults) stops.same);
      starved = left_changes.goes_on.starved;
      quiet = λ calm. absurd (stopped_calm calm);
      written = left_changes.goes_on.written;
    };
  })

  pub stopped_others : Known a d → (place byte : ℕ) → Outside at (at + length bytes) place → Has a.reads place byte → Has d.reads place byte
  stopped_others known place byte out has = subst (λ (l : List ℕ). Has l place byte) (sym (ap (λ (s : FileState). s.reads) stops.same)) (elim stops.either [
    | inl wrote_it ↦ wrote_others a armed (begun a) left at bytes refl wrote_it known_left place byte out has
    | inr nothing ↦ subst (λ (l : List ℕ). Has l place byte) (sym ((begun_rests a armed left nothing).reads known_left)) has
  ])
    where
      known_left : Known a left
      known_left = known_by known
        where
          known_by : Known a d → Known a left
          known_by (inl honest) = inl (subst (λ (x : Bool). IsTrue x) (ap (λ (s : FileState). s.honest) stops.same) honest)
          known_by (inr steady) = inr steady

  pub stopped_others_struck : (place byte : ℕ) → Outside at (at + length bytes) place → Has (struck a).reads place byte → Has d.reads place byte
  stopped_others_struck place byte out has = subst (λ (l : List ℕ). Has l place byte) (sym (ap (λ (s : FileState). s.reads) stops.same)) (elim stops.either [
    | inl wrote_it ↦ wrote_others_struck a armed (begun a) left at bytes refl wrote_it place byte out has
    | inr nothing ↦ subst (λ (l : List ℕ). Has l place byte) (sym (ap (λ (s : FileState). s.reads) nothing)) has
  ])
