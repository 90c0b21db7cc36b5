-- A listing grows by one object at its end.
use Rattle.std.proofs.Common.{◌≡◌, ◌∙◌, ◌<◌, ℕ, List, [], ◌∷◌, ◌++◌, Option, Some, None, Result, Ok, Err, refl, sym, ap, subst, append_assoc, append-nil}
use Rattle.disk_model.specs.State.{FileState}
use Rattle.dir_records.specs.declared.entry.DirEntry.{DirEntry}
use Rattle.store_model.specs.declared.name.ObjectName.{ObjectName}
use Rattle.store_model.specs.Object.{Object, ObjectMap}
use Rattle.store_commit.specs.declared.fault.MountFault.{MountFault}
use Rattle.crash_core.specs.Entries.{name_of}
use Rattle.object_calls.specs.Next.{IsShown}
use Rattle.run_acts.specs.Lines.{object_line, objects_text}
use Rattle.run_acts.specs.LineObjects.{entry_shown, shown_line}
use Rattle.run_acts.specs.ListedObjects.{IsCutOff, IsListed, IsListedTo, ListsNext, ShownStep, ShowsAll, name_shown, objects_of}
use Rattle.run_acts.proofs.ListedEntries.{fewer_past, how_many_past}

text-more : (m : ObjectMap) (e : ObjectName × Object) → objects_text (m ++ e ∷ []) ≡ objects_text m ++ object_line e
unfolding objects_text
text-more [] e = append-nil (object_line e)
text-more (d ∷ m) e = ap (λ (t : List ℕ). object_line d ++ t) (text-more m e) ∙ sym (append_assoc (object_line d) (objects_text m) (object_line e))

objects-more : (steps : List ShownStep) (step : ShownStep) → objects_of (steps ++ step ∷ []) ≡ objects_of steps ++ entry_shown step.shown ∷ []
objects-more [] step = refl
objects-more (s ∷ steps) step = ap (λ (m : ObjectMap). entry_shown s.shown ∷ m) (objects-more steps step)

module _ (entries : List (Option DirEntry)) (key : List ℕ) where
  shows-more : (after : Option ObjectName) (files : ℕ → FileState) (steps : List ShownStep) (last : Option ObjectName) (left : ℕ → FileState) (step : ShownStep)
      → ShowsAll entries key after files steps last left → IsShown entries last key left step.files step.shown
      → ShowsAll entries key after files (steps ++ step ∷ []) (Some (name_shown step.shown)) step.files
  shows-more after files [] last left step none shown =
      let same : left ≡ files = λ i file. none.1 file i in (
        subst (λ (f : ℕ → FileState). IsShown entries after key f step.files step.shown) same
            (subst (λ (a : Option ObjectName). IsShown entries a key left step.files step.shown) none.0 shown),
        (refl, λ file. refl),
      )
  shows-more after files (s ∷ steps) last left step shows shown =
      (shows.0, shows-more (Some (name_shown s.shown)) s.files steps last left step shows.1 shown)

  shows-same : (after : Option ObjectName) (files : ℕ → FileState) (steps : List ShownStep) (last : Option ObjectName) (left next : ℕ → FileState) → ((file : ℕ) → next file ≡ left file)
      → ShowsAll entries key after files steps last left → ShowsAll entries key after files steps last next
  shows-same after files steps last left next same shows = let is : left ≡ next = λ i file. (sym (same file)) i in subst (ShowsAll entries key after files steps last) is shows

  pub listed_none : (files : ℕ → FileState) (lines : List ℕ) → lines ≡ [] → IsListedTo entries key files None files lines
  unfolding objects_text
  listed_none files lines empty = record { steps = []; shows = (refl, λ file. refl); lines_are = empty }

  module _ (files left : ℕ → FileState) (last : Option ObjectName) (lines : List ℕ) (listed : IsListedTo entries key files last left lines) (next : ℕ → FileState) (text : List ℕ) where
    pub listed_next : (name : ObjectName) → ListsNext entries key last left next lines text (Ok (Some name)) → IsListedTo entries key files (Some name) next text
    listed_next name answer =
        let step : ShownStep = record { shown = answer.0; files = next } in
        subst (λ (n : ObjectName). IsListedTo entries key files (Some n) next text) (sym answer.2) (record {
          steps = listed.steps ++ step ∷ [];
          shows = shows-more None files listed.steps last left step listed.shows answer.1;
          lines_are = answer.3 ∙ ap (λ (t : List ℕ). t ++ shown_line answer.0) listed.lines_are
              ∙ sym (ap objects_text (objects-more listed.steps step) ∙ text-more (objects_of listed.steps) (entry_shown answer.0));
        })

    pub listed_whole : ListsNext entries key last left next lines text (Ok None) → IsListed entries key files next text
    listed_whole answer = record {
      last = last;
      listed = record {
        steps = listed.steps;
        shows = shows-same None files listed.steps last left next answer.1 listed.shows;
        lines_are = answer.2 ∙ listed.lines_are;
      };
      whole = answer.0;
    }

    pub listed_cut : (fault : MountFault) → ListsNext entries key last left next lines text (Err fault) → IsCutOff entries key files next fault
    listed_cut fault answer = record { last = last; between = left; lines = lines; listed = listed; why = answer }

    pub listed_fewer : (name : ObjectName) → ListsNext entries key last left next lines text (Ok (Some name)) → how_many_past (Some name) entries < how_many_past last entries
    listed_fewer name answer =
        let shown = answer.1 in
        let named : name ≡ name_of shown.entry = answer.2 ∙ (λ i. record { app = shown.app i; id = shown.id i }) in
        subst (λ (n : ObjectName). how_many_past (Some n) entries < how_many_past last entries) (sym named) (fewer_past last shown.entry shown.next.past entries shown.next.index shown.next.at)

-- what the listing of one object answers, by other names of its entries, key and result
pub next_at : (E E0 : List (Option DirEntry)) (K K0 : List ℕ) (after : Option ObjectName) (old new : ℕ → FileState) (before text : List ℕ) (r r0 : Result (Option ObjectName) MountFault)
    → E ≡ E0 → K ≡ K0 → r ≡ r0 → ListsNext E K after old new before text r → ListsNext E0 K0 after old new before text r0
next_at E E0 K K0 after old new before text r r0 p q s answer =
    subst (λ (x : Result (Option ObjectName) MountFault). ListsNext E0 K0 after old new before text x) s
    (subst (λ (k : List ℕ). ListsNext E0 k after old new before text r) q
    (subst (λ (e : List (Option DirEntry)). ListsNext e K after old new before text r) p answer))

pub fewer_at : (E E0 E1 : List (Option DirEntry)) (last : Option ObjectName) (name : ObjectName) → E ≡ E0 → E1 ≡ E0 → how_many_past (Some name) E0 < how_many_past last E0
    → how_many_past (Some name) E1 < how_many_past last E
fewer_at E E0 E1 last name p q fewer =
    subst (λ (e : List (Option DirEntry)). how_many_past (Some name) E1 < how_many_past last e) (sym p)
    (subst (λ (e : List (Option DirEntry)). how_many_past (Some name) e < how_many_past last E0) (sym q) fewer)
