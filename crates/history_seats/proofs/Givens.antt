-- What a slot's view tells of its file after the whole history.
use Rattle.std.proofs.Common.{◌≡◌, ℕ, suc, ◌+◌, ◌<◌, ◌≤◌, List, [], ◌∷◌, ◌++◌, length, Bool, true, false, true≢false, cond, not, ◌&&◌, Option, Some, None, refl, sym, ap, ◌∙◌, subst, inl, inr, ⊎_elim, arith, length-append, append_assoc}
use Rattle.std.proofs.lemmas.Bool.{lt-ltb, le-leb}
use Rattle.std.proofs.lemmas.List.Sums.{fold-append}
use Rattle.std.specs.Prelude.{nat_le, slice_index_or}
use Rattle.std.specs.List.{list_any, fold}
use Rattle.std.specs.Option.{option_map}
use Rattle.store_model.specs.declared.event.Event.{Event}
use Rattle.store_model.specs.declared.event.Event.TheVariants.{Call as CallEvent, Landed}
use Rattle.store_model.specs.declared.event.Mark.{Mark}
use Rattle.store_model.specs.declared.event.Mark.TheVariants.{Unchanged, Made, Doubtful}
use Rattle.store_model.specs.Record.{Tag, concerns_file, events_of, is_file}
use Rattle.history_seats.specs.Records.{Version, HistoryRecord, IsUpToDate, concerns_object, is_object}
use Rattle.history_seats.specs.Settling.{Pending, as_landed, settled_by_mark, settled_by, settles, is_landing, is_doubtful, HasMark, is_doubtful_mark, settling, settled, is_early, IsDecidedBelow, IsOpenDoubt}
use Rattle.history_seats.specs.Mounts.{Entry, Mounted}
use Rattle.history_seats.specs.Versions.{mounted_version, version_after, version_next, version_of}
use Rattle.history_seats.specs.Directory.{entries_committed, entries_marked, entries_after, entries_next, mounted_entries, directory_of, has_entry, given_version}
use Rattle.history_seats.specs.VersionLaws.{IsGiven}
use Rattle.history_seats.proofs.Lists.{either_bool, neither}
use Rattle.history_seats.proofs.Parts.{settled-all, part-kept}
use Rattle.history_seats.proofs.DoubtedEntries.{has_committed}

-- a tag that names another file names another object
other-tag : (file generation : ℕ) (tag : Option (Tag Version)) → is_file file (option_map (λ t. t.file) tag) ≡ false → is_object file generation tag ≡ false
other-tag file generation None e = refl
other-tag file generation (Some tag) e = rw e refl

pub other-object : (file generation : ℕ) (r : HistoryRecord) → concerns_file file r ≡ false → concerns_object file generation r ≡ false
other-object file generation r e = other-tag file generation r.tag e

-- records whose tags do not name the object
version-past : (file generation : ℕ) (those : HistoryRecord → Bool) → ((r : HistoryRecord) → those r ≡ false → concerns_object file generation r ≡ false)
    → (p : Pending (Option Version)) (records : List HistoryRecord) → list_any those records ≡ false
    → fold (version_next file generation) p records ≡ settled (settling records) p
version-past file generation those other p records lacks =
    part-kept (version_next file generation) (λ q. q) those (λ q rs. Unit {0})
    (λ q r rs fine off. ap (λ (b : Bool). cond b (version_after r.event r.tag q) (settled_by r.event q)) (other r off))
    (λ q r rs fine. tt) p records tt lacks

pub version-last : (file generation : ℕ) (mounted : Mounted) (front back : List HistoryRecord) (r : HistoryRecord) → concerns_object file generation r ≡ true
    → list_any (concerns_object file generation) back ≡ false
    → version_of file generation mounted (front ++ r ∷ back) ≡ settled (settling back) (version_after r.event r.tag (version_of file generation mounted front))
version-last file generation mounted front back r own lacks =
    let known = version_of file generation mounted front in
    fold-append (version_next file generation) (mounted_version file generation mounted) front (r ∷ back)
    ∙ version-past file generation (concerns_object file generation) (λ x e. e) (version_next file generation known r) back lacks
    ∙ ap (λ (b : Bool). settled (settling back) (cond b (version_after r.event r.tag known) (settled_by r.event known))) own

pub version-whole : (file generation : ℕ) (mounted : Mounted) (seen whole : List HistoryRecord) (b : IsUpToDate (concerns_file file) seen whole)
    → version_of file generation mounted whole ≡ settled (settling b.rest) (version_of file generation mounted seen)
version-whole file generation mounted seen whole b =
    ap (fold (version_next file generation) (mounted_version file generation mounted)) (sym b.is)
    ∙ fold-append (version_next file generation) (mounted_version file generation mounted) seen b.rest
    ∙ version-past file generation (concerns_file file) (λ r off. other-object file generation r off) (version_of file generation mounted seen) b.rest b.lacks

-- no entry of the file is in the first that is not in the second, now or once the doubt landed
record IsWithin (file generation : ℕ) (p q : Pending (List Entry)) : Type 0 where
  pub now : has_entry file generation p.now ≡ true → has_entry file generation q.now ≡ true
  pub then : has_entry file generation (as_landed p).now ≡ true → has_entry file generation (as_landed q).now ≡ true

within-next : (file generation : ℕ) (applications : List (List ℕ)) (p q : Pending (List Entry)) (r : HistoryRecord) → concerns_file file r ≡ false → IsWithin file generation p q
    → IsWithin file generation (entries_next applications p r) (settled_by r.event q)
within-next file generation applications p q r off w = one r.event
  where
    marked : (m : Mark) (committed : List Entry) → (has_entry file generation committed ≡ true → has_entry file generation p.now ≡ true) → IsWithin file generation (entries_marked m committed p) (settled_by_mark m q)
    marked Unchanged committed none = w
    marked (Made commit) committed none = record { now = λ h. w.now (none h); then = λ h. w.now (none h) }
    marked (Doubtful commit) committed none = record { now = w.now; then = λ h. w.now (none h) }

    one : (event : Event) → IsWithin file generation (entries_after applications event r.tag p) (settled_by event q)
    one (CallEvent session number call reply mark) =
        marked mark (entries_committed (slice_index_or applications session []) call r.tag p.now) (has_committed file generation (slice_index_or applications session []) call r.tag p.now (other-object file generation r off))
    one (Landed commit) = record { now = w.then; then = w.then }

within-rest : (file generation : ℕ) (applications : List (List ℕ)) (p q : Pending (List Entry)) (records : List HistoryRecord) → list_any (concerns_file file) records ≡ false → IsWithin file generation p q
    → IsWithin file generation (fold (entries_next applications) p records) (fold (λ x r. settled_by r.event x) q records)
within-rest file generation applications p q [] lacks w = w
within-rest file generation applications p q (r ∷ records) lacks w =
    let off = neither (concerns_file file r) (list_any (concerns_file file) records) lacks in
    within-rest file generation applications (entries_next applications p r) (settled_by r.event q) records off.1 (within-next file generation applications p q r off.0 w)

-- an entry of the file after the whole history is one that the beginning tells
pub entry-whole : (file generation : ℕ) (mounted : Mounted) (seen whole : List HistoryRecord) (b : IsUpToDate (concerns_file file) seen whole)
    → has_entry file generation (directory_of mounted whole).now ≡ true
    → has_entry file generation (settled (settling b.rest) (directory_of mounted seen)).now ≡ true
entry-whole file generation mounted seen whole b h =
    let known = directory_of mounted seen in
    let parts : directory_of mounted whole ≡ fold (entries_next mounted.applications) known b.rest =
    ap (fold (entries_next mounted.applications) (mounted_entries mounted)) (sym b.is) ∙ fold-append (entries_next mounted.applications) (mounted_entries mounted) seen b.rest in
    let within = within-rest file generation mounted.applications known known b.rest b.lacks (record { now = λ x. x; then = λ x. x }) in
    sym (ap (λ (x : Pending (List Entry)). has_entry file generation x.now) (settled-all known b.rest))
    ∙ within.now (sym (ap (λ (x : Pending (List Entry)). has_entry file generation x.now) parts) ∙ h)

pub given-whole : (file generation : ℕ) (mounted : Mounted) (seen whole : List HistoryRecord) (b : IsUpToDate (concerns_file file) seen whole)
    → IsGiven (settled (settling b.rest) (version_of file generation mounted seen)).now (settled (settling b.rest) (directory_of mounted seen)).now file generation (given_version mounted whole file generation)
given-whole file generation mounted seen whole b = record {
  version = ⊎_elim
      (λ (y : has_entry file generation (directory_of mounted whole).now ≡ true). inr (rw y (ap (λ (x : Pending (Option Version)). x.now) (version-whole file generation mounted seen whole b))))
      (λ (y : has_entry file generation (directory_of mounted whole).now ≡ false). inl (rw y refl))
      (either_bool (has_entry file generation (directory_of mounted whole).now));
  nothing = λ none. ⊎_elim
      (λ (y : has_entry file generation (directory_of mounted whole).now ≡ true). absurd (true≢false (sym (entry-whole file generation mounted seen whole b y) ∙ none)))
      (λ (y : has_entry file generation (directory_of mounted whole).now ≡ false). rw y refl)
      (either_bool (has_entry file generation (directory_of mounted whole).now));
}

-- what is early for a doubtful event stays so past the events that do not settle it
below-at : (z k : ℕ) (front : List HistoryRecord) (d : HistoryRecord) (back : List HistoryRecord) → IsDecidedBelow z k (front ++ d ∷ back) → is_doubtful d.event ≡ true → k + length front < z
    → is_early z (suc (k + length front)) back ≡ true
below-at z k [] d back s is lt =
    let here : k < z = omega arith in
    subst (λ (n : ℕ). is_early z (suc n) back ≡ true) (omega arith) (s.0 is (lt-ltb k z here))
below-at z k (x ∷ front) d back s is lt =
    subst (λ (n : ℕ). is_early z (suc n) back ≡ true) (omega arith) (below-at z (suc k) front d back s.1 is (omega arith))

early-past : (z k : ℕ) (back rest : List HistoryRecord) → is_early z k (back ++ rest) ≡ true → list_any settles (events_of back) ≡ false → is_early z (k + length back) rest ≡ true
early-past z k [] rest e none = subst (λ (n : ℕ). is_early z n rest ≡ true) (omega arith) e
early-past z k (x ∷ back) rest e none =
    let off = neither (settles x.event) (list_any settles (events_of back)) none in
    let past : is_early z (suc k) (back ++ rest) ≡ true = sym (ap (λ (b : Bool). cond b (not (is_landing x.event && nat_le z k)) (is_early z (suc k) (back ++ rest))) off.0) ∙ e in
    subst (λ (n : ℕ). is_early z n rest ≡ true) (omega arith) (early-past z (suc k) back rest past off.1)

none-lands : (z k : ℕ) (rest : List HistoryRecord) → z ≤ k → is_early z k rest ≡ true → (event : Event) → settling rest ≡ Some event → is_landing event ≡ false
none-lands z k [] le e event is = cc
none-lands z k (r ∷ rest) le e event is = one (settles r.event) (none-lands z (suc k) rest (omega arith)) e is
  where
    off : (b : Bool) → not (b && nat_le z k) ≡ true → b ≡ false
    off true h = absurd (true≢false (sym h ∙ ap (λ (c : Bool). not c) (le-leb z k le)))
    off false h = refl

    one : (b : Bool) → (is_early z (suc k) rest ≡ true → (x : Event) → settling rest ≡ Some x → is_landing x ≡ false)
        → cond b (not (is_landing r.event && nat_le z k)) (is_early z (suc k) rest) ≡ true → cond b (Some r.event) (settling rest) ≡ Some event → is_landing event ≡ false
    one true hyp h q = let same : r.event ≡ event = cc in subst (λ (x : Event). is_landing x ≡ false) same (off (is_landing r.event) h)
    one false hyp h q = hyp h event q

marked-doubtful : (commit : ℕ) (event : Event) → HasMark (Doubtful commit) event → is_doubtful event ≡ true
marked-doubtful commit (CallEvent session number call reply mark) e = ap is_doubtful_mark e
marked-doubtful commit (Landed n) e = absurd e

pub doubt-stays : (z commit : ℕ) (those : HistoryRecord → Bool) (seen whole : List HistoryRecord) (b : IsUpToDate those seen whole) (doubt : IsOpenDoubt commit 0 seen)
    → IsDecidedBelow z 0 whole → z ≤ length seen → length doubt.front < z → (event : Event) → settling b.rest ≡ Some event → is_landing event ≡ false
doubt-stays z commit those seen whole b doubt s within lt =
    let front = doubt.front in
    let back = doubt.back in
    let all : front ++ doubt.doubted ∷ (back ++ b.rest) ≡ whole =
    sym (append_assoc front (doubt.doubted ∷ back) b.rest) ∙ ap (λ (l : List HistoryRecord). l ++ b.rest) doubt.is ∙ b.is in
    let here : IsDecidedBelow z 0 (front ++ doubt.doubted ∷ (back ++ b.rest)) = subst (IsDecidedBelow z 0) (sym all) s in
    let early = below-at z 0 front doubt.doubted (back ++ b.rest) here (marked-doubtful commit doubt.doubted.event doubt.marked) (omega arith) in
    let count : length front + length (doubt.doubted ∷ back) ≡ length seen = sym (length-append front (doubt.doubted ∷ back)) ∙ ap length doubt.is in
    none-lands z (suc (0 + length front) + length back) b.rest (omega arith) (early-past z (suc (0 + length front)) back b.rest early doubt.last)

-- one more record does to the version and to the directory what it does
pub version-snoc : (file generation : ℕ) (mounted : Mounted) (records : List HistoryRecord) (r : HistoryRecord)
    → version_of file generation mounted (records ++ r ∷ []) ≡ version_next file generation (version_of file generation mounted records) r
version-snoc file generation mounted records r = fold-append (version_next file generation) (mounted_version file generation mounted) records (r ∷ [])

pub directory-snoc : (mounted : Mounted) (records : List HistoryRecord) (r : HistoryRecord)
    → directory_of mounted (records ++ r ∷ []) ≡ entries_next mounted.applications (directory_of mounted records) r
directory-snoc mounted records r = fold-append (entries_next mounted.applications) (mounted_entries mounted) records (r ∷ [])
