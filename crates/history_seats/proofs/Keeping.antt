-- What each step keeps of the rule: the views that it leaves as they are.
use Rattle.std.proofs.Common.{◌≡◌, ◌≢◌, ℕ, zero, suc, ◌+◌, ◌%◌, ◌^◌, ◌<◌, ◌≤◌, List, [], ◌∷◌, ◌++◌, length, set, get_or, Bool, true≢false, Option, Some, None, refl, sym, ap, subst, ⊎_elim, arith, length-append, length-set}
use Rattle.std.specs.Prelude.{unwrap_or}
use mathlib.Core.Option.{some, some-ne-none, some-injective}
use lib.ListN.{get_elem?}
use Rattle.atomic_table.proofs.Lists.{at_set}
use Rattle.std.proofs.lemmas.List.Elements.{All-nil}
use Rattle.store_model.specs.Record.{concerns_file}
use Rattle.history_seats.specs.Records.{HistoryRecord, IsUpToDate, is_of_session}
use Rattle.history_seats.specs.Settling.{IsDecidedBelow}
use Rattle.history_seats.specs.Tags.{HasDueTag}
use Rattle.history_seats.specs.Views.{GateView, SlotView, PassView, Joined, SeatView, alone, new_gate}
use Rattle.history_seats.specs.Views.SeatView.{Gate, Slot, Pass, Half, Kept, Spent}
use Rattle.history_seats.specs.Rule.{HasSeen, SlotFits, PassFits, IsCut, Fits, Holds, SeatRule}
use Rattle.history_seats.proofs.Lists.{at_snoc, no_some}
use Rattle.history_seats.proofs.Prefixes.{begins-whole}

-- the rule, read at the gate's own view
pub at_gate : (words : List ℕ) (views : List SeatView) (id : ℕ) (j : Joined) → SeatRule words views → get_elem? views id ≡ some (Gate j)
    → (slot_at : ℕ → Option ℕ) × (pass_at : ℕ → Option ℕ) × (kept_at : ℕ → Option ℕ) × Holds j id slot_at pass_at kept_at words views
at_gate words views id j k at =
    let same = k.5.fit id (Gate j) at in
    (k.2, k.3, k.4, subst (λ (y : ℕ × Joined). Holds y.1 y.0 k.2 k.3 k.4 words views) (λ i. (sym same.0 i, sym same.1 i)) k.5)

-- a view that is not the gate's, where the gate's changes and seats move
pub others : (j k : Joined) (id : ℕ) (sa sb pa pb ka : ℕ → Option ℕ) (seat : ℕ) (v : SeatView) → seat ≢ id
    → ((s : SlotView) → sa s.file ≡ Some seat → SlotFits j.gate s → (sb s.file ≡ Some seat) × SlotFits k.gate s)
    → ((p : PassView) → pa p.session ≡ Some seat → PassFits j.gate p → (pb p.session ≡ Some seat) × PassFits k.gate p)
    → ((p : PassView) → ka p.session ≡ Some seat → PassFits j.gate p → PassFits k.gate p)
    → Fits j id sa pa ka seat v → Fits k id sb pb ka seat v
others j k id sa sb pa pb ka seat (Gate x) apart slots passes halves f = absurd (apart f.0)
others j k id sa sb pa pb ka seat (Slot s) apart slots passes halves f = slots s f.0 f.1
others j k id sa sb pa pb ka seat (Pass p) apart slots passes halves f = let q = passes p f.0 f.2 in (q.0, f.1, q.1)
others j k id sa sb pa pb ka seat (Half p) apart slots passes halves f = let q = passes p f.0 f.2 in (q.0, f.1, q.1)
others j k id sa sb pa pb ka seat (Kept p) apart slots passes halves f = (f.0, halves p f.0 f.1)
others j k id sa sb pa pb ka seat Spent apart slots passes halves f = tt

-- the same where kept halves move, and the gate's view of the history stays
pub halves_move : (j k : Joined) (id : ℕ) (sa pa ka kb : ℕ → Option ℕ) (seat : ℕ) (v : SeatView) → k.gate ≡ j.gate → seat ≢ id
    → ((p : PassView) → pa p.session ≡ Some seat → ka p.session ≡ None → kb p.session ≡ None)
    → ((p : PassView) → pa p.session ≡ Some seat → IsCut ka p.session → IsCut kb p.session)
    → ((p : PassView) → ka p.session ≡ Some seat → kb p.session ≡ Some seat)
    → Fits j id sa pa ka seat v → Fits k id sa pa kb seat v
halves_move j k id sa pa ka kb seat (Gate x) same apart whole cut kept f = absurd (apart f.0)
halves_move j k id sa pa ka kb seat (Slot s) same apart whole cut kept f = (f.0, subst (λ g. SlotFits g s) (sym same) f.1)
halves_move j k id sa pa ka kb seat (Pass p) same apart whole cut kept f = (f.0, whole p f.0 f.1, subst (λ g. PassFits g p) (sym same) f.2)
halves_move j k id sa pa ka kb seat (Half p) same apart whole cut kept f = (f.0, cut p f.0 f.1, subst (λ g. PassFits g p) (sym same) f.2)
halves_move j k id sa pa ka kb seat (Kept p) same apart whole cut kept f = (kept p f.0, subst (λ g. PassFits g p) (sym same) f.1)
halves_move j k id sa pa ka kb seat Spent same apart whole cut kept f = tt

-- one view is set, and a fact holds of each
pub set_each : (views : List SeatView) (id : ℕ) (w : SeatView) (P : ℕ → SeatView → Type 0)
    → ((seat : ℕ) (v : SeatView) → seat ≢ id → get_elem? views seat ≡ some v → P seat v) → P id w
    → (seat : ℕ) (v : SeatView) → get_elem? (set views id w) seat ≡ some v → P seat v
set_each views id w P rest mine seat v e =
    ⊎_elim
    (λ (x : (seat ≡ id) × (w ≡ v)). subst (λ (y : ℕ × SeatView). P y.0 y.1) (λ i. (sym x.0 i, x.1 i)) mine)
    (λ (x : (seat ≢ id) × (get_elem? views seat ≡ some v)). rest seat v x.0 x.1)
    (at_set views id seat w v e)

-- one view comes behind the others
pub snoc_each : (views : List SeatView) (w : SeatView) (P : ℕ → SeatView → Type 0)
    → ((seat : ℕ) (v : SeatView) → get_elem? views seat ≡ some v → P seat v) → P (length views) w
    → (seat : ℕ) (v : SeatView) → get_elem? (views ++ w ∷ []) seat ≡ some v → P seat v
snoc_each views w P rest mine seat v e =
    ⊎_elim
    (λ (x : get_elem? views seat ≡ some v). rest seat v x)
    (λ (x : (seat ≡ length views) × (w ≡ v)). subst (λ (y : ℕ × SeatView). P y.0 y.1) (λ i. (sym x.0 i, x.1 i)) mine)
    (at_snoc views w v seat e)

-- the gate's view is set, and seats stay where they are
pub in_place : (j k : Joined) (id : ℕ) (sa pa ka : ℕ → Option ℕ) (words : List ℕ) (views : List SeatView) → Holds j id sa pa ka words views
    → ((s : SlotView) (seat : ℕ) → sa s.file ≡ Some seat → SlotFits j.gate s → SlotFits k.gate s)
    → ((p : PassView) (seat : ℕ) → pa p.session ≡ Some seat → PassFits j.gate p → PassFits k.gate p)
    → ((p : PassView) (seat : ℕ) → ka p.session ≡ Some seat → PassFits j.gate p → PassFits k.gate p)
    → (seat : ℕ) (v : SeatView) → get_elem? (set views id (Gate k)) seat ≡ some v → Fits k id sa pa ka seat v
in_place j k id sa pa ka words views h slots passes halves =
    set_each views id (Gate k) (Fits k id sa pa ka)
    (λ seat v apart e. others j k id sa sa pa pa ka seat v apart (λ s out f. (out, slots s seat out f)) (λ p out f. (out, passes p seat out f)) (λ p out f. halves p seat out f) (h.fit seat v e))
    (refl, refl)

-- the gate's view is set, and a new seat comes
pub and_new : (j k : Joined) (id : ℕ) (w : SeatView) (sa sb pa pb ka : ℕ → Option ℕ) (words : List ℕ) (views : List SeatView) → Holds j id sa pa ka words views
    → ((s : SlotView) (seat : ℕ) → sa s.file ≡ Some seat → SlotFits j.gate s → (sb s.file ≡ Some seat) × SlotFits k.gate s)
    → ((p : PassView) (seat : ℕ) → pa p.session ≡ Some seat → PassFits j.gate p → (pb p.session ≡ Some seat) × PassFits k.gate p)
    → ((p : PassView) → PassFits j.gate p → PassFits k.gate p)
    → Fits k id sb pb ka (length views) w
    → (seat : ℕ) (v : SeatView) → get_elem? (set views id (Gate k) ++ w ∷ []) seat ≡ some v → Fits k id sb pb ka seat v
and_new j k id w sa sb pa pb ka words views h slots passes halves mine =
    snoc_each (set views id (Gate k)) w (Fits k id sb pb ka)
    (set_each views id (Gate k) (Fits k id sb pb ka)
    (λ seat v apart e. others j k id sa sb pa pb ka seat v apart (λ s out f. slots s seat out f) (λ p out f. passes p seat out f) (λ p out f. halves p f) (h.fit seat v e))
    (refl, refl))
    (subst (λ (n : ℕ). Fits k id sb pb ka n w) (sym (length-set views id (Gate k))) mine)

-- a seat fits a gate with the same records and place
keep_seen : (those : HistoryRecord → Bool) (z : ℕ) (seen : List HistoryRecord) (g h : GateView) → h.all ≡ g.all → h.decided ≡ g.decided → HasSeen those z seen g → HasSeen those z seen h
keep_seen those z seen g h all decided f = record {
  begins = subst (λ (l : List HistoryRecord). IsUpToDate those seen l) (sym all) f.begins;
  decided_before = subst (λ (n : ℕ). z ≤ n) (sym decided) f.decided_before;
  decided_within = f.decided_within;
  decided_below = subst (λ (l : List HistoryRecord). IsDecidedBelow z 0 l) (sym all) f.decided_below;
}

pub keep_slot : (g h : GateView) (s : SlotView) → h.all ≡ g.all → (g.mounted ≡ Some s.mounted → h.mounted ≡ Some s.mounted) → h.decided ≡ g.decided → SlotFits g s → SlotFits h s
keep_slot g h s all mounted decided f = record {
  sees = keep_seen (concerns_file s.file) s.decided s.seen g h all decided f.sees;
  mounted = mounted f.mounted;
}

pub keep_pass : (g h : GateView) (p : PassView) → h.all ≡ g.all → (g.mounted ≡ Some p.mounted → h.mounted ≡ Some p.mounted) → h.decided ≡ g.decided → PassFits g p → PassFits h p
keep_pass g h p all mounted decided f = record {
  sees = keep_seen (is_of_session p.session) p.decided p.seen g h all decided f.sees;
  mounted = mounted f.mounted;
}

-- the whole history, seen from the gate's own place
pub seen-whole : (those : HistoryRecord → Bool) (h : GateView) → h.decided ≤ length h.all → IsDecidedBelow h.decided 0 h.all → HasSeen those h.decided h.all h
seen-whole those h within below = record { begins = begins-whole those h.all; decided_before = omega arith; decided_within = within; decided_below = below }

-- the mount that was told stays
pub still_told : {A : Type 0} (o : Option A) (d x : A) → o ≡ Some x → Some (unwrap_or o d) ≡ Some x
still_told None d x e = absurd (no_some x e)
still_told (Some y) d x e = e

-- the word after one more record, and after none
pub counted : (words : List ℕ) (xs : List HistoryRecord) (r : HistoryRecord) → words ≡ length xs ∷ [] → length xs + 1 < 2 ^ 64 → set words 0 ((get_or words 0 0 + 1) % 2 ^ 64) ≡ length (xs ++ r ∷ []) ∷ []
counted words xs r is room =
    let n : (length xs + 1) % 2 ^ 64 ≡ length (xs ++ r ∷ []) = omega (arith, length-append xs (r ∷ [])) in
    subst (λ (ws : List ℕ). set ws 0 ((get_or ws 0 0 + 1) % 2 ^ 64) ≡ length (xs ++ r ∷ []) ∷ []) (sym is) (ap (λ (m : ℕ). m ∷ []) n)

pub same_word : (words : List ℕ) (n : ℕ) → words ≡ n ∷ [] → set words 0 (get_or words 0 0) ≡ n ∷ []
same_word words n is = subst (λ (ws : List ℕ). set ws 0 (get_or ws 0 0) ≡ n ∷ []) (sym is) refl

-- a table as it is made
pub begins : SeatRule (0 ∷ []) (Gate (alone new_gate) ∷ [])
begins = (
  alone new_gate,
  0,
  (λ _. None),
  (λ _. None),
  (λ _. None),
  record {
    word = refl;
    gate_stands = refl;
    fit = one;
    files_held = λ file e. absurd (true≢false (sym e));
    sessions_held = λ session e. absurd (true≢false (sym e));
    files_out = λ file seat e. absurd (no_some seat e);
    sessions_out = λ session seat e. absurd (no_some seat e);
    slot_in = λ slot e. refl;
    pass_in = λ pass e. refl;
    halves_held = λ n seat e. absurd (no_some seat e);
    halves_out = λ session seat e. absurd (no_some seat e);
    whole_in = λ pass e. refl;
    kept_in = λ kept e. absurd (no_some kept e);
    agrees = record {
      gate = record {
        decided_within = omega arith;
        decided_below = tt;
        tags_right = λ mounted e. tt;
        tagged = All-nil HasDueTag;
        numbered = λ session. refl;
        files_distinct = refl;
        sessions_distinct = refl;
      };
      slot = λ slot e. absurd (no_some slot e);
      pass = λ pass e. absurd (no_some pass e);
      kept = λ kept e. absurd (no_some kept e);
    };
    unmounted = λ e. refl;
  },
)
  where
    one : (seat : ℕ) (v : SeatView) → get_elem? (Gate (alone new_gate) ∷ []) seat ≡ some v → Fits (alone new_gate) 0 (λ _. None) (λ _. None) (λ _. None) seat v
    one zero v e = subst (Fits (alone new_gate) 0 (λ _. None) (λ _. None) (λ _. None) 0) (some-injective _ _ e) (refl, refl)
    one (suc seat) v e = absurd (some-ne-none v (sym e))
