-- Steps on the word keep the rule: append, landing, drop of a doubt, retirement, and a look.
use Rattle.std.proofs.Common.{◌≡◌, ◌≢◌, ℕ, ◌+◌, ◌%◌, ◌^◌, ◌<◌, ◌≤◌, List, [], ◌∷◌, ◌++◌, length, set, get_or, Bool, true, false, true≢false, Option, Some, None, refl, sym, ap, ◌∙◌, subst, ⊎_elim, arith, length-append, ne_eqb}
use mathlib.Core.Option.{some}
use lib.ListN.{get_elem?}
use Rattle.store_model.specs.declared.event.Event.{Event}
use Rattle.store_model.specs.declared.event.Event.TheVariants.{Call as CallEvent, Landed}
use Rattle.store_model.specs.Record.{concerns_file, events_of}
use Rattle.store_model.specs.History.{count_of}
use Rattle.history_seats.specs.Records.{HistoryRecord, is_event_of, is_of_session}
use Rattle.history_seats.specs.Settling.{is_landing, IsDecidedBelow, IsOpenDoubt}
use Rattle.history_seats.specs.Views.{GateView, SlotView, PassView, Joined, SeatView}
use Rattle.history_seats.specs.Views.SeatView.{Gate}
use Rattle.history_seats.specs.Numbers.{is_in, are_distinct}
use Rattle.history_seats.specs.Rule.{HasSeen, SlotFits, PassFits, IsSound, Agrees, slot_file, pass_session, file_taken, session_taken, AreHeld, AreKept, SeatRule}
use Rattle.history_seats.specs.Changes.{landing_of, IsNextOf, with_record, slot_renewed, pass_renewed, IsFitting}
use Rattle.history_seats.specs.Steps.{slots_renewed, passes_renewed, renewed, appended, landing_appended, doubts_dropped, files_left, sessions_left, retired, IsTagIn, IsEventIn}
use Rattle.history_seats.proofs.Lists.{at_set_here, either_bool, no_some, none_or_some}
use Rattle.history_seats.proofs.Numbers.{distinct-without}
use Rattle.history_seats.proofs.Outs.{AllOut, out-without}
use Rattle.history_seats.proofs.Held.{held-set, held-without, kept-set}
use Rattle.history_seats.proofs.Prefixes.{begins-more}
use Rattle.history_seats.proofs.Numbering.{HasNextNumber, numbered-snoc, count-begins}
use Rattle.history_seats.proofs.Doubts.{decided-snoc, decided-lands, decided-whole, marked-settles}
use Rattle.history_seats.proofs.Tags.{tags-snoc, tagged-snoc}
use Rattle.history_seats.proofs.Keeping.{at_gate, in_place, keep_slot, keep_pass, seen-whole, counted, same_word}

-- What such a step has to show: the word becomes n of what it was, and the gate's view changes.
abbrev pub Keeps : (Joined → Joined) → (ℕ → ℕ) → ℕ → Joined → Type 0
Keeps change n id j =
    (words : List ℕ) (views : List SeatView) → SeatRule words views → get_elem? views id ≡ some (Gate j)
    → SeatRule (set words 0 (n (get_or words 0 0))) (set views id (Gate (change j))) × (get_or words 0 0 ≡ length j.gate.all) × Agrees j

-- what was taken in, once it sees all
slot_taken : (h : GateView) (P : ℕ → Type 0) (o : Option SlotView) → h.decided ≤ length h.all → IsDecidedBelow h.decided 0 h.all
    → ((t : SlotView) → o ≡ Some t → (h.mounted ≡ Some t.mounted) × P t.file)
    → (s : SlotView) → slots_renewed h o ≡ Some s → SlotFits h s × P s.file
slot_taken h P None within below was s e = absurd (no_some s e)
slot_taken h P (Some t) within below was s e =
    let w = was t refl in
    let same : slot_renewed h t ≡ s = cc (e) in
    subst (λ (x : SlotView). SlotFits h x × P x.file) same (record { sees = seen-whole (concerns_file t.file) h within below; mounted = w.0 }, w.1)

pass_taken : (h : GateView) (P : ℕ → Type 0) (o : Option PassView) → h.decided ≤ length h.all → IsDecidedBelow h.decided 0 h.all
    → ((t : PassView) → o ≡ Some t → (h.mounted ≡ Some t.mounted) × P t.session)
    → (p : PassView) → passes_renewed h o ≡ Some p → PassFits h p × P p.session
pass_taken h P None within below was p e = absurd (no_some p e)
pass_taken h P (Some t) within below was p e =
    let w = was t refl in
    let same : pass_renewed h t ≡ p = cc (e) in
    subst (λ (x : PassView). PassFits h x × P x.session) same (record { sees = seen-whole (is_of_session t.session) h within below; mounted = w.0 }, w.1)

-- who was taken in is still
file_stays : (h : GateView) (o : Option SlotView) → file_taken (slots_renewed h o) ≡ file_taken o
file_stays h None = refl
file_stays h (Some t) = refl

session_stays : (h : GateView) (o : Option PassView) → session_taken (passes_renewed h o) ≡ session_taken o
session_stays h None = refl
session_stays h (Some t) = refl

-- who was not taken in is not
none_renewed : (h : GateView) (o : Option PassView) → o ≡ None → passes_renewed h o ≡ None
none_renewed h o e = ap (passes_renewed h) e

-- What the next call of a session is: no landing, of no other session, and with the next number.
record IsNextCall (p : PassView) (event : Event) : Type 0 where
  pub call : is_landing event ≡ false
  pub own : (session : ℕ) → session ≢ p.session → is_event_of session event ≡ false
  pub next : (records : List HistoryRecord) → count_of p.session (events_of records) ≡ count_of p.session (events_of p.seen) → HasNextNumber records event

next_call : (p : PassView) (event : Event) → IsNextOf p event → IsNextCall p event
next_call p (CallEvent s n call reply mark) is = record {
  call = refl;
  own = λ session apart. ne_eqb s session (λ q. apart (sym q ∙ is.0));
  next = λ records same. is.1 ∙ sym same ∙ ap (λ (i : ℕ). count_of i (events_of records)) (sym is.0);
}
next_call p (Landed commit) is = absurd is

-- a record that is none of those comes behind what a seat has seen
seen-snoc : (those : HistoryRecord → Bool) (z : ℕ) (seen : List HistoryRecord) (r : HistoryRecord) (g : GateView) → HasSeen those z seen g → those r ≡ false → IsDecidedBelow z 0 (g.all ++ r ∷ [])
    → HasSeen those z seen (with_record r g)
seen-snoc those z seen r g f off below = record {
  begins = begins-more those seen g.all r f.begins off;
  decided_before = f.decided_before;
  decided_within = f.decided_within;
  decided_below = below;
}

-- the history with one more record is sound
sound-more : (r : HistoryRecord) (g : GateView) → IsSound g → IsDecidedBelow g.decided 0 (g.all ++ r ∷ []) → HasNextNumber g.all r.event → IsFitting g r → IsSound (with_record r g)
sound-more r g s below next fits = record {
  decided_within = omega (arith, length-append g.all (r ∷ []), s.decided_within);
  decided_below = below;
  tags_right = λ m e. tags-snoc m [] g.all r (s.tags_right m e) (fits.right m e);
  tagged = tagged-snoc g.all r s.tagged fits.tagged;
  numbered = numbered-snoc g.all r s.numbered next;
  files_distinct = s.files_distinct;
  sessions_distinct = s.sessions_distinct;
}

-- a record is appended
pub append_keeps : (r : HistoryRecord) (id : ℕ) (j : Joined) → length j.gate.all + 1 < 2 ^ 64 → j.kept ≡ None → IsTagIn j r → IsEventIn j r → IsFitting j.gate r
    → Keeps (appended r) (λ n. (n + 1) % 2 ^ 64) id j
append_keeps r id j room no_half tag event fits words views kept at =
    let o = at_gate words views id j kept at in
    let sa = o.0 in
    let pa = o.1 in
    let ka = o.2 in
    let h = o.3 in
    let g = j.gate in
    let k = appended r j in
    let p = event.0 in
    let mine = (h.agrees.pass p event.1).0 in
    let call = next_call p r.event event.2 in
    let next : HasNextNumber g.all r.event = call.next g.all (count-begins p.session p.seen g.all mine.sees.begins) in
    let not_out : (file seat : ℕ) → concerns_file file r ≡ true → sa file ≡ Some seat → ⊥ = λ file seat c out.
    let t = tag file c in
    none_or_some seat (sa file) (ap sa (sym t.2) ∙ h.slot_in t.0 t.1) out in
    let below : (z : ℕ) → IsDecidedBelow z 0 g.all → IsDecidedBelow z 0 k.gate.all = λ z s. decided-snoc z 0 g.all r s call.call in
    let seen_more : (those : HistoryRecord → Bool) (z : ℕ) (seen : List HistoryRecord) → HasSeen those z seen g → those r ≡ false → HasSeen those z seen k.gate = λ those z seen f off. seen-snoc those z seen r g f off (below z f.decided_below) in
    let sound : IsSound k.gate = sound-more r g h.agrees.gate (below g.decided h.agrees.gate.decided_below) next fits in
    let slots = slot_taken k.gate (λ f. (sa f ≡ None) × (is_in f g.files ≡ true)) j.slot sound.decided_within sound.decided_below
    (λ t e. let w = h.agrees.slot t e in (w.0.mounted, (h.slot_in t e, w.1))) in
    let passes = pass_taken k.gate (λ s. ((pa s ≡ None) × (ka s ≡ None)) × (is_in s g.sessions ≡ true)) j.pass sound.decided_within sound.decided_below
    (λ t e. let w = h.agrees.pass t e in (w.0.mounted, ((h.pass_in t e, h.whole_in t e), w.1))) in (
      (
        k,
        id,
        sa,
        pa,
        ka,
        record {
          word = counted words g.all r h.word room;
          gate_stands = at_set_here views id (Gate j) (Gate k) at;
          fit = in_place j k id sa pa ka words views h
              (λ s seat out f. record {
                sees = seen_more (concerns_file s.file) s.decided s.seen f.sees
                    (⊎_elim (λ (y : concerns_file s.file r ≡ true). absurd (not_out s.file seat y out)) (λ (y : concerns_file s.file r ≡ false). y) (either_bool (concerns_file s.file r)));
                mounted = f.mounted;
              })
              (λ q seat out f. record {
                sees = seen_more (is_of_session q.session) q.decided q.seen f.sees (call.own q.session (λ y. none_or_some seat (pa q.session) (ap pa y ∙ h.pass_in p event.1) out));
                mounted = f.mounted;
              })
              (λ q seat out f. record {
                sees = seen_more (is_of_session q.session) q.decided q.seen f.sees (call.own q.session (λ y. none_or_some seat (ka q.session) (ap ka y ∙ h.whole_in p event.1) out));
                mounted = f.mounted;
              });
          files_held = subst (λ (o : Option ℕ). AreHeld slot_file o sa g.files (set views id (Gate k))) (sym (file_stays k.gate j.slot)) (held-set slot_file (file_taken j.slot) sa g.files views id (Gate j) (Gate k) at refl h.files_held);
          sessions_held = subst (λ (o : Option ℕ). AreHeld pass_session o pa g.sessions (set views id (Gate k))) (sym (session_stays k.gate j.pass)) (held-set pass_session (session_taken j.pass) pa g.sessions views id (Gate j) (Gate k) at refl h.sessions_held);
          files_out = h.files_out;
          sessions_out = h.sessions_out;
          slot_in = λ s e. (slots s e).1.0;
          pass_in = λ q e. (passes q e).1.0.0;
          halves_held = subst (λ (o : Option ℕ). AreKept o ka (set views id (Gate k))) (sym (session_stays k.gate j.kept)) (kept-set (session_taken j.kept) ka views id (Gate j) (Gate k) at refl h.halves_held);
          halves_out = h.halves_out;
          whole_in = λ q e. (passes q e).1.0.1;
          kept_in = λ q e. absurd (none_or_some q (passes_renewed k.gate j.kept) (none_renewed k.gate j.kept no_half) e);
          agrees = record {
            gate = sound;
            slot = λ s e. ((slots s e).0, (slots s e).1.1);
            pass = λ q e. ((passes q e).0, (passes q e).1.1);
            kept = λ q e. absurd (none_or_some q (passes_renewed k.gate j.kept) (none_renewed k.gate j.kept no_half) e);
          };
          unmounted = λ e. absurd (none_or_some p.mounted g.mounted e mine.mounted);
        },
      ),
      ap (λ (ws : List ℕ). get_or ws 0 0) h.word,
      h.agrees,
    )

no_middle : (front : List HistoryRecord) (d : HistoryRecord) (back : List HistoryRecord) → front ++ d ∷ back ≡ [] → ⊥
no_middle [] d back e = cc
no_middle (x ∷ front) d back e = cc

-- a landing fits anywhere
landing_fits : (commit : ℕ) (g : GateView) → IsFitting g (landing_of commit)
landing_fits commit g = record { right = λ m _ tag e. absurd (no_some tag e); tagged = record { fault = λ file e. absurd (no_some file e); commit = λ e. absurd (true≢false (sym e)) } }

-- the doubt landed
pub landing_keeps : (commit id : ℕ) (j : Joined) → length j.gate.all + 1 < 2 ^ 64 → j.slot ≡ None → j.pass ≡ None → j.kept ≡ None → IsOpenDoubt commit j.gate.decided j.gate.all
    → Keeps (landing_appended (landing_of commit)) (λ n. (n + 1) % 2 ^ 64) id j
landing_keeps commit id j room no_slot no_pass no_half doubt words views kept at =
    let o = at_gate words views id j kept at in
    let h = o.3 in
    let g = j.gate in
    let r = landing_of commit in
    let k = landing_appended r j in
    let below : (z : ℕ) → z ≤ g.decided → IsDecidedBelow z 0 g.all → IsDecidedBelow z 0 k.gate.all = λ z le s.
    let here : IsDecidedBelow z 0 (doubt.front ++ doubt.doubted ∷ doubt.back) = subst (IsDecidedBelow z 0) (sym doubt.is) s in
    subst (λ (l : List HistoryRecord). IsDecidedBelow z 0 (l ++ r ∷ [])) doubt.is
    (decided-lands z 0 doubt.front doubt.doubted doubt.back r (omega (arith, doubt.late)) (marked-settles commit doubt.doubted.event doubt.marked) here) in (
      (
        k,
        id,
        o.0,
        o.1,
        o.2,
        record {
          word = counted words g.all r h.word room;
          gate_stands = at_set_here views id (Gate j) (Gate k) at;
          fit = in_place j k id o.0 o.1 o.2 words views h
              (λ s seat out f. record { sees = seen-snoc (concerns_file s.file) s.decided s.seen r g f.sees refl (below s.decided f.sees.decided_before f.sees.decided_below); mounted = f.mounted })
              (λ q seat out f. record { sees = seen-snoc (is_of_session q.session) q.decided q.seen r g f.sees refl (below q.decided f.sees.decided_before f.sees.decided_below); mounted = f.mounted })
              (λ q seat out f. record { sees = seen-snoc (is_of_session q.session) q.decided q.seen r g f.sees refl (below q.decided f.sees.decided_before f.sees.decided_below); mounted = f.mounted });
          files_held = held-set slot_file (file_taken j.slot) o.0 g.files views id (Gate j) (Gate k) at refl h.files_held;
          sessions_held = held-set pass_session (session_taken j.pass) o.1 g.sessions views id (Gate j) (Gate k) at refl h.sessions_held;
          files_out = h.files_out;
          sessions_out = h.sessions_out;
          slot_in = h.slot_in;
          pass_in = h.pass_in;
          halves_held = kept-set (session_taken j.kept) o.2 views id (Gate j) (Gate k) at refl h.halves_held;
          halves_out = h.halves_out;
          whole_in = h.whole_in;
          kept_in = h.kept_in;
          agrees = record {
            gate = sound-more r g h.agrees.gate (below g.decided (omega arith) h.agrees.gate.decided_below) tt (landing_fits commit g);
            slot = λ s e. absurd (none_or_some s j.slot no_slot e);
            pass = λ q e. absurd (none_or_some q j.pass no_pass e);
            kept = λ q e. absurd (none_or_some q j.kept no_half e);
          };
          unmounted = λ e. absurd (no_middle doubt.front doubt.doubted doubt.back (doubt.is ∙ h.unmounted e));
        },
      ),
      ap (λ (ws : List ℕ). get_or ws 0 0) h.word,
      h.agrees,
    )

-- a doubt is dropped: the place rises to the length of the history
pub drop_keeps : (id : ℕ) (j : Joined) → j.slot ≡ None → j.pass ≡ None → j.kept ≡ None → Keeps doubts_dropped (λ n. n) id j
drop_keeps id j no_slot no_pass no_half words views kept at =
    let o = at_gate words views id j kept at in
    let h = o.3 in
    let g = j.gate in
    let k = doubts_dropped j in
    let s = h.agrees.gate in
    let seen_still : (those : HistoryRecord → Bool) (z : ℕ) (seen : List HistoryRecord) → HasSeen those z seen g → HasSeen those z seen k.gate = λ those z seen f.
    record { begins = f.begins; decided_before = omega (arith, f.decided_before, s.decided_within); decided_within = f.decided_within; decided_below = f.decided_below } in (
      (
        k,
        id,
        o.0,
        o.1,
        o.2,
        record {
          word = same_word words (length g.all) h.word;
          gate_stands = at_set_here views id (Gate j) (Gate k) at;
          fit = in_place j k id o.0 o.1 o.2 words views h
              (λ t seat out f. record { sees = seen_still (concerns_file t.file) t.decided t.seen f.sees; mounted = f.mounted })
              (λ q seat out f. record { sees = seen_still (is_of_session q.session) q.decided q.seen f.sees; mounted = f.mounted })
              (λ q seat out f. record { sees = seen_still (is_of_session q.session) q.decided q.seen f.sees; mounted = f.mounted });
          files_held = held-set slot_file (file_taken j.slot) o.0 g.files views id (Gate j) (Gate k) at refl h.files_held;
          sessions_held = held-set pass_session (session_taken j.pass) o.1 g.sessions views id (Gate j) (Gate k) at refl h.sessions_held;
          files_out = h.files_out;
          sessions_out = h.sessions_out;
          slot_in = h.slot_in;
          pass_in = h.pass_in;
          halves_held = kept-set (session_taken j.kept) o.2 views id (Gate j) (Gate k) at refl h.halves_held;
          halves_out = h.halves_out;
          whole_in = h.whole_in;
          kept_in = h.kept_in;
          agrees = record {
            gate = record {
              decided_within = omega arith;
              decided_below = decided-whole (length g.all) 0 g.all (omega arith);
              tags_right = s.tags_right;
              tagged = s.tagged;
              numbered = s.numbered;
              files_distinct = s.files_distinct;
              sessions_distinct = s.sessions_distinct;
            };
            slot = λ t e. absurd (none_or_some t j.slot no_slot e);
            pass = λ q e. absurd (none_or_some q j.pass no_pass e);
            kept = λ q e. absurd (none_or_some q j.kept no_half e);
          };
          unmounted = h.unmounted;
        },
      ),
      ap (λ (ws : List ℕ). get_or ws 0 0) h.word,
      h.agrees,
    )

files_still_out : (sa : ℕ → Option ℕ) (files : List ℕ) (o : Option SlotView) → ((t : SlotView) → o ≡ Some t → sa t.file ≡ None) → AllOut sa files → AllOut sa (files_left files o)
files_still_out sa files None free all = all
files_still_out sa files (Some t) free all = out-without sa files t.file (free t refl) all

sessions_still_out : (pa : ℕ → Option ℕ) (sessions : List ℕ) (o : Option PassView) → ((t : PassView) → o ≡ Some t → pa t.session ≡ None) → AllOut pa sessions → AllOut pa (sessions_left sessions o)
sessions_still_out pa sessions None free all = all
sessions_still_out pa sessions (Some t) free all = out-without pa sessions t.session (free t refl) all

halves_still_out : (ka : ℕ → Option ℕ) (sessions : List ℕ) (o : Option PassView) → ((t : PassView) → o ≡ Some t → ka t.session ≡ None) → AllOut ka sessions → AllOut ka (sessions_left sessions o)
halves_still_out ka sessions None free all = all
halves_still_out ka sessions (Some t) free all = out-without ka sessions t.session (free t refl) all

files_still_held : (sa : ℕ → Option ℕ) (files : List ℕ) (views : List SeatView) (o : Option SlotView) → are_distinct files ≡ true → AreHeld slot_file (file_taken o) sa files views → AreHeld slot_file None sa (files_left files o) views
files_still_held sa files views None distinct held = held
files_still_held sa files views (Some t) distinct held = held-without slot_file sa files views t.file distinct held

sessions_still_held : (pa : ℕ → Option ℕ) (sessions : List ℕ) (views : List SeatView) (o : Option PassView) → are_distinct sessions ≡ true → AreHeld pass_session (session_taken o) pa sessions views → AreHeld pass_session None pa (sessions_left sessions o) views
sessions_still_held pa sessions views None distinct held = held
sessions_still_held pa sessions views (Some t) distinct held = held-without pass_session pa sessions views t.session distinct held

files_still_distinct : (files : List ℕ) (o : Option SlotView) → are_distinct files ≡ true → are_distinct (files_left files o) ≡ true
files_still_distinct files None h = h
files_still_distinct files (Some t) h = distinct-without t.file files h

sessions_still_distinct : (sessions : List ℕ) (o : Option PassView) → are_distinct sessions ≡ true → are_distinct (sessions_left sessions o) ≡ true
sessions_still_distinct sessions None h = h
sessions_still_distinct sessions (Some t) h = distinct-without t.session sessions h

-- what was taken in stays for good
pub retire_keeps : (id : ℕ) (j : Joined) → j.kept ≡ None → Keeps retired (λ n. n) id j
retire_keeps id j no_half words views kept at =
    let o = at_gate words views id j kept at in
    let sa = o.0 in
    let pa = o.1 in
    let ka = o.2 in
    let h = o.3 in
    let g = j.gate in
    let k = retired j in
    let s = h.agrees.gate in (
      (
        k,
        id,
        sa,
        pa,
        ka,
        record {
          word = same_word words (length g.all) h.word;
          gate_stands = at_set_here views id (Gate j) (Gate k) at;
          fit = in_place j k id sa pa ka words views h (λ t seat out f. keep_slot g k.gate t refl (λ e. e) refl f) (λ q seat out f. keep_pass g k.gate q refl (λ e. e) refl f) (λ q seat out f. keep_pass g k.gate q refl (λ e. e) refl f);
          files_held = files_still_held sa g.files (set views id (Gate k)) j.slot s.files_distinct (held-set slot_file (file_taken j.slot) sa g.files views id (Gate j) (Gate k) at refl h.files_held);
          sessions_held = sessions_still_held pa g.sessions (set views id (Gate k)) j.pass s.sessions_distinct (held-set pass_session (session_taken j.pass) pa g.sessions views id (Gate j) (Gate k) at refl h.sessions_held);
          files_out = files_still_out sa g.files j.slot h.slot_in h.files_out;
          sessions_out = sessions_still_out pa g.sessions j.pass h.pass_in h.sessions_out;
          slot_in = λ t e. absurd (no_some t e);
          pass_in = λ q e. absurd (no_some q e);
          halves_held = subst (λ (o : Option PassView). AreKept (session_taken o) ka (set views id (Gate k))) no_half (kept-set (session_taken j.kept) ka views id (Gate j) (Gate k) at refl h.halves_held);
          halves_out = halves_still_out ka g.sessions j.pass h.whole_in h.halves_out;
          whole_in = λ q e. absurd (no_some q e);
          kept_in = λ q e. absurd (no_some q e);
          agrees = record {
            gate = record {
              decided_within = s.decided_within;
              decided_below = s.decided_below;
              tags_right = s.tags_right;
              tagged = s.tagged;
              numbered = s.numbered;
              files_distinct = files_still_distinct g.files j.slot s.files_distinct;
              sessions_distinct = sessions_still_distinct g.sessions j.pass s.sessions_distinct;
            };
            slot = λ t e. absurd (no_some t e);
            pass = λ q e. absurd (no_some q e);
            kept = λ q e. absurd (no_some q e);
          };
          unmounted = h.unmounted;
        },
      ),
      ap (λ (ws : List ℕ). get_or ws 0 0) h.word,
      h.agrees,
    )

-- what was taken in sees the whole history
pub look_keeps : (id : ℕ) (j : Joined) → Keeps renewed (λ n. n) id j
look_keeps id j words views kept at =
    let o = at_gate words views id j kept at in
    let sa = o.0 in
    let pa = o.1 in
    let ka = o.2 in
    let h = o.3 in
    let g = j.gate in
    let k = renewed j in
    let s = h.agrees.gate in
    let slots = slot_taken g (λ f. (sa f ≡ None) × (is_in f g.files ≡ true)) j.slot s.decided_within s.decided_below
    (λ t e. let w = h.agrees.slot t e in (w.0.mounted, (h.slot_in t e, w.1))) in
    let passes = pass_taken g (λ n. ((pa n ≡ None) × (ka n ≡ None)) × (is_in n g.sessions ≡ true)) j.pass s.decided_within s.decided_below
    (λ t e. let w = h.agrees.pass t e in (w.0.mounted, ((h.pass_in t e, h.whole_in t e), w.1))) in
    let halves = pass_taken g (λ n. (ka n ≡ Some id) × (is_in n g.sessions ≡ true)) j.kept s.decided_within s.decided_below
    (λ t e. let w = h.agrees.kept t e in (w.0.mounted, (h.kept_in t e, w.1))) in (
      (
        k,
        id,
        sa,
        pa,
        ka,
        record {
          word = same_word words (length g.all) h.word;
          gate_stands = at_set_here views id (Gate j) (Gate k) at;
          fit = in_place j k id sa pa ka words views h (λ t seat out f. f) (λ q seat out f. f) (λ q seat out f. f);
          files_held = subst (λ (o : Option ℕ). AreHeld slot_file o sa g.files (set views id (Gate k))) (sym (file_stays g j.slot)) (held-set slot_file (file_taken j.slot) sa g.files views id (Gate j) (Gate k) at refl h.files_held);
          sessions_held = subst (λ (o : Option ℕ). AreHeld pass_session o pa g.sessions (set views id (Gate k))) (sym (session_stays g j.pass)) (held-set pass_session (session_taken j.pass) pa g.sessions views id (Gate j) (Gate k) at refl h.sessions_held);
          files_out = h.files_out;
          sessions_out = h.sessions_out;
          slot_in = λ t e. (slots t e).1.0;
          pass_in = λ q e. (passes q e).1.0.0;
          halves_held = subst (λ (o : Option ℕ). AreKept o ka (set views id (Gate k))) (sym (session_stays g j.kept)) (kept-set (session_taken j.kept) ka views id (Gate j) (Gate k) at refl h.halves_held);
          halves_out = h.halves_out;
          whole_in = λ q e. (passes q e).1.0.1;
          kept_in = λ q e. (halves q e).1.0;
          agrees = record {
            gate = s;
            slot = λ t e. ((slots t e).0, (slots t e).1.1);
            pass = λ q e. ((passes q e).0, (passes q e).1.1);
            kept = λ q e. ((halves q e).0, (halves q e).1.1);
          };
          unmounted = h.unmounted;
        },
      ),
      ap (λ (ws : List ℕ). get_or ws 0 0) h.word,
      h.agrees,
    )
