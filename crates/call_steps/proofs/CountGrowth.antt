-- Counts of faults that stand still or rise, and devices that go on.
use Rattle.std.proofs.Common.{◌≡◌, ◌<◌, ◌≤◌, ℕ, List, set, refl, sym, ◌∙◌, ap, subst, inl, inr, arith}
use Rattle.std.proofs.lemmas.Bool.{cases_eq}
use Rattle.std.proofs.lemmas.List.{set-set}
use Rattle.disk_model.specs.Calls.{GoesOn}
use Rattle.disk_model.specs.Faults.{Rose}
use Rattle.disk_model.specs.State.{FileState}
use Rattle.disk_model.proofs.Goings.{goes_on_none, goes_on_then}
use Rattle.rpmb_card.specs.Card.{CardState}
use Rattle.rpmb_card.specs.Port.{PortState}
use Rattle.rpmb_host.specs.Honest.{HasCard}
use Rattle.crash_core.specs.CardBlock.{root_block}
use Rattle.commit_gate.specs.CardEnds.{CardGoesOn}
use Rattle.commit_gate.specs.Causes.{Counted, EndNotDrawn, NotDrawn, TwiceRose}
use Rattle.commit_gate.specs.Counts.{CauseCounts, DoubtCounts, EndCounts, RoseAlone}
use Rattle.commit_gate.specs.declared.CommitEnd.{CommitEnd}
use Rattle.commit_gate.specs.declared.CommitEnd.TheVariants.{Doubtful, Dropped, Made, Spent}
use Rattle.tee_types.specs.declared.reply.Cause.{Cause}
use Rattle.tee_types.specs.declared.reply.Cause.TheVariants.{CardResult, Fault, Frame}
use Rattle.tee_types.specs.declared.reply.Device.{Device}
use Rattle.tee_types.specs.declared.reply.Device.TheVariants.{Card, Dir, Entropy, File}
use Rattle.commit_gate.proofs.PortArms.{arms_then, same_arms}
use Rattle.call_steps.specs.Devices.{CountsGrow, Devices, DevicesGoOn, DrawsOn, Grows, PortGoesOn}

rose_lt : (old new : ℕ) → old < new → Rose old new
rose_lt old new lt = omega (arith, lt)

pub grows_le : (old new : ℕ) → old ≤ new → Grows old new
grows_le old new le = elim (cases_eq new old) [
  | inl same ↦ inl same
  | inr other ↦ inr (rose_lt old new (omega (arith, le, other)))
]

rose_rose : (a b c : ℕ) → Rose a b → Rose b c → Rose a c
rose_rose a b c first second = omega (arith, first, second)

pub grows_rose : (a b c : ℕ) → Grows a b → Rose b c → Rose a c
grows_rose a b c (inl same) rose = subst (λ (n : ℕ). Rose n c) same rose
grows_rose a b c (inr first) rose = rose_rose a b c first rose

pub grows_grows : (a b c : ℕ) → Grows a b → Grows b c → Grows a c
grows_grows a b c first (inl same) = subst (λ (n : ℕ). Grows a n) (sym same) first
grows_grows a b c first (inr rose) = inr (grows_rose a b c first rose)

module _ {D : Type 0} (Reliable : D → Type 0) (faults : D → ℕ) where
  -- a generator that is let be
  pub draws_none : (old new : D) → new ≡ old → DrawsOn Reliable faults old new
  draws_none old new same = record { counted = inl (ap faults same); reliable = subst Reliable (sym same); still = λ is. ap faults same }

  pub draws_then : (a b c : D) → DrawsOn Reliable faults a b → DrawsOn Reliable faults b c → DrawsOn Reliable faults a c
  draws_then a b c first then = record {
    counted = grows_grows (faults a) (faults b) (faults c) first.counted then.counted;
    reliable = λ is. then.reliable (first.reliable is);
    still = λ is. then.still (first.reliable is) ∙ first.still is;
  }

twice_since : (a b : ℕ) (new : PortState) → Grows a b → (old mid : PortState) → old.faults ≡ a → mid.faults ≡ b → TwiceRose mid new → TwiceRose old new
twice_since a b new (inl same) old mid was is twice = omega (arith, same, was, is, twice)
twice_since a b new (inr rose) old mid was is twice = omega (arith, rose, was, is, twice)

-- a count that rose twice since then rose twice since before
pub grows_twice : (old mid new : PortState) → Grows old.faults mid.faults → TwiceRose mid new → TwiceRose old new
grows_twice old mid new grows twice = twice_since old.faults mid.faults new grows old mid refl refl twice

-- CARDS
pub same_card : (port : PortState) (key : List ℕ) (a b : CardState) → HasCard port key a → HasCard port key b → b ≡ a
same_card port key a b first second = cc (first.told, second.told)

pub card_goes_on_none : (a b : CardState) → b ≡ a → CardGoesOn a b
card_goes_on_none a b same = inl (record { key = ap (λ (c : CardState). c.key) same; counter = ap (λ (c : CardState). c.counter) same; blocks = ap (λ (c : CardState). c.blocks) same })

pub card_goes_on_then : (a b c : CardState) → CardGoesOn a b → CardGoesOn b c → CardGoesOn a c
card_goes_on_then a b c (inl first) (inl then) = inl (record { key = then.key ∙ first.key; counter = then.counter ∙ first.counter; blocks = then.blocks ∙ first.blocks })
card_goes_on_then a b c (inl first) (inr then) = inr (record {
  key = then.key ∙ first.key;
  counter = subst (λ (n : ℕ). n < c.counter) first.counter then.counter;
  root = then.root;
  form = then.form;
  blocks = then.blocks ∙ ap (λ (l : List (List ℕ)). set l 0 (root_block then.root)) first.blocks;
})
card_goes_on_then a b c (inr first) (inl then) = inr (record {
  key = then.key ∙ first.key;
  counter = subst (λ (n : ℕ). a.counter < n) (sym then.counter) first.counter;
  root = first.root;
  form = first.form;
  blocks = then.blocks ∙ first.blocks;
})
card_goes_on_then a b c (inr first) (inr then) = inr (record {
  key = then.key ∙ first.key;
  counter = omega (arith, first.counter, then.counter);
  root = then.root;
  form = then.form;
  blocks = then.blocks ∙ ap (λ (l : List (List ℕ)). set l 0 (root_block then.root)) first.blocks ∙ set-set a.blocks 0 (root_block first.root) (root_block then.root);
})

-- a port, and a file, that nothing happened to
pub port_goes_on_none : (key : List ℕ) (port : PortState) → PortGoesOn key port port
port_goes_on_none key port = record {
  told = λ card has. (card, has);
  card = λ was is had has. card_goes_on_none was is (same_card port key was is had has);
  calm = λ is. record { calm = is; faults = refl };
  counted = inl refl;
  arms = same_arms port;
}

pub same_port_goes_on : (key : List ℕ) (old new : PortState) → new ≡ old → PortGoesOn key old new
same_port_goes_on key old new same = subst (PortGoesOn key old) (sym same) (port_goes_on_none key old)

pub same_file_goes_on : (old new : FileState) → new ≡ old → GoesOn old new
same_file_goes_on old new same = subst (GoesOn old) (sym same) (goes_on_none old)

-- one after another
pub port_goes_on_then : (key : List ℕ) (a b c : PortState) → PortGoesOn key a b → PortGoesOn key b c → PortGoesOn key a c
port_goes_on_then key a b c first then = record {
  told = λ card has. let between = first.told card has in then.told between.0 between.1;
  card = λ was is had has.
      let between = first.told was had in
      card_goes_on_then was between.0 is (first.card was between.0 had between.1) (then.card between.0 is between.1 has);
  calm = λ is.
      let stays = first.calm is in
      let last = then.calm stays.calm in
      record { calm = last.calm; faults = last.faults ∙ stays.faults };
  counted = grows_grows a.faults b.faults c.faults first.counted then.counted;
  arms = arms_then a b c first.arms then.arms;
}

pub devices_go_on_none : (key : List ℕ) (d : Devices) → DevicesGoOn key d d
devices_go_on_none key d = record { dir = goes_on_none d.dir; file = λ n. goes_on_none (d.file n); card = port_goes_on_none key d.card; draws = inl refl }

pub devices_go_on_then : (key : List ℕ) (a b c : Devices) → DevicesGoOn key a b → DevicesGoOn key b c → DevicesGoOn key a c
devices_go_on_then key a b c first then = record {
  dir = goes_on_then a.dir b.dir c.dir first.dir then.dir;
  file = λ n. goes_on_then (a.file n) (b.file n) (c.file n) (first.file n) (then.file n);
  card = port_goes_on_then key a.card b.card c.card first.card then.card;
  draws = grows_grows a.draws b.draws c.draws first.draws then.draws;
}

-- no count of devices that go on falls
pub counts_grow : (key : List ℕ) (old new : Devices) → DevicesGoOn key old new → CountsGrow old new
counts_grow key old new goes_on Dir = grows_le (old.dir).faults (new.dir).faults goes_on.dir.faults
counts_grow key old new goes_on (File n) = grows_le (old.file n).faults (new.file n).faults (goes_on.file n).faults
counts_grow key old new goes_on Card = goes_on.card.counted
counts_grow key old new goes_on Entropy = goes_on.draws

-- the counts of the card's port, and of the session's entropy
pub record GateGrows (old new : Counted) : Type 0 where
  pub card : Grows (old.port).faults (new.port).faults
  pub draws : Grows old.draws new.draws

module _ (old new : Counted) where
  device_grows : (device : Device) (count : ℕ) → RoseAlone old new device count → GateGrows old new
  device_grows Dir count rose = record { card = inl rose.1; draws = inl rose.2 }
  device_grows (File n) count rose = absurd rose
  device_grows Card count rose = record { card = inr rose.0; draws = inl rose.3 }
  device_grows Entropy count rose = record { card = inl rose.3; draws = inr rose.0 }

  cause_grows : (cause : Cause) → CauseCounts old new cause → GateGrows old new
  cause_grows (Fault device count) counts = device_grows device count counts
  cause_grows (Frame fault) counts = record { card = inl counts.card; draws = inl counts.draws }
  cause_grows (CardResult result) counts = record { card = inl counts.card; draws = inl counts.draws }

  doubt_grows : (cause : Cause) → DoubtCounts old new cause → GateGrows old new
  doubt_grows (Fault device count) counts = device_grows device count counts
  doubt_grows (Frame fault) counts = record { card = grows_le (old.port).faults (new.port).faults counts.card; draws = inl counts.draws }
  doubt_grows (CardResult result) counts = record { card = grows_le (old.port).faults (new.port).faults counts.card; draws = inl counts.draws }

  -- a commit's end
  pub end_grows : (end : CommitEnd) → EndCounts old new end → GateGrows old new
  end_grows (Made n) counts = record { card = grows_le (old.port).faults (new.port).faults counts.card; draws = inl counts.draws }
  end_grows (Dropped cause) counts = cause_grows cause counts
  end_grows (Doubtful n cause) counts = doubt_grows cause counts
  end_grows Spent counts = record { card = inl counts.card; draws = inl counts.draws }

  device_still : (device : Device) (count : ℕ) → NotDrawn (Fault device count) → RoseAlone old new device count → new.draws ≡ old.draws
  device_still Dir count none rose = rose.2
  device_still (File n) count none rose = absurd rose
  device_still Card count none rose = rose.3
  device_still Entropy count none rose = absurd none

  cause_still : (cause : Cause) → NotDrawn cause → CauseCounts old new cause → new.draws ≡ old.draws
  cause_still (Fault device count) none counts = device_still device count none counts
  cause_still (Frame fault) none counts = counts.draws
  cause_still (CardResult result) none counts = counts.draws

  doubt_still : (cause : Cause) → NotDrawn cause → DoubtCounts old new cause → new.draws ≡ old.draws
  doubt_still (Fault device count) none counts = device_still device count none counts
  doubt_still (Frame fault) none counts = counts.draws
  doubt_still (CardResult result) none counts = counts.draws

  -- where no draw failed, the entropy counted none
  pub end_still : (end : CommitEnd) → EndNotDrawn end → EndCounts old new end → new.draws ≡ old.draws
  end_still (Made n) none counts = counts.draws
  end_still (Dropped cause) none counts = cause_still cause none counts
  end_still (Doubtful n cause) none counts = doubt_still cause none counts
  end_still Spent none counts = counts.draws
