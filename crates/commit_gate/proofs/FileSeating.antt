-- A gate behind its lock, whose journal gave other seats out.
use Rattle.std.proofs.Common.{List, ℕ, Option, Some, None}
use Rattle.dir_records.specs.declared.entry.DirEntry.{DirEntry}
use Rattle.history_seats.specs.Mounts.{Mounted}
use Rattle.history_seats.specs.Views.{GateView}
use Rattle.core_laws.specs.Stores.{Store}
use Rattle.commit_gate.specs.Journals.{IsJournal}
use Rattle.core_laws.specs.Ties.{IsDoubtTied}
use Rattle.crash_core.specs.declared.change.DoubtedChange.{DoubtedChange}
use Rattle.store_commit.specs.Gates.{GateValue}
use Rattle.commit_gate.specs.declared.guarded_gate.Closing.{Closing}
use Rattle.commit_gate.specs.GuardedGates.{IsClosingTied, GateInvariant}

module _ (store : Store) (old : GateView) (mounted : Option Mounted) (files : List ℕ) where
  abbrev seated : GateView
  seated = record old { mounted = mounted; files = files }

  seated-doubt : (entries : List (Option DirEntry)) (d : Option DoubtedChange) → IsDoubtTied store old entries d → IsDoubtTied store seated entries d
  seated-doubt entries None tied = tied
  seated-doubt entries (Some d) tied = record { is_open = tied.is_open; place = tied.place; landed = tied.landed; stands = tied.stands }

  seated-closes : (doubt : Option DoubtedChange) (closing : Option Closing) → IsClosingTied store old doubt closing → IsClosingTied store seated doubt closing
  seated-closes None closing closes = closes
  seated-closes (Some d) closing closes = closes

  -- what always holds of it speaks of no seat
  pub seated-guarded : {F R : Type 0} (gate : GateValue F R) (closing : Option Closing) → IsJournal store seated → GateInvariant store gate old closing → GateInvariant store gate seated closing
  seated-guarded gate closing journal guarded = record {
    journal = journal;
    tied = record {
      listed = guarded.tied.listed;
      unique = guarded.tied.unique;
      versions = guarded.tied.versions;
      real = guarded.tied.real;
      counter = guarded.tied.counter;
      rising = guarded.tied.rising;
      doubt = seated-doubt gate.dir.dir.entries gate.doubt guarded.tied.doubt;
    };
    handles = guarded.handles;
    closes = seated-closes gate.doubt closing guarded.closes;
    directory_key = guarded.directory_key;
    card_key = guarded.card_key;
    current = guarded.current;
  }
