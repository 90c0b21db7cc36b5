-- A value that the `requires` tells of is fixed first: then what is asked of the callee, and learnt of it, is its contract at that value.
use Rattle.std.proofs.Common.{[], ◌∷◌}
use Rattle.call_steps.proofs.Chosen.{for_some}
use Rattle.history_seats.specs.Changes.{TagVersions}
use Rattle.call_steps.specs.ObjectCommits.{IsCommittable}
use Rattle.rpmb_card.specs.declared.RpmbPort as rpmb_port
use Rattle.rpmb_card.specs.contracts.RpmbPort.TheBound as rpmb_port_bound
use Rattle.core_laws.specs.declared.StoreName as store_name
use Rattle.core_laws.specs.contracts.StoreName.TheBound as store_name_bound
use Rattle.tee_ports.specs.declared.Entropy as entropy
use Rattle.tee_ports.specs.declared.StoreFile as store_file
use Rattle.tee_ports.specs.contracts.Entropy.TheBound as entropy_bound
use Rattle.tee_ports.specs.contracts.StoreFile.TheBound as store_file_bound
use denote.Param.Glue as glue
use Rattle.call_steps.proofs.object_commit.commit_versions.Reads as callee
use Rattle.call_steps.proofs.object_commit.commit_versions.Met as callee_thm
use Rattle.call_steps.proofs.object_commit.commit_versions.Symbol as callee_symbol
use Rattle.call_steps.specs.contracts.object_commit.commit_change.Key as key
use Rattle.call_steps.proofs.object_commit.commit_change.Statement.{statement}
use Rattle.call_steps.proofs.object_commit.commit_change.Code as code
use Rattle.call_steps.proofs.object_commit.commit_change.Kinds as kinds
use Rattle.call_steps.proofs.object_commit.commit_change.Reads as reads
use Rattle.call_steps.proofs.object_commit.commit_change.Lts as lts
use borrow.Fn.ByParts.{wanted}
use borrow.Fn.Claims.{All-at}
use borrow.Fn.Function.{plain_of}
use borrow.Fn.Run.{Over}
use borrow.Fn.World.{World}
use borrow.Fn.Written as written
use contract.Running.{tables_of}
use denote.Param.{bounded}
use denote.Param.Laws.{Laws}
use denote.RattleType.{RattleType}
use mathlib.Core.Path as path
use mir.MapTy.{inst_fn}
use mir.Syntax.{Dict, a_type, dcons, dnil}
use prog.Wired.{Wired}
use prog.Wp.{WpFn}

module _ (T1' : RattleType) (T2' : RattleType) (T3' : RattleType) (T4' : RattleType) (L1' : Laws T1') (L2' : Laws T2') (L3' : Laws T3') (L4' : Laws T4')
    (F-StoreFile : store_file.Ghosts T1'.Denot) (F-StoreFile-dict : Dict) (R-RpmbPort : rpmb_port.Ghosts T2'.Denot) (R-RpmbPort-dict : Dict) (L-StoreName : store_name.Ghosts T3'.Denot) (L-StoreName-dict : Dict) (E-Entropy : entropy.Ghosts T4'.Denot) (E-Entropy-dict : Dict) (F-Destruct-dict : Dict) (R-Destruct-dict : Dict) (E-Destruct-dict : Dict) where
  -- what the `requires` says of the value n, and all that it says
  abbrev At : TagVersions → lts.Pre-type T1' T2' T3' T4' L1' L2' L3' L4' F-StoreFile F-StoreFile-dict R-RpmbPort R-RpmbPort-dict L-StoreName L-StoreName-dict E-Entropy E-Entropy-dict F-Destruct-dict R-Destruct-dict E-Destruct-dict
  At n κs a = (IsCommittable L-StoreName.store a.0.now.gate a.0.now.journal.knows a.1.0.now a.1.1.0.now a.1.1.1.1.0 a.1.1.1.1.1.0 a.1.1.1.0 n) × reads.Pre T1' T2' T3' T4' L1' L2' L3' L4' F-StoreFile F-StoreFile-dict R-RpmbPort R-RpmbPort-dict L-StoreName L-StoreName-dict E-Entropy E-Entropy-dict F-Destruct-dict R-Destruct-dict E-Destruct-dict κs a

  abbrev Post : lts.Post-type T1' T2' T3' T4' L1' L2' L3' L4' F-StoreFile F-StoreFile-dict R-RpmbPort R-RpmbPort-dict L-StoreName L-StoreName-dict E-Entropy E-Entropy-dict F-Destruct-dict R-Destruct-dict E-Destruct-dict
  Post = reads.Post T1' T2' T3' T4' L1' L2' L3' L4' F-StoreFile F-StoreFile-dict R-RpmbPort R-RpmbPort-dict L-StoreName L-StoreName-dict E-Entropy E-Entropy-dict F-Destruct-dict R-Destruct-dict E-Destruct-dict

  abbrev claims : TagVersions → lts.Claims T1' T2' T3' T4' L1' L2' L3' L4' F-StoreFile F-StoreFile-dict R-RpmbPort R-RpmbPort-dict L-StoreName L-StoreName-dict E-Entropy E-Entropy-dict F-Destruct-dict R-Destruct-dict E-Destruct-dict
  claims n = (λ κs a. callee.Asked-at (lts.arg-0-0 T1' T2' T3' T4' L1' L2' L3' L4' F-StoreFile F-StoreFile-dict R-RpmbPort R-RpmbPort-dict L-StoreName L-StoreName-dict E-Entropy E-Entropy-dict F-Destruct-dict R-Destruct-dict E-Destruct-dict κs) (lts.arg-0-1 T1' T2' T3' T4' L1' L2' L3' L4' F-StoreFile F-StoreFile-dict R-RpmbPort R-RpmbPort-dict L-StoreName L-StoreName-dict E-Entropy E-Entropy-dict F-Destruct-dict R-Destruct-dict E-Destruct-dict κs) (lts.arg-0-2 T1' T2' T3' T4' L1' L2' L3' L4' F-StoreFile F-StoreFile-dict R-RpmbPort R-RpmbPort-dict L-StoreName L-StoreName-dict E-Entropy E-Entropy-dict F-Destruct-dict R-Destruct-dict E-Destruct-dict κs) (lts.arg-0-3 T1' T2' T3' T4' L1' L2' L3' L4' F-StoreFile F-StoreFile-dict R-RpmbPort R-RpmbPort-dict L-StoreName L-StoreName-dict E-Entropy E-Entropy-dict F-Destruct-dict R-Destruct-dict E-Destruct-dict κs) (lts.laws-0-0 T1' T2' T3' T4' L1' L2' L3' L4' F-StoreFile F-StoreFile-dict R-RpmbPort R-RpmbPort-dict L-StoreName L-StoreName-dict E-Entropy E-Entropy-dict F-Destruct-dict R-Destruct-dict E-Destruct-dict κs) (lts.laws-0-1 T1' T2' T3' T4' L1' L2' L3' L4' F-StoreFile F-StoreFile-dict R-RpmbPort R-RpmbPort-dict L-StoreName L-StoreName-dict E-Entropy E-Entropy-dict F-Destruct-dict R-Destruct-dict E-Destruct-dict κs) (lts.laws-0-2 T1' T2' T3' T4' L1' L2' L3' L4' F-StoreFile F-StoreFile-dict R-RpmbPort R-RpmbPort-dict L-StoreName L-StoreName-dict E-Entropy E-Entropy-dict F-Destruct-dict R-Destruct-dict E-Destruct-dict κs) (lts.laws-0-3 T1' T2' T3' T4' L1' L2' L3' L4' F-StoreFile F-StoreFile-dict R-RpmbPort R-RpmbPort-dict L-StoreName L-StoreName-dict E-Entropy E-Entropy-dict F-Destruct-dict R-Destruct-dict E-Destruct-dict κs) F-StoreFile F-StoreFile-dict R-RpmbPort R-RpmbPort-dict L-StoreName L-StoreName-dict E-Entropy E-Entropy-dict F-Destruct-dict R-Destruct-dict E-Destruct-dict n κs a, λ κs a x e. callee.Learnt-at (lts.arg-0-0 T1' T2' T3' T4' L1' L2' L3' L4' F-StoreFile F-StoreFile-dict R-RpmbPort R-RpmbPort-dict L-StoreName L-StoreName-dict E-Entropy E-Entropy-dict F-Destruct-dict R-Destruct-dict E-Destruct-dict κs) (lts.arg-0-1 T1' T2' T3' T4' L1' L2' L3' L4' F-StoreFile F-StoreFile-dict R-RpmbPort R-RpmbPort-dict L-StoreName L-StoreName-dict E-Entropy E-Entropy-dict F-Destruct-dict R-Destruct-dict E-Destruct-dict κs) (lts.arg-0-2 T1' T2' T3' T4' L1' L2' L3' L4' F-StoreFile F-StoreFile-dict R-RpmbPort R-RpmbPort-dict L-StoreName L-StoreName-dict E-Entropy E-Entropy-dict F-Destruct-dict R-Destruct-dict E-Destruct-dict κs) (lts.arg-0-3 T1' T2' T3' T4' L1' L2' L3' L4' F-StoreFile F-StoreFile-dict R-RpmbPort R-RpmbPort-dict L-StoreName L-StoreName-dict E-Entropy E-Entropy-dict F-Destruct-dict R-Destruct-dict E-Destruct-dict κs) (lts.laws-0-0 T1' T2' T3' T4' L1' L2' L3' L4' F-StoreFile F-StoreFile-dict R-RpmbPort R-RpmbPort-dict L-StoreName L-StoreName-dict E-Entropy E-Entropy-dict F-Destruct-dict R-Destruct-dict E-Destruct-dict κs) (lts.laws-0-1 T1' T2' T3' T4' L1' L2' L3' L4' F-StoreFile F-StoreFile-dict R-RpmbPort R-RpmbPort-dict L-StoreName L-StoreName-dict E-Entropy E-Entropy-dict F-Destruct-dict R-Destruct-dict E-Destruct-dict κs) (lts.laws-0-2 T1' T2' T3' T4' L1' L2' L3' L4' F-StoreFile F-StoreFile-dict R-RpmbPort R-RpmbPort-dict L-StoreName L-StoreName-dict E-Entropy E-Entropy-dict F-Destruct-dict R-Destruct-dict E-Destruct-dict κs) (lts.laws-0-3 T1' T2' T3' T4' L1' L2' L3' L4' F-StoreFile F-StoreFile-dict R-RpmbPort R-RpmbPort-dict L-StoreName L-StoreName-dict E-Entropy E-Entropy-dict F-Destruct-dict R-Destruct-dict E-Destruct-dict κs) F-StoreFile F-StoreFile-dict R-RpmbPort R-RpmbPort-dict L-StoreName L-StoreName-dict E-Entropy E-Entropy-dict F-Destruct-dict R-Destruct-dict E-Destruct-dict n κs a x e)

  asks : (n : TagVersions) → lts.Need-commit_versions-requires T1' T2' T3' T4' L1' L2' L3' L4' F-StoreFile F-StoreFile-dict R-RpmbPort R-RpmbPort-dict L-StoreName L-StoreName-dict E-Entropy E-Entropy-dict F-Destruct-dict R-Destruct-dict E-Destruct-dict (claims n) (At n) Post
  asks n c κs l = (l.0, (l.1.0, (l.1.1.0, (l.1.1.1, (c.requires.0, c.requires.1.1.1.1.1.1)))))

  returns : (n : TagVersions) → lts.Need-returns T1' T2' T3' T4' L1' L2' L3' L4' F-StoreFile F-StoreFile-dict R-RpmbPort R-RpmbPort-dict L-StoreName L-StoreName-dict E-Entropy E-Entropy-dict F-Destruct-dict R-Destruct-dict E-Destruct-dict (claims n) (At n) Post
  returns n c = c.commit_versions.ensures

  module _ (n : TagVersions) (w' : World) (wired : Wired w'.𝓡.env code.code)
      (b1' : store_file_bound.Met w'.𝓛 w'.𝓜 w'.𝓡 w'.𝓡.env T1' F-StoreFile F-StoreFile-dict)
      (b2' : rpmb_port_bound.Met w'.𝓛 w'.𝓜 w'.𝓡 w'.𝓡.env T2' R-RpmbPort R-RpmbPort-dict)
      (b3' : store_name_bound.Met w'.𝓛 w'.𝓜 w'.𝓡 w'.𝓡.env T3' L-StoreName L-StoreName-dict)
      (b4' : entropy_bound.Met w'.𝓛 w'.𝓜 w'.𝓡 w'.𝓡.env T4' E-Entropy E-Entropy-dict)
      (b5' : glue.Met w'.𝓛 w'.𝓜 w'.𝓡 w'.𝓡.env T1' F-Destruct-dict)
      (b6' : glue.Met w'.𝓛 w'.𝓜 w'.𝓡 w'.𝓡.env T2' R-Destruct-dict)
      (b7' : glue.Met w'.𝓛 w'.𝓜 w'.𝓡 w'.𝓡.env T4' E-Destruct-dict) where
    known : lts.Known-0 T1' T2' T3' T4' L1' L2' L3' L4' F-StoreFile F-StoreFile-dict R-RpmbPort R-RpmbPort-dict L-StoreName L-StoreName-dict E-Entropy E-Entropy-dict F-Destruct-dict R-Destruct-dict E-Destruct-dict (claims n) w'.𝓛 (Over w'.𝓛 w'.𝓜 w'.𝓡 w'.𝓡.env)
    unfolding tables_of
    known y =
        let name = callee_symbol.name (lts.passed-0 T1' T2' T3' T4' L1' L2' L3' L4' F-StoreFile F-StoreFile-dict R-RpmbPort R-RpmbPort-dict L-StoreName L-StoreName-dict E-Entropy E-Entropy-dict F-Destruct-dict R-Destruct-dict E-Destruct-dict) in
        callee.by_parts-at (lts.arg-0-0 T1' T2' T3' T4' L1' L2' L3' L4' F-StoreFile F-StoreFile-dict R-RpmbPort R-RpmbPort-dict L-StoreName L-StoreName-dict E-Entropy E-Entropy-dict F-Destruct-dict R-Destruct-dict E-Destruct-dict y.0.0) (lts.arg-0-1 T1' T2' T3' T4' L1' L2' L3' L4' F-StoreFile F-StoreFile-dict R-RpmbPort R-RpmbPort-dict L-StoreName L-StoreName-dict E-Entropy E-Entropy-dict F-Destruct-dict R-Destruct-dict E-Destruct-dict y.0.0) (lts.arg-0-2 T1' T2' T3' T4' L1' L2' L3' L4' F-StoreFile F-StoreFile-dict R-RpmbPort R-RpmbPort-dict L-StoreName L-StoreName-dict E-Entropy E-Entropy-dict F-Destruct-dict R-Destruct-dict E-Destruct-dict y.0.0) (lts.arg-0-3 T1' T2' T3' T4' L1' L2' L3' L4' F-StoreFile F-StoreFile-dict R-RpmbPort R-RpmbPort-dict L-StoreName L-StoreName-dict E-Entropy E-Entropy-dict F-Destruct-dict R-Destruct-dict E-Destruct-dict y.0.0) (lts.laws-0-0 T1' T2' T3' T4' L1' L2' L3' L4' F-StoreFile F-StoreFile-dict R-RpmbPort R-RpmbPort-dict L-StoreName L-StoreName-dict E-Entropy E-Entropy-dict F-Destruct-dict R-Destruct-dict E-Destruct-dict y.0.0) (lts.laws-0-1 T1' T2' T3' T4' L1' L2' L3' L4' F-StoreFile F-StoreFile-dict R-RpmbPort R-RpmbPort-dict L-StoreName L-StoreName-dict E-Entropy E-Entropy-dict F-Destruct-dict R-Destruct-dict E-Destruct-dict y.0.0) (lts.laws-0-2 T1' T2' T3' T4' L1' L2' L3' L4' F-StoreFile F-StoreFile-dict R-RpmbPort R-RpmbPort-dict L-StoreName L-StoreName-dict E-Entropy E-Entropy-dict F-Destruct-dict R-Destruct-dict E-Destruct-dict y.0.0) (lts.laws-0-3 T1' T2' T3' T4' L1' L2' L3' L4' F-StoreFile F-StoreFile-dict R-RpmbPort R-RpmbPort-dict L-StoreName L-StoreName-dict E-Entropy E-Entropy-dict F-Destruct-dict R-Destruct-dict E-Destruct-dict y.0.0) F-StoreFile F-StoreFile-dict R-RpmbPort R-RpmbPort-dict L-StoreName L-StoreName-dict E-Entropy E-Entropy-dict F-Destruct-dict R-Destruct-dict E-Destruct-dict n w'.M w'.𝓤 w'.𝓛 (Over w'.𝓛 w'.𝓜 w'.𝓡 w'.𝓡.env) name
        (callee.known-at (lts.arg-0-0 T1' T2' T3' T4' L1' L2' L3' L4' F-StoreFile F-StoreFile-dict R-RpmbPort R-RpmbPort-dict L-StoreName L-StoreName-dict E-Entropy E-Entropy-dict F-Destruct-dict R-Destruct-dict E-Destruct-dict y.0.0) (lts.arg-0-1 T1' T2' T3' T4' L1' L2' L3' L4' F-StoreFile F-StoreFile-dict R-RpmbPort R-RpmbPort-dict L-StoreName L-StoreName-dict E-Entropy E-Entropy-dict F-Destruct-dict R-Destruct-dict E-Destruct-dict y.0.0) (lts.arg-0-2 T1' T2' T3' T4' L1' L2' L3' L4' F-StoreFile F-StoreFile-dict R-RpmbPort R-RpmbPort-dict L-StoreName L-StoreName-dict E-Entropy E-Entropy-dict F-Destruct-dict R-Destruct-dict E-Destruct-dict y.0.0) (lts.arg-0-3 T1' T2' T3' T4' L1' L2' L3' L4' F-StoreFile F-StoreFile-dict R-RpmbPort R-RpmbPort-dict L-StoreName L-StoreName-dict E-Entropy E-Entropy-dict F-Destruct-dict R-Destruct-dict E-Destruct-dict y.0.0) (lts.laws-0-0 T1' T2' T3' T4' L1' L2' L3' L4' F-StoreFile F-StoreFile-dict R-RpmbPort R-RpmbPort-dict L-StoreName L-StoreName-dict E-Entropy E-Entropy-dict F-Destruct-dict R-Destruct-dict E-Destruct-dict y.0.0) (lts.laws-0-1 T1' T2' T3' T4' L1' L2' L3' L4' F-StoreFile F-StoreFile-dict R-RpmbPort R-RpmbPort-dict L-StoreName L-StoreName-dict E-Entropy E-Entropy-dict F-Destruct-dict R-Destruct-dict E-Destruct-dict y.0.0) (lts.laws-0-2 T1' T2' T3' T4' L1' L2' L3' L4' F-StoreFile F-StoreFile-dict R-RpmbPort R-RpmbPort-dict L-StoreName L-StoreName-dict E-Entropy E-Entropy-dict F-Destruct-dict R-Destruct-dict E-Destruct-dict y.0.0) (lts.laws-0-3 T1' T2' T3' T4' L1' L2' L3' L4' F-StoreFile F-StoreFile-dict R-RpmbPort R-RpmbPort-dict L-StoreName L-StoreName-dict E-Entropy E-Entropy-dict F-Destruct-dict R-Destruct-dict E-Destruct-dict y.0.0) F-StoreFile F-StoreFile-dict R-RpmbPort R-RpmbPort-dict L-StoreName L-StoreName-dict E-Entropy E-Entropy-dict F-Destruct-dict R-Destruct-dict E-Destruct-dict n w' w'.𝓡.env name (w'.𝓡.env name) path.refl
        (callee_thm.met w'.𝓤 w'.𝓛 w'.𝓜 w'.𝓡 (code.calls-call_steps::object_commit::commit_versions w'.𝓡.env wired) (lts.arg-0-0 T1' T2' T3' T4' L1' L2' L3' L4' F-StoreFile F-StoreFile-dict R-RpmbPort R-RpmbPort-dict L-StoreName L-StoreName-dict E-Entropy E-Entropy-dict F-Destruct-dict R-Destruct-dict E-Destruct-dict y.0.0) (lts.arg-0-1 T1' T2' T3' T4' L1' L2' L3' L4' F-StoreFile F-StoreFile-dict R-RpmbPort R-RpmbPort-dict L-StoreName L-StoreName-dict E-Entropy E-Entropy-dict F-Destruct-dict R-Destruct-dict E-Destruct-dict y.0.0) (lts.arg-0-2 T1' T2' T3' T4' L1' L2' L3' L4' F-StoreFile F-StoreFile-dict R-RpmbPort R-RpmbPort-dict L-StoreName L-StoreName-dict E-Entropy E-Entropy-dict F-Destruct-dict R-Destruct-dict E-Destruct-dict y.0.0) (lts.arg-0-3 T1' T2' T3' T4' L1' L2' L3' L4' F-StoreFile F-StoreFile-dict R-RpmbPort R-RpmbPort-dict L-StoreName L-StoreName-dict E-Entropy E-Entropy-dict F-Destruct-dict R-Destruct-dict E-Destruct-dict y.0.0) (lts.laws-0-0 T1' T2' T3' T4' L1' L2' L3' L4' F-StoreFile F-StoreFile-dict R-RpmbPort R-RpmbPort-dict L-StoreName L-StoreName-dict E-Entropy E-Entropy-dict F-Destruct-dict R-Destruct-dict E-Destruct-dict y.0.0) (lts.laws-0-1 T1' T2' T3' T4' L1' L2' L3' L4' F-StoreFile F-StoreFile-dict R-RpmbPort R-RpmbPort-dict L-StoreName L-StoreName-dict E-Entropy E-Entropy-dict F-Destruct-dict R-Destruct-dict E-Destruct-dict y.0.0) (lts.laws-0-2 T1' T2' T3' T4' L1' L2' L3' L4' F-StoreFile F-StoreFile-dict R-RpmbPort R-RpmbPort-dict L-StoreName L-StoreName-dict E-Entropy E-Entropy-dict F-Destruct-dict R-Destruct-dict E-Destruct-dict y.0.0) (lts.laws-0-3 T1' T2' T3' T4' L1' L2' L3' L4' F-StoreFile F-StoreFile-dict R-RpmbPort R-RpmbPort-dict L-StoreName L-StoreName-dict E-Entropy E-Entropy-dict F-Destruct-dict R-Destruct-dict E-Destruct-dict y.0.0) F-StoreFile F-StoreFile-dict R-RpmbPort R-RpmbPort-dict L-StoreName L-StoreName-dict E-Entropy E-Entropy-dict F-Destruct-dict R-Destruct-dict E-Destruct-dict record { sound = b1'.sound; len = b1'.len; read_at = b1'.read_at; write_at = b1'.write_at; set_len = b1'.set_len; sync = b1'.sync } record { sound = b2'.sound; exchange = b2'.exchange } record {} record { draw = b4'.draw; stream = b4'.stream } b5' b6' b7')) y
        (wanted 7 (lts.ps-0 T1' T2' T3' T4' L1' L2' L3' L4' F-StoreFile F-StoreFile-dict R-RpmbPort R-RpmbPort-dict L-StoreName L-StoreName-dict E-Entropy E-Entropy-dict F-Destruct-dict R-Destruct-dict E-Destruct-dict) (lts.r-0 T1' T2' T3' T4' L1' L2' L3' L4' F-StoreFile F-StoreFile-dict R-RpmbPort R-RpmbPort-dict L-StoreName L-StoreName-dict E-Entropy E-Entropy-dict F-Destruct-dict R-Destruct-dict E-Destruct-dict) (claims n).0 (claims n).1 y.0.0 y.0.3 y.0.4) path.refl

pub commit_change_spec : {M : Type 1} → statement M
unfolding tables_of
commit_change_spec {M = M} 𝓤 𝓛 𝓜 𝓡 w T1' T2' T3' T4' L1' L2' L3' L4' F-StoreFile F-StoreFile-dict R-RpmbPort R-RpmbPort-dict L-StoreName L-StoreName-dict E-Entropy E-Entropy-dict F-Destruct-dict R-Destruct-dict E-Destruct-dict b1' b2' b3' b4' b5' b6' b7' =
    let W : World = record { M = M; 𝓤 = 𝓤; 𝓛 = 𝓛; 𝓜 = 𝓜; 𝓡 = 𝓡 } in
    let at = (bounded (a_type ∷ a_type ∷ a_type ∷ a_type ∷ []) (T1', (T2', (T3', (T4', tt)))) (dcons F-StoreFile-dict (dcons R-RpmbPort-dict (dcons L-StoreName-dict (dcons E-Entropy-dict (dcons F-Destruct-dict (dcons R-Destruct-dict (dcons E-Destruct-dict dnil)))))))) in
    let T = Over 𝓛 𝓜 𝓡 𝓡.env in
    written.close 7 (kinds.ps T1' T2' T3' T4' L1' L2' L3' L4' F-StoreFile F-StoreFile-dict R-RpmbPort R-RpmbPort-dict L-StoreName L-StoreName-dict E-Entropy E-Entropy-dict F-Destruct-dict R-Destruct-dict E-Destruct-dict) (kinds.r T1' T2' T3' T4' L1' L2' L3' L4' F-StoreFile F-StoreFile-dict R-RpmbPort R-RpmbPort-dict L-StoreName L-StoreName-dict E-Entropy E-Entropy-dict F-Destruct-dict R-Destruct-dict E-Destruct-dict) (reads.Ghost T1' T2' T3' T4' L1' L2' L3' L4' F-StoreFile F-StoreFile-dict R-RpmbPort R-RpmbPort-dict L-StoreName L-StoreName-dict E-Entropy E-Entropy-dict F-Destruct-dict R-Destruct-dict E-Destruct-dict) (reads.requires T1' T2' T3' T4' L1' L2' L3' L4' F-StoreFile F-StoreFile-dict R-RpmbPort R-RpmbPort-dict L-StoreName L-StoreName-dict E-Entropy E-Entropy-dict F-Destruct-dict R-Destruct-dict E-Destruct-dict) (reads.ensures T1' T2' T3' T4' L1' L2' L3' L4' F-StoreFile F-StoreFile-dict R-RpmbPort R-RpmbPort-dict L-StoreName L-StoreName-dict E-Entropy E-Entropy-dict F-Destruct-dict R-Destruct-dict E-Destruct-dict) (reads.pre_read T1' T2' T3' T4' L1' L2' L3' L4' F-StoreFile F-StoreFile-dict R-RpmbPort R-RpmbPort-dict L-StoreName L-StoreName-dict E-Entropy E-Entropy-dict F-Destruct-dict R-Destruct-dict E-Destruct-dict)
    (reads.Pinned T1' T2' T3' T4' L1' L2' L3' L4' F-StoreFile F-StoreFile-dict R-RpmbPort R-RpmbPort-dict L-StoreName L-StoreName-dict E-Entropy E-Entropy-dict F-Destruct-dict R-Destruct-dict E-Destruct-dict) (reads.Owned T1' T2' T3' T4' L1' L2' L3' L4' F-StoreFile F-StoreFile-dict R-RpmbPort R-RpmbPort-dict L-StoreName L-StoreName-dict E-Entropy E-Entropy-dict F-Destruct-dict R-Destruct-dict E-Destruct-dict) (reads.post_read T1' T2' T3' T4' L1' L2' L3' L4' F-StoreFile F-StoreFile-dict R-RpmbPort R-RpmbPort-dict L-StoreName L-StoreName-dict E-Entropy E-Entropy-dict F-Destruct-dict R-Destruct-dict E-Destruct-dict)
    W 𝓡.env (key.name at) (inst_fn at code.function) (code.unfolded 𝓤 𝓛.H 𝓜 𝓡 w (T1', (T2', (T3', (T4', tt)))) F-StoreFile-dict R-RpmbPort-dict L-StoreName-dict E-Entropy-dict F-Destruct-dict R-Destruct-dict E-Destruct-dict)
    (λ κs a g. tt) (λ κs. reads.owns T1' T2' T3' T4' L1' L2' L3' L4' F-StoreFile F-StoreFile-dict R-RpmbPort R-RpmbPort-dict L-StoreName L-StoreName-dict E-Entropy E-Entropy-dict F-Destruct-dict R-Destruct-dict E-Destruct-dict κs W) (reads.passes T1' T2' T3' T4' L1' L2' L3' L4' F-StoreFile F-StoreFile-dict R-RpmbPort R-RpmbPort-dict L-StoreName L-StoreName-dict E-Entropy E-Entropy-dict F-Destruct-dict R-Destruct-dict E-Destruct-dict W) (λ g.
    written.at_code 𝓤 𝓛.H T.C T.Λ (lts.function T1' T2' T3' T4' L1' L2' L3' L4' F-StoreFile F-StoreFile-dict R-RpmbPort R-RpmbPort-dict L-StoreName L-StoreName-dict E-Entropy E-Entropy-dict F-Destruct-dict R-Destruct-dict E-Destruct-dict) (inst_fn at code.function) path.refl path.refl
    (plain_of 𝓛 7 (lts.ps T1' T2' T3' T4' L1' L2' L3' L4' F-StoreFile F-StoreFile-dict R-RpmbPort R-RpmbPort-dict L-StoreName L-StoreName-dict E-Entropy E-Entropy-dict F-Destruct-dict R-Destruct-dict E-Destruct-dict) (lts.r T1' T2' T3' T4' L1' L2' L3' L4' F-StoreFile F-StoreFile-dict R-RpmbPort R-RpmbPort-dict L-StoreName L-StoreName-dict E-Entropy E-Entropy-dict F-Destruct-dict R-Destruct-dict E-Destruct-dict) (reads.Pre T1' T2' T3' T4' L1' L2' L3' L4' F-StoreFile F-StoreFile-dict R-RpmbPort R-RpmbPort-dict L-StoreName L-StoreName-dict E-Entropy E-Entropy-dict F-Destruct-dict R-Destruct-dict E-Destruct-dict) (reads.Post T1' T2' T3' T4' L1' L2' L3' L4' F-StoreFile F-StoreFile-dict R-RpmbPort R-RpmbPort-dict L-StoreName L-StoreName-dict E-Entropy E-Entropy-dict F-Destruct-dict R-Destruct-dict E-Destruct-dict))
    (for_some 𝓛 7 (lts.ps T1' T2' T3' T4' L1' L2' L3' L4' F-StoreFile F-StoreFile-dict R-RpmbPort R-RpmbPort-dict L-StoreName L-StoreName-dict E-Entropy E-Entropy-dict F-Destruct-dict R-Destruct-dict E-Destruct-dict) (lts.r T1' T2' T3' T4' L1' L2' L3' L4' F-StoreFile F-StoreFile-dict R-RpmbPort R-RpmbPort-dict L-StoreName L-StoreName-dict E-Entropy E-Entropy-dict F-Destruct-dict R-Destruct-dict E-Destruct-dict) TagVersions (reads.Pre T1' T2' T3' T4' L1' L2' L3' L4' F-StoreFile F-StoreFile-dict R-RpmbPort R-RpmbPort-dict L-StoreName L-StoreName-dict E-Entropy E-Entropy-dict F-Destruct-dict R-Destruct-dict E-Destruct-dict) (At T1' T2' T3' T4' L1' L2' L3' L4' F-StoreFile F-StoreFile-dict R-RpmbPort R-RpmbPort-dict L-StoreName L-StoreName-dict E-Entropy E-Entropy-dict F-Destruct-dict R-Destruct-dict E-Destruct-dict) (Post T1' T2' T3' T4' L1' L2' L3' L4' F-StoreFile F-StoreFile-dict R-RpmbPort R-RpmbPort-dict L-StoreName L-StoreName-dict E-Entropy E-Entropy-dict F-Destruct-dict R-Destruct-dict E-Destruct-dict) (WpFn 𝓤 𝓛.H T.C T.Λ (lts.function T1' T2' T3' T4' L1' L2' L3' L4' F-StoreFile F-StoreFile-dict R-RpmbPort R-RpmbPort-dict L-StoreName L-StoreName-dict E-Entropy E-Entropy-dict F-Destruct-dict R-Destruct-dict E-Destruct-dict))
    (λ κs a p. let known = All-at 4 (reads.pre_read T1' T2' T3' T4' L1' L2' L3' L4' F-StoreFile F-StoreFile-dict R-RpmbPort R-RpmbPort-dict L-StoreName L-StoreName-dict E-Entropy E-Entropy-dict F-Destruct-dict R-Destruct-dict E-Destruct-dict κs a tt).tells p in known.0)
    (λ κs a p. let known = All-at 4 (reads.pre_read T1' T2' T3' T4' L1' L2' L3' L4' F-StoreFile F-StoreFile-dict R-RpmbPort R-RpmbPort-dict L-StoreName L-StoreName-dict E-Entropy E-Entropy-dict F-Destruct-dict R-Destruct-dict E-Destruct-dict κs a tt).tells p in (known.1, p)) (λ n.
    lts.spec T1' T2' T3' T4' L1' L2' L3' L4' F-StoreFile F-StoreFile-dict R-RpmbPort R-RpmbPort-dict L-StoreName L-StoreName-dict E-Entropy E-Entropy-dict F-Destruct-dict R-Destruct-dict E-Destruct-dict (claims T1' T2' T3' T4' L1' L2' L3' L4' F-StoreFile F-StoreFile-dict R-RpmbPort R-RpmbPort-dict L-StoreName L-StoreName-dict E-Entropy E-Entropy-dict F-Destruct-dict R-Destruct-dict E-Destruct-dict n) (At T1' T2' T3' T4' L1' L2' L3' L4' F-StoreFile F-StoreFile-dict R-RpmbPort R-RpmbPort-dict L-StoreName L-StoreName-dict E-Entropy E-Entropy-dict F-Destruct-dict R-Destruct-dict E-Destruct-dict n) (Post T1' T2' T3' T4' L1' L2' L3' L4' F-StoreFile F-StoreFile-dict R-RpmbPort R-RpmbPort-dict L-StoreName L-StoreName-dict E-Entropy E-Entropy-dict F-Destruct-dict R-Destruct-dict E-Destruct-dict) (asks T1' T2' T3' T4' L1' L2' L3' L4' F-StoreFile F-StoreFile-dict R-RpmbPort R-RpmbPort-dict L-StoreName L-StoreName-dict E-Entropy E-Entropy-dict F-Destruct-dict R-Destruct-dict E-Destruct-dict n) (returns T1' T2' T3' T4' L1' L2' L3' L4' F-StoreFile F-StoreFile-dict R-RpmbPort R-RpmbPort-dict L-StoreName L-StoreName-dict E-Entropy E-Entropy-dict F-Destruct-dict R-Destruct-dict E-Destruct-dict n)
    (λ κs a p. let tells = (reads.pre_read T1' T2' T3' T4' L1' L2' L3' L4' F-StoreFile F-StoreFile-dict R-RpmbPort R-RpmbPort-dict L-StoreName L-StoreName-dict E-Entropy E-Entropy-dict F-Destruct-dict R-Destruct-dict E-Destruct-dict κs a tt).tells in (All-at 0 tells p.1, (All-at 1 tells p.1, (All-at 2 tells p.1, (All-at 3 tells p.1, tt)))))
    𝓤 𝓛 T (known T1' T2' T3' T4' L1' L2' L3' L4' F-StoreFile F-StoreFile-dict R-RpmbPort R-RpmbPort-dict L-StoreName L-StoreName-dict E-Entropy E-Entropy-dict F-Destruct-dict R-Destruct-dict E-Destruct-dict n W w b1' b2' b3' b4' b5' b6' b7'))))
