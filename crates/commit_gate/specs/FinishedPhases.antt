-- The phase of the core machine under a tamper scenario.
use Rattle.crash_core.specs.CoreState.{Phase}
use Rattle.core_laws.specs.TamperScenarios.{TamperScenario}
use Rattle.core_laws.specs.Stores.{Store, objects_under, phase_of}

-- It begins with what stands for the objects of the mount, and little is said of the files that are not honest under the tamper scenario.
abbrev pub phase_under : Store → TamperScenario → Phase
phase_under store scenario = record {
  keys = store.keys;
  tampered = scenario.tampered;
  begins = record (phase_of store) { objects = objects_under store scenario };
}
