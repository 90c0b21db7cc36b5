pub use Rattle.script_runner.specs.Port
