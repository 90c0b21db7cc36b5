-- A power cut: what it may leave of a file, and of all devices.
--
-- A cut inside a phase is the run in which every device stops at some call:
--  1. A device does one call at a time, and changes in its calls alone.
--  2. So at any moment each device has done some number of calls, and may be within its next one.
--  3. Let each stop behind that number of its calls, as the act `stop` arms it. Up to there nothing differs from the run that was cut.
--  4. The call that a device was within fails. A write of a file may be torn then; of the card a block is written whole or not at all.
--  5. From there on each call of the device fails, and does not reach it.
--  6. So behind the phase each device holds what it held at that moment.
--  7. What had been answered until then stands in the history of this phase, in front of all that was answered later.
--  8. The laws say what every picture of the bench mounts to behind a phase, whatever was armed: the objects that its history leaves, or these
--     with the one commit in doubt.
--  9. A commit needs the card, which answers no more. So no event behind the moment is a commit, but that the one on its way may be in doubt.
-- 10. Of these steps 3, 5 and 6 say what a device does that is stopped. The simulated devices do so; no clause says it of every device.
pub use Rattle.disk_model.specs.State.{FileState, LeftNow}
pub use Rattle.crash_core.specs.Pictures.{IsPictureOf, Picture}
pub use Rattle.run_acts.specs.Between.{MayCrash}
