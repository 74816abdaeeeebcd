use Rattle.std.proofs.Common.{refl}
use Rattle.gp_window.specs.WindowForm.{window_of}
use Rattle.gp_replay.specs.PartLaws.{nothing_done}
use Rattle.gp_whole.proofs.Roots.{just_roots}
use Rattle.gp_whole.proofs.laws.starts_of_recordings.Goals as goal

pub returns : goal.returns
returns c = record {
  done = λ r thread. nothing_done (window_of r 1) thread;
  holders = λ r. refl;
  readers = λ r. refl;
  started = λ r rules thread. just_roots r.manifest.threads r.manifest.roots rules.manifest.roots thread;
}
