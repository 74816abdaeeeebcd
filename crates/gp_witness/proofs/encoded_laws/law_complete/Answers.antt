use Rattle.std.proofs.Common.{subst}
use Rattle.gp_window.specs.WindowForm.{IsWindow}
use Rattle.gp_witness.proofs.encoded_laws.law_complete.Goals as goal

pub returns : goal.returns
returns c =
    c.schedules_are_complete.ensures.instance c.args.encoded.now c.args.property.now c.args.instance.now.events c.args.schedule.now.events
    (subst IsWindow c.window.ensures.window c.comes_from_recording.ensures) c.requires.feasible c.requires.matches
