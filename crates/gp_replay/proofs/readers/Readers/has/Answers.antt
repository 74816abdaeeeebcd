-- The first reader from the lock on tells.
use Rattle.std.proofs.Common.{◌∙◌}
use Rattle.gp_replay.specs.ReaderLaws.{first_tells, none_tells}
use Rattle.gp_replay.proofs.readers.Readers.has.Goals as goal

pub returns-in-Some : goal.returns-in-Some
returns-in-Some c =
    rw (← c.self.view_is) (c.eq.ensures
    ∙ first_tells c.self.inside.set c.args.lock.now c.range.result c.in-Some.reader.now _ c.in-Some.ensures.steps (c.range.ensures.in_range tt))

pub returns-in-None : goal.returns-in-None
returns-in-None c =
    rw (← c.self.view_is)
    (none_tells c.self.inside.set c.args.lock.now c.range.result c.in-None.ensures.steps.0 (c.range.ensures.in_range tt))
