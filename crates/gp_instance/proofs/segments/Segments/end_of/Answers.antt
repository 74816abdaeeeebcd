-- The table of a thread has the ends of its regions.
use Rattle.std.proofs.Common.{◌∙◌, ap}
use Rattle.std.specs.Prelude.{slice_get}
use Rattle.std.specs.Option.{option_flatten}
use Rattle.gp_instance.proofs.Ends.{ends_found}
use Rattle.gp_instance.proofs.segments.Segments.end_of.Goals as goal

pub returns : goal.returns
returns c = c.end_at_index.ensures ∙ ap (λ ends. option_flatten (slice_get ends c.args.id.index)) c.ends.ensures ∙ ends_found c.args.self.now c.args.id.thread c.args.id.index
