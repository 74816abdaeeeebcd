use Rattle.std.proofs.Common.{ℕ, ap, ◌∙◌}
use Rattle.gp_beside.specs.Beside.{all_numbers}
use Rattle.gp_beside.proofs.beside.places_by.Goals as goal

pub returns-in-Ok-clause-told : goal.returns-in-Ok-clause-told
returns-in-Ok-clause-told g c = λ files told.
    let numbers = c.in_ok-numbers.ensures.told files told ∙ ap (λ (places : ℕ). all_numbers files c.args.directory.now places c.args.traces.now) c.len.ensures in
    rw (← numbers, c.in-Ok.is) (c.placed.ensures.told files (c.all_numbers.ensures.kept ∙ told))
