use Rattle.std.proofs.Common.{◌∙◌}
use Rattle.gp_beside.proofs.beside.places_at.Goals as goal

pub returns-in-Ok-Some-clause-told : goal.returns-in-Ok-Some-clause-told
returns-in-Ok-Some-clause-told g c = λ files told.
    rw (← c.in_ok-told.ensures.told files told, c.in-Ok-Some.is, c.in-Ok-Some.field-0-is) (c.places_by.ensures.told files (c.list_at.ensures.kept ∙ told))
