-- What counting finds closes the region, and what closes it is found.
use Rattle.gp_instance.proofs.RegionsTold.{closes, found_end}
use Rattle.gp_instance.proofs.laws.regions_close_as_begun.Goals as goal

pub returns : goal.returns
returns c = λ thread standing events formed begin end. (closes thread standing events formed begin end, found_end standing events begin end)
