use Rattle.gp_json.proofs.ReadBack.{string_back}
use Rattle.gp_json.proofs.laws.strings_read_back.Goals as goal

pub returns : goal.returns
returns c = string_back
