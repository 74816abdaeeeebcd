use Rattle.std.proofs.Common.{refl}
use Rattle.std.specs.Fmt.{digits}
use Rattle.gp_shard.proofs.laws.shards_examples.Goals as goal

pub returns : goal.returns
unfolding digits
returns c = record {
  middle_read = refl;
  last_read = refl;
  middle_told = refl;
  last_told = refl;
  format = refl;
  behind_last = refl;
  too_many = refl;
  no_decimal = refl;
  early = refl;
  late = refl;
  nothing = refl;
}
