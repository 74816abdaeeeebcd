use Rattle.std.proofs.Common.{map, string_bytes}
use Rattle.gp_words.specs.Value.{lent_texts}
use Rattle.gp_words.proofs.Sound.{made_sound}
use Rattle.gp_words.proofs.sharding.shard_command_of.Goals as goal

pub returns-clause-sound : goal.returns-clause-sound
returns-clause-sound c =
    made_sound (map string_bytes c.args.words.now) (lent_texts c.in-Some-2.folders) c.in-Some.asked c.shard_of.result c.in-Some.ensures
    (rw c.in-Some-2.is at c.in_ok-folders.ensures) (rw c.as_slice.ensures at c.shard_of.ensures)
