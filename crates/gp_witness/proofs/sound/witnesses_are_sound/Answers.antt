use Rattle.gp_witness.proofs.OneByPlace.{one_by_place}
use Rattle.gp_witness.proofs.Witnessed.{base_witness, instance_witness, LowerLaws}
use Rattle.gp_witness.proofs.sound.witnesses_are_sound.Goals as goal

pub returns : goal.returns
returns c =
    let laws : LowerLaws = record {
      formed = c.windows_are_formed.ensures;
      begins = c.states_begin_as_windows.ensures;
      written = c.values_are_last_writes.ensures;
      acquired = c.holders_acquired.ensures;
      shared = c.readers_acquired.ensures;
      answers = c.answers_mean.ensures;
    } in
    record { base = base_witness laws; instance = instance_witness laws; one = one_by_place }
