use Rattle.std.proofs.Common.{subst}
use Rattle.gp_window.specs.WindowForm.{IsWindow}
use Rattle.gp_witness.proofs.encoded_laws.law_sound.Goals as goal

pub returns-clause-feasible : goal.returns-clause-feasible
returns-clause-feasible c = λ executed by_place.
    (c.witnesses_are_sound.ensures.instance c.args.encoded.now c.args.property.now c.args.instance.now.events c.args.valuation.now executed
    (subst IsWindow c.window.ensures.window c.comes_from_recording.ensures) c.keeps_rules.ensures c.requires.instance c.requires.answer by_place).0

pub returns-clause-matches : goal.returns-clause-matches
returns-clause-matches c = λ executed by_place.
    (c.witnesses_are_sound.ensures.instance c.args.encoded.now c.args.property.now c.args.instance.now.events c.args.valuation.now executed
    (subst IsWindow c.window.ensures.window c.comes_from_recording.ensures) c.keeps_rules.ensures c.requires.instance c.requires.answer by_place).1
