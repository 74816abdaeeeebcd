-- An instance has an event for each atom.
use Rattle.std.proofs.Common.{◌==◌, ◌∙◌, eqb-true, length}
use Rattle.std.proofs.lemmas.Bool.{and_parts}
use Rattle.gp_instance.specs.Instance.{choices_of, keeps_conditions}
use Rattle.gp_property.specs.Atoms.{atoms_of}
use Rattle.gp_resume.proofs.testing.is_shown.Goals as goal

pub matches-requires : goal.matches-requires
matches-requires c =
    let window = c.args.window.now in
    let property = c.args.property.now in
    let ids = c.args.instance.now.events in
    let parts = and_parts (length ids == length (atoms_of property)) (keeps_conditions window.segments (choices_of window.segments (atoms_of property) ids)) c.requires in
    eqb-true (length ids) (length (atoms_of property)) parts.0 ∙ (c.atoms_kept.ensures property c.keeps_rules.ensures).each
