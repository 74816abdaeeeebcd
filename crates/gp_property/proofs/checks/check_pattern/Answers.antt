-- With few atoms and known events, the regions decide.
use Rattle.std.proofs.Common.{◌≡◌, sym, ap, ◌∙◌, true, false}
use Rattle.gp_property.specs.Checks.{are_defined, checked_regions, has_too_many}
use Rattle.gp_property.proofs.PatternChecked.{regions_left}
use Rattle.gp_property.proofs.checks.check_pattern.Goals as goal

pub returns : goal.returns
returns c =
    let few : has_too_many c.args.pattern.now ≡ false = sym c.has_too_many.ensures ∙ c.if-has_too_many.false in
    let known : are_defined c.args.events.now c.args.pattern.now ≡ true = sym c.are_defined.ensures ∙ c.if-not-are_defined.false in
    λ memory.
    c.check_regions.ensures
    ∙ ap (checked_regions c.args.number) (c.as_slice.ensures ∙ c.in_ok-atoms.ensures)
    ∙ regions_left c.args.number c.args.events.now c.args.pattern.now few known
