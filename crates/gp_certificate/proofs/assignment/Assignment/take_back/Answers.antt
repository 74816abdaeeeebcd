use Rattle.std.proofs.Common.{rules, ◌++◌, ap, ◌∙◌}
use Rattle.std.specs.Option.{option_to_list}
use Rattle.gp_certificate.proofs.Standing.{kept_less}
use Rattle.gp_certificate.proofs.assignment.Assignment.take_back.Goals as goal

pub returns-clause-kept : goal.returns-clause-kept
returns-clause-kept c =
    kept_less c.args.self.now _ c.in-Some.lit c.requires.kept (c.pop.ensures.items ∙ ap (λ o. c.pop.new.self.items ++ option_to_list o) c.in-Some.is) (search rules) c.pop.ensures.capacity
