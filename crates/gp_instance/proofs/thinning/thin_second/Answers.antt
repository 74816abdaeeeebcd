-- What is left of the second atom's events finds the same.
use Rattle.std.proofs.Common.{◌∙◌, ap, get_or}
use Rattle.gp_instance.proofs.Thin.{second_kept}
use Rattle.gp_instance.proofs.thinning.thin_second.Goals as goal

pub returns : goal.returns
returns c =
    let places = c.args.places in
    let first = c.index-atoms-first.result in
    let second = c.index-atoms-second.result in
    let found = second_kept c.args.segments.now c.args.atoms.now c.args.domains.now places.0 places.1 first second c.as_slice-ids.result.now c.as_slice-others.result.now c.index-rows-second.result c.index-rows-first.result c.in_ok-kept.kept
    c.requires.order c.requires.below c.requires.long c.index-atoms-first.is c.index-atoms-second.is
    (c.as_slice-ids.ensures ∙ c.index-rows-second.is ∙ ap (λ rows. get_or rows places.1 c.index-rows-second.result) c.as_slice-rows.ensures)
    (c.as_slice-others.ensures ∙ c.index-rows-first.is ∙ ap (λ rows. get_or rows places.0 c.index-rows-first.result) c.as_slice-rows.ensures)
    (c.in_ok-kept.ensures first second c.in_ok-link.ensures) in
    rw c.set.ensures found
