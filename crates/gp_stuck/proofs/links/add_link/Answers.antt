-- The link is one of the last, or comes at the end.
use Rattle.std.proofs.Common.{◌∙◌, ◌-◌, ap, drop, length, sym, List}
use Rattle.std.specs.List.{list_any}
use Rattle.std.specs.Prelude.{take}
use Rattle.gp_base.specs.ListLaws.{contains_from_drop, contains_from_take}
use Rattle.gp_stuck.specs.declared.link.Link.{Link}
use Rattle.gp_stuck.specs.Links.{is_same_link}
use Rattle.gp_stuck.proofs.Ways.{link_there}
use Rattle.gp_stuck.proofs.links.add_link.Goals as goal

pub returns-then-has_link-clause-there : goal.returns-then-has_link-clause-there
returns-then-has_link-clause-there c =
    let from = c.saturating_sub-from.result in
    let last : List Link → List Link = λ all. take (length all - from) (drop from all) in
    contains_from_drop from c.args.links.now c.args.link
    (contains_from_take (length c.args.links.now - from) (drop from c.args.links.now) c.args.link
    (link_there (last c.args.links.now) c.args.link
    (ap (λ (all : List Link). list_any (λ (one : Link). is_same_link one c.args.link) (last all)) (sym c.as_slice.ensures) ∙ sym c.if-has_link.ensures)))
