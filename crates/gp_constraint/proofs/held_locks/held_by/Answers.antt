use Rattle.std.proofs.Common.{ap, subst, ◌∙◌, ◌≡◌, List}
use Rattle.std.specs.Prelude.{Option, find, flat_map}
use Rattle.gp_window.specs.Holders.{Holding}
use Rattle.gp_constraint.specs.declared.point.Point.{Point}
use Rattle.gp_constraint.specs.Limited.{IsAdded}
use Rattle.gp_constraint.specs.HeldLocks.{held_apart}
use Rattle.gp_constraint.specs.HeldUses.{held_with}
use Rattle.gp_constraint.specs.Sections.{ends_hold}
use Rattle.gp_constraint.proofs.Sectioned.{held_tabled}
use Rattle.gp_constraint.proofs.held_locks.held_by.Goals as goal

pub returns : goal.returns
returns c =
    let points : List Point = c.args.points.now in
    let hold : Holding = c.args.hold.now in
    let uses : List Point = c.uses_of-uses.result.now in
    let due : flat_map (held_with c.first_end-end.result hold) uses ≡ flat_map (held_apart points hold) points =
    ap (λ (o : Option Point). flat_map (held_with o hold) uses) c.first_end-end.ensures
    ∙ ap (λ (us : List Point). flat_map (held_with (find (ends_hold hold.1 hold.0.0 hold.0.1 0) us) hold) us) c.uses_of-uses.ensures
    ∙ held_tabled points hold in
    subst (λ d. IsAdded c.held_among.result c.args.clauses.now c.held_among.new.clauses d) due c.held_among.ensures
