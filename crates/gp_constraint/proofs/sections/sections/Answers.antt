use Rattle.std.proofs.Common.{ap, subst, ◌∙◌, ◌≡◌, List}
use Rattle.std.specs.Prelude.{flat_map}
use Rattle.gp_constraint.specs.declared.point.Point.{Point}
use Rattle.gp_constraint.specs.declared.section.Section.{Section}
use Rattle.gp_constraint.specs.declared.symbol.SymbolicLit.{SymbolicLit}
use Rattle.gp_constraint.specs.Limited.{IsAdded}
use Rattle.gp_constraint.specs.Sections.{sections}
use Rattle.gp_constraint.specs.SectionTables.{sections_between, sections_on}
use Rattle.gp_constraint.proofs.Sectioned.{sections_tabled}
use Rattle.gp_constraint.proofs.sections.sections.Goals as goal

pub returns : goal.returns
returns c =
    let points : List Point = c.args.points.now in
    let due : flat_map (λ a. flat_map (sections_between a) (sections_on a.lock c.as_slice-2.result.now)) c.as_slice-2.result.now ≡ sections points =
    ap (λ (all : List Section). flat_map (λ a. flat_map (sections_between a) (sections_on a.lock all)) all) (c.as_slice-2.ensures ∙ c.in_ok-all.ensures)
    ∙ sections_tabled points in
    subst (λ (d : List (List SymbolicLit)). IsAdded c.sections_each.result c.args.clauses.now c.sections_each.new.clauses d) due c.sections_each.ensures
