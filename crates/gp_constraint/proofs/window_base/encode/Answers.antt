use Rattle.std.proofs.Common.{◌∙◌, ◌≤◌, refl, sym, subst, ap, List, length}
use Rattle.std.specs.Prelude.{flat_map, map}
use Rattle.gp_trace.specs.declared.event.Event.{Event}
use Rattle.gp_clause.specs.declared.problem.Problem.{Problem}
use Rattle.gp_window.specs.WindowForm.{WindowForm}
use Rattle.gp_constraint.specs.declared.point.Point.{Point}
use Rattle.gp_constraint.specs.declared.symbol.Symbol.{Symbol}
use Rattle.gp_constraint.specs.declared.symbol.SymbolicLit.{SymbolicLit}
use Rattle.gp_constraint.specs.Encoded.{IsBase}
use Rattle.gp_constraint.specs.Numbering.{names_of, numbered}
use Rattle.gp_constraint.specs.ProgramOrder.{edge_to}
use Rattle.gp_constraint.specs.Signed.{AreSigned}
use Rattle.gp_constraint.specs.Symbols.{kind_of}
use Rattle.gp_constraint.proofs.EncodedIs.{encoded_is}
use Rattle.gp_constraint.proofs.SignedFamilies.{signed_families}
use Rattle.gp_constraint.proofs.window_base.encode.Goals as goal

pub problem_of-requires-clause-signed : goal.problem_of-requires-clause-signed
problem_of-requires-clause-signed c =
    let window : WindowForm = c.args.window.now in
    subst AreSigned (sym c.requires.clauses) (signed_families window (c.windows_are_formed.ensures window c.segments.ensures.window))

pub returns : goal.returns
returns c =
    let window : WindowForm = c.args.window.now in
    let points : List Point = c.as_slice-events.result.now in
    let clauses : List (List SymbolicLit) = c.args.clauses.now in
    let first : List Symbol = c.in_ok-names.names in
    let names : List Symbol = c.problem_of.new.names in
    let sizes = c.in_ok-sizes.sizes in
    let same = c.in_ok-problem.ensures.names in
    let based = encoded_is window points first names clauses (map kind_of (names_of first clauses)) (flat_map edge_to points) (numbered first clauses) sizes
    (c.as_slice-events.ensures ∙ c.requires.points) c.in_ok-names.ensures c.requires.clauses refl same (ap (map kind_of) (sym same)) refl
    (c.in_ok-sizes.ensures ∙ ap (λ (segments : List (List Event)). map (λ segment. length segment) segments) c.segments.ensures.value)
    (record { points = c.requires.few_points; clauses = subst (λ (cs : List (List SymbolicLit)). length cs ≤ 500000) c.requires.clauses c.requires.few_clauses }) in
    subst (λ (ps : List Point). IsBase window ps names sizes c.in_ok-problem.problem) c.as_slice-events.ensures
    (subst (λ (problem : Problem). IsBase window points names sizes problem) (sym c.in_ok-problem.ensures.problem) based)
