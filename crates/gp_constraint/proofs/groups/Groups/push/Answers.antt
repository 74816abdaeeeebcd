use Rattle.std.proofs.Common.{ap, ◌∙◌, List, [], ◌∷◌, ◌++◌, ℕ, cond}
use Rattle.std.specs.Prelude.{Some}
use Rattle.std.specs.BTreeMap.{is_at}
use Rattle.std.specs.Cmp.Lexicographic.{slice_cmp}
use Rattle.std.specs.Ordering.{nat_cmp}
use Rattle.gp_base.specs.Table.{value_at}
use Rattle.gp_constraint.proofs.Grouped.{grouped_more}
use Rattle.gp_constraint.proofs.groups.Groups.push.Goals as goal

pub returns : goal.returns
returns g c =
    let name : List ℕ = c.args.name in
    let row : List g.row.T.Denot = c.take-row.result in
    grouped_more {X = g.row.T.Denot} (λ q. value_at (slice_cmp nat_cmp) c.args.self.now q) (λ q. value_at (slice_cmp nat_cmp) c.take-row.new.self q)
    (λ q. value_at (slice_cmp nat_cmp) c.insert.new.self.entries q) name row c.args.value c.take-row.ensures.row c.take-row.ensures.rest
    (λ q. c.in_ok-insert.ensures.updates.0 q
    ∙ ap (λ (r : List g.row.T.Denot). cond (is_at (slice_cmp nat_cmp name) q) (Some r) (value_at (slice_cmp nat_cmp) c.self.inside.map.entries q)) c.in_ok-push.ensures.ok
    ∙ ap (λ (es : List (List ℕ × List g.row.T.Denot)). cond (is_at (slice_cmp nat_cmp name) q) (Some (row ++ c.args.value ∷ [])) (value_at (slice_cmp nat_cmp) es q)) c.self.view_is)
