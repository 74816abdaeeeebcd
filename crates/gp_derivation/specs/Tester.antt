-- What callers see of it.
use Rattle.std.specs.Prelude.{ℕ, ◌≡◌, List, []}
use Rattle.gp_clause.specs.declared.edge.Edge.{Edge}
use Rattle.gp_clause.specs.declared.kind.Kind.{Kind}
use Rattle.gp_derivation.specs.declared.tester.Tester.TheInside.{Inside}

-- a tester: the fixed edges on so many points, and the kinds of the variables, the first of which last when locals change
pub record TesterForm : Type 0 where
  pub points : ℕ
  pub edges : List Edge
  pub lasting : List Kind
  pub kinds : List Kind

-- between calls no clause is loaded and nothing is assumed
pub record IsUnloaded (tester : Inside) : Type 0 where
  pub empty : tester.bench.loaded ≡ []
  pub nothing : tester.bench.assumed ≡ []
