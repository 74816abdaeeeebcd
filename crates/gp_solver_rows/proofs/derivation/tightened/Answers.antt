use Rattle.std.proofs.Common.{ℕ, ◌+◌, List, [], ◌++◌, length, All, arith}
use Rattle.std.proofs.lemmas.List.{append-nil}
use Rattle.gp_clause.specs.declared.lit.Lit.{Lit}
use Rattle.gp_clause.specs.Clause.{NamesBelow}
use Rattle.gp_base.specs.ListLaws.{got_all}
use Rattle.gp_certificate.specs.NamedLaws.{named_all}
use Rattle.gp_certificate.specs.Step.{named}
use Rattle.gp_solver_rows.proofs.derivation.tightened.Goals as goal

-- what a problem's clauses name is below a greater count too, and so is what those of them that hints name
names_below : (m n : ℕ) (clauses : List (List Lit)) (hints : List ℕ) → All (NamesBelow m) clauses → All (NamesBelow (m + n)) (named (clauses ++ []) hints)
names_below m n clauses hints all = named_all (NamesBelow (m + n)) (clauses ++ []) hints (λ hint clause is got.
    let below : NamesBelow m clause = got_all (NamesBelow m) (clauses ++ []) hint clause (rw (append-nil clauses) all) got in
    λ k d within. omega (arith, below k d within))

pub tight-requires-clause-within : goal.tight-requires-clause-within
tight-requires-clause-within g c = names_below (length c.args.problem.now.kinds) (length c.args.query.now.locals) c.args.problem.now.clauses c.only_step-step.result.hints c.requires.valid.clauses
