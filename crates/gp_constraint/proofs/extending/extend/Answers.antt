use Rattle.std.proofs.Common.{◌≡◌, ℕ, List, subst}
use Rattle.std.specs.Prelude.{IfOk}
use Rattle.gp_clause.specs.declared.problem.Problem.{Problem}
use Rattle.gp_window.specs.WindowForm.{WindowForm}
use Rattle.gp_constraint.specs.declared.symbol.Symbol.{Symbol}
use Rattle.gp_constraint.specs.declared.symbol.SymbolicLit.{SymbolicLit}
use Rattle.gp_constraint.specs.Base.{base_of, names_in}
use Rattle.gp_constraint.specs.Extending.{ExtendedForm, extended_of, with_further}
use Rattle.gp_constraint.specs.Points.{sizes_of}
use Rattle.gp_constraint.proofs.extending.extend.Goals as goal

-- further clauses behind the problem of a window
further_is : (window own : WindowForm) (problem : Problem) (names : List Symbol) (sizes : List ℕ) (more : List (List SymbolicLit))
    → own ≡ window → problem ≡ base_of window → names ≡ names_in window → sizes ≡ sizes_of window
    → with_further own problem names sizes more ≡ extended_of window more
further_is window own problem names sizes more w p n s = λ i. with_further (w i) (p i) (n i) (s i) more

pub returns : goal.returns
returns c =
    subst (λ (form : ExtendedForm). IfOk c.with_further.result (λ extended. extended ≡ form))
    (further_is c.args.encoded c.into_parts-window.result.0 c.into_parts-window.result.1 c.into_parts-window.result.2 c.into_parts-window.result.3 c.args.more.now
    c.into_parts-window.ensures.window c.into_parts-window.ensures.problem c.into_parts-window.ensures.names c.into_parts-window.ensures.sizes)
    c.with_further.ensures
