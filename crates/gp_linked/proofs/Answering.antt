-- What is asked of a window and the next, and what the answer says.
use Rattle.std.proofs.Common.{ℕ, ◌≡◌, ◌+◌, ◌<◌, ◌≤◌, ◌∙◌, ap, sym, subst, List, [], ◌∷◌, ◌++◌, length, length-append, arith}
use Rattle.std.proofs.lemmas.List.Elements.{All-cons, All-from_recursion, All-nil}
use Rattle.gp_certificate.specs.declared.certificate.Certificate.{Certificate}
use Rattle.gp_certificate.specs.Certificate.{RefutedMeans, Refutes}
use Rattle.gp_clause.specs.declared.lit.Lit.{Lit}
use Rattle.gp_clause.specs.declared.problem.Problem.{Problem}
use Rattle.gp_clause.specs.Problem.{IsValidKind, IsValidQuery}
use Rattle.gp_window.specs.WindowForm.{IsWindow, WindowForm}
use Rattle.gp_constraint.specs.declared.symbol.SymbolicLit.{SymbolicLit}
use Rattle.gp_constraint.specs.Base.{clauses_of, first_names}
use Rattle.gp_constraint.specs.EncodedLaws.{numbered_size}
use Rattle.gp_constraint.specs.Extended.{ExtensionsMean, nothing_asked}
use Rattle.gp_constraint.specs.Laws.{ProblemsAreValid}
use Rattle.gp_workers.specs.Work.{CanBeAsked}
use Rattle.gp_whole.specs.Linked.{IsLinked}
use Rattle.gp_link.specs.LinkClauses.{link_clauses}
use Rattle.gp_link.specs.LinkLaws.{LinksAreValid}
use Rattle.gp_link.specs.LinkProblem.{link_problem_of}
use Rattle.gp_linked.specs.Due.{IsSized}
use Rattle.gp_linked.specs.LinkedLaws.{LinksAreAnswered}

valid_query : (problem : Problem) → IsValidQuery problem nothing_asked
valid_query problem = record {
  few_locals = omega arith;
  locals = All-from_recursion (IsValidKind problem.points) [] tt;
  assumed = All-from_recursion (λ (lit : Lit). lit.variable < length problem.kinds + 0) [] tt;
  once = λ variable. omega arith;
}

-- the problem of a window and the next has no more clauses than both
pub few_clauses : ExtensionsMean → (window next : WindowForm) → IsSized window next → length (link_problem_of window next).clauses ≤ 500000
few_clauses extend window next sized =
    let more : List (List SymbolicLit) = link_clauses window next in
    let size : length (link_problem_of window next).clauses ≡ length (clauses_of window) + length more =
    ap length (extend.clauses window more) ∙ numbered_size (first_names window) (clauses_of window ++ more) ∙ length-append (clauses_of window) more in
    omega (arith, size, sized.clauses)

-- the problem of a window and the next that are not too large can be asked
pub can_be_asked : ExtensionsMean → ProblemsAreValid → LinksAreValid → (window next : WindowForm) (problem : Problem) (budget : ℕ) → problem ≡ link_problem_of window next
    → IsSized window next → 1 ≤ budget → budget ≤ 1000000 → CanBeAsked problem (nothing_asked ∷ []) budget
can_be_asked extend valid links window next problem budget is sized least most =
    subst (λ (p : Problem). CanBeAsked p (nothing_asked ∷ []) budget) (sym is) (record {
      valid = links.problem window next sized.points sized.clauses;
      solvable = valid.solvable window;
      each = All-cons (IsValidQuery (link_problem_of window next)) nothing_asked [] (valid_query (link_problem_of window next))
          (All-nil (IsValidQuery (link_problem_of window next)));
      few = record { few_clauses = few_clauses extend window next sized; least = least; few = omega (arith, most) };
    })

-- where a certificate refutes the problem of a window and the next, no schedule links the two
pub unlinkable : RefutedMeans → LinksAreAnswered → (window next : WindowForm) (certificate : Certificate) → IsWindow window → IsWindow next → IsSized window next
    → Refutes (link_problem_of window next) nothing_asked certificate → IsLinked window next → ⊥
unlinkable refuted answered window next certificate is is_next sized refutes linked =
    let found = answered.answer window next linked.0 is is_next sized.points sized.clauses linked.1 in
    refuted.no_answer (link_problem_of window next) nothing_asked certificate refutes found.0 found.1
