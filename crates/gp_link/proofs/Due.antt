-- A problem that is due is valid.
use Rattle.std.proofs.Common.{◌≡◌, ◌≢◌, ◌≤◌, ◌+◌, sym, refl, subst, Bool, true, false, arith, length}
use Rattle.std.specs.Prelude.{Result, Ok, Err, IfOk, if◌then◌else◌, nat_lt}
use Rattle.std.proofs.lemmas.Bool.Decides.{nat_tests}
use Rattle.gp_clause.specs.Problem.{IsValidProblem}
use Rattle.gp_window.specs.WindowForm.{WindowForm}
use Rattle.gp_constraint.specs.Base.{clauses_of}
use Rattle.gp_constraint.specs.Encoded.{IsEncodable}
use Rattle.gp_constraint.specs.Extended.{ExtensionsMean}
use Rattle.gp_constraint.specs.Extending.{extended_of, ExtendedForm}
use Rattle.gp_constraint.specs.Points.{points_of}
use Rattle.gp_link.specs.declared.fault.LinkFault.{LinkFault}
use Rattle.gp_link.specs.declared.fault.LinkFault.TheVariants.{Memory, TooLarge}
use Rattle.gp_link.specs.LinkClauses.{link_clauses}
use Rattle.gp_link.specs.LinkProblem.{link_due}
use Rattle.gp_link.proofs.Fit.{clauses_fit}

valid_where : ExtensionsMean → (window next : WindowForm) (form : ExtendedForm) (b : Bool) → IsEncodable window
    → nat_lt 500000 (length (clauses_of window) + length (link_clauses window next)) ≡ b
    → ◌≡◌ {A = Result ExtendedForm LinkFault} (Ok form) (if b then Err (TooLarge (length (points_of window)) 500001) else Ok (extended_of window (link_clauses window next)))
    → IsValidProblem form.problem
valid_where extend window next form true is test due = absurd (cc)
valid_where extend window next form false is test due =
    let same : form ≡ extended_of window (link_clauses window next) = cc in
    let limit : length (clauses_of window) + length (link_clauses window next) ≤ 500000 = grind (arith, nat_tests) in
    subst (λ (f : ExtendedForm). IsValidProblem f.problem) (sym same)
    (extend.valid window (link_clauses window next) is.points limit (clauses_fit window next is.points))

pub valid_due : ExtensionsMean → (window next : WindowForm) (result : Result ExtendedForm LinkFault) → IsEncodable window
    → (result ≢ Err Memory → result ≡ link_due window next) → IfOk result (λ form. IsValidProblem form.problem)
valid_due extend window next (Ok form) is due =
    let given : ◌≡◌ {A = Result ExtendedForm LinkFault} (Ok form) (link_due window next) = due (λ e. cc) in
    valid_where extend window next form (nat_lt 500000 (length (clauses_of window) + length (link_clauses window next))) is refl given
valid_due extend window next (Err fault) is due = tt
