-- What is told of the window is told of the link.
use Rattle.std.proofs.Common.{◌≡◌, ◌∙◌, sym}
use Rattle.std.specs.Prelude.{Result, Ok}
use Rattle.std.proofs.lemmas.Result.{err_from_is_err_and}
use Rattle.gp_window.specs.WindowForm.{WindowForm}
use Rattle.gp_constraint.specs.declared.fault.BaseFault.{BaseFault}
use Rattle.gp_constraint.specs.Encoded.{base_due}
use Rattle.gp_linked.proofs.Due.{fault_told, link_is_due}
use Rattle.gp_linked.proofs.problem.problem_of.Goals as goal

pub returns-in_err-encoded : goal.returns-in_err-encoded
returns-in_err-encoded c =
    let p = err_from_is_err_and c.from_residual.result c.from_residual.ensures.1 in
    rw (p.1, p.2) (fault_told c.args.window c.args.next.now _ c.in_err-encoded.ensures)

pub returns : goal.returns
returns c = λ apart.
    let due : ◌≡◌ {A = Result WindowForm BaseFault} (Ok c.in_ok-encoded.encoded) (base_due c.args.window) = c.in_ok-encoded.ensures (λ e. cc) in
    c.link_problem.ensures.due apart ∙ sym (link_is_due c.args.window c.args.next.now c.in_ok-encoded.encoded (sym due))
