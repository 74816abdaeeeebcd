use Rattle.std.proofs.Common.{◌≡◌, ◌+◌, ◌∙◌, ap, arith, length}
use Rattle.gp_clause.specs.declared.problem.Problem.{Problem}
use Rattle.gp_notify.specs.Extended.{new_size, old_size}
use Rattle.gp_notify.proofs.Numbers.{sizes_joined}
use Rattle.gp_notify.proofs.notify_problem.NotifyProblem.new_size.Goals as goal

pub overflow_sub-result : goal.overflow_sub-result
overflow_sub-result c =
    let size : c.len.result ≡ old_size c.args.self.now + new_size c.args.self.now =
    c.len.ensures ∙ ap (λ (p : Problem). length p.kinds) c.problem.ensures.problem ∙ sizes_joined c.args.self.now in
    omega (arith, size, c.old_size.ensures)

pub returns : goal.returns
returns c =
    let size : c.len.result ≡ old_size c.args.self.now + new_size c.args.self.now =
    c.len.ensures ∙ ap (λ (p : Problem). length p.kinds) c.problem.ensures.problem ∙ sizes_joined c.args.self.now in
    omega (arith, size, c.old_size.ensures)
