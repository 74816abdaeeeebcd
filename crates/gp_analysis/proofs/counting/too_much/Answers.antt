-- Where what is listed is not too much, neither is what has a ticket.
use Rattle.std.proofs.Common.{◌≡◌, ◌*◌, ◌∙◌, sym, subst, false, nat_lt, ℕ}
use Rattle.gp_analysis.proofs.Counted.{not_too_much}
use Rattle.gp_analysis.proofs.counting.too_much.Goals as goal

pub returns-then-not-is_too_much : goal.returns-then-not-is_too_much
returns-then-not-is_too_much g c =
    let few : c.is_too_much.result ≡ false = search in
    let is : nat_lt 1000000 (c.in_ok-listed.listed * c.args.budget) ≡ false = sym c.is_too_much.ensures ∙ few in
    not_too_much (g.Q.Question.form c.args.question.now) c.laws.ensures.large c.args.recording.now c.args.budget
    (subst (λ (n : ℕ). nat_lt 1000000 (n * c.args.budget) ≡ false) c.in_ok-listed.ensures.total is)
