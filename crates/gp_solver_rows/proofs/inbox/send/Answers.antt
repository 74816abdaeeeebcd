-- Fewer than a thousand clauses of all senders are fewer than 1,024 of one.
use Rattle.std.proofs.Common.{ℕ, ◌==◌, ◌≤◌, List, length, arith}
use Rattle.std.proofs.lemmas.List.Sums.{count_by-le-length, length-filter}
use Rattle.crossbeam_queue.specs.Passes.{view}
use Rattle.gp_derivation.specs.declared.exchange.SharedClause.{SharedClause}
use Rattle.gp_inbox.specs.History.{sent_by}
use Rattle.gp_solver_rows.proofs.inbox.send.Goals as goal

-- no more clauses of a sender than clauses
sent_within : (sender : ℕ) (clauses : List SharedClause) → length (sent_by sender clauses) ≤ length clauses
sent_within sender clauses =
    let kept = length-filter (λ (clause : SharedClause). clause.sender == sender) clauses in
    let few = count_by-le-length (λ (clause : SharedClause). clause.sender == sender) clauses in omega (arith, kept, few)

pub offer-requires-clause-room : goal.offer-requires-clause-room
offer-requires-clause-room g c =
    let part : length (sent_by c.shared_of-shared.result.sender (view c.args.pass.now).pushed) ≤ length (view c.args.pass.now).pushed = sent_within _ _ in
    omega (arith, part, c.requires.few)
