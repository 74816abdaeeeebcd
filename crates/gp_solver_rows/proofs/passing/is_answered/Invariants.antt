-- The mail gives the clauses that wait.
use Rattle.gp_solver_rows.proofs.passing.is_answered.Given as goal

abbrev pub ghosts-asks : goal.ghosts-asks
ghosts-asks g a = record { all = a.waiting.items }
