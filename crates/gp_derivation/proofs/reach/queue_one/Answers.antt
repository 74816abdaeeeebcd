use Rattle.std.proofs.Common.{◌-◌}
use Rattle.gp_derivation.proofs.Descending.{inserted, named_one, base_named}
use Rattle.gp_derivation.proofs.reach.queue_one.Goals as goal

pub returns-then-hint-base_clauses : goal.returns-then-hint-base_clauses
returns-then-hint-base_clauses c = base_named c.args.base_clauses c.args.hint c.args.todo.now.keys c.if-hint-base_clauses.true

pub returns : goal.returns
returns c = named_one c.args.base_clauses c.args.hint c.args.todo.now.keys c.insert.new.self.keys c.if-hint-base_clauses.false
    (inserted c.args.todo.now c.insert.new.self (c.args.hint - c.args.base_clauses) c.in_ok-insert.ensures.updates)
