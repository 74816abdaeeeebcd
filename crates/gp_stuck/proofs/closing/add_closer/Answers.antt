-- What is pushed stands there, and what stood there still does.
use Rattle.std.proofs.Common.{[], ◌∷◌}
use Rattle.std.specs.Prelude.{if◌then◌else◌}
use Rattle.std.specs.Str.{bytes_eq}
use Rattle.std.proofs.lemmas.Result.{on_ok_weaker}
use Rattle.gp_constraint.specs.Tables.{entry_at}
use Rattle.gp_stuck.specs.Closing.{closer_of}
use Rattle.gp_stuck.proofs.Ways.{kept_at, pushed}
use Rattle.gp_stuck.proofs.closing.add_closer.Goals as goal

pub returns-clause-kept : goal.returns-clause-kept
returns-clause-kept c = on_ok_weaker c.push.result (λ at lock closer among.
    kept_at (entry_at c.args.closers.now lock) (entry_at c.push.new.self lock) (if bytes_eq c.args.link.now.held lock then closer_of c.args.link.now ∷ [] else []) closer (at lock) among) c.push.ensures

pub returns-clause-added : goal.returns-clause-added
returns-clause-added c = on_ok_weaker c.push.result (λ at above waits.
    pushed (entry_at c.args.closers.now c.args.link.now.held) (entry_at c.push.new.self c.args.link.now.held) c.args.link.now.held (closer_of c.args.link.now) (at c.args.link.now.held)) c.push.ensures
