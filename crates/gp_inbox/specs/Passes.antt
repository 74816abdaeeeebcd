-- Which passes belong to which inbox.
use Rattle.std.specs.Prelude.{◌≡◌, ◌*◌, IsSome, length}
use Rattle.crossbeam_queue.specs.Passes.{IsPassOf, Pass, ruled_capacity, view}
use Rattle.gp_derivation.specs.declared.exchange.SharedClause.{SharedClause}
use Rattle.gp_inbox.specs.declared.inbox.Inbox.{Inbox}
use Rattle.gp_inbox.specs.declared.rule.View.{View}

-- the pass belongs to this inbox, which has 1,024 places for each of the senders that the pass knows
pub record IsOf (inbox : Inbox) (pass : Pass SharedClause View) : Type 0 where
  pub queue : IsPassOf inbox.queue pass
  pub opened : IsSome (view pass).base
  pub room : ruled_capacity inbox.queue ≡ 1024 * length (view pass).senders
