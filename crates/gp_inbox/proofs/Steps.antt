-- The steps of an inbox, as the queue asks for them.
use Rattle.std.proofs.Common.{◌≡◌, refl, ℕ, ◌<◌, true, Some, IsSome, List, [], length}
use Rattle.crossbeam_queue.specs.Fifo.{Forks, Learns, Merges, Pops, Pushes}
use Rattle.gp_clause.specs.declared.problem.Problem.{Problem}
use Rattle.gp_derivation.specs.declared.exchange.SharedClause.{SharedClause}
use Rattle.gp_inbox.specs.declared.rule.View.{View}
use Rattle.gp_inbox.specs.History.{sent_by}
use Rattle.gp_inbox.specs.Rule.{Kept}
use Rattle.gp_inbox.specs.Senders.{AllDifferent}
use Rattle.gp_inbox.specs.Views.{blank, HasRoom, IsGoodFor, IsWhole, joined, left_of, MayPush, one_of, opened, Owes, pushed_one, spent, Takes, took_one}
use Rattle.gp_inbox.proofs.Joining.{keeps_join}
use Rattle.gp_inbox.proofs.Learning.{has_room, owes}
use Rattle.gp_inbox.proofs.Beginning.{keeps_open}
use Rattle.gp_inbox.proofs.Parting.{keeps_part}
use Rattle.gp_inbox.proofs.Pushing.{keeps_push}
use Rattle.gp_inbox.proofs.Renewing.{keeps_renewal}
use Rattle.gp_inbox.proofs.Taking.{keeps_take}

-- a clause is pushed
pub pushes : (cap seat : ℕ) (view : View) (clause : SharedClause) → IsGoodFor view.base clause → MayPush view clause.sender → length (sent_by clause.sender view.pushed) < 1024
    → Pushes Kept cap seat view clause (λ after. after ≡ pushed_one view clause)
pushes cap seat view clause good may room held views free kept at = (pushed_one view clause, keeps_push held views seat view clause kept at good may room, refl)

-- a clause is taken
pub takes : (seat : ℕ) (view : View) → view.takes ≡ true → Pops Kept seat view (Takes view)
takes seat view may clause held views kept at = let taken = keeps_take held views seat view clause kept at may in (took_one view clause, taken.0, taken.1)

-- a taker learns what the queue holds of its own numbers
pub learns_owed : (seat : ℕ) (view : View) → view.takes ≡ true → Learns Kept seat view (Owes view)
learns_owed seat view may held views kept at = owes held views seat view kept at may

-- a sender learns that there is room
pub learns_room : (seat : ℕ) (view : View) → IsSome view.base → Learns Kept seat view (HasRoom view)
learns_room seat view there held views kept at = has_room held views seat view kept at there

-- a number is handed over
pub parts : (seat : ℕ) (view : View) → IsSome view.base → view.pushed ≡ [] → view.takes ≡ true → 0 < length view.numbers → Forks Kept seat view (left_of view) (one_of view)
parts seat view there unused takes left held views kept at = keeps_part held views seat view kept at there unused takes left

-- the first pass is opened
pub opens : (seat : ℕ) (view : View) (base : Problem) → (senders : List ℕ) → view ≡ blank → AllDifferent senders → Forks Kept seat view (opened (Some base) senders) spent
opens seat view base senders is different held views kept at = keeps_open held views seat view base senders kept at is different

-- a pass that is whole is opened again
pub reopens : (seat : ℕ) (view : View) (base : Problem) → (senders : List ℕ) → IsWhole view → senders ≡ view.senders → Forks Kept seat view (opened (Some base) senders) spent
reopens seat view base senders whole same held views kept at = keeps_renewal held views seat view base senders kept at whole same

-- two passes become one
pub joins : (seat : ℕ) (view : View) (other : ℕ) (one : View) → IsSome view.base → Merges Kept seat view other one (joined view one) spent
joins seat view other one there held views kept at apart at_other = keeps_join held views seat view other one kept at apart at_other there
