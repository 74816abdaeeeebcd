-- The passes of new inboxes, dealt to the workers.
use Rattle.std.specs.Prelude.{ℕ, ◌≡◌, List, [], ◌∷◌, ◌++◌, Some, length, slice_get, Option, None}
use Rattle.std.specs.Global.{Vec}
use Rattle.crossbeam_queue.specs.Passes.{Pass, view}
use Rattle.gp_clause.specs.declared.problem.Problem.{Problem}
use Rattle.gp_derivation.specs.declared.exchange.SharedClause.{SharedClause}
use Rattle.gp_inbox.specs.declared.inbox.Inbox.{Inbox}
use Rattle.gp_inbox.specs.declared.rule.View.{View}
use Rattle.gp_workers.specs.Desk.{PassesAre}
use Rattle.gp_workers.specs.SharedCrew.{IsNew, Drains}
use Rattle.gp_inbox.specs.Passes.{IsOf}
use Rattle.gp_inbox.specs.Views.{joined}

-- the passes of so many workers of the inboxes that are open
pub record AreColumns (problem : Problem) (count : ℕ) (inboxes : List Inbox) (columns : List (Vec (Pass SharedClause View))) : Type 0 where
  pub len : length columns ≡ count
  pub each : (own : ℕ) (column : Vec (Pass SharedClause View)) → slice_get columns own ≡ Some column → PassesAre inboxes (IsNew problem count own) column.items

-- a worker got a pass of one row more
pub record IsDealt (columns : List (Vec (Pass SharedClause View))) (row : List (Pass SharedClause View)) (place : ℕ) (column : Vec (Pass SharedClause View)) : Type 0 where
  pub before : Vec (Pass SharedClause View)
  pub pass : Pass SharedClause View
  pub is_before : slice_get columns place ≡ Some before
  pub is_pass : slice_get row place ≡ Some pass
  pub now : column.items ≡ before.items ++ pass ∷ []

-- there is one pass of each inbox
pub record IsOfEach (inboxes : List Inbox) (passes : List (Pass SharedClause View)) : Type 0 where
  pub len : length passes ≡ length inboxes
  pub each : (place : ℕ) (inbox : Inbox) (pass : Pass SharedClause View) → slice_get inboxes place ≡ Some inbox → slice_get passes place ≡ Some pass → IsOf inbox pass

-- the passes of each worker
abbrev pub AreRows : List Inbox → List (Vec (Pass SharedClause View)) → Type 0
AreRows inboxes [] = Unit {0}
AreRows inboxes (row ∷ rows) = IsOfEach inboxes row.items × AreRows inboxes rows

-- a pass that is drained stands where another stood
pub record DrainsAt (old : List (Pass SharedClause View)) (place : ℕ) (pass : Pass SharedClause View) : Type 0 where
  pub before : Pass SharedClause View
  pub is : slice_get old place ≡ Some before
  pub drains : Drains (view before) (view pass)

-- what a pass knows that another is joined to
abbrev pub joined_by : View → Option (Pass SharedClause View) → View
joined_by seen None = seen
joined_by seen (Some pass) = joined seen (view pass)

-- what a pass of the inbox at a place knows after those of some workers were joined to it, one after another
abbrev pub all_joined : View → ℕ → List (Vec (Pass SharedClause View)) → View
all_joined seen place [] = seen
all_joined seen place (row ∷ rows) = all_joined (joined_by seen (slice_get row.items place)) place rows

-- the passes of the first worker, after those of the others were joined to them
abbrev pub AreJoined : List Inbox → List (Vec (Pass SharedClause View)) → List (Pass SharedClause View) → Type 0
AreJoined inboxes [] passes = ⊥
AreJoined inboxes (first ∷ rows) passes = IsOfEach inboxes passes
    × ((place : ℕ) (pass : Pass SharedClause View) → slice_get passes place ≡ Some pass → (one : Pass SharedClause View) × (slice_get first.items place ≡ Some one) × (view pass ≡ all_joined (view one) place rows))
