-- What the workers that share hand back, and what is made of it.
use Rattle.std.specs.Prelude.{ℕ, ◌≡◌, ◌+◌, ◌<◌, List, [], ◌++◌, Some, length, map, slice_get, slice_index_or, ◌∷◌}
use Rattle.crossbeam_queue.specs.Passes.{Pass, view}
use Rattle.gp_clause.specs.declared.problem.Problem.{Problem}
use Rattle.gp_derivation.specs.declared.exchange.SharedClause.{SharedClause}
use Rattle.gp_derivation.specs.declared.record.WorkerRecord.{WorkerRecord}
use Rattle.gp_inbox.specs.declared.inbox.Inbox.{Inbox}
use Rattle.gp_inbox.specs.declared.rule.View.{View}
use Rattle.gp_inbox.specs.Passes.{IsOf}
use Rattle.gp_inbox.specs.Views.{IsDrained, joined}
use Rattle.gp_search.specs.Mail.{taken_entry}
use Rattle.gp_workers.specs.declared.crew.Hired.{Hired}
use Rattle.gp_workers.specs.declared.crew.Worked.{Worked}
use Rattle.gp_workers.specs.declared.crew.SharingJob.{SharingJob}
use Rattle.gp_tickets.specs.declared.tickets.Tickets.{Tickets}
use Rattle.gp_workers.specs.Crew.{IsJob, IsDone}
use Rattle.gp_workers.specs.Desk.{Knows, PassesAre, taken_by}
use Rattle.gp_workers.specs.Sharing.{OffersAll, pushed_to, TakesFromOthers}
use Rattle.gp_workers.specs.Mail.{taken_entries}
use Rattle.gp_clause.specs.declared.problem.Query.{Query}
use Rattle.gp_workers.specs.declared.crew.Shared.{Shared}

-- what a pass knows that sent nothing and took nothing
abbrev pub IsNew : Problem → ℕ → ℕ → ℕ → View → Type 0
IsNew problem count own taker seen = Knows problem count own taker [] seen × (seen.taken ≡ [])

-- the passes of the worker at a place, before it begins
abbrev pub AreNew : Problem → List Inbox → ℕ → List (Pass SharedClause View) → Type 0
AreNew problem inboxes place passes = PassesAre inboxes (IsNew problem (length inboxes) place) passes

-- the job of the worker at a place, among others
abbrev pub IsSharingJob : Tickets → Problem → List Inbox → ℕ → SharingJob → Type 0
IsSharingJob tickets problem inboxes place sharing = IsJob tickets (place + 1) sharing.job × AreNew problem inboxes place sharing.passes.items

-- the jobs of the workers, by place
abbrev pub AreSharingJobs : Tickets → Problem → List Inbox → List SharingJob → Type 0
AreSharingJobs tickets problem inboxes jobs = (place : ℕ) (d : SharingJob) → place < length jobs → IsSharingJob tickets problem inboxes place (slice_index_or jobs place d)

-- so many workers share so many tickets, and each has an inbox and a job
pub record AreHired (problem : Problem) (count workers : ℕ) (hired : Hired) : Type 0 where
  pub all_tickets : hired.tickets.count ≡ count
  pub crew : hired.tickets.crew ≡ workers
  pub own_inboxes : length hired.inboxes.items ≡ workers
  pub own_jobs : length hired.jobs.items ≡ workers
  pub each : AreSharingJobs hired.tickets problem hired.inboxes.items hired.jobs.items

-- what the worker at a place hands back: its passes know what its record marks as pushed, and what its log took from the others
pub record IsShared (problem : Problem) (inboxes : List Inbox) (place : ℕ) (record_of : WorkerRecord) (passes : List (Pass SharedClause View)) : Type 0 where
  pub offers : OffersAll problem (length inboxes) record_of
  pub each : PassesAre inboxes (λ taker seen. Knows problem (length inboxes) place taker (pushed_to record_of place taker) seen) passes
  pub taken : map taken_entry (taken_by (slice_get passes place)) ≡ taken_entries record_of.log
  pub from : TakesFromOthers (length inboxes) place record_of.log

-- the same work, but for what was offered
pub record SameButOffers (old new : Worked) : Type 0 where
  pub drawn : new.drawn ≡ old.drawn
  pub log : new.record.log ≡ old.record.log
  pub turns : new.record.turns ≡ old.record.turns

-- the row of passes of one inbox, by worker
pub record IsRow (problem : Problem) (count taker : ℕ) (inbox : Inbox) (row : List (Pass SharedClause View)) : Type 0 where
  pub len : length row ≡ count
  pub each : (own : ℕ) (pass : Pass SharedClause View) → slice_get row own ≡ Some pass → IsOf inbox pass × IsNew problem count own taker (view pass)

-- a pass at a place was joined to another
pub record JoinsAt (old row : List (Pass SharedClause View)) (place : ℕ) (pass : Pass SharedClause View) : Type 0 where
  pub one : Pass SharedClause View
  pub other : Pass SharedClause View
  pub is_one : slice_get old place ≡ Some one
  pub is_other : slice_get row place ≡ Some other
  pub both : view pass ≡ joined (view one) (view other)

-- all is taken that is left
pub record Drains (old new : View) : Type 0 where
  pub more : List SharedClause
  pub is : new ≡ record old { taken = old.taken ++ more }
  pub drained : IsDrained new

-- what the worker at a place hands back: its work, and its passes
pub record IsHandedBack (tickets : Tickets) (problem : Problem) (queries : List Query) (budget : ℕ) (inboxes : List Inbox) (place : ℕ) (shared : Shared) : Type 0 where
  pub done : IsDone tickets problem queries budget (place + 1) shared.worked
  pub shares : IsShared problem inboxes place shared.worked.record shared.passes.items

-- what the workers hand back that stand from a place on
abbrev pub AreHandedBack : Tickets → Problem → List Query → ℕ → List Inbox → ℕ → List Shared → Type 0
AreHandedBack tickets problem queries budget inboxes place [] = Unit {0}
AreHandedBack tickets problem queries budget inboxes place (shared ∷ more) =
    IsHandedBack tickets problem queries budget inboxes place shared × AreHandedBack tickets problem queries budget inboxes (place + 1) more
