-- What a worker knows of the inboxes, by its passes.
use Rattle.std.specs.Prelude.{ℕ, ◌≡◌, ◌+◌, ◌-◌, ◌<◌, ◌≤◌, true, false, List, [], ◌∷◌, ◌++◌, Option, None, Some, length, map, take, slice_get, All, replicate}
use Rattle.crossbeam_queue.specs.Passes.{Pass, view}
use Rattle.gp_clause.specs.declared.lit.Lit.{Lit}
use Rattle.gp_clause.specs.declared.problem.Problem.{Problem}
use Rattle.gp_derivation.specs.declared.exchange.SharedClause.{SharedClause}
use Rattle.gp_derivation.specs.declared.record.Offered.{Offered}
use Rattle.gp_derivation.specs.Exchange.{IsGood}
use Rattle.gp_inbox.specs.declared.inbox.Inbox.{Inbox}
use Rattle.gp_inbox.specs.declared.rule.View.{View}
use Rattle.gp_inbox.specs.History.{sent_by}
use Rattle.gp_inbox.specs.Passes.{IsOf}
use Rattle.gp_inbox.specs.Views.{NamesOneOf}
use Rattle.gp_search.specs.Mail.{MailForm, Gives}
use Rattle.gp_workers.specs.declared.desk.Desk.{Desk}
use Rattle.gp_workers.specs.declared.desk.Outgoing.{Outgoing}
use Rattle.gp_workers.specs.Sharing.{AreMarked, others}
use Rattle.std.specs.Arc.{arc_value}
use Rattle.gp_derivation.specs.declared.record.Sent.{Sent}

-- the pass may take, and pushes nothing
pub record IsTaking (seen : View) : Type 0 where
  pub numbers : seen.numbers ≡ []
  pub takes : seen.takes ≡ true
  pub pushed : seen.pushed ≡ []

-- the pass pushed these clauses under one number, and takes nothing
pub record IsSending (number : ℕ) (sent : List (List Lit)) (seen : View) : Type 0 where
  pub numbers : seen.numbers ≡ number ∷ []
  pub takes : seen.takes ≡ false
  pub taken : seen.taken ≡ []
  pub pushed : map (λ (shared : SharedClause). shared.clause) seen.pushed ≡ sent
  pub own : All (λ (shared : SharedClause). shared.sender ≡ number) seen.pushed

-- what the pass of the worker at one place knows of the inbox of the worker at another
pub record Knows (problem : Problem) (count own taker : ℕ) (sent : List (List Lit)) (seen : View) : Type 0 where
  pub base : seen.base ≡ Some problem
  pub senders : seen.senders ≡ others count taker
  pub taking : taker ≡ own → IsTaking seen
  pub sending : (taker ≡ own → ⊥) → IsSending (own + 1) sent seen

-- there is one pass of each inbox, which knows what is said by the place of the inbox
pub record PassesAre (inboxes : List Inbox) (knows : ℕ → View → Type 0) (passes : List (Pass SharedClause View)) : Type 0 where
  pub len : length passes ≡ length inboxes
  pub each : (place : ℕ) (inbox : Inbox) (pass : Pass SharedClause View) → slice_get inboxes place ≡ Some inbox → slice_get passes place ≡ Some pass
      → IsOf inbox pass × knows place (view pass)

-- the clauses that were offered
abbrev pub clauses_of : List Outgoing → List (List Lit)
clauses_of outgoing = map (λ (one : Outgoing). one.clause) outgoing

-- the clauses that were pushed: the first 1,024
abbrev pub sent_of : List Outgoing → List (List Lit)
sent_of outgoing = clauses_of (take 1024 outgoing)

-- what is recorded of the offers
abbrev pub offers_of : List Outgoing → List Offered
offers_of outgoing = map (λ (one : Outgoing). one.offered) outgoing

-- what was taken through a pass, where there is one
abbrev pub taken_by : Option (Pass SharedClause View) → List SharedClause
taken_by None = []
taken_by (Some pass) = (view pass).taken

-- what a worker took from its inbox
abbrev pub taken_of : Desk → List SharedClause
taken_of desk = taken_by (slice_get desk.passes.items desk.place)

-- what a worker's mail tells
abbrev pub told_by : Desk → MailForm
told_by desk = record { gave = taken_of desk; offered = map (λ (one : Outgoing). (one.offered.entry, one.clause)) desk.outgoing.items; empty = desk.empty }

-- the desk of one of at most 16 workers: its passes know what it sent, each offer is marked, and what was taken names other
-- workers, each of them 1,024 times at most
pub record IsDesk (desk : Desk) : Type 0 where
  pub place : desk.place < length desk.inboxes.now
  pub few : length desk.inboxes.now ≤ 16
  pub passes : PassesAre desk.inboxes.now (λ taker seen. Knows desk.problem.now (length desk.inboxes.now) desk.place taker (sent_of desk.outgoing.items) seen) desk.passes.items
  pub marked : AreMarked (length desk.inboxes.now) (offers_of desk.outgoing.items)
  pub from : All (NamesOneOf (others (length desk.inboxes.now) desk.place)) (taken_of desk)
  pub short : (sender : ℕ) → length (sent_by sender (taken_of desk)) ≤ 1024

-- the clauses that were offered before the last one
abbrev pub before_last : List Outgoing → List (List Lit)
before_last outgoing = clauses_of (take (length outgoing - 1) outgoing)

-- the pass of the inbox at a place knows the last offer where it stands below another place, and else those before it
abbrev pub KnowsBelow : ℕ → Desk → ℕ → View → Type 0
KnowsBelow below desk taker seen =
    (taker < below → Knows desk.problem.now (length desk.inboxes.now) desk.place taker (clauses_of desk.outgoing.items) seen)
    × (below ≤ taker → Knows desk.problem.now (length desk.inboxes.now) desk.place taker (before_last desk.outgoing.items) seen)

-- the last offer, one of the first 1,024, was pushed to the workers below a place
pub record PushesBelow (below : ℕ) (desk : Desk) : Type 0 where
  pub place : desk.place < length desk.inboxes.now
  pub few : length desk.inboxes.now ≤ 16
  pub some : (1 ≤ length desk.outgoing.items) × (length desk.outgoing.items ≤ 1024)
  pub passes : PassesAre desk.inboxes.now (KnowsBelow below desk) desk.passes.items

-- a copy of the last offer, which is good and names this worker
pub record IsLastOffer (desk : Desk) (shared : SharedClause) : Type 0 where
  pub good : IsGood desk.problem.now shared
  pub sender : shared.sender ≡ desk.place + 1
  pub clause : clauses_of desk.outgoing.items ≡ before_last desk.outgoing.items ++ shared.clause ∷ []

-- a shared clause is a copy of another
pub record IsCopyOf (shared copy : SharedClause) : Type 0 where
  pub sender : copy.sender ≡ shared.sender
  pub clause : copy.clause ≡ shared.clause
  pub certificate : arc_value copy.certificate ≡ arc_value shared.certificate

-- what is kept of an offer: one mark for each other worker, and the clause
pub record IsOutgoing (entry : ℕ) (mark : Sent) (count : ℕ) (clause : List Lit) (outgoing : Outgoing) : Type 0 where
  pub names : outgoing.offered.entry ≡ entry
  pub marks : outgoing.offered.sent ≡ replicate count mark
  pub keeps : outgoing.clause ≡ clause

-- the desk is of the same worker, among the same ones
pub record SameWorker (old new : Desk) : Type 0 where
  pub problem : new.problem.now ≡ old.problem.now
  pub inboxes : new.inboxes.now ≡ old.inboxes.now
  pub place : new.place ≡ old.place

-- the desk is as it was but for what was offered
pub record KeepsRest (old new : Desk) : Type 0 where
  pub same : SameWorker old new
  pub passes : new.passes.items ≡ old.passes.items
  pub empty : new.empty ≡ old.empty

-- one offer more is kept
pub record Notes (entry : ℕ) (mark : Sent) (clause : List Lit) (old new : Desk) : Type 0 where
  pub outgoing : Outgoing
  pub is : IsOutgoing entry mark (length old.inboxes.now - 1) clause outgoing
  pub last : new.outgoing.items ≡ old.outgoing.items ++ outgoing ∷ []

-- one offer more is told
abbrev pub OffersOne : ℕ → List Lit → Desk → Desk → Type 0
OffersOne entry clause old new = told_by new ≡ record (told_by old) { offered = (told_by old).offered ++ (entry, clause) ∷ [] }

-- one take more is told
abbrev pub TakesOne : Option SharedClause → Desk → Desk → Type 0
TakesOne result old new = Gives (Some (told_by old)) (Some (told_by new)) result
