-- The rule of an inbox: what holds, between any two steps, of what the queue holds and of what all passes know.
use Rattle.std.specs.Prelude.{ℕ, ◌≡◌, ◌≤◌, ◌==◌, true, false, Option, None, IsSome, List, [], length, All, if◌then◌else◌, count_by, sum_by}
use mathlib.Core.Option.{some}
use lib.ListN.{get_elem?}
use Rattle.gp_clause.specs.declared.problem.Problem.{Problem}
use Rattle.gp_derivation.specs.declared.exchange.SharedClause.{SharedClause}
use Rattle.gp_inbox.specs.declared.rule.View.{View}
use Rattle.gp_inbox.specs.History.{history, IsHistory, sent_by}
use Rattle.gp_inbox.specs.Senders.{AllDifferent}
use Rattle.gp_inbox.specs.Views.{IsGoodFor, MayPush, NamesOneOf}

-- one for a view that may take
abbrev pub one_that_takes : View → ℕ
one_that_takes view = if view.takes then 1 else 0

-- a view beside the base, the senders, what each of them pushed and what was taken. A view that is not spent carries the one
-- base and the one list of senders, and has a number or may take. The one that may take has what was taken, and no other has a
-- list of it. A pushed list that is not empty stands in the view with its number. Each clause in it is good
pub record Fits (base : Option Problem) (senders : List ℕ) (pushes : ℕ → List SharedClause) (got : List SharedClause) (view : View) : Type 0 where
  pub same : IsSome view.base → (view.base ≡ base) × (view.senders ≡ senders)
  pub taker : view.takes ≡ true → (view.base ≡ base) × (view.senders ≡ senders) × (view.taken ≡ got)
  pub other : view.takes ≡ false → view.taken ≡ []
  pub idle : view.base ≡ None → (view.numbers ≡ []) × (view.pushed ≡ []) × (view.taken ≡ [])
  pub busy : view.numbers ≡ [] → view.takes ≡ false → view.base ≡ None
  pub own : (number : ℕ) → MayPush view number → sent_by number view.pushed ≡ pushes number
  pub none : (number : ℕ) → count_by (◌==◌ number) view.numbers ≡ 0 → sent_by number view.pushed ≡ []
  pub sound : All (IsGoodFor base) view.pushed

-- the history has of each sender exactly what it pushed, in order; each clause in it is good for the base and names one of the
-- senders; all views together hold each sender's number once; one view may take; and no sender pushed more than 1,024
pub record Kept (held : List SharedClause) (views : List View) : Type 0 where
  pub base : Option Problem
  pub senders : List ℕ
  pub pushes : ℕ → List SharedClause
  pub got : List SharedClause
  pub fits : (seat : ℕ) (view : View) → get_elem? views seat ≡ some view → Fits base senders pushes got view
  pub order : IsHistory pushes (history got held)
  pub good : All (IsGoodFor base) (history got held)
  pub from : All (NamesOneOf senders) (history got held)
  pub once : (number : ℕ) → sum_by (λ (view : View). count_by (◌==◌ number) view.numbers) views ≡ count_by (◌==◌ number) senders
  pub apart : AllDifferent senders
  pub one : sum_by one_that_takes views ≡ 1
  pub short : (number : ℕ) → length (pushes number) ≤ 1024
