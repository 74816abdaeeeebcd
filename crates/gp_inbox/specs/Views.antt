-- What the passes of an inbox know, and what each step tells them.
use Rattle.std.specs.Prelude.{ℕ, ◌≡◌, ◌*◌, ◌<◌, ◌≤◌, ◌==◌, Bool, true, false, ◌||◌, Option, Some, None, IsSomeAnd, List, [], ◌∷◌, ◌++◌, length, take, drop, count_by}
use Rattle.gp_clause.specs.declared.problem.Problem.{Problem}
use Rattle.gp_derivation.specs.declared.exchange.SharedClause.{SharedClause}
use Rattle.gp_derivation.specs.Exchange.{IsGood}
use Rattle.gp_inbox.specs.declared.rule.View.{View}
use Rattle.gp_inbox.specs.History.{history, sent_by}

-- a clause is good for the base that a view carries; without a base none is
abbrev pub IsGoodFor : Option Problem → SharedClause → Type 0
IsGoodFor base clause = IsSomeAnd base (λ problem. IsGood problem clause)

-- a clause names one of these senders
abbrev pub NamesOneOf : List ℕ → SharedClause → Type 0
NamesOneOf senders clause = 0 < count_by (◌==◌ clause.sender) senders

-- a pass may push under a number
abbrev pub MayPush : View → ℕ → Type 0
MayPush view number = 0 < count_by (◌==◌ number) view.numbers

-- what a pass knows before anything was pushed or taken
abbrev pub unused : Option Problem → List ℕ → List ℕ → Bool → View
unused base senders numbers takes = record { base = base; senders = senders; numbers = numbers; takes = takes; pushed = []; taken = [] }

-- the first pass, before the base and the senders are known: it may take
abbrev pub blank : View
blank = unused None [] [] true

-- the first pass, once they are known: it holds every number and may take
abbrev pub opened : Option Problem → List ℕ → View
opened base senders = unused base senders senders true

-- the pass of the taker of a new inbox
abbrev pub taker_view : Problem → List ℕ → View
taker_view base senders = unused (Some base) senders [] true

-- the pass of a sender to a new inbox
abbrev pub sender_view : Problem → List ℕ → ℕ → View
sender_view base senders number = unused (Some base) senders (number ∷ []) false

-- a pass that was joined to another
abbrev pub spent : View
spent = unused None [] [] false

-- what is left where the first number was handed over
abbrev pub left_of : View → View
left_of view = record view { numbers = drop 1 view.numbers }

-- the pass that holds the number that was handed over
abbrev pub one_of : View → View
one_of view = unused view.base view.senders (take 1 view.numbers) false

-- a clause was pushed
abbrev pub pushed_one : View → SharedClause → View
pushed_one view clause = record view { pushed = view.pushed ++ clause ∷ [] }

-- a clause was taken
abbrev pub took_one : View → SharedClause → View
took_one view clause = record view { taken = view.taken ++ clause ∷ [] }

-- the numbers, the right to take and the lists of both
abbrev pub joined : View → View → View
joined view other = record view { numbers = view.numbers ++ other.numbers; takes = view.takes || other.takes; pushed = view.pushed ++ other.pushed; taken = view.taken ++ other.taken }

-- what a take tells that gives a clause: it is good, it names a sender of the inbox, and of each sender at most 1,024 were taken
pub record Takes (view : View) (clause : SharedClause) (after : View) : Type 0 where
  pub took : after ≡ took_one view clause
  pub good : IsGoodFor view.base clause
  pub from : NamesOneOf view.senders clause
  pub short : (sender : ℕ) → length (sent_by sender after.taken) ≤ 1024

-- what a taker that may push learns of what the queue holds: it and what was taken are what was pushed under its own numbers
abbrev pub Owes : View → List SharedClause → Type 0
Owes view held = (number : ℕ) → MayPush view number → sent_by number (history view.taken held) ≡ sent_by number view.pushed

-- all that was pushed under the numbers of a pass was taken
abbrev pub IsDrained : View → Type 0
IsDrained view = (number : ℕ) → MayPush view number → sent_by number view.taken ≡ sent_by number view.pushed

-- a pass that holds the number of each sender, may take, and took all that was pushed
pub record IsWhole (view : View) : Type 0 where
  pub numbers : (number : ℕ) → count_by (◌==◌ number) view.numbers ≡ count_by (◌==◌ number) view.senders
  pub takes : view.takes ≡ true
  pub drained : IsDrained view

-- what a sender learns of what the queue holds: where it pushed fewer than 1,024 under a number, a place is free
abbrev pub HasRoom : View → List SharedClause → Type 0
HasRoom view held = (number : ℕ) → MayPush view number → length (sent_by number view.pushed) < 1024 → length held < 1024 * length view.senders
