-- What the calls of an engine change, and what they find.
use Rattle.std.specs.Prelude.{◌≡◌, ℕ, ◌+◌, ◌-◌, ◌%◌, ◌<◌, ◌≤◌, ◌⊎◌, Bool, true, false, if◌then◌else◌, nat_lt, Option, Some, None, List, [], ◌∷◌, ◌++◌, length, map, replicate, Contains, slice_index_or}
use Rattle.std.specs.Arc.{arc_value}
use Rattle.gp_clause.specs.declared.lit.Lit.{Lit}
use Rattle.gp_clause.specs.declared.problem.Problem.{Problem}
use Rattle.gp_clause.specs.declared.problem.Query.{Query}
use Rattle.gp_clause.specs.Clause.{NamesBelow}
use Rattle.gp_clause.specs.Valuation.{Meets}
use Rattle.gp_certificate.specs.declared.certificate.Certificate.{Certificate}
use Rattle.gp_derivation.specs.declared.exchange.SharedClause.{SharedClause}
use Rattle.gp_derivation.specs.declared.log.LogEntry.{LogEntry}
use Rattle.gp_certificate.specs.declared.step.Step.{Step}
use Rattle.gp_derivation.specs.Cones.{RefutesByCone}
use Rattle.gp_derivation.specs.Fit.{IsFit}
use Rattle.gp_derivation.specs.Log.{LearnedPasses, logged}
use Rattle.gp_derivation.specs.Spent.{IsNewBy, turned}
use Rattle.gp_certificate.specs.Step.{named}
use Rattle.gp_derivation.specs.Tight.{IsTight}
use Rattle.gp_difference.specs.declared.fault.Asserted.{Asserted}
use Rattle.gp_difference.specs.declared.fault.Asserted.TheVariants.{Kept, Cycle}
use Rattle.gp_sat.specs.declared.assigned.Assigned.{Assigned}
use Rattle.gp_sat.specs.Stored.{Stored}
use Rattle.gp_queue.specs.Order.{numbers_between, moved_to_front}
use Rattle.gp_sat.specs.State.{SolverForm, assigned, IsAttached, without_clause, with_literal}
use Rattle.gp_sat.specs.Standing.{IsFalse, Each}
use Rattle.gp_sat.specs.Changes.{Backjumps, IsOfLevel}
use Rattle.gp_sat.specs.Deciding.{IsNextFree}
use Rattle.gp_sat.specs.Learning.{HasOnePresent, IsHighestBelow}
use Rattle.gp_sat.specs.Looking.{IsTrueLit}
use Rattle.gp_search.specs.declared.engine.Engine.{Engine}
use Rattle.gp_search.specs.declared.turn.Descent.{Descent}
use Rattle.gp_search.specs.declared.turn.Descent.TheVariants.{Verdict as Ended, Conflict as Stuck}
use Rattle.gp_search.specs.declared.verdict.Verdict.{Verdict}
use Rattle.gp_search.specs.declared.verdict.Verdict.TheVariants.{Model, Refuted, Spent}
use Rattle.gp_search.specs.Inside.{all_kinds, turn_from, IsConflict, IsBlank, IsTurning, false_lit}
use Rattle.gp_search.specs.Mail.{Gives, MailForm, Offers, SharesWith, WasOffered, taken_entry}
use Rattle.gp_base.specs.Counts.{one_more}

-- the log, the places where the turn begins and begins to learn, and the number of variables stay
pub record KeepsLog (old new : Engine) : Type 0 where
  pub log : new.log.items ≡ old.log.items
  pub begins : new.begins ≡ old.begins
  pub learned : new.learned ≡ old.learned
  pub variables : length new.solver.values ≡ length old.solver.values

-- a turn goes on: the places where it begins and begins to learn stay
pub record StaysTurning (problem : Problem) (query : Query) (old new : Engine) : Type 0 where
  pub turning : IsTurning problem query new
  pub begins : new.begins ≡ old.begins
  pub learned : new.learned ≡ old.learned

-- only the place of the next assumption changes
abbrev pub MovesNext : Engine → Engine → Type 0
MovesNext old new = new ≡ record old { next = new.next }

-- a literal was decided, which began a level: the bounds of the graph and the place of the next assumption were noted
pub record BeginsLevel (old new : Engine) (lit : Lit) : Type 0 where
  pub same : new ≡ record old { solver = new.solver; levels = new.levels }
  pub solver : new.solver ≡ with_literal old.solver lit (old.solver.level + 1) None
  pub levels : new.levels.items ≡ old.levels.items ++ record { bounds = length old.graph.kept; next = old.next } ∷ []

-- the log stays, and the trail is as long or longer
pub record GoesOn (old new : Engine) : Type 0 where
  pub keeps : KeepsLog old new
  pub trail : length old.solver.trail ≤ length new.solver.trail

-- the graph and how much of the trail it has may change, and nothing else
abbrev pub MovesGraph : Engine → Engine → Type 0
MovesGraph old new = new ≡ record old { graph = new.graph; asserted = new.asserted }

-- what asserting bounds came to: the graph keeps those of the whole trail, or the tags of the cycle name a conflict
abbrev pub AssertsAll : Problem → Query → Engine → Asserted → Type 0
AssertsAll problem query engine Kept = engine.asserted ≡ length engine.solver.trail
AssertsAll problem query engine Cycle = IsConflict problem query engine.solver (map (false_lit engine.solver) engine.graph.cycle) None

-- what asserting the next bound came to: the graph has one literal more, or the tags of the cycle name a conflict
abbrev pub IsNext : Problem → Query → Engine → Engine → Asserted → Type 0
IsNext problem query old new Kept = new.asserted ≡ old.asserted + 1
IsNext problem query old new Cycle = IsConflict problem query new.solver (map (false_lit new.solver) new.graph.cycle) None

-- hints, and beside them a number if there is one
abbrev pub with_number : List ℕ → Option ℕ → List ℕ
with_number hints None = hints
with_number hints (Some number) = hints ++ number ∷ []

-- a step may be learned at the end of a log in a turn that begins at a place: it passes, is new by a literal, and is tight
pub record IsLesson (problem : Problem) (query : Query) (log : List LogEntry) (begins : ℕ) (step : Step) : Type 0 where
  pub passes : LearnedPasses problem query.locals log begins (length log) step
  pub lit : Lit
  pub is_new : IsNewBy problem query (turned problem log (turn_from begins (length log) (length log)) (length log)) step.clause lit
  pub tight : IsTight problem.edges (all_kinds problem query) (named (logged problem log) step.hints) step.clause

-- a step that a conflict gave passes at the end of the log, what its hints name is attached, and its literals are false,
-- just one of them at the present level
pub record IsStudied (problem : Problem) (query : Query) (engine : Engine) (step : Step) : Type 0 where
  pub passes : LearnedPasses problem query.locals engine.log.items engine.begins (length engine.log.items) step
  pub attached : (hint : ℕ) → Contains step.hints hint → IsAttached engine.solver.clauses hint
  pub all_false : Each (IsFalse (assigned engine.solver)) step.clause
  pub point : HasOnePresent engine.solver step.clause

-- of two levels the higher one is that of a literal, where that is below the present level
pub record IsHigher (s : SolverForm) (lit : Lit) (level higher : ℕ) : Type 0 where
  pub least : level ≤ higher
  pub own : (a : Assigned) → assigned s lit.variable ≡ Some a → a.level < s.level → a.level ≤ higher
  pub reached : (higher ≡ level) ⊎ (IsOfLevel s higher lit × (higher < s.level))

-- a step may be learned, all its literals are false, and just one is of the present level
pub record IsTightened (problem : Problem) (query : Query) (engine : Engine) (step : Step) : Type 0 where
  pub lesson : IsLesson problem query engine.log.items engine.begins step
  pub all_false : Each (IsFalse (assigned engine.solver)) step.clause
  pub point : HasOnePresent engine.solver step.clause

-- such a step, and the level at which it asserts the one literal of the present level
pub record IsLearnedStep (problem : Problem) (query : Query) (engine : Engine) (step : Step) (level : ℕ) : Type 0 where
  pub tightened : IsTightened problem query engine step
  pub highest : IsHighestBelow engine.solver step.clause level
  pub below : level < engine.solver.level

-- the levels above one were taken back
pub record IsBackAt (old new : Engine) (level : ℕ) : Type 0 where
  pub keeps : KeepsLog old new
  pub solver : Backjumps old.solver new.solver level

-- a turn begins its decisions anew after every twelfth clause that it learned
abbrev pub IsRestartDue : ℕ → Type 0
IsRestartDue learned = learned % 12 ≡ 0

-- the order of decisions after the variables of literals were moved to its front
abbrev pub raised : List Lit → List ℕ → List ℕ
raised [] order = order
raised (lit ∷ lits) order = raised lits (moved_to_front lit.variable order)

-- one entry came to the end of the log, and the variables of its clause to the front of the order of decisions
pub record LearnsOne (old new : Engine) : Type 0 where
  pub entry : LogEntry
  pub log : new.log.items ≡ old.log.items ++ entry ∷ []
  pub begins : new.begins ≡ old.begins
  pub learned : new.learned ≡ old.learned
  pub order : new.solver.order ≡ raised entry.step.clause old.solver.order

-- whether a hint names a base clause or an entry with a mark
abbrev pub is_marked : List Bool → ℕ → ℕ → Bool
is_marked marks bases hint = if nat_lt hint bases then true else slice_index_or marks (hint - bases) false

-- a step has problem variables only, and each entry that its hints name has a mark
pub record RestsOnMarked (problem : Problem) (marks : List Bool) (step : Step) : Type 0 where
  pub below : NamesBelow (length problem.kinds) step.clause
  pub marked : (other : ℕ) → Contains step.hints (length problem.clauses + other) → slice_index_or marks other false ≡ true

-- all variables below the number are assigned
abbrev pub IsAllAssigned : ℕ → SolverForm → Type 0
IsAllAssigned names s = (variable : ℕ) → variable < names → (a : Assigned) × (assigned s variable ≡ Some a)

-- all that is assumed is true
abbrev pub IsAllTrue : List Lit → SolverForm → Type 0
IsAllTrue assumed s = Each (IsTrueLit (assigned s)) assumed

-- an assumed literal is not true
abbrev pub IsOpen : List Lit → SolverForm → Lit → Type 0
IsOpen assumed s lit = Contains assumed lit × (IsTrueLit (assigned s) lit → ⊥)

-- whether an assignment is true
abbrev pub is_true : Option Assigned → Bool
is_true None = false
is_true (Some a) = a.positive

-- the truth values of the first variables
pub record IsTruthOf (s : SolverForm) (names : ℕ) (truth : List Bool) : Type 0 where
  pub size : length truth ≡ names
  pub same : (variable : ℕ) → variable < names → slice_index_or truth variable false ≡ is_true (assigned s variable)

-- the trail has one literal more, for which there was room
pub record GoesFurther (old new : SolverForm) : Type 0 where
  pub longer : length new.trail ≡ length old.trail + 1
  pub room : length old.trail < length old.values

-- the first unassigned variable in the order of decisions was decided
pub record DecidesNext (old new : SolverForm) : Type 0 where
  pub lit : Lit
  pub next : IsNextFree old lit.variable
  pub decided : new ≡ with_literal old lit (old.level + 1) None

-- a verdict other than a spent budget is right beside a log
abbrev pub IsRightVerdict : Problem → Query → List LogEntry → Verdict → Type 0
IsRightVerdict problem query log (Model valuation) = Meets problem query valuation
IsRightVerdict problem query log (Refuted last) = RefutesByCone problem query log last
IsRightVerdict problem query log (Spent from to) = ⊥

-- a descent ended with a verdict, or with a conflict above the levels of the assumptions
abbrev pub IsEnded : Problem → Query → Engine → Descent → Type 0
IsEnded problem query engine (Ended verdict) = IsRightVerdict problem query engine.log.items verdict
IsEnded problem query engine (Stuck conflict) = IsConflict problem query engine.solver conflict.lits.items conflict.number × (engine.assumed < engine.solver.level)

-- so many entries came to the end of the log
pub record Adds (count : ℕ) (old new : Engine) : Type 0 where
  pub added : List LogEntry
  pub longer : new.log.items ≡ old.log.items ++ added
  pub counted : length added ≡ count

-- so many entries at most came to the end of the log
pub record AddsFew (budget : ℕ) (old new : Engine) : Type 0 where
  pub added : List LogEntry
  pub longer : new.log.items ≡ old.log.items ++ added
  pub few : length added ≤ budget

-- a copy of a clause, under the number of a sender and with a certificate
pub record IsCopyOf (sender : ℕ) (clause : List Lit) (certificate : Certificate) (shared : SharedClause) : Type 0 where
  pub sent : shared.sender ≡ sender
  pub same : shared.clause ≡ clause
  pub with : arc_value shared.certificate ≡ certificate

-- a mail was offered the entry at a place of a log where that is fit to share, and nothing where it is not
abbrev pub OffersEntry : Problem → List LogEntry → ℕ → LogEntry → Option MailForm → Option MailForm → Type 0
OffersEntry problem log place entry before after =
    (IsFit problem log entry × WasOffered before after place entry.step.clause) ⊎ ((IsFit problem log entry → ⊥) × (after ≡ before))

-- one entry came to the end of the log, and was offered where it is fit to share
pub record LearnsAndOffers (problem : Problem) (old new : Engine) (before after : Option MailForm) : Type 0 where
  pub learns : LearnsOne old new
  pub offers : OffersEntry problem new.log.items (length old.log.items) learns.entry before after

-- a mail was offered those of some entries, which stand in a log from a place on, that are fit to share, and told nothing else
abbrev pub OffersAll : Problem → List LogEntry → ℕ → List LogEntry → Option MailForm → Option MailForm → Type 0
OffersAll problem log place entries None after = after ≡ None
OffersAll problem log place entries (Some before) after =
    (offered : List (ℕ × List Lit)) × (after ≡ Some (record before { offered = before.offered ++ offered })) × Offers (IsFit problem log) place entries offered

-- so many entries came to the end of the log, and those that are fit to share were offered
pub record AddsAndOffers (problem : Problem) (count : ℕ) (old new : Engine) (before after : Option MailForm) : Type 0 where
  pub adds : Adds count old new
  pub offers : OffersAll problem new.log.items (length old.log.items) adds.added before after

-- the same of so many at most
pub record AddsFewAndOffers (problem : Problem) (budget : ℕ) (old new : Engine) (before after : Option MailForm) : Type 0 where
  pub adds : AddsFew budget old new
  pub offers : OffersAll problem new.log.items (length old.log.items) adds.added before after

-- a clause that the mail gave came to the end of the log
pub record TakesOne (old new : Engine) (before after : Option MailForm) : Type 0 where
  pub shared : SharedClause
  pub log : new.log.items ≡ old.log.items ++ taken_entry shared ∷ []
  pub begins : new.begins ≡ old.begins
  pub told : Gives before after (Some shared)

-- the mail was found empty
pub record FindsNone (old new : Engine) (before after : Option MailForm) : Type 0 where
  pub keeps : KeepsLog old new
  pub told : Gives before after None

-- some clauses came to the end of the log, 256 at most
pub record TakesSome (old new : Engine) : Type 0 where
  pub gave : List SharedClause
  pub log : new.log.items ≡ old.log.items ++ map taken_entry gave
  pub begins : new.begins ≡ old.begins
  pub few : length gave ≤ 256

-- a mail gave some clauses
abbrev pub HasGiven : List SharedClause → Option MailForm → Option MailForm → Type 0
HasGiven gave None after = after ≡ None
HasGiven gave (Some before) after = after ≡ Some (record before { gave = before.gave ++ gave })

-- so many clauses that the mail gave came to the end of the log
pub record HasTaken (count : ℕ) (old new : Engine) (before after : Option MailForm) : Type 0 where
  pub gave : List SharedClause
  pub log : new.log.items ≡ old.log.items ++ map taken_entry gave
  pub begins : new.begins ≡ old.begins
  pub counted : length gave ≡ count
  pub told : HasGiven gave before after

-- a mail gave some clauses, and was found empty where these are fewer than 256
abbrev pub HasGivenAll : List SharedClause → Option MailForm → Option MailForm → Type 0
HasGivenAll gave None after = after ≡ None
HasGivenAll gave (Some before) after =
    (told : MailForm) × (after ≡ Some told) × (told.gave ≡ before.gave ++ gave) × (told.offered ≡ before.offered) × (length gave < 256 → one_more before.empty ≤ told.empty)

-- the clauses that a mail gave came to the end of the log, all of them or 256
pub record TakesAll (old new : Engine) (before after : Option MailForm) : Type 0 where
  pub takes : TakesSome old new
  pub told : HasGivenAll takes.gave before after

-- the log grew by what was taken, and then by as many entries as the budget at most
pub record IsGrown (budget : ℕ) (old new : Engine) : Type 0 where
  pub gave : List SharedClause
  pub added : List LogEntry
  pub longer : new.log.items ≡ old.log.items ++ map taken_entry gave ++ added
  pub learned : new.learned ≡ length old.log.items + length gave
  pub few_taken : length gave ≤ 256
  pub few : length added ≤ budget

-- the log grew so, and what was taken and added is what the mail told
pub record GrowsAndShares (problem : Problem) (budget : ℕ) (old new : Engine) (before after : Option MailForm) : Type 0 where
  pub grown : IsGrown budget old new
  pub shares : SharesWith problem old.log.items (map taken_entry grown.gave) grown.added before after

-- a solver that has these clauses, all attached, and no assignment
abbrev pub of_clauses : ℕ → List (List Lit) → SolverForm
of_clauses variables clauses = record { values = replicate variables None; trail = []; clauses = map (λ (clause : List Lit). record { clause = clause; attached = true }) clauses; level = 0; order = numbers_between 0 variables; used = variables }

-- a solver has room for so many variables, and is otherwise as it was, but for the order of decisions
pub record IsRoomy (old new : SolverForm) (variables : ℕ) : Type 0 where
  pub values : (variable : ℕ) → assigned new variable ≡ assigned old variable
  pub trail : new.trail ≡ old.trail
  pub clauses : new.clauses ≡ old.clauses
  pub level : new.level ≡ old.level
  pub more : length old.values ≤ length new.values
  pub room : variables ≤ length new.values

-- the solver after the entry at a place was retired, unless it is marked as pure
abbrev pub retired : List Bool → ℕ → ℕ → SolverForm → SolverForm
retired marks bases place s = if slice_index_or marks place false then s else without_clause s (bases + place)

-- the solver is blank, and of its clauses only those of some entries of the turn that have no mark were detached, among
-- them each one of the first places
pub record IsRetired (bases begins upto : ℕ) (marks : List Bool) (old new : SolverForm) : Type 0 where
  pub blank : IsBlank new
  pub variables : length new.values ≡ length old.values
  pub lits : map (λ (stored : Stored). stored.clause) new.clauses ≡ map (λ (stored : Stored). stored.clause) old.clauses
  pub base : (number : ℕ) → number < bases → IsAttached old.clauses number → IsAttached new.clauses number
  pub fewer : (number : ℕ) → IsAttached new.clauses number → IsAttached old.clauses number
  pub marked : (place : ℕ) → begins ≤ place → place < upto → IsAttached new.clauses (bases + place) → slice_index_or marks place false ≡ true
  pub kept : (place : ℕ) → slice_index_or marks place false ≡ true → IsAttached old.clauses (bases + place) → IsAttached new.clauses (bases + place)
