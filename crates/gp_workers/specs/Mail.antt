-- What a log has, by what the worker's mail tells.
use Rattle.std.specs.Prelude.{ℕ, ◌≡◌, ◌≤◌, Bool, true, false, Option, None, Some, List, [], length, map, filter}
use Rattle.gp_clause.specs.declared.lit.Lit.{Lit}
use Rattle.gp_clause.specs.declared.problem.Problem.{Problem}
use Rattle.gp_derivation.specs.declared.log.LogEntry.{LogEntry}
use Rattle.gp_derivation.specs.declared.log.Origin.{Origin}
use Rattle.gp_derivation.specs.declared.log.Origin.TheVariants.{Learned, Taken}
use Rattle.gp_derivation.specs.Fit.{IsFit}
use Rattle.gp_derivation.specs.Log.{IsLearned}
use Rattle.gp_search.specs.Mail.{MailForm, Offers, taken_entry}

-- whether an origin is that of a taken entry
abbrev pub was_taken : Origin → Bool
was_taken Learned = false
was_taken (Taken sender certificate) = true

-- the taken entries of a log, in order
abbrev pub taken_entries : List LogEntry → List LogEntry
taken_entries log = filter (λ (entry : LogEntry). was_taken entry.origin) log

-- an entry was learned and is fit to share
abbrev pub IsToOffer : Problem → List LogEntry → LogEntry → Type 0
IsToOffer problem log entry = IsLearned entry.origin × IsFit problem log entry

-- of the entries of a log, exactly the learned ones that are fit to share were offered, in order
abbrev pub OffersLearned : Problem → List LogEntry → List (ℕ × List Lit) → Type 0
OffersLearned problem log offered = Offers (IsToOffer problem log) 0 log offered

-- what a mail gave are the taken entries of a log, and what it was offered are the learned ones that are fit to share
pub record SharesAll (problem : Problem) (log : List LogEntry) (told : MailForm) : Type 0 where
  pub gave : map taken_entry told.gave ≡ taken_entries log
  pub offered : OffersLearned problem log told.offered

-- the same of a mail that may tell nothing, where nothing was taken
abbrev pub SharesSoFar : Problem → List LogEntry → Option MailForm → Type 0
SharesSoFar problem log None = taken_entries log ≡ []
SharesSoFar problem log (Some told) = SharesAll problem log told

-- how much a mail gave, where it tells that
abbrev pub given_by : Option MailForm → ℕ
given_by None = 0
given_by (Some told) = length told.gave

-- a mail gave nothing yet and was offered nothing
abbrev pub IsSilent : Option MailForm → Type 0
IsSilent None = Unit {0}
IsSilent (Some told) = (told.gave ≡ []) × (told.offered ≡ [])

-- a mail that tells nothing gives nothing
abbrev pub TellsOrGivesNone : Bool → Option MailForm → Type 0
TellsOrGivesNone may None = may ≡ false
TellsOrGivesNone may (Some told) = Unit {0}

-- a mail gives at most 15,360 clauses in all
abbrev pub GivesFew : Option MailForm → Type 0
GivesFew told = given_by told ≤ 15360
