-- What passes clauses between the searches of one problem.
use Rattle.std.specs.Prelude.{ℕ, ◌≡◌, ◌+◌, ◌<◌, ◌≤◌, ◌⊎◌, Option, None, Some, List, [], ◌∷◌, ◌++◌, length, map}
use Rattle.gp_base.specs.Counts.{one_more}
use Rattle.gp_clause.specs.declared.lit.Lit.{Lit}
use Rattle.gp_clause.specs.declared.problem.Problem.{Problem}
use Rattle.gp_derivation.specs.declared.exchange.SharedClause.{SharedClause}
use Rattle.gp_derivation.specs.declared.log.LogEntry.{LogEntry}
use Rattle.gp_derivation.specs.declared.log.Origin.TheVariants.{Taken}
use Rattle.gp_derivation.specs.Fit.{IsFit}

-- what a mail tells of itself: the clauses that it gave, what it was offered, as places of the log with their clauses, and
-- how many takes found it empty, up to the last value of that count
pub record MailForm : Type 0 where
  pub gave : List SharedClause
  pub offered : List (ℕ × List Lit)
  pub empty : ℕ

-- what a mail tells after a take: the clause that it gave, or that it was found empty once more
abbrev pub Gives : Option MailForm → Option MailForm → Option SharedClause → Type 0
Gives None after result = after ≡ None
Gives (Some told) after (Some shared) = after ≡ Some (record told { gave = told.gave ++ shared ∷ [] })
Gives (Some told) after None = after ≡ Some (record told { empty = one_more told.empty })

-- what a mail tells after an offer of the entry at a place
abbrev pub WasOffered : Option MailForm → Option MailForm → ℕ → List Lit → Type 0
WasOffered None after place clause = after ≡ None
WasOffered (Some told) after place clause = after ≡ Some (record told { offered = told.offered ++ (place, clause) ∷ [] })

-- the entry by which a log takes a clause
abbrev pub taken_entry : SharedClause → LogEntry
taken_entry shared = record { step = record { clause = shared.clause; hints = [] }; origin = Taken shared.sender shared.certificate }

-- of the entries of a log from a place on, exactly those that have a property were offered, in order
abbrev pub Offers : (LogEntry → Type 0) → ℕ → List LogEntry → List (ℕ × List Lit) → Type 0
Offers Is place [] offered = offered ≡ []
Offers Is place (entry ∷ entries) offered =
    (Is entry × (more : List (ℕ × List Lit)) × (offered ≡ (place, entry.step.clause) ∷ more) × Offers Is (place + 1) entries more)
    ⊎ ((Is entry → ⊥) × Offers Is (place + 1) entries offered)

-- what a mail told before and after a turn that took some entries and learned others: it gave what was taken, and was offered
-- what was learned and is fit to share; where it gave fewer than 256, it was found empty
pub record Shares (problem : Problem) (old : List LogEntry) (taken learned : List LogEntry) (before after : MailForm) : Type 0 where
  pub gave : List SharedClause
  pub given : after.gave ≡ before.gave ++ gave
  pub logged : taken ≡ map taken_entry gave
  pub offered : List (ℕ × List Lit)
  pub offers : after.offered ≡ before.offered ++ offered
  pub fit : Offers (IsFit problem (old ++ taken ++ learned)) (length old + length taken) learned offered
  pub emptied : length gave < 256 → one_more before.empty ≤ after.empty

-- the same of a mail that may tell nothing
abbrev pub SharesWith : Problem → List LogEntry → List LogEntry → List LogEntry → Option MailForm → Option MailForm → Type 0
SharesWith problem old taken learned None after = after ≡ None
SharesWith problem old taken learned (Some before) after = (told : MailForm) × (after ≡ Some told) × Shares problem old taken learned before told
