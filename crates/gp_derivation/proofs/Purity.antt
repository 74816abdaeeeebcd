-- Pure entries rest on the problem alone.
use Rattle.std.proofs.Common.{◌≡◌, ℕ, ◌+◌, ◌<◌, ◌≤◌, ℤ, Bool, List, [], Some, length, All, Contains, ◌⊎◌, inl, inr, sym, ◌∙◌, subst}
use Rattle.std.specs.List.{slice_get}
use Rattle.std.specs.Arc.{arc_value}
use Rattle.std.proofs.lemmas.Bool.{cases_lt}
use Rattle.std.proofs.lemmas.List.{append-nil}
use Rattle.std.proofs.lemmas.Option.{same_Some}
use Rattle.gp_clause.specs.declared.kind.Kind.{Kind}
use Rattle.gp_clause.specs.declared.lit.Lit.{Lit}
use Rattle.gp_clause.specs.declared.problem.Problem.{Problem}
use Rattle.gp_clause.specs.Clause.{HoldsClause, HoldsAll, NamesBelow}
use Rattle.gp_clause.specs.Problem.{IsValidProblem}
use Rattle.gp_clause.specs.Valuation.{IsValuation}
use Rattle.gp_certificate.specs.declared.step.Step.{Step}
use Rattle.gp_derivation.specs.declared.log.LogEntry.{LogEntry}
use Rattle.gp_derivation.specs.declared.log.Origin.{Origin}
use Rattle.gp_derivation.specs.declared.log.Origin.TheVariants.{Learned, Taken}
use Rattle.gp_certificate.specs.Certificate.{CertificateFollows}
use Rattle.gp_derivation.specs.Log.{IsTaken, logged, IsPure, OriginPasses, EntryPasses, LogPasses, PureFollows}
use Rattle.gp_derivation.specs.Log.IsPure.{taken, learned}
use Rattle.gp_certificate.specs.Step.{Passes, PassingFollows, named}
use Rattle.gp_base.specs.ListLaws.{got_all, joined_cases}
use Rattle.gp_certificate.specs.NamedLaws.{named_all}
use Rattle.gp_certificate.specs.CheckingLaws.{proved_below}
use Rattle.gp_certificate.specs.PassingLaws.{passes_bare}

-- each entry of a log whose entries pass does so in some turn
pub some_pass : (problem : Problem) (locals : List Kind) (log : List LogEntry) (begins : ℕ) → LogPasses problem locals log begins
    → (place : ℕ) (entry : LogEntry) → slice_get log place ≡ Some entry → (own : List Kind) × (began : ℕ) × EntryPasses problem own log began place entry
some_pass problem locals log begins passes place entry got = at (cases_lt place begins)
  where
    at : (place < begins) ⊎ (begins ≤ place) → (own : List Kind) × (began : ℕ) × EntryPasses problem own log began place entry
    at (inl before) = passes.earlier place entry got before
    at (inr after) = (locals, begins, passes.current place entry got after)

pub taken_below : (problem : Problem) (own : List Kind) (log : List LogEntry) (began place : ℕ) (step : Step) (origin : Origin) → IsTaken origin
    → OriginPasses problem own log began place step origin → NamesBelow (length problem.kinds) step.clause
taken_below problem own log began place step Learned wrong passes = absurd wrong
taken_below problem own log began place step (Taken sender certificate) took passes = proved_below problem (arc_value certificate) step.clause passes.proves

-- a pure entry's clause has problem variables only
pub pure_below : (problem : Problem) (locals : List Kind) (log : List LogEntry) (begins : ℕ) → LogPasses problem locals log begins
    → (place : ℕ) → IsPure problem log place → (entry : LogEntry) → slice_get log place ≡ Some entry → NamesBelow (length problem.kinds) entry.step.clause
pure_below problem locals log begins passes place (taken p own got took) entry is =
    let same : own ≡ entry = same_Some own entry (sym got ∙ is) in
    let P : LogEntry → Type 0 = λ e. NamesBelow (length problem.kinds) e.step.clause in
    let some = some_pass problem locals log begins passes p own got in
    subst P same (taken_below problem some.0 log some.1 p own.step own.origin took some.2)
pure_below problem locals log begins passes place (learned p own got below others) entry is =
    let same : own ≡ entry = same_Some own entry (sym got ∙ is) in
    let P : LogEntry → Type 0 = λ e. NamesBelow (length problem.kinds) e.step.clause in
    subst P same below

-- what holds of the problem's clauses and of the entries that hints name holds of all that they name
pub named_logged : (P : List Lit → Type 0) (problem : Problem) (log : List LogEntry) (hints : List ℕ) → All P problem.clauses
    → ((other : ℕ) (entry : LogEntry) → Contains hints (length problem.clauses + other) → slice_get log other ≡ Some entry → P entry.step.clause)
    → All P (named (logged problem log) hints)
named_logged P problem log hints base each = named_all P (logged problem log) hints (λ hint clause is got. at hint clause is (joined_cases (λ (entry : LogEntry). entry.step.clause) problem.clauses log hint clause got))
  where
    at : (hint : ℕ) (clause : List Lit) → Contains hints hint
        → (slice_get problem.clauses hint ≡ Some clause) ⊎ ((other : ℕ) × (entry : LogEntry) × (length problem.clauses + other ≡ hint) × (slice_get log other ≡ Some entry) × (entry.step.clause ≡ clause))
        → P clause
    at hint clause is (inl got) = got_all P problem.clauses hint clause base got
    at hint clause is (inr (other, entry, place, got, same)) = subst P same (each other entry (subst (Contains hints) (sym place) is) got)

-- what is known of what passes and of certificates
pub record Laws : Type 0 where
  pub passing : PassingFollows
  pub certificates : CertificateFollows

-- the clause of an entry that passes is true where the clauses are that it rests on, and so are those of the problem
origin_true : Laws → (problem : Problem) (own : List Kind) (log : List LogEntry) (began place : ℕ) (step : Step) (origin : Origin) (truth : ℕ → Bool) (places : ℕ → ℤ) → IsValidProblem problem
    → IsValuation problem.points problem.edges problem.kinds truth places → HoldsAll truth problem.clauses → NamesBelow (length problem.kinds) step.clause
    → All (NamesBelow (length problem.kinds)) (named (logged problem log) step.hints) → HoldsAll truth (named (logged problem log) step.hints)
    → OriginPasses problem own log began place step origin → HoldsClause truth step.clause
origin_true laws problem own log began place step Learned truth places valid valuation base names below holds passes =
    let P : List Kind → Type 0 = λ kinds. Passes problem.edges kinds (named (logged problem log) step.hints) step.clause in
    let bare : Passes problem.edges problem.kinds (named (logged problem log) step.hints) step.clause = subst P (append-nil problem.kinds) (passes_bare problem own [] (named (logged problem log) step.hints) step.clause below names passes.passes) in
    laws.passing problem.points problem.edges problem.kinds (named (logged problem log) step.hints) step.clause valid.kinds bare truth places valuation holds
origin_true laws problem own log began place step (Taken sender certificate) truth places valid valuation base names below holds passes =
    laws.certificates.proved problem (arc_value certificate) step.clause valid passes.proves truth places valuation base

taken_true : Laws → (problem : Problem) (own : List Kind) (log : List LogEntry) (began place : ℕ) (step : Step) (origin : Origin) (truth : ℕ → Bool) (places : ℕ → ℤ) → IsValidProblem problem
    → IsValuation problem.points problem.edges problem.kinds truth places → HoldsAll truth problem.clauses → IsTaken origin → OriginPasses problem own log began place step origin → HoldsClause truth step.clause
taken_true laws problem own log began place step Learned truth places valid valuation base wrong passes = absurd wrong
taken_true laws problem own log began place step (Taken sender certificate) truth places valid valuation base took passes =
    laws.certificates.proved problem (arc_value certificate) step.clause valid passes.proves truth places valuation base

-- a pure entry's clause is true where the problem's clauses are
pub pure_true : Laws → (problem : Problem) (locals : List Kind) (log : List LogEntry) (begins : ℕ) (truth : ℕ → Bool) (places : ℕ → ℤ) → IsValidProblem problem
    → IsValuation problem.points problem.edges problem.kinds truth places → HoldsAll truth problem.clauses → LogPasses problem locals log begins
    → (place : ℕ) → IsPure problem log place → (entry : LogEntry) → slice_get log place ≡ Some entry → HoldsClause truth entry.step.clause
pure_true laws problem locals log begins truth places valid valuation base passes place (taken p own got took) entry is =
    let same : own ≡ entry = same_Some own entry (sym got ∙ is) in
    let P : LogEntry → Type 0 = λ e. HoldsClause truth e.step.clause in
    let some = some_pass problem locals log begins passes p own got in
    subst P same (taken_true laws problem some.0 log some.1 p own.step own.origin truth places valid valuation base took some.2)
pure_true laws problem locals log begins truth places valid valuation base passes place (learned p own got below others) entry is =
    let same : own ≡ entry = same_Some own entry (sym got ∙ is) in
    let P : LogEntry → Type 0 = λ e. HoldsClause truth e.step.clause in
    let some = some_pass problem locals log begins passes p own got in
    subst P same
    (origin_true laws problem some.0 log some.1 p own.step own.origin truth places valid valuation base below
    (named_logged (NamesBelow (length problem.kinds)) problem log own.step.hints valid.clauses (λ other e by got_other. pure_below problem locals log begins passes other (others other by) e got_other))
    (named_logged (HoldsClause truth) problem log own.step.hints base (λ other e by got_other. pure_true laws problem locals log begins truth places valid valuation base passes other (others other by) e got_other)) some.2)

pub pures : PassingFollows → CertificateFollows → PureFollows
pures passing certificates problem locals log begins valid passes place entry got pure = λ truth places valuation holds.
    pure_true (record { passing = passing; certificates = certificates }) problem locals log begins truth places valid valuation holds passes place pure entry got
