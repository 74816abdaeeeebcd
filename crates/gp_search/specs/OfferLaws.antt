-- What was offered of the entries of a log, as the log grows.
use Rattle.std.proofs.Common.{◌≡◌, ◌↔◌, refl, sym, ap, subst, ℕ, suc, ◌+◌, Some, List, [], ◌∷◌, ◌++◌, length, All, inl, inr, arith}
use Rattle.std.specs.List.{slice_get}
use Rattle.std.proofs.lemmas.List.Elements.{All-head, All-tail}
use Rattle.gp_clause.specs.declared.lit.Lit.{Lit}
use Rattle.gp_clause.specs.declared.problem.Problem.{Problem}
use Rattle.gp_derivation.specs.declared.log.LogEntry.{LogEntry}
use Rattle.gp_derivation.specs.Fit.{IsFit}
use Rattle.gp_derivation.specs.FitStaying.{FitStays}
use Rattle.gp_base.specs.ListLaws.{all_from_got}
use Rattle.gp_derivation.specs.Numbering.{AllNameEarlier}
use Rattle.gp_search.specs.Mail.{Offers}

-- some entries stand in a log from a place on
abbrev pub StandsAt : List LogEntry → ℕ → List LogEntry → Type 0
StandsAt log place entries = (k : ℕ) (entry : LogEntry) → slice_get entries k ≡ Some entry → slice_get log (place + k) ≡ Some entry

-- they are as fit to share in a longer log
pub fit_alike : FitStays → (problem : Problem) (log more : List LogEntry) → AllNameEarlier (length problem.clauses) log → (place : ℕ) (entries : List LogEntry) → StandsAt log place entries
    → All (λ (entry : LogEntry). IsFit problem log entry ↔ IsFit problem (log ++ more) entry) entries
fit_alike law problem log more names place entries stands =
    all_from_got (λ (entry : LogEntry). IsFit problem log entry ↔ IsFit problem (log ++ more) entry) entries (λ k entry got. law problem log more names (place + k) entry (stands k entry got))

-- what was offered by one property was offered by another that the same entries have
pub offers_alike : (Is Has : LogEntry → Type 0) (place : ℕ) (entries : List LogEntry) (offered : List (ℕ × List Lit)) → All (λ (entry : LogEntry). Is entry ↔ Has entry) entries → Offers Is place entries offered → Offers Has place entries offered
offers_alike Is Has place [] offered alike offers = offers
offers_alike Is Has place (entry ∷ entries) offered alike offers = elim offers [
  | inl one ↦ inl (here.0 one.0, one.1, one.2, offers_alike Is Has (place + 1) entries one.1 next one.3)
  | inr none ↦ inr ((λ has. none.0 (here.1 has)), offers_alike Is Has (place + 1) entries offered next none.1)
]
  where
    here : Is entry ↔ Has entry
    here = All-head (λ (one : LogEntry). Is one ↔ Has one) entry entries alike

    next : All (λ (one : LogEntry). Is one ↔ Has one) entries
    next = All-tail (λ (one : LogEntry). Is one ↔ Has one) entry entries alike

-- nothing was offered of entries that do not have the property
pub offers_nothing : (Is : LogEntry → Type 0) (place : ℕ) (entries : List LogEntry) → All (λ (entry : LogEntry). Is entry → ⊥) entries → Offers Is place entries []
offers_nothing Is place [] none = refl
offers_nothing Is place (entry ∷ entries) none =
    let Lacks : LogEntry → Type 0 = λ one. Is one → ⊥ in
    inr (All-head Lacks entry entries none, offers_nothing Is (place + 1) entries (All-tail Lacks entry entries none))

-- what was offered of some entries, and then of others behind them
pub offers_joined : (Is : LogEntry → Type 0) (place : ℕ) (entries others : List LogEntry) (offered more : List (ℕ × List Lit)) → Offers Is place entries offered → Offers Is (place + length entries) others more
    → Offers Is place (entries ++ others) (offered ++ more)
offers_joined Is place [] others offered more none offers =
    let P : ℕ → Type 0 = λ n. Offers Is n others more in
    let Q : List (ℕ × List Lit) → Type 0 = λ xs. Offers Is place others (xs ++ more) in
    subst Q (sym none) (subst P (let at : place + 0 ≡ place = omega arith in at) offers)
offers_joined Is place (entry ∷ entries) others offered more first offers = elim first [
  | inl one ↦ inl (one.0, one.1 ++ more, ap (λ (xs : List (ℕ × List Lit)). xs ++ more) one.2, offers_joined Is (place + 1) entries others one.1 more one.3 next)
  | inr none ↦ inr (none.0, offers_joined Is (place + 1) entries others offered more none.1 next)
]
  where
    next : Offers Is (place + 1 + length entries) others more
    next = let P : ℕ → Type 0 = λ n. Offers Is n others more in subst P (let at : place + suc (length entries) ≡ place + 1 + length entries = omega arith in at) offers
