-- What a log took is from the workers that what was taken through a pass names.
use Rattle.std.proofs.Common.{◌≡◌, refl, sym, subst, ℕ, ◌<◌, ◌==◌, cond, List, [], ◌∷◌, All, Contains, map, count_by, eqb-true}
use Rattle.std.proofs.lemmas.List.Elements.{All-cons, All-head, All-map, All-nil, All-tail, All-weaker}
use Rattle.gp_base.specs.CountLaws.{count_passes}
use Rattle.gp_derivation.specs.declared.exchange.SharedClause.{SharedClause}
use Rattle.gp_derivation.specs.declared.log.LogEntry.{LogEntry}
use Rattle.gp_derivation.specs.declared.log.Origin.{Origin}
use Rattle.gp_derivation.specs.declared.log.Origin.TheVariants.{Learned, Taken}
use Rattle.gp_inbox.specs.Views.{NamesOneOf}
use Rattle.gp_search.specs.Mail.{taken_entry}
use Rattle.gp_workers.specs.Mail.{taken_entries, was_taken}
use Rattle.gp_workers.specs.Sharing.{IsFromOneOf}

-- an entry is from one of these workers, if it was taken
abbrev From : List ℕ → LogEntry → Type 0
From numbers entry = IsFromOneOf numbers entry.origin

-- the sender of a clause is one of those that it names
among : (numbers : List ℕ) (sender : ℕ) → 0 < count_by (◌==◌ sender) numbers → Contains numbers sender
among numbers sender named =
    let one = count_passes (◌==◌ sender) numbers named in
    subst (Contains numbers) (sym (eqb-true sender one.0 one.2)) one.1

-- an entry in front, which stands among the taken entries if it was taken
one_more : (numbers : List ℕ) (entry : LogEntry) (origin : Origin) (log : List LogEntry) → entry.origin ≡ origin → (All (From numbers) (taken_entries log) → All (From numbers) log)
    → All (From numbers) (cond (was_taken origin) (entry ∷ taken_entries log) (taken_entries log)) → All (From numbers) (entry ∷ log)
one_more numbers entry Learned log is rest all = All-cons (From numbers) entry log (subst (IsFromOneOf numbers) (sym is) tt) (rest all)
one_more numbers entry (Taken sender certificate) log is rest all =
    All-cons (From numbers) entry log (All-head (From numbers) entry (taken_entries log) all) (rest (All-tail (From numbers) entry (taken_entries log) all))

-- where the taken entries are from these workers, so is each entry that was taken
each_from : (numbers : List ℕ) (log : List LogEntry) → All (From numbers) (taken_entries log) → All (From numbers) log
each_from numbers [] all = All-nil (From numbers)
each_from numbers (entry ∷ log) all = one_more numbers entry entry.origin log refl (each_from numbers log) all

-- the log took from the workers that the clauses name
pub takes_from : (numbers : List ℕ) (log : List LogEntry) (clauses : List SharedClause) → All (NamesOneOf numbers) clauses → map taken_entry clauses ≡ taken_entries log → All (From numbers) log
takes_from numbers log clauses named is =
    each_from numbers log
    (subst (All (From numbers)) is
    (All-map (From numbers) taken_entry clauses (All-weaker (NamesOneOf numbers) (λ (clause : SharedClause). Contains numbers clause.sender) (λ clause one. among numbers clause.sender one) clauses named)))
