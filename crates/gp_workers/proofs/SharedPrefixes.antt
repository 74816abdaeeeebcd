-- What a log took from one worker is the first of what that worker pushed.
use Rattle.std.proofs.Common.{◌≡◌, refl, sym, ◌∙◌, ap, ℕ, ◌+◌, ◌<◌, ◌==◌, Bool, true, false, cond, Some, List, [], ◌∷◌, ◌++◌, map, filter, arith}
use Rattle.std.specs.List.{slice_get}
use Rattle.std.proofs.lemmas.List.{map-append}
use Rattle.std.proofs.lemmas.List.Elements.{filter-append}
use Rattle.std.proofs.lemmas.Option.{slice_get_within}
use Rattle.crossbeam_queue.specs.Passes.{view}
use Rattle.gp_clause.specs.declared.lit.Lit.{Lit}
use Rattle.gp_clause.specs.declared.problem.Problem.{Problem}
use Rattle.gp_derivation.specs.declared.exchange.SharedClause.{SharedClause}
use Rattle.gp_derivation.specs.declared.log.LogEntry.{LogEntry}
use Rattle.gp_derivation.specs.declared.log.Origin.{Origin}
use Rattle.gp_derivation.specs.declared.log.Origin.TheVariants.{Learned, Taken}
use Rattle.gp_derivation.specs.declared.record.WorkerRecord.{WorkerRecord}
use Rattle.gp_inbox.specs.declared.rule.View.{View}
use Rattle.gp_inbox.specs.History.{sent_by}
use Rattle.gp_search.specs.Mail.{taken_entry}
use Rattle.gp_workers.specs.Prefixes.{BeginsWith, taken_from, TakesPrefixes, was_taken_from}
use Rattle.gp_workers.specs.Sharing.{IsHandedOut, pushed_to}
use Rattle.gp_workers.specs.Mail.{taken_entries, was_taken}
use Rattle.gp_workers.proofs.SharedWork.{some_at}

-- the clause of an entry
abbrev pub clause_in : LogEntry → List Lit
clause_in entry = entry.step.clause

abbrev pub clause_sent : SharedClause → List Lit
clause_sent shared = shared.clause

-- what was taken from one worker stands among all that was taken
taken_by_origin : (number : ℕ) (entry : LogEntry) (origin : Origin) (rest all : List LogEntry) → filter (λ (e : LogEntry). was_taken_from number e.origin) all ≡ rest → entry.origin ≡ origin
    → cond (was_taken_from number origin) (entry ∷ rest) rest ≡ filter (λ (e : LogEntry). was_taken_from number e.origin) (cond (was_taken origin) (entry ∷ all) all)
taken_by_origin number entry Learned rest all same is = sym same
taken_by_origin number entry (Taken sender certificate) rest all same is = λ i. cond (was_taken_from number (sym is i)) (entry ∷ sym same i) (sym same i)

taken_among : (number : ℕ) (log : List LogEntry) → filter (λ (e : LogEntry). was_taken_from number e.origin) log ≡ filter (λ (e : LogEntry). was_taken_from number e.origin) (taken_entries log)
taken_among number [] = refl
taken_among number (entry ∷ log) =
    taken_by_origin number entry entry.origin (filter (λ (e : LogEntry). was_taken_from number e.origin) log) (taken_entries log) (sym (taken_among number log)) refl

-- the entries of clauses that were taken from one worker have the clauses that it sent
sent_by_test : (b : Bool) (shared : SharedClause) (entries : List LogEntry) (clauses : List SharedClause) → map clause_in entries ≡ map clause_sent clauses
    → map clause_in (cond b (taken_entry shared ∷ entries) entries) ≡ map clause_sent (cond b (shared ∷ clauses) clauses)
sent_by_test true shared entries clauses same = λ i. shared.clause ∷ same i
sent_by_test false shared entries clauses same = same

sent_entries : (number : ℕ) (clauses : List SharedClause) → map clause_in (filter (λ (e : LogEntry). was_taken_from number e.origin) (map taken_entry clauses)) ≡ map clause_sent (sent_by number clauses)
sent_entries number [] = refl
sent_entries number (shared ∷ clauses) =
    sent_by_test (shared.sender == number) shared (filter (λ (e : LogEntry). was_taken_from number e.origin) (map taken_entry clauses)) (sent_by number clauses) (sent_entries number clauses)

-- so what was taken first is the first of what was pushed
prefix_of : (problem : Problem) (count : ℕ) (records : List WorkerRecord) (place other : ℕ) (own one : WorkerRecord) (seen : View) → IsHandedOut problem count records place seen → other < count → (other ≡ place → ⊥)
    → slice_get records place ≡ Some own → slice_get records other ≡ Some one → BeginsWith (pushed_to one other place) (taken_from (other + 1) own.log)
prefix_of problem count records place other own one seen out within apart got_own got_one = (map clause_sent (sent_by (other + 1) first.1), is)
  where
    first : (front : List SharedClause) × (more : List SharedClause) × (seen.taken ≡ front ++ more) × (map taken_entry front ≡ taken_entries own.log)
    first = out.first own got_own

    took : taken_from (other + 1) own.log ≡ map clause_sent (sent_by (other + 1) first.0)
    took = ap (λ (es : List LogEntry). map clause_in es) (taken_among (other + 1) own.log)
        ∙ ap (λ (es : List LogEntry). map clause_in (filter (λ (e : LogEntry). was_taken_from (other + 1) e.origin) es)) (sym first.3)
        ∙ sent_entries (other + 1) first.0

    is : taken_from (other + 1) own.log ++ map clause_sent (sent_by (other + 1) first.1) ≡ pushed_to one other place
    is = ap (λ (cs : List (List Lit)). cs ++ map clause_sent (sent_by (other + 1) first.1)) took
        ∙ sym (map-append clause_sent (sent_by (other + 1) first.0) (sent_by (other + 1) first.1))
        ∙ ap (λ (ss : List SharedClause). map clause_sent ss) (sym (filter-append (λ (s : SharedClause). s.sender == other + 1) first.0 first.1))
        ∙ ap (λ (ss : List SharedClause). map clause_sent (sent_by (other + 1) ss)) (sym first.2)
        ∙ ap (λ (ss : List SharedClause). map clause_sent ss) (out.taken other within apart)
        ∙ out.pushed other one got_one apart

pub takes_prefixes : TakesPrefixes
takes_prefixes problem count records passes all = record {
  offers = all.offers;
  from = all.from;
  prefixes = λ place other own one apart got_own got_one.
      let own_within = slice_get_within records place own got_own in
      let one_within = slice_get_within records other one got_one in
      let pass = some_at passes place (omega (arith, own_within, all.workers, all.inboxes)) in
      prefix_of problem count records place other own one (view pass.0) (all.each place pass.0 pass.1) (omega (arith, one_within, all.workers)) apart got_own got_one;
}
