-- What the passes of one inbox know together, once those of all workers are joined.
use Rattle.std.proofs.Common.{◌≡◌, refl, sym, ◌∙◌, ap, subst, ℕ, zero, suc, ◌+◌, ◌-◌, ◌<◌, ◌==◌, ◌⊎◌, inl, inr, Bool, true, false, ◌||◌, cond, Option, None, Some, List, [], ◌∷◌, ◌++◌, length, map, All, append_assoc, append-nil, eq-eqb, arith, count_by}
use Rattle.std.specs.List.{range_with_len, slice_get}
use Rattle.std.proofs.Math.Bool.{or_assoc, or-false}
use Rattle.std.proofs.lemmas.Bool.{cases_eq, ne_eqb}
use Rattle.std.proofs.lemmas.List.Elements.{All-head, All-tail, filter-append}
use Rattle.std.proofs.lemmas.Option.{same_Some}
use Rattle.crossbeam_queue.specs.Passes.{Pass, view}
use Rattle.gp_base.specs.SumLaws.{count_append}
use Rattle.gp_clause.specs.declared.problem.Problem.{Problem}
use Rattle.gp_derivation.specs.declared.exchange.SharedClause.{SharedClause}
use Rattle.gp_derivation.specs.declared.record.WorkerRecord.{WorkerRecord}
use Rattle.gp_inbox.specs.declared.rule.View.{View}
use Rattle.gp_inbox.specs.History.{sent_by}
use Rattle.gp_inbox.specs.Views.{joined, spent}
use Rattle.gp_search.specs.Mail.{taken_entry}
use Rattle.gp_workers.specs.declared.crew.Shared.{Shared}
use Rattle.gp_workers.specs.Desk.{Knows}
use Rattle.gp_workers.specs.Inboxes.{all_joined, joined_by}
use Rattle.gp_workers.specs.Sharing.{others, pushed_to}
use Rattle.gp_workers.specs.Mail.{taken_entries}

-- what a pass knows, where there is one
abbrev pub seen_by : Option (Pass SharedClause View) → View
seen_by None = spent
seen_by (Some pass) = view pass

-- what a worker's pass of the inbox at a place knows
abbrev pub seen_at : ℕ → Shared → View
seen_at place shared = seen_by (slice_get shared.passes.items place)

-- what the passes of the inbox at a place know together: their numbers
abbrev pub numbers_at : ℕ → List Shared → List ℕ
numbers_at place [] = []
numbers_at place (shared ∷ crew) = (seen_at place shared).numbers ++ numbers_at place crew

-- whether one of them may take
abbrev pub takes_at : ℕ → List Shared → Bool
takes_at place [] = false
takes_at place (shared ∷ crew) = (seen_at place shared).takes || takes_at place crew

-- what was pushed by them
abbrev pub pushed_at : ℕ → List Shared → List SharedClause
pushed_at place [] = []
pushed_at place (shared ∷ crew) = (seen_at place shared).pushed ++ pushed_at place crew

-- and what was taken by them
abbrev pub taken_at : ℕ → List Shared → List SharedClause
taken_at place [] = []
taken_at place (shared ∷ crew) = (seen_at place shared).taken ++ taken_at place crew

-- a view to which those of others were joined
abbrev pub with_all : View → ℕ → List Shared → View
with_all seen place crew = record seen {
  numbers = seen.numbers ++ numbers_at place crew;
  takes = seen.takes || takes_at place crew;
  pushed = seen.pushed ++ pushed_at place crew;
  taken = seen.taken ++ taken_at place crew;
}

-- where there is no pass, nothing is joined
joins : (seen : View) (pass : Option (Pass SharedClause View)) → joined_by seen pass ≡ joined seen (seen_by pass)
joins seen None = λ i. record seen {
  numbers = sym (append-nil seen.numbers) i;
  takes = sym (or-false seen.takes) i;
  pushed = sym (append-nil seen.pushed) i;
  taken = sym (append-nil seen.taken) i;
}
joins seen (Some pass) = refl

-- what the passes know that were joined one after another
pub joined_with : (seen : View) (place : ℕ) (crew : List Shared) → all_joined seen place (map (λ (shared : Shared). shared.passes) crew) ≡ with_all seen place crew
joined_with seen place [] = λ i. record seen {
  numbers = sym (append-nil seen.numbers) i;
  takes = sym (or-false seen.takes) i;
  pushed = sym (append-nil seen.pushed) i;
  taken = sym (append-nil seen.taken) i;
}
joined_with seen place (shared ∷ crew) =
    let next : View = seen_at place shared in
    ap (λ (v : View). all_joined v place (map (λ (one : Shared). one.passes) crew)) (joins seen (slice_get shared.passes.items place))
    ∙ joined_with (joined seen next) place crew
    ∙ (λ i. record seen {
      numbers = append_assoc seen.numbers next.numbers (numbers_at place crew) i;
      takes = or_assoc seen.takes next.takes (takes_at place crew) i;
      pushed = append_assoc seen.pushed next.pushed (pushed_at place crew) i;
      taken = append_assoc seen.taken next.taken (taken_at place crew) i;
    })

-- what the pass of the worker at a place knows of the inbox at another, beside that worker's record
pub record SeenBy (problem : Problem) (count place own : ℕ) (shared : Shared) : Type 0 where
  pub knows : Knows problem count own place (pushed_to shared.worked.record own place) (seen_at place shared)
  pub taken : own ≡ place → map taken_entry (seen_at place shared).taken ≡ taken_entries shared.worked.record.log

-- the same of the workers that stand from a place on
abbrev pub AreSeen : Problem → ℕ → ℕ → ℕ → List Shared → Type 0
AreSeen problem count place own [] = Unit {0}
AreSeen problem count place own (shared ∷ crew) = SeenBy problem count place own shared × AreSeen problem count place (own + 1) crew

sent_append : (sender : ℕ) (xs ys : List SharedClause) → sent_by sender (xs ++ ys) ≡ sent_by sender xs ++ sent_by sender ys
sent_append sender xs ys = filter-append (λ (clause : SharedClause). clause.sender == sender) xs ys

-- clauses of one sender
sent_own : (sender : ℕ) (clauses : List SharedClause) → All (λ (clause : SharedClause). clause.sender ≡ sender) clauses → sent_by sender clauses ≡ clauses
sent_own sender [] all = refl
sent_own sender (clause ∷ clauses) all =
    let rest = sent_own sender clauses (All-tail (λ (one : SharedClause). one.sender ≡ sender) clause clauses all) in
    let here : (clause.sender == sender) ≡ true = eq-eqb clause.sender sender (All-head (λ (one : SharedClause). one.sender ≡ sender) clause clauses all) in
    λ i. cond (here i) (clause ∷ rest i) (rest i)

-- none of them is another's
sent_other : (sender own : ℕ) (clauses : List SharedClause) → (own ≡ sender → ⊥) → All (λ (clause : SharedClause). clause.sender ≡ own) clauses → sent_by sender clauses ≡ []
sent_other sender own [] apart all = refl
sent_other sender own (clause ∷ clauses) apart all =
    let rest = sent_other sender own clauses apart (All-tail (λ (one : SharedClause). one.sender ≡ own) clause clauses all) in
    let is : clause.sender ≡ own = All-head (λ (one : SharedClause). one.sender ≡ own) clause clauses all in
    let here : (clause.sender == sender) ≡ false = ne_eqb clause.sender sender (λ same. apart (sym is ∙ same)) in
    λ i. cond (here i) (clause ∷ rest i) (rest i)

module _ (problem : Problem) (count place : ℕ) where
  -- a worker pushes nothing under another's number
  none_sent_by : (own from : ℕ) (shared : Shared) → SeenBy problem count place own shared → (own ≡ from → ⊥) → (own ≡ place) ⊎ (own ≡ place → ⊥) → sent_by (from + 1) (seen_at place shared).pushed ≡ []
  none_sent_by own from shared seen apart (inl same) = ap (sent_by (from + 1)) (seen.knows.taking (sym same)).pushed
  none_sent_by own from shared seen apart (inr other) =
      sent_other (from + 1) (own + 1) (seen_at place shared).pushed (λ same. apart (omega (arith, same))) (seen.knows.sending (λ same. other (sym same))).own

  -- nor do those that stand behind it
  none_sent : (own from : ℕ) (crew : List Shared) → AreSeen problem count place own crew → from < own → sent_by (from + 1) (pushed_at place crew) ≡ []
  none_sent own from [] seen below = refl
  none_sent own from (shared ∷ crew) seen below =
      sent_append (from + 1) (seen_at place shared).pushed (pushed_at place crew)
      ∙ (λ i. none_sent_by own from shared seen.0 (λ same. absurd (omega (arith, same, below))) (cases_eq own place) i ++ none_sent (own + 1) from crew seen.1 (omega (arith, below)) i)

  -- what was pushed under a worker's number is what its own pass pushed
  pub all_sent : (own k from : ℕ) (crew : List Shared) (one : WorkerRecord) → AreSeen problem count place own crew → from ≡ own + k → slice_get (map (λ (shared : Shared). shared.worked.record) crew) k ≡ Some one → (from ≡ place → ⊥)
      → map (λ (shared : SharedClause). shared.clause) (sent_by (from + 1) (pushed_at place crew)) ≡ pushed_to one from place
  all_sent own zero from (shared ∷ crew) one seen at got apart =
      let same : own ≡ from = omega (arith, at) in
      let sends = seen.0.knows.sending (λ (is : place ≡ own). apart (sym same ∙ sym is)) in
      let ours : sent_by (from + 1) (seen_at place shared).pushed ≡ (seen_at place shared).pushed =
      subst (λ (n : ℕ). sent_by (n + 1) (seen_at place shared).pushed ≡ (seen_at place shared).pushed) same (sent_own (own + 1) (seen_at place shared).pushed sends.own) in
      let behind : sent_by (from + 1) (pushed_at place crew) ≡ [] = none_sent (own + 1) from crew seen.1 (omega (arith, at)) in
      ap (λ (ss : List SharedClause). map (λ (s : SharedClause). s.clause) ss)
      (sent_append (from + 1) (seen_at place shared).pushed (pushed_at place crew) ∙ (λ i. ours i ++ behind i) ∙ append-nil (seen_at place shared).pushed)
      ∙ sends.pushed
      ∙ (λ i. pushed_to (same_Some shared.worked.record one got i) (same i) place)
  all_sent own (suc k) from (shared ∷ crew) one seen at got apart =
      let none : sent_by (from + 1) (seen_at place shared).pushed ≡ [] = none_sent_by own from shared seen.0 (λ same. absurd (omega (arith, same, at))) (cases_eq own place) in
      ap (λ (ss : List SharedClause). map (λ (s : SharedClause). s.clause) ss)
      (sent_append (from + 1) (seen_at place shared).pushed (pushed_at place crew) ∙ (λ i. none i ++ sent_by (from + 1) (pushed_at place crew)))
      ∙ all_sent (own + 1) k from crew one seen.1 (omega (arith, at)) got apart
  all_sent own k from [] one seen at got apart = absurd (cc)

  -- together they hold the number of each other worker
  pub all_numbers : (own k from : ℕ) (crew : List Shared) → AreSeen problem count place own crew → from ≡ own + k → k < length crew → (from ≡ place → ⊥) → 0 < count_by (◌==◌ (from + 1)) (numbers_at place crew)
  all_numbers own k from [] seen at within apart = absurd (omega (arith, within))
  all_numbers own zero from (shared ∷ crew) seen at within apart =
      let same : own ≡ from = omega (arith, at) in
      let holds : (seen_at place shared).numbers ≡ (own + 1) ∷ [] = (seen.0.knows.sending (λ (is : place ≡ own). apart (sym same ∙ sym is))).numbers in
      let once : count_by (◌==◌ (from + 1)) (seen_at place shared).numbers ≡ 1 = (λ i. count_by (◌==◌ (sym same i + 1)) (holds i)) ∙ count_self (own + 1) in
      let both = count_append (◌==◌ (from + 1)) (seen_at place shared).numbers (numbers_at place crew) in
      omega (arith, once, both)
    where
      count_self : (number : ℕ) → count_by (◌==◌ number) (number ∷ []) ≡ 1
      count_self number = let is : (number == number) ≡ true = eq-eqb number number refl in ap (λ (b : Bool). 0 + cond b 1 0) is
  all_numbers own (suc k) from (shared ∷ crew) seen at within apart =
      let rest : 0 < count_by (◌==◌ (from + 1)) (numbers_at place crew) = all_numbers (own + 1) k from crew seen.1 (omega (arith, at)) (omega (arith, within)) apart in
      let both = count_append (◌==◌ (from + 1)) (seen_at place shared).numbers (numbers_at place crew) in
      omega (arith, rest, both)

  -- and no other
  numbers_above : (own : ℕ) (crew : List Shared) → AreSeen problem count place own crew → place < own → numbers_at place crew ≡ range_with_len (own + 1) (length crew)
  numbers_above own [] seen above = refl
  numbers_above own (shared ∷ crew) seen above =
      let holds : (seen_at place shared).numbers ≡ (own + 1) ∷ [] = (seen.0.knows.sending (λ (is : place ≡ own). absurd (omega (arith, is, above)))).numbers in
      λ i. holds i ++ numbers_above (own + 1) crew seen.1 (omega (arith, above)) i

  numbers_from : (own k : ℕ) (crew : List Shared) → AreSeen problem count place own crew → place ≡ own + k → k < length crew
      → numbers_at place crew ≡ range_with_len (own + 1) k ++ range_with_len (place + 2) (length crew - (k + 1))
  numbers_from own k [] seen at within = absurd (omega (arith, within))
  numbers_from own zero (shared ∷ crew) seen at within =
      let none : (seen_at place shared).numbers ≡ [] = (seen.0.knows.taking (omega (arith, at))).numbers in
      let from : own + 1 + 1 ≡ place + 2 = omega (arith, at) in
      let left : length crew ≡ length (shared ∷ crew) - (0 + 1) = omega arith in
      (λ i. none i ++ numbers_at place crew) ∙ numbers_above (own + 1) crew seen.1 (omega (arith, at)) ∙ (λ i. range_with_len (from i) (left i))
  numbers_from own (suc k) (shared ∷ crew) seen at within =
      let holds : (seen_at place shared).numbers ≡ (own + 1) ∷ [] = (seen.0.knows.sending (λ (is : place ≡ own). absurd (omega (arith, is, at)))).numbers in
      let left : length crew - (k + 1) ≡ length (shared ∷ crew) - (suc k + 1) = omega arith in
      (λ i. holds i ++ numbers_at place crew)
      ∙ ap (λ (ns : List ℕ). (own + 1) ∷ ns)
      (numbers_from (own + 1) k crew seen.1 (omega (arith, at)) (omega (arith, within)) ∙ ap (λ (n : ℕ). range_with_len (own + 1 + 1) k ++ range_with_len (place + 2) n) left)

  pub others_at : (crew : List Shared) → AreSeen problem count place 0 crew → count ≡ length crew → place < count → numbers_at place crew ≡ others count place
  others_at crew seen counted within =
      numbers_from 0 place crew seen (omega arith) (omega (arith, within, counted)) ∙ ap (λ (n : ℕ). range_with_len 1 place ++ range_with_len (place + 2) (n - (place + 1))) (sym counted)

  -- one of them may take
  pub one_takes : (own k : ℕ) (crew : List Shared) → AreSeen problem count place own crew → place ≡ own + k → k < length crew → takes_at place crew ≡ true
  one_takes own k [] seen at within = absurd (omega (arith, within))
  one_takes own zero (shared ∷ crew) seen at within = ap (λ (b : Bool). b || takes_at place crew) (seen.0.knows.taking (omega (arith, at))).takes
  one_takes own (suc k) (shared ∷ crew) seen at within =
      ap (λ (b : Bool). (seen_at place shared).takes || b) (one_takes (own + 1) k crew seen.1 (omega (arith, at)) (omega (arith, within))) ∙ or-true (seen_at place shared).takes
    where
      or-true : (b : Bool) → (b || true) ≡ true
      or-true true = refl
      or-true false = refl

  -- no other takes
  none_taken : (own : ℕ) (crew : List Shared) → AreSeen problem count place own crew → place < own → taken_at place crew ≡ []
  none_taken own [] seen below = refl
  none_taken own (shared ∷ crew) seen below =
      let none : (seen_at place shared).taken ≡ [] = (seen.0.knows.sending (λ (same : place ≡ own). absurd (omega (arith, same, below)))).taken in
      λ i. none i ++ none_taken (own + 1) crew seen.1 (omega (arith, below)) i

  -- what was taken is what the worker's own log took
  pub all_taken : (own k : ℕ) (crew : List Shared) (one : WorkerRecord) → AreSeen problem count place own crew → place ≡ own + k → slice_get (map (λ (shared : Shared). shared.worked.record) crew) k ≡ Some one
      → map taken_entry (taken_at place crew) ≡ taken_entries one.log
  all_taken own zero (shared ∷ crew) one seen at got =
      let behind : taken_at place crew ≡ [] = none_taken (own + 1) crew seen.1 (omega (arith, at)) in
      ap (λ (ss : List SharedClause). map taken_entry ss) ((λ i. (seen_at place shared).taken ++ behind i) ∙ append-nil (seen_at place shared).taken)
      ∙ seen.0.taken (omega (arith, at))
      ∙ ap (λ (r : WorkerRecord). taken_entries r.log) (same_Some shared.worked.record one got)
  all_taken own (suc k) (shared ∷ crew) one seen at got =
      let none : (seen_at place shared).taken ≡ [] = (seen.0.knows.sending (λ (same : place ≡ own). absurd (omega (arith, same, at)))).taken in
      ap (λ (ss : List SharedClause). map taken_entry (ss ++ taken_at place crew)) none
      ∙ all_taken (own + 1) k crew one seen.1 (omega (arith, at)) got
  all_taken own k [] one seen at got = absurd (cc)
