-- What a worker hands back among others: its passes know what its record marks as pushed.
use Rattle.std.proofs.Common.{◌≡◌, refl, sym, ◌∙◌, ap, subst, ℕ, zero, suc, ◌+◌, ◌-◌, ◌<◌, ◌≤◌, inl, inr, Some, List, [], ◌∷◌, ◌++◌, length, map, flat_map, take, replicate, nat_lt, if◌then◌else◌, append_assoc, arith}
use Rattle.std.specs.List.{slice_get}
use Rattle.std.proofs.lemmas.List.{get_or-replicate, length-replicate, length_push}
use Rattle.std.proofs.lemmas.List.Concat.{flat_map-cons}
use Rattle.std.proofs.lemmas.Option.{slice_get-get_or}
use Rattle.std.proofs.lemmas.Simd.{map-map}
use Rattle.crossbeam_queue.specs.Passes.{Pass}
use Rattle.gp_clause.specs.declared.lit.Lit.{Lit}
use Rattle.gp_clause.specs.declared.problem.Problem.{Problem}
use Rattle.gp_derivation.specs.declared.exchange.SharedClause.{SharedClause}
use Rattle.gp_derivation.specs.declared.log.LogEntry.{LogEntry}
use Rattle.gp_derivation.specs.declared.record.Offered.{Offered}
use Rattle.gp_derivation.specs.declared.record.Sent.{Sent}
use Rattle.gp_derivation.specs.declared.record.Sent.TheVariants.{Pushed, Full}
use Rattle.gp_derivation.specs.declared.record.WorkerRecord.{WorkerRecord}
use Rattle.gp_inbox.specs.declared.rule.View.{View}
use Rattle.gp_workers.specs.declared.desk.Desk.{Desk}
use Rattle.gp_workers.specs.declared.desk.Outgoing.{Outgoing}
use Rattle.gp_search.specs.Mail.{Offers, taken_entry}
use Rattle.gp_workers.specs.Desk.{clauses_of, IsDesk, Knows, offers_of, PassesAre, sent_of, taken_by, taken_of, told_by}
use Rattle.gp_workers.specs.Sharing.{clause_of, mark_for, others, pushed_to, where_pushed}
use Rattle.gp_workers.specs.Mail.{IsToOffer, OffersLearned, SharesSoFar, taken_entries}
use Rattle.gp_workers.specs.SharedCrew.{IsShared}
use Rattle.gp_workers.proofs.DeskPasses.{passes_know}
use Rattle.gp_workers.proofs.DeskFrom.{takes_from}

-- what stands behind a front
got_middle : {X : Type 0} (front : List X) (x : X) (rest : List X) → slice_get (front ++ x ∷ rest) (length front) ≡ Some x
got_middle [] x rest = refl
got_middle (y ∷ front) x rest = got_middle front x rest

-- each offer names an entry of the log by its place, and has its clause
abbrev Named : List LogEntry → List (ℕ × List Lit) → Type 0
Named log [] = Unit {0}
Named log (one ∷ more) = (clause_of (slice_get log one.0) ≡ one.1 ∷ []) × Named log more

named : (Is : LogEntry → Type 0) (log front entries : List LogEntry) (place : ℕ) (offered : List (ℕ × List Lit)) → log ≡ front ++ entries → place ≡ length front → Offers Is place entries offered → Named log offered
named Is log front [] place offered is at none = subst (Named log) (sym none) tt
named Is log front (entry ∷ entries) place offered is at offers = elim offers [
  | inl one ↦ subst (Named log) (sym one.2) (ap clause_of here, named Is log (front ++ entry ∷ []) entries (place + 1) one.1 longer next one.3)
  | inr none ↦ named Is log (front ++ entry ∷ []) entries (place + 1) offered longer next none.1
]
  where
    here : slice_get log place ≡ Some entry
    here = (λ i. slice_get (is i) (at i)) ∙ got_middle front entry entries

    longer : log ≡ (front ++ entry ∷ []) ++ entries
    longer = is ∙ sym (append_assoc front (entry ∷ []) entries)

    next : place + 1 ≡ length (front ++ entry ∷ [])
    next = ap (λ (n : ℕ). n + 1) at ∙ sym (length_push front entry)

-- as many marks
mark_there : (count place : ℕ) (mark : Sent) → place < count → slice_get (replicate count mark) place ≡ Some mark
mark_there count place mark within = slice_get-get_or (replicate count mark) place mark (omega (arith, within, length-replicate count mark)) ∙ ap Some (get_or-replicate count place mark mark within)

-- there is a mark for each other worker
mark_within : (count own taker : ℕ) → own < count → taker < count → (taker ≡ own → ⊥) → (if nat_lt taker own then taker else taker - 1) < count - 1
mark_within count own taker here there apart = grind arith

-- an offer with its clause, as it was marked
abbrev pair_of : Outgoing → ℕ × List Lit
pair_of one = (one.offered.entry, one.clause)

module _ (log : List LogEntry) (count own taker : ℕ) (here : own < count) (there : taker < count) (apart : taker ≡ own → ⊥) where
  abbrev pushed_of : Offered → List (List Lit)
  pushed_of offered = where_pushed (mark_for own taker offered) (clause_of (slice_get log offered.entry))

  marked_as : (mark : Sent) (offered : Offered) → offered.sent ≡ replicate (count - 1) mark → mark_for own taker offered ≡ Some mark
  marked_as mark offered marks =
      ap (λ (ms : List Sent). slice_get ms (if nat_lt taker own then taker else taker - 1)) marks
      ∙ mark_there (count - 1) (if nat_lt taker own then taker else taker - 1) mark (mark_within count own taker here there apart)

  pushed_is : (room : ℕ) (outgoing : List Outgoing)
      → ((place : ℕ) (offered : Offered) → slice_get (offers_of outgoing) place ≡ Some offered → (place < room → offered.sent ≡ replicate (count - 1) Pushed) × (room ≤ place → offered.sent ≡ replicate (count - 1) Full))
      → Named log (map pair_of outgoing) → flat_map pushed_of (offers_of outgoing) ≡ clauses_of (take room outgoing)
  pushed_is zero [] marks names = refl
  pushed_is (suc room) [] marks names = refl
  pushed_is zero (one ∷ rest) marks names =
      let mark : mark_for own taker one.offered ≡ Some Full = marked_as Full one.offered ((marks 0 one.offered refl).1 (omega arith)) in
      flat_map-cons pushed_of one.offered (offers_of rest)
      ∙ (λ i. where_pushed (mark i) (clause_of (slice_get log one.offered.entry)) ++ flat_map pushed_of (offers_of rest))
      ∙ pushed_is zero rest (λ place offered got. ((λ low. absurd (omega (arith, low))), (λ high. (marks (suc place) offered got).1 (omega arith)))) names.1
  pushed_is (suc room) (one ∷ rest) marks names =
      let mark : mark_for own taker one.offered ≡ Some Pushed = marked_as Pushed one.offered ((marks 0 one.offered refl).0 (omega arith)) in
      flat_map-cons pushed_of one.offered (offers_of rest)
      ∙ (λ i. where_pushed (mark i) (clause_of (slice_get log one.offered.entry)) ++ flat_map pushed_of (offers_of rest))
      ∙ (λ i. names.0 i ++ flat_map pushed_of (offers_of rest))
      ∙ ap (λ (cs : List (List Lit)). one.clause ∷ cs)
      (pushed_is room rest (λ place offered got. ((λ low. (marks (suc place) offered got).0 (omega (arith, low))), (λ high. (marks (suc place) offered got).1 (omega (arith, high))))) names.1)

-- what a pass knows of what was sent, which is what the record marks
knows_pushed_to : (problem : Problem) (count own taker : ℕ) (sent pushed : List (List Lit)) (seen : View) → ((taker ≡ own → ⊥) → pushed ≡ sent) → Knows problem count own taker sent seen → Knows problem count own taker pushed seen
knows_pushed_to problem count own taker sent pushed seen same knows = record {
  base = knows.base;
  senders = knows.senders;
  taking = knows.taking;
  sending = λ apart. record {
    numbers = (knows.sending apart).numbers;
    takes = (knows.sending apart).takes;
    taken = (knows.sending apart).taken;
    pushed = (knows.sending apart).pushed ∙ sym (same apart);
    own = (knows.sending apart).own;
  };
}

-- what the worker of a desk hands back at the end
pub handed_back : (desk : Desk) (old new : WorkerRecord) (passes : List (Pass SharedClause View)) → IsDesk desk → SharesSoFar desk.problem.now old.log (Some (told_by desk)) → new.log ≡ old.log → new.offered ≡ offers_of desk.outgoing.items
    → passes ≡ desk.passes.items → IsShared desk.problem.now desk.inboxes.now desk.place new passes
handed_back desk old new passes is shares logs offered same = record {
  offers = record {
    offered = map pair_of desk.outgoing.items;
    learned = subst (λ (log : List LogEntry). OffersLearned desk.problem.now log (map pair_of desk.outgoing.items)) (sym logs) shares.offered;
    entries = ap (λ (os : List Offered). map (λ (one : Offered). one.entry) os) offered ∙ map-map (λ (one : Offered). one.entry) (λ (one : Outgoing). one.offered) desk.outgoing.items
        ∙ sym (map-map (λ (one : ℕ × List Lit). one.0) pair_of desk.outgoing.items);
    marked = subst (λ (os : List Offered). (place : ℕ) (one : Offered) → slice_get os place ≡ Some one
        → (place < 1024 → one.sent ≡ replicate (length desk.inboxes.now - 1) Pushed) × (1024 ≤ place → one.sent ≡ replicate (length desk.inboxes.now - 1) Full)) (sym offered) is.marked;
  };
  each = subst (λ (ps : List (Pass SharedClause View)). PassesAre desk.inboxes.now (λ taker seen. Knows desk.problem.now (length desk.inboxes.now) desk.place taker (pushed_to new desk.place taker) seen) ps) (sym same)
      (passes_know desk.inboxes.now (λ taker seen. Knows desk.problem.now (length desk.inboxes.now) desk.place taker (sent_of desk.outgoing.items) seen)
      (λ taker seen. Knows desk.problem.now (length desk.inboxes.now) desk.place taker (pushed_to new desk.place taker) seen) desk.passes.items is.passes
      (λ taker seen within knows. knows_pushed_to desk.problem.now (length desk.inboxes.now) desk.place taker (sent_of desk.outgoing.items) (pushed_to new desk.place taker) seen (λ apart. sent taker within apart) knows));
  taken = (λ i. map taken_entry (taken_by (slice_get (same i) desk.place))) ∙ shares.gave ∙ ap taken_entries (sym logs);
  from = takes_from (others (length desk.inboxes.now) desk.place) new.log (taken_of desk) is.from (shares.gave ∙ ap taken_entries (sym logs));
}
  where
    sent : (taker : ℕ) → taker < length desk.inboxes.now → (taker ≡ desk.place → ⊥) → pushed_to new desk.place taker ≡ sent_of desk.outgoing.items
    sent taker within apart =
        ap (λ (os : List Offered). flat_map (pushed_of new.log (length desk.inboxes.now) desk.place taker is.place within apart) os) offered
        ∙ pushed_is new.log (length desk.inboxes.now) desk.place taker is.place within apart 1024 desk.outgoing.items is.marked
        (subst (λ (log : List LogEntry). Named log (map pair_of desk.outgoing.items)) (sym logs) (named (IsToOffer desk.problem.now old.log) old.log [] old.log 0 (map pair_of desk.outgoing.items) refl refl shares.offered))
