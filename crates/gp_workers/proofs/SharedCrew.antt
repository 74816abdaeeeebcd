-- The workers that share, before they begin and when they have worked.
use Rattle.std.proofs.Common.{◌≡◌, refl, sym, ◌∙◌, ap, subst, ℕ, zero, suc, ◌+◌, ◌-◌, ◌<◌, ◌≤◌, Option, None, Some, List, [], ◌∷◌, Result, Ok, length, map, drop, get_or, All, arith}
use Rattle.std.specs.List.{slice_get}
use Rattle.std.specs.Prelude.{IfOk}
use Rattle.std.proofs.lemmas.List.{length-map}
use Rattle.std.proofs.lemmas.List.Elements.{All-nil, All-weaker}
use Rattle.std.proofs.lemmas.Option.{slice_get_within}
use Rattle.crossbeam_queue.specs.Passes.{Pass}
use Rattle.gp_clause.specs.declared.problem.Problem.{Problem}
use Rattle.gp_clause.specs.declared.problem.Query.{Query}
use Rattle.gp_derivation.specs.declared.exchange.SharedClause.{SharedClause}
use Rattle.gp_derivation.specs.declared.log.LogEntry.{LogEntry}
use Rattle.gp_derivation.specs.declared.record.Turn.{Turn}
use Rattle.gp_derivation.specs.declared.record.WorkerRecord.{WorkerRecord}
use Rattle.gp_derivation.specs.Cones.{RefutesByCone}
use Rattle.gp_derivation.specs.Spent.{HasTurnSpentOn}
use Rattle.gp_inbox.specs.declared.inbox.Inbox.{Inbox}
use Rattle.gp_inbox.specs.declared.rule.View.{View}
use Rattle.gp_inbox.specs.History.{sent_by}
use Rattle.gp_inbox.specs.Views.{NamesOneOf}
use Rattle.gp_workers.specs.declared.crew.Shared.{Shared}
use Rattle.gp_workers.specs.declared.crew.SharingJob.{SharingJob}
use Rattle.gp_workers.specs.declared.crew.Worked.{Worked}
use Rattle.gp_workers.specs.declared.desk.Desk.{Desk}
use Rattle.gp_workers.specs.declared.desk.Outgoing.{Outgoing}
use Rattle.gp_tickets.specs.declared.tickets.Tickets.{Tickets}
use Rattle.gp_workers.specs.declared.work.WorkAnswer.{WorkAnswer}
use Rattle.gp_workers.specs.declared.work.WorkAnswer.TheVariants as answer
use Rattle.gp_workers.specs.Crew.{IsDone}
use Rattle.gp_workers.specs.Desk.{IsDesk, Knows, offers_of, sent_of, taken_by, taken_of, told_by}
use Rattle.gp_tickets.specs.declared.drawn.Drawn.{Drawn}
use Rattle.gp_tickets.specs.Drawn.{drawers_of, HasDrawn}
use Rattle.gp_tickets.specs.Tickets.{hand_of}
use Rattle.gp_workers.specs.SharedCrew.{AreHandedBack, IsHandedBack, AreNew, IsNew, IsShared, IsSharingJob, SameButOffers}
use Rattle.gp_workers.specs.Worker.{AnswersOwn, IsAnswerBy}
use Rattle.gp_workers.specs.Record.{TakenFollow, TurnsCover}
use Rattle.gp_workers.specs.Sharing.{AreMarked, others}
use Rattle.gp_workers.specs.Mail.{IsSilent}
use Rattle.gp_workers.proofs.WorkerAnswers.{some_weaker}
use Rattle.gp_workers.proofs.DeskPasses.{passes_know}

-- an answer says the same of a record with the same log and turns
same_answer : (problem : Problem) (query : Query) (budget number : ℕ) (old new : WorkerRecord) (ticket : ℕ) (answer : WorkAnswer) → new.log ≡ old.log → new.turns ≡ old.turns
    → IsAnswerBy problem query budget number old ticket answer → IsAnswerBy problem query budget number new ticket answer
same_answer problem query budget number old new ticket (answer.Model valuation) logs turns is = is
same_answer problem query budget number old new ticket (answer.Refuted worker last) logs turns is = (is.0, subst (λ (log : List LogEntry). RefutesByCone problem query log last) (sym logs) is.1)
same_answer problem query budget number old new ticket (answer.Spent worker from to) logs turns is = (
  is.0,
  subst (λ (own : List LogEntry × List Turn). HasTurnSpentOn problem query (record { log = own.0; turns = own.1; offered = new.offered }) ticket budget from to) (λ i. (sym logs i, sym turns i)) is.1,
)

-- what is done is done, whatever is recorded of its offers
pub still_done : (tickets : Tickets) (problem : Problem) (queries : List Query) (budget number : ℕ) (old new : Worked) → IsDone tickets problem queries budget number old → SameButOffers old new → IsDone tickets problem queries budget number new
still_done tickets problem queries budget number old new done same = record {
  drawn = subst (HasDrawn tickets) (sym same.drawn) done.drawn;
  single = ap drawers_of same.drawn ∙ done.single;
  answered = All-weaker (AnswersOwn problem queries budget number old.record) (AnswersOwn problem queries budget number new.record)
      (λ answered is. some_weaker (λ query. IsAnswerBy problem query budget number old.record answered.number answered.value) (λ query. IsAnswerBy problem query budget number new.record answered.number answered.value)
      (slice_get queries answered.number) (λ query one. same_answer problem query budget number old.record new.record answered.number answered.value same.log same.turns one) is) new.drawn.made.items
      (subst (λ (drawn : Drawn WorkAnswer). All (AnswersOwn problem queries budget number old.record) drawn.made.items) (sym same.drawn) done.answered);
  tickets_drawn = ap (λ (turns : List Turn). map (λ (turn : Turn). turn.ticket) turns) same.turns ∙ done.tickets_drawn ∙ sym (ap (λ (drawn : Drawn WorkAnswer). (hand_of drawn.drawer).drawn) same.drawn);
  own = record {
    taken = subst (TakenFollow problem) (sym same.log) done.own.taken;
    covered = subst (λ (own : List LogEntry × List Turn). TurnsCover own.0 0 (length own.0) own.1) (λ i. (sym same.log i, sym same.turns i)) done.own.covered;
  };
}

-- what stands at a place of a list is there
not_there : {X : Type 0} (xs : List X) (place : ℕ) → place < length xs → slice_get xs place ≡ None → ⊥
not_there [] place within none = omega (arith, within)
not_there (x ∷ xs) zero within none = cc
not_there (x ∷ xs) (suc place) within none = not_there xs place (omega (arith, within)) none

-- what was taken through a pass that took nothing
none_taken : (inboxes : List Inbox) (problem : Problem) (place : ℕ) (passes : List (Pass SharedClause View)) → place < length inboxes → AreNew problem inboxes place passes → taken_by (slice_get passes place) ≡ []
none_taken inboxes problem place passes within new = at (slice_get inboxes place) (slice_get passes place) refl refl
  where
    at : (inbox : Option Inbox) (pass : Option (Pass SharedClause View)) → slice_get inboxes place ≡ inbox → slice_get passes place ≡ pass → taken_by pass ≡ []
    at inbox None is_inbox is_pass = refl
    at None (Some pass) is_inbox is_pass = absurd (not_there inboxes place within is_inbox)
    at (Some inbox) (Some pass) is_inbox is_pass = (new.each place inbox pass is_inbox is_pass).1.1

-- the desk of a worker before it begins
pub new_desk : (desk : Desk) → desk.place < length desk.inboxes.now → length desk.inboxes.now ≤ 16 → AreNew desk.problem.now desk.inboxes.now desk.place desk.passes.items → desk.outgoing.items ≡ [] → IsDesk desk
new_desk desk place few new none = record {
  place = place;
  few = few;
  passes = passes_know desk.inboxes.now (IsNew desk.problem.now (length desk.inboxes.now) desk.place) (λ taker seen. Knows desk.problem.now (length desk.inboxes.now) desk.place taker (sent_of desk.outgoing.items) seen) desk.passes.items new
      (λ taker seen within is. subst (λ (outgoing : List Outgoing). Knows desk.problem.now (length desk.inboxes.now) desk.place taker (sent_of outgoing) seen) (sym none) is.0);
  marked = subst (λ (outgoing : List Outgoing). AreMarked (length desk.inboxes.now) (offers_of outgoing)) (sym none) (λ at offered got. absurd (omega (arith, slice_get_within [] at offered got)));
  from = subst (All (NamesOneOf (others (length desk.inboxes.now) desk.place))) (sym taken) (All-nil (NamesOneOf (others (length desk.inboxes.now) desk.place)));
  short = λ sender. subst (λ (shared : List SharedClause). length (sent_by sender shared) ≤ 1024) (sym taken) (omega arith);
}
  where
    taken : taken_of desk ≡ []
    taken = none_taken desk.inboxes.now desk.problem.now desk.place desk.passes.items place new

abbrev HasSome : {X : Type 0} → List X → Type 0
HasSome [] = ⊥
HasSome (x ∷ xs) = Unit {0}

-- what each worker from a place on handed back, where none failed
all_back : {E : Type 0} (tickets : Tickets) (problem : Problem) (queries : List Query) (budget : ℕ) (inboxes : List Inbox) (first : ℕ) (handed : List (Result Shared E)) (crew : List Shared) → handed ≡ map Ok crew
    → ((place : ℕ) (d : Result Shared E) → place < length handed → IfOk (get_or handed place d) (IsHandedBack tickets problem queries budget inboxes (place + first))) → AreHandedBack tickets problem queries budget inboxes first crew
all_back tickets problem queries budget inboxes first handed [] is each = tt
all_back tickets problem queries budget inboxes first [] (shared ∷ crew) is each = absurd (subst HasSome (sym is) tt)
all_back {E} tickets problem queries budget inboxes first (one ∷ handed) (shared ∷ crew) is each = (
  (let same : 0 + first ≡ first = omega arith in let P : ℕ → Type 0 = λ n. IfOk one (IsHandedBack tickets problem queries budget inboxes n) in
      subst (λ (o : Result Shared E). IfOk o (IsHandedBack tickets problem queries budget inboxes first)) (ap (λ (hs : List (Result Shared E)). get_or hs 0 one) is) (subst P same (each 0 one (omega arith)))),
  all_back tickets problem queries budget inboxes (first + 1) handed crew (ap (λ (hs : List (Result Shared E)). drop 1 hs) is) (λ place d within.
      let P : ℕ → Type 0 = λ n. IfOk (get_or handed place d) (IsHandedBack tickets problem queries budget inboxes n) in
      let same : suc place + first ≡ place + (first + 1) = omega arith in subst P same (each (suc place) d (omega (arith, within)))),
)

-- what all workers handed back
pub crew_back : {E : Type 0} (tickets : Tickets) (problem : Problem) (queries : List Query) (budget : ℕ) (inboxes : List Inbox) (handed : List (Result Shared E)) (crew : List Shared) → handed ≡ map Ok crew
    → ((place : ℕ) (d : Result Shared E) → place < length handed → IfOk (get_or handed place d) (IsHandedBack tickets problem queries budget inboxes place)) → AreHandedBack tickets problem queries budget inboxes 0 crew
crew_back {E} tickets problem queries budget inboxes handed crew is each =
    all_back tickets problem queries budget inboxes 0 handed crew is (λ place d within. let P : ℕ → Type 0 = λ n. IfOk (get_or handed place d) (IsHandedBack tickets problem queries budget inboxes n) in
    let same : place ≡ place + 0 = omega arith in subst P same (each place d within))

-- as many workers handed something back as there are results
pub as_many : {E : Type 0} (handed : List (Result Shared E)) (crew : List Shared) → handed ≡ map Ok crew → length crew ≡ length handed
as_many {E} handed crew is = sym (ap (λ (hs : List (Result Shared E)). length hs) is ∙ length-map crew Ok)

-- what is handed back among the same workers
pub shared_among : {E : Type 0} (result : Result Shared E) (problem now : Problem) (inboxes all : List Inbox) (place own : ℕ) → problem ≡ now → inboxes ≡ all → place ≡ own
    → IfOk result (λ shared. IsShared problem inboxes place shared.worked.record shared.passes.items) → IfOk result (λ shared. IsShared now all own shared.worked.record shared.passes.items)
shared_among result problem now inboxes all place own problems same places holds =
    subst (λ (p : Problem × List Inbox × ℕ). IfOk result (λ shared. IsShared p.0 p.1 p.2 shared.worked.record shared.passes.items)) (λ i. (problems i, same i, places i)) holds

-- and it tells nothing yet
pub silent_yet : (desk now : Desk) → now ≡ desk → desk.place < length desk.inboxes.now → AreNew desk.problem.now desk.inboxes.now desk.place desk.passes.items → desk.outgoing.items ≡ [] → IsSilent (Some (told_by now))
silent_yet desk now is place new none =
    subst (λ (one : Desk). IsSilent (Some (told_by one))) (sym is)
    (none_taken desk.inboxes.now desk.problem.now desk.place desk.passes.items place new, ap (λ (outgoing : List Outgoing). map (λ (one : Outgoing). (one.offered.entry, one.clause)) outgoing) none)

-- each job can be begun by its number
pub may_begin : (tickets : Tickets) (problem : Problem) (inboxes : List Inbox) (jobs : List SharingJob) → length jobs ≡ length inboxes
    → ((place : ℕ) (d : SharingJob) → place < length jobs → IsSharingJob tickets problem inboxes place (get_or jobs place d)) → (place : ℕ) (sharing : SharingJob) → place < length jobs → sharing ≡ get_or jobs place sharing
    → (1 ≤ sharing.job.number) × (sharing.job.number ≤ length inboxes) × IsSharingJob tickets problem inboxes (sharing.job.number - 1) sharing
may_begin tickets problem inboxes jobs as_many each place sharing within is =
    let own : IsSharingJob tickets problem inboxes place sharing = subst (λ (one : SharingJob). IsSharingJob tickets problem inboxes place one) (sym is) (each place sharing within) in
    let number : sharing.job.number ≡ place + 1 = own.0.0 in
    let at : place ≡ sharing.job.number - 1 = omega (arith, number) in
    (omega (arith, number), omega (arith, number, within, as_many), subst (λ (n : ℕ). IsSharingJob tickets problem inboxes n sharing) at own)

-- what is handed back for a job stands at its place
pub back_at : {E : Type 0} (tickets : Tickets) (problem : Problem) (queries : List Query) (budget : ℕ) (inboxes : List Inbox) (jobs : List SharingJob)
    → ((place : ℕ) (d : SharingJob) → place < length jobs → IsSharingJob tickets problem inboxes place (get_or jobs place d)) → (place : ℕ) (sharing : SharingJob) → place < length jobs → get_or jobs place sharing ≡ sharing
    → (result : Result Shared E) → IfOk result (IsHandedBack tickets problem queries budget inboxes (sharing.job.number - 1)) → IfOk result (IsHandedBack tickets problem queries budget inboxes place)
back_at tickets problem queries budget inboxes jobs each place sharing within is result back =
    let own : IsSharingJob tickets problem inboxes place sharing = subst (λ (one : SharingJob). IsSharingJob tickets problem inboxes place one) is (each place sharing within) in
    let number : sharing.job.number ≡ place + 1 = own.0.0 in
    let at : sharing.job.number - 1 ≡ place = omega (arith, number) in
    subst (λ (n : ℕ). IfOk result (IsHandedBack tickets problem queries budget inboxes n)) at back
