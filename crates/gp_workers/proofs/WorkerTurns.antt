-- How far one worker has come with the tickets that it draws.
use Rattle.std.proofs.Common.{◌≡◌, refl, sym, ◌∙◌, ap, subst, ℕ, ◌+◌, ◌-◌, ◌*◌, ◌^◌, ◌<◌, ◌≤◌, Bool, false, Option, None, Some, List, [], ◌∷◌, ◌++◌, length, map, All, sum_by, append_assoc, arith}
use Rattle.std.specs.Prelude.{IsSomeAnd}
use Rattle.std.specs.List.{slice_get}
use Rattle.std.proofs.Math.Nat.{suc-mul}
use Rattle.std.proofs.lemmas.List.{length-append, length_push, map-append}
use Rattle.std.proofs.lemmas.List.Elements.{All-nil, All-push}
use Rattle.std.proofs.lemmas.Option.{slice_get_within}
use Rattle.gp_clause.specs.declared.problem.Problem.{Problem}
use Rattle.gp_clause.specs.declared.problem.Query.{Query}
use Rattle.gp_clause.specs.Problem.{IsValidProblem}
use Rattle.gp_derivation.specs.declared.exchange.SharedClause.{SharedClause}
use Rattle.gp_derivation.specs.declared.log.LogEntry.{LogEntry}
use Rattle.gp_derivation.specs.declared.record.Turn.{Turn}
use Rattle.gp_derivation.specs.declared.record.WorkerRecord.{WorkerRecord}
use Rattle.gp_certificate.specs.Certificate.{CertificateFollows}
use Rattle.gp_base.specs.ListLaws.{got_all, slice_get_back, slice_get_front}
use Rattle.gp_derivation.specs.Cones.{ConeOfStays}
use Rattle.gp_derivation.specs.EarlierLaws.{all_earlier}
use Rattle.gp_derivation.specs.Log.{IsLearned, IsTaken}
use Rattle.gp_derivation.specs.Numbering.{AllNameEarlier, size_of}
use Rattle.gp_tickets.specs.TicketLaws.{single_has_drawn}
use Rattle.gp_derivation.specs.FitStaying.{FitStays}
use Rattle.gp_derivation.specs.Spent.{SpentStays}
use Rattle.gp_search.specs.Mail.{MailForm, taken_entry}
use Rattle.gp_search.specs.Verdict.{Learns, LearnsAndShares, turn_of}
use Rattle.gp_tickets.specs.declared.drawn.Made.{Made}
use Rattle.gp_workers.specs.declared.crew.Worked.{Worked}
use Rattle.gp_tickets.specs.declared.tickets.Tickets.{Tickets}
use Rattle.gp_workers.specs.declared.work.WorkAnswer.{WorkAnswer}
use Rattle.gp_workers.specs.declared.worker.Worker.{Worker}
use Rattle.gp_workers.specs.Crew.{IsDone}
use Rattle.gp_tickets.specs.Tickets.{hand_of, IsSingle}
use Rattle.gp_workers.specs.Worker.{AnswersOwn, HasWorked, IsAnswerBy, IsFresh, PassesAll, TakesTurn, record_of}
use Rattle.gp_workers.specs.Record.{IsWorkerRecord, TakesThenLearns, TurnsCover, tickets_of}
use Rattle.gp_workers.specs.Mail.{given_by, IsSilent, SharesSoFar, TellsOrGivesNone}
use Rattle.gp_workers.proofs.WorkerAnswers.{GoesOn, answers_stay}
use Rattle.gp_workers.proofs.WorkerLogs.{taken_follow, turn_shares}

-- where nothing is told, nothing is shared
silent_shares : (problem : Problem) (told : Option MailForm) → IsSilent told → SharesSoFar problem [] told
silent_shares problem None silent = refl
silent_shares problem (Some told) silent = record { gave = ap (λ (ss : List SharedClause). map taken_entry ss) silent.0; offered = silent.1 }

no_entry_passes : (problem : Problem) → PassesAll problem []
no_entry_passes problem = (
  [],
  0,
  record {
    earlier = λ place entry got early. absurd (omega (arith, slice_get_within [] place entry got));
    current = λ place entry got late. absurd (omega (arith, slice_get_within [] place entry got));
  },
)

-- at first there is nothing
pub nothing_yet : (queries : List Query) (budget : ℕ) (worker : Worker) (told : Option MailForm) → IsFresh worker → IsSilent told → HasWorked worker.search.problem queries budget [] worker [] told
nothing_yet queries budget worker told fresh silent = record {
  searches = refl;
  answered = All-nil (AnswersOwn worker.search.problem queries budget worker.number (record_of worker));
  told = refl;
  tickets = ap (λ (ts : List Turn). map (λ (turn : Turn). turn.ticket) ts) fresh.turns;
  covered = subst (λ (ts : List Turn). TurnsCover worker.search.log 0 (length worker.search.log) ts) (sym fresh.turns) (sym empty);
  passes = subst (PassesAll worker.search.problem) (sym fresh.log) (no_entry_passes worker.search.problem);
  shares = subst (λ (es : List LogEntry). SharesSoFar worker.search.problem es told) (sym fresh.log) (silent_shares worker.search.problem told silent);
  few = omega (arith, empty);
}
  where
    empty : length worker.search.log ≡ 0
    empty = ap (λ (es : List LogEntry). length es) fresh.log

-- turns go up
covers_up : (log : List LogEntry) (from to : ℕ) (turns : List Turn) → TurnsCover log from to turns → from ≤ to
covers_up log from to [] covered = omega (arith, covered)
covers_up log from to (turn ∷ turns) covered = let rest = covers_up log turn.ends to turns covered.2 in let order = covered.1.order in omega (arith, rest, order.0, order.1, covered.0)

-- an entry of a longer log that stands early enough is one of the log
early : (log more : List LogEntry) (place : ℕ) (entry : LogEntry) → place < length log → slice_get (log ++ more) place ≡ Some entry → slice_get log place ≡ Some entry
early log more place entry within got = sym (slice_get_front log more place within) ∙ got

-- turns cover what they covered when the log grows
cover_longer : (log more : List LogEntry) (from to : ℕ) (turns : List Turn) → to ≤ length log → TurnsCover log from to turns → TurnsCover (log ++ more) from to turns
cover_longer log more from to [] within covered = covered
cover_longer log more from to (turn ∷ turns) within covered =
    let rest = covers_up log turn.ends to turns covered.2 in
    let order = covered.1.order in (
      covered.0,
      record {
        order = order;
        took = λ place entry got low high. covered.1.took place entry (early log more place entry (omega (arith, high, order.1, rest, within)) got) low high;
        learned = λ place entry got low high. covered.1.learned place entry (early log more place entry (omega (arith, high, rest, within)) got) low high;
      },
      cover_longer log more turn.ends to turns within covered.2,
    )

-- one turn more, from where the turns ended
cover_more : (log : List LogEntry) (from middle : ℕ) (turns : List Turn) (turn : Turn) → TurnsCover log from middle turns → turn.begins ≡ middle → TakesThenLearns log turn → TurnsCover log from turn.ends (turns ++ turn ∷ [])
cover_more log from middle [] turn covered begins takes = (begins ∙ sym covered, takes, refl)
cover_more log from middle (first ∷ turns) turn covered begins takes = (covered.0, covered.1, cover_more log first.ends middle turns turn covered.2 begins takes)

-- an entry behind others stands in the rest
behind : (front rest : List LogEntry) (place : ℕ) (entry : LogEntry) → length front ≤ place → slice_get (front ++ rest) place ≡ Some entry → slice_get rest (place - length front) ≡ Some entry
behind front rest place entry low got =
    let at : length front + (place - length front) ≡ place = omega (arith, low) in
    sym (slice_get_back front rest (place - length front)) ∙ ap (λ (n : ℕ). slice_get (front ++ rest) n) at ∙ got

-- a turn that added what it took and then what it learned took the former and learned the latter
grows_so : (problem : Problem) (query : Query) (budget ticket : ℕ) (old new : List LogEntry) (from : ℕ) → (learns : Learns problem query budget old new from) → TakesThenLearns new (turn_of ticket (length old) from (length new))
grows_so problem query budget ticket old new from learns = record {
  order = (omega (arith, learns.place), omega (arith, learns.place, longer, both));
  took = λ place entry got low high.
      let there : slice_get (old ++ taken ++ added) place ≡ Some entry = ap (λ (es : List LogEntry). slice_get es place) (sym learns.grows.longer) ∙ got in
      let within : place < length (old ++ taken) = omega (arith, both, learns.place, high) in
      got_all (λ (one : LogEntry). IsTaken one.origin) taken (place - length old) entry learns.grows.all_taken (behind old taken place entry low (early (old ++ taken) added place entry within there));
  learned = λ place entry got low high.
      let there : slice_get (old ++ taken ++ added) place ≡ Some entry = ap (λ (es : List LogEntry). slice_get es place) (sym learns.grows.longer) ∙ got in
      let after : length (old ++ taken) ≤ place = omega (arith, both, learns.place, low) in
      got_all (λ (one : LogEntry). IsLearned one.origin) added (place - length (old ++ taken)) entry learns.grows.learned (behind (old ++ taken) added place entry after there);
}
  where
    taken : List LogEntry
    taken = learns.grows.taken

    added : List LogEntry
    added = learns.grows.added

    both : length (old ++ taken) ≡ length old + length taken
    both = length-append old taken

    longer : length new ≡ length (old ++ taken) + length added
    longer = ap (λ (es : List LogEntry). length es) learns.grows.longer ∙ length-append (old ++ taken) added

-- an answer to one ticket more
one_answer_more : SpentStays → ConeOfStays → FitStays → (problem : Problem) (queries : List Query) (budget : ℕ) (drawn : List ℕ) (query : Query) (ticket : ℕ) (old new : Worker) (answers : List (Made WorkAnswer)) (answer : WorkAnswer) (may : Bool) (before after : Option MailForm)
    → HasWorked problem queries budget drawn old answers before → slice_get queries ticket ≡ Some query → TakesTurn query ticket budget old new before after → TellsOrGivesNone may before → (may ≡ false → new.search.learned ≡ length old.search.log)
    → IsAnswerBy problem query budget old.number (record_of new) ticket answer → HasWorked problem queries budget (drawn ++ ticket ∷ []) new (answers ++ record { number = ticket; value = answer } ∷ []) after
one_answer_more spent cone fit problem queries budget drawn query ticket old new answers answer may before after worked at took gives quiet is = record {
  searches = took.problem ∙ worked.searches;
  answered = subst (λ (n : ℕ). All (AnswersOwn problem queries budget n (record_of new)) (answers ++ answered ∷ [])) (sym took.number)
      (All-push (AnswersOwn problem queries budget old.number (record_of new)) answers answered (answers_stay spent cone problem queries budget old.number (record_of old) (record_of new) answers on worked.answered)
      (subst (λ o. IsSomeAnd o (λ one. IsAnswerBy problem one budget old.number (record_of new) ticket answer)) (sym at) is));
  told = map-append (λ (one : Made WorkAnswer). one.number) answers (answered ∷ []) ∙ ap (λ (ns : List ℕ). ns ++ ticket ∷ []) worked.told;
  tickets = ap (λ (ts : List Turn). map (λ (turn : Turn). turn.ticket) ts) took.turns ∙ map-append (λ (turn : Turn). turn.ticket) old.turns.items (turn ∷ []) ∙ ap (λ (ns : List ℕ). ns ++ ticket ∷ []) worked.tickets;
  covered = subst (λ (ts : List Turn). TurnsCover new.search.log 0 (length new.search.log) ts) (sym took.turns)
      (cover_more new.search.log 0 (length old.search.log) old.turns.items turn before_it refl (grows_so old.search.problem query budget ticket old.search.log new.search.log new.search.learned learns));
  passes = subst (λ (p : Problem). PassesAll p new.search.log) worked.searches (query.locals, length old.search.log, learns.grows.passes);
  shares = shared.0;
  few = let P : ℕ → Type 0 = λ n. length new.search.log ≤ n * budget + given_by after in subst P (sym (length_push drawn ticket)) (omega (arith, suc-mul (length drawn) budget, worked.few, shared.1));
}
  where
    turn : Turn
    turn = turn_of ticket (length old.search.log) new.search.learned (length new.search.log)

    answered : Made WorkAnswer
    answered = record { number = ticket; value = answer }

    learns : Learns old.search.problem query budget old.search.log new.search.log new.search.learned
    learns = took.log.learns

    on : GoesOn problem (record_of old) (record_of new)
    on = record {
      added = learns.grows.taken ++ learns.grows.added;
      log = learns.grows.longer ∙ append_assoc old.search.log learns.grows.taken learns.grows.added;
      earlier = subst (λ (p : Problem). AllNameEarlier (length p.clauses) new.search.log) worked.searches (all_earlier old.search.problem query.locals new.search.log (length old.search.log) learns.grows.passes);
      few = subst (λ (p : Problem). length p.clauses + sum_by size_of new.search.log + 1 < 2 ^ 32) worked.searches learns.numbered;
      turn = turn;
      turns = took.turns;
    }

    before_it : TurnsCover new.search.log 0 (length old.search.log) old.turns.items
    before_it = subst (λ (es : List LogEntry). TurnsCover es 0 (length old.search.log) old.turns.items) (sym on.log)
        (cover_longer old.search.log on.added 0 (length old.search.log) old.turns.items (omega arith) worked.covered)

    shared : SharesSoFar problem new.search.log after × (length new.search.log + given_by before ≤ length old.search.log + budget + given_by after)
    shared = turn_shares fit problem query budget old.search.log new.search.log new.search.learned may before after worked.passes
        (subst (λ (p : Problem). LearnsAndShares p query budget old.search.log new.search.log new.search.learned before after) worked.searches took.log) gives quiet worked.shares

-- then one ticket more is answered
pub one_more : SpentStays → ConeOfStays → FitStays → (problem : Problem) (queries : List Query) (budget : ℕ) (drawn now : List ℕ) (query : Query) (ticket : ℕ) (old new : Worker) (answers all : List (Made WorkAnswer)) (answer : WorkAnswer) (may : Bool) (before after : Option MailForm)
    → now ≡ drawn ++ ticket ∷ [] → all ≡ answers ++ record { number = ticket; value = answer } ∷ [] → slice_get queries ticket ≡ Some query
    → HasWorked problem queries budget drawn old answers before → TakesTurn query ticket budget old new before after → TellsOrGivesNone may before → (may ≡ false → new.search.learned ≡ length old.search.log)
    → IsAnswerBy old.search.problem query budget old.number (record_of new) ticket answer → HasWorked problem queries budget now new all after
one_more spent cone fit problem queries budget drawn now query ticket old new answers all answer may before after longer pushed at worked took gives quiet is =
    subst (λ (ns : List ℕ). HasWorked problem queries budget ns new all after) (sym longer)
    (subst (λ (rs : List (Made WorkAnswer)). HasWorked problem queries budget (drawn ++ ticket ∷ []) new rs after) (sym pushed)
    (one_answer_more spent cone fit problem queries budget drawn query ticket old new answers answer may before after worked at took gives quiet (subst (λ (p : Problem). IsAnswerBy p query budget old.number (record_of new) ticket answer) worked.searches is)))

-- what a worker hands back is a record
is_record : CertificateFollows → (problem : Problem) (queries : List Query) (budget : ℕ) (drawn : List ℕ) (worker : Worker) (answers : List (Made WorkAnswer)) (told : Option MailForm) → IsValidProblem problem → HasWorked problem queries budget drawn worker answers told
    → IsWorkerRecord problem (record_of worker)
is_record law problem queries budget drawn worker answers told valid worked = record { taken = taken_follow law problem worker.search.log valid worked.passes; covered = worked.covered }

-- what a worker hands back when its drawer was told that no ticket is left
pub is_done : CertificateFollows → (tickets : Tickets) (problem : Problem) (queries : List Query) (budget number : ℕ) (worker : Worker) (new : Worked) (told : Option MailForm) → IsValidProblem problem → IsSingle tickets 1 new.drawn.drawer
    → HasWorked problem queries budget (hand_of new.drawn.drawer).drawn worker new.drawn.made.items told → worker.number ≡ number → new.record ≡ record_of worker → IsDone tickets problem queries budget number new
is_done law tickets problem queries budget number worker new told valid single worked numbered own = record {
  drawn = single_has_drawn tickets new.drawn single worked.told;
  single = single.one;
  answered = subst (λ (one : WorkerRecord). All (AnswersOwn problem queries budget number one) new.drawn.made.items) (sym own)
      (subst (λ (n : ℕ). All (AnswersOwn problem queries budget n (record_of worker)) new.drawn.made.items) numbered worked.answered);
  tickets_drawn = ap tickets_of own ∙ worked.tickets;
  own = subst (IsWorkerRecord problem) (sym own) (is_record law problem queries budget (hand_of new.drawn.drawer).drawn worker new.drawn.made.items told valid worked);
}
