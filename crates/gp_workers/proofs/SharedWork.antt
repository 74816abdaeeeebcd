-- What the workers handed back is what passed between them, once all passes are joined and what is left is taken.
use Rattle.std.proofs.Common.{◌≡◌, refl, sym, ◌∙◌, ap, subst, ℕ, zero, suc, ◌+◌, ◌<◌, Option, None, Some, true, List, [], ◌∷◌, ◌++◌, length, map, All, arith, count_by, ◌==◌}
use Rattle.std.specs.List.{slice_get}
use Rattle.std.specs.Global.{Vec}
use Rattle.std.proofs.lemmas.List.{length-map}
use Rattle.std.proofs.lemmas.List.Elements.{All-cons, All-nil}
use Rattle.std.proofs.lemmas.Option.{same_Some, slice_get_within}
use Rattle.crossbeam_queue.specs.Passes.{Pass, view}
use Rattle.gp_clause.specs.declared.problem.Problem.{Problem}
use Rattle.gp_clause.specs.declared.problem.Query.{Query}
use Rattle.gp_derivation.specs.declared.exchange.SharedClause.{SharedClause}
use Rattle.gp_derivation.specs.declared.record.WorkerRecord.{WorkerRecord}
use Rattle.gp_inbox.specs.declared.inbox.Inbox.{Inbox}
use Rattle.gp_inbox.specs.declared.rule.View.{View}
use Rattle.gp_inbox.specs.History.{sent_by}
use Rattle.gp_search.specs.Mail.{taken_entry}
use Rattle.gp_workers.specs.declared.crew.Shared.{Shared}
use Rattle.gp_workers.specs.declared.crew.Worked.{Worked}
use Rattle.gp_tickets.specs.declared.tickets.Tickets.{Tickets}
use Rattle.gp_workers.specs.declared.work.WindowWork.{WindowWork}
use Rattle.gp_workers.specs.declared.work.WorkAnswer.{WorkAnswer}
use Rattle.gp_workers.specs.Crew.{AreDone}
use Rattle.gp_workers.specs.Desk.{Knows, PassesAre, taken_by}
use Rattle.gp_workers.specs.Post.{IsWholeOf}
use Rattle.gp_workers.specs.SharedCrew.{AreHandedBack, IsHandedBack, Drains}
use Rattle.gp_workers.specs.Inboxes.{AreJoined, AreRows, DrainsAt, IsOfEach}
use Rattle.gp_workers.specs.Record.{EachOnce, IsWorkerRecord}
use Rattle.gp_workers.specs.Work.{AnswerEach, IsWork}
use Rattle.gp_workers.specs.Sharing.{AllShared, IsHandedOut, OffersAll, others, pushed_to, TakesFromOthers}
use Rattle.gp_workers.proofs.SharedViews.{all_numbers, all_sent, all_taken, AreSeen, joined_with, numbers_at, one_takes, others_at, pushed_at, seen_at, seen_by, SeenBy, taken_at, takes_at, with_all}

-- a place within a list has an element
pub some_at : {X : Type 0} (xs : List X) (place : ℕ) → place < length xs → (x : X) × (slice_get xs place ≡ Some x)
some_at [] place within = absurd (omega (arith, within))
some_at (x ∷ xs) zero within = (x, refl)
some_at (x ∷ xs) (suc place) within = some_at xs place (omega (arith, within))

-- what was taken by a pass is in what it knows
taken_is : (pass : Option (Pass SharedClause View)) → taken_by pass ≡ (seen_by pass).taken
taken_is None = refl
taken_is (Some pass) = refl

module _ (tickets : Tickets) (problem : Problem) (queries : List Query) (budget : ℕ) (inboxes : List Inbox) where
  -- the works are done
  pub are_done : (place : ℕ) (crew : List Shared) → AreHandedBack tickets problem queries budget inboxes place crew → AreDone tickets problem queries budget (place + 1) (map (λ (shared : Shared). shared.worked) crew)
  are_done place [] back = tt
  are_done place (shared ∷ crew) back = (back.0.done, are_done (place + 1) crew back.1)

  -- there is one pass of each inbox
  pub are_rows : (place : ℕ) (crew : List Shared) → AreHandedBack tickets problem queries budget inboxes place crew → AreRows inboxes (map (λ (shared : Shared). shared.passes) crew)
  are_rows place [] back = tt
  are_rows place (shared ∷ crew) back = (
    record { len = back.0.shares.each.len; each = λ taker inbox pass got_inbox got_pass. (back.0.shares.each.each taker inbox pass got_inbox got_pass).0 },
    are_rows (place + 1) crew back.1,
  )

  -- all that is fit to share was offered
  pub all_offer : (place : ℕ) (crew : List Shared) → AreHandedBack tickets problem queries budget inboxes place crew
      → All (OffersAll problem (length inboxes)) (map (λ (worked : Worked). worked.record) (map (λ (shared : Shared). shared.worked) crew))
  all_offer place [] back = All-nil (OffersAll problem (length inboxes))
  all_offer place (shared ∷ crew) back =
      All-cons (OffersAll problem (length inboxes)) shared.worked.record (map (λ (worked : Worked). worked.record) (map (λ (one : Shared). one.worked) crew)) back.0.shares.offers (all_offer (place + 1) crew back.1)

  -- each took only from the others
  pub all_from : (place k at : ℕ) (crew : List Shared) (own : WorkerRecord) → AreHandedBack tickets problem queries budget inboxes place crew → at ≡ place + k → slice_get (map (λ (shared : Shared). shared.worked.record) crew) k ≡ Some own
      → TakesFromOthers (length inboxes) at own.log
  all_from place k at [] own back is got = absurd (cc)
  all_from place zero at (shared ∷ crew) own back is got =
      let here : place ≡ at = omega (arith, is) in
      subst (λ (p : ℕ × WorkerRecord). TakesFromOthers (length inboxes) p.0 p.1.log) (λ i. (here i, same_Some shared.worked.record own got i)) back.0.shares.from
  all_from place (suc k) at (shared ∷ crew) own back is got = all_from (place + 1) k at crew own back.1 (omega (arith, is)) got

  -- what the passes of the inbox at a place know
  seen_of : (place own : ℕ) (shared : Shared) → IsHandedBack tickets problem queries budget inboxes own shared → place < length inboxes → SeenBy problem (length inboxes) place own shared
  seen_of place own shared back within =
      let inbox = some_at inboxes place within in
      let pass = some_at shared.passes.items place (omega (arith, within, back.shares.each.len)) in
      let is : seen_at place shared ≡ view pass.0 = ap seen_by pass.1 in
      record {
        knows = subst (λ (seen : View). Knows problem (length inboxes) own place (pushed_to shared.worked.record own place) seen) (sym is) (back.shares.each.each place inbox.0 pass.0 inbox.1 pass.1).1;
        taken = λ same. ap (λ (ss : List SharedClause). map taken_entry ss) (sym (ap (λ (n : ℕ). taken_by (slice_get shared.passes.items n)) same ∙ taken_is (slice_get shared.passes.items place))) ∙ back.shares.taken;
      }

  pub are_seen : (place own : ℕ) (crew : List Shared) → AreHandedBack tickets problem queries budget inboxes own crew → place < length inboxes → AreSeen problem (length inboxes) place own crew
  are_seen place own [] back within = tt
  are_seen place own (shared ∷ crew) back within = (seen_of place own shared back.0 within, are_seen place (own + 1) crew back.1 within)

-- the records are those of the works
pub records_of : (crew : List Shared) → map (λ (worked : Worked). worked.record) (map (λ (shared : Shared). shared.worked) crew) ≡ map (λ (shared : Shared). shared.worked.record) crew
records_of [] = refl
records_of (shared ∷ crew) = ap (λ (rs : List WorkerRecord). shared.worked.record ∷ rs) (records_of crew)

-- what a joined pass of the inbox at a place knows
record IsTogether (problem : Problem) (count place : ℕ) (crew : List Shared) (seen : View) : Type 0 where
  pub base : seen.base ≡ Some problem
  pub senders : seen.senders ≡ others count place
  pub numbers : seen.numbers ≡ numbers_at place crew
  pub takes : seen.takes ≡ takes_at place crew
  pub pushed : seen.pushed ≡ pushed_at place crew
  pub taken : seen.taken ≡ taken_at place crew

is_together : (problem : Problem) (count place : ℕ) (inboxes : List Inbox) (crew : List Shared) (passes : List (Pass SharedClause View)) (pass : Pass SharedClause View)
    → AreSeen problem count place 0 crew → AreJoined inboxes (map (λ (shared : Shared). shared.passes) crew) passes → slice_get passes place ≡ Some pass → IsTogether problem count place crew (view pass)
is_together problem count place inboxes [] passes pass seen are got = absurd are
is_together problem count place inboxes (first ∷ crew) passes pass seen are got =
    let joined = are.1 place pass got in
    let first_is : seen_at place first ≡ view joined.0 = ap seen_by joined.1 in
    let is : view pass ≡ with_all (seen_at place first) place crew =
    joined.2 ∙ joined_with (view joined.0) place crew ∙ ap (λ (v : View). with_all v place crew) (sym first_is) in
    record {
      base = ap (λ (v : View). v.base) is ∙ seen.0.knows.base;
      senders = ap (λ (v : View). v.senders) is ∙ seen.0.knows.senders;
      numbers = ap (λ (v : View). v.numbers) is;
      takes = ap (λ (v : View). v.takes) is;
      pushed = ap (λ (v : View). v.pushed) is;
      taken = ap (λ (v : View). v.taken) is;
    }

-- a joined pass that is drained is handed out
is_handed_out : (problem : Problem) (count place : ℕ) (crew : List Shared) (before now : View) → count ≡ length crew → AreSeen problem count place 0 crew → IsTogether problem count place crew before → Drains before now
    → IsHandedOut problem count (map (λ (shared : Shared). shared.worked.record) crew) place now
is_handed_out problem count place crew before now counted seen all drains = record {
  base = ap (λ (v : View). v.base) drains.is ∙ all.base;
  senders = ap (λ (v : View). v.senders) drains.is ∙ all.senders;
  pushed = λ from one got apart.
      subst (λ (ss : List SharedClause). map (λ (s : SharedClause). s.clause) (sent_by (from + 1) ss) ≡ pushed_to one from place) (sym (ap (λ (v : View). v.pushed) drains.is ∙ all.pushed))
      (all_sent problem count place 0 from from crew one seen (omega arith) got apart);
  taken = λ from within apart.
      drains.drained (from + 1)
      (subst (λ (ns : List ℕ). 0 < count_by (◌==◌ (from + 1)) ns) (sym (ap (λ (v : View). v.numbers) drains.is ∙ all.numbers))
      (all_numbers problem count place 0 from from crew seen (omega arith) (omega (arith, within, counted)) apart));
  first = λ own got. (
    taken_at place crew,
    drains.more,
    ap (λ (v : View). v.taken) drains.is ∙ ap (λ (ss : List SharedClause). ss ++ drains.more) all.taken,
    all_taken problem count place 0 place crew own seen (omega arith) got,
  );
}

-- and it can be renewed
is_whole : (problem : Problem) (count place : ℕ) (crew : List Shared) (before now : View) → count ≡ length crew → place < count → AreSeen problem count place 0 crew → IsTogether problem count place crew before → Drains before now
    → IsWholeOf count place now
is_whole problem count place crew before now counted within seen all drains = record {
  whole = record {
    numbers = λ number. ap (λ (ns : List ℕ). count_by (◌==◌ number) ns) (ap (λ (v : View). v.numbers) drains.is ∙ all.numbers ∙ others_at problem count place crew seen counted within ∙ sym senders);
    takes = ap (λ (v : View). v.takes) drains.is ∙ all.takes ∙ one_takes problem count place 0 place crew seen (omega arith) (omega (arith, within, counted));
    drained = drains.drained;
  };
  senders = senders;
}
  where
    senders : now.senders ≡ others count place
    senders = ap (λ (v : View). v.senders) drains.is ∙ all.senders

-- the joined passes are of the inboxes
pub own_of : (inboxes : List Inbox) (rows : List (Vec (Pass SharedClause View))) (passes : List (Pass SharedClause View)) → AreJoined inboxes rows passes → IsOfEach inboxes passes
own_of inboxes [] passes are = absurd are
own_of inboxes (row ∷ rows) passes are = are.0

module _ (tickets : Tickets) (problem : Problem) (queries : List Query) (budget : ℕ) (inboxes : List Inbox) (crew : List Shared) (back : AreHandedBack tickets problem queries budget inboxes 0 crew) (counted : length crew ≡ length inboxes) (joined : List (Pass SharedClause View)) (are : AreJoined inboxes (map (λ (shared : Shared). shared.passes) crew) joined) where
  -- a joined pass is that of an inbox
  within : (place : ℕ) (pass : Pass SharedClause View) → slice_get joined place ≡ Some pass → place < length inboxes
  within place pass got = omega (arith, slice_get_within joined place pass got, (own_of inboxes (map (λ (shared : Shared). shared.passes) crew) joined are).len)

  -- what each worker's pass of the inbox at a place knows, where a joined pass stands at the place
  seen_there : (place : ℕ) (pass : Pass SharedClause View) → slice_get joined place ≡ Some pass → AreSeen problem (length inboxes) place 0 crew
  seen_there place pass got = are_seen tickets problem queries budget inboxes place 0 crew back (within place pass got)

  together : (place : ℕ) (pass : Pass SharedClause View) → slice_get joined place ≡ Some pass → IsTogether problem (length inboxes) place crew (view pass)
  together place pass got = is_together problem (length inboxes) place inboxes crew joined pass (seen_there place pass got) are got

  -- each joined pass may take
  pub all_take : (place : ℕ) (pass : Pass SharedClause View) → slice_get joined place ≡ Some pass → (view pass).takes ≡ true
  all_take place pass got =
      (together place pass got).takes ∙ one_takes problem (length inboxes) place 0 place crew (seen_there place pass got) (omega arith) (omega (arith, within place pass got, counted))

  module _ (passes : List (Pass SharedClause View)) (own : IsOfEach inboxes passes) (each : (place : ℕ) (pass : Pass SharedClause View) → slice_get passes place ≡ Some pass → DrainsAt joined place pass) where
    -- then all is shared
    pub all_shared : (records : List WorkerRecord) → records ≡ map (λ (worked : Worked). worked.record) (map (λ (shared : Shared). shared.worked) crew) → AllShared problem (length inboxes) records passes
    all_shared records records_are = record {
      workers = ap (λ (rs : List WorkerRecord). length rs) (records_are ∙ records_of crew) ∙ length-map crew (λ (shared : Shared). shared.worked.record) ∙ counted;
      offers = subst (All (OffersAll problem (length inboxes))) (sym records_are) (all_offer tickets problem queries budget inboxes 0 crew back);
      from = λ place own got.
          all_from tickets problem queries budget inboxes 0 place place crew own back (omega arith) (subst (λ (rs : List WorkerRecord). slice_get rs place ≡ Some own) (records_are ∙ records_of crew) got);
      inboxes = own.len;
      each = λ place pass got.
          let drains : DrainsAt joined place pass = each place pass got in
          subst (λ (rs : List WorkerRecord). IsHandedOut problem (length inboxes) rs place (view pass)) (sym (records_are ∙ records_of crew))
          (is_handed_out problem (length inboxes) place crew (view drains.before) (view pass) (sym counted) (seen_there place drains.before drains.is) (together place drains.before drains.is) drains.drains);
    }

    -- and each inbox can be renewed
    pub all_whole : PassesAre inboxes (IsWholeOf (length inboxes)) passes
    all_whole = record {
      len = own.len;
      each = λ place inbox pass got_inbox got. (
        own.each place inbox pass got_inbox got,
        let drains : DrainsAt joined place pass = each place pass got in
            is_whole problem (length inboxes) place crew (view drains.before) (view pass) (sym counted) (within place drains.before drains.is) (seen_there place drains.before drains.is) (together place drains.before drains.is)
            drains.drains,
      );
    }

-- work is the same work with whatever passes
pub still_work : (problem : Problem) (queries : List Query) (count budget : ℕ) (old new : WindowWork) → new.answers ≡ old.answers → new.records ≡ old.records → IsWork problem queries count budget old → IsWork problem queries count budget new
still_work problem queries count budget old new answers records is = record {
  answers = subst (λ (p : List WorkerRecord × List WorkAnswer). AnswerEach problem budget p.0 0 queries p.1) (λ i. (sym records i, sym answers i)) is.answers;
  workers = ap (λ (rs : List WorkerRecord). length rs) records ∙ is.workers;
  records = subst (All (IsWorkerRecord problem)) (sym records) is.records;
  once = subst (EachOnce (length queries)) (sym records) is.once;
}
