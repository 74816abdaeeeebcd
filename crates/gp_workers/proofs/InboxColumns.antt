-- The passes of each worker, while one inbox after another is opened.
use Rattle.std.proofs.Common.{◌≡◌, sym, ◌∙◌, ap, subst, ℕ, suc, ◌+◌, ◌<◌, ◌≤◌, ◌⊎◌, inl, inr, Some, List, [], ◌∷◌, ◌++◌, length, get_or, slice_set, arith}
use Rattle.std.specs.Global.{Vec}
use Rattle.std.specs.List.{slice_get}
use Rattle.std.proofs.lemmas.Bool.{cases_lt}
use Rattle.std.proofs.lemmas.List.{length-set, length_push}
use Rattle.std.proofs.lemmas.Option.{same_Some, slice_get_within}
use Rattle.crossbeam_queue.specs.Passes.{Pass, view}
use Rattle.gp_clause.specs.declared.problem.Problem.{Problem}
use Rattle.gp_derivation.specs.declared.exchange.SharedClause.{SharedClause}
use Rattle.gp_inbox.specs.declared.inbox.Inbox.{Inbox}
use Rattle.gp_inbox.specs.declared.rule.View.{View}
use Rattle.gp_inbox.specs.Passes.{IsOf}
use Rattle.gp_workers.specs.declared.crew.SharingJob.{SharingJob}
use Rattle.gp_tickets.specs.declared.tickets.Tickets.{Tickets}
use Rattle.gp_workers.specs.Crew.{IsJob}
use Rattle.gp_workers.specs.Desk.{PassesAre}
use Rattle.gp_workers.specs.Inboxes.{AreColumns, IsDealt}
use Rattle.gp_workers.specs.SharedCrew.{AreNew, AreSharingJobs, IsNew, IsRow, IsSharingJob}
use Rattle.gp_workers.proofs.InboxPlaces.{done_above, got_last, got_left, popped}
use Rattle.gp_workers.proofs.CrewJobs.{each_pushed}
use Rattle.gp_workers.proofs.DeskPasses.{got_at}

-- the passes of one inbox more
pub passes_more : (inboxes : List Inbox) (knows : ℕ → View → Type 0) (passes : List (Pass SharedClause View)) (inbox : Inbox) (pass : Pass SharedClause View) → PassesAre inboxes knows passes
    → IsOf inbox pass × knows (length inboxes) (view pass) → PassesAre (inboxes ++ inbox ∷ []) knows (passes ++ pass ∷ [])
passes_more inboxes knows passes inbox pass are last = record {
  len = omega (arith, are.len, length_push passes pass, length_push inboxes inbox);
  each = λ place one seen got_inbox got_pass. at place one seen got_inbox got_pass (cases_lt place (length inboxes));
}
  where
    at : (place : ℕ) (one : Inbox) (seen : Pass SharedClause View) → slice_get (inboxes ++ inbox ∷ []) place ≡ Some one → slice_get (passes ++ pass ∷ []) place ≡ Some seen → (place < length inboxes) ⊎ (length inboxes ≤ place)
        → IsOf one seen × knows place (view seen)
    at place one seen got_inbox got_pass (inl low) =
        are.each place one seen (sym (got_left inboxes (inbox ∷ []) place low) ∙ got_inbox) (sym (got_left passes (pass ∷ []) place (omega (arith, low, are.len))) ∙ got_pass)
    at place one seen got_inbox got_pass (inr high) =
        let within : place < length (inboxes ++ inbox ∷ []) = slice_get_within (inboxes ++ inbox ∷ []) place one got_inbox in
        let here : length inboxes ≡ place = omega (arith, high, within, length_push inboxes inbox) in
        let there : length passes ≡ place = omega (arith, here, are.len) in
        let inbox_is : inbox ≡ one = same_Some inbox one (sym (got_last inboxes inbox) ∙ ap (λ (n : ℕ). slice_get (inboxes ++ inbox ∷ []) n) here ∙ got_inbox) in
        let pass_is : pass ≡ seen = same_Some pass seen (sym (got_last passes pass) ∙ ap (λ (n : ℕ). slice_get (passes ++ pass ∷ []) n) there ∙ got_pass) in
        subst (λ (p : ℕ × Inbox × Pass SharedClause View). IsOf p.1 p.2 × knows p.0 (view p.2)) (λ i. (here i, inbox_is i, pass_is i)) last

pub column_more : (problem : Problem) (count taker : ℕ) (inboxes now : List Inbox) (columns new : List (Vec (Pass SharedClause View))) (inbox : Inbox) (row : List (Pass SharedClause View)) → AreColumns problem count inboxes columns
    → length inboxes ≡ taker → IsRow problem count taker inbox row → length new ≡ length columns → now ≡ inboxes ++ inbox ∷ []
    → ((place : ℕ) (column : Vec (Pass SharedClause View)) → slice_get new place ≡ Some column → IsDealt columns row place column) → AreColumns problem count now new
column_more problem count taker inboxes now columns new inbox row are counted is_row len is dealt = record {
  len = len ∙ are.len;
  each = λ own column got.
      let one = dealt own column got in
      let added = is_row.each own one.pass one.is_pass in
      let all : PassesAre (inboxes ++ inbox ∷ []) (IsNew problem count own) (one.before.items ++ one.pass ∷ []) =
      passes_more inboxes (IsNew problem count own) one.before.items inbox one.pass (are.each own one.before one.is_before)
      (added.0, subst (λ (n : ℕ). IsNew problem count own n (view one.pass)) (sym counted) added.1) in
      subst (λ (p : List Inbox × List (Pass SharedClause View)). PassesAre p.0 (IsNew problem count own) p.1) (λ i. (sym is i, sym one.now i)) all;
}

-- one worker more gets its pass of a row
module _ (old columns new : List (Vec (Pass SharedClause View))) (all left rest : List (Pass SharedClause View)) (place : ℕ) (before now : Vec (Pass SharedClause View)) (pass : Pass SharedClause View) where
  pub dealt_more : left ≡ rest ++ pass ∷ [] → place ≡ length rest → length columns ≡ length old → length left ≤ length old → ((n : ℕ) → n < length left → slice_get left n ≡ slice_get all n)
      → ((n : ℕ) → n < length left → slice_get columns n ≡ slice_get old n) → ((n : ℕ) (column : Vec (Pass SharedClause View)) → length left ≤ n → slice_get columns n ≡ Some column → IsDealt old all n column)
      → before ≡ get_or columns place before → new ≡ slice_set columns place now → now.items ≡ before.items ++ pass ∷ []
      → (length new ≡ length old) × (length rest ≤ length old) × ((n : ℕ) → n < length rest → slice_get rest n ≡ slice_get all n) × ((n : ℕ) → n < length rest → slice_get new n ≡ slice_get old n)
      × ((n : ℕ) (column : Vec (Pass SharedClause View)) → length rest ≤ n → slice_get new n ≡ Some column → IsDealt old all n column)
  dealt_more is at len few same early late is_before set more =
      let longer : length left ≡ length rest + 1 = ap (λ (ps : List (Pass SharedClause View)). length ps) is ∙ length_push rest pass in
      let within : place < length columns = omega (arith, at, few, longer, len) in
      let next = popped all left rest pass is same in
      let done = done_above (IsDealt old all) old columns new place now within set (λ n column high. late n column (omega (arith, high, at, longer))) (λ n low. early n (omega (arith, low, at, longer)))
      (record {
        before = before;
        pass = pass;
        is_before = sym (early place (omega (arith, at, longer))) ∙ got_at columns place before within is_before;
        is_pass = ap (λ (n : ℕ). slice_get all n) at ∙ next.0;
        now = more;
      }) in (
        ap (λ (cs : List (Vec (Pass SharedClause View))). length cs) set ∙ length-set columns place now ∙ len,
        omega (arith, longer, few),
        next.1,
        (λ n low. done.1 n (omega (arith, low, at))),
        (λ n column high. done.0 n column (omega (arith, high, at))),
      )

-- what is left of some columns, where the first was taken off
pub next_column : {X : Type 0} (all left rest : List X) (count : ℕ) (x : X) → left ≡ x ∷ rest → ((place : ℕ) → slice_get left place ≡ slice_get all (count + place))
    → (slice_get all count ≡ Some x) × ((next place : ℕ) → next ≡ count + 1 → slice_get rest place ≡ slice_get all (next + place))
next_column all left rest count x is same = (
  (let here : count ≡ count + 0 = omega arith in ap (λ (n : ℕ). slice_get all n) here ∙ sym (same 0) ∙ ap (λ xs. slice_get xs 0) is),
  (λ next place counted. let there : count + suc place ≡ next + place = omega (arith, counted) in
      ap (λ xs. slice_get xs (suc place)) (sym is) ∙ same (suc place) ∙ ap (λ (n : ℕ). slice_get all n) there),
)

-- the jobs are those of the first workers
abbrev pub AreOfFirst : Tickets → ℕ → List (Vec (Pass SharedClause View)) → List SharingJob → Type 0
AreOfFirst tickets workers columns jobs = (problem : Problem) (inboxes : List Inbox) → AreColumns problem workers inboxes columns → length inboxes ≡ workers
    → AreSharingJobs tickets problem inboxes jobs

pub hired_more : (tickets : Tickets) (workers : ℕ) (columns : List (Vec (Pass SharedClause View))) (jobs new : List SharingJob) (sharing : SharingJob) → AreOfFirst tickets workers columns jobs → new ≡ jobs ++ sharing ∷ []
    → IsJob tickets (length jobs + 1) sharing.job → slice_get columns (length jobs) ≡ Some sharing.passes → AreOfFirst tickets workers columns new
hired_more tickets workers columns jobs new sharing hired is job got = λ problem inboxes are counted.
    let its : AreNew problem inboxes (length jobs) sharing.passes.items =
    subst (λ (n : ℕ). PassesAre inboxes (IsNew problem n (length jobs)) sharing.passes.items) (sym counted) (are.each (length jobs) sharing.passes got) in
    subst (AreSharingJobs tickets problem inboxes) (sym is)
    (each_pushed (λ place one. IsSharingJob tickets problem inboxes place one) jobs sharing (hired problem inboxes are counted) (job, its))
