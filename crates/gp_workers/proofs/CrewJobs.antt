-- Jobs by their numbers, and what comes of them.
use Rattle.std.proofs.Common.{◌≡◌, ◌∙◌, sym, ap, subst, ℕ, zero, suc, ◌+◌, ◌-◌, ◌<◌, ◌≤◌, List, [], ◌∷◌, ◌++◌, length, get_or, All, arith}
use Rattle.std.proofs.lemmas.List.{length_push}
use Rattle.std.proofs.lemmas.List.Elements.{All-cons, All-nil}
use Rattle.gp_clause.specs.declared.problem.Problem.{Problem}
use Rattle.gp_clause.specs.declared.problem.Query.{Query}
use Rattle.gp_inbox.specs.declared.inbox.Inbox.{Inbox}
use Rattle.gp_workers.specs.declared.crew.Shared.{Shared}
use Rattle.gp_workers.specs.declared.crew.SharingJob.{SharingJob}
use Rattle.gp_workers.specs.declared.crew.Worked.{Worked}
use Rattle.gp_tickets.specs.declared.tickets.Tickets.{Tickets}
use Rattle.gp_workers.specs.Crew.{AreDone, IsDone}
use Rattle.gp_workers.specs.SharedCrew.{AreHandedBack, AreSharingJobs, IsHandedBack, IsShared, IsSharingJob}
use Rattle.gp_tickets.specs.Drawn.{HasDrawn}

-- what holds of each element by its place holds of one more at the end
pub each_pushed : {X : Type 0} (P : ℕ → X → Type 0) (xs : List X) (x : X) → ((i : ℕ) (d : X) → i < length xs → P i (get_or xs i d)) → P (length xs) x
    → (i : ℕ) (d : X) → i < length (xs ++ x ∷ []) → P i (get_or (xs ++ x ∷ []) i d)
each_pushed P [] x each last zero d within = last
each_pushed P [] x each last (suc i) d within = absurd (omega (arith, within))
each_pushed P (y ∷ xs) x each last zero d within = each 0 d (omega arith)
each_pushed P (y ∷ xs) x each last (suc i) d within = each_pushed (λ n. P (suc n)) xs x (λ j e below. each (suc j) e (omega (arith, below))) last i d (omega (arith, within))

-- the drawer of each worker that is done was told that no ticket is left
pub all_drawn : (tickets : Tickets) (problem : Problem) (queries : List Query) (budget number : ℕ) (crew : List Worked) → AreDone tickets problem queries budget number crew
    → All (λ (worked : Worked). HasDrawn tickets worked.drawn) crew
all_drawn tickets problem queries budget number [] done = All-nil (λ (worked : Worked). HasDrawn tickets worked.drawn)
all_drawn tickets problem queries budget number (worked ∷ crew) done =
    All-cons (λ (one : Worked). HasDrawn tickets one.drawn) worked crew done.0.drawn (all_drawn tickets problem queries budget (number + 1) crew done.1)

-- the jobs that are left for the workers from a place on
abbrev pub AreLeft : Tickets → Problem → List Inbox → ℕ → List SharingJob → Type 0
AreLeft tickets problem inboxes first jobs = (i : ℕ) (d : SharingJob) → i < length jobs → IsSharingJob tickets problem inboxes (i + first) (get_or jobs i d)

-- all are left for the first worker
pub all_left : (tickets : Tickets) (problem : Problem) (inboxes : List Inbox) (first : ℕ) (jobs : List SharingJob) → first ≡ 0 → AreSharingJobs tickets problem inboxes jobs → AreLeft tickets problem inboxes first jobs
all_left tickets problem inboxes first jobs none each = λ i d within.
    let P : ℕ → Type 0 = λ n. IsSharingJob tickets problem inboxes n (get_or jobs i d) in
    let same : i ≡ i + first = omega (arith, none) in subst P same (each i d within)

-- the first of them, and the others
next_job : (tickets : Tickets) (problem : Problem) (inboxes : List Inbox) (first : ℕ) (jobs : List SharingJob) (sharing : SharingJob) (more : List SharingJob) → AreLeft tickets problem inboxes first jobs → jobs ≡ sharing ∷ more
    → IsSharingJob tickets problem inboxes first sharing × AreLeft tickets problem inboxes (first + 1) more
next_job tickets problem inboxes first jobs sharing more each is = (
  (let P : ℕ → Type 0 = λ n. IsSharingJob tickets problem inboxes n sharing in let same : 0 + first ≡ first = omega arith in subst P same (all 0 sharing (omega arith))),
  λ i d within.
      let P : ℕ → Type 0 = λ n. IsSharingJob tickets problem inboxes n (get_or more i d) in
      let same : suc i + first ≡ i + (first + 1) = omega arith in subst P same (all (suc i) d (omega (arith, within))),
)
  where
    all : AreLeft tickets problem inboxes first (sharing ∷ more)
    all = subst (AreLeft tickets problem inboxes first) is each

-- the first of them can be begun by its number
pub next_begins : (tickets : Tickets) (problem : Problem) (inboxes : List Inbox) (first : ℕ) (jobs : List SharingJob) (sharing : SharingJob) (more : List SharingJob) → AreLeft tickets problem inboxes first jobs → jobs ≡ sharing ∷ more
    → first + length jobs ≡ length inboxes → (1 ≤ sharing.job.number) × (sharing.job.number ≤ length inboxes) × IsSharingJob tickets problem inboxes (sharing.job.number - 1) sharing
next_begins tickets problem inboxes first jobs sharing more each is all =
    let own = (next_job tickets problem inboxes first jobs sharing more each is).0 in
    let number : sharing.job.number ≡ first + 1 = own.0.0 in
    let at : first ≡ sharing.job.number - 1 = omega (arith, number) in
    let some = ap (λ (js : List SharingJob). length js) is in
    (omega (arith, number), omega (arith, number, all, some), subst (λ (n : ℕ). IsSharingJob tickets problem inboxes n sharing) at own)

-- what one worker more handed back
back_pushed : (tickets : Tickets) (problem : Problem) (queries : List Query) (budget : ℕ) (inboxes : List Inbox) (first : ℕ) (crew : List Shared) (shared : Shared) → AreHandedBack tickets problem queries budget inboxes first crew
    → IsHandedBack tickets problem queries budget inboxes (length crew + first) shared → AreHandedBack tickets problem queries budget inboxes first (crew ++ shared ∷ [])
back_pushed tickets problem queries budget inboxes first [] shared all back =
    (let P : ℕ → Type 0 = λ n. IsHandedBack tickets problem queries budget inboxes n shared in let same : 0 + first ≡ first = omega arith in subst P same back, tt)
back_pushed tickets problem queries budget inboxes first (one ∷ crew) shared all back =
    let P : ℕ → Type 0 = λ n. IsHandedBack tickets problem queries budget inboxes n shared in
    let same : suc (length crew) + first ≡ length crew + (first + 1) = omega arith in
    (all.0, back_pushed tickets problem queries budget inboxes (first + 1) crew shared all.1 (subst P same back))

-- so the workers go on, in order, when one more has done its job
pub one_more_back : (tickets : Tickets) (problem : Problem) (queries : List Query) (budget : ℕ) (inboxes : List Inbox) (crew new : List Shared) (shared : Shared) (jobs : List SharingJob) (sharing : SharingJob) (more : List SharingJob)
    → jobs ≡ sharing ∷ more → new ≡ crew ++ shared ∷ [] → AreLeft tickets problem inboxes (length crew) jobs → AreHandedBack tickets problem queries budget inboxes 0 crew
    → IsDone tickets problem queries budget sharing.job.number shared.worked → IsShared problem inboxes (sharing.job.number - 1) shared.worked.record shared.passes.items
    → (length new ≡ length crew + 1) × AreLeft tickets problem inboxes (length new) more × AreHandedBack tickets problem queries budget inboxes 0 new
one_more_back tickets problem queries budget inboxes crew new shared jobs sharing more jobs_are new_is left all done shares = (
  longer,
  (let P : ℕ → Type 0 = λ n. AreLeft tickets problem inboxes n more in subst P (sym longer) next.1),
  subst (AreHandedBack tickets problem queries budget inboxes 0) (sym new_is) (back_pushed tickets problem queries budget inboxes 0 crew shared all (let same : length crew ≡ length crew + 0 = omega arith in subst (λ (n : ℕ). IsHandedBack tickets problem queries budget inboxes n shared) same own)),
)
  where
    next : IsSharingJob tickets problem inboxes (length crew) sharing × AreLeft tickets problem inboxes (length crew + 1) more
    next = next_job tickets problem inboxes (length crew) jobs sharing more left jobs_are

    number : sharing.job.number ≡ length crew + 1
    number = next.0.0.0

    at : sharing.job.number - 1 ≡ length crew
    at = omega (arith, number)

    longer : length new ≡ length crew + 1
    longer = ap (λ (ss : List Shared). length ss) new_is ∙ length_push crew shared

    own : IsHandedBack tickets problem queries budget inboxes (length crew) shared
    own = record {
      done = subst (λ (n : ℕ). IsDone tickets problem queries budget n shared.worked) number done;
      shares = subst (λ (n : ℕ). IsShared problem inboxes n shared.worked.record shared.passes.items) at shares;
    }
