-- What may close a chain: which threads wait for what its first event holds, and which threads wait for those.
use Rattle.std.specs.Prelude.{ℕ, ◌≡◌, ◌&&◌, ◌||◌, ◌==◌, [], Bool, true, false, not, List, Contains, nat_lt}
use Rattle.std.specs.List.{list_all, list_any}
use Rattle.std.specs.Str.{bytes_eq}
use Rattle.gp_trace.specs.declared.lock_use.LockMode.{LockMode}
use Rattle.gp_trace.specs.LockUse.{HeldLocks, mode_held}
use Rattle.gp_window.specs.declared.schedule.EventId.{EventId}
use Rattle.gp_window.specs.WindowForm.{WindowForm}
use Rattle.gp_constraint.specs.Sections.{exclude}
use Rattle.gp_constraint.specs.Tables.{entry_at}
use Rattle.gp_stuck.specs.declared.first.First.{First}
use Rattle.gp_stuck.specs.declared.link.Closer.{Closer}
use Rattle.gp_stuck.specs.declared.link.Link.{Link}
use Rattle.gp_stuck.specs.declared.link.Others.{Others}
use Rattle.gp_stuck.specs.declared.link.Others.TheVariants.{Nobody, One, Several}
use Rattle.gp_stuck.specs.declared.link.Step.{Step}
use Rattle.gp_stuck.specs.Cycle.{keeps_out}
use Rattle.gp_stuck.specs.Links.{AreLinked, IsHolding}
use Rattle.gp_stuck.specs.Search.{takers_of}

-- the thread of a link, as it holds the lock
abbrev pub closer_of : Link → Closer
closer_of link = record { thread = link.thread; mode = link.mode }

-- the thread of a link stands where it holds, if it is greater than the first and waits for one of these locks
abbrev pub IsCloser : ℕ → HeldLocks → List (List ℕ × List Closer) → Link → Type 0
IsCloser first held closers link = nat_lt first link.thread ≡ true → keeps_out link.wanted (mode_held held link.lock) ≡ true → Contains (entry_at closers link.held) (closer_of link)

-- and so do those of all these links
abbrev pub HaveClosers : ℕ → HeldLocks → List Link → List (List ℕ × List Closer) → Type 0
HaveClosers first held links closers = (link : Link) → Contains links link → IsCloser first held closers link

-- whether a thread may come behind a link: another one, which holds what is waited for against that
abbrev pub is_behind : Link → Closer → Bool
is_behind link closer = exclude closer.mode link.wanted && not (link.thread == closer.thread)

-- whether a thread is one of these
abbrev pub has_other : Others → ℕ → Bool
has_other Nobody thread = false
has_other (One other) thread = other == thread
has_other Several thread = true

-- a step with the thread of a link, which has this other one
abbrev pub HasStep : List Step → Link → ℕ → Type 0
HasStep steps link thread = (others : Others) × Contains steps (record { thread = link.thread; mode = link.mode; others = others }) × (has_other others thread ≡ true)

-- the thread of a link stands where it holds, if it is greater than the first, with each thread that may close behind it
abbrev pub IsStep : ℕ → List (List ℕ × List Closer) → List (List ℕ × List Step) → Link → Type 0
IsStep first closers steps link = nat_lt first link.thread ≡ true
    → (closer : Closer) → Contains (entry_at closers link.lock) closer → is_behind link closer ≡ true → HasStep (entry_at steps link.held) link closer.thread

-- and so do those of all these links
abbrev pub HaveSteps : ℕ → List (List ℕ × List Closer) → List Link → List (List ℕ × List Step) → Type 0
HaveSteps first closers links steps = (link : Link) → Contains links link → IsStep first closers steps link

-- what is known of a first event where its chains are narrowed: what its thread holds, and of links that tell how all events wait,
-- who closes a chain and who comes before those
pub record IsNarrowed (window : WindowForm) (first : First) : Type 0 where
  pub holding : IsHolding window first.holding
  pub links : List Link
  pub linked : AreLinked window (takers_of window) links
  pub closers : HaveClosers first.holding.id.thread first.holding.held links first.closers
  pub steps : HaveSteps first.holding.id.thread first.closers links first.steps

-- what is known of a first event: what its thread holds, and more where its chains are narrowed
pub record IsFirst (window : WindowForm) (first : First) : Type 0 where
  pub among : Contains (takers_of window) first.holding.id
  pub holding : IsHolding window first.holding
  pub narrowed : first.narrows ≡ true → IsNarrowed window first

-- whether a thread is that of no event that passed, nor this one
abbrev pub is_clear : List EventId → ℕ → ℕ → Bool
is_clear passed own thread = list_all (λ other. not (other.thread == thread)) passed && not (own == thread)

-- whether one of these threads may be
abbrev pub some_clear : List EventId → ℕ → Others → Bool
some_clear passed own Nobody = false
some_clear passed own (One thread) = is_clear passed own thread
some_clear passed own Several = true

-- whether one more event may close the chain behind one that takes this lock so
abbrev pub one_closes : List (List ℕ × List Closer) → List EventId → ℕ → LockMode → List ℕ → Bool
one_closes closers passed own mode lock = list_any (λ closer. exclude closer.mode mode && is_clear passed own closer.thread) (entry_at closers lock)

-- whether two more may
abbrev pub two_close : List (List ℕ × List Step) → List EventId → ℕ → LockMode → List ℕ → Bool
two_close steps passed own mode lock = list_any (λ step. exclude step.mode mode && (is_clear passed own step.thread && some_clear passed own step.others)) (entry_at steps lock)

-- whether a chain may close behind an event of this thread that takes this lock so, with up to so many more
abbrev pub may_close : First → List EventId → ℕ → LockMode → List ℕ → ℕ → Bool
may_close first passed own mode lock left =
    keeps_out mode (mode_held first.holding.held lock)
    || ((nat_lt 0 left && one_closes first.closers passed own mode lock)
    || ((nat_lt 1 left && two_close first.steps passed own mode lock)
    || nat_lt 2 left))

-- whether a cycle may begin with an event that takes this lock so, and go on by this link
abbrev pub may_be_second : First → LockMode → List ℕ → Link → Bool
may_be_second first mode lock link =
    nat_lt first.holding.id.thread link.thread
    && (bytes_eq link.held lock
    && (exclude link.mode mode
    && may_close first [] link.thread link.wanted link.lock 2))
