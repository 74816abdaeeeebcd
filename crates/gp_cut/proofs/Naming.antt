-- Nothing is wrong with the starts and joins of events exactly where each names well and no thread is started twice.
use Rattle.std.proofs.Common.{◌≡◌, ◌∙◌, ◌⊎◌, refl, ap, sym, subst, inl, inr, Bool, true, false, cond, ℕ, zero, suc, ◌+◌, ◌≤◌, List, [], ◌∷◌, ◌++◌, arith, append_assoc, append-nil, count_by, eq-eqb, eqb-true}
use Rattle.std.specs.Prelude.{Contains, ◌==◌, ◌&&◌, nat_le}
use Rattle.std.specs.List.{AllByRecursion}
use Rattle.std.proofs.lemmas.Bool.{and_from, and_parts, cases_Bool, false≢true, le-leb, leb-true}
use Rattle.gp_base.specs.CountLaws.{count_one, count_passes}
use Rattle.gp_base.specs.SumLaws.{count_append, count_cons}
use Rattle.gp_trace.specs.declared.event.Event.{Event}
use Rattle.gp_trace.specs.declared.event.Event.TheVariants.{Start}
use Rattle.gp_window.specs.declared.fault.RecordingFault.{RecordingFault}
use Rattle.gp_window.specs.declared.fault.RecordingFault.TheVariants.{UnknownThread, StartsRoot, TwoStarts}
use Rattle.gp_window.specs.StartsTold.{IsThread, IsWrong, NamesThread, NoneIsWrong}

-- whether an event starts a thread
abbrev pub starts : ℕ → Event → Bool
starts thread (Start other) = other == thread
starts thread _ = false

pub starts_it : (thread : ℕ) (event : Event) → event ≡ Start thread → starts thread event ≡ true
starts_it thread event is = ap (starts thread) is ∙ eq-eqb thread thread refl

pub started_it : (thread : ℕ) (event : Event) → starts thread event ≡ true → event ≡ Start thread
started_it thread (Start other) e = ap Start (eqb-true other thread e)
started_it thread _ e = absurd (false≢true e)

abbrev pub times : ℕ → List Event → ℕ
times thread events = count_by (starts thread) events

-- an event names threads that are there, and starts no root
abbrev pub NamesWell : ℕ → List ℕ → Event → Type 0
NamesWell threads roots event = (thread : ℕ) → NamesThread event thread → IsThread threads thread × (event ≡ Start thread → Contains roots thread → ⊥)

thread_or_not : (threads thread : ℕ) → IsThread threads thread ⊎ (IsThread threads thread → ⊥)
thread_or_not threads thread =
    elim (cases_Bool (nat_le 1 thread && nat_le thread threads)) [
      | inl is ↦ (let parts = and_parts (nat_le 1 thread) (nat_le thread threads) is in inl (leb-true 1 thread parts.0, leb-true thread threads parts.1))
      | inr fails ↦ inr (λ is. false≢true (sym fails ∙ and_from (nat_le 1 thread) (nat_le thread threads) (le-leb 1 thread is.0) (le-leb thread threads is.1)))
    ]

-- where nothing is wrong with an event, it names well
names_well : (threads : ℕ) (roots : List ℕ) (before : List Event) (event : Event) → ((fault : RecordingFault) → IsWrong threads roots before event fault → ⊥)
    → NamesWell threads roots event
names_well threads roots before event none thread names =
    elim (thread_or_not threads thread) [
      | inl is ↦ (is, λ start root. none (StartsRoot thread) (start, is, root))
      | inr fails ↦ absurd (none (UnknownThread thread) (names, fails))
    ]

pub all_name_well : (threads : ℕ) (roots : List ℕ) (before later : List Event) → NoneIsWrong threads roots before later → AllByRecursion (NamesWell threads roots) later
all_name_well threads roots before [] none = tt
all_name_well threads roots before (event ∷ later) none =
    (names_well threads roots before event none.0, all_name_well threads roots (before ++ event ∷ []) later none.1)

one_time : (thread : ℕ) (before : List Event) (event : Event) → times thread (before ++ event ∷ []) ≡ times thread before + cond (starts thread event) 1 0
one_time thread before event = omega (arith, count_append (starts thread) before (event ∷ []), count_cons (starts thread) event [])

-- and no thread is started twice
once_more : (threads : ℕ) (roots : List ℕ) (before : List Event) (event : Event) (thread : ℕ) → ((fault : RecordingFault) → IsWrong threads roots before event fault → ⊥)
    → times thread before ≤ 1 → times thread (before ++ event ∷ []) ≤ 1
once_more threads roots before event thread none few =
    elim (cases_Bool (starts thread event)) [
      | inl is ↦
          let start : event ≡ Start thread = started_it thread event is in
          let well = names_well threads roots before event none thread (inl start) in
          let fresh : 1 ≤ times thread before → ⊥ = λ some.
          (let passes = count_passes (starts thread) before some in
          none (TwoStarts thread) (start, well.0, well.1 start, subst (Contains before) (started_it thread passes.0 passes.2) passes.1)) in
          let now : ◌≡◌ {A = ℕ} (cond (starts thread event) 1 0) 1 = ap (λ b. cond {A = ℕ} b 1 0) is in
          let total = one_time thread before event in
          none_or_some (times thread before) (times thread (before ++ event ∷ [])) fresh (omega (arith, total, now))
      | inr fails ↦
          let now : ◌≡◌ {A = ℕ} (cond (starts thread event) 1 0) 0 = ap (λ b. cond {A = ℕ} b 1 0) fails in
          let total = one_time thread before event in
          omega (arith, few, total, now)
    ]
  where
    none_or_some : (n m : ℕ) → (1 ≤ n → ⊥) → m ≡ n + 1 → m ≤ 1
    none_or_some zero m fresh is = omega (arith, is)
    none_or_some (suc n) m fresh is = absurd (fresh (omega arith))

pub once_each : (threads : ℕ) (roots : List ℕ) (before later : List Event) (thread : ℕ) → NoneIsWrong threads roots before later → times thread before ≤ 1
    → times thread (before ++ later) ≤ 1
once_each threads roots before [] thread none few = subst (λ events. times thread events ≤ 1) (sym (append-nil before)) few
once_each threads roots before (event ∷ later) thread none few =
    subst (λ events. times thread events ≤ 1) (append_assoc before (event ∷ []) later)
    (once_each threads roots (before ++ event ∷ []) later thread none.1 (once_more threads roots before event thread none.0 few))

-- where each event names well and no thread is started twice, nothing is wrong
pub nothing_wrong : (threads : ℕ) (roots : List ℕ) (before later : List Event) → AllByRecursion (NamesWell threads roots) later
    → ((thread : ℕ) → times thread (before ++ later) ≤ 1) → NoneIsWrong threads roots before later
nothing_wrong threads roots before [] well once = tt
nothing_wrong threads roots before (event ∷ later) well once = (
  not_wrong well.0 (λ thread is already.
      let first = count_one (starts thread) before (Start thread) already (starts_it thread (Start thread) refl) in
      let now : ◌≡◌ {A = ℕ} (cond (starts thread event) 1 0) 1 = ap (λ b. cond {A = ℕ} b 1 0) (starts_it thread event is) in
      omega (arith, once thread, first, now, count_append (starts thread) before (event ∷ later), count_cons (starts thread) event later)),
  nothing_wrong threads roots (before ++ event ∷ []) later well.1
      (λ thread. subst (λ events. times thread events ≤ 1) (sym (append_assoc before (event ∷ []) later)) (once thread)),
)
  where
    not_wrong : NamesWell threads roots event → ((thread : ℕ) → event ≡ Start thread → Contains before (Start thread) → ⊥)
        → (fault : RecordingFault) → IsWrong threads roots before event fault → ⊥
    not_wrong well fresh (UnknownThread thread) wrong = wrong.1 (well thread wrong.0).0
    not_wrong well fresh (StartsRoot thread) wrong = (well thread (inl wrong.0)).1 wrong.0 wrong.2
    not_wrong well fresh (TwoStarts thread) wrong = fresh thread wrong.0 wrong.3
    not_wrong well fresh fault wrong = wrong
