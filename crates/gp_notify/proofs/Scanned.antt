-- A look back along the thread of a wake finds its sleep.
use Rattle.std.proofs.Common.{ℕ, zero, suc, ◌≡◌, ◌⊎◌, ◌<◌, ap, sym, ◌∙◌, refl, subst, inl, inr, List, true, false, arith}
use Rattle.std.specs.Prelude.{Option, Some, None, slice_get}
use Rattle.std.specs.Str.{bytes_eq}
use Rattle.std.proofs.lemmas.Bool.{cases_Bool, cases_eq}
use Rattle.std.proofs.lemmas.Slice.Eq.{bytes_eq-Decides}
use Rattle.gp_trace.specs.declared.event.Event.{Event}
use Rattle.gp_window.specs.Events.{segment_of}
use Rattle.gp_notify.specs.declared.call.Call.{Call}
use Rattle.gp_notify.specs.declared.call.Call.TheVariants.{Notify, NotifyAll, Sleep, Wake}
use Rattle.gp_notify.specs.Calls.{call_in}
use Rattle.gp_notify.specs.Laws.{SleepsAreScanned}
use Rattle.gp_notify.specs.Sleeping.{slept_at, turned}
use Rattle.gp_notify.proofs.Called.{same_bytes}

-- what the last step of the search found: a sleep here, or what was found before, and then here is no turn
abbrev Turn : List ℕ → Option Call → Type 0
Turn condition o = (o ≡ Some (Sleep condition)) ⊎ (o ≡ Some (Wake condition))

step_told : (condition : List ℕ) (o : Option Call) (index found : ℕ) (rest : Option ℕ) → turned condition o index rest ≡ Some found
    → ((o ≡ Some (Sleep condition)) × (index ≡ found)) ⊎ ((rest ≡ Some found) × (Turn condition o → ⊥))
step_told condition (Some (Sleep other)) index found rest e =
    elim (cases_Bool (bytes_eq condition other)) [
      | inl same ↦
          let both : ◌≡◌ {A = Option ℕ} (Some index) (Some found) = rw same at e in
          let at : index ≡ found = cc in
          inl (ap (λ c. Some (Sleep c)) (sym (same_bytes condition other same)), at)
      | inr differ ↦ inr (
        (rw differ at e),
        (λ turn. elim turn [
          | inl is ↦ apart condition other differ (let names : other ≡ condition = cc in names)
          | inr is ↦ cc
        ]),
      )
    ]
  where
    apart : (a b : List ℕ) → bytes_eq a b ≡ false → b ≡ a → ⊥
    apart a b fails same = let tied : bytes_eq a b ≡ true = (bytes_eq-Decides a b).1 (sym same) in (let bad : true ≡ false = sym tied ∙ fails in cc)
step_told condition (Some (Wake other)) index found rest e =
    elim (cases_Bool (bytes_eq condition other)) [
      | inl same ↦ let bad : ◌≡◌ {A = Option ℕ} None (Some found) = rw same at e in cc
      | inr differ ↦ inr (
        (rw differ at e),
        (λ turn. elim turn [
          | inl is ↦ cc
          | inr is ↦ apart condition other differ (let names : other ≡ condition = cc in names)
        ]),
      )
    ]
  where
    apart : (a b : List ℕ) → bytes_eq a b ≡ false → b ≡ a → ⊥
    apart a b fails same = let tied : bytes_eq a b ≡ true = (bytes_eq-Decides a b).1 (sym same) in (let bad : true ≡ false = sym tied ∙ fails in cc)
step_told condition (Some (Notify other)) index found rest e = inr (
  e,
  (λ turn. elim turn [
    | inl is ↦ cc
    | inr is ↦ cc
  ]),
)
step_told condition (Some (NotifyAll other)) index found rest e = inr (
  e,
  (λ turn. elim turn [
    | inl is ↦ cc
    | inr is ↦ cc
  ]),
)
step_told condition None index found rest e = inr (
  e,
  (λ turn. elim turn [
    | inl is ↦ cc
    | inr is ↦ cc
  ]),
)

step_sleep : (condition : List ℕ) (o : Option Call) (index : ℕ) (rest : Option ℕ) → o ≡ Some (Sleep condition) → turned condition o index rest ≡ Some index
step_sleep condition o index rest is =
    let same : bytes_eq condition condition ≡ true = (bytes_eq-Decides condition condition).1 refl in
    let here : turned condition (Some (Sleep condition)) index rest ≡ Some index = rw same refl in
    subst (λ x. turned condition x index rest ≡ Some index) (sym is) here

step_on : (condition : List ℕ) (o : Option Call) (index : ℕ) (rest : Option ℕ) → (Turn condition o → ⊥) → turned condition o index rest ≡ rest
step_on condition (Some (Sleep other)) index rest none =
    elim (cases_Bool (bytes_eq condition other)) [
      | inl same ↦ absurd (none (inl (ap (λ c. Some (Sleep c)) (sym (same_bytes condition other same)))))
      | inr differ ↦ rw differ refl
    ]
step_on condition (Some (Wake other)) index rest none =
    elim (cases_Bool (bytes_eq condition other)) [
      | inl same ↦ absurd (none (inr (ap (λ c. Some (Wake c)) (sym (same_bytes condition other same)))))
      | inr differ ↦ rw differ refl
    ]
step_on condition (Some (Notify other)) index rest none = refl
step_on condition (Some (NotifyAll other)) index rest none = refl
step_on condition None index rest none = refl

-- a sleep among so many first events, with no turn after it
record IsLatest (condition : List ℕ) (events : List Event) (count at : ℕ) : Type 0 where
  below : at < count
  sleeps : call_in (slice_get events at) ≡ Some (Sleep condition)
  last : (k : ℕ) → at < k → k < count → Turn condition (call_in (slice_get events k)) → ⊥

latest_told : (condition : List ℕ) (events : List Event) (count at : ℕ) → slept_at condition events count ≡ Some at → IsLatest condition events count at
latest_told condition events zero at e = cc
latest_told condition events (suc count) at e =
    elim (step_told condition (call_in (slice_get events count)) count at (slept_at condition events count) e) [
      | inl here ↦
          let same : count ≡ at = here.1 in
          record {
            below = omega (arith, same);
            sleeps = subst (λ n. call_in (slice_get events n) ≡ Some (Sleep condition)) same here.0;
            last = λ k above below turn. absurd (omega (arith, same, above, below));
          }
      | inr before ↦
          let l = latest_told condition events count at before.0 in
          let low = l.below in
          record {
            below = omega (arith, low);
            sleeps = l.sleeps;
            last = λ k above below turn. elim (cases_eq k count) [
              | inl same ↦ before.1 (subst (λ n. Turn condition (call_in (slice_get events n))) same turn)
              | inr apart ↦ l.last k above (omega (arith, below, apart)) turn
            ];
          }
    ]

latest_to : (condition : List ℕ) (events : List Event) (count at : ℕ) → IsLatest condition events count at → slept_at condition events count ≡ Some at
latest_to condition events zero at l = let low = l.below in absurd (omega (arith, low))
latest_to condition events (suc count) at l =
    let low = l.below in
    elim (cases_eq at count) [
      | inl same ↦
          let here : call_in (slice_get events count) ≡ Some (Sleep condition) = subst (λ n. call_in (slice_get events n) ≡ Some (Sleep condition)) same l.sleeps in
          step_sleep condition (call_in (slice_get events count)) count (slept_at condition events count) here ∙ ap Some (sym same)
      | inr apart ↦
          let none : Turn condition (call_in (slice_get events count)) → ⊥ = l.last count (omega (arith, low, apart)) (omega arith) in
          step_on condition (call_in (slice_get events count)) count (slept_at condition events count) none
          ∙ latest_to condition events count at (record {
            below = omega (arith, low, apart);
            sleeps = l.sleeps;
            last = λ k above below turn. l.last k above (omega (arith, below)) turn;
          })
    ]

pub sleeps_scanned : SleepsAreScanned
sleeps_scanned window condition wake sleep = (
  (λ is.
      let events : List Event = segment_of window wake.thread in
      let here : call_in (slice_get events sleep.index) ≡ Some (Sleep condition) =
      subst (λ t. call_in (slice_get (segment_of window t) sleep.index) ≡ Some (Sleep condition)) is.own is.sleeps in
      (is.own, latest_to condition events wake.index sleep.index (record { below = is.earlier; sleeps = here; last = is.last }))),
  (λ h.
      let l = latest_told condition (segment_of window wake.thread) wake.index sleep.index h.1 in
      record {
        own = h.0;
        earlier = l.below;
        sleeps = subst (λ t. call_in (slice_get (segment_of window t) sleep.index) ≡ Some (Sleep condition)) (sym h.0) l.sleeps;
        last = l.last;
      }),
)
