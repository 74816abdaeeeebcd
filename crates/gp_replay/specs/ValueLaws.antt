-- Laws: where the value of a variable comes from.
use Rattle.std.proofs.Common.{ℕ, ◌≡◌, ◌⊎◌, ap, sym, ◌∙◌, refl, subst, inl, inr, List, [], ◌∷◌, ◌++◌, Bool, true, false}
use Rattle.std.specs.Prelude.{ℤ, pos, Some, Option, Result, Ok, Err, if◌then◌else◌, unwrap_or}
use Rattle.std.specs.Ordering.{int_eq}
use Rattle.std.proofs.lemmas.Bool.Decides.{Decides-int_eq}
use Rattle.gp_trace.specs.declared.event.Event.{Event}
use Rattle.gp_trace.specs.declared.event.Event.TheVariants.{Read, Write}
use Rattle.gp_window.specs.declared.schedule.EventId.{EventId}
use Rattle.gp_window.specs.WindowForm.{WindowForm}
use Rattle.gp_replay.specs.declared.state.State.{State}
use Rattle.gp_replay.specs.declared.rule.Rule.{Rule}
use Rattle.gp_replay.specs.declared.rule.Rule.TheVariants.{WrongValue}
use Rattle.gp_window.specs.Events.{event_at}
use Rattle.gp_replay.specs.Step.{allowed_in, effect, next, value_of}
use Rattle.gp_replay.specs.Feasible.{Runs}
use Rattle.gp_replay.specs.Value.{IsLastValue, Reads, Writes}
use Rattle.gp_replay.specs.RunLaws.{runs_split}
use Rattle.gp_replay.specs.StepLaws.{stepped}
use Rattle.gp_base.specs.TableLaws.{put_apart, put_here, same_or_apart}

-- an event writes the variable, which then has the value; or it does not, and the value stays
abbrev pub Changes : Event → List ℕ → ℤ → ℤ → Type 0
Changes event variable before later =
    ((value : ℤ) × (event ≡ Write variable value) × (later ≡ value)) ⊎ (((value : ℤ) → event ≡ Write variable value → ⊥) × (later ≡ before))

effect_changes : (thread : ℕ) (event : Event) (state : State) (variable : List ℕ)
    → Changes event variable (value_of state variable) (value_of (effect thread event state) variable)
effect_changes thread (Write name value) state variable =
    elim (same_or_apart variable name) [
      | inl same ↦ inl (
        value,
        ap (λ n. Write n value) (sym same),
        subst (λ n. value_of (effect thread (Write name value) state) n ≡ value) (sym same)
            (ap (λ found. unwrap_or found (pos 0)) (put_here state.values name value)),
      )
      | inr apart ↦ inr (
        (λ other e. apart (let same : name ≡ variable = cc in sym same)),
        ap (λ found. unwrap_or found (pos 0)) (put_apart state.values name variable value apart),
      )
    ]
effect_changes thread event state variable = inr ((λ value e. cc), refl)

-- a step writes the variable, which then has the value; or it does not, and the value stays
step_changes : (window : WindowForm) (state middle : State) (id : EventId) (variable : List ℕ)
    → next window state id ≡ Ok middle
    → ((value : ℤ) × Writes window id variable value × (value_of middle variable ≡ value))
    ⊎ (((value : ℤ) → Writes window id variable value → ⊥) × (value_of middle variable ≡ value_of state variable))
step_changes window state middle id variable e =
    let s = stepped window state middle id e in
    let event : Event = s.event in
    let there : event_at window id ≡ Some event = s.there in
    let effected : value_of middle variable ≡ value_of (effect id.thread event state) variable = ap (λ t. value_of t variable) s.gives in
    elim (effect_changes id.thread event state variable) [
      | inl wrote ↦ inl (wrote.0, there ∙ ap Some wrote.1, effected ∙ wrote.2)
      | inr kept ↦ inr ((λ value writes. kept.0 value (let found : ◌≡◌ {A = Option Event} (Some event) (Some (Write variable value)) = sym there ∙ writes in cc)), effected ∙ kept.1)
    ]

-- the value after events that happen is that of the last write, or the value before them
pub value_after_run : (window : WindowForm) (before last : State) (ids : List EventId) (variable : List ℕ)
    → Runs window before ids last → IsLastValue window before ids variable (value_of last variable)
value_after_run window before last [] variable r = inl (ap (λ t. value_of t variable) (sym r), tt)
value_after_run window before last (id ∷ ids) variable r =
    elim (value_after_run window r.0 last ids variable r.2) [
      | inr written ↦ inr (id ∷ written.0, written.1, written.2, ap (λ rest. id ∷ rest) written.3, written.4, written.5)
      | inl stays ↦ elim (step_changes window before r.0 id variable r.1) [
        | inl wrote ↦ inr ([], id, ids, refl, subst (λ value. Writes window id variable value) (sym wrote.2 ∙ stays.0) wrote.1, stays.1)
        | inr kept ↦ inl (sym kept.1 ∙ stays.0, (kept.0, stays.1))
      ]
    ]

-- a test that an allowed event passed
passed : (b : Bool) (rule : Rule) → ◌≡◌ {A = Result (Unit {0}) Rule} (if b then Ok tt else Err rule) (Ok tt) → b ≡ true
passed true rule e = refl
passed false rule e = cc

-- a read that happens finds its value
read_finds : (window : WindowForm) (state : State) (event : Event) (variable : List ℕ) (value : ℤ)
    → event ≡ Read variable value → allowed_in window state event ≡ Ok tt → value_of state variable ≡ value
read_finds window state event variable value is allowed =
    let found : allowed_in window state (Read variable value) ≡ Ok tt = subst (λ e. allowed_in window state e ≡ Ok tt) is allowed in
    (Decides-int_eq (value_of state variable) value).0 (passed (int_eq (value_of state variable) value) WrongValue found)

-- a read among events that happen finds the last value
pub read_in_run : (window : WindowForm) (before last : State) (prefix : List EventId) (id : EventId) (back : List EventId) (variable : List ℕ) (value : ℤ)
    → Runs window before (prefix ++ id ∷ back) last → Reads window id variable value → IsLastValue window before prefix variable value
read_in_run window before last prefix id back variable value r reads =
    let parts = runs_split window before last prefix (id ∷ back) r in
    let s = stepped window parts.0 parts.2.0 id parts.2.1 in
    let event : Event = s.event in
    let there : event_at window id ≡ Some event = s.there in
    let is : event ≡ Read variable value = (let found : ◌≡◌ {A = Option Event} (Some event) (Some (Read variable value)) = sym there ∙ reads in cc) in
    let finds = read_finds window parts.0 event variable value is s.allowed in
    subst (λ found. IsLastValue window before prefix variable found) finds (value_after_run window before parts.0 prefix variable parts.1)
