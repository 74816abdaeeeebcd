-- Laws: what happens, in parts.
use Rattle.std.specs.Prelude.{◌≡◌, refl, List, [], ◌∷◌, ◌++◌, Result, Ok}
use Rattle.std.proofs.Common.{◌∙◌, sym, subst}
use Rattle.gp_window.specs.WindowForm.{WindowForm}
use Rattle.gp_window.specs.declared.schedule.EventId.{EventId}
use Rattle.gp_replay.specs.Feasible.{Runs}
use Rattle.gp_replay.specs.declared.rule.Rule.{Rule}
use Rattle.gp_replay.specs.declared.state.State.{State}

-- each prefix of what happens happens
pub runs_prefix : (window : WindowForm) (state last : State) (prefix back : List EventId)
    → Runs window state (prefix ++ back) last → (middle : State) × Runs window state prefix middle
runs_prefix window state last [] back r = (state, refl)
runs_prefix window state last (id ∷ prefix) back r =
    let s = runs_prefix window r.0 last prefix back r.2 in (s.0, (r.0, r.1, s.1))

-- what happens is a prefix of it, and then the rest
pub runs_split : (window : WindowForm) (state last : State) (prefix back : List EventId)
    → Runs window state (prefix ++ back) last → (middle : State) × Runs window state prefix middle × Runs window middle back last
runs_split window state last [] back r = (state, refl, r)
runs_split window state last (id ∷ prefix) back r =
    let s = runs_split window r.0 last prefix back r.2 in (s.0, (r.0, r.1, s.1), s.2)

-- what happens, and then what happens from there on, happens as one
pub runs_join : (window : WindowForm) (state middle last : State) (prefix back : List EventId)
    → Runs window state prefix middle → Runs window middle back last → Runs window state (prefix ++ back) last
runs_join window state middle last [] back r more = subst (λ (first : State). Runs window first back last) r more
runs_join window state middle last (id ∷ prefix) back r more =
    (r.0, r.1, runs_join window r.0 middle last prefix back r.2 more)

-- from one state the same events lead to one state
pub runs_once : (window : WindowForm) (state one other : State) (ids : List EventId)
    → Runs window state ids one → Runs window state ids other → one ≡ other
runs_once window state one other [] r s = r ∙ sym s
runs_once window state one other (id ∷ ids) r s =
    let same : ◌≡◌ {A = Result State Rule} (Ok s.0) (Ok r.0) = sym s.1 ∙ r.1 in
    let alike : s.0 ≡ r.0 = cc in
    runs_once window r.0 one other ids r.2 (subst (λ (middle : State). Runs window middle ids other) alike s.2)
