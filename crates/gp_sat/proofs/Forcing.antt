-- What a literal that is decided or forced needs of a solver, and what it leaves, by what callers see of the solver.
use Rattle.std.proofs.Common.{◌≡◌, refl, sym, ap, subst, ℕ, ◌+◌, ◌<◌, ◌≤◌, Option, Some, None, List, [], ◌∷◌, ◌++◌, length, arith}
use Rattle.std.specs.Prelude.{slice_set}
use Rattle.std.proofs.lemmas.List.{length-set, length_push}
use Rattle.gp_clause.specs.declared.lit.Lit.{Lit}
use Rattle.gp_sat.specs.declared.assigned.Assigned.{Assigned}
use Rattle.gp_sat.specs.State.{SolverForm, assigned, clause_at, IsAttached, with_literal}
use Rattle.gp_sat.specs.Sound.{IsSound}
use Rattle.gp_sat.specs.Standing.{IsClosed}
use Rattle.gp_sat.specs.Looking.{IsUnit}
use Rattle.gp_sat.specs.Changes.{MayAdd, Propagates}
use Rattle.gp_sat.specs.Consistent.{IsConsistent}
use Rattle.gp_sat.proofs.Adding.{may_decide, may_force, laid_is, sound_more, propagates_one}
use Rattle.gp_sat.proofs.Consisting.{HasRoom, has_room}

-- where a variable is unassigned there is room for its literal
pub room_for : (s view : SolverForm) (variable : ℕ) (starts : List ℕ) (place : Option ℕ) (trail_room starts_room : ℕ) → s ≡ view
    → variable < length view.values → assigned view variable ≡ None → IsConsistent s starts place trail_room starts_room → HasRoom s starts trail_room starts_room
room_for s view variable starts place trail_room starts_room same named free old =
    let P : SolverForm → Type 0 = λ t. (variable < length t.values) × (assigned t variable ≡ None) in
    let facts : P s = subst P (sym same) (named, free) in
    has_room s variable starts place trail_room starts_room facts.0 facts.1 old

-- a literal may be forced where a clause is unit with it
pub may_be_forced : (s view : SolverForm) (lit : Lit) (number : ℕ) → s ≡ view → lit.variable < length view.values → IsAttached view.clauses number
    → IsUnit (assigned view) (clause_at view.clauses number) lit → IsSound s → MayAdd s lit s.level (Some number)
may_be_forced s view lit number same named attached unit sound =
    let P : SolverForm → Type 0 = λ t. (lit.variable < length t.values) × IsAttached t.clauses number × IsUnit (assigned t) (clause_at t.clauses number) lit in
    let facts : P s = subst P (sym same) (named, attached, unit) in
    may_force s lit number s.level refl facts.0 facts.1 facts.2 sound

-- a literal may be decided at the next level where this level is closed
pub may_be_decided : (s view : SolverForm) (lit : Lit) → s ≡ view → lit.variable < length view.values → assigned view lit.variable ≡ None
    → IsClosed view view.level → IsSound s → MayAdd s lit (s.level + 1) None
may_be_decided s view lit same named free closed sound =
    let P : SolverForm → Type 0 = λ t. (lit.variable < length t.values) × (assigned t lit.variable ≡ None) × IsClosed t t.level in
    let facts : P s = subst P (sym same) (named, free, closed) in
    may_decide s lit (s.level + 1) refl facts.0 facts.1 facts.2 sound

-- a forced literal was written at the end of the trail
pub record IsLaid (s : SolverForm) (lit : Lit) (number at : ℕ) (values : List (Option Assigned)) (trail : List Lit) : Type 0 where
  pub at_end : at ≡ length s.trail
  pub written : values ≡ slice_set s.values lit.variable (Some (record { positive = lit.positive; level = s.level; place = at; reason = Some number }))
  pub longer : trail ≡ s.trail ++ lit ∷ []

laid_forced : (s : SolverForm) (lit : Lit) (number at : ℕ) (values : List (Option Assigned)) (trail : List Lit) → IsLaid s lit number at values trail
    → record s { values = values; trail = trail } ≡ with_literal s lit s.level (Some number)
laid_forced s lit number at values trail forced = laid_is s lit s.level (Some number) at values trail forced.at_end forced.written forced.longer

-- so it was propagated
pub forced_propagates : (s view : SolverForm) (lit : Lit) (number at : ℕ) (values : List (Option Assigned)) (trail : List Lit) → s ≡ view → IsAttached view.clauses number
    → MayAdd s lit s.level (Some number) → IsSound s → IsLaid s lit number at values trail → Propagates view (record s { values = values; trail = trail })
forced_propagates s view lit number at values trail same attached may sound forced =
    let own : IsAttached s.clauses number = subst (λ (t : SolverForm). IsAttached t.clauses number) (sym same) attached in
    let one : Propagates s (record s { values = values; trail = trail }) =
    subst (λ (t : SolverForm). Propagates s t) (sym (laid_forced s lit number at values trail forced)) (propagates_one s lit number s.level refl own may sound) in
    subst (λ (t : SolverForm). Propagates t (record s { values = values; trail = trail })) same one

-- and the solver is sound
pub forced_sound : (s : SolverForm) (lit : Lit) (number at : ℕ) (values : List (Option Assigned)) (trail : List Lit) → MayAdd s lit s.level (Some number) → IsSound s
    → IsLaid s lit number at values trail → IsSound (record s { values = values; trail = trail })
forced_sound s lit number at values trail may sound forced =
    subst (λ (t : SolverForm). IsSound t) (sym (laid_forced s lit number at values trail forced)) (sound_more s lit s.level (Some number) may sound)

-- and its trail is no longer than the variables are many
pub forced_within : (s : SolverForm) (lit : Lit) (number at : ℕ) (values : List (Option Assigned)) (trail : List Lit) (starts : List ℕ) (trail_room starts_room : ℕ) → HasRoom s starts trail_room starts_room
    → IsLaid s lit number at values trail → length trail ≤ length values
forced_within s lit number at values trail starts trail_room starts_room room forced =
    let entry : Option Assigned = Some (record { positive = lit.positive; level = s.level; place = at; reason = Some number }) in
    let size : length values ≡ length (slice_set s.values lit.variable entry) = ap (λ (vs : List (Option Assigned)). length vs) forced.written in
    let more : length trail ≡ length (s.trail ++ lit ∷ []) = ap (λ (ls : List Lit). length ls) forced.longer in
    omega (arith, room.within, size, more, length-set s.values lit.variable entry, length_push s.trail lit)
