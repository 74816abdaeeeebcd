-- The clauses by which an event is to be executed: signed, short, and true where it is executed.
use Rattle.std.proofs.Common.{ℕ, ◌≡◌, ap, ◌∙◌, refl, List, [], ◌∷◌, ◌++◌, Bool, true, false, arith, eqb-true}
use Rattle.std.specs.Prelude.{◌==◌, if◌then◌else◌}
use Rattle.std.specs.List.{list_any}
use Rattle.std.proofs.lemmas.Bool.{and_from, and_parts, eq-eqb}
use Rattle.gp_window.specs.declared.schedule.EventId.{EventId}
use Rattle.gp_window.specs.WindowForm.{WindowForm}
use Rattle.gp_base.specs.ListLaws.{Pairwise, recursion_flat_map}
use Rattle.gp_constraint.specs.declared.point.Point.{Point}
use Rattle.gp_constraint.specs.declared.symbol.Symbol.{Symbol}
use Rattle.gp_constraint.specs.declared.symbol.Symbol.TheVariants.{Executed, Last}
use Rattle.gp_constraint.specs.declared.symbol.SymbolicLit.{SymbolicLit}
use Rattle.gp_constraint.specs.Extended.{AreFit, IsFit}
use Rattle.gp_constraint.specs.PointLaws.{event_id, points_named}
use Rattle.gp_constraint.specs.Points.{number_in, points_of}
use Rattle.gp_constraint.specs.Signed.{Agree, AreSigned}
use Rattle.gp_constraint.specs.Truths.{AreTrue, lit_true}
use Rattle.gp_constraint.specs.TrueLaws.{all_append, clause_true, term_true}
use Rattle.gp_constraint.specs.Terms.{executed, literal, simplified}
use Rattle.gp_bridge_rows.specs.Happens.{happens, happens_at, happens_in, is_event}

-- the two clauses of a point
abbrev pub own_clauses : Point → List (List SymbolicLit)
own_clauses p = simplified (literal (Last p.number) true ∷ []) ++ simplified (literal (Last p.number) false ∷ executed p true ∷ [])

-- the event of its own point
pub event_itself : (id : EventId) (p : Point) → p.id ≡ id → is_event id p ≡ true
event_itself id p same =
    and_from (p.id.thread == id.thread) (p.id.index == id.index) (eq-eqb p.id.thread id.thread (ap (λ (e : EventId). e.thread) same))
    (eq-eqb p.id.index id.index (ap (λ (e : EventId). e.index) same))

event_is : (id : EventId) (p : Point) → is_event id p ≡ true → p.id ≡ id
event_is id p e =
    let parts = and_parts (p.id.thread == id.thread) (p.id.index == id.index) e in
    ap (λ t. event_id t p.id.index) (eqb-true p.id.thread id.thread parts.0) ∙ ap (event_id id.thread) (eqb-true p.id.index id.index parts.1)

-- signed
apart : (n : ℕ) → ◌≡◌ {A = Symbol} (Last n) (Executed n) → ◌≡◌ {A = Bool} false true
apart n e = cc

signed_if : (test : Bool) (p : Point) → AreSigned (if test then own_clauses p else [])
signed_if true p = ((tt, tt), (((apart p.number, tt), (tt, tt)), tt))
signed_if false p = tt

pub signed_happens : (id : EventId) (points : List Point) → AreSigned (happens id points)
signed_happens id points = recursion_flat_map (Pairwise Agree) (happens_at id) points (λ p has. signed_if (is_event id p) p)

-- short, of free symbols
fit_if : (n : ℕ) (test : Bool) (p : Point) → AreFit n (if test then own_clauses p else [])
fit_if n true p = ((omega arith, (tt, tt)), ((omega arith, (tt, (tt, tt))), tt))
fit_if n false p = tt

pub fit_happens : (n : ℕ) (id : EventId) (points : List Point) → AreFit n (happens id points)
fit_happens n id points = recursion_flat_map (IsFit n) (happens_at id) points (λ p has. fit_if n (is_event id p) p)

-- true where the event is executed and its symbol true
true_if : (truth : Symbol → Bool) (test : Bool) (p : Point) → (test ≡ true → (truth (Executed p.number) ≡ true) × (truth (Last p.number) ≡ true))
    → AreTrue truth (if test then own_clauses p else [])
true_if truth false p told = tt
true_if truth true p told =
    let named : term_true truth (literal (Last p.number) true) ≡ true = (told refl).1 in
    let done : term_true truth (executed p true) ≡ true = (told refl).0 in
    let first : AreTrue truth (simplified (literal (Last p.number) true ∷ [])) = clause_true truth (literal (Last p.number) true ∷ []) (rw named refl) in
    let second : AreTrue truth (simplified (literal (Last p.number) false ∷ executed p true ∷ [])) =
    clause_true truth (literal (Last p.number) false ∷ executed p true ∷ []) (rw (named, done) refl) in
    all_append truth (simplified (literal (Last p.number) true ∷ [])) (simplified (literal (Last p.number) false ∷ executed p true ∷ [])) first second

pub true_happens : (window : WindowForm) (id : EventId) (truth : Symbol → Bool) → truth (Executed (number_in window id)) ≡ true
    → truth (Last (number_in window id)) ≡ true → AreTrue truth (happens_in id window)
true_happens window id truth done named =
    recursion_flat_map (λ (lits : List SymbolicLit). list_any (lit_true truth) lits ≡ true) (happens_at id) (points_of window) (λ p has.
    true_if truth (is_event id p) p (λ test.
    let number = ((points_named window).own p has).3 in
    let same : p.number ≡ number_in window id = number ∙ ap (number_in window) (event_is id p test) in
    (ap (λ n. truth (Executed n)) same ∙ done, ap (λ n. truth (Last n)) same ∙ named)))
