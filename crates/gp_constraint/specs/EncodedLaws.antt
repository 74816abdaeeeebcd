-- Laws: what is known of the constraints of a window that is not too large.
use Rattle.std.specs.Prelude.{◌≡◌, ◌≤◌, suc, Bool, true, false, nat_lt, List, [], ◌∷◌, length, Ok, if◌then◌else◌}
use Rattle.std.proofs.Common.{refl, ap, arith}
use Rattle.std.proofs.lemmas.Bool.Decides.{nat_tests}
use Rattle.gp_clause.specs.Problem.{IsValidProblem, IsValidQuery}
use Rattle.gp_instance.specs.Instance.{is_instance}
use Rattle.gp_property.specs.PropertyForm.{PropertyForm}
use Rattle.gp_window.specs.declared.schedule.EventId.{EventId}
use Rattle.gp_window.specs.WindowForm.{WindowForm}
use Rattle.gp_constraint.specs.declared.symbol.Symbol.{Symbol}
use Rattle.gp_constraint.specs.declared.symbol.SymbolicLit.{SymbolicLit}
use Rattle.gp_constraint.specs.Base.{base_of, clauses_of, first_names}
use Rattle.gp_constraint.specs.Encoded.{IsEncodable, base_due, too_large}
use Rattle.gp_constraint.specs.Laws.{ProblemsAreValid}
use Rattle.gp_constraint.specs.Numbering.{names_after, numbered}
use Rattle.gp_constraint.specs.Points.{points_of}
use Rattle.gp_constraint.specs.Query.{query_of}

-- what is encoded is this window, which is not too large
pub record IsEncoded (window encoded : WindowForm) : Type 0 where
  pub same : encoded ≡ window
  pub encodable : IsEncodable window

encoded_where : (window encoded : WindowForm) (points clauses : Bool) → nat_lt 2048 (length (points_of window)) ≡ points → nat_lt 500000 (length (clauses_of window)) ≡ clauses
    → (if points then too_large (length (points_of window)) 0 else (if clauses then too_large (length (points_of window)) 500001 else Ok window)) ≡ Ok encoded
    → IsEncoded window encoded
encoded_where window encoded true clauses few_points few_clauses is = absurd (cc)
encoded_where window encoded false true few_points few_clauses is = absurd (cc)
encoded_where window encoded false false few_points few_clauses is =
    record { same = cc; encodable = record { points = grind (arith, nat_tests); clauses = grind (arith, nat_tests) } }

-- where the base of a window is due, it is the window's, and within the limits
pub is_encoded : (window encoded : WindowForm) → base_due window ≡ Ok encoded → IsEncoded window encoded
is_encoded window encoded due =
    encoded_where window encoded (nat_lt 2048 (length (points_of window))) (nat_lt 500000 (length (clauses_of window))) refl refl due

due_where : (window : WindowForm) (points clauses : Bool) → nat_lt 2048 (length (points_of window)) ≡ points → nat_lt 500000 (length (clauses_of window)) ≡ clauses → IsEncodable window
    → (if points then too_large (length (points_of window)) 0 else (if clauses then too_large (length (points_of window)) 500001 else Ok window)) ≡ Ok window
due_where window true clauses many_points few_clauses is = let few = is.points in absurd (grind (arith, nat_tests))
due_where window false true few_points many_clauses is = let few = is.clauses in absurd (grind (arith, nat_tests))
due_where window false false few_points few_clauses is = refl

-- and where a window is within the limits, its base is due
pub is_due : (window : WindowForm) → IsEncodable window → base_due window ≡ Ok window
is_due window is =
    due_where window (nat_lt 2048 (length (points_of window))) (nat_lt 500000 (length (clauses_of window))) refl refl is

pub numbered_size : (names : List Symbol) (clauses : List (List SymbolicLit)) → length (numbered names clauses) ≡ length clauses
numbered_size names [] = refl
numbered_size names (clause ∷ clauses) = ap suc (numbered_size (names_after names clause) clauses)

-- so its problem has no more clauses
pub few_clauses : (window : WindowForm) → IsEncodable window → length (base_of window).clauses ≤ 500000
few_clauses window is =
    let size : length (base_of window).clauses ≡ length (clauses_of window) = numbered_size (first_names window) (clauses_of window) in
    omega (arith, size, is.clauses)

-- and is valid
pub is_valid : ProblemsAreValid → (window : WindowForm) → IsEncodable window → IsValidProblem (base_of window)
is_valid valid window is = valid.base window is.points is.clauses

-- with it the query of each instance of up to 6 events is valid
pub query_valid : ProblemsAreValid → (window : WindowForm) → IsEncodable window → (property : PropertyForm) (ids : List EventId)
    → length ids ≤ 6 → is_instance window property ids ≡ true → IsValidQuery (base_of window) (query_of window property ids)
query_valid valid window is property ids few instance = valid.query window property ids is.points few instance
