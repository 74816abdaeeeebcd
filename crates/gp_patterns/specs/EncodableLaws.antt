-- Laws: a window that is not left out has constraints, to which workers can answer; one that is large is left out.
use Rattle.std.specs.Prelude.{◌≡◌, ◌≢◌, Bool, true, false, None, Ok, if◌then◌else◌, length, nat_lt}
use Rattle.std.proofs.Common.{refl, sym, arith}
use Rattle.std.proofs.lemmas.Bool.Decides.{nat_tests}
use Rattle.std.proofs.lemmas.Option.{none-some}
use Rattle.gp_constraint.specs.Base.{clauses_of}
use Rattle.gp_constraint.specs.Encoded.{IsEncodable, base_due, too_large}
use Rattle.gp_constraint.specs.Points.{points_of}
use Rattle.gp_window.specs.WindowForm.{WindowForm}
use Rattle.gp_analysis.specs.declared.question.LeftOut.TheVariants as out
use Rattle.gp_patterns.specs.Question.{is_large, left_out_in}

encodable_where : (window : WindowForm) (points clauses : Bool) → nat_lt 2048 (length (points_of window)) ≡ points → nat_lt 500000 (length (clauses_of window)) ≡ clauses
    → left_out_in (if points then too_large (length (points_of window)) 0 else (if clauses then too_large (length (points_of window)) 500001 else Ok window)) ≡ None
    → IsEncodable window
encodable_where window true clauses many_points few_clauses is = absurd (none-some (out.TooLarge (record { events = length (points_of window); clauses = 0 })) (sym is))
encodable_where window false true few_points many_clauses is = absurd (none-some (out.TooLarge (record { events = length (points_of window); clauses = 500001 })) (sym is))
encodable_where window false false few_points few_clauses is = record { points = grind (arith, nat_tests); clauses = grind (arith, nat_tests) }

-- it is encoded
pub is_encodable : (window : WindowForm) → left_out_in (base_due window) ≡ None → IsEncodable window
is_encodable window is =
    encodable_where window (nat_lt 2048 (length (points_of window))) (nat_lt 500000 (length (clauses_of window))) refl refl is

-- one that is large is left out, whatever its constraints
pub large_left_out : (window : WindowForm) → is_large window ≡ true → left_out_in (base_due window) ≢ None
large_left_out window is fits = none-some (out.TooLarge (record { events = length (points_of window); clauses = 0 })) (sym (rw is at fits))
