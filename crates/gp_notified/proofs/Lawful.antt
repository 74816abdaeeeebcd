-- The question which instances are possible where each wake needs a signal is lawful.
use Rattle.std.proofs.Common.{◌≡◌, ◌∙◌, ap, refl, sym, ◌≤◌, ◌+◌, Bool, true, false, List, Option, Some, None, Result, Ok, Err, length, nat_lt, if◌then◌else◌, arith}
use Rattle.std.proofs.lemmas.Bool.Decides.{nat_tests}
use Rattle.std.proofs.lemmas.Option.{none-some}
use Rattle.gp_constraint.specs.declared.fault.BaseFault.{BaseFault}
use Rattle.gp_constraint.specs.declared.fault.BaseFault.TheVariants as no_window
use Rattle.gp_constraint.specs.declared.point.Point.{Point}
use Rattle.gp_constraint.specs.Base.{clauses_of}
use Rattle.gp_constraint.specs.Encoded.{IsEncodable, base_due}
use Rattle.gp_constraint.specs.EncodedLaws.{is_due}
use Rattle.gp_constraint.specs.Points.{points_of}
use Rattle.gp_constraint.specs.Query.{query_of}
use Rattle.gp_instance.specs.ListedLaws.{IsListed}
use Rattle.gp_notify.specs.declared.fault.NotifyFault.TheVariants.{TooLarge}
use Rattle.gp_notify.specs.Laws.{ExtendedIsValid}
use Rattle.gp_notify.specs.NotifyProblem.{due_where}
use Rattle.gp_notify.specs.Signals.{signals_of, unpaired}
use Rattle.gp_property.specs.PropertyForm.{PropertyForm}
use Rattle.gp_window.specs.declared.schedule.EventId.{EventId}
use Rattle.gp_window.specs.WindowForm.{WindowForm}
use Rattle.gp_analysis.specs.declared.question.LeftOut.TheVariants as out
use Rattle.gp_analysis.specs.Question.{IsAsk, IsLawful}
use Rattle.gp_patterns.specs.EncodableLaws.{is_encodable}
use Rattle.gp_patterns.specs.Question.{left_out_in, patterns}
use Rattle.gp_notified.specs.AnsweredLaws.{SignalsAreAnswered}
use Rattle.gp_notified.specs.Due.{left_out_by, signals_due, with_signals}
use Rattle.gp_notified.specs.Question.{notified}

base_where : (due : Result WindowForm BaseFault) → left_out_by (with_signals due) ≡ None → left_out_in due ≡ None
base_where (Ok window) fits = refl
base_where (Err (no_window.TooLarge events clauses)) fits = absurd (none-some (out.TooLarge (record { events = events; clauses = clauses })) (sym fits))
base_where (Err no_window.Memory) fits = absurd (none-some (out.TooLarge (record { events = 0; clauses = 0 })) (sym fits))

-- a window that is not left out has constraints of its own
base_fits : (window : WindowForm) → left_out_by (signals_due window) ≡ None → left_out_in (base_due window) ≡ None
base_fits window fits = base_where (base_due window) fits

paired_where : (window : WindowForm) (many : Bool) → nat_lt 500000 (length (clauses_of window) + length (signals_of window)) ≡ many
    → left_out_by (if many then Err (TooLarge (length (points_of window)) 500001) else Ok window) ≡ None → length (clauses_of window) + length (signals_of window) ≤ 500000
paired_where window true is fits = absurd (none-some (out.TooLarge (record { events = length (points_of window); clauses = 500001 })) (sym fits))
paired_where window false is fits = grind (arith, nat_tests)

signals_where : (window : WindowForm) (first : Option Point) → left_out_by (due_where window first) ≡ None → length (clauses_of window) + length (signals_of window) ≤ 500000
signals_where window (Some wake) fits = absurd (none-some out.Unasked (sym fits))
signals_where window None fits = paired_where window (nat_lt 500000 (length (clauses_of window) + length (signals_of window))) refl fits

-- and with those of its signals they are not too many
record IsSized (window : WindowForm) : Type 0 where
  encodable : IsEncodable window
  clauses : length (clauses_of window) + length (signals_of window) ≤ 500000

sized : (window : WindowForm) → left_out_by (signals_due window) ≡ None → IsSized window
sized window fits =
    let is = is_encodable window (base_fits window fits) in
    let same = ap (λ (due : Result WindowForm BaseFault). left_out_by (with_signals due)) (is_due window is) in
    record { encodable = is; clauses = signals_where window (unpaired window) (sym same ∙ fits) }

ask : (properties : List PropertyForm) → IsLawful (patterns properties) IsListed → ExtendedIsValid → SignalsAreAnswered
    → (window : WindowForm) (property : PropertyForm) (ids : List EventId) → IsListed window property ids → IsAsk (notified properties) window property ids
ask properties plain valid answered window property ids listed =
    let own = plain.ask window property ids listed in
    record {
      some = own.some;
      few = own.few;
      query = λ fits. valid.query window (query_of window property ids) (own.query (base_fits window fits));
      complete = λ is fits none shown shows.
          let limits = sized window fits in
          answered.impossible window property ids is limits.encodable.points limits.clauses none shown shows;
      given = λ is fits answer given. absurd (none-some answer given);
    }

pub is_lawful : (properties : List PropertyForm) → IsLawful (patterns properties) IsListed → ExtendedIsValid → SignalsAreAnswered → IsLawful (notified properties) IsListed
is_lawful properties plain valid answered = record {
  few = plain.few;
  listed = plain.listed;
  ask = ask properties plain valid answered;
  problem = λ window fits.
      let is = sized window fits in
      record { valid = valid.problem window is.encodable.points is.clauses; solvable = valid.solvable window; few_clauses = valid.few_clauses window is.clauses; shares = tt };
  large = λ window is fits. plain.large window is (base_fits window fits);
}
