-- The question which threads can come to the end of their segment.
use Rattle.std.specs.Prelude.{ℕ, List, [], ◌∷◌, Option}
use Rattle.gp_constraint.specs.Base.{base_of}
use Rattle.gp_constraint.specs.Encoded.{base_due}
use Rattle.gp_window.specs.declared.schedule.Schedule.{Schedule}
use Rattle.gp_analysis.specs.Question.{QuestionForm}
use Rattle.gp_patterns.specs.Question.{is_large, left_out_in}
use Rattle.gp_bridge_rows.specs.Ends.{EndsAt, ends_of, given_by, listed, query_of}

-- the one subject, of this name, asks for the end of each thread; a schedule that is kept gives those that it reaches, and a
-- feasible schedule that reaches one shows it
abbrev pub ending : List ℕ → Option Schedule → QuestionForm (List ℕ) Schedule
ending name kept = record {
  subjects = name ∷ [];
  name = λ (subject : List ℕ). subject;
  left_out = λ window. left_out_in (base_due window);
  is_large = is_large;
  problem = base_of;
  shared = λ window. [];
  asks = λ window subject number. listed (ends_of window number);
  query = λ window subject ids. query_of window ids;
  given = λ window subject ids. given_by window ids kept;
  shows = λ window subject ids (schedule : Schedule). EndsAt window ids schedule.events;
}
