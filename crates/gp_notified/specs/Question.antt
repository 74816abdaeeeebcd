-- The question which instances of properties are possible where each wake needs a signal.
use Rattle.std.specs.Prelude.{List, [], None}
use Rattle.gp_constraint.specs.Query.{query_of}
use Rattle.gp_instance.specs.Instances.{due_instances}
use Rattle.gp_notify.specs.Extended.{extended_of, lift}
use Rattle.gp_property.specs.PropertyForm.{PropertyForm}
use Rattle.gp_analysis.specs.Question.{QuestionForm}
use Rattle.gp_patterns.specs.Question.{is_large}
use Rattle.gp_notified.specs.declared.paired.Paired.{Paired}
use Rattle.gp_notified.specs.Due.{left_out_by, signals_due}
use Rattle.gp_notified.specs.Shown.{IsShown}

-- each property asks for its instances, of a window with the constraints of its signals; an instance has no answer before, and a
-- feasible schedule that matches it, with pairs that are signalled, shows it
abbrev pub notified : List PropertyForm → QuestionForm PropertyForm Paired
notified properties = record {
  subjects = properties;
  name = λ (property : PropertyForm). property.name;
  left_out = λ window. left_out_by (signals_due window);
  is_large = is_large;
  problem = extended_of;
  shared = λ window. [];
  asks = due_instances;
  query = λ window property ids. lift window (query_of window property ids);
  given = λ window property ids. None;
  shows = IsShown;
}
