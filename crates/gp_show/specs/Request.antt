-- What one pass over a report tells: what a command asks for, of which instances, with the properties that the report answers and what
-- stands beside it.
use Rattle.std.specs.Prelude.{List}
use Rattle.gp_beside.specs.declared.beside.Noted.{Noted}
use Rattle.gp_place.specs.declared.beside.Beside.{Beside}
use Rattle.gp_predict.specs.declared.submission.Submission.{Submission}
use Rattle.gp_property.specs.PropertyForm.{PropertyForm}
use Rattle.gp_words.specs.Showing.{ShowForm, show_form}
use Rattle.gp_show.specs.declared.choice.Pass.{Pass}
use Rattle.gp_show.specs.declared.request.Request.{Request}

-- a command, a pass over the report, the properties that the report answers, and what stands beside it
pub record RequestForm : Type 0 where
  pub command : ShowForm
  pub pass : Pass
  pub properties : List PropertyForm
  pub beside : Beside

-- a pass of a command over what was submitted, beside which this stands
abbrev pub request_with : ShowForm → Pass → Submission → Noted → RequestForm
request_with command pass submission noted =
    record { command = command; pass = pass; properties = submission.listing.properties; beside = noted.beside }

-- what contracts see of the code's own type
abbrev pub request_form : Request → RequestForm
request_form request =
    record { command = show_form request.command; pass = request.pass; properties = request.properties.now; beside = request.beside.now }
