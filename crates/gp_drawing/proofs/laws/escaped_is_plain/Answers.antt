use Rattle.gp_drawing.proofs.Plain.{entities_begin, no_bracket, no_quote}
use Rattle.gp_drawing.proofs.laws.escaped_is_plain.Goals as goal

pub returns : goal.returns
returns c = record { brackets = no_bracket; quotes = no_quote; ampersands = entities_begin }
