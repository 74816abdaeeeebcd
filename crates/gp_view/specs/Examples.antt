-- An instance that is found, one that is impossible and one that is undecided, written by hand.
use Rattle.std.specs.Prelude.{◌≡◌, ℕ, true, false, List, [], ◌∷◌, ◌++◌, codes}
use Rattle.gp_place.specs.Beside.{nothing_beside}
use Rattle.gp_place.specs.declared.beside.Beside.{Beside}
use Rattle.gp_property.specs.PropertyForm.{PropertyForm}
use Rattle.gp_reason.specs.Examples.{in_turn}
use Rattle.gp_reason.specs.Examples as reasons
use Rattle.gp_report.specs.declared.record.AnswerOf.TheVariants.{Found, Impossible, Undecided}
use Rattle.gp_story.specs.Examples as stories
use Rattle.gp_tell.specs.Examples.{in_second}
use Rattle.gp_text.specs.Spelling.{spelling}
use Rattle.gp_window.specs.declared.schedule.EventId.{EventId}
use Rattle.gp_view.specs.Answered.{AnsweredForm}
use Rattle.gp_view.specs.Page.{answered_part, folded}
use Rattle.gp_view.specs.Text.{answered_lines}

abbrev at : ℕ → ℕ → EventId
at thread index = record { thread = thread; index = index }

-- a property of this name
abbrev named : List ℕ → PropertyForm
named name = record { name = name; events = []; pattern = [] }

-- thread 2 works before thread 1 does, since the flag is up when the window begins
abbrev pub found : AnsweredForm
found = record {
  window = stories.flagged;
  shared = [];
  property = named (codes "a<b");
  number = 0;
  entry = record {
    events = at 2 1 ∷ at 1 1 ∷ [];
    answer = Found (record { events = at 1 0 ∷ at 2 0 ∷ at 2 1 ∷ at 1 1 ∷ [] });
  };
}

-- thread 2 cannot, since the flag is not up and thread 1 works before it raises it
abbrev pub impossible : AnsweredForm
impossible = record {
  window = reasons.flagged;
  shared = [];
  property = in_turn;
  number = 3;
  entry = record {
    events = at 2 1 ∷ at 1 0 ∷ [];
    answer = Impossible (record {
      steps = record {
        clause = record { variable = 3; positive = false } ∷ record { variable = 6; positive = true } ∷ [];
        hints = 1 ∷ 2 ∷ 4 ∷ [];
      } ∷ [];
    });
  };
}

-- nothing was found with 300 learned clauses; the window has no event of the last of these ids
abbrev pub undecided : AnsweredForm
undecided = record {
  window = stories.guarded;
  shared = [];
  property = named (codes "races");
  number = 12;
  entry = record {
    events = at 1 1 ∷ at 2 0 ∷ at 3 0 ∷ [];
    answer = Undecided 2 150 450;
  };
}

-- an event of the first of these has a place, and it was seen, as was the next instance of its property
abbrev pub beside : Beside
beside = record {
  places = in_second;
  sightings = record { window = 1; property = codes "a<b"; instance = 0; text = codes "confirmed today" }
      ∷ record { window = 1; property = codes "a<b"; instance = 1; text = codes "confirmed before" } ∷ [];
}

pub record ExamplesHold : Type 0 where
  -- the story of the schedule, in which the two events are marked
  pub found_lines : spelling (answered_lines nothing_beside found) ≡
      codes "\nwindow 1 property a<b instance 0 found\n"
      ++ codes "2.1 op b\n"
      ++ codes "1.1 op a\n"
      ++ codes "it can happen so:\n"
      ++ codes "1 1.0 start 2\n"
      ++ codes "2 2.0 read c 1 sees the beginning started by 1.0\n"
      ++ codes "3 2.1 op b <- instance\n"
      ++ codes "4 1.1 op a <- instance\n"
  -- the same with a place, and with what was seen of this instance
  pub seen_lines : spelling (answered_lines beside found) ≡
      codes "\nwindow 1 property a<b instance 0 found\n"
      ++ codes "2.1 op b  work.c:12 in second: work();\n"
      ++ codes "1.1 op a\n"
      ++ codes "seen: confirmed today\n"
      ++ codes "it can happen so:\n"
      ++ codes "1 1.0 start 2\n"
      ++ codes "2 2.0 read c 1 sees the beginning started by 1.0\n"
      ++ codes "3 2.1 op b <- instance  work.c:12 in second: work();\n"
      ++ codes "4 1.1 op a <- instance\n"
  -- the step of the certificate, in facts
  pub impossible_lines : spelling (answered_lines nothing_beside impossible) ≡
      codes "\nwindow 1 property a instance 3 impossible\n"
      ++ codes "2.1 op b\n"
      ++ codes "1.0 op a\n"
      ++ codes "this cannot all hold:\n"
      ++ codes "- 2.1 is executed\n"
      ++ codes "- 2.1 is before 1.0\n"
      ++ codes "1. 2.1 is not executed, or 1.0 is before 2.1, since\n"
      ++ codes "- program order: 2.0 is executed, or 2.1 is not executed\n"
      ++ codes "- value of a read: 2.0 is not executed, or 2.0 sees 1.1\n"
      ++ codes "- what a read sees: 2.0 does not see 1.1, or 1.1 is before 2.0\n"
      ++ codes "- a cycle: 2.1 before 1.0 before 1.1 before 2.0 before 2.1\n"
  -- how many clauses were learned
  pub undecided_lines : spelling (answered_lines nothing_beside undecided) ≡
      codes "\nwindow 1 property races instance 12 undecided\n"
      ++ codes "1.1 op a\n"
      ++ codes "2.0 acquire c\n"
      ++ codes "3.0\n"
      ++ codes "not decided with 300 learned clauses\n"
  -- the drawing of the schedule, below the events
  pub found_part : answered_part nothing_beside found ≡
      codes "<section>\n<h2>window 1 property a&lt;b instance 0 found</h2>\n"
      ++ codes "<ul>\n<li>2.1 op b</li>\n<li>1.1 op a</li>\n</ul>\n"
      ++ codes "<svg class='drawing' viewBox='0 0 536 128' width='536' height='128'>\n"
      ++ codes "<line class='lane' x1='40' y1='20' x2='40' y2='118'/>\n<text class='thread' x='40' y='14'>1</text>\n"
      ++ codes "<line class='lane' x1='88' y1='20' x2='88' y2='118'/>\n<text class='thread' x='88' y='14'>2</text>\n"
      ++ codes "<line class='arrow start' x1='40' y1='30' x2='88' y2='52' marker-end='url(#tip)'/>\n"
      ++ codes "<g class='row'><title>1.0 start 2</title><circle class='event' cx='40' cy='30' r='6'/>"
      ++ codes "<text class='words' x='136' y='34'>1.0 start 2</text></g>\n"
      ++ codes "<g class='row'><title>2.0 read c 1</title><circle class='event' cx='88' cy='52' r='6'/>"
      ++ codes "<text class='words' x='136' y='56'>2.0 read c 1</text></g>\n"
      ++ codes "<g class='row'><title>2.1 op b</title><circle class='event marked' cx='88' cy='74' r='6'/>"
      ++ codes "<text class='words' x='136' y='78'>2.1 op b</text></g>\n"
      ++ codes "<g class='row'><title>1.1 op a</title><circle class='event marked' cx='40' cy='96' r='6'/>"
      ++ codes "<text class='words' x='136' y='100'>1.1 op a</text></g>\n</svg>\n</section>\n"
  -- the same with a place, which makes the drawing wider, and with what was seen of this instance
  pub seen_part : answered_part beside found ≡
      codes "<section>\n<h2>window 1 property a&lt;b instance 0 found</h2>\n"
      ++ codes "<ul>\n<li>2.1 op b  work.c:12 in second: work();</li>\n<li>1.1 op a</li>\n</ul>\n<p>seen: confirmed today</p>\n"
      ++ codes "<svg class='drawing' viewBox='0 0 776 128' width='776' height='128'>\n"
      ++ codes "<line class='lane' x1='40' y1='20' x2='40' y2='118'/>\n<text class='thread' x='40' y='14'>1</text>\n"
      ++ codes "<line class='lane' x1='88' y1='20' x2='88' y2='118'/>\n<text class='thread' x='88' y='14'>2</text>\n"
      ++ codes "<line class='arrow start' x1='40' y1='30' x2='88' y2='52' marker-end='url(#tip)'/>\n"
      ++ codes "<g class='row'><title>1.0 start 2</title><circle class='event' cx='40' cy='30' r='6'/>"
      ++ codes "<text class='words' x='136' y='34'>1.0 start 2</text></g>\n"
      ++ codes "<g class='row'><title>2.0 read c 1</title><circle class='event' cx='88' cy='52' r='6'/>"
      ++ codes "<text class='words' x='136' y='56'>2.0 read c 1</text></g>\n"
      ++ codes "<g class='row'><title>2.1 op b  work.c:12 in second: work();</title><circle class='event marked' cx='88' cy='74' r='6'/>"
      ++ codes "<text class='words' x='136' y='78'>2.1 op b  work.c:12 in second: work();</text></g>\n"
      ++ codes "<g class='row'><title>1.1 op a</title><circle class='event marked' cx='40' cy='96' r='6'/>"
      ++ codes "<text class='words' x='136' y='100'>1.1 op a</text></g>\n</svg>\n</section>\n"
  -- the reason as it stands in a text
  pub impossible_part : answered_part nothing_beside impossible ≡
      codes "<section>\n<h2>window 1 property a instance 3 impossible</h2>\n"
      ++ codes "<ul>\n<li>2.1 op b</li>\n<li>1.0 op a</li>\n</ul>\n"
      ++ codes "<pre>this cannot all hold:\n"
      ++ codes "- 2.1 is executed\n"
      ++ codes "- 2.1 is before 1.0\n"
      ++ codes "1. 2.1 is not executed, or 1.0 is before 2.1, since\n"
      ++ codes "- program order: 2.0 is executed, or 2.1 is not executed\n"
      ++ codes "- value of a read: 2.0 is not executed, or 2.0 sees 1.1\n"
      ++ codes "- what a read sees: 2.0 does not see 1.1, or 1.1 is before 2.0\n"
      ++ codes "- a cycle: 2.1 before 1.0 before 1.1 before 2.0 before 2.1\n"
      ++ codes "</pre>\n</section>\n"
  pub undecided_part : answered_part nothing_beside undecided ≡
      codes "<section>\n<h2>window 1 property races instance 12 undecided</h2>\n"
      ++ codes "<ul>\n<li>1.1 op a</li>\n<li>2.0 acquire c</li>\n<li>3.0</li>\n</ul>\n"
      ++ codes "<p>not decided with 300 learned clauses</p>\n</section>\n"
  -- up to 60 rows are shown at once
  pub few_rows : folded 60 (codes "rows") (codes "<svg/>\n") ≡ codes "<svg/>\n"
  pub many_rows : folded 61 (codes "rows") (codes "<svg/>\n") ≡ codes "<details><summary>61 rows</summary>\n<svg/>\n</details>\n"
