-- The texts of small stories and of reasons, written by hand.
use Rattle.std.specs.Prelude.{◌≡◌, ℕ, true, false, List, [], ◌∷◌, ◌++◌, codes}
use Rattle.gp_trace.specs.declared.event.Event.TheVariants as event
use Rattle.gp_place.specs.Places.{behind, named}
use Rattle.gp_place.specs.declared.places.Places.{Places}
use Rattle.gp_window.specs.EventIds.{event_id_text}
use Rattle.gp_window.specs.declared.schedule.EventId.{EventId}
use Rattle.gp_window.specs.WindowForm.{WindowForm}
use Rattle.gp_constraint.specs.declared.base_family.BaseFamily.TheVariants.{ProgramOrder, Start, Join, Read, Choice, StartChoice, Section, HeldLock}
use Rattle.gp_story.specs.Examples.{flagged, guarded}
use Rattle.gp_story.specs.Parts.{story_of}
use Rattle.gp_reason.specs.declared.fact.Fact.TheVariants.{Executed, NotExecuted, Before, Sees, NotSees, SeesStart, NotSeesStart, SectionBefore, Last, NotLast, Takes, NotTakes, Within, Beyond, Unnamed}
use Rattle.gp_reason.specs.declared.reasons.Ground.TheVariants.{Base, Earlier, Everything, ThreadOrder}
use Rattle.gp_reason.specs.declared.reasons.Reason.{Reason}
use Rattle.gp_text.specs.Spelling.{spelling}
use Rattle.gp_tell.specs.ReasonText.{reason_lines}
use Rattle.gp_tell.specs.StoryText.{story_lines}

abbrev at : ℕ → ℕ → EventId
at thread index = record { thread = thread; index = index }

-- the text of the story of a schedule, of whose events some are marked and none has a place
abbrev pub story_told : WindowForm → List EventId → List EventId → List ℕ
story_told window schedule marked = spelling (story_lines (λ id. []) window (story_of window schedule marked))

-- of the events of the first window, the second one of thread 2 has a place
abbrev pub in_second : Places
in_second = record {
  places = record { file = codes "work.c"; line = 12; function = codes "second"; source = codes "work();" } ∷ [];
  numbers = [] ∷ ((0 ∷ 1 ∷ []) ∷ []) ∷ [];
}

-- thread 1 waits for the end of thread 2, which works
abbrev pub awaited : WindowForm
awaited = record {
  number = 1;
  segments = (event.Join 2 ∷ []) ∷ (event.Op (97 ∷ [], []) ∷ []) ∷ [];
  start_values = [];
  holders = [];
  readers = [];
  started = 1 ∷ 2 ∷ [];
  exited = 2 ∷ [];
}

-- one step by three clauses of its window, and a cycle
abbrev pub by_clauses : Reason
by_clauses = record {
  assumed = Executed (at 2 1) ∷ Before (at 2 1) (at 1 0) ∷ [];
  steps = record {
    number = 5;
    says = NotExecuted (at 2 1) ∷ Before (at 1 0) (at 2 1) ∷ [];
    grounds = Base ProgramOrder (Executed (at 2 0) ∷ NotExecuted (at 2 1) ∷ [])
        ∷ Base Read (NotExecuted (at 2 0) ∷ Sees (at 2 0) (at 1 1) ∷ [])
        ∷ Base Choice (NotSees (at 2 0) (at 1 1) ∷ Before (at 1 1) (at 2 0) ∷ []) ∷ [];
    cycle = at 2 1 ∷ at 1 0 ∷ at 1 1 ∷ at 2 0 ∷ [];
  } ∷ [];
}

-- a step of each other family, one that says nothing, and one that needs no clause
abbrev pub by_steps : Reason
by_steps = record {
  assumed = Last (at 1 2) ∷ Takes (at 3 0) (at 1 4) ∷ Within (at 3 0) (at 1 4) 12 ∷ Unnamed 7 true ∷ [];
  steps = record {
    number = 40;
    says = NotLast (at 1 2) ∷ NotTakes (at 3 0) (at 1 4) ∷ Beyond (at 3 0) (at 1 4) 12 ∷ [];
    grounds = Base Start (Executed (at 1 0) ∷ [])
        ∷ Base Join (NotExecuted (at 1 0) ∷ [])
        ∷ Base StartChoice (SeesStart (at 2 0) ∷ NotSeesStart (at 2 0) ∷ [])
        ∷ Base Section (SectionBefore (at 1 1) (at 2 1) ∷ SectionBefore (at 2 1) (at 1 1) ∷ [])
        ∷ Base HeldLock (Unnamed 7 false ∷ []) ∷ [];
    cycle = [];
  }
      ∷ record { number = 44; says = []; grounds = Earlier 0 ∷ Everything ∷ []; cycle = [] }
      ∷ record { number = 45; says = Beyond (at 2 2) (at 2 0) 1 ∷ []; grounds = ThreadOrder ∷ []; cycle = [] } ∷ [];
}

pub record ExamplesHold : Type 0 where
  -- what a read sees, and who started a thread
  pub flag_raised : story_told flagged (at 1 0 ∷ at 1 1 ∷ at 1 2 ∷ at 2 0 ∷ at 2 1 ∷ []) [] ≡
      codes "1 1.0 start 2\n"
      ++ codes "2 1.1 op a\n"
      ++ codes "3 1.2 write c 1\n"
      ++ codes "4 2.0 read c 1 sees 1.2 started by 1.0\n"
      ++ codes "5 2.1 op b\n"
  -- the events of an instance
  pub flag_up : story_told flagged (at 1 0 ∷ at 2 0 ∷ at 2 1 ∷ at 1 1 ∷ []) (at 2 1 ∷ at 1 1 ∷ []) ≡
      codes "1 1.0 start 2\n"
      ++ codes "2 2.0 read c 1 sees the beginning started by 1.0\n"
      ++ codes "3 2.1 op b <- instance\n"
      ++ codes "4 1.1 op a <- instance\n"
  -- the same where one of these events has a place
  pub flag_up_placed : spelling (story_lines (behind in_second 1) flagged (story_of flagged (at 1 0 ∷ at 2 0 ∷ at 2 1 ∷ at 1 1 ∷ []) (at 2 1 ∷ at 1 1 ∷ []))) ≡
      codes "1 1.0 start 2\n"
      ++ codes "2 2.0 read c 1 sees the beginning started by 1.0\n"
      ++ codes "3 2.1 op b <- instance  work.c:12 in second: work();\n"
      ++ codes "4 1.1 op a <- instance\n"
  -- a run, and who lets in who takes a lock
  pub work_folded : story_told guarded (at 1 0 ∷ at 1 1 ∷ at 1 2 ∷ at 1 3 ∷ at 2 0 ∷ at 2 1 ∷ at 2 2 ∷ []) (at 2 1 ∷ []) ≡
      codes "1 1.0 acquire c\n"
      ++ codes "2 to 3 1.1 to 1.2, 2 events that nobody else has to do with\n"
      ++ codes "4 1.3 release c\n"
      ++ codes "5 2.0 acquire c after 1.3\n"
      ++ codes "6 2.1 op a <- instance\n"
      ++ codes "7 2.2 release c\n"
  -- for whom a join waits, and an id that names no event
  pub thread_ended : story_told awaited (at 2 0 ∷ at 1 0 ∷ at 3 0 ∷ []) [] ≡
      codes "1 2.0 op a\n"
      ++ codes "2 1.0 join 2 after 2.0\n"
      ++ codes "3 3.0 no event\n"
  -- clauses of a window, and a cycle
  pub clauses : spelling (reason_lines event_id_text by_clauses) ≡
      codes "this cannot all hold:\n"
      ++ codes "- 2.1 is executed\n"
      ++ codes "- 2.1 is before 1.0\n"
      ++ codes "1. 2.1 is not executed, or 1.0 is before 2.1, since\n"
      ++ codes "- program order: 2.0 is executed, or 2.1 is not executed\n"
      ++ codes "- value of a read: 2.0 is not executed, or 2.0 sees 1.1\n"
      ++ codes "- what a read sees: 2.0 does not see 1.1, or 1.1 is before 2.0\n"
      ++ codes "- a cycle: 2.1 before 1.0 before 1.1 before 2.0 before 2.1\n"
  -- the same where one of these events has a place
  pub clauses_placed : spelling (reason_lines (named in_second 1) by_clauses) ≡
      codes "this cannot all hold:\n"
      ++ codes "- 2.1 (work.c:12 in second) is executed\n"
      ++ codes "- 2.1 (work.c:12 in second) is before 1.0\n"
      ++ codes "1. 2.1 (work.c:12 in second) is not executed, or 1.0 is before 2.1 (work.c:12 in second), since\n"
      ++ codes "- program order: 2.0 is executed, or 2.1 (work.c:12 in second) is not executed\n"
      ++ codes "- value of a read: 2.0 is not executed, or 2.0 sees 1.1\n"
      ++ codes "- what a read sees: 2.0 does not see 1.1, or 1.1 is before 2.0\n"
      ++ codes "- a cycle: 2.1 (work.c:12 in second) before 1.0 before 1.1 before 2.0 before 2.1 (work.c:12 in second)\n"
  -- the other families and facts, an earlier step, a step that says nothing, and one by the order within threads alone; none of them has a cycle
  pub steps : spelling (reason_lines event_id_text by_steps) ≡
      codes "this cannot all hold:\n"
      ++ codes "- 1.2 is the last write\n"
      ++ codes "- 3.0 takes the signal of 1.4\n"
      ++ codes "- 3.0 is at most 12 places behind 1.4\n"
      ++ codes "- something without a name is true (7)\n"
      ++ codes "1. 1.2 is not the last write, or 3.0 does not take the signal of 1.4, or 3.0 is more than 12 places behind 1.4, since\n"
      ++ codes "- start: 1.0 is executed\n"
      ++ codes "- join: 1.0 is not executed\n"
      ++ codes "- the beginning is seen: 2.0 sees the beginning, or 2.0 does not see the beginning\n"
      ++ codes "- sections of a lock: the section of 1.1 is before that of 2.1, or the section of 2.1 is before that of 1.1\n"
      ++ codes "- lock held from before: something without a name is false (7)\n"
      ++ codes "2. a contradiction, since\n"
      ++ codes "- step 1\n"
      ++ codes "- all of the above and of the window\n"
      ++ codes "3. 2.2 is more than 1 places behind 2.0, since\n"
      ++ codes "- the order within threads alone\n"
