-- Small windows, with the reasons that certificates give.
use Rattle.std.specs.Prelude.{◌≡◌, ℕ, pos, true, false, List, [], ◌∷◌, None}
use Rattle.gp_certificate.specs.declared.step.Step.{Step}
use Rattle.gp_clause.specs.declared.lit.Lit.{Lit}
use Rattle.gp_constraint.specs.declared.base_family.BaseFamily.TheVariants.{ProgramOrder, Read, Choice, HeldLock}
use Rattle.gp_property.specs.declared.property.PatternStep.{PatternStep}
use Rattle.gp_property.specs.PropertyForm.{PropertyForm}
use Rattle.gp_trace.specs.declared.event.Event.TheVariants as event
use Rattle.gp_window.specs.declared.schedule.EventId.{EventId}
use Rattle.gp_window.specs.WindowForm.{WindowForm}
use Rattle.gp_reason.specs.declared.fact.Fact.TheVariants.{Executed, NotExecuted, Before, Sees, NotSees, Within, Beyond}
use Rattle.gp_reason.specs.declared.reasons.Ground.TheVariants.{Base, Earlier, Everything, ThreadOrder}
use Rattle.gp_reason.specs.Reasons.{reason_of}

abbrev a : List ℕ
a = 97 ∷ []

abbrev b : List ℕ
b = 98 ∷ []

abbrev c : List ℕ
c = 99 ∷ []

abbrev at : ℕ → ℕ → EventId
at thread index = record { thread = thread; index = index }

-- a literal of a variable, and its negation
abbrev so : ℕ → Lit
so variable = record { variable = variable; positive = true }

abbrev not_so : ℕ → Lit
not_so variable = record { variable = variable; positive = false }

abbrev step : List Lit → List ℕ → Step
step clause hints = record { clause = clause; hints = hints }

-- one event, and then another
abbrev single : PatternStep
single = record { atoms = record { event = a; thread_var = b; opens = None; closes = None } ∷ [] }

abbrev pub in_turn : PropertyForm
in_turn = record { name = a; events = []; pattern = single ∷ single ∷ [] }

-- thread 1 works and then raises a flag, which thread 2 finds raised before it works. The clauses 0 and 1 are of program order, 2 says
-- that the read sees a value, and 3 and 4 what it means that it sees the write
abbrev pub flagged : WindowForm
flagged = record {
  number = 1;
  segments = (event.Op (a, []) ∷ event.Write c (pos 1) ∷ []) ∷ (event.Read c (pos 1) ∷ event.Op (b, []) ∷ []) ∷ [];
  start_values = [];
  holders = [];
  readers = [];
  started = 1 ∷ 2 ∷ [];
  exited = [];
}

-- thread 1 works under a lock that it holds when the window begins, and thread 2 takes the lock before it works. The clauses 0 and 1 are
-- of program order, 2 and 3 say that the lock is given back first
abbrev pub guarded : WindowForm
guarded = record {
  number = 1;
  segments = (event.Op (a, []) ∷ event.Release c ∷ []) ∷ (event.Acquire c ∷ event.Op (b, []) ∷ []) ∷ [];
  start_values = [];
  holders = (c, 1) ∷ [];
  readers = [];
  started = 1 ∷ 2 ∷ [];
  exited = [];
}

-- thread 1 works twice, and thread 2 works with something between. The clauses 0 to 2 are of program order
abbrev pub apart : WindowForm
apart = record {
  number = 1;
  segments = (event.Op (c, []) ∷ event.Op (c, []) ∷ []) ∷ (event.Op (a, []) ∷ event.Op (c, []) ∷ event.Op (b, []) ∷ []) ∷ [];
  start_values = [];
  holders = [];
  readers = [];
  started = 1 ∷ 2 ∷ [];
  exited = [];
}

-- two events side by side
abbrev pub beside : PropertyForm
beside = record { name = a; events = []; pattern = record { atoms = record { event = a; thread_var = b; opens = None; closes = None } ∷ record { event = b; thread_var = b; opens = None; closes = None } ∷ [] } ∷ [] }

-- the work of thread 2 before that of thread 1
abbrev pub reversed : List EventId
reversed = at 2 1 ∷ at 1 0 ∷ []

-- the work of thread 2 before that of thread 1, and the flag before its read
abbrev pub round : List EventId
round = at 2 1 ∷ at 1 0 ∷ at 1 1 ∷ at 2 0 ∷ []

pub record ExamplesHold : Type 0 where
  -- one step, by the clauses that it cites, which force a cycle; a hint that cites nothing is left out
  pub flag : reason_of flagged in_turn reversed [] (record { steps = step (not_so 3 ∷ so 6 ∷ []) (1 ∷ 2 ∷ 40 ∷ 4 ∷ []) ∷ [] }) ≡ record {
    assumed = Executed (at 2 1) ∷ Before (at 2 1) (at 1 0) ∷ [];
    steps = record {
      number = 5;
      says = NotExecuted (at 2 1) ∷ Before (at 1 0) (at 2 1) ∷ [];
      grounds = Base ProgramOrder (Executed (at 2 0) ∷ NotExecuted (at 2 1) ∷ [])
          ∷ Base Read (NotExecuted (at 2 0) ∷ Sees (at 2 0) (at 1 1) ∷ [])
          ∷ Base Choice (NotSees (at 2 0) (at 1 1) ∷ Before (at 1 1) (at 2 0) ∷ []) ∷ [];
      cycle = round;
    } ∷ [];
  }
  -- of two shared steps the one that is cited is told, and the steps that are told count without the other. By the first two steps a
  -- clause becomes false
  pub shared : reason_of flagged in_turn reversed (step (not_so 2 ∷ so 1 ∷ []) (2 ∷ 3 ∷ []) ∷ step (not_so 2 ∷ so 5 ∷ []) (2 ∷ 4 ∷ []) ∷ [])
      (record { steps = step (not_so 3 ∷ so 5 ∷ []) (1 ∷ 6 ∷ []) ∷ step (not_so 3 ∷ so 6 ∷ []) (7 ∷ []) ∷ [] }) ≡ record {
        assumed = Executed (at 2 1) ∷ Before (at 2 1) (at 1 0) ∷ [];
        steps = record {
          number = 6;
          says = NotExecuted (at 2 0) ∷ Before (at 1 1) (at 2 0) ∷ [];
          grounds = Base Read (NotExecuted (at 2 0) ∷ Sees (at 2 0) (at 1 1) ∷ []) ∷ Base Choice (NotSees (at 2 0) (at 1 1) ∷ Before (at 1 1) (at 2 0) ∷ []) ∷ [];
          cycle = [];
        }
            ∷ record {
              number = 7;
              says = NotExecuted (at 2 1) ∷ Before (at 1 1) (at 2 0) ∷ [];
              grounds = Base ProgramOrder (Executed (at 2 0) ∷ NotExecuted (at 2 1) ∷ []) ∷ Earlier 0 ∷ [];
              cycle = [];
            }
            ∷ record { number = 8; says = NotExecuted (at 2 1) ∷ Before (at 1 0) (at 2 1) ∷ []; grounds = Earlier 1 ∷ []; cycle = round } ∷ [];
      }
  -- a step without hints rests on all own steps before it, and on no shared one; in what it denies alone there is no cycle
  pub everything : reason_of guarded in_turn reversed (step (not_so 2 ∷ so 4 ∷ []) (3 ∷ []) ∷ [])
      (record { steps = step (not_so 3 ∷ so 4 ∷ []) (1 ∷ 3 ∷ []) ∷ step (not_so 3 ∷ so 5 ∷ []) [] ∷ [] }) ≡ record {
        assumed = Executed (at 2 1) ∷ Before (at 2 1) (at 1 0) ∷ [];
        steps = record {
          number = 5;
          says = NotExecuted (at 2 1) ∷ Before (at 1 1) (at 2 0) ∷ [];
          grounds = Base ProgramOrder (Executed (at 2 0) ∷ NotExecuted (at 2 1) ∷ []) ∷ Base HeldLock (NotExecuted (at 2 0) ∷ Before (at 1 1) (at 2 0) ∷ []) ∷ [];
          cycle = [];
        }
            ∷ record { number = 6; says = NotExecuted (at 2 1) ∷ Before (at 1 0) (at 2 1) ∷ []; grounds = Everything ∷ []; cycle = [] } ∷ [];
      }
  -- two events of one thread with one between are not side by side: the clause that the step cites has nothing to do with it. The first five
  -- variables are those of the points, and 5 and 6 say that 2.0 and 2.2 are at most one place apart
  pub thread_order : reason_of apart beside (at 2 0 ∷ at 2 2 ∷ []) [] (record { steps = step (not_so 6 ∷ []) (0 ∷ []) ∷ [] }) ≡ record {
    assumed = Within (at 2 2) (at 2 0) 1 ∷ [];
    steps = record { number = 3; says = Beyond (at 2 2) (at 2 0) 1 ∷ []; grounds = ThreadOrder ∷ []; cycle = [] } ∷ [];
  }
  -- a certificate without steps gives no reason
  pub none : reason_of flagged in_turn reversed (step (not_so 2 ∷ so 1 ∷ []) (2 ∷ 3 ∷ []) ∷ []) (record { steps = [] }) ≡ record { assumed = []; steps = [] }
