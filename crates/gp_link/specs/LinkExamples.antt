-- The problems of small windows and the next, whole.
use Rattle.std.specs.Prelude.{ℕ, pos, ◌≡◌, true, false, List, [], ◌∷◌, codes}
use Rattle.gp_clause.specs.declared.kind.Kind.TheVariants.{Free, Order}
use Rattle.gp_clause.specs.declared.lit.Lit.{Lit}
use Rattle.gp_trace.specs.declared.event.Event.{Event}
use Rattle.gp_trace.specs.declared.event.Event.TheVariants.{Acquire, Write}
use Rattle.gp_window.specs.WindowForm.{WindowForm}
use Rattle.gp_link.specs.LinkProblem.{link_problem_of}

abbrev pub pos_lit : ℕ → Lit
pos_lit variable = record { variable = variable; positive = true }

abbrev pub neg_lit : ℕ → Lit
neg_lit variable = record { variable = variable; positive = false }

-- window 1 of two threads, both of them roots, in which no lock is held and all variables are 0 when it begins
abbrev pub first_window : List Event → List Event → WindowForm
first_window one other = record {
  number = 1;
  segments = one ∷ other ∷ [];
  start_values = [];
  holders = [];
  readers = [];
  started = 1 ∷ 2 ∷ [];
  exited = [];
}

-- a window that begins with x being 5; all else of it does not count
abbrev pub next_window : WindowForm
next_window = record {
  number = 2;
  segments = [] ∷ [] ∷ [];
  start_values = (codes "x", pos 5) ∷ [];
  holders = [];
  readers = [];
  started = 1 ∷ 2 ∷ [];
  exited = [];
}

-- x becomes 5 between the windows without a write; by a write; and by one of two writes
pub record LinkExamples : Type 0 where
  pub unwritten : (link_problem_of (first_window (Acquire (codes "l") ∷ []) []) next_window).clauses ≡ (pos_lit 0 ∷ []) ∷ [] ∷ []
  pub written : (link_problem_of (first_window (Acquire (codes "l") ∷ []) (Write (codes "x") (pos 5) ∷ [])) next_window).clauses
      ≡ (pos_lit 0 ∷ []) ∷ (pos_lit 1 ∷ []) ∷ (pos_lit 2 ∷ []) ∷ []
  pub twice : (link_problem_of (first_window (Write (codes "x") (pos 1) ∷ []) (Write (codes "x") (pos 5) ∷ [])) next_window).clauses
      ≡ (pos_lit 0 ∷ []) ∷ (pos_lit 1 ∷ []) ∷ (pos_lit 2 ∷ []) ∷ (neg_lit 2 ∷ pos_lit 3 ∷ []) ∷ []
  pub twice_kinds : (link_problem_of (first_window (Write (codes "x") (pos 1) ∷ []) (Write (codes "x") (pos 5) ∷ [])) next_window).kinds
      ≡ Free ∷ Free ∷ Free ∷ Order 0 1 ∷ []
  -- of two writes in one thread the order is known: the clause is left out, or its order is
  pub in_order : (link_problem_of (first_window (Write (codes "x") (pos 1) ∷ Write (codes "x") (pos 5) ∷ []) []) next_window).clauses
      ≡ (pos_lit 0 ∷ neg_lit 1 ∷ []) ∷ (pos_lit 1 ∷ []) ∷ (pos_lit 2 ∷ []) ∷ []
  pub in_wrong_order : (link_problem_of (first_window (Write (codes "x") (pos 5) ∷ Write (codes "x") (pos 1) ∷ []) []) next_window).clauses
      ≡ (pos_lit 0 ∷ neg_lit 1 ∷ []) ∷ (pos_lit 1 ∷ []) ∷ (pos_lit 2 ∷ []) ∷ (neg_lit 2 ∷ []) ∷ []
