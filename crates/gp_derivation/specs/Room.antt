-- How many steps, and literals in their clauses, a small certificate may still have.
use Rattle.std.specs.Prelude.{ℕ, ◌≡◌, ◌+◌, List, [], ◌∷◌, length, All}
use Rattle.std.specs.List.{sum_by}
use Rattle.std.specs.Arc.{arc_value}
use Rattle.gp_clause.specs.declared.lit.Lit.{Lit}
use Rattle.gp_clause.specs.declared.problem.Problem.{Problem}
use Rattle.gp_clause.specs.Clause.{NamesBelow}
use Rattle.gp_certificate.specs.declared.step.Step.{Step}
use Rattle.gp_certificate.specs.declared.certificate.Certificate.{Certificate}
use Rattle.gp_derivation.specs.declared.log.LogEntry.{LogEntry}
use Rattle.gp_derivation.specs.declared.log.Origin.{Origin}
use Rattle.gp_derivation.specs.declared.log.Origin.TheVariants.{Learned, Taken}
use Rattle.gp_derivation.specs.declared.room.Room.{Room}
use Rattle.gp_certificate.specs.Certificate.{clauses_of}
use Rattle.gp_derivation.specs.Cones.{IsCone}
use Rattle.gp_derivation.specs.Fit.{IsSmall}
use Rattle.gp_derivation.specs.Reach.{AreReached}

-- the room of a certificate without steps
abbrev pub whole_room : Room
whole_room = record { steps = 64; literals = 2048 }

-- the clauses that an origin stands for: that of its step, or those of its certificate
abbrev pub clauses_by : Step → Origin → List (List Lit)
clauses_by step Learned = step.clause ∷ []
clauses_by step (Taken sender certificate) = clauses_of (arc_value certificate).steps

-- steps with some clauses, which have problem variables alone, leave so much of a room
pub record Leaves (variables : ℕ) (room : Room) (clauses : List (List Lit)) (left : Room) : Type 0 where
  pub steps : left.steps + length clauses ≡ room.steps
  pub literals : left.literals + sum_by (λ (clause : List Lit). length clause) clauses ≡ room.literals
  pub below : All (NamesBelow variables) clauses

-- a room has place for steps with some clauses
abbrev pub HasPlace : ℕ → Room → List (List Lit) → Type 0
HasPlace variables room clauses = (left : Room) × Leaves variables room clauses left

-- a step has no small cone
abbrev pub HasNoSmallCone : Problem → List LogEntry → Step → Type 0
HasNoSmallCone problem log last = (certificate : Certificate) → IsCone (length problem.clauses) log last certificate → IsSmall problem certificate → ⊥

-- a step rests on the entries at some places, and its cone is small
pub record HasSmallCone (problem : Problem) (log : List LogEntry) (last : Step) (places : List ℕ) : Type 0 where
  pub reached : AreReached (length problem.clauses) log last.hints places
  pub small : (certificate : Certificate) → IsCone (length problem.clauses) log last certificate → IsSmall problem certificate
