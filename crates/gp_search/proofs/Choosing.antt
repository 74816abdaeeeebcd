-- What a decision needs, and how it goes further.
use Rattle.std.proofs.Common.{◌≡◌, refl, sym, subst, ◌∙◌, ap, ℕ, ◌+◌, ◌<◌, ◌≤◌, Bool, false, Option, Some, None, List, [], ◌∷◌, ◌++◌, length, Contains, inl, inr, arith}
use Rattle.std.specs.Option.{option_map, is_some}
use Rattle.std.specs.Prelude.{Result, Ok, Err, OnErr, OnOk}
use Rattle.std.proofs.lemmas.Bool.{cases_lt, true≢false}
use Rattle.std.proofs.lemmas.List.{length_push, length-append, length-set}
use Rattle.std.proofs.lemmas.List.Elements.{All-contains}
use Rattle.gp_clause.specs.declared.lit.Lit.{Lit}
use Rattle.gp_clause.specs.declared.problem.Problem.{Problem}
use Rattle.gp_clause.specs.declared.problem.Query.{Query}
use Rattle.gp_derivation.specs.declared.log.LogEntry.{LogEntry}
use Rattle.gp_certificate.specs.declared.step.Step.{Step}
use Rattle.gp_sat.specs.declared.assigned.Assigned.{Assigned}
use Rattle.gp_sat.specs.State.{SolverForm, assigned, with_literal}
use Rattle.gp_sat.specs.Deciding.{IsFull}
use Rattle.gp_sat.specs.Sound.{IsSound}
use Rattle.gp_sat.specs.SolverLaws.{added, room_left}
use Rattle.gp_search.specs.declared.engine.Engine.{Engine}
use Rattle.gp_search.specs.Inside.{all_kinds, IsTurning, IsAssuming, IsSettled}
use Rattle.gp_search.specs.Moves.{IsAllAssigned, IsOpen, GoesFurther, KeepsLog, MovesNext, BeginsLevel, IsBackAt, LearnsOne, IsLesson, raised}

-- where an assumption is not true, every decision is an assumption
pub open_low : (assumed : List Lit) (s : SolverForm) (level : ℕ) (lit : Lit) → IsAssuming assumed s level → IsOpen assumed s lit → s.level ≤ level
open_low assumed s level lit assuming next = elim (cases_lt level s.level) [
  | inl above ↦ let one = assuming.all_true above lit next.0 in absurd (next.1 (one.0, one.1, one.2))
  | inr low ↦ low
]

-- a variable without a value is unassigned
pub unassigned : (o : Option Assigned) (value : Option Bool) (test : Bool) → value ≡ option_map (λ a. a.positive) o → test ≡ is_some value → test ≡ false → o ≡ None
unassigned None value test is same fails = refl
unassigned (Some a) value test is same fails = absurd (true≢false (sym (same ∙ ap is_some is) ∙ fails))

pub goes_further : (old new : SolverForm) (lit : Lit) (level : ℕ) → IsSound old → new ≡ with_literal old lit level None → lit.variable < length old.values → assigned old lit.variable ≡ None → GoesFurther old new
goes_further old new lit level sound is within free = record {
  longer = ap (λ (s : SolverForm). length s.trail) is ∙ length_push old.trail lit;
  room = room_left old.values old.trail old.level lit.variable sound.ordered within free;
}

-- a decision keeps the log
pub keeps_begun : (old new : Engine) (lit : Lit) → BeginsLevel old new lit → KeepsLog old new
keeps_begun old new lit begun = record {
  log = ap (λ (e : Engine). e.log.items) begun.same;
  begins = ap (λ (e : Engine). e.begins) begun.same;
  learned = ap (λ (e : Engine). e.learned) begun.same;
  variables = ap (λ (s : SolverForm). length s.values) begun.solver ∙ length-set old.solver.values lit.variable (Some (added old.solver lit (old.solver.level + 1) None));
}

-- the log is kept from one engine to a third one
pub keeps_on : (old mid new : Engine) → KeepsLog old mid → KeepsLog mid new → KeepsLog old new
keeps_on old mid new first second = record {
  log = second.log ∙ first.log;
  begins = second.begins ∙ first.begins;
  learned = second.learned ∙ first.learned;
  variables = second.variables ∙ first.variables;
}

pub keeps_same : (old new : Engine) → new ≡ old → KeepsLog old new
keeps_same old new same = record {
  log = ap (λ (e : Engine). e.log.items) same;
  begins = ap (λ (e : Engine). e.begins) same;
  learned = ap (λ (e : Engine). e.learned) same;
  variables = ap (λ (e : Engine). length e.solver.values) same;
}

-- an engine that looks at another assumption next keeps its log
pub keeps_moved : (old new : Engine) → MovesNext old new → KeepsLog old new
keeps_moved old new moves = record {
  log = ap (λ (e : Engine). e.log.items) moves;
  begins = ap (λ (e : Engine). e.begins) moves;
  learned = ap (λ (e : Engine). e.learned) moves;
  variables = ap (λ (e : Engine). length e.solver.values) moves;
}

-- and it is settled where the other was
pub settled_moved : (old new : Engine) → MovesNext old new → IsSettled old → IsSettled new
settled_moved old new moves settled = subst (λ (e : Engine). IsSettled e) (sym moves) (record { closed = settled.closed; all = settled.all })

-- what holds anyway holds on an error, and where there is none
pub on_any : {T E P : Type 0} (r : Result T E) → P → OnErr r P
on_any (Ok x) p = tt
on_any (Err e) p = p

pub ok_any : {T E P : Type 0} (r : Result T E) → P → OnOk r P
ok_any (Ok x) p = p
ok_any (Err e) p = tt

-- what was learned after a backjump was learned at the end of the log before it
pub learns_on : (old mid back new : Engine) (level : ℕ) → mid ≡ old → IsBackAt mid back level → LearnsOne back new → LearnsOne old new
learns_on old mid back new level same went one = record {
  entry = one.entry;
  log = one.log ∙ ap (λ (es : List LogEntry). es ++ one.entry ∷ []) (went.keeps.log ∙ ap (λ (e : Engine). e.log.items) same);
  begins = one.begins ∙ (went.keeps.begins ∙ ap (λ (e : Engine). e.begins) same);
  learned = one.learned ∙ (went.keeps.learned ∙ ap (λ (e : Engine). e.learned) same);
  order = one.order ∙ ap (raised one.entry.step.clause) (went.solver.order ∙ ap (λ (e : Engine). e.solver.order) same);
}

-- what may be learned at the end of a log may be so after a backjump
pub lesson_back : (problem : Problem) (query : Query) (mid back : Engine) (step : Step) → KeepsLog mid back → IsLesson problem query mid.log.items mid.begins step → IsLesson problem query back.log.items back.begins step
lesson_back problem query mid back step keeps lesson =
    subst (λ (n : ℕ). IsLesson problem query back.log.items n step) (sym keeps.begins) (subst (λ (es : List LogEntry). IsLesson problem query es mid.begins step) (sym keeps.log) lesson)

-- where all variables in use are assigned, so are those of the problem and the query
pub all_assigned : (problem : Problem) (query : Query) (old new : Engine) → IsTurning problem query old → new ≡ old → IsFull old.solver → IsAllAssigned (length (all_kinds problem query)) new.solver
all_assigned problem query old new turning same full =
    subst (λ (e : Engine). IsAllAssigned (length (all_kinds problem query)) e.solver) (sym same) (λ v below. full v (omega (arith, below, turning.used)))

-- an assumed literal is of a variable of the problem or the query
pub named_assumed : (problem : Problem) (query : Query) (engine : Engine) (lit : Lit) → IsTurning problem query engine → Contains query.assumed lit → lit.variable < length (all_kinds problem query)
named_assumed problem query engine lit turning is =
    let below : lit.variable < length problem.kinds + length query.locals = All-contains (λ (l : Lit). l.variable < length problem.kinds + length query.locals) query.assumed lit turning.whole.asked.assumed is in
    omega (arith, below, length-append problem.kinds query.locals)

pub named_within : (problem : Problem) (query : Query) (engine : Engine) (lit : Lit) → IsTurning problem query engine → Contains query.assumed lit → lit.variable < length engine.solver.values
named_within problem query engine lit turning is = omega (arith, named_assumed problem query engine lit turning is, turning.variables)
