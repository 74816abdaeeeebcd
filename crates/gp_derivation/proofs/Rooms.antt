-- What steps leave of a room.
use Rattle.std.proofs.Common.{◌≡◌, ℕ, ◌+◌, ◌-◌, ◌<◌, ◌≤◌, List, [], ◌∷◌, ◌++◌, length, take, drop, get_or, All, refl, sym, subst, ◌∙◌, ap, arith}
use Rattle.std.specs.List.{sum_by}
use Rattle.std.proofs.lemmas.List.{length-append, length-map, map-append, take_more, take-append-drop}
use Rattle.std.proofs.lemmas.List.Elements.{All-nil, All-append, All-weaker, All-contains, All-contains_itself, Contains-append_left, Contains-append_right}
use Rattle.std.proofs.lemmas.List.Sums.{sum_by-cons, sum_by-append}
use Rattle.std.specs.Prelude.{Contains}
use Rattle.gp_clause.specs.declared.lit.Lit.{Lit}
use Rattle.gp_clause.specs.declared.problem.Problem.{Problem}
use Rattle.gp_clause.specs.Clause.{NamesBelow}
use Rattle.gp_certificate.specs.declared.certificate.Certificate.{Certificate}
use Rattle.gp_derivation.specs.declared.room.Room.{Room}
use Rattle.gp_certificate.specs.declared.step.Step.{Step}
use Rattle.gp_certificate.specs.Certificate.{clauses_of}
use Rattle.gp_derivation.specs.Fit.{IsSmall, literals_in}
use Rattle.gp_derivation.specs.Room.{HasPlace, Leaves, whole_room}

-- how many literals some clauses have
abbrev pub literals : List (List Lit) → ℕ
literals clauses = sum_by (λ (clause : List Lit). length clause) clauses

literals_append : (xs ys : List (List Lit)) → literals (xs ++ ys) ≡ literals xs + literals ys
literals_append xs ys = sum_by-append (λ (clause : List Lit). length clause) xs ys

literals_of : (steps : List Step) → literals_in steps ≡ literals (clauses_of steps)
literals_of [] = refl
literals_of (step ∷ steps) =
    omega (arith, literals_of steps, sum_by-cons (λ (s : Step). length s.clause) step steps, sum_by-cons (λ (clause : List Lit). length clause) step.clause (clauses_of steps))

-- what holds of two lists, one after the other, holds of each
pub all_left : {X : Type 0} (P : X → Type 0) (xs ys : List X) → All P (xs ++ ys) → All P xs
all_left P xs ys all = All-weaker (Contains xs) P (λ x is. All-contains P (xs ++ ys) x all (Contains-append_left xs ys x is)) xs (All-contains_itself xs)

pub all_right : {X : Type 0} (P : X → Type 0) (xs ys : List X) → All P (xs ++ ys) → All P ys
all_right P xs ys all = All-weaker (Contains ys) P (λ x is. All-contains P (xs ++ ys) x all (Contains-append_right xs ys x is)) ys (All-contains_itself ys)

pub leaves_none : (n : ℕ) (room : Room) → Leaves n room [] room
leaves_none n room = record { steps = omega arith; literals = omega arith; below = All-nil (NamesBelow n) }

-- what is left after some clauses and more
pub leaves_more : (n : ℕ) (room mid left : Room) (done more : List (List Lit)) → Leaves n room done mid → Leaves n mid more left → Leaves n room (done ++ more) left
leaves_more n room mid left done more first next = record {
  steps = omega (arith, first.steps, next.steps, length-append done more);
  literals = omega (arith, first.literals, next.literals, literals_append done more);
  below = All-append (NamesBelow n) done more first.below next.below;
}

pub leaves_before : (n : ℕ) (room mid left : Room) (done more : List (List Lit)) → Leaves n room done mid → Leaves n mid more left → Leaves n room (more ++ done) left
leaves_before n room mid left done more first next = record {
  steps = omega (arith, first.steps, next.steps, length-append more done);
  literals = omega (arith, first.literals, next.literals, literals_append more done);
  below = All-append (NamesBelow n) more done next.below first.below;
}

-- clauses that have place beside others and some that are done have place in what these leave
place_left : (n : ℕ) (room mid : Room) (done more all : List (List Lit)) → Leaves n room done mid → HasPlace n room all → length done + length more ≤ length all → literals done + literals more ≤ literals all
    → All (NamesBelow n) more → HasPlace n mid more
place_left n room mid done more all first (left, whole) steps lits below = (
  record { steps = mid.steps - length more; literals = mid.literals - literals more },
  record { steps = omega (arith, steps, first.steps, whole.steps); literals = omega (arith, lits, first.literals, whole.literals); below = below },
)

pub place_next : (n : ℕ) (room mid : Room) (done more rest : List (List Lit)) → Leaves n room done mid → HasPlace n room ((done ++ more) ++ rest) → HasPlace n mid more
place_next n room mid done more rest first whole =
    place_left n room mid done more ((done ++ more) ++ rest) first whole (omega (arith, length-append (done ++ more) rest, length-append done more))
    (omega (arith, literals_append (done ++ more) rest, literals_append done more)) (all_right (NamesBelow n) done more (all_left (NamesBelow n) (done ++ more) rest (whole.1).below))

pub place_before : (n : ℕ) (room mid : Room) (front more done : List (List Lit)) → Leaves n room done mid → HasPlace n room (front ++ (more ++ done)) → HasPlace n mid more
place_before n room mid front more done first whole =
    place_left n room mid done more (front ++ (more ++ done)) first whole (omega (arith, length-append front (more ++ done), length-append more done))
    (omega (arith, literals_append front (more ++ done), literals_append more done)) (all_left (NamesBelow n) more done (all_right (NamesBelow n) front (more ++ done) (whole.1).below))

-- what has place at the end has place
pub place_last : (n : ℕ) (room : Room) (front more : List (List Lit)) → HasPlace n room (front ++ more) → HasPlace n room more
place_last n room front more whole =
    place_left n room room [] more (front ++ more) (leaves_none n room) whole (omega (arith, length-append front more)) (omega (arith, literals_append front more)) (all_right (NamesBelow n) front more (whole.1).below)

-- a certificate is small where a whole room has place for its clauses
pub small_place : (problem : Problem) (certificate : Certificate) → IsSmall problem certificate → HasPlace (length problem.kinds) whole_room (clauses_of certificate.steps)
small_place problem certificate small = (
  record { steps = 64 - length certificate.steps; literals = 2048 - literals_in certificate.steps },
  record {
    steps = omega (arith, small.steps, length-map certificate.steps (λ (step : Step). step.clause));
    literals = omega (arith, small.literals, literals_of certificate.steps);
    below = small.below;
  },
)

pub place_small : (problem : Problem) (certificate : Certificate) (left : Room) → Leaves (length problem.kinds) whole_room (clauses_of certificate.steps) left → IsSmall problem certificate
place_small problem certificate left leaves = record {
  steps = omega (arith, leaves.steps, length-map certificate.steps (λ (step : Step). step.clause));
  literals = omega (arith, leaves.literals, literals_of certificate.steps);
  below = leaves.below;
}

-- where a whole room has no place for its steps, a certificate is not small
pub full_unfit : (problem : Problem) (certificate : Certificate) (n : ℕ) (room : Room) (steps : List Step) → n ≡ length problem.kinds → room ≡ whole_room → steps ≡ certificate.steps → (HasPlace n room (clauses_of steps) → ⊥)
    → IsSmall problem certificate → ⊥
full_unfit problem certificate n room steps n_is room_is steps_are full small =
    full
    (subst (λ (m : ℕ). HasPlace m room (clauses_of steps)) (sym n_is)
    (subst (λ (r : Room). HasPlace (length problem.kinds) r (clauses_of steps)) (sym room_is)
    (subst (λ (ss : List Step). HasPlace (length problem.kinds) whole_room (clauses_of ss)) (sym steps_are) (small_place problem certificate small))))

-- the clauses of the first steps and of the next one
pub next_clause : (steps : List Step) (i : ℕ) (step : Step) → i < length steps → step ≡ get_or steps i step → clauses_of (take (i + 1) steps) ≡ clauses_of (take i steps) ++ step.clause ∷ []
next_clause steps i step within is =
    ap clauses_of (take_more steps i step within ∙ ap (λ (s : Step). take i steps ++ s ∷ []) (sym is)) ∙ map-append (λ (s : Step). s.clause) (take i steps) (step ∷ [])

pub parted_clauses : (steps : List Step) (i : ℕ) (step : Step) → i < length steps → step ≡ get_or steps i step → clauses_of steps ≡ (clauses_of (take i steps) ++ step.clause ∷ []) ++ clauses_of (drop (i + 1) steps)
parted_clauses steps i step within is =
    ap clauses_of (sym (take-append-drop (i + 1) steps)) ∙ map-append (λ (s : Step). s.clause) (take (i + 1) steps) (drop (i + 1) steps)
    ∙ ap (λ (cs : List (List Lit)). cs ++ clauses_of (drop (i + 1) steps)) (next_clause steps i step within is)
