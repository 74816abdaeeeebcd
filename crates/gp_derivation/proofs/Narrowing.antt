-- The entries on which a step rests, as far as they leave room.
use Rattle.std.proofs.Common.{◌≡◌, ℕ, suc, ◌+◌, ◌<◌, ◌≤◌, ◌↔◌, ◌⊎◌, inl, inr, Bool, true, false, IsTrue, Some, List, [], ◌∷◌, ◌++◌, length, Contains, refl, sym, ◌∙◌, subst, ap, append_assoc, arith, All, get_or}
use Rattle.std.specs.List.{slice_get}
use Rattle.std.specs.Prelude.{AllPairs, IsPermutation}
use Rattle.std.proofs.lemmas.List.{map-append}
use Rattle.std.proofs.lemmas.List.Elements.{All-contains, Contains-push_cases}
use Rattle.gp_clause.specs.declared.lit.Lit.{Lit}
use Rattle.gp_clause.specs.declared.problem.Problem.{Problem}
use Rattle.gp_certificate.specs.declared.certificate.Certificate.{Certificate}
use Rattle.gp_derivation.specs.declared.log.LogEntry.{LogEntry}
use Rattle.gp_derivation.specs.declared.log.Origin.{Origin}
use Rattle.gp_derivation.specs.declared.log.Origin.TheVariants.{Learned, Taken}
use Rattle.gp_derivation.specs.declared.room.Room.{Room}
use Rattle.gp_certificate.specs.declared.step.Step.{Step}
use Rattle.gp_certificate.specs.Certificate.{clauses_of}
use Rattle.gp_derivation.specs.Cones.{IsCone, cone_step, steps_given, kept_steps, cone_steps}
use Rattle.gp_derivation.specs.Numbering.{AllNameEarlier, CanBeNumbered, steps_before, number_of, moved}
use Rattle.gp_derivation.specs.Reach.{IsReached, rests_on}
use Rattle.gp_derivation.specs.Reach.IsReached.{direct, through}
use Rattle.gp_derivation.specs.Room.{HasNoSmallCone, HasPlace, HasSmallCone, Leaves, clauses_by, whole_room}
use Rattle.gp_derivation.proofs.Coning.{clauses_moved}
use Rattle.gp_derivation.proofs.Descending.{IsDescended, IsQueued, descended_none, descended_more, descended_all, rests_earlier, told_in_order, below_last, last_queued}
use Rattle.gp_derivation.proofs.Drafts.{cone_gap}
use Rattle.gp_derivation.proofs.Rooms.{leaves_before, place_before, place_last, small_place, place_small}
use Rattle.std.specs.Ordering.{nat_cmp}
use Rattle.std.specs.declared.cmp.Ordering.TheVariants.{Less}
use Rattle.std.proofs.lemmas.Option.{slice_get_read}

-- a test tells on which entries of a log a step rests
abbrev pub TellsReached : Problem → List LogEntry → Step → (ℕ → Bool) → Type 0
TellsReached problem log last kept = (place : ℕ) → IsTrue (kept place) ↔ IsReached (length problem.clauses) log last.hints place

-- the clauses of the steps that the kept ones among the first entries of a log give
abbrev pub cone_clauses : Problem → List LogEntry → (ℕ → Bool) → ℕ → List (List Lit)
cone_clauses problem log kept place = clauses_of (cone_steps (length problem.clauses) kept log place)

queued_alike : (bases other : ℕ) (hints named before after : List ℕ) → bases ≡ other → hints ≡ named → IsQueued bases hints before after → IsQueued other named before after
queued_alike bases other hints named before after bases_is hints_is queued = subst (λ (b : ℕ). IsQueued b named before after) bases_is (subst (λ (hs : List ℕ). IsQueued bases hs before after) hints_is queued)

-- the entries on which a step rests were visited down to a place, and the clauses of the cone from there on leave room
pub record IsNarrowed (problem : Problem) (log : List LogEntry) (last : Step) (bound : ℕ) (places todo : List ℕ) (room : Room) : Type 0 where
  pub descended : IsDescended (length problem.clauses) log last.hints bound places todo
  pub seen : List (List Lit)
  pub leaves : Leaves (length problem.kinds) whole_room seen room
  pub cone : (kept : ℕ → Bool) → TellsReached problem log last kept → cone_clauses problem log kept (length log) ++ last.clause ∷ [] ≡ cone_clauses problem log kept bound ++ seen

-- at first what the step names is queued
pub narrowed_none : (problem : Problem) (log : List LogEntry) (last : Step) (bases : ℕ) (hints before places todo : List ℕ) (room : Room) → bases ≡ length problem.clauses → hints ≡ last.hints → before ≡ [] → places ≡ []
    → CanBeNumbered (length problem.clauses) log last → Leaves (length problem.kinds) whole_room (last.clause ∷ []) room → IsQueued bases hints before todo → IsNarrowed problem log last (length log) places todo room
narrowed_none problem log last bases hints before places todo room bases_is hints_is empty none can leaves queued = record {
  descended = subst (λ (ps : List ℕ). IsDescended (length problem.clauses) log last.hints (length log) ps todo) (sym none)
      (descended_none (length problem.clauses) log last.hints before todo empty can.hints (queued_alike bases (length problem.clauses) hints last.hints before todo bases_is hints_is queued));
  seen = last.clause ∷ [];
  leaves = leaves;
  cone = λ kept tells. refl;
}

-- what a step rests on was visited, or stands at the last place that is queued or before it
visited_above : (bases : ℕ) (log : List LogEntry) (hints : List ℕ) (bound : ℕ) (places todo : List ℕ) (top : ℕ) → AllNameEarlier bases log
    → IsDescended bases log hints bound places todo → ((place : ℕ) → Contains todo place → place ≤ top) → (place : ℕ) → IsReached bases log hints place → Contains places place ⊎ (place ≤ top)
visited_above bases log hints bound places todo top names old least place (direct p by) = elim (old.named p by) [
  | inl visited ↦ inl visited
  | inr waiting ↦ inr (least p waiting)
]
visited_above bases log hints bound places todo top names old least place (through p other entry reached got by) = elim (visited_above bases log hints bound places todo top names old least other reached) [
  | inl visited ↦ elim (old.done other entry visited got p by) [
    | inl earlier ↦ inl earlier
    | inr waiting ↦ inr (least p waiting)
  ]
  | inr before ↦
      let less : bases + p < bases + other = All-contains (λ h. h < bases + other) (rests_on entry.step entry.origin) (bases + p) (rests_earlier bases other entry.step entry.origin (names other entry got)) by in
      inr (omega (arith, less, before))
]

-- an entry gives steps with the clauses that it stands for
clauses_given : (bases : ℕ) (number : ℕ → ℕ) (before : ℕ) (step : Step) (origin : Origin) → clauses_of (steps_given bases number before step origin) ≡ clauses_by step origin
clauses_given bases number before step Learned = refl
clauses_given bases number before step (Taken sender certificate) = clauses_moved (moved bases before) certificate.value.steps

-- the last place that is queued is the next one to visit, and the rest stays queued
pub record IsNextPlace (problem : Problem) (log : List LogEntry) (last : Step) (todo rest : List ℕ) (place : ℕ) (entry : LogEntry) : Type 0 where
  pub can : CanBeNumbered (length problem.clauses) log last
  pub got : slice_get log place ≡ Some entry
  pub parts : todo ≡ rest ++ place ∷ []
  pub below : (q : ℕ) → Contains rest q → q < place

-- so it is found at the end of the queue
pub next_place : (problem : Problem) (log : List LogEntry) (last : Step) (todo rest : List ℕ) (place : ℕ) (entry : LogEntry) (bound : ℕ) → CanBeNumbered (length problem.clauses) log last
    → todo ≡ rest ++ place ∷ [] → All (λ q. nat_cmp q place ≡ Less) rest → ((q : ℕ) → Contains todo q → q < bound) → bound ≤ length log → entry ≡ get_or log place entry
    → IsNextPlace problem log last todo rest place entry
next_place problem log last todo rest place entry bound can parts all below within is = record {
  can = can;
  got = slice_get_read log (length log) place entry refl (omega (arith, below place (last_queued todo rest place parts), within)) is;
  parts = parts;
  below = below_last rest place all;
}

waits : (problem : Problem) (log : List LogEntry) (last : Step) (todo rest : List ℕ) (place : ℕ) (entry : LogEntry) → IsNextPlace problem log last todo rest place entry → Contains todo place
waits problem log last todo rest place entry next = last_queued todo rest place next.parts

least : (problem : Problem) (log : List LogEntry) (last : Step) (todo rest : List ℕ) (place : ℕ) (entry : LogEntry) → IsNextPlace problem log last todo rest place entry → (q : ℕ) → Contains todo q → q ≤ place
least problem log last todo rest place entry next q is = elim (Contains-push_cases rest place q (subst (λ (xs : List ℕ). Contains xs q) next.parts is)) [
  | inl earlier ↦ omega (arith, next.below q earlier)
  | inr same ↦ omega (arith, same)
]

-- down to that place the cone has the clauses of its entry besides
next_clauses : (problem : Problem) (log : List LogEntry) (last : Step) (bound : ℕ) (places todo rest : List ℕ) (room : Room) (place : ℕ) (entry : LogEntry) → IsNextPlace problem log last todo rest place entry
    → (narrowed : IsNarrowed problem log last bound places todo room) → (kept : ℕ → Bool) → TellsReached problem log last kept
    → cone_clauses problem log kept (length log) ++ last.clause ∷ [] ≡ cone_clauses problem log kept place ++ (clauses_by entry.step entry.origin ++ narrowed.seen)
next_clauses problem log last bound places todo rest room place entry next narrowed kept tells =
    narrowed.cone kept tells ∙ ap (λ (cs : List (List Lit)). cs ++ narrowed.seen) (ap clauses_of gap ∙ more) ∙ append_assoc (cone_clauses problem log kept place) (clauses_by entry.step entry.origin) narrowed.seen
  where
    bases : ℕ
    bases = length problem.clauses

    less : place < bound
    less = narrowed.descended.below place (waits problem log last todo rest place entry next)

    none : (q : ℕ) → suc place ≤ q → q < bound → kept q ≡ false
    none q past before = at (kept q) refl
      where
        at : (b : Bool) → kept q ≡ b → kept q ≡ false
        at false is = is
        at true is = elim (visited_above bases log last.hints bound places todo place next.can.entries narrowed.descended (least problem log last todo rest place entry next) q ((tells q).0 is)) [
          | inl visited ↦ absurd (omega (arith, narrowed.descended.above q visited, before))
          | inr early ↦ absurd (omega (arith, early, past))
        ]

    gap : cone_steps bases kept log bound ≡ cone_steps bases kept log (suc place)
    gap = cone_gap bases kept log (suc place) bound (omega (arith, less)) none

    keeps : kept place ≡ true
    keeps = (tells place).1 (narrowed.descended.sound place (inr (waits problem log last todo rest place entry next)))

    piece : kept_steps bases (number_of bases kept log) (steps_before kept log place) (kept place) (slice_get log place) ≡ steps_given bases (number_of bases kept log) (steps_before kept log place) entry.step entry.origin
    piece = ap (λ (b : Bool). kept_steps bases (number_of bases kept log) (steps_before kept log place) b (slice_get log place)) keeps ∙ ap (kept_steps bases (number_of bases kept log) (steps_before kept log place) true) next.got

    more : cone_clauses problem log kept (suc place) ≡ cone_clauses problem log kept place ++ clauses_by entry.step entry.origin
    more = map-append (λ (s : Step). s.clause) (cone_steps bases kept log place) (kept_steps bases (number_of bases kept log) (steps_before kept log place) (kept place) (slice_get log place))
        ∙ ap (λ (cs : List (List Lit)). cone_clauses problem log kept place ++ cs) (ap clauses_of piece ∙ clauses_given bases (number_of bases kept log) (steps_before kept log place) entry.step entry.origin)

-- the next place is visited
pub narrowed_more : (problem : Problem) (log : List LogEntry) (last : Step) (bound : ℕ) (places todo rest : List ℕ) (room : Room) (place : ℕ) (entry : LogEntry) (n bases : ℕ) (hints visited after : List ℕ) (left : Room)
    → n ≡ length problem.kinds → bases ≡ length problem.clauses → hints ≡ rests_on entry.step entry.origin → visited ≡ places ++ place ∷ [] → IsNextPlace problem log last todo rest place entry
    → Leaves n room (clauses_by entry.step entry.origin) left → IsQueued bases hints rest after → IsNarrowed problem log last bound places todo room → IsNarrowed problem log last place visited after left
narrowed_more problem log last bound places todo rest room place entry n bases hints visited after left n_is bases_is hints_is visited_is next leaves queued narrowed = record {
  descended = subst (λ (ps : List ℕ). IsDescended (length problem.clauses) log last.hints place ps after) (sym visited_is)
      (descended_more (length problem.clauses) log last.hints bound places todo rest after place entry next.got (next.can.entries place entry next.got) next.parts next.below
      (queued_alike bases (length problem.clauses) hints (rests_on entry.step entry.origin) rest after bases_is hints_is queued) narrowed.descended);
  seen = clauses_by entry.step entry.origin ++ narrowed.seen;
  leaves = leaves_before (length problem.kinds) whole_room room left narrowed.seen (clauses_by entry.step entry.origin) narrowed.leaves (subst (λ (m : ℕ). Leaves m room (clauses_by entry.step entry.origin) left) n_is leaves);
  cone = next_clauses problem log last bound places todo rest room place entry next narrowed;
}

-- the clauses of a cone
cone_has : (problem : Problem) (log : List LogEntry) (last : Step) (certificate : Certificate) → (cone : IsCone (length problem.clauses) log last certificate)
    → clauses_of certificate.steps ≡ cone_clauses problem log cone.kept (length log) ++ last.clause ∷ []
cone_has problem log last certificate cone =
    ap clauses_of cone.steps ∙ map-append (λ (s : Step). s.clause) (cone_steps (length problem.clauses) cone.kept log (length log)) (cone_step (length problem.clauses) (number_of (length problem.clauses) cone.kept log) last ∷ [])

-- where there is no place for the step itself, no cone of it is small
pub none_at_once : (problem : Problem) (log : List LogEntry) (last : Step) (n : ℕ) (room : Room) → n ≡ length problem.kinds → room ≡ whole_room → (HasPlace n room (last.clause ∷ []) → ⊥) → HasNoSmallCone problem log last
none_at_once problem log last n room n_is room_is full = λ certificate cone small.
    let P : List (List Lit) → Type 0 = HasPlace (length problem.kinds) whole_room in
    let place : HasPlace (length problem.kinds) whole_room (last.clause ∷ []) =
    place_last (length problem.kinds) whole_room (cone_clauses problem log cone.kept (length log)) (last.clause ∷ []) (subst P (cone_has problem log last certificate cone) (small_place problem certificate small)) in
    full (subst (λ (m : ℕ). HasPlace m room (last.clause ∷ [])) (sym n_is) (subst (λ (r : Room). HasPlace (length problem.kinds) r (last.clause ∷ [])) (sym room_is) place))

-- where there is no place for the next entry, no cone is small
pub none_from_here : (problem : Problem) (log : List LogEntry) (last : Step) (bound : ℕ) (places todo rest : List ℕ) (room : Room) (place : ℕ) (entry : LogEntry) (n : ℕ) → n ≡ length problem.kinds → IsNextPlace problem log last todo rest place entry
    → IsNarrowed problem log last bound places todo room → (HasPlace n room (clauses_by entry.step entry.origin) → ⊥) → HasNoSmallCone problem log last
none_from_here problem log last bound places todo rest room place entry n n_is next narrowed full = λ certificate cone small.
    let P : List (List Lit) → Type 0 = HasPlace (length problem.kinds) whole_room in
    let has : HasPlace (length problem.kinds) room (clauses_by entry.step entry.origin) =
    place_before (length problem.kinds) whole_room room (cone_clauses problem log cone.kept place) (clauses_by entry.step entry.origin) narrowed.seen narrowed.leaves
    (subst P (cone_has problem log last certificate cone ∙ next_clauses problem log last bound places todo rest room place entry next narrowed cone.kept cone.reached) (small_place problem certificate small)) in
    full (subst (λ (m : ℕ). HasPlace m room (clauses_by entry.step entry.origin)) (sym n_is) has)

-- where nothing is queued, what was seen is the cone, and it is small
pub narrowed_all : (problem : Problem) (log : List LogEntry) (last : Step) (bound : ℕ) (places todo turned : List ℕ) (room : Room) → todo ≡ [] → IsNarrowed problem log last bound places todo room
    → AllPairs (λ (a b : ℕ). a < b) turned → IsPermutation places turned → HasSmallCone problem log last turned
narrowed_all problem log last bound places todo turned room empty narrowed rising same = record {
  reached = record {
    rising = rising;
    reached = told_in_order (IsReached bases log last.hints) places turned same (λ place. (λ visited. narrowed.descended.sound place (inl visited), all place));
  };
  small = λ certificate cone. place_small problem certificate room (subst P (sym (cone_has problem log last certificate cone ∙ narrowed.cone cone.kept cone.reached ∙ rest cone.kept cone.reached)) narrowed.leaves);
}
  where
    bases : ℕ
    bases = length problem.clauses

    P : List (List Lit) → Type 0
    P clauses = Leaves (length problem.kinds) whole_room clauses room

    all : (place : ℕ) → IsReached bases log last.hints place → Contains places place
    all = descended_all bases log last.hints bound places todo empty narrowed.descended

    rest : (kept : ℕ → Bool) → TellsReached problem log last kept → cone_clauses problem log kept bound ++ narrowed.seen ≡ narrowed.seen
    rest kept tells = ap (λ (ss : List Step). clauses_of ss ++ narrowed.seen) (cone_gap bases kept log 0 bound (omega arith) none)
      where
        none : (q : ℕ) → 0 ≤ q → q < bound → kept q ≡ false
        none q past before = at (kept q) refl
          where
            at : (b : Bool) → kept q ≡ b → kept q ≡ false
            at false is = is
            at true is = absurd (omega (arith, narrowed.descended.above q (all q ((tells q).0 is)), before))
