-- What leads to a conflict, and the first unique implication point.
use Rattle.std.proofs.Common.{◌≡◌, refl, sym, ◌∙◌, ap, subst, ℕ, ◌+◌, ◌<◌, ◌≤◌, Bool, true, nat_lt, Some, List, [], ◌∷◌, ◌++◌, length, inl, inr, arith}
use Rattle.std.specs.Prelude.{Contains}
use Rattle.std.proofs.lemmas.Bool.{cases_eq, cases_lt, lt-ltb, ltb-true}
use Rattle.std.proofs.lemmas.List.Elements.{Contains-push, Contains-push_cases, Contains-append_left}
use Rattle.gp_clause.specs.declared.lit.Lit.{Lit}
use Rattle.gp_clause.specs.Lit.{opposite}
use Rattle.gp_sat.specs.declared.analysis.Stop.TheVariants.{FirstPoint}
use Rattle.gp_sat.specs.declared.assigned.Assigned.{Assigned}
use Rattle.gp_sat.specs.State.{SolverForm, assigned, clause_at}
use Rattle.gp_sat.specs.Standing.{Each}
use Rattle.gp_sat.specs.Sound.{IsSound, true_lit}
use Rattle.gp_sat.specs.Learning.{IsBelowLevel, LeadsTo, IsUniquePoint, HasPresentFrom}
use Rattle.gp_sat.specs.Learning.LeadsTo.{in_conflict, in_reason}
use Rattle.gp_sat.specs.Marking.{IsMarked, HasMarked, IsLowest, IsLower, IsLowestOf, GoesOn, Marks}
use Rattle.gp_sat.specs.Walking.{IsWalked, IsStopped, IsSearched}
use Rattle.gp_sat.proofs.Marked.{one_at}
use Rattle.gp_sat.proofs.Visiting.{Stands, before_or_here, walked_down}
use Rattle.gp_base.specs.ListLaws.{nothing_in}

-- one assignment at most is of a variable
one_value : (s : SolverForm) (v : ℕ) (a b : Assigned) → assigned s v ≡ Some a → assigned s v ≡ Some b → a ≡ b
one_value s v a b x y = cc

one_number : (a : Assigned) (n m : ℕ) → a.reason ≡ Some n → a.reason ≡ Some m → n ≡ m
one_number a n m x y = cc

-- what leads through literals from a place on does so from an earlier one
leads_more : (s : SolverForm) (conflict : List Lit) (place low v : ℕ) → low ≤ place → LeadsTo s conflict place v → LeadsTo s conflict low v
leads_more s conflict place low v less (in_conflict v' lit among same) = in_conflict v lit among same
leads_more s conflict place low v less (in_reason v' later a number lit leads is present from reason among same) =
    in_reason v later a number lit (leads_more s conflict place low later less leads) is present (omega (arith, from, less)) reason among same

-- while no literal of the present level is kept, what leads to the conflict is marked
complete : (s : SolverForm) (conflict : List Lit) (place : ℕ) (marks : List Bool) (lits : List Lit) (hints : List ℕ) → IsWalked s FirstPoint place marks lits hints → Each (IsBelowLevel s s.level) lits
    → ((lit : Lit) → Contains conflict lit → IsMarked marks lit.variable) → (v : ℕ) → LeadsTo s conflict place v → IsMarked marks v
complete s conflict place marks lits hints walked low started v (in_conflict v' lit among same) = subst (λ (n : ℕ). IsMarked marks n) same (started lit among)
complete s conflict place marks lits hints walked low started v (in_reason v' later a number lit leads is present from reason among same) =
    elim (walked.handled later a is (complete s conflict place marks lits hints walked low started later leads) from) [
      | inl kept ↦
          let below : IsBelowLevel s s.level (opposite (true_lit later a)) = low (opposite (true_lit later a)) kept in
          absurd (omega (arith, below.2, present, ap (λ (x : Assigned). x.level) (one_value s later a below.0 is below.1)))
      | inr followed ↦ subst (λ (n : ℕ). IsMarked marks n) same
          (followed.marked lit (subst (λ (n : ℕ). Contains (clause_at s.clauses n) lit) (one_number a number followed.number reason followed.reason) among))
    ]

-- the kept literal of the present level was assigned from a place on
kept_from : (s : SolverForm) (place : ℕ) (lits : List Lit) (lit : Lit) (b : Assigned) → Contains lits lit → assigned s lit.variable ≡ Some b → b.level ≡ s.level → IsStopped s FirstPoint place lit → HasPresentFrom s lits place
kept_from s place lits lit b among is present stopped = (lit, b, among, is, present, omega (arith, stopped.from, ap (λ (x : Assigned). x.place) (one_value s lit.variable stopped.value b stopped.is is)))

from_more : (s : SolverForm) (lits : List Lit) (lit : Lit) (place : ℕ) → HasPresentFrom s lits place → HasPresentFrom s (lits ++ lit ∷ []) place
from_more s lits lit place (x, b, among, is, present, from) = (x, b, Contains-append_left lits (lit ∷ []) x among, is, present, from)

from_less : (s : SolverForm) (lits : List Lit) (place low : ℕ) → low ≤ place → HasPresentFrom s lits place → HasPresentFrom s lits low
from_less s lits place low less (x, b, among, is, present, from) = (x, b, among, is, present, omega (arith, from, less))

-- between two places with no marked literal there is no unique implication point, unless one was kept
pub searched_down : (s : SolverForm) (conflict : List Lit) (bound low : ℕ) (marks : List Bool) (lits : List Lit) (hints : List ℕ) → low ≤ bound
    → ((variable : ℕ) (a : Assigned) → assigned s variable ≡ Some a → IsMarked marks variable → a.place < bound → a.place < low)
    → IsWalked s FirstPoint bound marks lits hints → IsSearched s conflict bound marks lits → IsSearched s conflict low marks lits
searched_down s conflict bound low marks lits hints less none walked old = record {
  started = old.started;
  reached = λ w b marked is present. leads_more s conflict bound low w less (old.reached w b marked is present);
  first = λ w b unique from. elim (cases_lt b.place bound) [
    | inl below ↦
        let here : IsWalked s FirstPoint (b.place + 1) marks lits hints = walked_down s FirstPoint bound (b.place + 1) marks lits hints (omega (arith, below))
        (λ v a is marked inside. omega (arith, none v a is marked inside, from)) walked in
        elim (walked.pointing refl) [
          | inl coming ↦ absurd (omega (arith, from, none w b unique.is (complete s conflict (b.place + 1) marks lits hints here coming.1 old.started w unique.leads) below))
          | inr done ↦ from_less s lits bound b.place (omega (arith, below))
              (kept_from s bound lits done.1.lit done.1.present.0 done.1.within done.1.present.1 done.1.present.2 (walked.stopped done.1.lit done.1.within))
        ]
    | inr past ↦ old.first w b unique past
  ];
}

-- a literal that is kept
pub searched_stops : (s : SolverForm) (conflict : List Lit) (place : ℕ) (marks : List Bool) (lits : List Lit) (v : ℕ) (a : Assigned) → IsSound s → Stands s place v a
    → IsSearched s conflict (place + 1) marks lits → IsSearched s conflict place marks (lits ++ opposite (true_lit v a) ∷ [])
searched_stops s conflict place marks lits v a sound stands old = record {
  started = old.started;
  reached = λ w b marked is present. leads_more s conflict (place + 1) place w (omega arith) (old.reached w b marked is present);
  first = λ w b unique from. elim (cases_eq b.place place) [
    | inl here ↦
        let one : (true_lit w b ≡ true_lit v a) × (w ≡ v) × (b ≡ a) = one_at s sound v w a b stands.is unique.is (here ∙ sym stands.there) in
        (opposite (true_lit v a), a, Contains-push lits (opposite (true_lit v a)), stands.is, sym (ap (λ (x : Assigned). x.level) one.2) ∙ unique.present, omega (arith, here, stands.there))
    | inr differ ↦ from_more s lits (opposite (true_lit v a)) b.place (old.first w b unique (omega (arith, from, differ)))
  ];
}

-- a literal whose reason is followed, while another marked one of the present level comes
pub searched_follows : (s : SolverForm) (conflict : List Lit) (place : ℕ) (marks new : List Bool) (lits : List Lit) (v : ℕ) (a : Assigned) (number : ℕ) → IsSound s → Stands s place v a
    → IsMarked marks v → a.reason ≡ Some number → GoesOn s FirstPoint marks a → 0 < s.level → Marks marks new (clause_at s.clauses number)
    → IsSearched s conflict (place + 1) marks lits → IsSearched s conflict place new lits
searched_follows s conflict place marks new lits v a number sound stands marked reason goes above more old = record {
  started = λ lit among. more.kept lit.variable (old.started lit among);
  reached = λ w b is_marked is present. elim (more.only w is_marked) [
    | inl was ↦ leads_more s conflict (place + 1) place w (omega arith) (old.reached w b was is present)
    | inr there ↦
        let level : a.level ≡ s.level = level_of w b is present there.0 there.1 there.2 in
        in_reason w v a number there.0 (leads_more s conflict (place + 1) place v (omega arith) (old.reached v a marked stands.is level)) stands.is level (omega (arith, stands.there)) reason there.1 there.2
  ];
  first = λ w b unique from. elim (cases_eq b.place place) [
    | inl here ↦
        let one : (true_lit w b ≡ true_lit v a) × (w ≡ v) × (b ≡ a) = one_at s sound v w a b stands.is unique.is (here ∙ sym stands.there) in
        absurd (elim goes [
          | inl bottom ↦ omega (arith, bottom, above, unique.present, ap (λ (x : Assigned). x.level) one.2)
          | inr has ↦ other has w b unique here one.1 one.2
        ])
    | inr differ ↦ old.first w b unique (omega (arith, from, differ))
  ];
}
  where
    level_of : (w : ℕ) (b : Assigned) → assigned s w ≡ Some b → b.level ≡ s.level → (lit : Lit) → Contains (clause_at s.clauses number) lit → lit.variable ≡ w → a.level ≡ s.level
    level_of w b is present lit among same = elim (before_or_here s v a number sound stands.is reason lit among) [
      | inl here ↦ ap (λ (x : Assigned). x.level) (one_value s v a b stands.is (ap (assigned s) (sym here ∙ same) ∙ is)) ∙ present
      | inr before ↦
          let its : before.0 ≡ b = one_value s w before.0 b (ap (assigned s) (sym same) ∙ before.1) is in
          omega (arith, sound.ordered.rising lit.variable v before.0 a before.1 stands.is before.2, ap (λ (x : Assigned). x.level) its, present, (sound.ordered.present v a stands.is).0)
    ]

    other : HasMarked s marks a.place → (w : ℕ) (b : Assigned) → IsUniquePoint s conflict w b → b.place ≡ place → w ≡ v → b ≡ a → ⊥
    other (at, below, p) w b unique here same equal =
        let leads : LeadsTo s conflict (b.place + 1) p.variable = subst (λ (n : ℕ). LeadsTo s conflict (n + 1) p.variable) (sym here) (old.reached p.variable p.value p.marked p.is p.present) in
        let mine : p.variable ≡ v = unique.alone p.variable p.value p.is p.present (omega (arith, p.there, below, stands.there, here)) leads ∙ same in
        let its : p.value ≡ a = one_value s v p.value a (ap (assigned s) (sym mine) ∙ p.is) stands.is in
        omega (arith, ap (λ (x : Assigned). x.place) its, p.there, below)

-- the search begins at the end of the trail
pub searched_start : (s : SolverForm) (conflict : List Lit) (old marks : List Bool) → IsSound s → ((v : ℕ) → IsMarked old v → ⊥) → Marks old marks conflict → IsSearched s conflict (length s.trail) marks []
searched_start s conflict old marks sound blank started = record {
  started = started.all;
  reached = λ v a marked is present. elim (started.only v marked) [
    | inl was ↦ absurd (blank v was)
    | inr there ↦ in_conflict v there.0 there.1 there.2
  ];
  first = λ v a unique from. absurd (omega (arith, from, sound.ordered.within v a unique.is));
}

-- the lowest place tells whether a marked literal of the present level stands before a place
pub lowest_tells : (s : SolverForm) (marks : List Bool) (lowest place : ℕ) → place ≤ length s.trail → IsLowest s marks lowest → (nat_lt lowest place ≡ true → HasMarked s marks place) × (HasMarked s marks place → nat_lt lowest place ≡ true)
lowest_tells s marks lowest place within old = (
  λ less. elim old.reached [
    | inl none ↦ absurd (omega (arith, ltb-true lowest place less, none, within))
    | inr there ↦ (lowest, ltb-true lowest place less, there)
  ],
  λ (at, below, p). lt-ltb lowest place (omega (arith, old.least p.variable p.value p.is p.marked p.present, p.there, below)),
)

pub lowest_none : (s : SolverForm) (lowest : ℕ) → IsLowestOf s [] lowest lowest
lowest_none s lowest = record { below = omega arith; least_of = λ lit a among. absurd (nothing_in lit among); reached = inl refl }

pub lowest_more : (s : SolverForm) (lits : List Lit) (lit : Lit) (lowest mid least : ℕ) → IsLowestOf s lits lowest mid → IsLower s lit mid least → IsLowestOf s (lits ++ lit ∷ []) lowest least
lowest_more s lits lit lowest mid least old lower = record {
  below = omega (arith, old.below, lower.below);
  least_of = λ other a among is present. elim (Contains-push_cases lits lit other among) [
    | inl before ↦ omega (arith, old.least_of other a before is present, lower.below)
    | inr here ↦ lower.least_of a (ap (λ (l : Lit). assigned s l.variable) here ∙ is) present
  ];
  reached = elim lower.reached [
    | inl same ↦ elim old.reached [
      | inl first ↦ inl (same ∙ first)
      | inr there ↦ inr (there.0, there.1, Contains-append_left lits (lit ∷ []) there.0 there.2, there.3, there.4, there.5 ∙ sym same)
    ]
    | inr there ↦ inr (lit, there.0, Contains-push lits lit, there.1, there.2, there.3)
  ];
}

-- the lowest place of what is marked then
pub lowest_marked : (s : SolverForm) (marks new : List Bool) (lits : List Lit) (lowest least : ℕ) → Marks marks new lits → IsLowest s marks lowest → IsLowestOf s lits lowest least → IsLowest s new least
lowest_marked s marks new lits lowest least more old of_lits = record {
  least = λ v a is marked present. elim (more.only v marked) [
    | inl was ↦ omega (arith, old.least v a is was present, of_lits.below)
    | inr there ↦ of_lits.least_of there.0 a there.1 (ap (assigned s) there.2 ∙ is) present
  ];
  reached = elim of_lits.reached [
    | inl same ↦ elim old.reached [
      | inl none ↦ inl (same ∙ none)
      | inr there ↦ inr (record { variable = there.variable; value = there.value; is = there.is; there = there.there ∙ sym same; marked = more.kept there.variable there.marked; present = there.present })
    ]
    | inr there ↦ inr (record { variable = there.0.variable; value = there.1; is = there.3; there = there.5; marked = more.all there.0 there.2; present = there.4 })
  ];
}

-- the lowest place of what is marked at first
pub lowest_start : (s : SolverForm) (marks new : List Bool) (lits : List Lit) (size least : ℕ) → size ≡ length s.trail → ((v : ℕ) → IsMarked marks v → ⊥) → Marks marks new lits → IsLowestOf s lits size least → IsLowest s new least
lowest_start s marks new lits size least is blank more of_lits = lowest_marked s marks new lits size least more (record { least = λ v a there marked. absurd (blank v marked); reached = inl is }) of_lits
