-- Counts of the literals of a clause that did not fall.
use Rattle.std.proofs.Common.{◌≡◌, ◌≢◌, ℕ, ◌+◌, ◌<◌, ◌≤◌, suc, take, Bool, true, false, not, ◌||◌, cond, None, List, [], ◌∷◌, ◌++◌, length, get_or, All, Any, Contains, ◌⊎◌, inl, inr, refl, ap, sym, ◌∙◌, subst, arith, ◌==◌}
use Rattle.std.proofs.lemmas.Bool.{false≢true, not_from_false}
use Rattle.std.proofs.lemmas.List.{get_or-take, get_or_default, length-take}
use Rattle.std.proofs.lemmas.List.Elements.{All-contains}
use Rattle.std.proofs.lemmas.List.Folds.{Any-from_list_any, list_any-append, list_any_at}
use Rattle.std.proofs.lemmas.List.Sums.{sum_by-cons}
use Rattle.gp_clause.specs.declared.lit.Lit.{Lit}
use Rattle.gp_clause.specs.Clause.{NamesOnce, occurrences}
use Rattle.gp_clause.specs.Closure.{IsTrueIn, IsFalseIn}
use Rattle.gp_clause.specs.Lit.{lit_eq, opposite}
use Rattle.gp_clause.specs.LitLaws.{lit_eq_decides, opposite_twice}
use Rattle.gp_base.specs.CountLaws.{count_all, count_passes, count_two, twice_from_places}
use Rattle.gp_base.specs.SumLaws.{count_cons}
use Rattle.gp_certificate.specs.declared.assignment.Assignment.{Assignment}
use Rattle.gp_certificate.specs.Assignment.{value_of, IsOpen, HasTwo, IsKept}
use Rattle.gp_certificate.specs.Counting.{fell, standing, IsDone}
use Rattle.gp_certificate.specs.Rows.{occurs}
use Rattle.gp_base.specs.ListLaws.{here, there}
use Rattle.gp_certificate.proofs.Standing.{same_or_not, some_clash, open_by_true}

-- a literal fell exactly where its negation is among the fallen ones
pub fell_contains : (fallen : List Lit) (lit : Lit) → fell fallen lit ≡ true → Contains fallen (opposite lit)
fell_contains fallen lit told = at (Any-from_list_any (λ other. lit_eq other (opposite lit)) fallen told)
  where
    at : Any (λ other. lit_eq other (opposite lit) ≡ true) fallen → Contains fallen (opposite lit)
    at (k, other, within, is, same) = let P : Lit → Type 0 = λ l. Contains fallen l in subst P ((lit_eq_decides other (opposite lit)).0 same) (k, within, is)

pub contains_fell : (fallen : List Lit) (lit : Lit) → Contains fallen (opposite lit) → fell fallen lit ≡ true
contains_fell fallen lit (k, within, is) =
    list_any_at (λ other. lit_eq other (opposite lit)) fallen k (opposite lit) within ((lit_eq_decides (get_or fallen k (opposite lit)) (opposite lit)).1 is)

-- one for a literal that did not fall
abbrev spared : List Lit → Lit → ℕ
spared fallen lit = cond (not (fell fallen lit)) 1 0

standing_cons : (fallen : List Lit) (lit : Lit) (clause : List Lit) → standing fallen (lit ∷ clause) ≡ spared fallen lit + standing fallen clause
standing_cons fallen lit clause = count_cons (λ l. not (fell fallen l)) lit clause

two_in_one : (n : ℕ) → 2 ≤ n → n ≤ 1 → ⊥
two_in_one n more less = omega arith

both_ways : (a b : Bool) → (a ≡ true → b ≡ true) → (b ≡ true → a ≡ true) → a ≡ b
both_ways true true there back = refl
both_ways true false there back = sym (there refl)
both_ways false true there back = back refl
both_ways false false there back = refl

flips : (one lit : Lit) → lit_eq one (opposite lit) ≡ lit_eq (opposite one) lit
flips one lit = both_ways (lit_eq one (opposite lit)) (lit_eq (opposite one) lit)
    (λ is. (lit_eq_decides (opposite one) lit).1 (ap opposite ((lit_eq_decides one (opposite lit)).0 is) ∙ opposite_twice lit))
    (λ is. (lit_eq_decides one (opposite lit)).1 (sym (opposite_twice one) ∙ ap opposite ((lit_eq_decides (opposite one) lit).0 is)))

one_exact : (fallen : List Lit) (one lit : Lit) → fell fallen (opposite one) ≡ false → spared fallen lit ≡ spared (fallen ++ one ∷ []) lit + cond (lit_eq (opposite one) lit) 1 0
one_exact fallen one lit apart =
    rw (list_any-append (λ other. lit_eq other (opposite lit)) fallen (one ∷ []))
    (at (fell fallen lit) (lit_eq one (opposite lit)) (lit_eq (opposite one) lit) (flips one lit) (λ is. ap (fell fallen) (sym ((lit_eq_decides (opposite one) lit).0 is)) ∙ apart))
  where
    at : (b c d : Bool) → c ≡ d → (d ≡ true → b ≡ false) → cond {A = ℕ} (not b) 1 0 ≡ cond (not (b || (c || false))) 1 0 + cond d 1 0
    at true true true same none = absurd (false≢true (sym (none refl)))
    at true true false same none = absurd (false≢true (sym same))
    at true false true same none = absurd (false≢true same)
    at true false false same none = omega arith
    at false true true same none = omega arith
    at false true false same none = absurd (false≢true (sym same))
    at false false true same none = absurd (false≢true same)
    at false false false same none = omega arith

-- where one more falls, the count falls by as often as its negation stands there
pub lowered : (fallen : List Lit) (one : Lit) (clause : List Lit) → fell fallen (opposite one) ≡ false → standing fallen clause ≡ standing (fallen ++ one ∷ []) clause + occurs (opposite one) clause
lowered fallen one [] apart = refl
lowered fallen one (lit ∷ clause) apart =
    let first = standing_cons fallen lit clause in
    let second = standing_cons (fallen ++ one ∷ []) lit clause in
    let third = count_cons (λ other. lit_eq (opposite one) other) lit clause in
    omega (arith, first, second, third, one_exact fallen one lit apart, lowered fallen one clause apart)

-- the literal at a place of a trail did not fall before
pub not_before : (trail : List Lit) (cursor : ℕ) (d : Lit) → NamesOnce trail → cursor < length trail → fell (take cursor trail) (opposite (get_or trail cursor d)) ≡ false
not_before trail cursor d once within = at (fell (take cursor trail) (opposite (get_or trail cursor d))) refl
  where
    at : (b : Bool) → fell (take cursor trail) (opposite (get_or trail cursor d)) ≡ b → fell (take cursor trail) (opposite (get_or trail cursor d)) ≡ false
    at false is = is
    at true is =
        let one : Lit = get_or trail cursor d in
        let has : Contains (take cursor trail) one = subst (λ l. Contains (take cursor trail) l) (opposite_twice one) (fell_contains (take cursor trail) (opposite one) is) in
        let before : has.0 < cursor = omega (arith, has.1, length-take cursor trail) in
        let same : get_or trail has.0 d ≡ one = get_or_default trail has.0 d one (omega (arith, before, within)) ∙ sym (get_or-take cursor trail has.0 one before) ∙ has.2 in
        let twice : 2 ≤ occurrences one.variable trail = twice_from_places (λ (l : Lit). l.variable) trail has.0 cursor d before within (ap (λ (l : Lit). l.variable) same) in
        absurd (two_in_one (occurrences one.variable trail) twice (once one.variable))

-- nothing fell at first
pub all_stand : (clause : List Lit) → standing [] clause ≡ length clause
all_stand clause = count_all (λ lit. not (fell [] lit)) clause (λ lit is. refl)

false_from_not : (b : Bool) → not b ≡ true → b ≡ false
false_from_not true is = absurd (false≢true is)
false_from_not false is = refl

-- where two count, two of different variables stand
pub stand_two : (fallen clause : List Lit) → NamesOnce clause → 2 ≤ standing fallen clause
    → (a b : Lit) × Contains clause a × Contains clause b × (a.variable ≢ b.variable) × (fell fallen a ≡ false) × (fell fallen b ≡ false)
stand_two fallen [] once some = absurd (omega arith)
stand_two fallen (first ∷ clause) once some = at (fell fallen first) refl (λ rest few. stand_two fallen clause rest few)
  where
    rest_once : NamesOnce clause
    rest_once variable =
        let whole : occurrences variable (first ∷ clause) ≡ cond (first.variable == variable) 1 0 + occurrences variable clause = sum_by-cons (λ (l : Lit). cond (l.variable == variable) 1 0) first clause in
        let few : occurrences variable (first ∷ clause) ≤ 1 = once variable in
        omega (arith, whole, few)

    differ : (lit : Lit) → Contains clause lit → first.variable ≢ lit.variable
    differ lit (k, within, is) same =
        let v : ℕ = (get_or clause k lit).variable in
        let equal : first.variable ≡ (get_or clause k lit).variable = same ∙ sym (ap (λ (l : Lit). l.variable) is) in
        let twice : 2 ≤ occurrences v (first ∷ clause) = twice_from_places (λ (l : Lit). l.variable) (first ∷ clause) 0 (suc k) lit (omega arith) (omega arith) equal in
        let few : occurrences v (first ∷ clause) ≤ 1 = once v in
        two_in_one (occurrences v (first ∷ clause)) twice few

    at : (t : Bool) → fell fallen first ≡ t
        → (NamesOnce clause → 2 ≤ standing fallen clause → (a b : Lit) × Contains clause a × Contains clause b × (a.variable ≢ b.variable) × (fell fallen a ≡ false) × (fell fallen b ≡ false))
        → (a b : Lit) × Contains (first ∷ clause) a × Contains (first ∷ clause) b × (a.variable ≢ b.variable) × (fell fallen a ≡ false) × (fell fallen b ≡ false)
    at false is later =
        let one : spared fallen first ≡ 1 = ap (λ b. cond (not b) 1 0) is in
        let rest = count_passes (λ lit. not (fell fallen lit)) clause (omega (arith, standing_cons fallen first clause, one, some)) in
        (first, rest.0, here first clause, there first clause rest.0 rest.1, differ rest.0 rest.1, is, false_from_not (fell fallen rest.0) rest.2)
    at true is later =
        let none : spared fallen first ≡ 0 = ap (λ b. cond (not b) 1 0) is in
        let rest = later rest_once (omega (arith, standing_cons fallen first clause, none, some)) in
        (rest.0, rest.1, there first clause rest.0 rest.2, there first clause rest.1 rest.3, rest.4, rest.5, rest.6)

-- what has no value did not fall
pub stays : (assignment : Assignment) (fallen : List Lit) (lit : Lit) → IsKept assignment → All (Contains assignment.trail.items) fallen → value_of assignment.values.items lit.variable ≡ None → fell fallen lit ≡ false
stays assignment fallen lit kept among none = at (fell fallen lit) refl
  where
    at : (b : Bool) → fell fallen lit ≡ b → fell fallen lit ≡ false
    at false is = is
    at true is =
        let trailed : Contains assignment.trail.items (opposite lit) = All-contains (Contains assignment.trail.items) fallen (opposite lit) among (fell_contains fallen lit is) in
        let holds : IsTrueIn (value_of assignment.values.items) (opposite lit) = All-contains (IsTrueIn (value_of assignment.values.items)) assignment.trail.items (opposite lit) kept.noted trailed in
        absurd (some_clash (value_of assignment.values.items lit.variable) (not lit.positive) holds none)

-- a clause that was looked at needs no look
pub done_open : (old new : Assignment) (clause fallen : List Lit) → IsKept old → All (Contains old.trail.items) fallen
    → Any (IsTrueIn (value_of new.values.items)) clause ⊎ HasTwo old.values.items clause → IsDone fallen new.values.items clause
done_open old new clause fallen kept among (inl holds) = inl holds
done_open old new clause fallen kept among (inr (first, within, none, (k, second, inside, is, (apart, second_none)))) =
    inr (count_two (λ lit. not (fell fallen lit)) clause first second (λ same. apart (sym same)) within (k, inside, is)
    (not_from_false (fell fallen first) (stays old fallen first kept among none))
    (not_from_false (fell fallen second) (stays old fallen second kept among second_none)))

-- where all that is true fell, a clause that needs no look is open
pub open_done : (assignment : Assignment) (clause : List Lit) → IsKept assignment → NamesOnce clause → IsDone assignment.trail.items assignment.values.items clause
    → IsOpen assignment.values.items clause
open_done assignment clause kept once (inl holds) = open_by_true assignment.values.items clause holds
open_done assignment clause kept once (inr two) = at (stand_two assignment.trail.items clause once two)
  where
    not_false : (lit : Lit) → fell assignment.trail.items lit ≡ false → IsFalseIn (value_of assignment.values.items) lit → ⊥
    not_false lit stands false_in = false≢true (sym stands ∙ contains_fell assignment.trail.items lit (kept.trailed (opposite lit) false_in))

    at : (a b : Lit) × Contains clause a × Contains clause b × (a.variable ≢ b.variable) × (fell assignment.trail.items a ≡ false) × (fell assignment.trail.items b ≡ false) → IsOpen assignment.values.items clause
    at (a, b, a_in, b_in, apart, a_stands, b_stands) = record {
      no_false = λ all. not_false a a_stands (All-contains (IsFalseIn (value_of assignment.values.items)) clause a all a_in);
      no_due = λ lit due. same_or_not ⊥ a lit
          (λ same. not_false b b_stands (due.others b b_in (λ e. apart (ap (λ (l : Lit). l.variable) (same ∙ sym e)))))
          (λ other. not_false a a_stands (due.others a a_in other));
    }
