-- Points in lists.
use Rattle.std.proofs.Common.{ℕ, suc, ◌≡◌, ◌+◌, ◌≤◌, ap, sym, ◌∙◌, refl, subst, inl, inr, List, [], ◌∷◌, ◌++◌, Bool, true, false, arith, length}
use Rattle.std.specs.Prelude.{Option, Some, None, find, Contains}
use Rattle.std.proofs.lemmas.Bool.{cases_Bool}
use Rattle.gp_base.specs.ListLaws.{first_or_rest, nothing_in}
use Rattle.gp_constraint.specs.declared.point.Point.{Point}
use Rattle.gp_trace.specs.declared.event.Event.{Event}
use Rattle.gp_constraint.specs.Points.{points_from, points_in}

-- what is not found passes nowhere
pub find_none : (test : Point → Bool) (points : List Point) (p : Point) → find test points ≡ None → Contains points p → test p ≡ true → ⊥
find_none test [] p is among passes = nothing_in _ among
find_none test (q ∷ points) p is among passes =
    elim (cases_Bool (test q)) [
      | inl first ↦ let bad : ◌≡◌ {A = Option Point} (Some q) None = rw first at is in cc
      | inr fails ↦ elim (first_or_rest _ _ _ among) [
        | inl same ↦ let bad : true ≡ false = sym (ap test same ∙ passes) ∙ fails in cc
        | inr rest ↦ find_none test points p (rw fails at is) rest passes
      ]
    ]

-- the numbers of the points count up from this one
abbrev pub Counted : ℕ → List Point → Type 0
Counted number [] = Unit {0}
Counted number (p ∷ points) = (p.number ≡ number) × Counted (suc number) points

in_counted : (thread index number : ℕ) (events : List Event) (rest : List Point) → Counted (number + length events) rest
    → Counted number (points_in thread index number events ++ rest)
in_counted thread index number [] rest counted =
    subst (λ n. Counted n rest) (let same : number + length {A = Event} [] ≡ number = omega arith in same) counted
in_counted thread index number (event ∷ events) rest counted =
    let same : number + length (event ∷ events) ≡ suc number + length events = omega arith in
    (refl, in_counted thread (suc index) (suc number) events rest (subst (λ n. Counted n rest) same counted))

pub from_counted : (thread number : ℕ) (segments : List (List Event)) → Counted number (points_from thread number segments)
from_counted thread number [] = tt
from_counted thread number (segment ∷ segments) =
    in_counted thread 0 number segment (points_from (suc thread) (number + length segment) segments) (from_counted (suc thread) (number + length segment) segments)

counted_above : (number : ℕ) (points : List Point) (p : Point) → Counted number points → Contains points p → number ≤ p.number
counted_above number [] p counted among = absurd (nothing_in _ among)
counted_above number (q ∷ points) p counted among =
    elim (first_or_rest _ _ _ among) [
      | inl same ↦
          let first : q.number ≡ number = counted.0 in
          let own : q.number ≡ p.number = ap (λ (x : Point). x.number) same in omega (arith, first, own)
      | inr among ↦
          let rest = counted_above (suc number) points p counted.1 among in omega (arith, rest)
    ]

-- what is found comes first of those that pass
pub find_first : (test : Point → Bool) (number : ℕ) (points : List Point) (b p : Point) → Counted number points → find test points ≡ Some b → Contains points p → test p ≡ true
    → b.number ≤ p.number
find_first test number [] b p counted is among passes = absurd (nothing_in _ among)
find_first test number (q ∷ points) b p counted is among passes =
    let count : q.number ≡ number = counted.0 in
    elim (cases_Bool (test q)) [
      | inl first ↦
          let found : ◌≡◌ {A = Option Point} (Some q) (Some b) = rw first at is in
          let same : q ≡ b = cc in
          let own : q.number ≡ b.number = ap (λ (x : Point). x.number) same in
          elim (first_or_rest _ _ _ among) [
            | inl head ↦ let at : q.number ≡ p.number = ap (λ (x : Point). x.number) head in omega (arith, at, own)
            | inr rest ↦ let above = counted_above (suc number) points p counted.1 rest in omega (arith, above, own, count)
          ]
      | inr fails ↦ elim (first_or_rest _ _ _ among) [
        | inl same ↦ let bad : true ≡ false = sym (ap test same ∙ passes) ∙ fails in cc
        | inr rest ↦ find_first test (suc number) points b p counted.1 (rw fails at is) rest passes
      ]
    ]
