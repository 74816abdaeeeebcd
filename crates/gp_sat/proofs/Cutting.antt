-- The assignments above a level are taken back.
use Rattle.std.proofs.Common.{◌≡◌, sym, ◌∙◌, ap, ℕ, ◌+◌, ◌<◌, ◌≤◌, false, Option, Some, None, List, length, get_or, take, drop, map, inl, inr, arith}
use Rattle.std.proofs.lemmas.List.{length-map, length-take-le, get_or-take, ext_get_or, length-drop, get_or-drop}
use Rattle.std.proofs.lemmas.Bool.{cases_lt}
use Rattle.gp_clause.specs.declared.lit.Lit.{Lit}
use Rattle.gp_sat.specs.declared.assigned.Assigned.{Assigned}
use Rattle.gp_sat.specs.State.{SolverForm, assigned, clause_at, kept_to}
use Rattle.gp_sat.specs.Standing.{Each, IsFalseBefore, IsForcing}
use Rattle.gp_sat.specs.Sound.{IsOrdered, IsSound, true_lit}
use Rattle.gp_sat.specs.Changes.{IsUpTo, IsAbove}
use Rattle.gp_sat.specs.Levels.{IsEndOf}
use Rattle.gp_sat.proofs.Adding.{quiet_same}
use Rattle.gp_sat.specs.SolverLaws.{kept_was, kept_stays, kept_at}

-- some of the assignments: those before an end of the trail
pub record Cuts (f g : ℕ → Option Assigned) (level end : ℕ) : Type 0 where
  pub was : (v : ℕ) (a : Assigned) → g v ≡ Some a → (f v ≡ Some a) × (a.place < end) × (a.level ≤ level)
  pub stays : (v : ℕ) (a : Assigned) → f v ≡ Some a → a.place < end → g v ≡ Some a
  pub low_stays : (v : ℕ) (a : Assigned) → f v ≡ Some a → a.level ≤ level → g v ≡ Some a

pub cuts_at : (values : List (Option Assigned)) (size level end : ℕ) → IsEndOf (λ v. get_or values v None) size level end
    → Cuts (λ v. get_or values v None) (λ v. get_or (map (kept_to level) values) v None) level end
cuts_at values size level end parts = record {
  was = λ v a is.
      let old : (get_or values v None ≡ Some a) × (a.level ≤ level) = kept_was level (get_or values v None) a (sym (kept_at level values v) ∙ is) in
      (old.0, place_below v a old.0 old.1, old.1);
  stays = λ v a is before. kept_at level values v ∙ kept_stays level (get_or values v None) a is (parts.low v a is before);
  low_stays = λ v a is low. kept_at level values v ∙ kept_stays level (get_or values v None) a is low;
}
  where
    place_below : (v : ℕ) (a : Assigned) → get_or values v None ≡ Some a → a.level ≤ level → a.place < end
    place_below v a is low = elim (cases_lt a.place end) [
      | inl below ↦ below
      | inr past ↦ absurd (omega (arith, low, parts.high v a is past))
    ]

-- the front of the trail is in order
ordered_less : (f g : ℕ → Option Assigned) (trail : List Lit) (present level end : ℕ) → Cuts f g level end → IsEndOf f (length trail) level end → level ≤ present
    → IsOrdered f trail present → IsOrdered g (take end trail) level
ordered_less f g trail present level end cuts parts low old = record {
  within = λ v a is. omega (arith, (cuts.was v a is).1, shorter);
  on_trail = λ v a d is. get_or-take end trail a.place d (cuts.was v a is).1 ∙ old.on_trail v a d (cuts.was v a is).0;
  off_trail = λ place d below.
      let before : place < end = omega (arith, below, shorter) in
      let same : get_or (take end trail) place d ≡ get_or trail place d = get_or-take end trail place d before in
      let there : (a : Assigned) × (f (get_or trail place d).variable ≡ Some a) × (a.place ≡ place) = old.off_trail place d (omega (arith, before, parts.within)) in
      (there.0, ap (λ (l : Lit). g l.variable) same ∙ cuts.stays _ there.0 there.1 (omega (arith, there.2, before)), there.2);
  rising = λ v w a b va wb before. old.rising v w a b (cuts.was v a va).0 (cuts.was w b wb).0 before;
  present = λ v a is. ((cuts.was v a is).2, (old.present v a (cuts.was v a is).0).1);
  few = elim (cases_lt end (length trail)) [
    | inl inside ↦
        let d : Lit = record { variable = 0; positive = false } in
        let at_end : (a : Assigned) × (f (get_or trail end d).variable ≡ Some a) × (a.place ≡ end) = old.off_trail end d inside in
        omega (arith, shorter, parts.high _ at_end.0 at_end.1 (omega (arith, at_end.2)), (old.present _ at_end.0 at_end.1).1, at_end.2)
    | inr all ↦ omega (arith, shorter, old.few, low, all)
  ];
}
  where
    shorter : length (take end trail) ≡ end
    shorter = length-take-le end trail parts.within

-- a solver stays sound after a backjump
pub sound_cut : (s : SolverForm) (level end : ℕ) → level ≤ s.level → IsEndOf (assigned s) (length s.trail) level end → IsSound s
    → IsSound (record s { values = map (kept_to level) s.values; trail = take end s.trail; level = level })
sound_cut s level end low ends old =
    let f : ℕ → Option Assigned = assigned s in
    let g : ℕ → Option Assigned = λ v. get_or (map (kept_to level) s.values) v None in
    let cuts : Cuts f g level end = cuts_at s.values (length s.trail) level end ends in
    record {
      ordered = ordered_less f g s.trail s.level level end cuts ends low old.ordered;
      explained = record {
        first = λ v a is none. ((old.explained.first v a (cuts.was v a is).0 none).0, λ w b wb before. (old.explained.first v a (cuts.was v a is).0 none).1 w b (cuts.was w b wb).0 before);
        forced = λ v a number is reason.
            let why : (number < length s.clauses) × IsForcing f (clause_at s.clauses number) (true_lit v a) a.place = old.explained.forced v a number (cuts.was v a is).0 reason in (
              why.0,
              record {
                within = why.1.within;
                others = λ other among apart.
                    let false_before : IsFalseBefore a.place f other = why.1.others other among apart in
                    (false_before.0, cuts.stays other.variable false_before.0 false_before.1 (omega (arith, false_before.3, (cuts.was v a is).1)), false_before.2, false_before.3);
              },
            );
      };
      closed = λ l below number attached. quiet_same f g l (clause_at s.clauses number)
          (λ v a is small. cuts.low_stays v a is (omega (arith, small, below)))
          (λ v a is small. (cuts.was v a is).0)
          (old.closed l (omega (arith, below, low)) number attached);
      named = λ number lit is. omega (arith, old.named number lit is, length-map s.values (kept_to level));
      small = (omega (arith, old.small.0, length-map s.values (kept_to level)), old.small.1);
    }

-- each assignment was kept or not
pub kept_all : (level : ℕ) (old new : List (Option Assigned)) → length new ≡ length old → ((k : ℕ) → k < length old → get_or new k None ≡ kept_to level (get_or old k None))
    → new ≡ map (kept_to level) old
kept_all level old new size each =
    ext_get_or None new (map (kept_to level) old) (size ∙ sym (length-map old (kept_to level)))
    (λ k below. each k (omega (arith, below, size)) ∙ sym (kept_at level old k))

-- the front of the trail was assigned up to the level
pub front_low : (s : SolverForm) (level end : ℕ) → IsSound s → IsEndOf (assigned s) (length s.trail) level end → Each (IsUpTo s level) (take end s.trail)
front_low s level end sound ends = λ lit among. at lit among.0 among.1 among.2
  where
    at : (lit : Lit) (k : ℕ) → k < length (take end s.trail) → get_or (take end s.trail) k lit ≡ lit → IsUpTo s level lit
    at lit k below is =
        let before : k < end = omega (arith, below, length-take-le end s.trail ends.within) in
        let read : get_or s.trail k lit ≡ lit = sym (get_or-take end s.trail k lit before) ∙ is in
        let there : (a : Assigned) × (assigned s (get_or s.trail k lit).variable ≡ Some a) × (a.place ≡ k) = sound.ordered.off_trail k lit (omega (arith, before, ends.within)) in
        let holds : assigned s lit.variable ≡ Some there.0 = ap (λ (l : Lit). assigned s l.variable) (sym read) ∙ there.1 in
        (there.0, holds, ends.low lit.variable there.0 holds (omega (arith, there.2, before)))

-- the rest of the trail was assigned above the level
pub rest_high : (s : SolverForm) (level end : ℕ) → IsSound s → IsEndOf (assigned s) (length s.trail) level end → Each (IsAbove s level) (drop end s.trail)
rest_high s level end sound ends = λ lit among. at lit among.0 among.1 among.2
  where
    at : (lit : Lit) (k : ℕ) → k < length (drop end s.trail) → get_or (drop end s.trail) k lit ≡ lit → IsAbove s level lit
    at lit k below is =
        let inside : end + k < length s.trail = omega (arith, below, length-drop end s.trail) in
        let read : get_or s.trail (end + k) lit ≡ lit = sym (get_or-drop end s.trail k lit) ∙ is in
        let there : (a : Assigned) × (assigned s (get_or s.trail (end + k) lit).variable ≡ Some a) × (a.place ≡ end + k) = sound.ordered.off_trail (end + k) lit inside in
        let holds : assigned s lit.variable ≡ Some there.0 = ap (λ (l : Lit). assigned s l.variable) (sym read) ∙ there.1 in
        (there.0, holds, ends.high lit.variable there.0 holds (omega (arith, there.2)))
