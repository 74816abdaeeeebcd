-- What stood when each level began, as the trail moves.
use Rattle.std.proofs.Common.{◌≡◌, sym, ◌∙◌, ap, subst, ℕ, ◌+◌, ◌<◌, ◌≤◌, false, Option, Some, None, List, [], ◌∷◌, ◌++◌, length, get_or, take, inl, inr, arith}
use Rattle.std.proofs.lemmas.Bool.{cases_lt}
use Rattle.std.proofs.lemmas.Option.{same_Some, slice_get-get_or}
use Rattle.std.proofs.lemmas.List.{length-append, length_push, length-take-le, get_or_append_left, get_or_push, get_or-take, get_or-append-add, take-append-le}
use Rattle.std.proofs.lemmas.List.Elements.{All-weaker, Contains-get_or}
use Rattle.gp_clause.specs.declared.kind.Kind.{Kind}
use Rattle.gp_clause.specs.declared.lit.Lit.{Lit}
use Rattle.gp_sat.specs.declared.assigned.Assigned.{Assigned}
use Rattle.gp_sat.specs.State.{SolverForm, assigned, with_literal}
use Rattle.gp_sat.specs.Sound.{IsSound}
use Rattle.gp_sat.specs.Changes.{Propagates, Backjumps, IsAbove, IsUpTo}
use Rattle.gp_sat.specs.Looking.{IsTrueLit}
use Rattle.gp_sat.specs.SolverLaws.{Adds, added, adds_literal, added_cases, added_stays, kept_at, kept_was, kept_stays}
use Rattle.gp_search.specs.declared.engine.Level.{Level}
use Rattle.gp_search.specs.Bounds.{bounds_along}
use Rattle.gp_search.specs.Inside.{IsStart, IsBegun, IsLevelled, IsTrueTo, no_level}

-- what stands at a place of a list is the same whatever stands for none
pub at_place : (levels : List Level) (place : ℕ) (d e : Level) → place < length levels → get_or levels place d ≡ get_or levels place e
at_place levels place d e within =
    let both : Some (get_or levels place d) ≡ Some (get_or levels place e) = sym (slice_get-get_or levels place d within) ∙ slice_get-get_or levels place e within in
    same_Some (get_or levels place d) (get_or levels place e) both

-- what was assigned after a backjump was so before, up to the level
pub back_was : (old new : SolverForm) (level : ℕ) → Backjumps old new level → (v : ℕ) (a : Assigned) → assigned new v ≡ Some a → (assigned old v ≡ Some a) × (a.level ≤ level)
back_was old new level back v a is =
    kept_was level (assigned old v) a (sym (ap (λ (vs : List (Option Assigned)). get_or vs v None) back.values ∙ kept_at level old.values v) ∙ is)

pub back_stays : (old new : SolverForm) (level : ℕ) → Backjumps old new level → (v : ℕ) (a : Assigned) → assigned old v ≡ Some a → a.level ≤ level → assigned new v ≡ Some a
back_stays old new level back v a is low =
    ap (λ (vs : List (Option Assigned)). get_or vs v None) back.values ∙ (kept_at level old.values v ∙ kept_stays level (assigned old v) a is low)

-- the start of a level after a propagation
start_more : (old new : SolverForm) (below start : ℕ) → Propagates old new → below < old.level → IsStart old below start → IsStart new below start
start_more old new below start more low was = record {
  within = omega (arith, was.within, ap (λ (ls : List Lit). length ls) more.added.1, length-append old.trail more.added.0);
  before = λ v a is early. elim (more.forced v a is) [
    | inl there ↦ was.before v a there early
    | inr forced ↦ absurd (omega (arith, forced.later, early, was.within))
  ];
  after = λ v a is late. elim (more.forced v a is) [
    | inl there ↦ was.after v a there late
    | inr forced ↦ omega (arith, forced.present, more.level, low)
  ];
}

pub levelled_more : (kinds : List Kind) (assumed : List Lit) (old new : SolverForm) (levels : List Level) (next : ℕ) → Propagates old new → IsLevelled kinds assumed old levels next → IsLevelled kinds assumed new levels next
levelled_more kinds assumed old new levels next more was = record {
  counted = was.counted ∙ sym more.level;
  begun = λ below low.
      let under : below < old.level = omega (arith, low, more.level) in
      let one : IsBegun kinds assumed old below (get_or levels below no_level) = was.begun below under in
      let front : take one.start new.trail ≡ take one.start old.trail = ap (take one.start) more.added.1 ∙ take-append-le one.start old.trail more.added.0 one.split.within in
      record {
        start = one.start;
        split = start_more old new below one.start more under one.split;
        bounds = one.bounds ∙ ap (λ (ls : List Lit). length (bounds_along kinds ls)) (sym front);
        holds = All-weaker (IsTrueTo old below) (IsTrueTo new below) (λ lit is. (is.0, more.stays lit.variable is.0 is.1, is.2, is.3)) (take (get_or levels below no_level).next assumed) one.holds;
      };
  passed = All-weaker (IsTrueLit (assigned old)) (IsTrueLit (assigned new)) (λ lit is. (is.0, more.stays lit.variable is.0 is.1, is.2)) (take next assumed) was.passed;
}

-- the start of a level after a decision above it
start_added : (s : SolverForm) (lit : Lit) (below start : ℕ) → lit.variable < length s.values → assigned s lit.variable ≡ None → below < s.level → IsStart s below start
    → IsStart (with_literal s lit (s.level + 1) None) below start
start_added s lit below start inside free low was =
    let adds : Adds (assigned s) (assigned (with_literal s lit (s.level + 1) None)) lit.variable (added s lit (s.level + 1) None) = adds_literal s lit (s.level + 1) None inside free in
    record {
      within = omega (arith, was.within, length_push s.trail lit);
      before = λ v a is early. elim (added_cases adds v a is) [
        | inl here ↦ absurd (omega (arith, early, ap (λ (x : Assigned). x.place) here.1, was.within))
        | inr there ↦ was.before v a there early
      ];
      after = λ v a is late. elim (added_cases adds v a is) [
        | inl here ↦ omega (arith, ap (λ (x : Assigned). x.level) here.1, low)
        | inr there ↦ was.after v a there late
      ];
    }

-- the decision begins a level at the end of the trail
start_last : (s : SolverForm) (lit : Lit) → IsSound s → lit.variable < length s.values → assigned s lit.variable ≡ None → IsStart (with_literal s lit (s.level + 1) None) s.level (length s.trail)
start_last s lit sound inside free =
    let adds : Adds (assigned s) (assigned (with_literal s lit (s.level + 1) None)) lit.variable (added s lit (s.level + 1) None) = adds_literal s lit (s.level + 1) None inside free in
    record {
      within = omega (arith, length_push s.trail lit);
      before = λ v a is early. elim (added_cases adds v a is) [
        | inl here ↦ absurd (omega (arith, early, ap (λ (x : Assigned). x.place) here.1))
        | inr there ↦ (sound.ordered.present v a there).0
      ];
      after = λ v a is late. elim (added_cases adds v a is) [
        | inl here ↦ omega (arith, ap (λ (x : Assigned). x.level) here.1)
        | inr there ↦ absurd (omega (arith, late, sound.ordered.within v a there))
      ];
    }

pub levelled_decided : (kinds : List Kind) (assumed : List Lit) (s : SolverForm) (levels : List Level) (next bounds : ℕ) (lit : Lit) → IsSound s → lit.variable < length s.values → assigned s lit.variable ≡ None
    → bounds ≡ length (bounds_along kinds (take (length s.trail) s.trail)) → IsLevelled kinds assumed s levels next
    → IsLevelled kinds assumed (with_literal s lit (s.level + 1) None) (levels ++ record { bounds = bounds; next = next } ∷ []) next
levelled_decided kinds assumed s levels next bounds lit sound inside free mark was = record {
  counted = omega (arith, length_push levels last, was.counted);
  begun = λ below low. elim (cases_lt below s.level) [
    | inl under ↦
        let same : get_or (levels ++ last ∷ []) below no_level ≡ get_or levels below no_level = get_or_append_left levels (last ∷ []) no_level below (omega (arith, under, was.counted)) in
        subst (IsBegun kinds assumed t below) (sym same) (before below under (was.begun below under))
    | inr past ↦
        let top : s.level ≡ below = omega (arith, low, past) in
        let same : get_or (levels ++ last ∷ []) below no_level ≡ last = get_or_push levels last no_level below (omega (arith, top, was.counted)) in
        subst (IsBegun kinds assumed t below) (sym same) (subst (λ (n : ℕ). IsBegun kinds assumed t n last) top at_top)
  ];
  passed = All-weaker (IsTrueLit (assigned s)) (IsTrueLit (assigned t)) (λ l is. (is.0, added_stays adds l.variable is.0 is.1, is.2)) (take next assumed) was.passed;
}
  where
    t : SolverForm
    t = with_literal s lit (s.level + 1) None

    last : Level
    last = record { bounds = bounds; next = next }

    adds : Adds (assigned s) (assigned (with_literal s lit (s.level + 1) None)) lit.variable (added s lit (s.level + 1) None)
    adds = adds_literal s lit (s.level + 1) None inside free

    before : (below : ℕ) → below < s.level → IsBegun kinds assumed s below (get_or levels below no_level) → IsBegun kinds assumed (with_literal s lit (s.level + 1) None) below (get_or levels below no_level)
    before below under one = record {
      start = one.start;
      split = start_added s lit below one.start inside free under one.split;
      bounds = one.bounds ∙ ap (λ (ls : List Lit). length (bounds_along kinds ls)) (sym (take-append-le one.start s.trail (lit ∷ []) one.split.within));
      holds = All-weaker (IsTrueTo s below) (IsTrueTo (with_literal s lit (s.level + 1) None) below) (λ l is. (is.0, added_stays adds l.variable is.0 is.1, is.2, is.3)) (take (get_or levels below no_level).next assumed) one.holds;
    }

    at_top : IsBegun kinds assumed (with_literal s lit (s.level + 1) None) s.level (record { bounds = bounds; next = next })
    at_top = record {
      start = length s.trail;
      split = start_last s lit sound inside free;
      bounds = mark ∙ ap (λ (ls : List Lit). length (bounds_along kinds ls)) (sym (take-append-le (length s.trail) s.trail (lit ∷ []) (omega arith)));
      holds = All-weaker (IsTrueLit (assigned s)) (IsTrueTo (with_literal s lit (s.level + 1) None) s.level)
          (λ l is. (is.0, added_stays adds l.variable is.0 is.1, is.2, (sound.ordered.present l.variable is.0 is.1).0)) (take next assumed) was.passed;
    }

-- no level up to the one that is left begins past what a backjump keeps
start_kept : (old new : SolverForm) (level below start : ℕ) → IsSound old → Backjumps old new level → below ≤ level → IsStart old below start → start ≤ length new.trail
start_kept old new level below start sound back low was = elim (cases_lt (length new.trail) start) [
  | inr enough ↦ enough
  | inl past ↦
      let d : Lit = record { variable = 0; positive = false } in
      let all : length old.trail ≡ length new.trail + length back.rest = ap (λ (ls : List Lit). length ls) (sym back.trail) ∙ length-append new.trail back.rest in
      let within : length new.trail < length old.trail = omega (arith, past, was.within) in
      let some : 0 < length back.rest = omega (arith, within, all) in
      let there = sound.ordered.off_trail (length new.trail) d within in
      let zero_more : length new.trail + 0 ≡ length new.trail = omega arith in
      let same : get_or back.rest 0 d ≡ get_or old.trail (length new.trail) d =
      sym (get_or-append-add new.trail back.rest 0 d) ∙ (ap (λ (ls : List Lit). get_or ls (length new.trail + 0) d) back.trail ∙ ap (λ (n : ℕ). get_or old.trail n d) zero_more) in
      let high : IsAbove old level (get_or old.trail (length new.trail) d) = subst (λ (l : Lit). IsAbove old level l) same (back.goes (get_or back.rest 0 d) (Contains-get_or back.rest 0 d some)) in
      let one : there.0 ≡ high.0 = let both : Some there.0 ≡ Some high.0 = sym there.1 ∙ high.1 in same_Some there.0 high.0 both in
      absurd (omega (arith, was.before (get_or old.trail (length new.trail) d).variable there.0 there.1 (omega (arith, there.2, past)), high.2, ap (λ (x : Assigned). x.level) one, low))
]

-- the level above the one that is kept begins where its trail ends
start_at_end : (old new : SolverForm) (level start : ℕ) → IsSound old → Backjumps old new level → IsStart old level start → start ≡ length new.trail
start_at_end old new level start sound back was =
    let low : start ≤ length new.trail = start_kept old new level level start sound back (omega arith) was in
    elim (cases_lt start (length new.trail)) [
      | inr enough ↦ omega (arith, low, enough)
      | inl past ↦
          let d : Lit = record { variable = 0; positive = false } in
          let there = sound.ordered.off_trail start d (omega (arith, past, ap (λ (ls : List Lit). length ls) back.trail, length-append new.trail back.rest)) in
          let same : get_or new.trail start d ≡ get_or old.trail start d = sym (get_or_append_left new.trail back.rest d start past) ∙ ap (λ (ls : List Lit). get_or ls start d) back.trail in
          let up : IsUpTo old level (get_or old.trail start d) = subst (λ (l : Lit). IsUpTo old level l) same (back.stays (get_or new.trail start d) (Contains-get_or new.trail start d past)) in
          let one : there.0 ≡ up.0 = let both : Some there.0 ≡ Some up.0 = sym there.1 ∙ up.1 in same_Some there.0 up.0 both in
          absurd (omega (arith, was.after (get_or old.trail start d).variable there.0 there.1 (omega (arith, there.2)), up.2, ap (λ (x : Assigned). x.level) one))
    ]

-- the front of the trail that a backjump keeps
front_kept : (old new : SolverForm) (level start : ℕ) → Backjumps old new level → start ≤ length new.trail → take start old.trail ≡ take start new.trail
front_kept old new level start back within = ap (take start) (sym back.trail) ∙ take-append-le start new.trail back.rest within

-- so its bounds are those of the trail that is kept
pub bounds_back : (kinds : List Kind) (assumed : List Lit) (old new : SolverForm) (level : ℕ) (begun : Level) → IsSound old → Backjumps old new level → IsBegun kinds assumed old level begun
    → begun.bounds ≡ length (bounds_along kinds (take (length new.trail) new.trail))
bounds_back kinds assumed old new level begun sound back was =
    let last : was.start ≡ length new.trail = start_at_end old new level was.start sound back was.split in
    was.bounds ∙ (ap (λ (ls : List Lit). length (bounds_along kinds ls)) (front_kept old new level was.start back (omega (arith, last))) ∙ ap (λ (n : ℕ). length (bounds_along kinds (take n new.trail))) last)

pub levelled_back : (kinds : List Kind) (assumed : List Lit) (old new : SolverForm) (levels : List Level) (next level : ℕ) → IsSound old → Backjumps old new level → level < old.level → IsLevelled kinds assumed old levels next
    → IsLevelled kinds assumed new (take level levels) (get_or levels level no_level).next
levelled_back kinds assumed old new levels next level sound back under was = record {
  counted = length-take-le level levels (omega (arith, under, was.counted)) ∙ sym back.reached;
  begun = λ below low.
      let less : below < level = omega (arith, low, back.reached) in
      subst (IsBegun kinds assumed new below) (sym (get_or-take level levels below no_level less)) (kept below less (was.begun below (omega (arith, less, under))));
  passed = All-weaker (IsTrueTo old level) (IsTrueLit (assigned new)) (λ lit is. (is.0, back_stays old new level back lit.variable is.0 is.1 is.3, is.2)) (take (get_or levels level no_level).next assumed) (was.begun level under).holds;
}
  where
    kept : (below : ℕ) → below < level → IsBegun kinds assumed old below (get_or levels below no_level) → IsBegun kinds assumed new below (get_or levels below no_level)
    kept below less one =
        let within : one.start ≤ length new.trail = start_kept old new level below one.start sound back (omega (arith, less)) one.split in
        record {
          start = one.start;
          split = record {
            within = within;
            before = λ v a is early. one.split.before v a (back_was old new level back v a is).0 early;
            after = λ v a is late. one.split.after v a (back_was old new level back v a is).0 late;
          };
          bounds = one.bounds ∙ ap (λ (ls : List Lit). length (bounds_along kinds ls)) (front_kept old new level one.start back within);
          holds = All-weaker (IsTrueTo old below) (IsTrueTo new below) (λ lit is. (is.0, back_stays old new level back lit.variable is.0 is.1 (omega (arith, is.3, less)), is.2, is.3)) (take (get_or levels below no_level).next assumed) one.holds;
        }

-- what stood when a level began, for a solver with the same assignments and the same trail
pub begun_same : (kinds : List Kind) (assumed : List Lit) (old new : SolverForm) (below : ℕ) (begun : Level) → new.values ≡ old.values → new.trail ≡ old.trail → IsBegun kinds assumed old below begun → IsBegun kinds assumed new below begun
begun_same kinds assumed old new below begun values trail was = record {
  start = was.start;
  split = record {
    within = omega (arith, was.split.within, ap (λ (ls : List Lit). length ls) trail);
    before = λ v a is early. was.split.before v a (same v ∙ is) early;
    after = λ v a is late. was.split.after v a (same v ∙ is) late;
  };
  bounds = was.bounds ∙ ap (λ (ls : List Lit). length (bounds_along kinds (take was.start ls))) (sym trail);
  holds = All-weaker (IsTrueTo old below) (IsTrueTo new below) (λ lit is. (is.0, sym (same lit.variable) ∙ is.1, is.2, is.3)) (take begun.next assumed) was.holds;
}
  where
    same : (v : ℕ) → assigned old v ≡ assigned new v
    same v = ap (λ (vs : List (Option Assigned)). get_or vs v None) (sym values)
