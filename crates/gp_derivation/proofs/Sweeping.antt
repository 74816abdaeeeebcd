-- One sweep from the end of a log finds the entries on which a step rests, so that the step has a cone.
use Rattle.std.proofs.Common.{◌≡◌, ℕ, zero, suc, ◌+◌, ◌-◌, ◌<◌, ◌≤◌, ◌⊎◌, inl, inr, Bool, true, false, Option, None, Some, List, [], ◌∷◌, ◌++◌, length, All, Contains, refl, sym, ◌∙◌, subst, arith}
use Rattle.std.specs.Prelude.{◌||◌, if◌then◌else◌, nat_eq}
use Rattle.std.specs.List.{list_any, slice_get, Any}
use Rattle.std.proofs.lemmas.Bool.{cases_lt, eq-eqb, eqb-true, false≢true}
use Rattle.std.proofs.lemmas.List.{length-append}
use Rattle.std.proofs.lemmas.List.Elements.{All-contains, All-weaker}
use Rattle.std.proofs.lemmas.List.Folds.{Any-from_list_any, list_any_at}
use Rattle.std.proofs.lemmas.Map.Views.{Contains-from_any}
use Rattle.gp_certificate.specs.declared.step.Step.{Step}
use Rattle.gp_derivation.specs.declared.log.LogEntry.{LogEntry}
use Rattle.gp_derivation.specs.Numbering.{NamesEarlier}
use Rattle.gp_derivation.specs.Reach.{IsReached, rests_on}
use Rattle.gp_derivation.specs.Reach.IsReached.{direct, through}
use Rattle.gp_derivation.specs.Cones.{ConeIsThere, ConeOfStays, IsCone, are_naming, cone_of, hints_at, hints_of, is_needed, needed_among}
use Rattle.gp_base.specs.ListLaws.{here, there, first_or_rest, nothing_in, slice_get_front}
use Rattle.gp_derivation.proofs.Descending.{rests_earlier}
use Rattle.gp_derivation.proofs.Staying.{cone_is_unique, cone_stays, reached_shorter, reached_within}

-- a test by an equation finds what stands in a list, and only that
found_in : (n : ℕ) (xs : List ℕ) → list_any (nat_eq n) xs ≡ true → Contains xs n
found_in n xs told = Contains-from_any {eq = nat_eq} (λ x y same. eqb-true x y same) n xs told

finds : (n : ℕ) (xs : List ℕ) → Contains xs n → list_any (nat_eq n) xs ≡ true
finds n xs (k, within, is) = list_any_at (nat_eq n) xs k n within (eq-eqb n _ (sym is))

one_of : (a b : Bool) → (a || b) ≡ true → (a ≡ true) ⊎ (b ≡ true)
one_of true b told = inl refl
one_of false b told = inr told

by_first : (a b : Bool) → a ≡ true → (a || b) ≡ true
by_first true b told = refl
by_first false b told = absurd (false≢true told)

by_second : (a b : Bool) → b ≡ true → (a || b) ≡ true
by_second true b told = refl
by_second false b told = told

-- where the hints of the entry at a place name a number, an entry stands there
stands_at : (log : List LogEntry) (place number : ℕ) → Contains (hints_at log place) number → (entry : LogEntry) × (slice_get log place ≡ Some entry) × Contains (rests_on entry.step entry.origin) number
stands_at log place number named = at (slice_get log place) refl named
  where
    at : (found : Option LogEntry) → slice_get log place ≡ found → Contains (hints_of found) number → (entry : LogEntry) × (slice_get log place ≡ Some entry) × Contains (rests_on entry.step entry.origin) number
    at None is none = absurd (nothing_in number none)
    at (Some entry) is named = (entry, is, named)

module _ (bases : ℕ) (log : List LogEntry) (hints : List ℕ) where
  -- each entry on which the hints rest names what comes before it
  abbrev pub ReachedNameEarlier : Type 0
  ReachedNameEarlier = (place : ℕ) (entry : LogEntry) → IsReached bases log hints place → slice_get log place ≡ Some entry → NamesEarlier bases place entry.step entry.origin

  -- some places are those, among so many last ones, of the entries on which the hints rest
  record IsSwept (count : ℕ) (places : List ℕ) : Type 0 where
    sound : (place : ℕ) → Contains places place → IsReached bases log hints place
    above : (place : ℕ) → Contains places place → length log ≤ place + count
    named : (place : ℕ) → length log ≤ place + count → Contains hints (bases + place) → Contains places place
    done : (place other : ℕ) (entry : LogEntry) → length log ≤ place + count → Contains places other → slice_get log other ≡ Some entry
        → Contains (rests_on entry.step entry.origin) (bases + place) → Contains places place

  swept_none : All (λ hint. hint < bases + length log) hints → IsSwept 0 []
  swept_none within = record {
    sound = λ place none. absurd (nothing_in place none);
    above = λ place none. absurd (nothing_in place none);
    named = λ place past by. let less : bases + place < bases + length log = All-contains (λ h. h < bases + length log) hints (bases + place) within by in absurd (omega (arith, less, past));
    done = λ place other entry past none got by. absurd (nothing_in other none);
  }

  -- one entry more from the end: its place is marked where what was found so far names it, and passed over where it does not
  module _ (count : ℕ) (later : List ℕ) (mark : ℕ) (at_mark : mark + suc count ≡ length log) (old : IsSwept count later) where
    reached_mark : are_naming bases log hints later mark ≡ true → IsReached bases log hints mark
    reached_mark told = elim (one_of (list_any (nat_eq (bases + mark)) hints) _ told) [
      | inl by ↦ direct mark (found_in (bases + mark) hints by)
      | inr by ↦
          let some : Any (λ other. list_any (nat_eq (bases + mark)) (hints_at log other) ≡ true) later = Any-from_list_any (λ other. list_any (nat_eq (bases + mark)) (hints_at log other)) later by in
          let entry = stands_at log some.1 (bases + mark) (found_in (bases + mark) (hints_at log some.1) some.4) in
          through mark some.1 entry.0 (old.sound some.1 (some.0, some.2, some.3)) entry.1 entry.2
    ]

    naming_hint : Contains hints (bases + mark) → are_naming bases log hints later mark ≡ true
    naming_hint by = by_first (list_any (nat_eq (bases + mark)) hints) (list_any (λ other. list_any (nat_eq (bases + mark)) (hints_at log other)) later) (finds (bases + mark) hints by)

    naming_other : (other : ℕ) (entry : LogEntry) → Contains later other → slice_get log other ≡ Some entry → Contains (rests_on entry.step entry.origin) (bases + mark) → are_naming bases log hints later mark ≡ true
    naming_other other entry (k, within, is) got by = by_second (list_any (nat_eq (bases + mark)) hints) (list_any test later) (list_any_at test later k other within (subst (λ (n : ℕ). test n ≡ true) (sym is) passes))
      where
        test : ℕ → Bool
        test place = list_any (nat_eq (bases + mark)) (hints_at log place)

        passes : list_any (nat_eq (bases + mark)) (hints_at log other) ≡ true
        passes = finds (bases + mark) (hints_at log other) (subst (λ (found : Option LogEntry). Contains (hints_of found) (bases + mark)) (sym got) by)

    -- a place among one more of the last ones is the new one, or among the others
    new_or_old : (place : ℕ) → length log ≤ place + suc count → (mark ≡ place) ⊎ (length log ≤ place + count)
    new_or_old place least = elim (cases_lt mark place) [
      | inl past ↦ inr (omega (arith, at_mark, past))
      | inr most ↦ inl (omega (arith, at_mark, most, least))
    ]

    swept_marked : ReachedNameEarlier → are_naming bases log hints later mark ≡ true → IsSwept (suc count) (mark ∷ later)
    swept_marked names told = record {
      sound = λ place is. elim (first_or_rest mark later place is) [
        | inl same ↦ subst (λ (n : ℕ). IsReached bases log hints n) same (reached_mark told)
        | inr is ↦ old.sound place is
      ];
      above = λ place is. elim (first_or_rest mark later place is) [
        | inl same ↦ omega (arith, at_mark, same)
        | inr is ↦ omega (arith, old.above place is)
      ];
      named = λ place least by. elim (new_or_old place least) [
        | inl same ↦ subst (λ (n : ℕ). Contains (mark ∷ later) n) same (here mark later)
        | inr more ↦ there mark later place (old.named place more by)
      ];
      done = λ place other entry least is got by. elim (first_or_rest mark later other is) [
        | inl same ↦
            let it : IsReached bases log hints other = subst (λ (n : ℕ). IsReached bases log hints n) same (reached_mark told) in
            let less : bases + place < bases + other = All-contains (λ h. h < bases + other) (rests_on entry.step entry.origin) (bases + place) (rests_earlier bases other entry.step entry.origin (names other entry it got)) by in
            absurd (omega (arith, less, same, least, at_mark))
        | inr is ↦ elim (new_or_old place least) [
          | inl same ↦ subst (λ (n : ℕ). Contains (mark ∷ later) n) same (here mark later)
          | inr more ↦ there mark later place (old.done place other entry more is got by)
        ]
      ];
    }

    swept_past : are_naming bases log hints later mark ≡ false → IsSwept (suc count) later
    swept_past told = record {
      sound = old.sound;
      above = λ place is. omega (arith, old.above place is);
      named = λ place least by. elim (new_or_old place least) [
        | inl same ↦ absurd (false≢true (sym told ∙ naming_hint (subst (λ (n : ℕ). Contains hints (bases + n)) (sym same) by)))
        | inr more ↦ old.named place more by
      ];
      done = λ place other entry least is got by. elim (new_or_old place least) [
        | inl same ↦ absurd (false≢true (sym told ∙ naming_other other entry is got (subst (λ (n : ℕ). Contains (rests_on entry.step entry.origin) (bases + n)) (sym same) by)))
        | inr more ↦ old.done place other entry more is got by
      ];
    }

  swept_one_more : ReachedNameEarlier → (count : ℕ) → suc count ≤ length log → IsSwept count (needed_among bases log hints count) → IsSwept (suc count) (needed_among bases log hints (suc count))
  swept_one_more names count least before = at (are_naming bases log hints later mark) refl
    where
      later : List ℕ
      later = needed_among bases log hints count

      mark : ℕ
      mark = length log - suc count

      at : (marked : Bool) → are_naming bases log hints later mark ≡ marked → IsSwept (suc count) (if marked then mark ∷ later else later)
      at true is = swept_marked count later mark (omega (arith, least)) before names is
      at false is = swept_past count later mark (omega (arith, least)) before is

  swept_so_far : ReachedNameEarlier → All (λ hint. hint < bases + length log) hints → (count : ℕ) → count ≤ length log → IsSwept count (needed_among bases log hints count)
  swept_so_far names within zero least = swept_none within
  swept_so_far names within (suc count) least = swept_one_more names count least (swept_so_far names within count (omega (arith, least)))

  -- what is reached was marked
  swept_all : IsSwept (length log) (needed_among bases log hints (length log)) → (place : ℕ) → IsReached bases log hints place → Contains (needed_among bases log hints (length log)) place
  swept_all swept place (direct p by) = swept.named p (omega arith) by
  swept_all swept place (through p other entry reached got by) = swept.done p other entry (omega arith) (swept_all swept other reached) got by

-- a step has a cone where its hints name what the log holds, and each entry on which it rests what comes before it
cone_there : (bases : ℕ) (log : List LogEntry) (last : Step) → ReachedNameEarlier bases log last.hints → All (λ hint. hint < bases + length log) last.hints → IsCone bases log last (cone_of bases log last)
cone_there bases log last names within = record {
  kept = is_needed bases log last.hints;
  reached = λ place. (
    λ told. swept.sound place (found_in place needed told),
    λ reached. finds place needed (swept_all bases log last.hints swept place reached),
  );
  steps = refl;
}
  where
    needed : List ℕ
    needed = needed_among bases log last.hints (length log)

    swept : IsSwept bases log last.hints (length log) needed
    swept = swept_so_far bases log last.hints names within (length log) (omega arith)

pub cone_is_there : ConeIsThere
cone_is_there bases log last can = cone_there bases log last (λ place entry reached got. can.entries place entry got) can.hints

pub cone_of_stays : ConeOfStays
cone_of_stays bases log more last can = cone_is_unique bases (log ++ more) last (cone_of bases (log ++ more) last) (cone_of bases log last)
    (cone_there bases (log ++ more) last names within)
    (cone_stays bases log more last (cone_of bases log last) can.entries can.hints (cone_is_there bases log last can))
  where
    names : ReachedNameEarlier bases (log ++ more) last.hints
    names place entry reached got =
        let inside : place < length log = reached_within bases log last.hints can.entries can.hints place (reached_shorter bases log more last.hints can.entries can.hints place reached) in
        can.entries place entry (sym (slice_get_front log more place inside) ∙ got)

    within : All (λ hint. hint < bases + length (log ++ more)) last.hints
    within = All-weaker (λ hint. hint < bases + length log) (λ hint. hint < bases + length (log ++ more)) (λ hint less. omega (arith, less, length-append log more)) last.hints can.hints
