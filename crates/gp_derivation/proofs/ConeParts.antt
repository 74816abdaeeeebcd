-- A cone is drafted from the places that a step rests on.
use Rattle.std.proofs.Common.{◌≡◌, ℕ, ◌+◌, ◌<◌, ◌↔◌, inl, inr, true, Some, List, [], ◌∷◌, ◌++◌, length, get_or, All, Contains, sym, ◌∙◌, subst, arith}
use Rattle.std.specs.Prelude.{AllPairs}
use Rattle.std.specs.List.{slice_get}
use Rattle.std.proofs.lemmas.Bool.{cases_lt}
use Rattle.std.proofs.lemmas.List.{get_or_default}
use Rattle.std.proofs.lemmas.List.Elements.{All-contains, All-weaker, All-contains_itself, Contains-get_or}
use Rattle.gp_certificate.specs.declared.step.Step.{Step}
use Rattle.gp_derivation.specs.declared.log.LogEntry.{LogEntry}
use Rattle.gp_derivation.specs.declared.log.Origin.{Origin}
use Rattle.gp_derivation.specs.declared.log.Origin.TheVariants.{Learned, Taken}
use Rattle.gp_derivation.specs.Numbering.{CanBeNumbered, NamesEarlier, IsNumbered, IsNumberable, number_beside, number_of, renumbered}
use Rattle.gp_derivation.specs.Reach.{AreReached, IsReached, rests_on}
use Rattle.gp_derivation.specs.Reach.IsReached.{direct, through}
use Rattle.gp_derivation.specs.Cones.{IsCone, cone_step, cone_steps}
use Rattle.gp_derivation.proofs.Descending.{rests_earlier}
use Rattle.gp_derivation.proofs.Numbers.{rising_far}
use Rattle.gp_derivation.proofs.Staying.{reached_within}
use Rattle.gp_derivation.proofs.Drafts.{AreKept, IsDraft, among, among_tells, among_at, are_kept, draft_numbers, draft_all, cone_step_agree}

-- the cone of a step lies over the places on which it rests, in order
pub record LiesOver (bases : ℕ) (log : List LogEntry) (last : Step) (places : List ℕ) : Type 0 where
  pub can : CanBeNumbered bases log last
  pub rising : AllPairs (λ (a b : ℕ). a < b) places
  pub reached : (place : ℕ) → Contains places place ↔ IsReached bases log last.hints place

pub lies_over : (bases : ℕ) (log : List LogEntry) (last : Step) (places : List ℕ) → CanBeNumbered bases log last → AreReached bases log last.hints places → LiesOver bases log last places
lies_over bases log last places can are = record { can = can; rising = are.rising; reached = are.reached }

pub reached_kept : (bases : ℕ) (log : List LogEntry) (last : Step) (places : List ℕ) → LiesOver bases log last places → AreKept (among places) log places
reached_kept bases log last places are = are_kept log places are.rising (λ place is. reached_within bases log last.hints are.can.entries are.can.hints place ((are.reached place).0 is))

-- what an entry at one of the places rests on stands before it
stands_before : (bases : ℕ) (log : List LogEntry) (last : Step) (places : List ℕ) (i : ℕ) (entry : LogEntry) → LiesOver bases log last places → i < length places → slice_get log (get_or places i 0) ≡ Some entry
    → (hint : ℕ) → Contains (rests_on entry.step entry.origin) hint → (other : ℕ) → bases + other ≡ hint → (k : ℕ) × (k < i) × (get_or places k 0 ≡ other)
stands_before bases log last places i entry are within got hint by other is =
    let named : Contains (rests_on entry.step entry.origin) (bases + other) = subst (λ (n : ℕ). Contains (rests_on entry.step entry.origin) n) (sym is) by in
    let at : IsReached bases log last.hints (get_or places i 0) = (are.reached (get_or places i 0)).0 (Contains-get_or places i 0 within) in
    let there : Contains places other = (are.reached other).1 (through other (get_or places i 0) entry at got named) in
    let same : get_or places there.0 0 ≡ other = get_or_default places there.0 0 other there.1 ∙ there.2 in
    let less : bases + other < bases + get_or places i 0 = All-contains (λ h. h < bases + get_or places i 0) (rests_on entry.step entry.origin) (bases + other) (rests_earlier bases (get_or places i 0) entry.step entry.origin (are.can.entries (get_or places i 0) entry got)) named in (
      there.0,
      elim (cases_lt there.0 i) [
        | inl before ↦ before
        | inr after ↦ absurd (omega (arith, rising_far places are.rising i there.0 after there.1, same, less))
      ],
      same,
    )

-- what the last step rests on stands among the places
stands_all : (bases : ℕ) (log : List LogEntry) (last : Step) (places : List ℕ) → LiesOver bases log last places → (hint : ℕ) → Contains last.hints hint → (other : ℕ) → bases + other ≡ hint → (k : ℕ) × (k < length places) × (get_or places k 0 ≡ other)
stands_all bases log last places are hint by other is =
    let there : Contains places other = (are.reached other).1 (direct other (subst (λ (n : ℕ). Contains last.hints n) (sym is) by)) in
    (there.0, there.1, get_or_default places there.0 0 other there.1 ∙ there.2)

numberable : (bases place : ℕ) (places numbers : List ℕ) (step : Step) (origin : Origin) → NamesEarlier bases place step origin → All (IsNumbered bases places numbers) (rests_on step origin) → IsNumberable bases places numbers step origin
numberable bases place places numbers step Learned names all = all
numberable bases place places numbers step (Taken sender certificate) names all = names.1

-- what the next entry needs
pub record IsNext (bases : ℕ) (log : List LogEntry) (places numbers : List ℕ) (entry : LogEntry) : Type 0 where
  pub numbered : IsNumberable bases places numbers entry.step entry.origin
  pub agree : All (λ hint. renumbered bases (number_beside places numbers) hint ≡ renumbered bases (number_of bases (among places) log) hint) (rests_on entry.step entry.origin)

pub next_entry : (bases : ℕ) (log : List LogEntry) (last : Step) (places : List ℕ) (i : ℕ) (steps : List Step) (numbers : List ℕ) (entry : LogEntry) → LiesOver bases log last places → i < length places → slice_get log (get_or places i 0) ≡ Some entry
    → IsDraft bases (among places) log places i steps numbers → IsNext bases log places numbers entry
next_entry bases log last places i steps numbers entry are within got draft = record {
  numbered = numberable bases (get_or places i 0) places numbers entry.step entry.origin (are.can.entries (get_or places i 0) entry got)
      (All-weaker (Contains hints) (IsNumbered bases places numbers) (λ hint by. (both hint by).0) hints (All-contains_itself hints));
  agree = All-weaker (Contains hints) (λ hint. renumbered bases (number_beside places numbers) hint ≡ renumbered bases (number_of bases (among places) log) hint) (λ hint by. (both hint by).1) hints (All-contains_itself hints);
}
  where
    hints : List ℕ
    hints = rests_on entry.step entry.origin

    both : (hint : ℕ) → Contains hints hint → IsNumbered bases places numbers hint × (renumbered bases (number_beside places numbers) hint ≡ renumbered bases (number_of bases (among places) log) hint)
    both hint by = draft_numbers bases (among places) log places i steps numbers (reached_kept bases log last places are) (omega (arith, within)) draft hint (stands_before bases log last places i entry are within got hint by)

-- the last step has its numbers
last_numbers : (bases : ℕ) (log : List LogEntry) (last : Step) (places : List ℕ) (i : ℕ) (steps : List Step) (numbers : List ℕ) → LiesOver bases log last places → i ≡ length places → IsDraft bases (among places) log places i steps numbers
    → (hint : ℕ) → Contains last.hints hint → IsNumbered bases places numbers hint × (renumbered bases (number_beside places numbers) hint ≡ renumbered bases (number_of bases (among places) log) hint)
last_numbers bases log last places i steps numbers are end draft hint by = draft_numbers bases (among places) log places i steps numbers (reached_kept bases log last places are) (omega (arith, end)) draft hint
    (λ other is. let there : (k : ℕ) × (k < length places) × (get_or places k 0 ≡ other) = stands_all bases log last places are hint by other is in (there.0, omega (arith, there.1, end), there.2))

pub last_numbered : (bases : ℕ) (log : List LogEntry) (last : Step) (places : List ℕ) (i : ℕ) (steps : List Step) (numbers : List ℕ) → LiesOver bases log last places → i ≡ length places → IsDraft bases (among places) log places i steps numbers
    → All (IsNumbered bases places numbers) last.hints
last_numbered bases log last places i steps numbers are end draft = All-weaker (Contains last.hints) (IsNumbered bases places numbers) (λ hint by. (last_numbers bases log last places i steps numbers are end draft hint by).0) last.hints (All-contains_itself last.hints)

-- the whole draft and the last step are the cone
pub cone_drafted : (bases : ℕ) (log : List LogEntry) (last : Step) (places : List ℕ) (i : ℕ) (steps : List Step) (numbers : List ℕ) (whole : List Step) → LiesOver bases log last places → i ≡ length places → IsDraft bases (among places) log places i steps numbers
    → whole ≡ steps ++ cone_step bases (number_beside places numbers) last ∷ [] → IsCone bases log last (record { steps = whole })
cone_drafted bases log last places i steps numbers whole are end draft parts = record {
  kept = among places;
  reached = λ place. (λ told. (are.reached place).0 (among_tells places place told), λ reached. kept_is place ((are.reached place).1 reached));
  steps = parts ∙ (λ j. front j ++ step j ∷ []);
}
  where
    kept_is : (place : ℕ) → Contains places place → among places place ≡ true
    kept_is place there = subst (λ (n : ℕ). among places n ≡ true) (get_or_default places there.0 0 place there.1 ∙ there.2) (among_at places there.0 there.1)

    front : steps ≡ cone_steps bases (among places) log (length log)
    front = draft_all bases (among places) log places i steps numbers (reached_kept bases log last places are) (omega (arith, end)) draft

    step : cone_step bases (number_beside places numbers) last ≡ cone_step bases (number_of bases (among places) log) last
    step = cone_step_agree bases (number_beside places numbers) (number_of bases (among places) log) last
        (All-weaker (Contains last.hints) (λ hint. renumbered bases (number_beside places numbers) hint ≡ renumbered bases (number_of bases (among places) log) hint) (λ hint by. (last_numbers bases log last places i steps numbers are end draft hint by).1) last.hints (All-contains_itself last.hints))
