-- Each step of a drawer keeps the rule, and what it learns by it.
use Rattle.std.proofs.Common.{◌≡◌, refl, sym, ◌∙◌, ap, subst, ℕ, ◌+◌, ◌-◌, ◌<◌, ◌≤◌, ◌≢◌, ◌==◌, ⊎_elim, min, List, [], ◌∷◌, ◌++◌, length, set, if◌then◌else◌, length-append, count_by, sum_by, arith}
use Rattle.std.proofs.lemmas.List.Sums.{sum_by_push}
use mathlib.Core.Option.{some}
use lib.ListN.{get_elem?}
use Rattle.atomic_table.proofs.Lists.{at_set, at_snoc, set_else}
use Rattle.gp_tickets.specs.declared.hand.Hand.{Hand}
use Rattle.gp_tickets.specs.Hand.{drew, joined, left_of, once_below, one_of, spent, told_none}
use Rattle.gp_base.specs.SumLaws.{count_append, sum_set}
use Rattle.gp_tickets.specs.Rule.{drawn_in, Fits, Kept, nones_in}

-- all hands fit where one that fits changes, or is added
fits_set : (count crew : ℕ) (hands : List Hand) (seat : ℕ) (new : Hand) → ((other : ℕ) (hand : Hand) → get_elem? hands other ≡ some hand → Fits count crew hand) → Fits count crew new
    → (other : ℕ) (hand : Hand) → get_elem? (set hands seat new) other ≡ some hand → Fits count crew hand
fits_set count crew hands seat new fits own other hand at =
    ⊎_elim (λ here. subst (Fits count crew) here.1 own) (λ there. fits other hand there.1) (at_set hands seat other new hand at)

fits_push : (count crew : ℕ) (hands : List Hand) (new : Hand) → ((other : ℕ) (hand : Hand) → get_elem? hands other ≡ some hand → Fits count crew hand) → Fits count crew new
    → (other : ℕ) (hand : Hand) → get_elem? (hands ++ new ∷ []) other ≡ some hand → Fits count crew hand
fits_push count crew hands new fits own other hand at =
    ⊎_elim (λ there. fits other hand there) (λ here. subst (Fits count crew) here own) (at_snoc hands new hand other at)

-- the number after those below n is n
once_next : (number n : ℕ) → once_below number (n + 1) ≡ once_below number n + (if number == n then 1 else 0)
once_next number n = grind arith

-- a number below the count is drawn
pub keeps_drawn : (count crew : ℕ) (words : List ℕ) (hands : List Hand) (seat : ℕ) (hand : Hand) → Kept count crew words hands → get_elem? hands seat ≡ some hand → hand.nones < hand.drawers
    → (found : ℕ) → drawn_in hands + nones_in hands ≡ found → found < count → Kept count crew ((found + 1) ∷ []) (set hands seat (drew hand found))
keeps_drawn count crew words hands seat hand kept at unfinished found is below = record {
  small = kept.small;
  word = ap (λ (n : ℕ). n ∷ []) (omega (arith, lengths, nones, longer, is));
  fits = fits_set count crew hands seat (drew hand found) kept.fits (record {
    same = old.same;
    few = old.few;
    idle = λ none. absurd (omega (arith, unfinished, none));
  });
  each = λ number.
      let now = sum_set (λ (one : Hand). count_by (◌==◌ number) one.drawn) hands seat hand (drew hand found) at in
      let more = count_append (◌==◌ number) hand.drawn (found ∷ []) in
      let was : sum_by (λ (one : Hand). count_by (◌==◌ number) one.drawn) hands ≡ once_below number found = kept.each number ∙ ap (λ n. once_below number n) before in
      let next = once_next number found in
      let due : sum_by (λ (one : Hand). count_by (◌==◌ number) one.drawn) (set hands seat (drew hand found)) ≡ once_below number (found + 1) = omega (arith, now, more, was, next) in
      due ∙ ap (λ n. once_below number n) (sym after);
  drawn = omega (arith, lengths, nones, longer, is, below, kept.drawn);
  parts = omega (arith, drawers, kept.parts);
}
  where
    old : Fits count crew hand
    old = kept.fits seat hand at

    lengths : drawn_in (set hands seat (drew hand found)) + length hand.drawn ≡ drawn_in hands + length (hand.drawn ++ found ∷ [])
    lengths = sum_set (λ (one : Hand). length one.drawn) hands seat hand (drew hand found) at

    nones : nones_in (set hands seat (drew hand found)) + hand.nones ≡ nones_in hands + hand.nones
    nones = sum_set (λ (one : Hand). one.nones) hands seat hand (drew hand found) at

    drawers : sum_by (λ (one : Hand). one.drawers) (set hands seat (drew hand found)) + hand.drawers ≡ sum_by (λ (one : Hand). one.drawers) hands + hand.drawers
    drawers = sum_set (λ (one : Hand). one.drawers) hands seat hand (drew hand found) at

    longer : length (hand.drawn ++ found ∷ []) ≡ length hand.drawn + 1
    longer = length-append hand.drawn (found ∷ [])

    before : min count (drawn_in hands + nones_in hands) ≡ found
    before = omega (arith, is, below)

    after : min count (drawn_in (set hands seat (drew hand found)) + nones_in (set hands seat (drew hand found))) ≡ found + 1
    after = omega (arith, lengths, nones, longer, is, below)

-- none is left
pub keeps_none : (count crew : ℕ) (words : List ℕ) (hands : List Hand) (seat : ℕ) (hand : Hand) → Kept count crew words hands → get_elem? hands seat ≡ some hand → hand.nones < hand.drawers
    → (found : ℕ) → drawn_in hands + nones_in hands ≡ found → count ≤ found → Kept count crew ((found + 1) ∷ []) (set hands seat (told_none hand))
keeps_none count crew words hands seat hand kept at unfinished found is past = record {
  small = kept.small;
  word = ap (λ (n : ℕ). n ∷ []) (omega (arith, lengths, nones, is));
  fits = fits_set count crew hands seat (told_none hand) kept.fits (record {
    same = old.same;
    few = omega (arith, unfinished);
    idle = λ none. absurd (omega (arith, unfinished, none));
  });
  each = λ number.
      let now = sum_set (λ (one : Hand). count_by (◌==◌ number) one.drawn) hands seat hand (told_none hand) at in
      let was : sum_by (λ (one : Hand). count_by (◌==◌ number) one.drawn) hands ≡ once_below number count = kept.each number ∙ ap (λ n. once_below number n) before in
      let due : sum_by (λ (one : Hand). count_by (◌==◌ number) one.drawn) (set hands seat (told_none hand)) ≡ once_below number count = omega (arith, now, was) in
      due ∙ ap (λ n. once_below number n) (sym after);
  drawn = omega (arith, lengths, nones, is, past, kept.drawn);
  parts = omega (arith, drawers, kept.parts);
}
  where
    old : Fits count crew hand
    old = kept.fits seat hand at

    lengths : drawn_in (set hands seat (told_none hand)) + length hand.drawn ≡ drawn_in hands + length hand.drawn
    lengths = sum_set (λ (one : Hand). length one.drawn) hands seat hand (told_none hand) at

    nones : nones_in (set hands seat (told_none hand)) + hand.nones ≡ nones_in hands + (hand.nones + 1)
    nones = sum_set (λ (one : Hand). one.nones) hands seat hand (told_none hand) at

    drawers : sum_by (λ (one : Hand). one.drawers) (set hands seat (told_none hand)) + hand.drawers ≡ sum_by (λ (one : Hand). one.drawers) hands + hand.drawers
    drawers = sum_set (λ (one : Hand). one.drawers) hands seat hand (told_none hand) at

    before : min count (drawn_in hands + nones_in hands) ≡ count
    before = omega (arith, is, past)

    after : min count (drawn_in (set hands seat (told_none hand)) + nones_in (set hands seat (told_none hand))) ≡ count
    after = omega (arith, lengths, nones, is, past)

-- one of the drawers is handed over
pub keeps_split : (count crew : ℕ) (words : List ℕ) (hands : List Hand) (seat : ℕ) (hand : Hand) → Kept count crew words hands → get_elem? hands seat ≡ some hand
    → 1 < hand.drawers → hand.nones ≡ 0 → Kept count crew words (set hands seat (left_of hand) ++ one_of hand ∷ [])
keeps_split count crew words hands seat hand kept at several unfinished = record {
  small = kept.small;
  word = kept.word ∙ ap (λ (n : ℕ). n ∷ []) (sym same_word);
  fits = fits_push count crew (set hands seat (left_of hand)) (one_of hand)
      (fits_set count crew hands seat (left_of hand) kept.fits (record {
        same = λ some_one. old.same (omega (arith, several));
        few = omega (arith, unfinished);
        idle = λ none. absurd (omega (arith, several, none));
      })) (record {
        same = λ some_one. old.same (omega (arith, several));
        few = omega arith;
        idle = λ none. refl;
      });
  each = λ number.
      let set_is = sum_set (λ (one : Hand). count_by (◌==◌ number) one.drawn) hands seat hand (left_of hand) at in
      let push_is = sum_by_push (λ (one : Hand). count_by (◌==◌ number) one.drawn) (set hands seat (left_of hand)) (one_of hand) in
      let is = kept.each number in
      let due : sum_by (λ (one : Hand). count_by (◌==◌ number) one.drawn) (set hands seat (left_of hand) ++ one_of hand ∷ []) ≡ once_below number (min count (drawn_in hands + nones_in hands)) = omega (arith, set_is, push_is, is) in
      due ∙ ap (λ n. once_below number (min count n)) (sym same_word);
  drawn = omega (arith, lengths, more_lengths, nones, more_nones, kept.drawn);
  parts = omega (arith, drawers, more_drawers, several, kept.parts);
}
  where
    old : Fits count crew hand
    old = kept.fits seat hand at

    lengths : drawn_in (set hands seat (left_of hand)) + length hand.drawn ≡ drawn_in hands + length hand.drawn
    lengths = sum_set (λ (one : Hand). length one.drawn) hands seat hand (left_of hand) at

    more_lengths : drawn_in (set hands seat (left_of hand) ++ one_of hand ∷ []) ≡ drawn_in (set hands seat (left_of hand)) + 0
    more_lengths = sum_by_push (λ (one : Hand). length one.drawn) (set hands seat (left_of hand)) (one_of hand)

    nones : nones_in (set hands seat (left_of hand)) + hand.nones ≡ nones_in hands + hand.nones
    nones = sum_set (λ (one : Hand). one.nones) hands seat hand (left_of hand) at

    more_nones : nones_in (set hands seat (left_of hand) ++ one_of hand ∷ []) ≡ nones_in (set hands seat (left_of hand)) + 0
    more_nones = sum_by_push (λ (one : Hand). one.nones) (set hands seat (left_of hand)) (one_of hand)

    drawers : sum_by (λ (one : Hand). one.drawers) (set hands seat (left_of hand)) + hand.drawers ≡ sum_by (λ (one : Hand). one.drawers) hands + (hand.drawers - 1)
    drawers = sum_set (λ (one : Hand). one.drawers) hands seat hand (left_of hand) at

    more_drawers : sum_by (λ (one : Hand). one.drawers) (set hands seat (left_of hand) ++ one_of hand ∷ []) ≡ sum_by (λ (one : Hand). one.drawers) (set hands seat (left_of hand)) + 1
    more_drawers = sum_by_push (λ (one : Hand). one.drawers) (set hands seat (left_of hand)) (one_of hand)

    same_word : drawn_in (set hands seat (left_of hand) ++ one_of hand ∷ []) + nones_in (set hands seat (left_of hand) ++ one_of hand ∷ []) ≡ drawn_in hands + nones_in hands
    same_word = omega (arith, lengths, more_lengths, nones, more_nones)

-- a number of all hands, where one hand takes what another had
total_join : (f : Hand → ℕ) (hands : List Hand) (seat other : ℕ) (hand one both : Hand) → get_elem? hands seat ≡ some hand → get_elem? (set hands seat both) other ≡ some one
    → f both ≡ f hand + f one → f spent ≡ 0 → sum_by f (set (set hands seat both) other spent) ≡ sum_by f hands
total_join f hands seat other hand one both at there adds nothing =
    let first = sum_set f hands seat hand both at in
    let second = sum_set f (set hands seat both) other one spent there in omega arith

-- one drawer stands for both
pub keeps_join : (count crew : ℕ) (words : List ℕ) (hands : List Hand) (seat other : ℕ) (hand one : Hand) → Kept count crew words hands → get_elem? hands seat ≡ some hand → 0 < hand.drawers → other ≢ seat
    → get_elem? (set hands seat (joined hand one)) other ≡ some one → Kept count crew words (set (set hands seat (joined hand one)) other spent)
keeps_join count crew words hands seat other hand one kept at some_one apart there = record {
  small = kept.small;
  word = kept.word ∙ ap (λ (n : ℕ). n ∷ []) (sym same_word);
  fits = fits_set count crew (set hands seat (joined hand one)) other spent
      (fits_set count crew hands seat (joined hand one) kept.fits (record {
        same = λ more. old.same some_one;
        few = omega (arith, old.few, second.few);
        idle = λ none. absurd (omega (arith, some_one, none));
      })) (record { same = λ more. absurd (omega (arith, more)); few = omega arith; idle = λ none. refl });
  each = λ number.
      let is = kept.each number in
      let due = total_join (λ (h : Hand). count_by (◌==◌ number) h.drawn) hands seat other hand one (joined hand one) at there (count_append (◌==◌ number) hand.drawn one.drawn) refl in
      due ∙ is ∙ ap (λ n. once_below number (min count n)) (sym same_word);
  drawn = omega (arith, lengths, nones, kept.drawn);
  parts = omega (arith, drawers, kept.parts);
}
  where
    old : Fits count crew hand
    old = kept.fits seat hand at

    was_there : get_elem? hands other ≡ some one
    was_there = sym (set_else hands seat other (joined hand one) apart) ∙ there

    second : Fits count crew one
    second = kept.fits other one was_there

    lengths : drawn_in (set (set hands seat (joined hand one)) other spent) ≡ drawn_in hands
    lengths = total_join (λ (h : Hand). length h.drawn) hands seat other hand one (joined hand one) at there (length-append hand.drawn one.drawn) refl

    nones : nones_in (set (set hands seat (joined hand one)) other spent) ≡ nones_in hands
    nones = total_join (λ (h : Hand). h.nones) hands seat other hand one (joined hand one) at there refl refl

    drawers : sum_by (λ (h : Hand). h.drawers) (set (set hands seat (joined hand one)) other spent) ≡ sum_by (λ (h : Hand). h.drawers) hands
    drawers = total_join (λ (h : Hand). h.drawers) hands seat other hand one (joined hand one) at there refl refl

    same_word : drawn_in (set (set hands seat (joined hand one)) other spent) + nones_in (set (set hands seat (joined hand one)) other spent) ≡ drawn_in hands + nones_in hands
    same_word = omega (arith, lengths, nones)
