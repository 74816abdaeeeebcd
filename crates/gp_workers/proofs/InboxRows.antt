-- The passes of one inbox, a pass for each worker.
use Rattle.std.proofs.Common.{◌≡◌, refl, sym, ◌∙◌, ap, subst, ℕ, zero, suc, ◌+◌, ◌-◌, ◌<◌, ◌≤◌, ◌⊎◌, inl, inr, Bool, Some, List, [], ◌∷◌, ◌++◌, length, map, All, arith, if◌then◌else◌, count_by, ◌==◌}
use Rattle.std.specs.Prelude.{option_map}
use Rattle.std.specs.List.{insert, range_with_len, slice_get}
use Rattle.std.proofs.lemmas.Bool.{cases_eq, cases_lt, eq-eqb, ne_eqb}
use Rattle.std.proofs.lemmas.List.{length-map}
use Rattle.std.proofs.lemmas.List.Edits.{length-insert}
use Rattle.std.proofs.lemmas.List.Elements.{All-head, All-nil, All-tail}
use Rattle.std.proofs.lemmas.List.FromFn.{length-range_with_len}
use Rattle.std.proofs.lemmas.Option.{same_Some, slice_get-map, slice_get_within}
use Rattle.crossbeam_queue.specs.Passes.{Pass, view}
use Rattle.gp_base.specs.SumLaws.{count_append, count_cons}
use Rattle.gp_clause.specs.declared.problem.Problem.{Problem}
use Rattle.gp_derivation.specs.declared.exchange.SharedClause.{SharedClause}
use Rattle.gp_inbox.specs.declared.inbox.Inbox.{Inbox}
use Rattle.gp_inbox.specs.declared.rule.View.{View}
use Rattle.gp_inbox.specs.Passes.{IsOf}
use Rattle.gp_inbox.specs.Senders.{AllDifferent}
use Rattle.gp_inbox.specs.Views.{sender_view, taker_view}
use Rattle.gp_workers.specs.Sharing.{others}
use Rattle.gp_workers.specs.SharedCrew.{IsNew, IsRow}
use Rattle.gp_workers.proofs.DeskTaken.{others_are}
use Rattle.gp_workers.proofs.InboxPlaces.{got_left, got_right}

-- one number more at the end of a range
pub range_more : (from count next : ℕ) → from + count ≡ next → range_with_len from (count + 1) ≡ range_with_len from count ++ next ∷ []
range_more from zero next is = ap (λ (n : ℕ). n ∷ []) (omega (arith, is))
range_more from (suc count) next is =
    let longer : suc count + 1 ≡ suc (count + 1) = omega arith in
    ap (λ (n : ℕ). range_with_len from n) longer ∙ ap (λ (ns : List ℕ). from ∷ ns) (range_more (from + 1) count next (omega (arith, is)))

pub range_next : (from next : ℕ) → from ≤ next → range_with_len from (next + 1 - from) ≡ range_with_len from (next - from) ++ next ∷ []
range_next from next low =
    let longer : next + 1 - from ≡ next - from + 1 = omega (arith, low) in ap (λ (n : ℕ). range_with_len from n) longer ∙ range_more from (next - from) next (omega (arith, low))

-- how often a number stands in a range
abbrev InRange : ℕ → ℕ → ℕ → Type 0
InRange number from count = (number < from → count_by (◌==◌ number) (range_with_len from count) ≡ 0) × (count_by (◌==◌ number) (range_with_len from count) ≤ 1) × (from + count ≤ number → count_by (◌==◌ number) (range_with_len from count) ≡ 0)

in_longer : (number from count : ℕ) → InRange number (from + 1) count → (number ≡ from) ⊎ (number ≡ from → ⊥) → InRange number from (suc count)
in_longer number from count rest (inl same) =
    let one : count_by (◌==◌ number) (range_with_len from (suc count)) ≡ 1 + count_by (◌==◌ number) (range_with_len (from + 1) count) =
    count_cons (◌==◌ number) from (range_with_len (from + 1) count) ∙ ap (λ (b : Bool). (if b then 1 else 0) + count_by (◌==◌ number) (range_with_len (from + 1) count)) (eq-eqb number from same) in
    let none : count_by (◌==◌ number) (range_with_len (from + 1) count) ≡ 0 = rest.0 (omega (arith, same)) in
    ((λ low. absurd (omega (arith, low, same))), omega (arith, one, none), (λ high. absurd (omega (arith, high, same))))
in_longer number from count rest (inr apart) =
    let none : 0 + count_by (◌==◌ number) (range_with_len (from + 1) count) ≡ count_by (◌==◌ number) (range_with_len (from + 1) count) = omega arith in
    let one : count_by (◌==◌ number) (range_with_len from (suc count)) ≡ count_by (◌==◌ number) (range_with_len (from + 1) count) =
    count_cons (◌==◌ number) from (range_with_len (from + 1) count) ∙ ap (λ (b : Bool). (if b then 1 else 0) + count_by (◌==◌ number) (range_with_len (from + 1) count)) (ne_eqb number from apart) ∙ none in
    ((λ low. one ∙ rest.0 (omega (arith, low))), omega (arith, one, rest.1), (λ high. one ∙ rest.2 (omega (arith, high))))

in_range : (number from count : ℕ) → InRange number from count
in_range number from zero = ((λ low. refl), omega arith, (λ high. refl))
in_range number from (suc count) = in_longer number from count (in_range number (from + 1) count) (cases_eq number from)

-- the other workers have different numbers
pub all_different : (numbers : List ℕ) (count place : ℕ) → numbers ≡ others count place → AllDifferent numbers
all_different numbers count place is number = subst (λ (ns : List ℕ). count_by (◌==◌ number) ns ≤ 1) (sym is) (at (cases_lt number (place + 2)))
  where
    low : List ℕ
    low = range_with_len 1 place

    high : List ℕ
    high = range_with_len (place + 2) (count - (place + 1))

    both : count_by (◌==◌ number) (others count place) ≡ count_by (◌==◌ number) low + count_by (◌==◌ number) high
    both = count_append (◌==◌ number) low high

    early : InRange number 1 place
    early = in_range number 1 place

    late : InRange number (place + 2) (count - (place + 1))
    late = in_range number (place + 2) (count - (place + 1))

    at : (number < place + 2) ⊎ (place + 2 ≤ number) → count_by (◌==◌ number) (others count place) ≤ 1
    at (inl below) = let none : count_by (◌==◌ number) high ≡ 0 = late.0 below in omega (arith, both, none, early.1)
    at (inr above) = let none : count_by (◌==◌ number) low ≡ 0 = early.2 (omega (arith, above)) in omega (arith, both, none, late.1)

-- and are as many as the workers without one
pub others_count : (numbers : List ℕ) (count place : ℕ) → numbers ≡ others count place → place < count → length numbers + 1 ≡ count
others_count numbers count place is within = let size : length numbers ≡ length (others count place) = ap (λ (ns : List ℕ). length ns) is in omega (arith, size, others_are count place within)

-- what stands at a place of a range
got_range : (from count place : ℕ) → place < count → slice_get (range_with_len from count) place ≡ Some (from + place)
got_range from zero place within = absurd (omega (arith, within))
got_range from (suc count) zero within = ap Some (let same : from ≡ from + 0 = omega arith in same)
got_range from (suc count) (suc place) within = got_range (from + 1) count place (omega (arith, within)) ∙ ap Some (let same : from + 1 + place ≡ from + suc place = omega arith in same)

-- the number of a worker, where those of the others stand
other_below : (count place own : ℕ) → own < place → slice_get (others count place) own ≡ Some (own + 1)
other_below count place own low =
    got_left (range_with_len 1 place) (range_with_len (place + 2) (count - (place + 1))) own (omega (arith, low, length-range_with_len 1 place)) ∙ got_range 1 place own low
    ∙ ap Some (let same : 1 + own ≡ own + 1 = omega arith in same)

other_above : (count place before : ℕ) → place ≤ before → before + 1 < count → slice_get (others count place) before ≡ Some (before + 2)
other_above count place before high within =
    let low : List ℕ = range_with_len 1 place in
    let there : before ≡ length low + (before - place) = omega (arith, high, length-range_with_len 1 place) in
    let number : place + 2 + (before - place) ≡ before + 2 = omega (arith, high) in
    ap (λ (n : ℕ). slice_get (others count place) n) there ∙ got_right low (range_with_len (place + 2) (count - (place + 1))) (before - place)
    ∙ got_range (place + 2) (count - (place + 1)) (before - place) (omega (arith, high, within)) ∙ ap Some number

module _ {X : Type 0} where
  -- what stands where one was put in: it there, what stood there before it, and the others a place later
  got_inserted : (xs : List X) (place other : ℕ) (x one : X) → place ≤ length xs → slice_get (insert xs place x) other ≡ Some one
      → ((other < place) × (slice_get xs other ≡ Some one)) ⊎ (((other ≡ place) × (x ≡ one)) ⊎ ((before : ℕ) × (other ≡ before + 1) × (place ≤ before) × (slice_get xs before ≡ Some one)))
  got_inserted [] zero zero x one within got = inr (inl (refl, same_Some x one got))
  got_inserted [] zero (suc other) x one within got = inr (inr (other, omega arith, omega arith, got))
  got_inserted [] (suc place) other x one within got = absurd (omega (arith, within))
  got_inserted (y ∷ xs) zero zero x one within got = inr (inl (refl, same_Some x one got))
  got_inserted (y ∷ xs) zero (suc other) x one within got = inr (inr (other, omega arith, omega arith, got))
  got_inserted (y ∷ xs) (suc place) zero x one within got = inl (omega arith, got)
  got_inserted (y ∷ xs) (suc place) (suc other) x one within got = at (got_inserted xs place other x one (omega (arith, within)) got)
    where
      at : ((other < place) × (slice_get xs other ≡ Some one)) ⊎ (((other ≡ place) × (x ≡ one)) ⊎ ((before : ℕ) × (other ≡ before + 1) × (place ≤ before) × (slice_get xs before ≡ Some one)))
          → ((suc other < suc place) × (slice_get (y ∷ xs) (suc other) ≡ Some one)) ⊎ (((suc other ≡ suc place) × (x ≡ one)) ⊎ ((before : ℕ) × (suc other ≡ before + 1) × (suc place ≤ before) × (slice_get (y ∷ xs) before ≡ Some one)))
      at (inl early) = inl (let low = early.0 in omega (arith, low), early.1)
      at (inr (inl here)) = inr (inl (ap suc here.0, here.1))
      at (inr (inr (before, is, high, there))) = inr (inr (suc before, omega (arith, is), omega (arith, high), there))

  -- what holds of all holds of what stands at a place
  pub all_at : (P : X → Type 0) (xs : List X) (place : ℕ) (x : X) → All P xs → slice_get xs place ≡ Some x → P x
  all_at P [] place x all got = absurd (omega (arith, slice_get_within [] place x got))
  all_at P (y ∷ xs) zero x all got = subst P (same_Some y x got) (All-head P y xs all)
  all_at P (y ∷ xs) (suc place) x all got = all_at P xs place x (All-tail P y xs all) got

-- what the pass of a sender knows
seen_at : (problem : Problem) (senders numbers : List ℕ) (row : List (Pass SharedClause View)) (place number : ℕ) (pass : Pass SharedClause View) → map view row ≡ map (sender_view problem senders) numbers
    → slice_get row place ≡ Some pass → slice_get numbers place ≡ Some number → view pass ≡ sender_view problem senders number
seen_at problem senders numbers row place number pass seen got named =
    same_Some (view pass) (sender_view problem senders number) (sym one ∙ ap (λ (vs : List View). slice_get vs place) seen ∙ two)
  where
    one : slice_get (map view row) place ≡ Some (view pass)
    one = slice_get-map view row place ∙ ap (option_map view) got

    two : slice_get (map (sender_view problem senders) numbers) place ≡ Some (sender_view problem senders number)
    two = slice_get-map (sender_view problem senders) numbers place ∙ ap (option_map (sender_view problem senders)) named

new_sender : (problem : Problem) (count own taker : ℕ) (seen : View) → (taker ≡ own → ⊥) → seen ≡ sender_view problem (others count taker) (own + 1) → IsNew problem count own taker seen
new_sender problem count own taker seen apart is = subst (IsNew problem count own taker) (sym is) (
  record {
    base = refl;
    senders = refl;
    taking = λ same. absurd (apart same);
    sending = λ other. record { numbers = refl; takes = refl; taken = refl; pushed = refl; own = All-nil (λ (shared : SharedClause). shared.sender ≡ own + 1) };
  },
  refl,
)

new_taker : (problem : Problem) (count own : ℕ) (seen : View) → seen ≡ taker_view problem (others count own) → IsNew problem count own own seen
new_taker problem count own seen is = subst (IsNew problem count own own) (sym is) (
  record {
    base = refl;
    senders = refl;
    taking = λ same. record { numbers = refl; takes = refl; pushed = refl };
    sending = λ apart. absurd (apart refl);
  },
  refl,
)

-- the row of a new inbox, with the pass of its taker put in
module _ (problem : Problem) (count taker : ℕ) (inbox : Inbox) (numbers : List ℕ) (row : List (Pass SharedClause View)) (pass : Pass SharedClause View) (within : taker < count) (are : numbers ≡ others count taker)
    (owned : All (IsOf inbox) row) (own : IsOf inbox pass) (seen : map view row ≡ map (sender_view problem numbers) numbers) (taking : view pass ≡ taker_view problem numbers) where
  row_count : length row + 1 ≡ count
  row_count =
      let both : length (map view row) ≡ length (map (sender_view problem numbers) numbers) = ap (λ (vs : List View). length vs) seen in
      omega (arith, both, length-map row view, length-map numbers (sender_view problem numbers), others_count numbers count taker are within)

  pub taker_place : taker ≤ length row
  taker_place = omega (arith, row_count, within)

  sent : map view row ≡ map (sender_view problem (others count taker)) (others count taker)
  sent = subst (λ (ns : List ℕ). map view row ≡ map (sender_view problem ns) ns) are seen

  pub is_row : (new : List (Pass SharedClause View)) → new ≡ insert row taker pass → IsRow problem count taker inbox new
  is_row new is = record {
    len = ap (λ (ps : List (Pass SharedClause View)). length ps) is ∙ length-insert row taker pass taker_place ∙ row_count;
    each = λ place one got. at place one (got_inserted row taker place pass one taker_place (ap (λ (ps : List (Pass SharedClause View)). slice_get ps place) (sym is) ∙ got));
  }
    where
      at : (place : ℕ) (one : Pass SharedClause View)
          → ((place < taker) × (slice_get row place ≡ Some one)) ⊎ (((place ≡ taker) × (pass ≡ one)) ⊎ ((before : ℕ) × (place ≡ before + 1) × (taker ≤ before) × (slice_get row before ≡ Some one)))
          → IsOf inbox one × IsNew problem count place taker (view one)
      at place one (inl (low, got)) = (
        all_at (IsOf inbox) row place one owned got,
        new_sender problem count place taker (view one) (λ same. absurd (omega (arith, low, same)))
            (seen_at problem (others count taker) (others count taker) row place (place + 1) one sent got (other_below count taker place low)),
      )
      at place one (inr (inl (same, is_pass))) = (
        subst (IsOf inbox) is_pass own,
        subst (λ (n : ℕ). IsNew problem count n taker (view one)) (sym same)
            (new_taker problem count taker (view one) (ap view (sym is_pass) ∙ subst (λ (ns : List ℕ). view pass ≡ taker_view problem ns) are taking)),
      )
      at place one (inr (inr (before, is_next, high, got))) = (
        all_at (IsOf inbox) row before one owned got,
        (let there : before < length row = slice_get_within row before one got in
            let number : before + 2 ≡ place + 1 = omega (arith, is_next) in
            new_sender problem count place taker (view one) (λ same. absurd (omega (arith, high, is_next, same)))
            (seen_at problem (others count taker) (others count taker) row before (place + 1) one sent got (other_above count taker before high (omega (arith, there, row_count)) ∙ ap Some number))),
      )
