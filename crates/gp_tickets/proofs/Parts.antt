-- What two drew put together, and what all drew in order.
use Rattle.std.proofs.Common.{◌≡◌, ◌∙◌, sym, ap, ℕ, ◌+◌, List, ◌++◌, map, arith, count_by, ◌==◌}
use Rattle.std.specs.Prelude.{IsPermutation}
use Rattle.std.specs.List.Sorted.{IsNonDecreasingBy}
use Rattle.std.proofs.lemmas.List.{map-append}
use Rattle.std.proofs.lemmas.List.Sorted.{IsPermutation-map}
use Rattle.gp_base.specs.CountLaws.{count_permuted}
use Rattle.gp_tickets.specs.declared.drawn.Drawn.{Drawn}
use Rattle.gp_tickets.specs.declared.drawn.Made.{Made}
use Rattle.gp_tickets.specs.declared.hand.Hand.{Hand}
use Rattle.gp_tickets.specs.declared.tickets.Tickets.{Tickets}
use Rattle.gp_tickets.specs.Drawn.{AreInOrder, drawers_of, HasDrawn, numbers_of}
use Rattle.gp_tickets.specs.Hand.{joined}
use Rattle.gp_tickets.specs.Tickets.{hand_of, IsDrawerOf}
use Rattle.gp_tickets.proofs.Order.{in_order, in_row, row_below}

module _ {T : Type 0} where
  pub both_drawn : (tickets : Tickets) (old other new : Drawn T) → HasDrawn tickets old → HasDrawn tickets other → new.made.items ≡ old.made.items ++ other.made.items → IsDrawerOf tickets new.drawer
      → hand_of new.drawer ≡ joined (hand_of old.drawer) (hand_of other.drawer) → HasDrawn tickets new
  both_drawn tickets old other new was one made own hands = record {
    own = own;
    told =
        let drawers : (hand_of new.drawer).drawers ≡ (hand_of old.drawer).drawers + (hand_of other.drawer).drawers = ap (λ (h : Hand). h.drawers) hands in
        let nones : (hand_of new.drawer).nones ≡ (hand_of old.drawer).nones + (hand_of other.drawer).nones = ap (λ (h : Hand). h.nones) hands in
        (omega (arith, drawers, was.told.0), omega (arith, drawers, nones, was.told.1, one.told.1));
    numbers = ap numbers_of made ∙ map-append (λ (m : Made T). m.number) old.made.items other.made.items ∙ (λ i. was.numbers i ++ one.numbers i) ∙ sym (ap (λ (h : Hand). h.drawn) hands);
  }

  pub all_in_order : (tickets : Tickets) (drawn : Drawn T) (sorted : List (Made T)) (values : List T) → HasDrawn tickets drawn → drawers_of drawn ≡ tickets.crew
      → IsPermutation drawn.made.items sorted → IsNonDecreasingBy (λ (m : Made T). m.number) sorted → values ≡ map (λ (m : Made T). m.value) sorted → AreInOrder tickets.count drawn.made.items values
  all_in_order tickets drawn sorted values is all moved ordered are = record {
    sorted = sorted;
    moved = moved;
    numbers = in_order (λ (m : Made T). m.number) 0 tickets.count sorted ordered each;
    are = are;
  }
    where
      each : (number : ℕ) → count_by (◌==◌ number) (numbers_of sorted) ≡ in_row 0 tickets.count number
      each number =
          count_permuted (◌==◌ number) (numbers_of drawn.made.items) (numbers_of sorted) (IsPermutation-map (λ (m : Made T). m.number) drawn.made.items sorted moved)
          ∙ ap (count_by (◌==◌ number)) is.numbers
          ∙ drawn.drawer.whole (all ∙ sym is.own.same_crew) (omega (arith, is.told.0, is.told.1)) number
          ∙ row_below (hand_of drawn.drawer).count number ∙ ap (λ n. in_row 0 n number) is.own.same_count
