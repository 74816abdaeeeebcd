-- A single drawer, before its first draw, after a number and at the end.
use Rattle.std.proofs.Common.{◌≡◌, ◌∙◌, ap, ℕ, ◌+◌, ◌<◌, length, arith}
use Rattle.std.proofs.lemmas.List.{length_push}
use Rattle.gp_tickets.specs.declared.drawn.Drawn.{Drawn}
use Rattle.gp_tickets.specs.declared.hand.Hand.{Hand}
use Rattle.gp_tickets.specs.declared.tickets.Drawer.{Drawer}
use Rattle.gp_tickets.specs.declared.tickets.Tickets.{Tickets}
use Rattle.gp_tickets.specs.Drawn.{HasDrawn, numbers_of}
use Rattle.gp_tickets.specs.Hand.{drew, told_none}
use Rattle.gp_tickets.specs.Tickets.{hand_of, IsDrawerOf, IsSingle, IsUnused}

pub unused_is_single : (tickets : Tickets) (drawer : Drawer) → IsUnused tickets drawer → IsSingle tickets 0 drawer
unused_is_single tickets drawer is = record { own = is.0; one = ap (λ (h : Hand). h.drawers) is.1; told = ap (λ (h : Hand). h.nones) is.1 }

pub still_single : (tickets : Tickets) (old new : Drawer) (number : ℕ) → IsSingle tickets 0 old → IsDrawerOf tickets new → hand_of new ≡ drew (hand_of old) number → IsSingle tickets 0 new
still_single tickets old new number single own is = record { own = own; one = ap (λ (h : Hand). h.drawers) is ∙ single.one; told = ap (λ (h : Hand). h.nones) is ∙ single.told }

pub told_single : (tickets : Tickets) (old new : Drawer) → IsSingle tickets 0 old → IsDrawerOf tickets new → hand_of new ≡ told_none (hand_of old) → IsSingle tickets 1 new
told_single tickets old new single own is = record { own = own; one = ap (λ (h : Hand). h.drawers) is ∙ single.one; told = ap (λ (h : Hand). h.nones) is ∙ ap (λ n. n + 1) single.told }

-- a drawer that drew one number more had drawn fewer than there are
pub fewer_drawn : (tickets : Tickets) (old new : Drawer) (number : ℕ) → IsDrawerOf tickets new → hand_of new ≡ drew (hand_of old) number → length (hand_of old).drawn < tickets.count
fewer_drawn tickets old new number own is =
    let more : length (hand_of new).drawn ≡ length (hand_of old).drawn + 1 = ap (λ (h : Hand). length h.drawn) is ∙ length_push (hand_of old).drawn number in
    omega (arith, more, new.sound.few, own.same_count)

-- a single drawer that was told that no number is left has drawn
pub single_has_drawn : {T : Type 0} (tickets : Tickets) (drawn : Drawn T) → IsSingle tickets 1 drawn.drawer → numbers_of drawn.made.items ≡ (hand_of drawn.drawer).drawn → HasDrawn tickets drawn
single_has_drawn tickets drawn single numbers = record { own = single.own; told = (omega (arith, single.one), omega (arith, single.one, single.told)); numbers = numbers }
