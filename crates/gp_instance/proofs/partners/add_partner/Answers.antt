-- The event is held by its key, or all count.
use Rattle.std.proofs.Common.{◌≡◌, refl, sym, ◌∙◌, ap, true}
use Rattle.gp_window.specs.Events.{event_in}
use Rattle.gp_instance.specs.Partners.{is_bound, names_with}
use Rattle.gp_instance.proofs.Held.{counts_free, counts_held, counts_still}
use Rattle.gp_instance.proofs.partners.add_partner.Goals as goal

pub returns-then-not-is_bound-clause-here : goal.returns-then-not-is_bound-clause-here
returns-then-not-is_bound-clause-here c = counts_free _ _ _ _ _ refl

pub returns-then-not-is_bound-clause-kept : goal.returns-then-not-is_bound-clause-kept
returns-then-not-is_bound-clause-kept c = λ other counts. counts_free _ _ _ _ _ refl

pub returns-clause-here : goal.returns-clause-here
returns-clause-here c =
    let names = names_with (event_in c.args.segments.now c.args.id) in
    let bound : is_bound c.args.side c.args.link.now.shared names ≡ true =
    ap (λ shared. is_bound c.args.side shared names) (sym c.as_slice.ensures) ∙ ap (is_bound c.args.side c.as_slice.result.now) (sym c.names_of_id.ensures) ∙ sym c.is_bound.ensures ∙ c.if-not-is_bound.false in
    counts_held _ _ _ _ _ _ bound c.in_ok-key.ensures c.in_ok-hold.ensures.here

pub returns-clause-kept : goal.returns-clause-kept
returns-clause-kept c = λ other counts. counts_still _ _ _ _ _ _ refl c.in_ok-hold.ensures.kept counts
