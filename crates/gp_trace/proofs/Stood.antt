-- Where a thread stands behind one segment more.
use Rattle.std.proofs.Common.{◌≡◌, refl, ap, ◌∙◌, ℕ, ◌+◌, ◌<◌, List, ◌∷◌, length, get_or, drop, drop-cons, add-one}
use Rattle.gp_trace.specs.declared.event.Event.{Event}
use Rattle.gp_trace.specs.declared.rules.Standing.{Standing}
use Rattle.gp_trace.specs.Rules.{after_all}
use Rattle.gp_trace.specs.RulesLaws.{after_both}
use Rattle.gp_trace.specs.Trace.{in_order}

pub one_more : (s : Standing) (segments : List (List Event)) (i : ℕ) (segment : List Event) → i < length segments → segment ≡ get_or segments i segment
    → after_all s (in_order (drop i segments)) ≡ after_all (after_all s segment) (in_order (drop (i + 1) segments))
one_more s segments i segment below is =
    let cut : drop i segments ≡ segment ∷ drop (i + 1) segments = rw (add-one, drop-cons segments i segment below, ← is) refl in
    ap (λ left. after_all s (in_order left)) cut ∙ after_both s segment (in_order (drop (i + 1) segments))
