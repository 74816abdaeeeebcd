use Rattle.std.proofs.Common.{◌≡◌, ◌-◌, ◌<◌, ◌∙◌, ℕ, ap, sym, subst, length, get_or, vec_len}
use Rattle.std.specs.Prelude.{Some, slice_get}
use Rattle.gp_certificate.proofs.Rowing.{last_popped, popped_keeps}
use Rattle.gp_certificate.proofs.loaded.pop_from.Goals as goal

pub loop-last-preserved : goal.loop-last-preserved
loop-last-preserved c = λ number below has.
    let row = c.loop-last.row.items in
    let got : slice_get row (length row - 1) ≡ Some c.in-Some.last = rw (← c.as_slice.ensures.value) (sym c.last.ensures.value ∙ sym c.copied.ensures ∙ c.in-Some.is) in
    let size : vec_len c.loop-last.row ≡ length row = sym c.as_slice.ensures.len ∙ ap length c.as_slice.ensures.value in
    let value : (d : ℕ) → 0 < length row → c.pop.result ≡ Some (get_or row (length row - 1) d) =
    λ d some. subst (λ (n : ℕ). c.pop.result ≡ Some (get_or row (n - 1) d)) size (c.pop.ensures.value d (subst (λ (n : ℕ). 0 < n) (sym size) some)) in
    popped_keeps row c.pop.new.self.items c.in-Some.last c.args.count number (last_popped row c.pop.new.self.items c.in-Some.last c.pop.result got c.pop.ensures.items value) c.if-last-count.false below
    (c.loop-last.invariant number below has)
