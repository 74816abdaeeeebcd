-- One number more.
use Rattle.std.proofs.Common.{◌≡◌, sym, ◌∙◌, ap, ℕ, ◌-◌, List, [], ◌∷◌, ◌++◌, append_assoc, arith}
use Rattle.std.specs.List.{range_with_len}
use Rattle.std.proofs.lemmas.List.{append-nil}
use Rattle.gp_workers.proofs.InboxRows.{range_next}
use Rattle.gp_workers.proofs.inboxes.add_range.Goals as goal

pub loop-number-init : goal.loop-number-init
loop-number-init c =
    let none : c.args.from - c.args.from ≡ 0 = omega arith in
    sym (append-nil c.args.numbers.now.items) ∙ ap (λ (n : ℕ). c.args.numbers.now.items ++ range_with_len c.args.from n) (sym none)

pub loop-number-preserved : goal.loop-number-preserved
loop-number-preserved c =
    let from = c.args.from in
    let number = c.loop-number.number in
    c.in_ok-push.ensures.items ∙ ap (λ (ns : List ℕ). ns ++ number ∷ []) c.loop-number.invariant
    ∙ append_assoc c.args.numbers.now.items (range_with_len from (number - from)) (number ∷ [])
    ∙ ap (λ (ns : List ℕ). c.args.numbers.now.items ++ ns) (sym (range_next from number c.loop-number.auto.number))

pub returns : goal.returns
returns c =
    let done : c.loop-number.number - c.args.from ≡ c.args.to - c.args.from = omega (arith, c.loop-number-test.false, c.loop-number.auto.number-end c.requires) in
    c.loop-number.invariant ∙ ap (λ (n : ℕ). c.args.numbers.now.items ++ range_with_len c.args.from n) done
