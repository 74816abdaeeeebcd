use Rattle.std.proofs.Common.{◌≡◌, ℕ, List, [], ◌∷◌, ◌++◌, slice_get, Some, None, sym, ◌∙◌, ap}
use Rattle.std.proofs.lemmas.List.{append_assoc, append-nil}
use Rattle.gp_solver_rows.proofs.queue.numbers.Goals as goal

-- the rest begins with the number at its front
begins : (i : ℕ) (rest : List ℕ) → slice_get rest 0 ≡ Some i → (back : List ℕ) × (rest ≡ i ∷ back)
begins i [] h = absurd (let no : None ≡ Some i = h in cc)
begins i (x ∷ xs) h = (xs, ap (λ y. y ∷ xs) (let same : x ≡ i = cc in same))

pub loop-at-preserved : goal.loop-at-preserved
loop-at-preserved c =
    let h = c.loop-at.invariant in
    let b = begins c.in-Some.i h.0 (sym h.2 ∙ c.in-Some.is) in
    let order : c.args.queue.now ≡ c.loop-at.all.items ++ c.in-Some.i ∷ b.0 = h.1 ∙ ap (λ l. c.loop-at.all.items ++ l) b.1 in (
      b.0,
      order ∙ sym (append_assoc c.loop-at.all.items (c.in-Some.i ∷ []) b.0) ∙ ap (λ l. l ++ b.0) (sym c.in_ok-push.ensures.items),
      c.after-at.ensures.split c.loop-at.all.items b.0 order,
      c.after-at.ensures.below,
    )

-- a rest with no number at its front is empty
ends : (order all rest : List ℕ) → order ≡ all ++ rest → slice_get rest 0 ≡ None → all ≡ order
ends order all [] e h = sym (e ∙ append-nil all)
ends order all (x ∷ xs) e h = absurd (let no : Some x ≡ None = h in cc)

pub returns : goal.returns
returns c =
    let h = c.loop-at.invariant in
    ends c.args.queue.now c.loop-at.all.items h.0 h.1 (sym h.2 ∙ c.in_default.is)
