-- Answers of windows that are drawn by ticket, put together and in order.
use Rattle.std.proofs.Common.{◌≡◌, sym, ap, ◌∙◌, subst, ℕ, zero, suc, ◌+◌, List, [], ◌∷◌, ◌++◌, length, map, drop, get_or, add-one, All, arith}
use Rattle.std.specs.List.{range_with_len}
use Rattle.std.proofs.lemmas.List.{length-map, map-append}
use Rattle.std.proofs.lemmas.List.Elements.{All-append, All-head, All-push, All-tail}
use Rattle.std.proofs.lemmas.List.FromFn.{length-range_with_len}
use Rattle.std.proofs.lemmas.List.Sorted.{All-permutation}
use Rattle.gp_tickets.specs.declared.drawn.Drawn.{Drawn}
use Rattle.gp_tickets.specs.declared.drawn.Made.{Made}
use Rattle.gp_tickets.specs.declared.tickets.Tickets.{Tickets}
use Rattle.gp_tickets.specs.Drawn.{AreInOrder, drawers_of, HasDrawn, numbers_of}
use Rattle.gp_window.specs.RecordingForm.{RecordingForm}
use Rattle.gp_linked.specs.declared.answer.LinkAnswer.{LinkAnswer}
use Rattle.gp_linked.specs.Answered.{AnswersFrom, AnswersNext}
use Rattle.gp_linked.specs.Drawn.{AnswersDrawn, AnswersOwn}

module _ (r : RecordingForm) (budget : ℕ) where
  -- one window more is drawn and answered
  pub next_drawn : (ticket : ℕ) (before after : List ℕ) (made more : List (Made LinkAnswer)) (k : ℕ) (own : LinkAnswer) → k ≡ ticket + 1 → AnswersNext r budget k own
      → numbers_of made ≡ before → All (AnswersOwn r budget) made → after ≡ before ++ ticket ∷ [] → more ≡ made ++ record { number = ticket; value = own } ∷ []
      → (numbers_of more ≡ after) × All (AnswersOwn r budget) more
  next_drawn ticket before after made more k own is answers numbers all drawn pushed = (
    ap numbers_of pushed ∙ map-append (λ (m : Made LinkAnswer). m.number) made (one ∷ []) ∙ (λ i. numbers i ++ ticket ∷ []) ∙ sym drawn,
    subst (All (AnswersOwn r budget)) (sym pushed)
        (All-push (AnswersOwn r budget) made one all (subst (λ (n : ℕ). AnswersNext r budget n own) is answers)),
  )
    where
      one : Made LinkAnswer
      one = record { number = ticket; value = own }

  -- what another drew is put to the rest
  pub both_drawn : (tickets : Tickets) (drawers : ℕ) (old other new : Drawn LinkAnswer) → AnswersDrawn tickets r budget drawers old → AnswersDrawn tickets r budget 1 other
      → new.made.items ≡ old.made.items ++ other.made.items → HasDrawn tickets new → drawers_of new ≡ drawers_of old + drawers_of other → AnswersDrawn tickets r budget (drawers + 1) new
  both_drawn tickets drawers old other new was one made own both = record {
    own = own;
    stands_for = both ∙ (λ i. was.stands_for i + one.stands_for i);
    answers = subst (All (AnswersOwn r budget)) (sym made) (All-append (AnswersOwn r budget) old.made.items other.made.items was.answers one.answers);
  }

  -- what was made of a row of tickets are the answers of the windows of that row
  each_answered : (first number : ℕ) (sorted : List (Made LinkAnswer)) → All (AnswersOwn r budget) sorted → numbers_of sorted ≡ range_with_len first number
      → AnswersFrom r budget (first + 1) (map (λ (m : Made LinkAnswer). m.value) sorted)
  each_answered first number [] all row = tt
  each_answered first zero (own ∷ sorted) all row = absurd (let n : suc (length (numbers_of sorted)) ≡ 0 = ap (λ (ns : List ℕ). length ns) row in omega (arith, n))
  each_answered first (suc number) (own ∷ sorted) all row = (
    subst (λ (k : ℕ). AnswersNext r budget (k + 1) own.value) (ap (λ (ns : List ℕ). get_or ns 0 0) row) (All-head (AnswersOwn r budget) own sorted all),
    subst (λ (k : ℕ). AnswersFrom r budget k (map (λ (m : Made LinkAnswer). m.value) sorted)) (add-one (first + 1))
        (each_answered (first + 1) number sorted (All-tail (AnswersOwn r budget) own sorted all) (ap (λ (ns : List ℕ). drop 1 ns) row)),
  )

  -- what the whole crew drew, in the order of the tickets, are the answers of the windows from the first on, in order
  pub answered_in_order : (tickets : Tickets) (drawn : Drawn LinkAnswer) (values : List LinkAnswer) → AnswersDrawn tickets r budget tickets.crew drawn
      → AreInOrder tickets.count drawn.made.items values → (length values ≡ tickets.count) × AnswersFrom r budget 1 values
  answered_in_order tickets drawn values is ordered = (
    ap (λ (vs : List LinkAnswer). length vs) ordered.are ∙ length-map ordered.sorted (λ (m : Made LinkAnswer). m.value)
        ∙ sym (length-map ordered.sorted (λ (m : Made LinkAnswer). m.number)) ∙ ap (λ (ns : List ℕ). length ns) ordered.numbers ∙ length-range_with_len 0 tickets.count,
    subst (AnswersFrom r budget 1) (sym ordered.are)
        (each_answered 0 tickets.count ordered.sorted (All-permutation (AnswersOwn r budget) drawn.made.items ordered.sorted ordered.moved is.answers) ordered.numbers),
  )
