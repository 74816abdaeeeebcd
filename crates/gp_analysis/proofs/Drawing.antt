-- What is recorded of windows that are drawn by ticket, put together and in order.
use Rattle.std.proofs.Common.{◌≡◌, sym, ap, ◌∙◌, subst, ℕ, zero, suc, ◌+◌, ◌-◌, ◌<◌, List, [], ◌∷◌, ◌++◌, length, map, drop, get_or, All, IfOk, Result, Ok, Err, arith}
use Rattle.std.specs.List.{range_with_len}
use Rattle.std.proofs.lemmas.List.{map-append}
use Rattle.std.proofs.lemmas.List.Elements.{All-append, All-head, All-push, All-tail, All-weaker}
use Rattle.std.proofs.lemmas.List.Sorted.{All-permutation}
use Rattle.gp_report.specs.declared.record.WindowRecordOf.{WindowRecordOf}
use Rattle.gp_tickets.specs.declared.drawn.Drawn.{Drawn}
use Rattle.gp_tickets.specs.declared.drawn.Made.{Made}
use Rattle.gp_tickets.specs.declared.tickets.Tickets.{Tickets}
use Rattle.gp_tickets.specs.Drawn.{AreInOrder, drawers_of, HasDrawn, numbers_of}
use Rattle.gp_window.specs.RecordingForm.{RecordingForm}
use Rattle.gp_window.specs.WindowForm.{numbers_from, window_of}
use Rattle.gp_window.specs.Windows.{all_windows}
use Rattle.gp_analysis.specs.Drawn.{RecordsDrawn, RecordsOwn}
use Rattle.gp_analysis.specs.Question.{QuestionForm}
use Rattle.gp_analysis.specs.declared.task.Telling.{Telling}
use Rattle.gp_analysis.specs.Telling.{RecordEachAs, RecordsAs}

-- a list with an element is not empty
not_empty : (n : ℕ) → suc n ≡ 0 → ⊥
not_empty n is = omega arith

-- with one ticket more drawn there are fewer left
pub fewer_left : (count before after : ℕ) → after ≡ before + 1 → before < count → count - after < count - before
fewer_left count before after more fewer = omega arith

module _ {Subject Shown : Type 0} (question : QuestionForm Subject Shown) (telling : Telling) (r : RecordingForm) (count budget : ℕ) where
  -- one window more is drawn and recorded
  pub next_drawn : (ticket : ℕ) (before after : List ℕ) (made more : List (Made (WindowRecordOf Shown))) (k : ℕ) (own : WindowRecordOf Shown) → k ≡ ticket + 1 → RecordsAs question telling count budget (window_of r k) own
      → numbers_of made ≡ before → All (RecordsOwn question telling r count budget) made → after ≡ before ++ ticket ∷ [] → more ≡ made ++ record { number = ticket; value = own } ∷ []
      → (numbers_of more ≡ after) × All (RecordsOwn question telling r count budget) more
  next_drawn ticket before after made more k own is records numbers all drawn pushed = (
    ap numbers_of pushed ∙ map-append (λ (m : Made (WindowRecordOf Shown)). m.number) made (one ∷ []) ∙ (λ i. numbers i ++ ticket ∷ []) ∙ sym drawn,
    subst (All (RecordsOwn question telling r count budget)) (sym pushed)
        (All-push (RecordsOwn question telling r count budget) made one all (subst (λ (n : ℕ). RecordsAs question telling count budget (window_of r n) own) is records)),
  )
    where
      one : Made (WindowRecordOf Shown)
      one = record { number = ticket; value = own }

  one_has : {E : Type 0} (tickets : Tickets) (part : Result (Drawn (WindowRecordOf Shown)) E) → IfOk part (RecordsDrawn question telling tickets r count budget 1) → IfOk part (HasDrawn tickets)
  one_has tickets (Ok drawn) records = records.own
  one_has tickets (Err error) records = tt

  -- where each part records what it drew, each has drawn
  pub all_have_drawn : {E : Type 0} (tickets : Tickets) (parts : List (Result (Drawn (WindowRecordOf Shown)) E)) → All (λ part. IfOk part (RecordsDrawn question telling tickets r count budget 1)) parts
      → All (λ part. IfOk part (HasDrawn tickets)) parts
  all_have_drawn tickets parts all =
      All-weaker (λ part. IfOk part (RecordsDrawn question telling tickets r count budget 1)) (λ part. IfOk part (HasDrawn tickets)) (λ part records. one_has tickets part records) parts all

  -- what another drew is put to the rest
  pub both_drawn : (tickets : Tickets) (drawers : ℕ) (old other new : Drawn (WindowRecordOf Shown)) → RecordsDrawn question telling tickets r count budget drawers old → RecordsDrawn question telling tickets r count budget 1 other
      → new.made.items ≡ old.made.items ++ other.made.items → HasDrawn tickets new → drawers_of new ≡ drawers_of old + drawers_of other → RecordsDrawn question telling tickets r count budget (drawers + 1) new
  both_drawn tickets drawers old other new was one made own both = record {
    own = own;
    stands_for = both ∙ (λ i. was.stands_for i + one.stands_for i);
    records = subst (All (RecordsOwn question telling r count budget)) (sym made) (All-append (RecordsOwn question telling r count budget) old.made.items other.made.items was.records one.records);
  }

  -- what was made of a row of tickets are the records of the windows of that row
  each_recorded : (first number : ℕ) (sorted : List (Made (WindowRecordOf Shown))) → All (RecordsOwn question telling r count budget) sorted → numbers_of sorted ≡ range_with_len first number
      → RecordEachAs question telling count budget (map (window_of r) (numbers_from (first + 1) number)) (map (λ (m : Made (WindowRecordOf Shown)). m.value) sorted)
  each_recorded first zero [] all row = tt
  each_recorded first zero (own ∷ sorted) all row = absurd (not_empty (length (numbers_of sorted)) (ap (λ (ns : List ℕ). length ns) row))
  each_recorded first (suc number) [] all row = absurd (not_empty (length (range_with_len (first + 1) number)) (sym (ap (λ (ns : List ℕ). length ns) row)))
  each_recorded first (suc number) (own ∷ sorted) all row = (
    subst (λ (k : ℕ). RecordsAs question telling count budget (window_of r (k + 1)) own.value) (ap (λ (ns : List ℕ). get_or ns 0 0) row) (All-head (RecordsOwn question telling r count budget) own sorted all),
    each_recorded (first + 1) number sorted (All-tail (RecordsOwn question telling r count budget) own sorted all) (ap (λ (ns : List ℕ). drop 1 ns) row),
  )

  -- what the whole crew drew, in the order of the tickets, are the records of all windows in order
  pub recorded_in_order : (tickets : Tickets) (drawn : Drawn (WindowRecordOf Shown)) (values : List (WindowRecordOf Shown)) → RecordsDrawn question telling tickets r count budget tickets.crew drawn
      → tickets.count ≡ r.manifest.epochs → AreInOrder tickets.count drawn.made.items values → RecordEachAs question telling count budget (all_windows r) values
  recorded_in_order tickets drawn values is counted ordered =
      subst (RecordEachAs question telling count budget (all_windows r)) (sym ordered.are)
      (each_recorded 0 r.manifest.epochs ordered.sorted (All-permutation (RecordsOwn question telling r count budget) drawn.made.items ordered.sorted ordered.moved is.records) (ordered.numbers ∙ ap (range_with_len 0) counted))
