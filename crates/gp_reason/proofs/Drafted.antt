-- The steps that are told one after another are those of the reason.
use Rattle.std.proofs.Common.{ℕ, zero, suc, ◌≡◌, ◌+◌, ◌<◌, refl, ap, sym, ◌∙◌, subst, inl, inr, arith, Bool, true, false, cond, List, [], ◌∷◌, ◌++◌, append_assoc, length, replicate}
use Rattle.std.specs.Prelude.{◌==◌, if◌then◌else◌, Option, Some, None}
use Rattle.std.specs.List.{position_from}
use Rattle.std.proofs.lemmas.Bool.{cases_order, eq-eqb, ne_eqb}
use Rattle.std.proofs.lemmas.Iterator.Adapters.{position_from-zero}
use Rattle.std.proofs.lemmas.List.{append-nil, get_or_append_left, get_or_past, get_or_push, length-replicate, length_push}
use Rattle.std.proofs.lemmas.List.Elements.{filter-append}
use Rattle.gp_certificate.specs.declared.step.Step.{Step}
use Rattle.gp_clause.specs.declared.lit.Lit.{Lit}
use Rattle.gp_constraint.specs.declared.symbol.Symbol.{Symbol}
use Rattle.gp_window.specs.WindowForm.{WindowForm}
use Rattle.gp_reason.specs.declared.reasons.ReasonStep.{ReasonStep}
use Rattle.gp_reason.specs.declared.steps.Draft.{Draft}
use Rattle.gp_reason.specs.Draft.{after_step, after_steps, first_draft, place_at}
use Rattle.gp_reason.specs.Marks.{is_marked, marked_among}
use Rattle.gp_reason.specs.Reasons.{place_of, step_of, steps_from}
use Rattle.gp_reason.specs.Told.{all_steps, numbered, numbered_from, NumberedStep, told_of}

abbrev or_else : {X : Type 0} → Option X → Option X → Option X
or_else (Some x) other = Some x
or_else None other = other

-- the place of what passes, with one element more
first_or_later : {X : Type 0} (b : Bool) (x : X) (one other : Option X) → cond b (Some x) (or_else one other) ≡ or_else (cond b (Some x) one) other
first_or_later true x one other = refl
first_or_later false x one other = refl

from_push : {X : Type 0} (test : X → Bool) (start end : ℕ) (xs : List X) (x : X) → end ≡ start + length xs
    → position_from test start (xs ++ x ∷ []) ≡ or_else (position_from test start xs) (if test x then Some end else None)
from_push test start end [] x is =
    let same : start ≡ end = omega (arith, is) in
    ap (λ (n : ℕ). if test x then Some n else None) same
from_push test start end (y ∷ ys) x is =
    ap (cond (test y) (Some start)) (from_push test (start + 1) end ys x (omega (arith, is)))
    ∙ first_or_later (test y) start (position_from test (start + 1) ys) (if test x then Some end else None)

place_more : (before : List NumberedStep) (step : NumberedStep) (number : ℕ)
    → place_of (before ++ step ∷ []) number ≡ or_else (place_of before number) (if step.number == number then Some (length before) else None)
place_more before step number =
    position_from-zero test (before ++ step ∷ [])
    ∙ from_push test 0 (length before) before step (omega arith)
    ∙ ap (λ (place : Option ℕ). or_else place (if step.number == number then Some (length before) else None)) (sym (position_from-zero test before))
  where
    test : NumberedStep → Bool
    test one = one.number == number

-- a draft has told these steps: it has as many, and knows the place of each
pub record IsDrafted (draft : Draft) (before : List NumberedStep) : Type 0 where
  pub count : length draft.steps ≡ length before
  pub places : (number : ℕ) → place_at draft.places number ≡ place_of before number

none_or : (place : Option ℕ) → place ≡ or_else place None
none_or None = refl
none_or (Some n) = refl

-- one number more, with a place or without
place_kept : (places : List (Option ℕ)) (last : Option ℕ) (number : ℕ) → number < length places → place_at (places ++ last ∷ []) number ≡ place_at places number
place_kept places last number within = get_or_append_left places (last ∷ []) None number within

place_beyond : (places : List (Option ℕ)) (last : Option ℕ) (number : ℕ) → length places < number → place_at (places ++ last ∷ []) number ≡ place_at places number
place_beyond places last number past =
    get_or_past (places ++ last ∷ []) number None (let size = length_push places last in omega (arith, size, past))
    ∙ sym (get_or_past places number None (omega (arith, past)))

untold : (places : List (Option ℕ)) (number : ℕ) → place_at (places ++ None ∷ []) number ≡ place_at places number
untold places number =
    elim (cases_order number (length places)) [
      | inl here ↦ get_or_push places None None number (sym here) ∙ sym (get_or_past places number None (omega (arith, here)))
      | inr (inl below) ↦ place_kept places None number below
      | inr (inr past) ↦ place_beyond places None number past
    ]

told_place : (places : List (Option ℕ)) (before : List NumberedStep) (step : NumberedStep) (count number : ℕ) → count ≡ length before → step.number ≡ length places
    → ((other : ℕ) → place_at places other ≡ place_of before other)
    → place_at (places ++ Some count ∷ []) number ≡ place_of (before ++ step ∷ []) number
told_place places before step count number same own known =
    elim (cases_order number (length places)) [
      | inl here ↦
          let fresh : place_of before number ≡ None = sym (known number) ∙ get_or_past places number None (omega (arith, here)) in
          get_or_push places (Some count) None number (sym here)
          ∙ ap (λ (n : ℕ). Some n) same
          ∙ sym (ap (λ b. if b then Some (length before) else None) (eq-eqb step.number number (own ∙ sym here)))
          ∙ ap (λ (place : Option ℕ). or_else place (if step.number == number then Some (length before) else None)) (sym fresh)
          ∙ sym (place_more before step number)
      | inr (inl below) ↦
          place_kept places (Some count) number below ∙ other (λ is. absurd (omega (arith, is, own, below)))
      | inr (inr past) ↦
          place_beyond places (Some count) number past ∙ other (λ is. absurd (omega (arith, is, own, past)))
    ]
  where
    other : (step.number ≡ number → ⊥) → place_at places number ≡ place_of (before ++ step ∷ []) number
    other apart =
        known number ∙ none_or (place_of before number)
        ∙ ap (λ b. or_else (place_of before number) (if b then Some (length before) else None)) (sym (ne_eqb step.number number apart))
        ∙ sym (place_more before step number)

-- what some steps add to a draft
pub record AreTold (window : WindowForm) (names : List Symbol) (clauses : List (List Lit)) (draft after : Draft) (before more : List NumberedStep) (start count : ℕ) : Type 0 where
  pub steps : after.steps ≡ draft.steps ++ steps_from window names clauses before more
  pub drafted : IsDrafted after (before ++ more)
  pub size : length after.places ≡ start + count

told_where : (window : WindowForm) (names : List Symbol) (clauses : List (List Lit)) (marks : List Bool) (first start : ℕ) (draft : Draft) (before : List NumberedStep) (step : Step) (steps : List Step)
    → IsDrafted draft before → length draft.places ≡ start
    → ((next : Draft) (told : List NumberedStep) → IsDrafted next told → length next.places ≡ suc start
    → AreTold window names clauses next (after_steps window names clauses marks next steps) told (marked_among marks (numbered_from first (suc start) steps)) (suc start) (length steps))
    → (b : Bool) → is_marked marks start ≡ b
    → AreTold window names clauses draft (after_steps window names clauses marks (after_step window names clauses b draft step) steps) before
    (marked_among marks (numbered_from first start (step ∷ steps))) start (suc (length steps))
told_where window names clauses marks first start draft before step steps drafted size rest true on =
    record {
      steps =
          more.steps ∙ append_assoc draft.steps (made ∷ []) (steps_from window names clauses (before ++ own ∷ []) those)
          ∙ ap (λ (one : ReasonStep). draft.steps ++ one ∷ steps_from window names clauses (before ++ own ∷ []) those) is_own
          ∙ ap (λ (list : List NumberedStep). draft.steps ++ steps_from window names clauses before list) (sym grown);
      drafted = subst (IsDrafted after) (append_assoc before (own ∷ []) those ∙ ap (λ (list : List NumberedStep). before ++ list) (sym grown)) more.drafted;
      size = let all = more.size in omega (arith, all);
    }
  where
    own : NumberedStep
    own = record { first = first; number = start; step = step }

    those : List NumberedStep
    those = marked_among marks (numbered_from first (suc start) steps)

    made : ReasonStep
    made = step_of window names clauses (place_at draft.places) (length draft.places) step

    next : Draft
    next = after_step window names clauses true draft step

    after : Draft
    after = after_steps window names clauses marks next steps

    more : AreTold window names clauses next after (before ++ own ∷ []) those (suc start) (length steps)
    more = rest next (before ++ own ∷ [])
        (record {
          count = length_push draft.steps made ∙ ap (λ n. n + 1) drafted.count ∙ sym (length_push before own);
          places = λ number. told_place draft.places before own (length draft.steps) number drafted.count (sym size) drafted.places;
        })
        (let longer = length_push draft.places (Some (length draft.steps)) in omega (arith, longer, size))

    alike : place_at draft.places ≡ place_of before
    alike = λ i. λ number. drafted.places number i

    is_own : made ≡ step_of window names clauses (place_of before) start step
    is_own = ap (λ (place : ℕ → Option ℕ). step_of window names clauses place (length draft.places) step) alike
        ∙ ap (λ (n : ℕ). step_of window names clauses (place_of before) n step) size

    grown : marked_among marks (numbered_from first start (step ∷ steps)) ≡ own ∷ those
    grown = ap (λ b. if b then own ∷ those else those) on
told_where window names clauses marks first start draft before step steps drafted size rest false off =
    record {
      steps = more.steps ∙ ap (λ (list : List NumberedStep). draft.steps ++ steps_from window names clauses before list) (sym without);
      drafted = subst (λ (list : List NumberedStep). IsDrafted after (before ++ list)) (sym without) more.drafted;
      size = let all = more.size in omega (arith, all);
    }
  where
    own : NumberedStep
    own = record { first = first; number = start; step = step }

    those : List NumberedStep
    those = marked_among marks (numbered_from first (suc start) steps)

    next : Draft
    next = after_step window names clauses false draft step

    after : Draft
    after = after_steps window names clauses marks next steps

    more : AreTold window names clauses next after before those (suc start) (length steps)
    more = rest next before
        (record { count = drafted.count; places = λ number. untold draft.places number ∙ drafted.places number })
        (let longer = length_push draft.places None in omega (arith, longer, size))

    without : marked_among marks (numbered_from first start (step ∷ steps)) ≡ those
    without = ap (λ b. if b then own ∷ those else those) off

told_all : (window : WindowForm) (names : List Symbol) (clauses : List (List Lit)) (marks : List Bool) (first start : ℕ) (draft : Draft) (before : List NumberedStep) (steps : List Step)
    → IsDrafted draft before → length draft.places ≡ start
    → AreTold window names clauses draft (after_steps window names clauses marks draft steps) before (marked_among marks (numbered_from first start steps)) start (length steps)
told_all window names clauses marks first start draft before [] drafted size =
    record {
      steps = sym (append-nil draft.steps);
      drafted = subst (IsDrafted draft) (sym (append-nil before)) drafted;
      size = omega (arith, size);
    }
told_all window names clauses marks first start draft before (step ∷ steps) drafted size =
    subst (λ (n : ℕ). AreTold window names clauses draft (after_steps window names clauses marks (after_step window names clauses (is_marked marks n) draft step) steps) before
    (marked_among marks (numbered_from first start (step ∷ steps))) start (suc (length steps)))
    (sym size)
    (told_where window names clauses marks first start draft before step steps drafted size
    (λ next told is length_is. told_all window names clauses marks first (suc start) next told steps is length_is) (is_marked marks start) refl)

-- steps behind others
steps_append : (window : WindowForm) (names : List Symbol) (clauses : List (List Lit)) (before front back : List NumberedStep)
    → steps_from window names clauses before (front ++ back) ≡ steps_from window names clauses before front ++ steps_from window names clauses (before ++ front) back
steps_append window names clauses before [] back = ap (λ (list : List NumberedStep). steps_from window names clauses list back) (sym (append-nil before))
steps_append window names clauses before (told ∷ front) back =
    ap (λ (rest : List ReasonStep). step_of window names clauses (place_of before) told.number told.step ∷ rest)
    (steps_append window names clauses (before ++ told ∷ []) front back
    ∙ ap (λ (list : List NumberedStep). steps_from window names clauses (before ++ told ∷ []) front ++ steps_from window names clauses list back) (append_assoc before (told ∷ []) front))

no_place : (count number : ℕ) → place_at (replicate count None) number ≡ None
no_place zero number = refl
no_place (suc count) zero = refl
no_place (suc count) (suc number) = no_place count number

pub first_draft_is : (base : ℕ) → IsDrafted (first_draft base) []
first_draft_is base = record { count = refl; places = no_place base }

-- what is told of the shared steps and then of the own ones
pub steps_told : (window : WindowForm) (names : List Symbol) (clauses : List (List Lit)) (marks : List Bool) (base : ℕ) (shared own : List Step)
    → marked_among marks (all_steps base shared own) ≡ told_of base shared own
    → (after_steps window names clauses marks (after_steps window names clauses marks (first_draft base) shared) own).steps ≡ steps_from window names clauses [] (told_of base shared own)
steps_told window names clauses marks base shared own marked =
    second.steps
    ∙ ap (λ (front : List ReasonStep). front ++ steps_from window names clauses those (marked_among marks (numbered (base + length shared) own))) first.steps
    ∙ sym (steps_append window names clauses [] those (marked_among marks (numbered (base + length shared) own)))
    ∙ ap (steps_from window names clauses []) (sym (filter-append (λ (step : NumberedStep). is_marked marks step.number) (numbered base shared) (numbered (base + length shared) own)) ∙ marked)
  where
    those : List NumberedStep
    those = marked_among marks (numbered base shared)

    behind : Draft
    behind = after_steps window names clauses marks (first_draft base) shared

    first : AreTold window names clauses (first_draft base) behind [] those base (length shared)
    first = told_all window names clauses marks base base (first_draft base) [] shared (first_draft_is base) (length-replicate base None)

    second : AreTold window names clauses behind (after_steps window names clauses marks behind own) those (marked_among marks (numbered (base + length shared) own)) (base + length shared) (length own)
    second = told_all window names clauses marks (base + length shared) (base + length shared) behind those own first.drafted first.size

-- the same of drafts that were made so, one after the other
pub steps_are : (window : WindowForm) (names : List Symbol) (clauses : List (List Lit)) (marks one other : List Bool) (base count : ℕ) (shared own : List Step) (draft behind whole : Draft) (steps : List ReasonStep)
    → base ≡ count → one ≡ marks → other ≡ marks → draft ≡ first_draft base → behind ≡ after_steps window names clauses one draft shared → whole ≡ after_steps window names clauses other behind own
    → steps ≡ whole.steps → marked_among marks (all_steps base shared own) ≡ told_of base shared own → steps ≡ steps_from window names clauses [] (told_of count shared own)
steps_are window names clauses marks one other base count shared own draft behind whole steps counted first second begun more all out marked =
    let front : behind ≡ after_steps window names clauses marks (first_draft base) shared =
    more ∙ ap (λ (m : List Bool). after_steps window names clauses m draft shared) first ∙ ap (λ (d : Draft). after_steps window names clauses marks d shared) begun in
    let both : whole ≡ after_steps window names clauses marks (after_steps window names clauses marks (first_draft base) shared) own =
    all ∙ ap (λ (m : List Bool). after_steps window names clauses m behind own) second ∙ ap (λ (d : Draft). after_steps window names clauses marks d own) front in
    out ∙ ap (λ (d : Draft). d.steps) both ∙ steps_told window names clauses marks base shared own marked
    ∙ ap (λ (b : ℕ). steps_from window names clauses [] (told_of b shared own)) counted
