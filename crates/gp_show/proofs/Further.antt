-- What is shown of instances one after another: how many are asked for, and the text of those that are shown.
use Rattle.std.proofs.Common.{◌≡◌, refl, sym, ap, ◌∙◌, ℕ, zero, suc, ◌+◌, ◌-◌, ◌<◌, ◌≤◌, min, Bool, true, false, cond, List, [], ◌∷◌, ◌++◌, length, take, append-nil, append_assoc, length-append, subst, arith}
use Rattle.std.specs.Prelude.{Option}
use Rattle.std.proofs.lemmas.List.{length-take}
use Rattle.std.proofs.lemmas.List.Elements.{filter-append}
use Rattle.gp_outside.specs.Sinks.{Appends, AppendsFront}
use Rattle.gp_predict.specs.WrittenLaws.{IsWritten, written_all, written_cut, written_more, written_none, written_prefix}
use Rattle.gp_view.specs.Answered.{AnsweredForm}
use Rattle.gp_show.specs.Choice.{asked_in, asks_in}
use Rattle.gp_show.specs.Request.{RequestForm}
use Rattle.gp_property.specs.PropertyForm.{PropertyForm}
use Rattle.gp_place.specs.declared.beside.Beside.{Beside}
use Rattle.gp_words.specs.declared.showing.Style.{Style}
use Rattle.gp_show.specs.Show.{answered_text, asked_count, separator, text_after, told_from}

-- nothing is taken of nothing
pub take_none : {A : Type 0} (n : ℕ) → ◌≡◌ {A = List A} (take n []) []
take_none zero = refl
take_none (suc n) = refl

-- of two lists so many are taken of the first, and what is left to take of the second
pub take_append : {A : Type 0} (n : ℕ) (xs ys : List A) → take n (xs ++ ys) ≡ take n xs ++ take (n - length xs) ys
take_append zero xs ys = let none : 0 - length xs ≡ 0 = omega arith in ap (λ k. take k ys) (sym none)
take_append (suc n) [] ys = let all : suc n - 0 ≡ suc n = omega arith in ap (λ k. take k ys) (sym all)
take_append (suc n) (x ∷ xs) ys =
    let fewer : n - length xs ≡ suc n - suc (length xs) = omega arith in
    ap (λ rest. x ∷ rest) (take_append n xs ys ∙ ap (λ k. take n xs ++ take k ys) fewer)

-- instances one after another, of two lists
pub told_append : (style : Style) (properties : List PropertyForm) (beside : Beside) (before : ℕ) (xs ys : List AnsweredForm)
    → told_from style properties beside before (xs ++ ys) ≡ told_from style properties beside before xs ++ told_from style properties beside (before + length xs) ys
told_append style properties beside before [] ys = let none : before ≡ before + 0 = omega arith in ap (λ n. told_from style properties beside n ys) none
told_append style properties beside before (x ∷ xs) ys =
    let next : before + 1 + length xs ≡ before + length (x ∷ xs) = omega arith in
    ap (λ rest. separator style before ++ answered_text style properties beside x ++ rest) (told_append style properties beside (before + 1) xs ys)
    ∙ ap (λ n. separator style before ++ answered_text style properties beside x ++ (told_from style properties beside (before + 1) xs ++ told_from style properties beside n ys)) next
    ∙ simp append_assoc

-- where fewer are taken than there are, none is left to take, so that it does not matter how many were before
pub told_left : (style : Style) (properties : List PropertyForm) (beside : Beside) (before most : ℕ) (xs ys : List AnsweredForm)
    → told_from style properties beside (before + length (take most xs)) (take (most - length xs) ys) ≡ told_from style properties beside (before + length xs) (take (most - length xs) ys)
told_left style properties beside before most xs ys = at (most - length xs) refl
  where
    at : (left : ℕ) → most - length xs ≡ left
        → told_from style properties beside (before + length (take most xs)) (take left ys) ≡ told_from style properties beside (before + length xs) (take left ys)
    at zero is = refl
    at (suc left) is =
        let taken : length (take most xs) ≡ min most (length xs) = length-take most xs in
        let all : before + length (take most xs) ≡ before + length xs = omega (arith, taken, is) in
        ap (λ n. told_from style properties beside n (take (suc left) ys)) all

module _ (request : RequestForm) where
  -- of no instance none is asked for
  pub count_none : asked_count request [] ≡ 0
  unfolding asked_count
  count_none = refl

  -- and none is shown
  pub text_none : (before : ℕ) → text_after request before [] ≡ []
  unfolding text_after
  text_none before = ap (told_from request.command.style request.properties request.beside before) (take_none (request.command.most - before))

  -- those asked for of two lists
  pub count_append : (xs ys : List AnsweredForm) → asked_count request (xs ++ ys) ≡ asked_count request xs + asked_count request ys
  unfolding asked_count
  count_append xs ys = ap (λ (zs : List AnsweredForm). length zs) (filter-append (asks_in request.command request.pass) xs ys) ∙ length-append (asked_in request.command request.pass xs) (asked_in request.command request.pass ys)

  -- those shown of two lists
  pub text_append : (before : ℕ) (xs ys : List AnsweredForm)
      → text_after request before (xs ++ ys) ≡ text_after request before xs ++ text_after request (before + asked_count request xs) ys
  unfolding asked_count text_after
  text_append before xs ys =
      let style = request.command.style in
      let most : ℕ = request.command.most - before in
      let first : List AnsweredForm = asked_in request.command request.pass xs in
      let second : List AnsweredForm = asked_in request.command request.pass ys in
      let left : most - length first ≡ request.command.most - (before + length first) = omega arith in
      ap (λ (zs : List AnsweredForm). told_from style request.properties request.beside before (take most zs)) (filter-append (asks_in request.command request.pass) xs ys)
      ∙ ap (told_from style request.properties request.beside before) (take_append most first second)
      ∙ told_append style request.properties request.beside before (take most first) (take (most - length first) second)
      ∙ ap (λ rest. told_from style request.properties request.beside before (take most first) ++ rest) (told_left style request.properties request.beside before most first second)
      ∙ ap (λ k. told_from style request.properties request.beside before (take most first) ++ told_from style request.properties request.beside (before + length first) (take k second)) left

  passes : (answered : AnsweredForm) → asks_in request.command request.pass answered ≡ true → asked_in request.command request.pass (answered ∷ []) ≡ answered ∷ []
  passes answered is = subst (λ (b : Bool). cond b (answered ∷ []) [] ≡ answered ∷ []) (sym is) refl

  drops : (answered : AnsweredForm) → asks_in request.command request.pass answered ≡ false → asked_in request.command request.pass (answered ∷ []) ≡ []
  drops answered is = subst (λ (b : Bool). cond b (answered ∷ []) [] ≡ []) (sym is) refl

  -- an instance that is not asked for is not counted
  pub unasked_count : (answered : AnsweredForm) → asks_in request.command request.pass answered ≡ false → asked_count request (answered ∷ []) ≡ 0
  unfolding asked_count
  unasked_count answered is = ap (λ (xs : List AnsweredForm). length xs) (drops answered is)

  -- nor shown
  pub unasked_text : (before : ℕ) (answered : AnsweredForm) → asks_in request.command request.pass answered ≡ false → text_after request before (answered ∷ []) ≡ []
  unfolding text_after
  unasked_text before answered is =
      ap (λ (xs : List AnsweredForm). told_from request.command.style request.properties request.beside before (take (request.command.most - before) xs)) (drops answered is)
      ∙ ap (told_from request.command.style request.properties request.beside before) (take_none (request.command.most - before))

  -- one that is asked for counts once
  pub asked_once : (answered : AnsweredForm) → asks_in request.command request.pass answered ≡ true → asked_count request (answered ∷ []) ≡ 1
  unfolding asked_count
  asked_once answered is = ap (λ (xs : List AnsweredForm). length xs) (passes answered is)

  one_of : (before left : ℕ) (answered : AnsweredForm) → request.command.most - before ≡ left → asks_in request.command request.pass answered ≡ true
      → text_after request before (answered ∷ []) ≡ told_from request.command.style request.properties request.beside before (take left (answered ∷ []))
  unfolding text_after
  one_of before left answered is asked =
      ap (λ k. told_from request.command.style request.properties request.beside before (take k (asked_in request.command request.pass (answered ∷ [])))) is
      ∙ ap (λ (xs : List AnsweredForm). told_from request.command.style request.properties request.beside before (take left xs)) (passes answered asked)

  -- it is shown where not too many were before it
  pub asked_text : (before : ℕ) (answered : AnsweredForm) → asks_in request.command request.pass answered ≡ true → before < request.command.most
      → text_after request before (answered ∷ []) ≡ separator request.command.style before ++ answered_text request.command.style request.properties request.beside answered
  asked_text before answered asked below =
      let left : request.command.most - before ≡ suc (request.command.most - before - 1) = omega (arith, below) in
      one_of before (suc (request.command.most - before - 1)) answered left asked
      ∙ ap (λ (rest : List AnsweredForm). told_from request.command.style request.properties request.beside before (answered ∷ rest)) (take_none (request.command.most - before - 1))
      ∙ append-nil (separator request.command.style before ++ answered_text request.command.style request.properties request.beside answered)

  -- and else not
  pub past_text : (before : ℕ) (answered : AnsweredForm) → asks_in request.command request.pass answered ≡ true → request.command.most ≤ before → text_after request before (answered ∷ []) ≡ []
  past_text before answered asked past = let none : request.command.most - before ≡ 0 = omega (arith, past) in one_of before 0 answered none asked

-- of all these instances those before the ones that are left are counted and written, after so many that were asked for before
pub record AreShown (request : RequestForm) (start : ℕ) (whole : List AnsweredForm) (old new : Option (List ℕ)) (asked : ℕ) (left : List AnsweredForm) : Type 0 where
  pub counted : asked + asked_count request left ≡ start + asked_count request whole
  pub written : IsWritten old new (text_after request asked left) (text_after request start whole)

module _ (request : RequestForm) (start : ℕ) (whole : List AnsweredForm) where
  -- none is written yet
  pub none_shown : (old : Option (List ℕ)) → AreShown request start whole old old start whole
  none_shown old = record { counted = refl; written = written_none old (text_after request start whole) }

  parted : (old new : Option (List ℕ)) (asked : ℕ) (piece rest : List AnsweredForm) → AreShown request start whole old new asked (piece ++ rest)
      → IsWritten old new (text_after request asked piece ++ text_after request (asked + asked_count request piece) rest) (text_after request start whole)
  parted old new asked piece rest h =
      subst (λ (text : List ℕ). IsWritten old new text (text_after request start whole)) (text_append request asked piece rest) h.written

  -- one piece more is written
  pub more_shown : (old middle new : Option (List ℕ)) (asked now : ℕ) (piece rest left : List AnsweredForm) → left ≡ piece ++ rest → now ≡ asked + asked_count request piece
      → Appends middle new (text_after request asked piece) → AreShown request start whole old middle asked left → AreShown request start whole old new now rest
  more_shown old middle new asked now piece rest left first is appended h =
      let here : AreShown request start whole old middle asked (piece ++ rest) = subst (AreShown request start whole old middle asked) first h in
      let counts = count_append request piece rest in
      subst (λ (n : ℕ). AreShown request start whole old new n rest) (sym is) (record {
        counted = omega (arith, here.counted, counts);
        written = written_more old middle new (text_after request asked piece) (text_after request (asked + asked_count request piece) rest) (text_after request start whole)
            (parted old middle asked piece rest here) appended;
      })

  -- a prefix of one piece more is written
  pub cut_shown : (old middle new : Option (List ℕ)) (asked : ℕ) (piece rest left : List AnsweredForm) → left ≡ piece ++ rest
      → AppendsFront middle new (text_after request asked piece) → AreShown request start whole old middle asked left → AppendsFront old new (text_after request start whole)
  cut_shown old middle new asked piece rest left first cut h =
      let here : AreShown request start whole old middle asked (piece ++ rest) = subst (AreShown request start whole old middle asked) first h in
      written_cut old middle new (text_after request asked piece) (text_after request (asked + asked_count request piece) rest) (text_after request start whole)
      (parted old middle asked piece rest here) cut

  -- a prefix is written
  pub begun_shown : (old new : Option (List ℕ)) (asked : ℕ) (left : List AnsweredForm) → AreShown request start whole old new asked left → AppendsFront old new (text_after request start whole)
  begun_shown old new asked left h = written_prefix old new (text_after request asked left) (text_after request start whole) h.written

  -- nothing is left: all are counted
  pub all_counted : (old new : Option (List ℕ)) (asked : ℕ) (left : List AnsweredForm) → left ≡ [] → AreShown request start whole old new asked left → asked ≡ start + asked_count request whole
  all_counted old new asked left none h =
      let nothing : asked_count request left ≡ 0 = ap (asked_count request) none ∙ count_none request in omega (arith, h.counted, nothing)

  -- and written
  pub all_shown : (old new : Option (List ℕ)) (asked : ℕ) (left : List AnsweredForm) → left ≡ [] → AreShown request start whole old new asked left → Appends old new (text_after request start whole)
  all_shown old new asked left none h =
      written_all old new (text_after request start whole)
      (subst (λ (text : List ℕ). IsWritten old new text (text_after request start whole)) (ap (text_after request asked) none ∙ text_none request asked) h.written)
