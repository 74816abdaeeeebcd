-- The members one after another, between the braces.
use Rattle.std.proofs.Common.{◌≡◌, ◌∙◌, ap, ℕ, List, [], ◌++◌, append_assoc, append-nil}
use Rattle.std.specs.Prelude.{codes, decimal}
use Rattle.gp_json.specs.Json.{comma, name_text}
use Rattle.gp_json.specs.Strings.{string_text}
use Rattle.gp_view.specs.Answered.{AnsweredForm, form_of}
use Rattle.gp_view.specs.Text.{answer_word}
use Rattle.gp_values.specs.Instances.{answered_value}
use Rattle.gp_values.proofs.instance.put_answered.Goals as goal

all_put : (old a b c d e f g h i j k m n o t1 t2 t3 t4 t5 t6 t7 t8 t9 t10 t11 t12 t13 : List ℕ)
    → t1 ≡ old ++ codes "{" → t2 ≡ t1 ++ (a ++ (b ++ (c ++ (d ++ [])))) → t3 ≡ t2 ++ e → t4 ≡ t3 ++ f → t5 ≡ t4 ++ g → t6 ≡ t5 ++ h → t7 ≡ t6 ++ i → t8 ≡ t7 ++ j → t9 ≡ t8 ++ k → t10 ≡ t9 ++ m → t11 ≡ t10 ++ n → t12 ≡ t11 ++ o → t13 ≡ t12 ++ codes "}"
    → t13 ≡ old ++ (codes "{" ++ (a ++ (b ++ (c ++ (d ++ ((e ++ f) ++ ((g ++ h) ++ ((i ++ j) ++ ((k ++ m) ++ ((n ++ o) ++ []))))))))) ++ codes "}")
all_put old a b c d e f g h i j k m n o t1 t2 t3 t4 t5 t6 t7 t8 t9 t10 t11 t12 t13 is1 is2 is3 is4 is5 is6 is7 is8 is9 is10 is11 is12 is13 =
    is13 ∙ ap (λ (t : List ℕ). t ++ codes "}") (is12 ∙ ap (λ (t : List ℕ). t ++ o) (is11 ∙ ap (λ (t : List ℕ). t ++ n) (is10 ∙ ap (λ (t : List ℕ). t ++ m) (is9 ∙ ap (λ (t : List ℕ). t ++ k) (is8 ∙ ap (λ (t : List ℕ). t ++ j) (is7 ∙ ap (λ (t : List ℕ). t ++ i) (is6 ∙ ap (λ (t : List ℕ). t ++ h) (is5 ∙ ap (λ (t : List ℕ). t ++ g) (is4 ∙ ap (λ (t : List ℕ). t ++ f) (is3 ∙ ap (λ (t : List ℕ). t ++ e) (is2 ∙ ap (λ (t : List ℕ). t ++ (a ++ (b ++ (c ++ (d ++ []))))) (is1)))))))))))) ∙ simp (append_assoc, append-nil)

pub returns : goal.returns
unfolding answered_value
returns c =
    let answered : AnsweredForm = form_of c.args.answered.now in
    let window : List ℕ = comma 0 ++ name_text (codes "window") ++ decimal answered.window.number in
    let property : List ℕ = comma 1 ++ name_text (codes "property") ++ string_text answered.property.name in
    let instance : List ℕ = comma 2 ++ name_text (codes "instance") ++ decimal answered.number in
    let answer : List ℕ = comma 3 ++ name_text (codes "answer") ++ string_text (answer_word answered.entry.answer) in
    all_put c.args.text.now.items window property instance answer _ _ _ _ _ _ _ _ _ _ _ _ _ _ _ _ _ _ _ _ _ _ _ c.in_ok-put_piece.ensures c.in_ok-put_title.ensures c.in_ok-put_name.ensures c.in_ok-put_events.ensures c.in_ok-put_name-2.ensures c.in_ok-put_sightings.ensures c.in_ok-put_name-3.ensures c.in_ok-put_schedule.ensures c.in_ok-put_name-4.ensures c.in_ok-put_why.ensures c.in_ok-put_name-5.ensures c.in_ok-put_learned.ensures c.in_ok-put_piece-2.ensures
