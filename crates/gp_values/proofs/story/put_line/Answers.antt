-- The members one after another, between the braces.
use Rattle.std.proofs.Common.{◌≡◌, ◌∙◌, ap, ℕ, List, [], ◌++◌, append_assoc, append-nil}
use Rattle.std.specs.Prelude.{codes}
use Rattle.gp_values.specs.Stories.{line_value}
use Rattle.gp_values.proofs.story.put_line.Goals as goal

all_put : (old a b c d e f g h i j k m t1 t2 t3 t4 t5 t6 t7 t8 t9 t10 t11 t12 t13 t14 : List ℕ)
    → t1 ≡ old ++ codes "{" → t2 ≡ t1 ++ a → t3 ≡ t2 ++ b → t4 ≡ t3 ++ c → t5 ≡ t4 ++ d → t6 ≡ t5 ++ e → t7 ≡ t6 ++ f → t8 ≡ t7 ++ g → t9 ≡ t8 ++ h → t10 ≡ t9 ++ i → t11 ≡ t10 ++ j → t12 ≡ t11 ++ k → t13 ≡ t12 ++ m → t14 ≡ t13 ++ codes "}"
    → t14 ≡ old ++ (codes "{" ++ ((a ++ b) ++ ((c ++ d) ++ ((e ++ f) ++ ((g ++ h) ++ ((i ++ j) ++ ((k ++ m) ++ [])))))) ++ codes "}")
all_put old a b c d e f g h i j k m t1 t2 t3 t4 t5 t6 t7 t8 t9 t10 t11 t12 t13 t14 is1 is2 is3 is4 is5 is6 is7 is8 is9 is10 is11 is12 is13 is14 =
    is14 ∙ ap (λ (t : List ℕ). t ++ codes "}") (is13 ∙ ap (λ (t : List ℕ). t ++ m) (is12 ∙ ap (λ (t : List ℕ). t ++ k) (is11 ∙ ap (λ (t : List ℕ). t ++ j) (is10 ∙ ap (λ (t : List ℕ). t ++ i) (is9 ∙ ap (λ (t : List ℕ). t ++ h) (is8 ∙ ap (λ (t : List ℕ). t ++ g) (is7 ∙ ap (λ (t : List ℕ). t ++ f) (is6 ∙ ap (λ (t : List ℕ). t ++ e) (is5 ∙ ap (λ (t : List ℕ). t ++ d) (is4 ∙ ap (λ (t : List ℕ). t ++ c) (is3 ∙ ap (λ (t : List ℕ). t ++ b) (is2 ∙ ap (λ (t : List ℕ). t ++ a) (is1))))))))))))) ∙ simp (append_assoc, append-nil)

pub returns : goal.returns
unfolding line_value
returns c =
    all_put c.args.text.now.items _ _ _ _ _ _ _ _ _ _ _ _ _ _ _ _ _ _ _ _ _ _ _ _ _ _ c.in_ok-put_piece.ensures c.in_ok-put_name.ensures c.in_ok-put_number.ensures c.in_ok-put_name-2.ensures c.in_ok-put_event.ensures c.in_ok-put_name-3.ensures c.in_ok-put_sees.ensures c.in_ok-put_name-4.ensures c.in_ok-put_after.ensures c.in_ok-put_name-5.ensures c.in_ok-put_id_or_null.ensures c.in_ok-put_name-6.ensures c.in_ok-put_flag.ensures c.in_ok-put_piece-2.ensures
