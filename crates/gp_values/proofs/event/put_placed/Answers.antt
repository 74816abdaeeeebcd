-- The members one after another, between the braces.
use Rattle.std.proofs.Common.{◌≡◌, ◌∙◌, ap, ℕ, List, [], ◌++◌, append_assoc, append-nil}
use Rattle.std.specs.Prelude.{codes}
use Rattle.gp_values.specs.Events.{placed_value}
use Rattle.gp_values.proofs.event.put_placed.Goals as goal

all_put : (old a b c d e f t1 t2 t3 t4 t5 t6 t7 t8 : List ℕ)
    → t1 ≡ old ++ codes "{" → t2 ≡ t1 ++ a → t3 ≡ t2 ++ b → t4 ≡ t3 ++ c → t5 ≡ t4 ++ d → t6 ≡ t5 ++ e → t7 ≡ t6 ++ f → t8 ≡ t7 ++ codes "}"
    → t8 ≡ old ++ (codes "{" ++ (a ++ (b ++ ((c ++ d) ++ ((e ++ f) ++ [])))) ++ codes "}")
all_put old a b c d e f t1 t2 t3 t4 t5 t6 t7 t8 is1 is2 is3 is4 is5 is6 is7 is8 =
    is8 ∙ ap (λ (t : List ℕ). t ++ codes "}") (is7 ∙ ap (λ (t : List ℕ). t ++ f) (is6 ∙ ap (λ (t : List ℕ). t ++ e) (is5 ∙ ap (λ (t : List ℕ). t ++ d) (is4 ∙ ap (λ (t : List ℕ). t ++ c) (is3 ∙ ap (λ (t : List ℕ). t ++ b) (is2 ∙ ap (λ (t : List ℕ). t ++ a) (is1))))))) ∙ simp (append_assoc, append-nil)

pub returns : goal.returns
unfolding placed_value
returns c =
    all_put c.args.text.now.items _ _ _ _ _ _ _ _ _ _ _ _ _ _ c.in_ok-put_piece.ensures c.in_ok-put_named_small.ensures c.in_ok-put_named_small-2.ensures c.in_ok-put_name.ensures c.in_ok-put_words.ensures c.in_ok-put_name-2.ensures c.in_ok-put_place.ensures c.in_ok-put_piece-2.ensures
