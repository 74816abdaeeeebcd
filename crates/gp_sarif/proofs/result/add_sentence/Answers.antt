-- The words one after another.
use Rattle.std.proofs.Common.{◌≡◌, ◌∙◌, ap, ℕ, List, ◌++◌, append_assoc}
use Rattle.std.specs.Prelude.{codes, decimal}
use Rattle.gp_sarif.specs.Results.{sentence}
use Rattle.gp_sarif.proofs.result.add_sentence.Goals as goal

all_put : (old a b c d e f g t1 t2 t3 t4 t5 t6 t7 : List ℕ)
    → t1 ≡ old ++ a → t2 ≡ t1 ++ b → t3 ≡ t2 ++ c → t4 ≡ t3 ++ d → t5 ≡ t4 ++ e → t6 ≡ t5 ++ f → t7 ≡ t6 ++ g
    → t7 ≡ old ++ (a ++ b ++ c ++ d ++ e ++ f ++ g)
all_put old a b c d e f g t1 t2 t3 t4 t5 t6 t7 is1 is2 is3 is4 is5 is6 is7 =
    is7 ∙ ap (λ (t : List ℕ). t ++ g) (is6 ∙ ap (λ (t : List ℕ). t ++ f) (is5 ∙ ap (λ (t : List ℕ). t ++ e) (is4 ∙ ap (λ (t : List ℕ). t ++ d) (is3 ∙ ap (λ (t : List ℕ). t ++ c) (is2 ∙ ap (λ (t : List ℕ). t ++ b) is1))))) ∙ simp append_assoc

pub returns : goal.returns
unfolding sentence
returns c =
    all_put c.args.words.now.items (codes "A schedule of the recorded events shows ") c.args.name.now (codes ": instance ") (decimal c.args.instance) (codes " in window ") (decimal c.args.window) (codes ".") _ _ _ _ _ _ _ c.in_ok-put_piece.ensures c.in_ok-put_piece-2.ensures c.in_ok-put_piece-3.ensures c.in_ok-put_small.ensures c.in_ok-put_piece-4.ensures c.in_ok-put_small-2.ensures c.in_ok-put_piece-5.ensures
