-- The members one after another, between the braces.
use Rattle.std.proofs.Common.{◌≡◌, ◌∙◌, ap, ℕ, List, [], ◌++◌, append_assoc, append-nil}
use Rattle.std.specs.Prelude.{codes}
use Rattle.gp_values.specs.Overview.{counted_value}
use Rattle.gp_values.proofs.overview.put_counted.Goals as goal

all_put : (old a b c t1 t2 t3 t4 t5 : List ℕ)
    → t1 ≡ old ++ codes "{" → t2 ≡ t1 ++ a → t3 ≡ t2 ++ b → t4 ≡ t3 ++ c → t5 ≡ t4 ++ codes "}"
    → t5 ≡ old ++ (codes "{" ++ (a ++ ((b ++ c) ++ [])) ++ codes "}")
all_put old a b c t1 t2 t3 t4 t5 is1 is2 is3 is4 is5 =
    is5 ∙ ap (λ (t : List ℕ). t ++ codes "}") (is4 ∙ ap (λ (t : List ℕ). t ++ c) (is3 ∙ ap (λ (t : List ℕ). t ++ b) (is2 ∙ ap (λ (t : List ℕ). t ++ a) (is1)))) ∙ simp (append_assoc, append-nil)

pub returns : goal.returns
unfolding counted_value
returns c =
    all_put c.args.text.now.items _ _ _ _ _ _ _ _ c.in_ok-put_piece.ensures c.in_ok-put_named_string.ensures c.in_ok-put_name.ensures c.in_ok-put_each_count.ensures c.in_ok-put_piece-2.ensures
