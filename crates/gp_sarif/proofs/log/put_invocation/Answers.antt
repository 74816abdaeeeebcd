-- The parts one after another.
use Rattle.std.proofs.Common.{◌≡◌, ◌∙◌, ap, ℕ, List, [], ◌++◌, append_assoc, append-nil}
use Rattle.std.specs.Prelude.{codes}
use Rattle.gp_json.specs.Json.{name_text}
use Rattle.gp_sarif.specs.Log.{invocation_begun}
use Rattle.gp_sarif.proofs.log.put_invocation.Goals as goal

all_put : (old q n a b e g m c t1 t2 t3 t4 t5 t6 : List ℕ)
    → t1 ≡ old ++ (q ++ n) → t2 ≡ t1 ++ (b ++ a) → t3 ≡ t2 ++ e → t4 ≡ t3 ++ g → t5 ≡ t4 ++ (q ++ m) → t6 ≡ t5 ++ c
    → t6 ≡ old ++ (q ++ n ++ (b ++ a) ++ (e ++ g ++ []) ++ q ++ m ++ c)
all_put old q n a b e g m c t1 t2 t3 t4 t5 t6 is1 is2 is3 is4 is5 is6 =
    is6 ∙ ap (λ (t : List ℕ). t ++ c) (is5 ∙ ap (λ (t : List ℕ). t ++ (q ++ m)) (is4 ∙ ap (λ (t : List ℕ). t ++ g) (is3 ∙ ap (λ (t : List ℕ). t ++ e) (is2 ∙ ap (λ (t : List ℕ). t ++ (b ++ a)) is1)))) ∙ simp (append_assoc, append-nil)

pub returns : goal.returns
unfolding invocation_begun
returns c =
    all_put c.args.text.now.items (codes ",") (name_text (codes "invocations")) (codes "{") (codes "[") _ _ (name_text (codes "toolExecutionNotifications")) _ _ _ _ _ _ _ c.in_ok-put_name.ensures c.in_ok-put_piece.ensures c.in_ok-put_name-2.ensures c.in_ok-put_success.ensures c.in_ok-put_name-3.ensures c.in_ok-put_piece-2.ensures
