-- The member between the braces.
use Rattle.std.proofs.Common.{◌≡◌, ◌∙◌, ap, ℕ, List, [], ◌++◌, append_assoc, append-nil}
use Rattle.gp_sarif.specs.Flows.{code_flow_value}
use Rattle.gp_sarif.proofs.flow.put_code_flow.Goals as goal

all_put : (old a n v z t1 t2 t3 t4 : List ℕ)
    → t1 ≡ old ++ a → t2 ≡ t1 ++ n → t3 ≡ t2 ++ v → t4 ≡ t3 ++ z
    → t4 ≡ old ++ (a ++ (n ++ v ++ []) ++ z)
all_put old a n v z t1 t2 t3 t4 is1 is2 is3 is4 =
    is4 ∙ ap (λ (t : List ℕ). t ++ z) (is3 ∙ ap (λ (t : List ℕ). t ++ v) (is2 ∙ ap (λ (t : List ℕ). t ++ n) is1)) ∙ simp (append_assoc, append-nil)

pub returns : goal.returns
unfolding code_flow_value
returns c =
    all_put c.args.text.now.items _ _ _ _ _ _ _ _ c.in_ok-put_piece.ensures c.in_ok-put_name.ensures c.in_ok-put_thread_flows.ensures c.in_ok-put_piece-2.ensures
