use Rattle.std.proofs.Common.{◌≡◌, ◌++◌, [], ◌∷◌, codes, List, ℕ, OnOk, subst}
use Rattle.std.specs.List.{flat_map}
use Rattle.gp_text.specs.Spelling.{after_words}
use Rattle.gp_tell.specs.Naming.{name_by}
use Rattle.gp_window.specs.declared.schedule.EventId.{EventId}
use Rattle.gp_tell.specs.ReasonText.{before_words, cycle_words}
use Rattle.gp_tell.proofs.Told.{three_put}
use Rattle.gp_tell.proofs.reason.put_cycle_words.Goals as goal

pub returns : goal.returns
returns c =
    let text : List ℕ = c.args.text.now.items in
    let name : EventId → List ℕ = name_by c.args.naming.now in
    let front : List (List ℕ) = codes "a cycle:" ∷ name c.args.first ∷ [] in
    let middle : List (List ℕ) = flat_map (before_words name) c.args.others.now in
    let whole : c.put_others.new.text.items ++ after_words (before_words name c.args.first) ≡ text ++ after_words (cycle_words name c.args.first c.args.others.now) =
    rw (c.in_ok-put_others.ensures, c.in_ok-put_reference.ensures) (three_put text front middle (before_words name c.args.first)) in
    subst (λ (line : List ℕ). OnOk c.put_before.result (c.put_before.new.text.items ≡ line)) whole c.put_before.ensures
