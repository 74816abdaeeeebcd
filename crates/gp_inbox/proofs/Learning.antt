-- What a pass learns of what the queue holds.
use Rattle.std.proofs.Common.{◌≡◌, sym, ap, ◌∙◌, ℕ, ◌*◌, ◌<◌, ◌≤◌, true, IsSome, List, length, arith, sum_by}
use mathlib.Core.Option.{some}
use lib.ListN.{get_elem?}
use Rattle.gp_derivation.specs.declared.exchange.SharedClause.{SharedClause}
use Rattle.gp_inbox.specs.declared.rule.View.{View}
use Rattle.gp_inbox.specs.History.{history, sent_by}
use Rattle.gp_inbox.specs.Rule.{Kept}
use Rattle.gp_inbox.specs.Views.{HasRoom, NamesOneOf, Owes}
use Rattle.gp_inbox.proofs.Members.{fewer}
use Rattle.gp_inbox.proofs.Pushing.{is_sender}
use Rattle.gp_inbox.proofs.Sending.{all_behind, sent_in_all, sent_last}

pub owes : (held : List SharedClause) (views : List View) (seat : ℕ) (view : View) → Kept held views → get_elem? views seat ≡ some view → view.takes ≡ true → Owes view held
owes held views seat view kept at takes number may =
    let mine = kept.fits seat view at in
    ap (λ (taken : List SharedClause). sent_by number (history taken held)) (mine.taker takes).2 ∙ kept.order number ∙ sym (mine.own number may)

-- the queue holds no more of a sender than it pushed
part_of : (held : List SharedClause) (views : List View) (kept : Kept held views) (number : ℕ) → length (sent_by number held) ≤ length (kept.pushes number)
part_of held views kept number =
    let part = sent_last number kept.got held in
    let all : length (sent_by number (history kept.got held)) ≡ length (kept.pushes number) = ap length (kept.order number) in
    omega (arith, part, all)

pub has_room : (held : List SharedClause) (views : List View) (seat : ℕ) (view : View) → Kept held views → get_elem? views seat ≡ some view → IsSome view.base → HasRoom view held
has_room held views seat view kept at there number may few =
    let mine = kept.fits seat view at in
    let senders : length view.senders ≡ length kept.senders = ap length (mine.same there).1 in
    let count : sum_by (λ (sender : ℕ). length (sent_by sender held)) kept.senders ≡ length held = sent_in_all kept.senders held kept.apart (all_behind (NamesOneOf kept.senders) kept.got held kept.from) in
    let own : length (sent_by number view.pushed) ≡ length (kept.pushes number) = ap length (mine.own number may) in
    let part = part_of held views kept number in
    let less : sum_by (λ (sender : ℕ). length (sent_by sender held)) kept.senders < 1024 * length kept.senders =
    fewer (λ (sender : ℕ). length (sent_by sender held)) number kept.senders
    (λ sender. let most = part_of held views kept sender in let short = kept.short sender in omega (arith, most, short))
    (omega (arith, own, part, few)) (is_sender held views seat view number kept at may kept.senders kept.once) in
    omega (arith, less, count, senders)
