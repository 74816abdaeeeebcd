-- One number after another is handed over.
use Rattle.std.proofs.Common.{◌≡◌, refl, sym, ap, ◌∙◌, subst, ℕ, suc, ◌+◌, ◌*◌, ◌<◌, true, false, Some, IsSome, List, [], ◌∷◌, ◌++◌, length, map, take, drop, get_or, add-one, drop-cons, arith}
use Rattle.std.proofs.lemmas.List.{map-append, take_more}
use Rattle.crossbeam_queue.specs.Passes.{IsPassOf, Pass, ruled_capacity, view}
use Rattle.gp_clause.specs.declared.problem.Problem.{Problem}
use Rattle.gp_derivation.specs.declared.exchange.SharedClause.{SharedClause}
use Rattle.gp_inbox.specs.declared.inbox.Inbox.{Inbox}
use Rattle.gp_inbox.specs.declared.rule.View.{View}
use Rattle.gp_inbox.specs.Passes.{IsOf}
use Rattle.gp_inbox.specs.Views.{left_of, one_of, sender_view, unused}

-- a number is left as long as fewer were handed over than there are
pub some_left : (senders : List ℕ) (i : ℕ) (numbers : List ℕ) → numbers ≡ drop i senders → i < length senders → 0 < length numbers
some_left senders i numbers left more =
    let parts : length numbers ≡ length (get_or senders i 0 ∷ drop (suc i) senders) = ap length (left ∙ drop-cons senders i 0 more) in
    omega (arith, parts)

-- what is left after one more
pub left_after : (base : Problem) (senders : List ℕ) (i : ℕ) → i < length senders → left_of (unused (Some base) senders (drop i senders) true) ≡ unused (Some base) senders (drop (i + 1) senders) true
left_after base senders i more =
    ap (λ (numbers : List ℕ). unused (Some base) senders numbers true) (ap (drop 1) (drop-cons senders i 0 more) ∙ ap (λ n. drop n senders) (sym (add-one i)))

-- what the next pass knows
pub one_after : (base : Problem) (senders : List ℕ) (i : ℕ) → i < length senders → one_of (unused (Some base) senders (drop i senders) true) ≡ sender_view base senders (get_or senders i 0)
one_after base senders i more = ap (λ (numbers : List ℕ). unused (Some base) senders numbers false) (ap (take 1) (drop-cons senders i 0 more))

-- the passes know what they are to know, with one more
pub handed_more : (base : Problem) (senders : List ℕ) (i : ℕ) (passes more : List (Pass SharedClause View)) (one : Pass SharedClause View) → i < length senders
    → map view passes ≡ map (sender_view base senders) (take i senders) → view one ≡ sender_view base senders (get_or senders i 0) → more ≡ passes ++ one ∷ []
    → map view more ≡ map (sender_view base senders) (take (i + 1) senders)
handed_more base senders i passes more one there handed knows is =
    ap (map view) is
    ∙ map-append view passes (one ∷ [])
    ∙ (λ k. handed k ++ knows k ∷ [])
    ∙ sym (map-append (sender_view base senders) (take i senders) (get_or senders i 0 ∷ []))
    ∙ ap (map (sender_view base senders)) (sym (take_more senders i 0 there))

-- a pass that knows what a sender knows belongs to the inbox
pub sender_is_of : (inbox : Inbox) (base : Problem) (senders : List ℕ) (number : ℕ) (one : Pass SharedClause View) → IsPassOf inbox.queue one → view one ≡ sender_view base senders number
    → ruled_capacity inbox.queue ≡ 1024 * length senders → IsOf inbox one
sender_is_of inbox base senders number one own knows room = record {
  queue = own;
  opened = subst (λ (v : View). IsSome v.base) (sym knows) refl;
  room = room ∙ ap (λ (v : View). 1024 * length v.senders) (sym knows);
}
