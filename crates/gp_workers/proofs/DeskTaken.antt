-- What a worker took is little: each other worker sends few clauses.
use Rattle.std.proofs.Common.{◌≡◌, refl, ℕ, ◌+◌, ◌-◌, ◌*◌, ◌<◌, ◌≤◌, ◌==◌, Bool, true, false, cond, List, [], ◌∷◌, length, All, arith, if◌then◌else◌, count_by}
use Rattle.std.specs.List.{range_with_len}
use Rattle.std.proofs.lemmas.List.{length-append}
use Rattle.std.proofs.lemmas.List.Elements.{All-head, All-tail}
use Rattle.std.proofs.lemmas.List.FromFn.{length-range_with_len}
use Rattle.gp_base.specs.SumLaws.{count_cons}
use Rattle.gp_derivation.specs.declared.exchange.SharedClause.{SharedClause}
use Rattle.gp_inbox.specs.History.{sent_by}
use Rattle.gp_inbox.specs.Views.{NamesOneOf}
use Rattle.gp_workers.specs.declared.desk.Desk.{Desk}
use Rattle.gp_workers.specs.Desk.{IsDesk, taken_of}
use Rattle.gp_workers.specs.Sharing.{others}

-- how many clauses some senders have together
abbrev sent_by_all : List ℕ → List SharedClause → ℕ
sent_by_all [] shared = 0
sent_by_all (sender ∷ senders) shared = length (sent_by sender shared) + sent_by_all senders shared

kept_by : (b : Bool) (clause : SharedClause) (rest : List SharedClause) → length (cond b (clause ∷ rest) rest) ≡ (if b then 1 else 0) + length rest
kept_by true clause rest = omega arith
kept_by false clause rest = omega arith

-- one clause is as much more for all senders as its sender is among them
one_more : (clause : SharedClause) (rest : List SharedClause) (senders : List ℕ) → sent_by_all senders (clause ∷ rest) ≡ count_by (◌==◌ clause.sender) senders + sent_by_all senders rest
one_more clause rest [] = refl
one_more clause rest (sender ∷ senders) =
    let first : length (sent_by sender (clause ∷ rest)) ≡ (if clause.sender == sender then 1 else 0) + length (sent_by sender rest) = kept_by (clause.sender == sender) clause (sent_by sender rest) in
    let more = one_more clause rest senders in
    let own = count_cons (◌==◌ clause.sender) sender senders in omega (arith, first, more, own)

at_least : (senders : List ℕ) (shared : List SharedClause) → All (NamesOneOf senders) shared → length shared ≤ sent_by_all senders shared
at_least senders [] from = omega arith
at_least senders (clause ∷ rest) from =
    let more = one_more clause rest senders in
    let others : length rest ≤ sent_by_all senders rest = at_least senders rest (All-tail (NamesOneOf senders) clause rest from) in
    let here : 0 < count_by (◌==◌ clause.sender) senders = All-head (NamesOneOf senders) clause rest from in omega (arith, more, others, here)

at_most : (senders : List ℕ) (shared : List SharedClause) → ((sender : ℕ) → length (sent_by sender shared) ≤ 1024) → sent_by_all senders shared ≤ 1024 * length senders
at_most [] shared short = omega arith
at_most (sender ∷ senders) shared short =
    let first : length (sent_by sender shared) ≤ 1024 = short sender in
    let more : sent_by_all senders shared ≤ 1024 * length senders = at_most senders shared short in omega (arith, first, more)

-- as many as the other workers
pub others_are : (count place : ℕ) → place < count → length (others count place) + 1 ≡ count
others_are count place within =
    let sum : length (others count place) ≡ length (range_with_len 1 place) + length (range_with_len (place + 2) (count - (place + 1))) = length-append (range_with_len 1 place) (range_with_len (place + 2) (count - (place + 1))) in
    omega (arith, sum, length-range_with_len 1 place, length-range_with_len (place + 2) (count - (place + 1)), within)

pub few_taken : (desk : Desk) → IsDesk desk → length (taken_of desk) ≤ 15360
few_taken desk is =
    let senders : List ℕ = others (length desk.inboxes.now) desk.place in
    let low : length (taken_of desk) ≤ sent_by_all senders (taken_of desk) = at_least senders (taken_of desk) is.from in
    let high : sent_by_all senders (taken_of desk) ≤ 1024 * length senders = at_most senders (taken_of desk) is.short in
    let counted : length senders + 1 ≡ length desk.inboxes.now = others_are (length desk.inboxes.now) desk.place is.place in
    omega (arith, low, high, counted, is.few)
