-- The clauses of a sender, among others.
use Rattle.std.proofs.Common.{◌≡◌, refl, ap, ◌∙◌, ℕ, ◌+◌, ◌<◌, ◌≤◌, ◌==◌, Bool, true, false, cond, List, [], ◌∷◌, ◌++◌, length, All, if◌then◌else◌, arith, count_by, length-append, sum_by}
use Rattle.std.proofs.lemmas.Bool.{ne_eqb}
use Rattle.std.proofs.lemmas.List.Elements.{All-head, All-tail, filter-append}
use Rattle.std.proofs.lemmas.List.Sums.{sum_by-cons}
use Rattle.gp_base.specs.SumLaws.{count_cons}
use Rattle.gp_derivation.specs.declared.exchange.SharedClause.{SharedClause}
use Rattle.gp_inbox.specs.History.{sent_by}
use Rattle.gp_inbox.specs.Senders.{AllDifferent}
use Rattle.gp_inbox.specs.Views.{NamesOneOf}

pub sent_append : (sender : ℕ) (xs ys : List SharedClause) → sent_by sender (xs ++ ys) ≡ sent_by sender xs ++ sent_by sender ys
sent_append sender xs ys = filter-append (λ (clause : SharedClause). clause.sender == sender) xs ys

-- a clause of another sender
pub sent_other : (sender : ℕ) (clause : SharedClause) → (clause.sender ≡ sender → ⊥) → sent_by sender (clause ∷ []) ≡ []
sent_other sender clause apart = ap (λ (b : Bool). cond b (clause ∷ []) []) (ne_eqb clause.sender sender apart)

-- one clause by a test
kept_by : (b : Bool) (clause : SharedClause) (rest : List SharedClause) → length (cond b (clause ∷ rest) rest) ≡ (if b then 1 else 0) + length rest
kept_by true clause rest = omega arith
kept_by false clause rest = omega arith

-- one clause more
pub sent_more : (sender : ℕ) (clause : SharedClause) (rest : List SharedClause)
    → length (sent_by sender (clause ∷ rest)) ≡ (if clause.sender == sender then 1 else 0) + length (sent_by sender rest)
sent_more sender clause rest = kept_by (clause.sender == sender) clause (sent_by sender rest)

-- one clause is as much more for all senders as its sender is among them
one_more : (clause : SharedClause) (rest : List SharedClause) (senders : List ℕ)
    → sum_by (λ (sender : ℕ). length (sent_by sender (clause ∷ rest))) senders ≡ count_by (◌==◌ clause.sender) senders + sum_by (λ (sender : ℕ). length (sent_by sender rest)) senders
one_more clause rest [] = refl
one_more clause rest (sender ∷ senders) =
    let first = sent_more sender clause rest in
    let others = one_more clause rest senders in
    let own = count_cons (◌==◌ clause.sender) sender senders in
    let all = sum_by-cons (λ (number : ℕ). length (sent_by number (clause ∷ rest))) sender senders in
    let before = sum_by-cons (λ (number : ℕ). length (sent_by number rest)) sender senders in
    omega (arith, first, others, own, all, before)

-- without a clause there are none
none_sent : (senders : List ℕ) → sum_by (λ (sender : ℕ). length (sent_by sender [])) senders ≡ 0
none_sent [] = refl
none_sent (sender ∷ senders) = let rest = none_sent senders in omega (arith, rest, sum_by-cons (λ (number : ℕ). length (sent_by number [])) sender senders)

-- clauses of senders that are all different are as many as the senders have together
pub sent_in_all : (senders : List ℕ) (clauses : List SharedClause) → AllDifferent senders → All (NamesOneOf senders) clauses
    → sum_by (λ (sender : ℕ). length (sent_by sender clauses)) senders ≡ length clauses
sent_in_all senders [] apart from = none_sent senders
sent_in_all senders (clause ∷ rest) apart from =
    let more = one_more clause rest senders in
    let others : sum_by (λ (sender : ℕ). length (sent_by sender rest)) senders ≡ length rest = sent_in_all senders rest apart (All-tail (NamesOneOf senders) clause rest from) in
    let here : 0 < count_by (◌==◌ clause.sender) senders = All-head (NamesOneOf senders) clause rest from in
    let once : count_by (◌==◌ clause.sender) senders ≤ 1 = apart clause.sender in
    omega (arith, more, others, here, once)

-- a part of a list has no more clauses of a sender than the list
pub sent_first : (sender : ℕ) (xs ys : List SharedClause) → length (sent_by sender xs) ≤ length (sent_by sender (xs ++ ys))
sent_first sender xs ys = let both : length (sent_by sender (xs ++ ys)) ≡ length (sent_by sender xs) + length (sent_by sender ys) = ap length (sent_append sender xs ys) ∙ length-append (sent_by sender xs) (sent_by sender ys) in
    omega (arith, both)

pub sent_last : (sender : ℕ) (xs ys : List SharedClause) → length (sent_by sender ys) ≤ length (sent_by sender (xs ++ ys))
sent_last sender xs ys = let both : length (sent_by sender (xs ++ ys)) ≡ length (sent_by sender xs) + length (sent_by sender ys) = ap length (sent_append sender xs ys) ∙ length-append (sent_by sender xs) (sent_by sender ys) in
    omega (arith, both)

module _ {X : Type 0} where
  -- what holds of all holds of those behind some
  pub all_behind : (P : X → Type 0) (xs ys : List X) → All P (xs ++ ys) → All P ys
  all_behind P [] ys all = all
  all_behind P (x ∷ xs) ys all = all_behind P xs ys (All-tail P x (xs ++ ys) all)

  -- two lists are empty where both together are
  pub both_empty : (xs ys : List X) → xs ++ ys ≡ [] → (xs ≡ []) × (ys ≡ [])
  both_empty [] ys none = (refl, none)
  both_empty (x ∷ xs) ys none = absurd (cc)
