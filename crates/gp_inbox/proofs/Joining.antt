-- To join two passes keeps the rule.
use Rattle.std.proofs.Common.{◌≡◌, refl, sym, ◌∙◌, ℕ, zero, suc, ◌+◌, ◌<◌, ◌≤◌, ◌≢◌, ◌||◌, Bool, true, false, true≢false, Option, IsSome, List, [], ◌++◌, set, ⊎_elim, if◌then◌else◌, arith, count_by, ◌==◌}
use Rattle.std.proofs.lemmas.List.{append-nil}
use Rattle.std.proofs.lemmas.List.Elements.{All-append}
use mathlib.Core.Option.{some}
use lib.ListN.{get_elem?}
use Rattle.crossbeam_queue.proofs.Lists.{at_set}
use Rattle.gp_clause.specs.declared.problem.Problem.{Problem}
use Rattle.gp_derivation.specs.declared.exchange.SharedClause.{SharedClause}
use Rattle.gp_inbox.specs.declared.rule.View.{View}
use Rattle.gp_inbox.specs.History.{sent_by}
use Rattle.gp_inbox.specs.Rule.{Fits, Kept, one_that_takes}
use Rattle.gp_inbox.specs.Views.{IsGoodFor, joined, spent}
use Rattle.gp_base.specs.SumLaws.{sum_set, two_most, count_append}
use Rattle.gp_inbox.proofs.Beginning.{spent_fits}
use Rattle.gp_inbox.proofs.Parting.{some_not_none}
use Rattle.gp_inbox.proofs.Sending.{both_empty, sent_append}
use Rattle.gp_inbox.proofs.Elements.{each_set}

-- what two took, of which one may take at most
join_taken : (a b : Bool) (mine theirs got : List SharedClause) → (a ≡ true → mine ≡ got) → (b ≡ true → theirs ≡ got) → (a ≡ false → mine ≡ []) → (b ≡ false → theirs ≡ [])
    → (if a then 1 else 0) + (if b then 1 else 0) ≤ 1 → (a || b) ≡ true → mine ++ theirs ≡ got
join_taken true true mine theirs got is_mine is_theirs no_mine no_theirs few may = absurd (omega (arith, few))
join_taken true false mine theirs got is_mine is_theirs no_mine no_theirs few may = (λ i. is_mine refl i ++ no_theirs refl i) ∙ append-nil got
join_taken false true mine theirs got is_mine is_theirs no_mine no_theirs few may = λ i. no_mine refl i ++ is_theirs refl i
join_taken false false mine theirs got is_mine is_theirs no_mine no_theirs few may = absurd (true≢false (sym may))

-- where neither may take, they took nothing
join_untaken : (a b : Bool) (mine theirs : List SharedClause) → (a ≡ false → mine ≡ []) → (b ≡ false → theirs ≡ []) → (a || b) ≡ false → mine ++ theirs ≡ []
join_untaken true b mine theirs no_mine no_theirs may_not = absurd (true≢false may_not)
join_untaken false b mine theirs no_mine no_theirs may_not = λ i. no_mine refl i ++ no_theirs may_not i

-- where the joined one may not take, the first may not
join_idle : (a b : Bool) → (a || b) ≡ false → a ≡ false
join_idle true b may_not = absurd (true≢false may_not)
join_idle false b may_not = refl

-- of two that take one does, so the joined one does
join_one : (a b : Bool) → (if a then 1 else 0) + (if b then 1 else 0) ≤ 1 → (if (a || b) then 1 else 0) ≡ (if a then 1 else 0) + (if b then 1 else 0)
join_one true true few = absurd (omega (arith, few))
join_one true false few = refl
join_one false true few = refl
join_one false false few = refl

-- what two pushed under a number that one of them has
join_own : (n m : ℕ) (mine theirs pushes : List SharedClause) → (0 < n → mine ≡ pushes) → (0 < m → theirs ≡ pushes) → (n ≡ 0 → mine ≡ []) → (m ≡ 0 → theirs ≡ []) → n + m ≤ 1 → 0 < n + m
    → mine ++ theirs ≡ pushes
join_own zero m mine theirs pushes is_mine is_theirs no_mine no_theirs few may = λ i. no_mine refl i ++ is_theirs (omega (arith, may)) i
join_own (suc n) m mine theirs pushes is_mine is_theirs no_mine no_theirs few may =
    (λ i. is_mine (omega arith) i ++ no_theirs (omega (arith, few)) i) ∙ append-nil pushes

-- the view that knows what both knew
join_both : (base : Option Problem) (senders : List ℕ) (pushes : ℕ → List SharedClause) (got : List SharedClause) (view other : View) → Fits base senders pushes got view → Fits base senders pushes got other
    → IsSome view.base → ((number : ℕ) → count_by (◌==◌ number) view.numbers + count_by (◌==◌ number) other.numbers ≤ 1) → one_that_takes view + one_that_takes other ≤ 1
    → (view.takes || other.takes ≡ true → (view.base ≡ base) × (view.senders ≡ senders)) → Fits base senders pushes got (joined view other)
join_both base senders pushes got view other mine theirs there few alone known = record {
  same = mine.same;
  taker = λ may. (
    (known may).0,
    (known may).1,
    join_taken view.takes other.takes view.taken other.taken got (λ takes. (mine.taker takes).2) (λ takes. (theirs.taker takes).2) mine.other theirs.other alone may,
  );
  other = λ may_not. join_untaken view.takes other.takes view.taken other.taken mine.other theirs.other may_not;
  idle = λ none. absurd (some_not_none view.base there none);
  busy = λ none may_not. mine.busy (both_empty view.numbers other.numbers none).0 (join_idle view.takes other.takes may_not);
  own = λ number may.
      sent_append number view.pushed other.pushed
      ∙ join_own (count_by (◌==◌ number) view.numbers) (count_by (◌==◌ number) other.numbers) (sent_by number view.pushed) (sent_by number other.pushed) (pushes number) (mine.own number) (theirs.own number) (mine.none number)
      (theirs.none number) (few number) (let both = count_append (◌==◌ number) view.numbers other.numbers in omega (arith, both, may));
  none = λ number without.
      let both = count_append (◌==◌ number) view.numbers other.numbers in
      sent_append number view.pushed other.pushed ∙ (λ i. mine.none number (omega (arith, both, without)) i ++ theirs.none number (omega (arith, both, without)) i);
  sound = All-append (IsGoodFor base) view.pushed other.pushed mine.sound theirs.sound;
}

pub keeps_join : (held : List SharedClause) (views : List View) (seat : ℕ) (view : View) (other : ℕ) (one : View) → Kept held views → get_elem? views seat ≡ some view → other ≢ seat
    → get_elem? (set views seat (joined view one)) other ≡ some one → IsSome view.base → Kept held (set (set views seat (joined view one)) other spent)
keeps_join held views seat view other one kept at apart there opened =
    let both : View = joined view one in
    let was : get_elem? views other ≡ some one =
    ⊎_elim (λ (here : (other ≡ seat) × (both ≡ one)). absurd (apart here.0)) (λ (elsewhere : (other ≢ seat) × (get_elem? views other ≡ some one)). elsewhere.1) (at_set views seat other both one there) in
    let mine = kept.fits seat view at in
    let theirs = kept.fits other one was in
    let alone : one_that_takes view + one_that_takes one ≤ 1 =
    (let most = two_most one_that_takes views seat other view one at apart was in let all = kept.one in omega (arith, most, all)) in
    let few : (number : ℕ) → count_by (◌==◌ number) view.numbers + count_by (◌==◌ number) one.numbers ≤ 1 =
    (λ number.
    let most = two_most (λ (v : View). count_by (◌==◌ number) v.numbers) views seat other view one at apart was in
    let all = kept.once number in
    let once = kept.apart number in
    omega (arith, most, all, once)) in
    record {
      base = kept.base;
      senders = kept.senders;
      pushes = kept.pushes;
      got = kept.got;
      fits = each_set (Fits kept.base kept.senders kept.pushes kept.got) (set views seat both) other spent (spent_fits kept.base kept.senders kept.pushes kept.got)
          (λ third each _ elsewhere.
          each_set (Fits kept.base kept.senders kept.pushes kept.got) views seat both
          (join_both kept.base kept.senders kept.pushes kept.got view one mine theirs opened few alone (λ may. mine.same opened))
          (λ fourth any _ at_fourth. kept.fits fourth any at_fourth) third each elsewhere);
      order = kept.order;
      good = kept.good;
      from = kept.from;
      once = λ number.
          let changed = sum_set (λ (v : View). count_by (◌==◌ number) v.numbers) views seat view both at in
          let emptied = sum_set (λ (v : View). count_by (◌==◌ number) v.numbers) (set views seat both) other one spent there in
          let parts = count_append (◌==◌ number) view.numbers one.numbers in
          let all = kept.once number in
          omega (arith, changed, emptied, parts, all);
      apart = kept.apart;
      one =
          let changed = sum_set one_that_takes views seat view both at in
          let emptied = sum_set one_that_takes (set views seat both) other one spent there in
          let parts : one_that_takes both ≡ one_that_takes view + one_that_takes one = join_one view.takes one.takes alone in
          let all = kept.one in
          omega (arith, changed, emptied, parts, all);
      short = kept.short;
    }
