-- The rule where a whole pass learns another base.
use Rattle.std.proofs.Common.{◌≡◌, refl, sym, subst, ap, ◌∙◌, ℕ, ◌+◌, ◌<◌, ◌≢◌, ◌==◌, Bool, true, false, None, Some, List, [], ◌∷◌, ◌++◌, length, set, All, if◌then◌else◌, arith, count_by, length-append}
use Rattle.std.proofs.lemmas.Bool.{eq-eqb}
use Rattle.std.proofs.lemmas.List.Elements.{All-head, All-nil}
use Rattle.std.proofs.lemmas.List.Sums.{sum_by_push}
use mathlib.Core.Option.{some}
use lib.ListN.{get_elem?}
use Rattle.gp_base.specs.CountLaws.{count_one}
use Rattle.gp_base.specs.ListLaws.{here}
use Rattle.gp_base.specs.SumLaws.{sum_set, two_most}
use Rattle.gp_clause.specs.declared.problem.Problem.{Problem}
use Rattle.gp_derivation.specs.declared.exchange.SharedClause.{SharedClause}
use Rattle.gp_inbox.specs.declared.rule.View.{View}
use Rattle.gp_inbox.specs.History.{sent_by}
use Rattle.gp_inbox.specs.Rule.{Fits, Kept, one_that_takes}
use Rattle.gp_inbox.specs.Senders.{AllDifferent}
use Rattle.gp_inbox.specs.Views.{IsGoodFor, IsWhole, NamesOneOf, opened, spent}
use Rattle.gp_inbox.proofs.Beginning.{opened_fits, other_fits, spent_fits}
use Rattle.gp_inbox.proofs.Elements.{each_push, each_set}
use Rattle.gp_inbox.proofs.Sending.{all_behind, sent_append, sent_more}
use Rattle.gp_inbox.proofs.Taking.{no_other}

-- a list that has no number is empty
nothing_counts : (numbers : List ℕ) → ((number : ℕ) → count_by (◌==◌ number) numbers ≡ 0) → numbers ≡ []
nothing_counts [] none = refl
nothing_counts (number ∷ rest) none =
    let once = count_one (◌==◌ number) (number ∷ rest) number (here number rest) (eq-eqb number number refl) in let never = none number in absurd (omega (arith, once, never))

-- a test that is not true is false
not_true : (b : Bool) → (b ≡ true → ⊥) → b ≡ false
not_true true not = absurd (not refl)
not_true false not = refl

-- nothing is held where of each sender among them all that came before it is all that it sent
nothing_sent : (senders : List ℕ) (got held : List SharedClause) → All (NamesOneOf senders) held
    → ((number : ℕ) → 0 < count_by (◌==◌ number) senders → sent_by number (got ++ held) ≡ sent_by number got) → held ≡ []
nothing_sent senders got [] from drained = refl
nothing_sent senders got (clause ∷ rest) from drained =
    let number = clause.sender in
    let all : length (sent_by number got) + length (sent_by number (clause ∷ rest)) ≡ length (sent_by number got) =
    sym (length-append (sent_by number got) (sent_by number (clause ∷ rest))) ∙ ap length (sym (sent_append number got (clause ∷ rest)) ∙ drained number (All-head (NamesOneOf senders) clause rest from)) in
    let more = sent_more number clause rest in
    let one : ◌≡◌ {A = ℕ} (if number == number then 1 else 0) 1 = ap (λ (b : Bool). if b then 1 else 0) (eq-eqb number number refl) in
    absurd (omega (arith, all, more, one))

-- a queue whose whole pass took all that was pushed holds nothing
drained_is_empty : (held : List SharedClause) (views : List View) (seat : ℕ) (view : View) → Kept held views → get_elem? views seat ≡ some view → IsWhole view → held ≡ []
drained_is_empty held views seat view kept at whole =
    let mine = kept.fits seat view at in
    let known = mine.taker whole.takes in
    nothing_sent kept.senders kept.got held (all_behind (NamesOneOf kept.senders) kept.got held kept.from)
    (λ number there.
    let may : 0 < count_by (◌==◌ number) view.numbers =
    (let all = whole.numbers number in
    let same : count_by (◌==◌ number) view.senders ≡ count_by (◌==◌ number) kept.senders = ap (count_by (◌==◌ number)) known.1 in
    omega (arith, all, same, there)) in
    kept.order number ∙ sym (mine.own number may) ∙ sym (whole.drained number may) ∙ ap (sent_by number) known.2)

-- beside a whole pass no other carries a base
others_know_nothing : (held : List SharedClause) (views : List View) (seat : ℕ) (view : View) (kept : Kept held views) → get_elem? views seat ≡ some view → IsWhole view
    → (other : ℕ) (one : View) → other ≢ seat → get_elem? views other ≡ some one → one.base ≡ None
others_know_nothing held views seat view kept at whole other one apart there =
    let theirs = kept.fits other one there in
    let known = (kept.fits seat view at).taker whole.takes in
    theirs.busy
    (nothing_counts one.numbers
    (λ number.
    let both = two_most (λ (v : View). count_by (◌==◌ number) v.numbers) views seat other view one at apart there in
    let all = kept.once number in
    let own = whole.numbers number in
    let same : count_by (◌==◌ number) view.senders ≡ count_by (◌==◌ number) kept.senders = ap (count_by (◌==◌ number)) known.1 in
    omega (arith, both, all, own, same)))
    (not_true one.takes (no_other views seat other view one kept.one at apart there whole.takes))

pub keeps_renewal : (held : List SharedClause) (views : List View) (seat : ℕ) (view : View) (base : Problem) (senders : List ℕ) → Kept held views → get_elem? views seat ≡ some view → IsWhole view
    → senders ≡ view.senders → Kept held (set views seat (opened (Some base) senders) ++ spent ∷ [])
keeps_renewal held views seat view base senders kept at whole same =
    let mine = kept.fits seat view at in
    let empty : held ≡ [] = drained_is_empty held views seat view kept at whole in
    let still : senders ≡ kept.senders = same ∙ (mine.taker whole.takes).1 in
    let new : View = opened (Some base) senders in
    record {
      base = Some base;
      senders = senders;
      pushes = λ number. [];
      got = [];
      fits = each_push (Fits (Some base) senders (λ number. []) []) (set views seat new) spent
          (each_set (Fits (Some base) senders (λ number. []) []) views seat new (opened_fits base senders)
          (λ other one apart there.
          other_fits kept.base kept.senders kept.pushes kept.got one (kept.fits other one there) (others_know_nothing held views seat view kept at whole other one apart there)
          (no_other views seat other view one kept.one at apart there whole.takes) base senders))
          (spent_fits (Some base) senders (λ number. []) []);
      order = λ number. ap (sent_by number) empty;
      good = subst (All (IsGoodFor (Some base))) (sym empty) (All-nil (IsGoodFor (Some base)));
      from = subst (All (NamesOneOf senders)) (sym empty) (All-nil (NamesOneOf senders));
      once = λ number.
          let changed = sum_set (λ (v : View). count_by (◌==◌ number) v.numbers) views seat view new at in
          let more = sum_by_push (λ (v : View). count_by (◌==◌ number) v.numbers) (set views seat new) spent in
          let all = kept.once number in
          let own = whole.numbers number in
          let mine_same : count_by (◌==◌ number) senders ≡ count_by (◌==◌ number) view.senders = ap (count_by (◌==◌ number)) same in
          let all_same : count_by (◌==◌ number) senders ≡ count_by (◌==◌ number) kept.senders = ap (count_by (◌==◌ number)) still in
          omega (arith, changed, more, all, own, mine_same, all_same);
      apart = subst AllDifferent (sym still) kept.apart;
      one =
          let changed = sum_set one_that_takes views seat view new at in
          let more = sum_by_push one_that_takes (set views seat new) spent in
          let all = kept.one in
          let own : one_that_takes view ≡ 1 = ap (λ (b : Bool). if b then 1 else 0) whole.takes in
          omega (arith, changed, more, all, own);
      short = λ number. omega arith;
    }
