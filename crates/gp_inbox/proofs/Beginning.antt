-- The rule at the start, and where the first pass learns the base and the senders.
use Rattle.std.proofs.Common.{◌≡◌, refl, sym, subst, ap, ◌∙◌, ℕ, zero, suc, true, true≢false, Option, None, Some, IsSome, List, [], ◌∷◌, ◌++◌, set, All, arith, count_by, ◌==◌}
use Rattle.std.proofs.lemmas.List.Elements.{All-head, All-nil}
use Rattle.std.proofs.lemmas.List.Sums.{sum_by_push}
use mathlib.Core.Option.{some, some-injective, some-ne-none}
use lib.ListN.{get_elem?}
use Rattle.gp_clause.specs.declared.problem.Problem.{Problem}
use Rattle.gp_derivation.specs.declared.exchange.SharedClause.{SharedClause}
use Rattle.gp_inbox.specs.declared.rule.View.{View}
use Rattle.gp_inbox.specs.History.{history, sent_by}
use Rattle.gp_inbox.specs.Rule.{Fits, Kept, one_that_takes}
use Rattle.gp_inbox.specs.Senders.{AllDifferent}
use Rattle.gp_inbox.specs.Views.{blank, IsGoodFor, NamesOneOf, opened, spent}
use Rattle.gp_base.specs.SumLaws.{sum_set}
use Rattle.gp_inbox.proofs.Parting.{some_not_none}
use Rattle.gp_inbox.proofs.Sending.{both_empty}
use Rattle.gp_inbox.proofs.Taking.{no_other}
use Rattle.gp_inbox.proofs.Elements.{each_push, each_set}

-- without a base no clause is good
none_good : (clauses : List SharedClause) → All (IsGoodFor None) clauses → clauses ≡ []
none_good [] good = refl
none_good (clause ∷ rest) good = absurd (All-head (IsGoodFor None) clause rest good)

none_unless : (base : Option Problem) → (IsSome base → base ≡ None) → base ≡ None
none_unless None is = refl
none_unless (Some problem) is = is refl

-- a view that knows nothing fits all
pub spent_fits : (base : Option Problem) (senders : List ℕ) (pushes : ℕ → List SharedClause) (got : List SharedClause) → Fits base senders pushes got spent
spent_fits base senders pushes got = record {
  same = λ there. absurd (true≢false (sym there));
  taker = λ may. absurd (true≢false (sym may));
  other = λ may_not. refl;
  idle = λ none. (refl, refl, refl);
  busy = λ none may_not. refl;
  own = λ number may. absurd (omega (arith, may));
  none = λ number without. refl;
  sound = All-nil (IsGoodFor base);
}

-- the first view
blank_fits : (view : View) → blank ≡ view → Fits None [] (λ number. []) [] view
blank_fits view is = subst (Fits None [] (λ number. []) []) is (record {
  same = λ there. absurd (true≢false (sym there));
  taker = λ may. (refl, refl, refl);
  other = λ may_not. refl;
  idle = λ none. (refl, refl, refl);
  busy = λ none may_not. refl;
  own = λ number may. absurd (omega (arith, may));
  none = λ number without. refl;
  sound = All-nil (IsGoodFor None);
})

first_fits : (seat : ℕ) (view : View) → get_elem? (blank ∷ []) seat ≡ some view → Fits None [] (λ number. []) [] view
first_fits zero view at = blank_fits view (some-injective blank view at)
first_fits (suc seat) view at = absurd (some-ne-none view (sym at))

pub begins : Kept [] (blank ∷ [])
begins = record {
  base = None;
  senders = [];
  pushes = λ number. [];
  got = [];
  fits = first_fits;
  order = λ number. refl;
  good = All-nil (IsGoodFor None);
  from = All-nil (NamesOneOf []);
  once = λ number. refl;
  apart = λ number. omega arith;
  one = refl;
  short = λ number. omega arith;
}

-- a view that holds every number and may take, once it is opened
pub opened_fits : (base : Problem) (senders : List ℕ) → Fits (Some base) senders (λ number. []) [] (opened (Some base) senders)
opened_fits base senders = record {
  same = λ there. (refl, refl);
  taker = λ may. (refl, refl, refl);
  other = λ may_not. refl;
  idle = λ none. absurd (some_not_none (Some base) refl none);
  busy = λ none may_not. absurd (true≢false may_not);
  own = λ number may. refl;
  none = λ number without. refl;
  sound = All-nil (IsGoodFor (Some base));
}

-- a view that knows nothing fits the base that is opened
pub other_fits : (before : Option Problem) (before_senders : List ℕ) (pushes : ℕ → List SharedClause) (got : List SharedClause) (view : View) → Fits before before_senders pushes got view
    → view.base ≡ None → (view.takes ≡ true → ⊥) → (base : Problem) (senders : List ℕ) → Fits (Some base) senders (λ number. []) [] view
other_fits before before_senders pushes got view fits none may_not base senders =
    let idle = fits.idle none in
    record {
      same = λ there. absurd (some_not_none view.base there none);
      taker = λ may. absurd (may_not may);
      other = fits.other;
      idle = fits.idle;
      busy = fits.busy;
      own = λ number may. let without : count_by (◌==◌ number) view.numbers ≡ 0 = ap (count_by (◌==◌ number)) idle.0 in absurd (omega (arith, without, may));
      none = λ number without. ap (sent_by number) idle.1;
      sound = subst (All (IsGoodFor (Some base))) (sym idle.1) (All-nil (IsGoodFor (Some base)));
    }

pub keeps_open : (held : List SharedClause) (views : List View) (seat : ℕ) (view : View) (base : Problem) (senders : List ℕ) → Kept held views → get_elem? views seat ≡ some view → view ≡ blank
    → AllDifferent senders → Kept held (set views seat (opened (Some base) senders) ++ spent ∷ [])
keeps_open held views seat view base senders kept at is different =
    let mine = kept.fits seat view at in
    let takes : view.takes ≡ true = ap (λ (v : View). v.takes) is in
    let closed : kept.base ≡ None = sym (mine.taker takes).0 ∙ ap (λ (v : View). v.base) is in
    let nobody : kept.senders ≡ [] = sym (mine.taker takes).1 ∙ ap (λ (v : View). v.senders) is in
    let numbers : view.numbers ≡ [] = ap (λ (v : View). v.numbers) is in
    let empty = both_empty kept.got held (none_good (history kept.got held) (subst (λ (b : Option Problem). All (IsGoodFor b) (history kept.got held)) closed kept.good)) in
    let new : View = opened (Some base) senders in
    record {
      base = Some base;
      senders = senders;
      pushes = λ number. [];
      got = [];
      fits = each_push (Fits (Some base) senders (λ number. []) []) (set views seat new) spent
          (each_set (Fits (Some base) senders (λ number. []) []) views seat new (opened_fits base senders)
          (λ other one apart there.
          other_fits kept.base kept.senders kept.pushes kept.got one (kept.fits other one there) (none_unless one.base (λ has. ((kept.fits other one there).same has).0 ∙ closed))
          (no_other views seat other view one kept.one at apart there takes) base senders))
          (spent_fits (Some base) senders (λ number. []) []);
      order = λ number. ap (sent_by number) empty.1;
      good = subst (All (IsGoodFor (Some base))) (sym empty.1) (All-nil (IsGoodFor (Some base)));
      from = subst (All (NamesOneOf senders)) (sym empty.1) (All-nil (NamesOneOf senders));
      once = λ number.
          let changed = sum_set (λ (v : View). count_by (◌==◌ number) v.numbers) views seat view new at in
          let more = sum_by_push (λ (v : View). count_by (◌==◌ number) v.numbers) (set views seat new) spent in
          let all = kept.once number in
          let before : count_by (◌==◌ number) kept.senders ≡ 0 = ap (count_by (◌==◌ number)) nobody in
          let own : count_by (◌==◌ number) view.numbers ≡ 0 = ap (count_by (◌==◌ number)) numbers in
          omega (arith, changed, more, all, before, own);
      apart = different;
      one =
          let changed = sum_set one_that_takes views seat view new at in
          let more = sum_by_push one_that_takes (set views seat new) spent in
          let all = kept.one in
          let own : one_that_takes view ≡ 1 = ap one_that_takes is in
          omega (arith, changed, more, all, own);
      short = λ number. omega arith;
    }
