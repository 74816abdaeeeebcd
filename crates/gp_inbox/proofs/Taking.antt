-- A take keeps the rule.
use Rattle.std.proofs.Common.{◌≡◌, refl, sym, subst, ap, ◌∙◌, ℕ, ◌≢◌, Bool, true, true≢false, Option, List, [], ◌∷◌, ◌++◌, length, set, All, append_assoc, if◌then◌else◌, arith, count_by, sum_by, ◌==◌}
use Rattle.std.proofs.lemmas.List.Elements.{All-head}
use mathlib.Core.Option.{some}
use lib.ListN.{get_elem?}
use Rattle.gp_clause.specs.declared.problem.Problem.{Problem}
use Rattle.gp_derivation.specs.declared.exchange.SharedClause.{SharedClause}
use Rattle.gp_inbox.specs.declared.rule.View.{View}
use Rattle.gp_inbox.specs.History.{history, sent_by}
use Rattle.gp_inbox.specs.Rule.{Fits, Kept, one_that_takes}
use Rattle.gp_inbox.specs.Views.{IsGoodFor, NamesOneOf, Takes, took_one}
use Rattle.gp_base.specs.SumLaws.{sum_set, two_most}
use Rattle.gp_inbox.proofs.Pushing.{good_none}
use Rattle.gp_inbox.proofs.Sending.{all_behind, sent_first}
use Rattle.gp_inbox.proofs.Elements.{each_set}

-- one view alone may take
pub no_other : (views : List View) (seat other : ℕ) (view one : View) → sum_by one_that_takes views ≡ 1 → get_elem? views seat ≡ some view → other ≢ seat → get_elem? views other ≡ some one
    → view.takes ≡ true → one.takes ≡ true → ⊥
no_other views seat other view one alone at apart there takes too =
    let both = two_most one_that_takes views seat other view one at apart there in
    let first : one_that_takes view ≡ 1 = ap (λ (b : Bool). if b then 1 else 0) takes in
    let second : one_that_takes one ≡ 1 = ap (λ (b : Bool). if b then 1 else 0) too in
    omega (arith, both, first, second, alone)

-- the view that took
take_own : (base : Option Problem) (senders : List ℕ) (pushes : ℕ → List SharedClause) (got : List SharedClause) (view : View) (clause : SharedClause) → Fits base senders pushes got view
    → IsGoodFor base clause → view.takes ≡ true → Fits base senders pushes (got ++ clause ∷ []) (took_one view clause)
take_own base senders pushes got view clause fits good takes = record {
  same = fits.same;
  taker = λ may. ((fits.taker may).0, (fits.taker may).1, ap (λ (l : List SharedClause). l ++ clause ∷ []) (fits.taker may).2);
  other = λ may_not. absurd (true≢false (sym takes ∙ may_not));
  idle = λ none. absurd (good_none base clause good (sym (fits.taker takes).0 ∙ none));
  busy = fits.busy;
  own = fits.own;
  none = fits.none;
  sound = fits.sound;
}

-- a view that may not take
take_other : (base : Option Problem) (senders : List ℕ) (pushes : ℕ → List SharedClause) (got more : List SharedClause) (view : View) → Fits base senders pushes got view
    → (view.takes ≡ true → ⊥) → Fits base senders pushes more view
take_other base senders pushes got more view fits may_not = record {
  same = fits.same;
  taker = λ may. absurd (may_not may);
  other = fits.other;
  idle = fits.idle;
  busy = fits.busy;
  own = fits.own;
  none = fits.none;
  sound = fits.sound;
}

pub keeps_take : (held : List SharedClause) (views : List View) (seat : ℕ) (view : View) (clause : SharedClause) → Kept (clause ∷ held) views → get_elem? views seat ≡ some view
    → view.takes ≡ true → Kept held (set views seat (took_one view clause)) × Takes view clause (took_one view clause)
keeps_take held views seat view clause kept at takes =
    let mine = kept.fits seat view at in
    let new : View = took_one view clause in
    let got : List SharedClause = kept.got ++ clause ∷ [] in
    let same : history kept.got (clause ∷ held) ≡ history got held = sym (append_assoc kept.got (clause ∷ []) held) in
    let good : IsGoodFor kept.base clause = All-head (IsGoodFor kept.base) clause held (all_behind (IsGoodFor kept.base) kept.got (clause ∷ held) kept.good) in
    let named : NamesOneOf kept.senders clause = All-head (NamesOneOf kept.senders) clause held (all_behind (NamesOneOf kept.senders) kept.got (clause ∷ held) kept.from) in
    let order : (number : ℕ) → sent_by number (history got held) ≡ kept.pushes number = λ number. ap (sent_by number) (sym same) ∙ kept.order number in (
      record {
        base = kept.base;
        senders = kept.senders;
        pushes = kept.pushes;
        got = got;
        fits = each_set (Fits kept.base kept.senders kept.pushes got) views seat new (take_own kept.base kept.senders kept.pushes kept.got view clause mine good takes)
            (λ other one apart there.
            take_other kept.base kept.senders kept.pushes kept.got got one (kept.fits other one there) (no_other views seat other view one kept.one at apart there takes));
        order = order;
        good = subst (All (IsGoodFor kept.base)) same kept.good;
        from = subst (All (NamesOneOf kept.senders)) same kept.from;
        once = λ number. let changed = sum_set (λ (v : View). count_by (◌==◌ number) v.numbers) views seat view new at in let all = kept.once number in omega (arith, changed, all);
        apart = kept.apart;
        one = let changed = sum_set one_that_takes views seat view new at in let all = kept.one in omega (arith, changed, all);
        short = kept.short;
      },
      record {
        took = refl;
        good = subst (λ (b : Option Problem). IsGoodFor b clause) (sym (mine.taker takes).0) good;
        from = subst (λ (senders : List ℕ). NamesOneOf senders clause) (sym (mine.taker takes).1) named;
        short = λ number.
            let taken : length (sent_by number new.taken) ≡ length (sent_by number got) = ap (λ (l : List SharedClause). length (sent_by number (l ++ clause ∷ []))) (mine.taker takes).2 in
            let part = sent_first number got held in
            let all : length (sent_by number (history got held)) ≡ length (kept.pushes number) = ap length (order number) in
            let few = kept.short number in
            omega (arith, taken, part, all, few);
      },
    )
