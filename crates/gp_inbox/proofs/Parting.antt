-- To hand a number over keeps the rule.
use Rattle.std.proofs.Common.{◌≡◌, refl, sym, subst, ap, ◌∙◌, ℕ, ◌<◌, true, true≢false, Option, None, IsSome, List, [], ◌∷◌, ◌++◌, length, take, set, arith, count_by, ◌==◌}
use Rattle.std.proofs.lemmas.List.Elements.{All-nil}
use Rattle.std.proofs.lemmas.List.Sums.{sum_by_push}
use mathlib.Core.Option.{some}
use lib.ListN.{get_elem?}
use Rattle.gp_clause.specs.declared.problem.Problem.{Problem}
use Rattle.gp_derivation.specs.declared.exchange.SharedClause.{SharedClause}
use Rattle.gp_inbox.specs.declared.rule.View.{View}
use Rattle.gp_inbox.specs.History.{sent_by}
use Rattle.gp_inbox.specs.Rule.{Fits, Kept, one_that_takes}
use Rattle.gp_inbox.specs.Views.{IsGoodFor, left_of, one_of}
use Rattle.gp_base.specs.SumLaws.{sum_set}
use Rattle.gp_inbox.proofs.Members.{count_parts}
use Rattle.gp_inbox.proofs.Elements.{each_push, each_set}

-- a base that is there is not missing
pub some_not_none : (base : Option Problem) → IsSome base → base ≡ None → ⊥
some_not_none base there none = true≢false (sym (subst IsSome none there))

-- the first of some numbers stays where it alone is taken
first_stays : (numbers : List ℕ) → 0 < length numbers → take 1 numbers ≡ [] → ⊥
first_stays [] left none = omega (arith, left)
first_stays (number ∷ numbers) left none = cc

-- what is left
part_left : (base : Option Problem) (senders : List ℕ) (pushes : ℕ → List SharedClause) (got : List SharedClause) (view : View) → Fits base senders pushes got view → IsSome view.base → view.pushed ≡ []
    → view.takes ≡ true → Fits base senders pushes got (left_of view)
part_left base senders pushes got view fits there unused takes = record {
  same = fits.same;
  taker = fits.taker;
  other = fits.other;
  idle = λ none. absurd (some_not_none view.base there none);
  busy = λ none may_not. absurd (true≢false (sym takes ∙ may_not));
  own = λ number may. fits.own number (let parts = count_parts (◌==◌ number) view.numbers in omega (arith, parts, may));
  none = λ number without. ap (sent_by number) unused;
  sound = fits.sound;
}

-- what is handed over
part_right : (base : Option Problem) (senders : List ℕ) (pushes : ℕ → List SharedClause) (got : List SharedClause) (view : View) → Fits base senders pushes got view → IsSome view.base → view.pushed ≡ []
    → 0 < length view.numbers → Fits base senders pushes got (one_of view)
part_right base senders pushes got view fits there unused left = record {
  same = fits.same;
  taker = λ may. absurd (true≢false (sym may));
  other = λ may_not. refl;
  idle = λ none. absurd (some_not_none view.base there none);
  busy = λ none may_not. absurd (first_stays view.numbers left none);
  own = λ number may. sym (ap (sent_by number) unused) ∙ fits.own number (let parts = count_parts (◌==◌ number) view.numbers in omega (arith, parts, may));
  none = λ number without. refl;
  sound = All-nil (IsGoodFor base);
}

pub keeps_part : (held : List SharedClause) (views : List View) (seat : ℕ) (view : View) → Kept held views → get_elem? views seat ≡ some view → IsSome view.base → view.pushed ≡ []
    → view.takes ≡ true → 0 < length view.numbers → Kept held (set views seat (left_of view) ++ one_of view ∷ [])
keeps_part held views seat view kept at there unused takes left_over =
    let mine = kept.fits seat view at in
    let left : View = left_of view in
    let right : View = one_of view in
    record {
      base = kept.base;
      senders = kept.senders;
      pushes = kept.pushes;
      got = kept.got;
      fits = each_push (Fits kept.base kept.senders kept.pushes kept.got) (set views seat left) right
          (each_set (Fits kept.base kept.senders kept.pushes kept.got) views seat left (part_left kept.base kept.senders kept.pushes kept.got view mine there unused takes)
          (λ other one apart at_other. kept.fits other one at_other))
          (part_right kept.base kept.senders kept.pushes kept.got view mine there unused left_over);
      order = kept.order;
      good = kept.good;
      from = kept.from;
      once = λ number.
          let changed = sum_set (λ (v : View). count_by (◌==◌ number) v.numbers) views seat view left at in
          let more = sum_by_push (λ (v : View). count_by (◌==◌ number) v.numbers) (set views seat left) right in
          let parts = count_parts (◌==◌ number) view.numbers in
          let all = kept.once number in
          omega (arith, changed, more, parts, all);
      apart = kept.apart;
      one =
          let changed = sum_set one_that_takes views seat view left at in
          let more = sum_by_push one_that_takes (set views seat left) right in
          let all = kept.one in
          omega (arith, changed, more, all);
      short = kept.short;
    }
