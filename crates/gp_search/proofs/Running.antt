-- What a turn adds to the log, and its verdicts.
use Rattle.std.proofs.Common.{◌≡◌, refl, sym, ◌∙◌, ap, subst, ℕ, ◌+◌, ◌<◌, ◌≤◌, Option, Some, None, List, [], ◌∷◌, ◌++◌, length, map, All, ◌⊎◌, inl, inr, append_assoc, arith}
use Rattle.std.specs.List.{slice_get}
use Rattle.std.specs.Prelude.{Result, Ok, Err, OnOk}
use Rattle.std.proofs.lemmas.List.{append-nil, length-append, length-map, length_push}
use Rattle.std.proofs.lemmas.List.Elements.{All-nil, All-cons}
use Rattle.gp_clause.specs.declared.lit.Lit.{Lit}
use Rattle.gp_clause.specs.declared.problem.Problem.{Problem}
use Rattle.gp_clause.specs.declared.problem.Query.{Query}
use Rattle.gp_derivation.specs.declared.exchange.SharedClause.{SharedClause}
use Rattle.gp_derivation.specs.declared.log.LogEntry.{LogEntry}
use Rattle.gp_derivation.specs.Fit.{IsFit}
use Rattle.gp_derivation.specs.Log.{IsLearned, IsTaken, EntryPasses, LogPasses}
use Rattle.gp_derivation.specs.Spent.{IsNewBy, turned}
use Rattle.gp_base.specs.ListLaws.{all_from_got, slice_get_back}
use Rattle.gp_search.specs.declared.engine.Engine.{Engine}
use Rattle.gp_search.specs.Inside.{IsWhole, IsTurning, turn_from}
use Rattle.gp_search.specs.Mail.{MailForm, Offers, SharesWith, taken_entry}
use Rattle.gp_search.specs.Moves.{Adds, AddsFew, AddsFewAndOffers, GrowsAndShares, HasGivenAll, IsGrown, KeepsLog, LearnsOne, OffersAll, StaysTurning, TakesAll, TakesSome}
use Rattle.gp_search.specs.Verdict.{IsUsedUp, Learns, LearnsAndShares}
use Rattle.gp_search.proofs.Refuting.{numbered_behind}

-- at first nothing was added
unfoldable pub adds_none : (engine : Engine) → Adds 0 engine engine
adds_none engine = record { added = []; longer = sym (append-nil engine.log.items); counted = refl }

-- then one entry more
unfoldable pub adds_more : (count : ℕ) (old now kept new : Engine) → Adds count old now → KeepsLog now kept → LearnsOne kept new → Adds (count + 1) old new
adds_more count old now kept new adds keeps learns = record {
  added = adds.added ++ learns.entry ∷ [];
  longer = learns.log ∙ (ap (λ (es : List LogEntry). es ++ learns.entry ∷ []) (keeps.log ∙ adds.longer) ∙ append_assoc old.log.items adds.added (learns.entry ∷ []));
  counted = let one : length (adds.added ++ learns.entry ∷ []) ≡ length adds.added + 1 = length_push adds.added learns.entry in omega (arith, one, adds.counted);
}

-- so the log grew by the budget at most
unfoldable pub adds_few : (count budget : ℕ) (old now new : Engine) → Adds count old now → KeepsLog now new → count ≤ budget → AddsFew budget old new
adds_few count budget old now new adds keeps few = record { added = adds.added; longer = keeps.log ∙ adds.longer; few = omega (arith, adds.counted, few) }

-- also where it ended while one more was learned
pub adds_few_on : (count budget : ℕ) (old now kept new : Engine) → Adds count old now → KeepsLog now kept → KeepsLog kept new ⊎ LearnsOne kept new → count < budget → AddsFew budget old new
adds_few_on count budget old now kept new adds keeps (inl also) few = record { added = adds.added; longer = also.log ∙ (keeps.log ∙ adds.longer); few = omega (arith, adds.counted, few) }
adds_few_on count budget old now kept new adds keeps (inr one) few =
    let more : Adds (count + 1) old new = adds_more count old now kept new adds keeps one in
    record { added = more.added; longer = more.longer; few = omega (arith, more.counted, few) }

-- how long the log is then
pub added_length : (count : ℕ) (old now new : Engine) → Adds count old now → KeepsLog now new → length new.log.items ≡ length old.log.items + count
added_length count old now new adds keeps =
    let same : length new.log.items ≡ length (old.log.items ++ adds.added) = ap (λ (es : List LogEntry). length es) (keeps.log ∙ adds.longer) in
    omega (arith, same, length-append old.log.items adds.added, adds.counted)

pub counted_length : (count : ℕ) (old now : Engine) → Adds count old now → length now.log.items ≡ length old.log.items + count
counted_length count old now adds =
    let same : length now.log.items ≡ length (old.log.items ++ adds.added) = ap (λ (es : List LogEntry). length es) adds.longer in
    omega (arith, same, length-append old.log.items adds.added, adds.counted)

-- a turn goes on where the log stays, and where one entry more was learned
pub stays_on : (problem : Problem) (query : Query) (old now new : Engine) → StaysTurning problem query old now → IsTurning problem query new → KeepsLog now new → StaysTurning problem query old new
stays_on problem query old now new stays turning keeps = record { turning = turning; begins = keeps.begins ∙ stays.begins; learned = keeps.learned ∙ stays.learned }

pub stays_learning : (problem : Problem) (query : Query) (old now kept new : Engine) → StaysTurning problem query old now → KeepsLog now kept → IsTurning problem query new → KeepsLog kept new ⊎ LearnsOne kept new
    → StaysTurning problem query old new
stays_learning problem query old now kept new stays keeps turning (inl also) = record {
  turning = turning;
  begins = also.begins ∙ (keeps.begins ∙ stays.begins);
  learned = also.learned ∙ (keeps.learned ∙ stays.learned);
}
stays_learning problem query old now kept new stays keeps turning (inr one) = record {
  turning = turning;
  begins = one.begins ∙ (keeps.begins ∙ stays.begins);
  learned = one.learned ∙ (keeps.learned ∙ stays.learned);
}

-- where as many entries were added as the budget, it is used up
pub used_up : (problem : Problem) (query : Query) (budget : ℕ) (begins learned : ℕ) (new : Engine) (from to : ℕ) → IsTurning problem query new → new.begins ≡ begins → new.learned ≡ learned → from ≡ new.learned
    → to ≡ length new.log.items → length new.log.items ≡ learned + budget → IsUsedUp problem query budget new.log.items begins learned from to
used_up problem query budget begins learned new from to turning began at first last counted = record {
  from_learned = first ∙ at;
  to_end = last;
  counted = omega (arith, first, at, last, counted);
  spent = λ ticket. record {
    begins = refl;
    ends = refl;
    learning = record {
      counted = omega (arith, first, at, last, counted);
      logged = omega (arith, last);
      learned = λ place entry got low _. turning.whole.log.learned place entry got (omega (arith, first, low));
    };
    passing = λ place entry got low high.
        let P : ℕ → Type 0 = λ n. EntryPasses problem query.locals new.log.items n place entry in
        subst P began (turning.whole.log.passes.current place entry got (omega (arith, first, low, turning.whole.log.began)));
    news = λ place entry got low high.
        let one = turning.taught.news place entry got (omega (arith, first, low)) (omega (arith, last, high)) in
        let P : ℕ → Type 0 = λ n. IsNewBy problem query (turned problem new.log.items (turn_from n new.learned (length new.log.items)) place) entry.step.clause one.0 in
        (one.0, subst P began one.1);
    tight = λ place entry got low high. turning.taught.tight place entry got (omega (arith, first, low)) (omega (arith, last, high));
  };
}

-- the entries by which a log takes clauses are taken ones
all_taken : (gave : List SharedClause) → All (λ (entry : LogEntry). IsTaken entry.origin) (map taken_entry gave)
all_taken [] = All-nil (λ (entry : LogEntry). IsTaken entry.origin)
all_taken (shared ∷ gave) = All-cons (λ (entry : LogEntry). IsTaken entry.origin) (taken_entry shared) (map taken_entry gave) tt (all_taken gave)

-- a turn that ended before it took, or while it took
pub grown_none : (budget : ℕ) (old new : Engine) → new.log.items ≡ old.log.items → new.learned ≡ length old.log.items → IsGrown budget old new
grown_none budget old new same learned = record {
  gave = [];
  added = [];
  longer = same ∙ (sym (append-nil old.log.items) ∙ sym (append-nil (old.log.items ++ [])));
  learned = omega (arith, learned);
  few_taken = omega arith;
  few = omega arith;
}

taken_from : (old begun new : Engine) → begun.log.items ≡ old.log.items → (takes : TakesSome begun new) → new.log.items ≡ old.log.items ++ map taken_entry takes.gave
taken_from old begun new same takes = takes.log ∙ ap (λ (es : List LogEntry). es ++ map taken_entry takes.gave) same

pub taken_up_to : (old begun new : Engine) → begun.log.items ≡ old.log.items → (takes : TakesSome begun new) → length new.log.items ≡ length old.log.items + length takes.gave
taken_up_to old begun new same takes =
    omega (arith, ap (λ (es : List LogEntry). length es) (taken_from old begun new same takes), length-append old.log.items (map taken_entry takes.gave), length-map takes.gave taken_entry)

pub grown_taken : (budget : ℕ) (old begun new : Engine) → begun.log.items ≡ old.log.items → TakesSome begun new → new.learned ≡ length new.log.items → IsGrown budget old new
grown_taken budget old begun new same takes learned = record {
  gave = takes.gave;
  added = [];
  longer = taken_from old begun new same takes ∙ sym (append-nil (old.log.items ++ map taken_entry takes.gave));
  learned = learned ∙ taken_up_to old begun new same takes;
  few_taken = takes.few;
  few = omega arith;
}

-- a turn that took and then learned
pub grown_on : (budget : ℕ) (old begun taken new : Engine) → begun.log.items ≡ old.log.items → TakesSome begun taken → taken.learned ≡ length taken.log.items → AddsFew budget taken new → new.learned ≡ taken.learned → IsGrown budget old new
grown_on budget old begun taken new same takes learned adds stays = record {
  gave = takes.gave;
  added = adds.added;
  longer = adds.longer ∙ ap (λ (es : List LogEntry). es ++ adds.added) (taken_from old begun taken same takes);
  learned = stays ∙ (learned ∙ taken_up_to old begun taken same takes);
  few_taken = takes.few;
  few = adds.few;
}

-- what its mail told
shares_on : (problem : Problem) (old log : List LogEntry) (gave : List SharedClause) (added : List LogEntry) (place : ℕ) (before mid after : Option MailForm) → log ≡ old ++ map taken_entry gave ++ added → place ≡ length old + length gave
    → HasGivenAll gave before mid → OffersAll problem log place added mid after → SharesWith problem old (map taken_entry gave) added before after
shares_on problem old log gave added place None mid after longer at given offers =
    subst (λ (m : Option MailForm). OffersAll problem log place added m after) given offers
shares_on problem old log gave added place (Some told) mid after longer at (then, is, clauses, nothing, emptied) offers =
    let all = subst (λ (m : Option MailForm). OffersAll problem log place added m after) is offers in
    let P : List LogEntry → Type 0 = λ es. Offers (IsFit problem es) place added all.0 in
    let Q : ℕ → Type 0 = λ n. Offers (IsFit problem (old ++ map taken_entry gave ++ added)) n added all.0 in (
      record then { offered = then.offered ++ all.0 },
      all.1,
      record {
        gave = gave;
        given = clauses;
        logged = refl;
        offered = all.0;
        offers = ap (λ (xs : List (ℕ × List Lit)). xs ++ all.0) nothing;
        fit = subst Q (at ∙ ap (λ (n : ℕ). length old + n) (sym (length-map gave taken_entry))) (subst P longer all.2);
        emptied = emptied;
      },
    )

pub grown_and_shares : (problem : Problem) (budget : ℕ) (old begun taken new : Engine) (before mid after : Option MailForm) → begun.log.items ≡ old.log.items → TakesAll begun taken before mid → taken.learned ≡ length taken.log.items
    → AddsFewAndOffers problem budget taken new mid after → new.learned ≡ taken.learned → GrowsAndShares problem budget old new before after
unfolding grown_on
grown_and_shares problem budget old begun taken new before mid after same all learned adds stays =
    let grown : IsGrown budget old new = grown_on budget old begun taken new same all.takes learned adds.adds stays in
    record {
      grown = grown_on budget old begun taken new same all.takes learned adds.adds stays;
      shares = shares_on problem old.log.items new.log.items all.takes.gave adds.adds.added (length taken.log.items) before mid after grown.longer (taken_up_to old begun taken same all.takes) all.told adds.offers;
    }

pub all_shared : {T E : Type 0} (r : Result T E) (problem : Problem) (budget : ℕ) (old begun taken new : Engine) (before mid after : Option MailForm) → begun.log.items ≡ old.log.items → TakesAll begun taken before mid → taken.learned ≡ length taken.log.items
    → OnOk r (AddsFewAndOffers problem budget taken new mid after) → new.learned ≡ taken.learned → OnOk r (GrowsAndShares problem budget old new before after)
all_shared (Err e) problem budget old begun taken new before mid after same all learned adds stays = tt
all_shared (Ok x) problem budget old begun taken new before mid after same all learned adds stays = grown_and_shares problem budget old begun taken new before mid after same all learned adds stays

-- what a turn leaves of the log
pub learns : (problem : Problem) (query : Query) (budget : ℕ) (old new : Engine) → IsWhole problem query new → new.begins ≡ length old.log.items → IsGrown budget old new
    → Learns problem query budget old.log.items new.log.items new.learned
learns problem query budget old new whole begins grown = record {
  grows = record {
    taken = map taken_entry grown.gave;
    added = grown.added;
    longer = grown.longer;
    all_taken = all_taken grown.gave;
    learned = all_from_got (λ (e : LogEntry). IsLearned e.origin) grown.added (λ k entry got.
        whole.log.learned (new.learned + k) entry (at k ∙ got) (omega arith));
    passes = subst (λ (n : ℕ). LogPasses problem query.locals new.log.items n) begins whole.log.passes;
  };
  place = grown.learned ∙ ap (λ (n : ℕ). length old.log.items + n) (sym (length-map grown.gave taken_entry));
  few_taken = let same : length (map taken_entry grown.gave) ≡ length grown.gave = length-map grown.gave taken_entry in omega (arith, same, grown.few_taken);
  few = grown.few;
  numbered = numbered_behind problem query new whole;
}
  where
    front : List LogEntry
    front = old.log.items ++ map taken_entry grown.gave

    size : new.learned ≡ length front
    size = omega (arith, grown.learned, length-append old.log.items (map taken_entry grown.gave), length-map grown.gave taken_entry)

    at : (k : ℕ) → slice_get new.log.items (new.learned + k) ≡ slice_get grown.added k
    at k = (λ i. slice_get (grown.longer i) (size i + k)) ∙ slice_get_back front grown.added k

pub learns_and_shares : (problem : Problem) (query : Query) (budget : ℕ) (old new : Engine) (before after : Option MailForm) → IsWhole problem query new → new.begins ≡ length old.log.items → GrowsAndShares problem budget old new before after
    → LearnsAndShares problem query budget old.log.items new.log.items new.learned before after
unfolding learns
learns_and_shares problem query budget old new before after whole begins both = record {
  learns = learns problem query budget old new whole begins both.grown;
  shares = both.shares;
}

pub all_learned : {T E : Type 0} (r : Result T E) (problem : Problem) (query : Query) (budget : ℕ) (old new : Engine) (before after : Option MailForm) → IsWhole problem query new → new.begins ≡ length old.log.items
    → OnOk r (GrowsAndShares problem budget old new before after) → OnOk r (LearnsAndShares problem query budget old.log.items new.log.items new.learned before after)
all_learned (Err e) problem query budget old new before after whole begins both = tt
all_learned (Ok x) problem query budget old new before after whole begins both = learns_and_shares problem query budget old new before after whole begins both
