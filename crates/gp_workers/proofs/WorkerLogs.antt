-- A log that grew by a turn, as the mail tells it.
use Rattle.std.proofs.Common.{◌≡◌, ◌↔◌, refl, sym, ◌∙◌, ap, subst, ℕ, ◌+◌, ◌<◌, ◌≤◌, ◌⊎◌, inl, inr, Bool, true, false, cond, Option, Some, None, List, [], ◌∷◌, ◌++◌, length, map, get_or, All, append_assoc, arith}
use Rattle.std.specs.Arc.{arc_value}
use Rattle.std.specs.List.{slice_get}
use Rattle.std.proofs.lemmas.List.{append-nil, length-append, length-map, map-append}
use Rattle.std.proofs.lemmas.List.Elements.{All-head, All-tail, All-weaker, filter-append}
use Rattle.std.proofs.lemmas.Bool.{cases_lt}
use Rattle.std.proofs.lemmas.Option.{slice_get-get_or}
use Rattle.gp_clause.specs.declared.kind.Kind.{Kind}
use Rattle.gp_clause.specs.declared.problem.Problem.{Problem}
use Rattle.gp_clause.specs.declared.problem.Query.{Query}
use Rattle.gp_clause.specs.Follows.{Follows}
use Rattle.gp_clause.specs.Problem.{IsValidProblem}
use Rattle.gp_derivation.specs.declared.exchange.SharedClause.{SharedClause}
use Rattle.gp_derivation.specs.declared.log.LogEntry.{LogEntry}
use Rattle.gp_derivation.specs.declared.log.Origin.{Origin}
use Rattle.gp_derivation.specs.declared.log.Origin.TheVariants.{Learned, Taken}
use Rattle.gp_certificate.specs.declared.step.Step.{Step}
use Rattle.gp_certificate.specs.Certificate.{CertificateFollows}
use Rattle.gp_derivation.specs.EarlierLaws.{all_earlier}
use Rattle.gp_derivation.specs.Fit.{IsFit}
use Rattle.gp_derivation.specs.FitStaying.{FitStays}
use Rattle.gp_derivation.specs.Log.{IsLearned, IsTaken, OriginPasses}
use Rattle.gp_search.specs.Mail.{MailForm, Offers, Shares, SharesWith, taken_entry}
use Rattle.gp_search.specs.OfferLaws.{StandsAt, fit_alike, offers_alike, offers_joined, offers_nothing}
use Rattle.gp_search.specs.Verdict.{LearnsAndShares}
use Rattle.gp_workers.specs.Worker.{PassesAll}
use Rattle.gp_workers.specs.Record.{TakenFollow}
use Rattle.gp_workers.specs.Mail.{given_by, IsToOffer, OffersLearned, SharesSoFar, TellsOrGivesNone, taken_entries, was_taken}

-- each entry passes, in a turn of its own or in the last
entry_passes : (problem : Problem) (log : List LogEntry) → PassesAll problem log → (place : ℕ) (entry : LogEntry) → slice_get log place ≡ Some entry
    → (locals : List Kind) × (begins : ℕ) × OriginPasses problem locals log begins place entry.step entry.origin
entry_passes problem log (locals, begins, passes) place entry got = at (cases_lt place begins)
  where
    at : (place < begins) ⊎ (begins ≤ place) → (own : List Kind) × (began : ℕ) × OriginPasses problem own log began place entry.step entry.origin
    at (inl early) = passes.earlier place entry got early
    at (inr late) = (locals, begins, passes.current place entry got late)

-- the clause of each taken entry follows
origin_follows : CertificateFollows → (problem : Problem) (locals : List Kind) (log : List LogEntry) (begins place : ℕ) (step : Step) (origin : Origin) → IsValidProblem problem → OriginPasses problem locals log begins place step origin → IsTaken origin
    → Follows problem.points problem.edges problem.kinds problem.clauses step.clause
origin_follows law problem locals log begins place step Learned valid passes taken = absurd taken
origin_follows law problem locals log begins place step (Taken sender certificate) valid passes taken = law.proved problem (arc_value certificate) step.clause valid passes.proves

pub taken_follow : CertificateFollows → (problem : Problem) (log : List LogEntry) → IsValidProblem problem → PassesAll problem log → TakenFollow problem log
taken_follow law problem log valid passes k d within taken =
    let entry : LogEntry = get_or log k d in
    let own = entry_passes problem log passes k entry (slice_get-get_or log k d within) in
    origin_follows law problem own.0 log own.1 k entry.step entry.origin valid own.2 taken

learned_not_taken : (origin : Origin) → IsLearned origin → IsTaken origin → ⊥
learned_not_taken Learned learned taken = taken
learned_not_taken (Taken sender certificate) learned taken = learned

-- what was taken is not to be offered, and what was learned is where it is fit
none_to_offer : (problem : Problem) (log taken : List LogEntry) → All (λ (entry : LogEntry). IsTaken entry.origin) taken → All (λ (entry : LogEntry). IsToOffer problem log entry → ⊥) taken
none_to_offer problem log taken were =
    All-weaker (λ (entry : LogEntry). IsTaken entry.origin) (λ (entry : LogEntry). IsToOffer problem log entry → ⊥) (λ entry was is. learned_not_taken entry.origin is.0 was) taken were

fit_to_offer : (problem : Problem) (log added : List LogEntry) → All (λ (entry : LogEntry). IsLearned entry.origin) added → All (λ (entry : LogEntry). IsFit problem log entry ↔ IsToOffer problem log entry) added
fit_to_offer problem log added learned =
    All-weaker (λ (entry : LogEntry). IsLearned entry.origin) (λ (entry : LogEntry). IsFit problem log entry ↔ IsToOffer problem log entry) (λ entry was. ((λ fit. (was, fit)), λ is. is.1)) added learned

stands_first : (log : List LogEntry) → StandsAt log 0 log
stands_first log k entry got = ap (λ (n : ℕ). slice_get log n) (let at : 0 + k ≡ k = omega arith in at) ∙ got

-- what is to be offered is so in a longer log
longer_to_offer : FitStays → (problem : Problem) (log more : List LogEntry) → PassesAll problem log → All (λ (entry : LogEntry). IsToOffer problem log entry ↔ IsToOffer problem (log ++ more) entry) log
longer_to_offer law problem log more (locals, begins, passes) =
    All-weaker (λ (entry : LogEntry). IsFit problem log entry ↔ IsFit problem (log ++ more) entry) (λ (entry : LogEntry). IsToOffer problem log entry ↔ IsToOffer problem (log ++ more) entry)
    (λ entry same. ((λ is. (is.0, same.0 is.1)), λ is. (is.0, same.1 is.1))) log (fit_alike law problem log more (all_earlier problem locals log begins passes) 0 log (stands_first log))

-- whether an entry was taken
told_taken : (origin : Origin) → IsTaken origin → was_taken origin ≡ true
told_taken Learned taken = absurd taken
told_taken (Taken sender certificate) taken = refl

told_learned : (origin : Origin) → IsLearned origin → was_taken origin ≡ false
told_learned Learned learned = refl
told_learned (Taken sender certificate) learned = absurd learned

all_taken : (taken : List LogEntry) → All (λ (entry : LogEntry). IsTaken entry.origin) taken → taken_entries taken ≡ taken
all_taken [] all = refl
all_taken (entry ∷ taken) all =
    let Was : LogEntry → Type 0 = λ one. IsTaken one.origin in
    λ i. cond (told_taken entry.origin (All-head Was entry taken all) i) (entry ∷ all_taken taken (All-tail Was entry taken all) i) (all_taken taken (All-tail Was entry taken all) i)

none_taken : (added : List LogEntry) → All (λ (entry : LogEntry). IsLearned entry.origin) added → taken_entries added ≡ []
none_taken [] all = refl
none_taken (entry ∷ added) all =
    let Was : LogEntry → Type 0 = λ one. IsLearned one.origin in
    λ i. cond (told_learned entry.origin (All-head Was entry added all) i) (entry ∷ none_taken added (All-tail Was entry added all) i) (none_taken added (All-tail Was entry added all) i)

-- the taken entries of a log that grew
taken_after : (old taken added : List LogEntry) → All (λ (entry : LogEntry). IsTaken entry.origin) taken → All (λ (entry : LogEntry). IsLearned entry.origin) added → taken_entries (old ++ taken ++ added) ≡ taken_entries old ++ taken
taken_after old taken added were learned =
    let was : LogEntry → Bool = λ one. was_taken one.origin in
    filter-append was (old ++ taken) added ∙ ap (λ (es : List LogEntry). es ++ taken_entries added) (filter-append was old taken)
    ∙ (λ i. (taken_entries old ++ all_taken taken were i) ++ none_taken added learned i) ∙ append-nil (taken_entries old ++ taken)

-- a log that grew is shared as its mail tells
told_all : FitStays → (problem : Problem) (old taken added : List LogEntry) (before after : MailForm) → PassesAll problem old → All (λ (entry : LogEntry). IsTaken entry.origin) taken → All (λ (entry : LogEntry). IsLearned entry.origin) added
    → Shares problem old taken added before after → SharesSoFar problem old (Some before) → SharesSoFar problem (old ++ taken ++ added) (Some after)
told_all law problem old taken added before after passes were learned shares so_far = record {
  gave = ap (λ (ss : List SharedClause). map taken_entry ss) shares.given ∙ map-append taken_entry before.gave shares.gave ∙ (λ i. so_far.gave i ++ sym shares.logged i) ∙ sym (taken_after old taken added were learned);
  offered =
      let log : List LogEntry = old ++ (taken ++ added) in
      let same : old ++ taken ++ added ≡ log = append_assoc old taken added in
      let Is : LogEntry → Type 0 = IsToOffer problem log in
      let first : Offers Is 0 old before.offered = offers_alike (IsToOffer problem old) Is 0 old before.offered (longer_to_offer law problem old (taken ++ added) passes) so_far.offered in
      let fit : Offers (IsFit problem log) (length old + length taken) added shares.offered = subst (λ (es : List LogEntry). Offers (IsFit problem es) (length old + length taken) added shares.offered) same shares.fit in
      let last : Offers Is (length old + length taken) added shares.offered = offers_alike (IsFit problem log) Is (length old + length taken) added shares.offered (fit_to_offer problem log added learned) fit in
      let second : Offers Is (length old) (taken ++ added) shares.offered = offers_joined Is (length old) taken added [] shares.offered (offers_nothing Is (length old) taken (none_to_offer problem log taken were)) last in
      let P : ℕ → Type 0 = λ n. Offers Is n (taken ++ added) shares.offered in
      let all : OffersLearned problem log (before.offered ++ shares.offered) = offers_joined Is 0 old (taken ++ added) before.offered shares.offered first (let at : length old ≡ 0 + length old = omega arith in subst P at second) in
      subst (λ (es : List LogEntry). OffersLearned problem es after.offered) (sym same) (subst (OffersLearned problem log) (sym shares.offers) all);
}

no_entries : (taken : List LogEntry) → length taken ≡ 0 → taken ≡ []
no_entries [] none = refl
no_entries (entry ∷ taken) none = absurd (omega (arith, none))

-- what one turn more tells, and how much longer the log is
shares_after : FitStays → (problem : Problem) (old taken added : List LogEntry) (before after : Option MailForm) → PassesAll problem old → All (λ (entry : LogEntry). IsTaken entry.origin) taken → All (λ (entry : LogEntry). IsLearned entry.origin) added
    → SharesWith problem old taken added before after → (before ≡ None → length taken ≡ 0) → SharesSoFar problem old before → SharesSoFar problem (old ++ taken ++ added) after × (given_by after ≡ given_by before + length taken)
shares_after law problem old taken added None after passes were learned none quiet so_far = (
  subst (SharesSoFar problem (old ++ taken ++ added)) (sym none) (taken_after old taken added were learned ∙ (λ i. so_far i ++ no_entries taken (quiet refl) i)),
  (let told : given_by after ≡ 0 = ap given_by none in omega (arith, told, quiet refl)),
)
shares_after law problem old taken added (Some before) after passes were learned (told, is, shares) quiet so_far = (
  subst (SharesSoFar problem (old ++ taken ++ added)) (sym is) (told_all law problem old taken added before told passes were learned shares so_far),
  (let one : given_by after ≡ length told.gave = ap given_by is in
      let two : length told.gave ≡ length before.gave + length shares.gave = ap (λ (ss : List SharedClause). length ss) shares.given ∙ length-append before.gave shares.gave in
      let three : length taken ≡ length shares.gave = ap (λ (es : List LogEntry). length es) shares.logged ∙ length-map shares.gave taken_entry in
      omega (arith, one, two, three)),
)

quiet_where : (may : Bool) (told : Option MailForm) → TellsOrGivesNone may told → told ≡ None → may ≡ false
quiet_where may None gives none = gives
quiet_where may (Some form) gives none = absurd (subst HasNone none tt)
  where
    HasNone : Option MailForm → Type 0
    HasNone None = ⊥
    HasNone (Some form) = Unit {0}

-- so a turn keeps what is known of the log
pub turn_shares : FitStays → (problem : Problem) (query : Query) (budget : ℕ) (old new : List LogEntry) (from : ℕ) (may : Bool) (before after : Option MailForm) → PassesAll problem old → LearnsAndShares problem query budget old new from before after
    → TellsOrGivesNone may before → (may ≡ false → from ≡ length old) → SharesSoFar problem old before → SharesSoFar problem new after × (length new + given_by before ≤ length old + budget + given_by after)
turn_shares law problem query budget old new from may before after passes learns gives quiet so_far =
    let grows = learns.learns.grows in
    let none : before ≡ None → length grows.taken ≡ 0 = λ is. let at : from ≡ length old = quiet (quiet_where may before gives is) in omega (arith, at, learns.learns.place) in
    let after_all = shares_after law problem old grows.taken grows.added before after passes grows.all_taken grows.learned learns.shares none so_far in
    let size : length new ≡ length old + length grows.taken + length grows.added = ap (λ (es : List LogEntry). length es) grows.longer ∙ length-append (old ++ grows.taken) grows.added ∙ ap (λ (n : ℕ). n + length grows.added) (length-append old grows.taken) in
    (subst (λ (es : List LogEntry). SharesSoFar problem es after) (sym grows.longer) after_all.0, omega (arith, size, after_all.1, learns.learns.few))
