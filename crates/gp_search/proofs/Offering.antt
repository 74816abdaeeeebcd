-- What a turn offers of what it learns, as its log grows.
use Rattle.std.proofs.Common.{◌≡◌, refl, sym, ◌∙◌, ap, subst, ℕ, ◌+◌, ◌-◌, ◌<◌, ◌≤◌, Option, Some, None, List, [], ◌∷◌, ◌++◌, length, inl, inr, append_assoc, arith}
use Rattle.std.specs.Arc.{arc_value}
use Rattle.std.specs.List.{slice_get}
use Rattle.std.specs.Prelude.{Result, Ok, Err, OnOk}
use Rattle.std.proofs.lemmas.List.{append-nil, length-append, length_push}
use Rattle.std.proofs.lemmas.List.Elements.{All-weaker}
use Rattle.std.proofs.lemmas.Option.{same_Some, slice_get_within}
use Rattle.gp_clause.specs.declared.lit.Lit.{Lit}
use Rattle.gp_clause.specs.declared.problem.Problem.{Problem}
use Rattle.gp_clause.specs.declared.problem.Query.{Query}
use Rattle.gp_certificate.specs.declared.certificate.Certificate.{Certificate}
use Rattle.gp_derivation.specs.declared.exchange.SharedClause.{SharedClause}
use Rattle.gp_derivation.specs.declared.log.LogEntry.{LogEntry}
use Rattle.gp_derivation.specs.Exchange.{FitIsGood, IsGood, IsGoodBy}
use Rattle.gp_derivation.specs.Fit.{IsFit, IsFitBy, IsSmallCone}
use Rattle.gp_derivation.specs.FitStaying.{FitStays}
use Rattle.gp_base.specs.ListLaws.{slice_get_back}
use Rattle.gp_derivation.specs.Numbering.{AllNameEarlier, CanBeNumbered}
use Rattle.gp_search.specs.declared.engine.Engine.{Engine}
use Rattle.gp_search.specs.Mail.{MailForm, Offers, WasOffered}
use Rattle.gp_search.specs.Inside.{IsTurning}
use Rattle.gp_search.specs.OfferLaws.{StandsAt, fit_alike, offers_alike, offers_joined}
use Rattle.gp_search.specs.Moves.{AddsAndOffers, AddsFewAndOffers, IsCopyOf, KeepsLog, LearnsAndOffers, LearnsOne, OffersAll, OffersEntry}
use Rattle.gp_search.proofs.Refuting.{can_number}
use Rattle.gp_search.proofs.Running.{adds_more, adds_none, adds_few}
use Rattle.gp_search.proofs.Taught.{last_got}
use Rattle.gp_derivation.specs.GrowthLaws.{hints_before}

-- at first nothing was offered
offers_none : (problem : Problem) (log : List LogEntry) (place : ℕ) (before : Option MailForm) → OffersAll problem log place [] before before
offers_none problem log place None = refl
offers_none problem log place (Some told) = ([], ap (λ (xs : List (ℕ × List Lit)). Some (record told { offered = xs })) (sym (append-nil told.offered)), refl)

-- then one entry more was offered, where it is fit
offers_more : FitStays → (problem : Problem) (log : List LogEntry) (place : ℕ) (entries : List LogEntry) (last : LogEntry) (before mid after : Option MailForm) → AllNameEarlier (length problem.clauses) log → StandsAt log place entries
    → OffersAll problem log place entries before mid → OffersEntry problem (log ++ last ∷ []) (place + length entries) last mid after → OffersAll problem (log ++ last ∷ []) place (entries ++ last ∷ []) before after
offers_more law problem log place entries last None mid after names stands nothing offers = elim offers [
  | inl one ↦ subst (λ (m : Option MailForm). WasOffered m after (place + length entries) last.step.clause) nothing one.1
  | inr none ↦ none.1 ∙ nothing
]
offers_more law problem log place entries last (Some told) mid after names stands (offered, is, fit) offers = elim offers [
  | inl one ↦ (
    offered ++ (place + length entries, last.step.clause) ∷ [],
    subst (λ (m : Option MailForm). WasOffered m after (place + length entries) last.step.clause) is one.1
        ∙ ap (λ (xs : List (ℕ × List Lit)). Some (record told { offered = xs })) (append_assoc told.offered offered ((place + length entries, last.step.clause) ∷ [])),
    offers_joined (IsFit problem (log ++ last ∷ [])) place entries (last ∷ []) offered ((place + length entries, last.step.clause) ∷ []) longer (inl (one.0, [], refl, refl)),
  )
  | inr none ↦ (
    offered,
    none.1 ∙ is,
    let Q : List (ℕ × List Lit) → Type 0 = λ xs. Offers (IsFit problem (log ++ last ∷ [])) place (entries ++ last ∷ []) xs in
        subst Q (append-nil offered) (offers_joined (IsFit problem (log ++ last ∷ [])) place entries (last ∷ []) offered [] longer (inr (none.0, refl))),
  )
]
  where
    longer : Offers (IsFit problem (log ++ last ∷ [])) place entries offered
    longer = offers_alike (IsFit problem log) (IsFit problem (log ++ last ∷ [])) place entries offered (fit_alike law problem log (last ∷ []) names place entries stands) fit

-- the same along the log of a turn
pub adds_offers_none : (problem : Problem) (engine : Engine) (before : Option MailForm) → AddsAndOffers problem 0 engine engine before before
unfolding adds_none
adds_offers_none problem engine before = record { adds = adds_none engine; offers = offers_none problem engine.log.items (length engine.log.items) before }

pub adds_offers_more : FitStays → (problem : Problem) (count : ℕ) (old now kept new : Engine) (before mid after : Option MailForm) → AllNameEarlier (length problem.clauses) now.log.items → AddsAndOffers problem count old now before mid → KeepsLog now kept
    → LearnsAndOffers problem kept new mid after → AddsAndOffers problem (count + 1) old new before after
unfolding adds_more
adds_offers_more law problem count old now kept new before mid after names some keeps one =
    let entry : LogEntry = one.learns.entry in
    let log : new.log.items ≡ now.log.items ++ entry ∷ [] = one.learns.log ∙ ap (λ (es : List LogEntry). es ++ entry ∷ []) keeps.log in
    let size : length kept.log.items ≡ length old.log.items + length some.adds.added =
    omega (arith, ap (λ (es : List LogEntry). length es) keeps.log, ap (λ (es : List LogEntry). length es) some.adds.longer, length-append old.log.items some.adds.added) in
    let stands : StandsAt now.log.items (length old.log.items) some.adds.added =
    λ k own got. ap (λ (es : List LogEntry). slice_get es (length old.log.items + k)) some.adds.longer ∙ (slice_get_back old.log.items some.adds.added k ∙ got) in
    let last : OffersEntry problem (now.log.items ++ entry ∷ []) (length old.log.items + length some.adds.added) entry mid after =
    let P : ℕ → Type 0 = λ n. OffersEntry problem (now.log.items ++ entry ∷ []) n entry mid after in
    let Q : List LogEntry → Type 0 = λ es. OffersEntry problem es (length kept.log.items) entry mid after in
    subst P size (subst Q log one.offers) in
    let all : OffersAll problem (now.log.items ++ entry ∷ []) (length old.log.items) (some.adds.added ++ entry ∷ []) before after =
    offers_more law problem now.log.items (length old.log.items) some.adds.added entry before mid after names stands some.offers last in
    let R : List LogEntry → Type 0 = λ es. OffersAll problem es (length old.log.items) (some.adds.added ++ entry ∷ []) before after in
    record { adds = adds_more count old now kept new some.adds keeps one.learns; offers = subst R (sym log) all }

pub adds_offers_few : (problem : Problem) (count budget : ℕ) (old now new : Engine) (before after : Option MailForm) → AddsAndOffers problem count old now before after → KeepsLog now new → count ≤ budget
    → AddsFewAndOffers problem budget old new before after
unfolding adds_few
adds_offers_few problem count budget old now new before after some keeps few =
    let R : List LogEntry → Type 0 = λ es. OffersAll problem es (length old.log.items) some.adds.added before after in
    record { adds = adds_few count budget old now new some.adds keeps few; offers = subst R (sym keeps.log) some.offers }

-- the hints of an entry that a turn learned name what stands in the log
pub learned_numbered : (problem : Problem) (query : Query) (engine : Engine) (log : List LogEntry) (place : ℕ) (entry : LogEntry) → IsTurning problem query engine → log ≡ engine.log.items → slice_get log place ≡ Some entry → engine.learned ≤ place
    → CanBeNumbered (length problem.clauses) log entry.step
learned_numbered problem query engine log place entry turning same got late =
    let at : slice_get engine.log.items place ≡ Some entry = ap (λ (es : List LogEntry). slice_get es place) (sym same) ∙ got in
    let passes = turning.whole.log.passes.current place entry at (omega (arith, turning.whole.log.began, late)) in
    let before = hints_before problem query.locals engine.log.items engine.begins place entry.step entry.origin (turning.whole.log.learned place entry at late) passes in
    can_number problem query engine (length problem.clauses) log entry.step turning refl same
    (All-weaker (λ hint. hint < length problem.clauses + place) (λ hint. hint < length problem.clauses + length engine.log.items) (λ hint low. omega (arith, low, slice_get_within engine.log.items place entry at)) entry.step.hints before)

-- the last entry of a log stands before its end
pub last_at : (log front : List LogEntry) (entry : LogEntry) (size : ℕ) → log ≡ front ++ entry ∷ [] → size ≡ length log → size - 1 ≡ length front
last_at log front entry size parts counted = let sum : length log ≡ length (front ++ entry ∷ []) = ap (λ (es : List LogEntry). length es) parts in omega (arith, counted, sum, length_push front entry)

pub last_entry : (log own front : List LogEntry) (entry : LogEntry) (size : ℕ) → own ≡ log → log ≡ front ++ entry ∷ [] → size ≡ length log → slice_get own (size - 1) ≡ Some entry
last_entry log own front entry size same parts counted = (λ i. slice_get ((same ∙ parts) i) (last_at log front entry size parts counted i)) ∙ last_got front entry (length front) refl

-- what is told of it
pub last_told : (problem : Problem) (log own front : List LogEntry) (entry : LogEntry) (size : ℕ) (cone : Option Certificate) → own ≡ log → log ≡ front ++ entry ∷ [] → size ≡ length log
    → ((e : LogEntry) → slice_get own (size - 1) ≡ Some e → IsSmallCone problem own e cone) → IsSmallCone problem log entry cone
last_told problem log own front entry size cone same parts counted told =
    subst (λ (es : List LogEntry). IsSmallCone problem es entry cone) same (told entry (last_entry log own front entry size same parts counted))

-- a copy of the clause of an entry that is fit to share is good with its cone
pub copy_good : FitIsGood → (problem base : Problem) (query : Query) (engine : Engine) (log : List LogEntry) (place : ℕ) (entry : LogEntry) (certificate : Certificate) (sender : ℕ) (shared : SharedClause) → IsTurning problem query engine
    → log ≡ engine.log.items → base ≡ problem → slice_get log place ≡ Some entry → ((e : LogEntry) → slice_get log place ≡ Some e → IsFitBy problem log e certificate) → IsCopyOf sender entry.step.clause certificate shared
    → IsGood base shared
copy_good law problem base query engine log place entry certificate sender shared turning same of got fits copy =
    let fit : IsFitBy problem engine.log.items entry certificate = subst (λ (es : List LogEntry). IsFitBy problem es entry certificate) same (fits entry got) in
    let at : slice_get engine.log.items place ≡ Some entry = ap (λ (es : List LogEntry). slice_get es place) (sym same) ∙ got in
    let good : IsGoodBy problem entry.step.clause certificate = law problem query.locals engine.log.items engine.begins turning.whole.valid turning.whole.log.passes place entry certificate at fit in
    subst (λ (p : Problem). IsGoodBy p shared.clause (arc_value shared.certificate)) (sym of)
    (subst (λ (c : List Lit). IsGoodBy problem c (arc_value shared.certificate)) (sym copy.same) (subst (λ (own : Certificate). IsGoodBy problem entry.step.clause own) (sym copy.with) good))

-- so the offer of it is the offer of the entry
pub offered_entry : {E : Type 0} (r : Result (Unit {0}) E) (problem : Problem) (log own front : List LogEntry) (entry first : LogEntry) (size sender : ℕ) (certificate : Certificate) (shared : SharedClause) (before after : Option MailForm)
    → own ≡ log → log ≡ front ++ entry ∷ [] → size ≡ length log → slice_get own (size - 1) ≡ Some first → ((e : LogEntry) → slice_get own (size - 1) ≡ Some e → IsFitBy problem own e certificate)
    → IsCopyOf sender first.step.clause certificate shared → OnOk r (WasOffered before after (size - 1) shared.clause) → OnOk r (OffersEntry problem log (length front) entry before after)
offered_entry (Err e) problem log own front entry first size sender certificate shared before after same parts counted got fits copy offered = tt
offered_entry (Ok done) problem log own front entry first size sender certificate shared before after same parts counted got fits copy offered =
    let last : slice_get own (size - 1) ≡ Some entry = last_entry log own front entry size same parts counted in
    let equal : first ≡ entry = let both : Some first ≡ Some entry = sym got ∙ last in same_Some first entry both in
    let clause : shared.clause ≡ entry.step.clause = copy.same ∙ ap (λ (e : LogEntry). e.step.clause) equal in
    inl ((certificate, last_told problem log own front entry size (Some certificate) same parts counted fits), subst (λ (c : List Lit). WasOffered before after (length front) c) clause (subst (λ (n : ℕ). WasOffered before after n shared.clause) (last_at log front entry size parts counted) offered))

-- what was learned and offered
pub learns_and_offers : {E : Type 0} (r : Result (Unit {0}) E) (problem : Problem) (old new : Engine) (before after : Option MailForm) → LearnsOne old new
    → ((front : List LogEntry) (entry : LogEntry) → new.log.items ≡ front ++ entry ∷ [] → OnOk r (OffersEntry problem new.log.items (length front) entry before after)) → OnOk r (LearnsAndOffers problem old new before after)
learns_and_offers (Err e) problem old new before after one offers = tt
learns_and_offers (Ok done) problem old new before after one offers = record { learns = one; offers = offers old.log.items one.entry one.log }
