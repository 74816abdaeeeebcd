-- What a turn takes, one clause after another.
use Rattle.std.proofs.Common.{◌≡◌, refl, sym, ◌∙◌, ap, subst, ℕ, ◌+◌, ◌≤◌, Option, Some, None, List, [], ◌∷◌, ◌++◌, length, map, append_assoc, arith}
use Rattle.std.proofs.lemmas.List.{append-nil, length-append, length-map, length_push, map-append}
use Rattle.gp_derivation.specs.declared.exchange.SharedClause.{SharedClause}
use Rattle.gp_derivation.specs.declared.log.LogEntry.{LogEntry}
use Rattle.gp_search.specs.declared.engine.Engine.{Engine}
use Rattle.gp_search.specs.Mail.{Gives, MailForm, taken_entry}
use Rattle.gp_base.specs.Counts.{one_more}
use Rattle.gp_search.specs.Moves.{FindsNone, HasGiven, HasGivenAll, HasTaken, TakesAll, TakesOne}

-- at first a mail gave nothing
given_none : (before : Option MailForm) → HasGiven [] before before
given_none None = refl
given_none (Some told) = ap (λ (gave : List SharedClause). Some (record told { gave = gave })) (sym (append-nil told.gave))

-- then one clause more
given_more : (gave : List SharedClause) (shared : SharedClause) (before mid after : Option MailForm) → HasGiven gave before mid → Gives mid after (Some shared) → HasGiven (gave ++ shared ∷ []) before after
given_more gave shared None mid after told more = subst (λ (m : Option MailForm). Gives m after (Some shared)) told more
given_more gave shared (Some first) mid after told more =
    subst (λ (m : Option MailForm). Gives m after (Some shared)) told more
    ∙ ap (λ (all : List SharedClause). Some (record first { gave = all })) (append_assoc first.gave gave (shared ∷ []))

-- until it was found empty, or there were enough
given_all : (gave : List SharedClause) (before mid after : Option MailForm) → HasGiven gave before mid → Gives mid after None → HasGivenAll gave before after
given_all gave None mid after told none = subst (λ (m : Option MailForm). Gives m after None) told none
given_all gave (Some first) mid after told none =
    (record first { gave = first.gave ++ gave; empty = one_more first.empty }, subst (λ (m : Option MailForm). Gives m after None) told none, refl, refl, λ _. omega arith)

given_enough : (gave : List SharedClause) (before after : Option MailForm) → HasGiven gave before after → 256 ≤ length gave → HasGivenAll gave before after
given_enough gave None after told enough = told
given_enough gave (Some first) after told enough = (record first { gave = first.gave ++ gave }, told, refl, refl, λ few. absurd (omega (arith, few, enough)))

-- so the log goes along
pub taken_none : (engine : Engine) (before : Option MailForm) → HasTaken 0 engine engine before before
taken_none engine before = record { gave = []; log = sym (append-nil engine.log.items); begins = refl; counted = refl; told = given_none before }

pub taken_more : (count : ℕ) (old now new : Engine) (before mid after : Option MailForm) → HasTaken count old now before mid → TakesOne now new mid after → HasTaken (count + 1) old new before after
taken_more count old now new before mid after has one = record {
  gave = has.gave ++ one.shared ∷ [];
  log = one.log ∙ (ap (λ (es : List LogEntry). es ++ taken_entry one.shared ∷ []) has.log
      ∙ (append_assoc old.log.items (map taken_entry has.gave) (taken_entry one.shared ∷ []) ∙ ap (λ (es : List LogEntry). old.log.items ++ es) (sym (map-append taken_entry has.gave (one.shared ∷ [])))));
  begins = one.begins ∙ has.begins;
  counted = let longer : length (has.gave ++ one.shared ∷ []) ≡ length has.gave + 1 = length_push has.gave one.shared in omega (arith, longer, has.counted);
  told = given_more has.gave one.shared before mid after has.told one.told;
}

pub takes_all : (count : ℕ) (old now new : Engine) (before mid after : Option MailForm) → HasTaken count old now before mid → FindsNone now new mid after → count ≤ 256 → TakesAll old new before after
takes_all count old now new before mid after has none few = record {
  takes = record { gave = has.gave; log = none.keeps.log ∙ has.log; begins = none.keeps.begins ∙ has.begins; few = omega (arith, has.counted, few) };
  told = given_all has.gave before mid after has.told none.told;
}

pub takes_enough : (count : ℕ) (old new : Engine) (before after : Option MailForm) → HasTaken count old new before after → count ≡ 256 → TakesAll old new before after
takes_enough count old new before after has enough = record {
  takes = record { gave = has.gave; log = has.log; begins = has.begins; few = omega (arith, has.counted, enough) };
  told = given_enough has.gave before after has.told (omega (arith, has.counted, enough));
}

-- how long the log is then
pub taken_length : (count : ℕ) (old new : Engine) (before after : Option MailForm) → HasTaken count old new before after → length new.log.items ≡ length old.log.items + count
taken_length count old new before after has =
    omega (arith, ap (λ (es : List LogEntry). length es) has.log, length-append old.log.items (map taken_entry has.gave), length-map has.gave taken_entry, has.counted)
