-- Where a schedule links a window to the next, a model of the window that says what it does extends to one of the problem of
-- both.
use Rattle.std.proofs.Common.{ℕ, ◌≡◌, ◌<◌, ◌∙◌, refl, subst, List, Bool, true, false, length}
use Rattle.std.specs.Prelude.{ℤ, if◌then◌else◌, nat_lt}
use Rattle.std.proofs.lemmas.List.Elements.{All-nil}
use Rattle.gp_clause.specs.Lit.{HoldsLit}
use Rattle.gp_window.specs.declared.schedule.EventId.{EventId}
use Rattle.gp_window.specs.IdLaws.{contains_means}
use Rattle.gp_window.specs.WindowForm.{WindowForm}
use Rattle.gp_replay.specs.Start.{BeginsAsWindow}
use Rattle.gp_replay.specs.Value.{ValuesAreLastWrites}
use Rattle.gp_constraint.specs.declared.symbol.Symbol.{Symbol}
use Rattle.gp_constraint.specs.declared.symbol.Symbol.TheVariants.{Executed}
use Rattle.gp_constraint.specs.Base.{names_in}
use Rattle.gp_constraint.specs.Extended.{extended_truth, ModelsExtend, names_with}
use Rattle.gp_constraint.specs.Numbering.{number_of}
use Rattle.gp_constraint.specs.NumberingLaws.{PointsComeFirst}
use Rattle.gp_constraint.specs.PointLaws.{event_below}
use Rattle.gp_constraint.specs.Points.{number_in, points_of}
use Rattle.gp_constraint.specs.ScheduleModels.{SaysSchedule}
use Rattle.gp_whole.specs.Linked.{Links}
use Rattle.gp_link.specs.LinkClauses.{link_clauses}
use Rattle.gp_link.specs.LinkLaws.{LinksAreComplete}
use Rattle.gp_link.proofs.Complete.{completes, linked_truth, SaysWhole}
use Rattle.gp_link.proofs.LastWrites.{fresh_value}

says_whole : (window next : WindowForm) (ids : List EventId) (truth : ℕ → Bool) (place : ℕ → ℤ) → SaysSchedule window ids truth place → Links window next ids
    → SaysWhole window ids truth place
says_whole window next ids truth place says links = record {
  executed = λ id there. says.executed id there ∙ (contains_means ids id).1 (links.whole id there.0 there.1);
  placed = says.placed;
}

held : (b : Bool) → (if b then true else false) ≡ true → b ≡ true
held true e = refl
held false e = e

-- a variable of a window keeps its value
kept_value : (window : WindowForm) (final : List Symbol) (truth : ℕ → Bool) (fresh : Symbol → Bool) (point : ℕ) → nat_lt point (length (names_in window)) ≡ true
    → extended_truth (names_in window) final truth fresh point ≡ truth point
kept_value window final truth fresh point test = rw test refl

module _ (extend : ModelsExtend) (first : PointsComeFirst) (window : WindowForm) where
  -- the variables of a window are at least as many as its points
  within : (point : ℕ) → point < length (points_of window) → nat_lt point (length (names_in window)) ≡ true
  within point less =
      subst (λ n. nat_lt n (length (names_in window)) ≡ true) (first window point less)
      (held (nat_lt (number_of (names_in window) (Executed point)) (length (names_in window))) (extend.executed window (λ n. true) (λ symbol. false) point less))

  says_more : (ids : List EventId) (final : List Symbol) (truth : ℕ → Bool) (fresh : Symbol → Bool) (place : ℕ → ℤ) → SaysSchedule window ids truth place
      → SaysSchedule window ids (λ variable. extended_truth (names_in window) final truth fresh variable) place
  says_more ids final truth fresh place says = record {
    executed = λ e there.
        kept_value window final truth fresh (number_in window e) (within (number_in window e) (event_below window e there)) ∙ says.executed e there;
    placed = says.placed;
    later = says.later;
  }

pub complete : BeginsAsWindow → ValuesAreLastWrites → ModelsExtend → PointsComeFirst → LinksAreComplete
complete begins lasts extend first window next ids is is_next few links m =
    let told = begins.values window is in
    let told_next = begins.values next is_next in
    let says = says_whole window next ids m.truth m.place m.says links in
    let truth : ℕ → Bool = linked_truth window next ids m.truth m.place told told_next extend lasts few m.valuation says links in
    let model = completes window next ids m.truth m.place told told_next extend lasts few m.valuation says links m.clauses in
    record {
      truth = truth;
      place = m.place;
      valuation = model.valuation;
      clauses = model.clauses;
      assumed = All-nil (HoldsLit truth);
      says = says_more extend first window ids (names_with window (link_clauses window next)) m.truth (λ symbol. fresh_value (points_of window) m.place symbol) m.place m.says;
    }
