-- The last offer is pushed to one worker after another.
use Rattle.std.proofs.Common.{◌≡◌, refl, sym, ◌∙◌, ap, subst, ℕ, ◌+◌, ◌-◌, ◌<◌, ◌≤◌, ◌⊎◌, inl, inr, Bool, cond, Some, List, [], ◌∷◌, ◌++◌, length, map, take, slice_set, get_or, All, arith, if◌then◌else◌, count_by, ◌==◌}
use Rattle.std.specs.List.{slice_get}
use Rattle.std.specs.Prelude.{IsSomeAnd}
use Rattle.std.proofs.lemmas.Bool.{cases_eq, eq-eqb}
use Rattle.std.proofs.lemmas.List.{length-map, length-take-le}
use Rattle.std.proofs.lemmas.List.Elements.{All-head, All-tail}
use Rattle.crossbeam_queue.specs.Passes.{Pass, view}
use Rattle.gp_clause.specs.declared.lit.Lit.{Lit}
use Rattle.gp_clause.specs.declared.problem.Problem.{Problem}
use Rattle.gp_derivation.specs.declared.exchange.SharedClause.{SharedClause}
use Rattle.gp_derivation.specs.Exchange.{IsGood}
use Rattle.gp_inbox.specs.declared.inbox.Inbox.{Inbox}
use Rattle.gp_inbox.specs.declared.rule.View.{View}
use Rattle.gp_inbox.specs.History.{sent_by}
use Rattle.gp_inbox.specs.Passes.{IsOf}
use Rattle.gp_inbox.specs.Views.{IsGoodFor, MayPush, pushed_one}
use Rattle.gp_workers.specs.declared.desk.Desk.{Desk}
use Rattle.gp_workers.specs.declared.desk.Outgoing.{Outgoing}
use Rattle.gp_workers.specs.Desk.{before_last, clauses_of, IsLastOffer, Knows, KnowsBelow, PassesAre, PushesBelow, SameWorker}
use Rattle.gp_workers.proofs.DeskPasses.{got_at, knows_pushed, knows_same, passes_know, passes_set}

-- what names one sender is all of that sender
pub own_sent : (number : ℕ) (shared : List SharedClause) → All (λ (one : SharedClause). one.sender ≡ number) shared → sent_by number shared ≡ shared
own_sent number [] all = refl
own_sent number (first ∷ shared) all =
    let Own : SharedClause → Type 0 = λ one. one.sender ≡ number in
    (λ i. cond (eq-eqb first.sender number (All-head Own first shared all) i) (first ∷ own_sent number shared (All-tail Own first shared all) i) (own_sent number shared (All-tail Own first shared all) i))

-- a number stands once in the list of it alone
pub alone : (numbers : List ℕ) (number own : ℕ) → numbers ≡ own ∷ [] → number ≡ own → 0 < count_by (◌==◌ number) numbers
alone numbers number own is same =
    let one : count_by (◌==◌ own) (own ∷ []) ≡ 1 = ap (λ (b : Bool). 0 + (if b then 1 else 0)) (eq-eqb own own refl) in
    let there : count_by (◌==◌ number) numbers ≡ count_by (◌==◌ own) (own ∷ []) = (λ i. count_by (◌==◌ (same i)) (is i)) in omega (arith, one, there)

-- the pass of another worker's inbox, before the last offer is pushed to it
module _ (desk : Desk) (taker : ℕ) (inbox : Inbox) (pass : Pass SharedClause View) (shared : SharedClause) (within : taker < length desk.inboxes.now) (apart : taker ≡ desk.place → ⊥) (below : PushesBelow taker desk)
    (is_inbox : inbox ≡ get_or desk.inboxes.now taker inbox) (is_pass : pass ≡ get_or desk.passes.items taker pass) (last : IsLastOffer desk shared) where
  there : slice_get desk.inboxes.now taker ≡ Some inbox
  there = got_at desk.inboxes.now taker inbox within is_inbox

  old : IsOf inbox pass × KnowsBelow taker desk taker (view pass)
  old = below.passes.each taker inbox pass there (got_at desk.passes.items taker pass (omega (arith, within, below.passes.len)) is_pass)

  knows : Knows desk.problem.now (length desk.inboxes.now) desk.place taker (before_last desk.outgoing.items) (view pass)
  knows = old.1.1 (omega arith)

  pub its_inbox : IsOf (get_or desk.inboxes.now taker inbox) pass
  its_inbox = subst (λ (b : Inbox). IsOf b pass) is_inbox old.0

  pub good_there : IsGoodFor (view pass).base shared
  good_there = subst (λ o. IsSomeAnd o (λ problem. IsGood problem shared)) (sym knows.base) last.good

  pub may_push : MayPush (view pass) shared.sender
  may_push = alone (view pass).numbers shared.sender (desk.place + 1) (knows.sending apart).numbers last.sender

  pub room_there : length (sent_by shared.sender (view pass).pushed) < 1024
  room_there =
      let sending = knows.sending apart in
      let all : sent_by shared.sender (view pass).pushed ≡ (view pass).pushed = ap (λ (n : ℕ). sent_by n (view pass).pushed) last.sender ∙ own_sent (desk.place + 1) (view pass).pushed sending.own in
      let one : length (sent_by shared.sender (view pass).pushed) ≡ length (view pass).pushed = ap (λ (ss : List SharedClause). length ss) all in
      let two : length (map (λ (s : SharedClause). s.clause) (view pass).pushed) ≡ length (before_last desk.outgoing.items) = ap (λ (cs : List (List Lit)). length cs) sending.pushed in
      let three : length (map (λ (s : SharedClause). s.clause) (view pass).pushed) ≡ length (view pass).pushed = length-map (view pass).pushed (λ (s : SharedClause). s.clause) in
      let four : length (before_last desk.outgoing.items) ≡ length (take (length desk.outgoing.items - 1) desk.outgoing.items) = length-map (take (length desk.outgoing.items - 1) desk.outgoing.items) (λ (o : Outgoing). o.clause) in
      let five : length (take (length desk.outgoing.items - 1) desk.outgoing.items) ≡ length desk.outgoing.items - 1 = length-take-le (length desk.outgoing.items - 1) desk.outgoing.items (omega arith) in
      omega (arith, one, two, three, four, five, below.some.0, below.some.1)

  -- then it is pushed to one worker more
  pub pushed_there : (new : Desk) (now : Pass SharedClause View) → new.problem.now ≡ desk.problem.now → new.inboxes.now ≡ desk.inboxes.now → new.place ≡ desk.place → new.outgoing.items ≡ desk.outgoing.items
      → new.passes.items ≡ slice_set desk.passes.items taker now → IsOf (get_or desk.inboxes.now taker inbox) now → view now ≡ pushed_one (view pass) shared → PushesBelow (taker + 1) new
  pushed_there new now same_problem same_inboxes same_place same_outgoing is own pushed =
      let Is : Problem → List Inbox → ℕ → List Outgoing → Type 0 = λ problem inboxes place outgoing.
      (place < length inboxes) × (length inboxes ≤ 16) × (1 ≤ length outgoing) × (length outgoing ≤ 1024)
      × PassesAre inboxes (λ one seen. (one < taker + 1 → Knows problem (length inboxes) place one (clauses_of outgoing) seen) × (taker + 1 ≤ one → Knows problem (length inboxes) place one (before_last outgoing) seen)) new.passes.items in
      let all : Is desk.problem.now desk.inboxes.now desk.place desk.outgoing.items = (below.place, below.few, below.some.0, below.some.1, passes) in
      let moved : Is new.problem.now new.inboxes.now new.place new.outgoing.items = subst (λ (p : Problem × List Inbox × ℕ × List Outgoing). Is p.0 p.1 p.2 p.3) (λ i. (sym same_problem i, sym same_inboxes i, sym same_place i, sym same_outgoing i)) all in
      record { place = moved.0; few = moved.1; some = (moved.2, moved.3); passes = moved.4 }
    where
      passes : PassesAre desk.inboxes.now (KnowsBelow (taker + 1) desk) new.passes.items
      passes = passes_set desk.inboxes.now (KnowsBelow taker desk) (KnowsBelow (taker + 1) desk) desk.passes.items new.passes.items taker inbox now below.passes is there
          (subst (λ (b : Inbox). IsOf b now) (sym is_inbox) own) (
            (λ low. subst (λ (seen : View). Knows desk.problem.now (length desk.inboxes.now) desk.place taker (clauses_of desk.outgoing.items) seen) (sym pushed)
                (knows_pushed desk.problem.now (length desk.inboxes.now) desk.place taker (before_last desk.outgoing.items) (clauses_of desk.outgoing.items) (view pass) shared knows apart last.clause last.sender)),
            (λ high. absurd (omega (arith, high))),
          )
          (λ other seen away knowing. ((λ low. knowing.0 (omega (arith, low, away))), (λ high. knowing.1 (omega (arith, high)))))

-- a worker pushes nothing to itself
pub skips_own : (desk : Desk) → PushesBelow desk.place desk → PushesBelow (desk.place + 1) desk
skips_own desk below = record {
  place = below.place;
  few = below.few;
  some = below.some;
  passes = passes_know desk.inboxes.now (KnowsBelow desk.place desk) (KnowsBelow (desk.place + 1) desk) desk.passes.items below.passes (λ place seen within knowing. (
    (λ low. at place seen knowing low (cases_eq place desk.place)),
    (λ high. knowing.1 (omega (arith, high))),
  ));
}
  where
    at : (place : ℕ) (seen : View) → KnowsBelow desk.place desk place seen → place < desk.place + 1 → (place ≡ desk.place) ⊎ (place ≡ desk.place → ⊥)
        → Knows desk.problem.now (length desk.inboxes.now) desk.place place (clauses_of desk.outgoing.items) seen
    at place seen knowing low (inl same) =
        knows_same desk.problem.now (length desk.inboxes.now) desk.place place (before_last desk.outgoing.items) (clauses_of desk.outgoing.items) seen (knowing.1 (omega (arith, same))) same
    at place seen knowing low (inr apart) = knowing.0 (omega (arith, low, apart))

-- a copy of the last offer stays one
pub last_stays : (old new : Desk) (shared : SharedClause) → SameWorker old new → new.outgoing ≡ old.outgoing → IsLastOffer old shared → IsLastOffer new shared
last_stays old new shared same outgoing last =
    let items : new.outgoing.items ≡ old.outgoing.items = λ i. (outgoing i).items in
    record {
      good = subst (λ (p : Problem). IsGood p shared) (sym same.problem) last.good;
      sender = last.sender ∙ ap (λ (n : ℕ). n + 1) (sym same.place);
      clause = ap clauses_of items ∙ last.clause ∙ ap (λ (os : List Outgoing). before_last os ++ shared.clause ∷ []) (sym items);
    }
