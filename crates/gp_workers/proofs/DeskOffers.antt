-- What an offer and a take change of a worker's desk.
use Rattle.std.proofs.Common.{◌≡◌, refl, sym, ◌∙◌, ap, subst, ℕ, zero, suc, ◌+◌, ◌-◌, ◌<◌, ◌≤◌, true, Some, None, List, [], ◌∷◌, ◌++◌, length, map, take, slice_set, get_or, replicate, All, arith}
use Rattle.std.specs.List.{slice_get}
use Rattle.std.specs.Prelude.{IsSomeAnd, OnErr, OnOk, Result, Ok, Err}
use Rattle.std.specs.Arc.{arc_value}
use Rattle.std.proofs.lemmas.List.{length-map, length_push, map-append, take_all, take_at, take-append-le}
use Rattle.std.proofs.lemmas.List.Elements.{All-push, All-weaker}
use Rattle.std.proofs.lemmas.Option.{same_Some, slice_get_within}
use Rattle.crossbeam_queue.specs.Passes.{Pass, view}
use Rattle.gp_clause.specs.declared.lit.Lit.{Lit}
use Rattle.gp_clause.specs.declared.problem.Problem.{Problem}
use Rattle.gp_derivation.specs.declared.exchange.SharedClause.{SharedClause}
use Rattle.gp_derivation.specs.declared.record.Offered.{Offered}
use Rattle.gp_derivation.specs.declared.record.Sent.TheVariants.{Pushed, Full}
use Rattle.gp_derivation.specs.Exchange.{IsGood, IsGoodBy}
use Rattle.gp_inbox.specs.declared.inbox.Inbox.{Inbox}
use Rattle.gp_inbox.specs.declared.rule.View.{View}
use Rattle.gp_inbox.specs.History.{sent_by}
use Rattle.gp_inbox.specs.Passes.{IsOf}
use Rattle.gp_inbox.specs.Views.{NamesOneOf, Takes, took_one}
use Rattle.gp_base.specs.Counts.{one_more}
use Rattle.gp_workers.specs.declared.desk.Desk.{Desk}
use Rattle.gp_workers.specs.declared.desk.Outgoing.{Outgoing}
use Rattle.gp_workers.specs.Desk.{before_last, clauses_of, IsDesk, IsLastOffer, Knows, offers_of, PassesAre, PushesBelow, sent_of, taken_by, taken_of, told_by, IsCopyOf, KeepsRest, Notes, OffersOne, SameWorker, TakesOne}
use Rattle.gp_workers.specs.Sharing.{AreMarked, others}
use Rattle.gp_workers.proofs.DeskPasses.{got_at, got_set, knows_taken, passes_know, passes_set}

-- what holds of each element by its place holds of one more at the end
pub each_got : {X : Type 0} (P : ℕ → X → Type 0) (xs : List X) (last : X) → ((place : ℕ) (x : X) → slice_get xs place ≡ Some x → P place x) → P (length xs) last
    → (place : ℕ) (x : X) → slice_get (xs ++ last ∷ []) place ≡ Some x → P place x
each_got P [] last each own zero x got = subst (P 0) (same_Some last x got) own
each_got P [] last each own (suc place) x got = absurd (omega (arith, slice_get_within [] place x got))
each_got P (y ∷ xs) last each own zero x got = each 0 x got
each_got P (y ∷ xs) last each own (suc place) x got = each_got (λ n. P (suc n)) xs last (λ n z there. each (suc n) z there) own place x got

-- what a desk knows where its parts are the same, and its passes know what it sent
desk_of : (old new : Desk) → IsDesk old → SameWorker old new → taken_of new ≡ taken_of old
    → PassesAre old.inboxes.now (λ taker seen. Knows old.problem.now (length old.inboxes.now) old.place taker (sent_of new.outgoing.items) seen) new.passes.items
    → AreMarked (length old.inboxes.now) (offers_of new.outgoing.items) → IsDesk new
desk_of old new is same taken passes marked =
    let Is : Problem → List Inbox → ℕ → Type 0 = λ problem inboxes place.
    (place < length inboxes) × (length inboxes ≤ 16)
    × PassesAre inboxes (λ taker seen. Knows problem (length inboxes) place taker (sent_of new.outgoing.items) seen) new.passes.items
    × AreMarked (length inboxes) (offers_of new.outgoing.items)
    × All (NamesOneOf (others (length inboxes) place)) (taken_of new) in
    let from : All (NamesOneOf (others (length old.inboxes.now) old.place)) (taken_of new) = subst (All (NamesOneOf (others (length old.inboxes.now) old.place))) (sym taken) is.from in
    let moved : Is new.problem.now new.inboxes.now new.place = subst (λ (p : Problem × List Inbox × ℕ). Is p.0 p.1 p.2) (λ i. (sym same.problem i, sym same.inboxes i, sym same.place i)) (is.place, is.few, passes, marked, from) in
    record {
      place = moved.0;
      few = moved.1;
      passes = moved.2;
      marked = moved.3;
      from = moved.4;
      short = λ sender. subst (λ (ss : List SharedClause). length (sent_by sender ss) ≤ 1024) (sym taken) (is.short sender);
    }

pub taken_same : (old new : Desk) → KeepsRest old new → taken_of new ≡ taken_of old
taken_same old new keeps = λ i. taken_by (slice_get (keeps.passes i) (keeps.same.place i))

-- a desk where nothing changed
pub desk_same : (old new : Desk) → IsDesk old → KeepsRest old new → new.outgoing.items ≡ old.outgoing.items → IsDesk new
desk_same old new is keeps outgoing =
    desk_of old new is keeps.same (taken_same old new keeps)
    (subst (λ (ps : List (Pass SharedClause View)). PassesAre old.inboxes.now (λ taker seen. Knows old.problem.now (length old.inboxes.now) old.place taker (sent_of new.outgoing.items) seen) ps) (sym keeps.passes)
    (subst (λ (os : List Outgoing). PassesAre old.inboxes.now (λ taker seen. Knows old.problem.now (length old.inboxes.now) old.place taker (sent_of os) seen) old.passes.items) (sym outgoing) is.passes))
    (subst (λ (os : List Outgoing). AreMarked (length old.inboxes.now) (offers_of os)) (sym outgoing) is.marked)

-- nothing new is told
pub tells_same : (old new : Desk) → KeepsRest old new → new.outgoing.items ≡ old.outgoing.items → told_by new ≡ told_by old
tells_same old new keeps outgoing = λ i. record { gave = taken_same old new keeps i; offered = map (λ (one : Outgoing). (one.offered.entry, one.clause)) (outgoing i); empty = keeps.empty i }

-- an offer more is marked
marked_more : (count : ℕ) (outgoing : List Outgoing) (last : Outgoing) → AreMarked count (offers_of outgoing) → (length outgoing < 1024 → last.offered.sent ≡ replicate (count - 1) Pushed)
    → (1024 ≤ length outgoing → last.offered.sent ≡ replicate (count - 1) Full) → AreMarked count (offers_of (outgoing ++ last ∷ []))
marked_more count outgoing last marked early late =
    let size : length (offers_of outgoing) ≡ length outgoing = length-map outgoing (λ (one : Outgoing). one.offered) in
    let Marked : ℕ → Offered → Type 0 = λ place offered. (place < 1024 → offered.sent ≡ replicate (count - 1) Pushed) × (1024 ≤ place → offered.sent ≡ replicate (count - 1) Full) in
    subst (λ (os : List Offered). (place : ℕ) (offered : Offered) → slice_get os place ≡ Some offered → Marked place offered) (sym (map-append (λ (one : Outgoing). one.offered) outgoing (last ∷ [])))
    (each_got Marked (offers_of outgoing) last.offered marked ((λ low. early (omega (arith, low, size))), (λ high. late (omega (arith, high, size)))))

-- what was offered is told
told_more : (old new : Desk) (entry : ℕ) (clause : List Lit) (outgoing : Outgoing) → taken_of new ≡ taken_of old → new.empty ≡ old.empty → new.outgoing.items ≡ old.outgoing.items ++ outgoing ∷ [] → outgoing.offered.entry ≡ entry → outgoing.clause ≡ clause
    → OffersOne entry clause old new
told_more old new entry clause outgoing taken empty last names keeps =
    let pair : Outgoing → ℕ × List Lit = λ one. (one.offered.entry, one.clause) in
    let offered : map pair new.outgoing.items ≡ map pair old.outgoing.items ++ (entry, clause) ∷ [] =
    ap (λ (os : List Outgoing). map pair os) last ∙ map-append pair old.outgoing.items (outgoing ∷ []) ∙ (λ i. map pair old.outgoing.items ++ (names i, keeps i) ∷ []) in
    λ i. record { gave = taken i; offered = offered i; empty = empty i }

-- an offer that is only kept
pub offer_kept : (old new : Desk) (entry : ℕ) (clause : List Lit) → IsDesk old → 1024 ≤ length old.outgoing.items → KeepsRest old new → Notes entry Full clause old new → IsDesk new × OffersOne entry clause old new
offer_kept old new entry clause is full keeps notes = (
  desk_of old new is keeps.same taken
      (subst (λ (ps : List (Pass SharedClause View)). PassesAre old.inboxes.now (λ taker seen. Knows old.problem.now (length old.inboxes.now) old.place taker (sent_of new.outgoing.items) seen) ps) (sym keeps.passes)
      (subst (λ (cs : List (List Lit)). PassesAre old.inboxes.now (λ taker seen. Knows old.problem.now (length old.inboxes.now) old.place taker cs seen) old.passes.items) (sym sent) is.passes))
      (subst (λ (os : List Outgoing). AreMarked (length old.inboxes.now) (offers_of os)) (sym notes.last)
      (marked_more (length old.inboxes.now) old.outgoing.items notes.outgoing is.marked (λ low. absurd (omega (arith, low, full))) (λ high. notes.is.marks))),
  told_more old new entry clause notes.outgoing taken keeps.empty notes.last notes.is.names notes.is.keeps,
)
  where
    taken : taken_of new ≡ taken_of old
    taken = taken_same old new keeps

    sent : sent_of new.outgoing.items ≡ sent_of old.outgoing.items
    sent = ap sent_of notes.last ∙ ap clauses_of (take-append-le 1024 old.outgoing.items (notes.outgoing ∷ []) full)

-- an offer that was kept and is pushed to nobody yet
module _ (old mid : Desk) (entry : ℕ) (shared : SharedClause) (is : IsDesk old) (room : length old.outgoing.items < 1024) (keeps : KeepsRest old mid) (notes : Notes entry Pushed shared.clause old mid) where
  longer : length mid.outgoing.items ≡ length old.outgoing.items + 1
  longer = ap (λ (os : List Outgoing). length os) notes.last ∙ length_push old.outgoing.items notes.outgoing

  -- those before it
  before : before_last mid.outgoing.items ≡ clauses_of old.outgoing.items
  before = let size : length mid.outgoing.items - 1 ≡ length old.outgoing.items = omega (arith, longer) in
      (λ i. clauses_of (take (size i) (notes.last i))) ∙ ap clauses_of (take_at old.outgoing.items (notes.outgoing ∷ []) (length old.outgoing.items) refl)

  sent : sent_of old.outgoing.items ≡ before_last mid.outgoing.items
  sent = ap clauses_of (take_all 1024 old.outgoing.items (omega (arith, room))) ∙ sym before

  pub pushed_to_none : PushesBelow 0 mid
  pushed_to_none =
      let Is : Problem → List Inbox → ℕ → Type 0 = λ problem inboxes place.
      (place < length inboxes) × (length inboxes ≤ 16)
      × PassesAre inboxes (λ taker seen. (taker < 0 → Knows problem (length inboxes) place taker (clauses_of mid.outgoing.items) seen) × (0 ≤ taker → Knows problem (length inboxes) place taker (before_last mid.outgoing.items) seen)) mid.passes.items in
      let all : Is old.problem.now old.inboxes.now old.place = (is.place, is.few, passes) in
      let moved : Is mid.problem.now mid.inboxes.now mid.place = subst (λ (p : Problem × List Inbox × ℕ). Is p.0 p.1 p.2) (λ i. (sym keeps.same.problem i, sym keeps.same.inboxes i, sym keeps.same.place i)) all in
      record { place = moved.0; few = moved.1; some = (omega (arith, longer), omega (arith, longer, room)); passes = moved.2 }
    where
      passes : PassesAre old.inboxes.now (λ taker seen. (taker < 0 → Knows old.problem.now (length old.inboxes.now) old.place taker (clauses_of mid.outgoing.items) seen) × (0 ≤ taker → Knows old.problem.now (length old.inboxes.now) old.place taker (before_last mid.outgoing.items) seen)) mid.passes.items
      passes = subst (λ (ps : List (Pass SharedClause View)). PassesAre old.inboxes.now (λ taker seen. (taker < 0 → Knows old.problem.now (length old.inboxes.now) old.place taker (clauses_of mid.outgoing.items) seen) × (0 ≤ taker → Knows old.problem.now (length old.inboxes.now) old.place taker (before_last mid.outgoing.items) seen)) ps) (sym keeps.passes)
          (passes_know old.inboxes.now (λ taker seen. Knows old.problem.now (length old.inboxes.now) old.place taker (sent_of old.outgoing.items) seen) (λ taker seen. (taker < 0 → Knows old.problem.now (length old.inboxes.now) old.place taker (clauses_of mid.outgoing.items) seen) × (0 ≤ taker → Knows old.problem.now (length old.inboxes.now) old.place taker (before_last mid.outgoing.items) seen)) old.passes.items is.passes
          (λ taker seen within knows. ((λ low. absurd (omega (arith, low))), (λ high. subst (λ (cs : List (List Lit)). Knows old.problem.now (length old.inboxes.now) old.place taker cs seen) sent knows))))

  -- each copy is one of it
  pub copies_last : (copies : List SharedClause) → IsGood old.problem.now shared → shared.sender ≡ old.place + 1 → All (IsCopyOf shared) copies → All (IsLastOffer mid) copies
  copies_last copies good sender all = All-weaker (IsCopyOf shared) (IsLastOffer mid) one copies all
    where
      one : (copy : SharedClause) → IsCopyOf shared copy → IsLastOffer mid copy
      one copy is_copy = record {
        good = subst (λ (p : Problem). IsGood p copy) (sym keeps.same.problem)
            (subst (λ own. IsGoodBy old.problem.now copy.clause own) (sym is_copy.certificate) (subst (λ (c : List Lit). IsGoodBy old.problem.now c (arc_value shared.certificate)) (sym is_copy.clause) good));
        sender = is_copy.sender ∙ sender ∙ ap (λ (n : ℕ). n + 1) (sym keeps.same.place);
        clause = ap clauses_of notes.last ∙ map-append (λ (o : Outgoing). o.clause) old.outgoing.items (notes.outgoing ∷ [])
            ∙ (λ i. sym before i ++ (notes.is.keeps ∙ sym is_copy.clause) i ∷ []);
      }

  -- then it is pushed to all
  pub offer_pushed : (new : Desk) (count : ℕ) → count ≡ length mid.inboxes.now → SameWorker mid new → new.outgoing ≡ mid.outgoing → new.empty ≡ mid.empty → taken_of new ≡ taken_of mid → PushesBelow count new → IsDesk new × OffersOne entry shared.clause old new
  offer_pushed new count counted same outgoing empty taken all = (
    desk_of old new is both now_taken passes
        (subst (λ (os : List Outgoing). AreMarked (length old.inboxes.now) (offers_of os)) (sym items)
        (marked_more (length old.inboxes.now) old.outgoing.items notes.outgoing is.marked (λ low. notes.is.marks) (λ high. absurd (omega (arith, high, room))))),
    told_more old new entry shared.clause notes.outgoing now_taken (empty ∙ keeps.empty) items notes.is.names notes.is.keeps,
  )
    where
      both : SameWorker old new
      both = record { problem = same.problem ∙ keeps.same.problem; inboxes = same.inboxes ∙ keeps.same.inboxes; place = same.place ∙ keeps.same.place }

      now_taken : taken_of new ≡ taken_of old
      now_taken = taken ∙ taken_same old mid keeps

      items : new.outgoing.items ≡ old.outgoing.items ++ notes.outgoing ∷ []
      items = (λ i. (outgoing i).items) ∙ notes.last

      whole : clauses_of new.outgoing.items ≡ sent_of new.outgoing.items
      whole = ap clauses_of (sym (take_all 1024 new.outgoing.items all.some.1))

      count_is : length old.inboxes.now ≡ count
      count_is = sym (counted ∙ ap (λ (bs : List Inbox). length bs) keeps.same.inboxes)

      passes : PassesAre old.inboxes.now (λ taker seen. Knows old.problem.now (length old.inboxes.now) old.place taker (sent_of new.outgoing.items) seen) new.passes.items
      passes =
          let Is : Problem → List Inbox → ℕ → Type 0 = λ problem inboxes place.
          PassesAre inboxes (λ taker seen. (taker < count → Knows problem (length inboxes) place taker (clauses_of new.outgoing.items) seen) × (count ≤ taker → Knows problem (length inboxes) place taker (before_last new.outgoing.items) seen)) new.passes.items in
          let back : Is old.problem.now old.inboxes.now old.place = subst (λ (p : Problem × List Inbox × ℕ). Is p.0 p.1 p.2) (λ i. (both.problem i, both.inboxes i, both.place i)) all.passes in
          passes_know old.inboxes.now (λ taker seen. (taker < count → Knows old.problem.now (length old.inboxes.now) old.place taker (clauses_of new.outgoing.items) seen) × (count ≤ taker → Knows old.problem.now (length old.inboxes.now) old.place taker (before_last new.outgoing.items) seen))
          (λ taker seen. Knows old.problem.now (length old.inboxes.now) old.place taker (sent_of new.outgoing.items) seen) new.passes.items back
          (λ taker seen within knows. subst (λ (cs : List (List Lit)). Knows old.problem.now (length old.inboxes.now) old.place taker cs seen) whole (knows.0 (omega (arith, within, count_is))))

-- the worker's own pass, before a take
module _ (desk : Desk) (inbox : Inbox) (pass : Pass SharedClause View) (is : IsDesk desk) (is_inbox : inbox ≡ get_or desk.inboxes.now desk.place inbox) (is_pass : pass ≡ get_or desk.passes.items desk.place pass) where
  at_inbox : slice_get desk.inboxes.now desk.place ≡ Some inbox
  at_inbox = got_at desk.inboxes.now desk.place inbox is.place is_inbox

  at_pass : slice_get desk.passes.items desk.place ≡ Some pass
  at_pass = got_at desk.passes.items desk.place pass (omega (arith, is.place, is.passes.len)) is_pass

  knows_own : IsOf inbox pass × Knows desk.problem.now (length desk.inboxes.now) desk.place desk.place (sent_of desk.outgoing.items) (view pass)
  knows_own = is.passes.each desk.place inbox pass at_inbox at_pass

  pub own_inbox : IsOf (get_or desk.inboxes.now desk.place inbox) pass
  own_inbox = subst (λ (b : Inbox). IsOf b pass) is_inbox knows_own.0

  pub may_take : (view pass).takes ≡ true
  may_take = (knows_own.1.taking refl).takes

  own_taken : taken_of desk ≡ (view pass).taken
  own_taken = ap taken_by at_pass

  pub good_taken : (shared : SharedClause) (after : View) → Takes (view pass) shared after → IsGood desk.problem.now shared
  good_taken shared after takes = subst (λ o. IsSomeAnd o (λ problem. IsGood problem shared)) knows_own.1.base takes.good

  -- the own pass changes
  changed : (new : Desk) (now : Pass SharedClause View) → SameWorker desk new → new.outgoing.items ≡ desk.outgoing.items → new.passes.items ≡ slice_set desk.passes.items desk.place now → IsOf (get_or desk.inboxes.now desk.place inbox) now
      → Knows desk.problem.now (length desk.inboxes.now) desk.place desk.place (sent_of desk.outgoing.items) (view now) → All (NamesOneOf (others (length desk.inboxes.now) desk.place)) (view now).taken → ((sender : ℕ) → length (sent_by sender (view now).taken) ≤ 1024)
      → IsDesk new × (taken_of new ≡ (view now).taken)
  changed new now same outgoing set own knows from short = (
    record {
      place = moved.0;
      few = moved.1;
      passes = moved.2;
      marked = moved.3;
      from = moved.4;
      short = λ sender. subst (λ (ss : List SharedClause). length (sent_by sender ss) ≤ 1024) (sym taken) (short sender);
    },
    taken,
  )
    where
      within : desk.place < length desk.passes.items
      within = omega (arith, is.place, is.passes.len)

      taken : taken_of new ≡ (view now).taken
      taken = (λ i. taken_by (slice_get (set i) (same.place i))) ∙ ap taken_by (got_set desk.passes.items desk.place now within)

      passes : PassesAre desk.inboxes.now (λ taker seen. Knows desk.problem.now (length desk.inboxes.now) desk.place taker (sent_of desk.outgoing.items) seen) new.passes.items
      passes = passes_set desk.inboxes.now (λ taker seen. Knows desk.problem.now (length desk.inboxes.now) desk.place taker (sent_of desk.outgoing.items) seen) (λ taker seen. Knows desk.problem.now (length desk.inboxes.now) desk.place taker (sent_of desk.outgoing.items) seen)
          desk.passes.items new.passes.items desk.place inbox now is.passes set at_inbox (subst (λ (b : Inbox). IsOf b now) (sym is_inbox) own) knows (λ other seen apart knowing. knowing)

      Is : Problem → List Inbox → ℕ → List Outgoing → Type 0
      Is problem inboxes place outgoing =
          (place < length inboxes) × (length inboxes ≤ 16)
          × PassesAre inboxes (λ taker seen. Knows problem (length inboxes) place taker (sent_of outgoing) seen) new.passes.items
          × AreMarked (length inboxes) (offers_of outgoing)
          × All (NamesOneOf (others (length inboxes) place)) (taken_of new)

      moved : Is new.problem.now new.inboxes.now new.place new.outgoing.items
      moved = subst (λ (p : Problem × List Inbox × ℕ × List Outgoing). Is p.0 p.1 p.2 p.3) (λ i. (sym same.problem i, sym same.inboxes i, sym same.place i, sym outgoing i))
          (is.place, is.few, passes, is.marked, subst (All (NamesOneOf (others (length desk.inboxes.now) desk.place))) (sym taken) from)

  pub took_from : (new : Desk) (now : Pass SharedClause View) (shared : SharedClause) → SameWorker desk new → new.outgoing.items ≡ desk.outgoing.items → new.empty ≡ desk.empty → new.passes.items ≡ slice_set desk.passes.items desk.place now
      → IsOf (get_or desk.inboxes.now desk.place inbox) now → Takes (view pass) shared (view now) → IsDesk new × TakesOne (Some shared) desk new
  took_from new now shared same outgoing empty set own takes =
      let seen : View = took_one (view pass) shared in
      let list : (view now).taken ≡ taken_of desk ++ shared ∷ [] = ap (λ (v : View). v.taken) takes.took ∙ ap (λ (ss : List SharedClause). ss ++ shared ∷ []) (sym own_taken) in
      let knows : Knows desk.problem.now (length desk.inboxes.now) desk.place desk.place (sent_of desk.outgoing.items) (view now) =
      subst (λ (v : View). Knows desk.problem.now (length desk.inboxes.now) desk.place desk.place (sent_of desk.outgoing.items) v) (sym takes.took) (knows_taken desk.problem.now (length desk.inboxes.now) desk.place (sent_of desk.outgoing.items) (view pass) shared knows_own.1) in
      let Named : SharedClause → Type 0 = NamesOneOf (others (length desk.inboxes.now) desk.place) in
      let from : All Named (view now).taken = subst (All Named) (sym list) (All-push Named (taken_of desk) shared is.from (subst (λ (ns : List ℕ). NamesOneOf ns shared) knows_own.1.senders takes.from)) in
      let done = changed new now same outgoing set own knows from takes.short in
      (done.0, λ i. Some (record { gave = (done.1 ∙ list) i; offered = map (λ (one : Outgoing). (one.offered.entry, one.clause)) (outgoing i); empty = empty i }))

  pub found_empty : (new : Desk) (now : Pass SharedClause View) → SameWorker desk new → new.outgoing.items ≡ desk.outgoing.items → new.empty ≡ one_more desk.empty → new.passes.items ≡ slice_set desk.passes.items desk.place now
      → IsOf (get_or desk.inboxes.now desk.place inbox) now → view now ≡ view pass → IsDesk new × TakesOne None desk new
  found_empty new now same outgoing empty set own unchanged =
      let list : (view now).taken ≡ taken_of desk = ap (λ (v : View). v.taken) unchanged ∙ sym own_taken in
      let knows : Knows desk.problem.now (length desk.inboxes.now) desk.place desk.place (sent_of desk.outgoing.items) (view now) =
      subst (λ (v : View). Knows desk.problem.now (length desk.inboxes.now) desk.place desk.place (sent_of desk.outgoing.items) v) (sym unchanged) knows_own.1 in
      let done = changed new now same outgoing set own knows (subst (All (NamesOneOf (others (length desk.inboxes.now) desk.place))) (sym list) is.from) (λ sender. subst (λ (ss : List SharedClause). length (sent_by sender ss) ≤ 1024) (sym list) (is.short sender)) in
      (done.0, λ i. Some (record { gave = (done.1 ∙ list) i; offered = map (λ (one : Outgoing). (one.offered.entry, one.clause)) (outgoing i); empty = empty i }))

-- what came of an offer that is only kept
pub note_kept : {E : Type 0} (r : Result (Unit {0}) E) (old new : Desk) (entry : ℕ) (clause : List Lit) → IsDesk old → 1024 ≤ length old.outgoing.items → KeepsRest old new → OnOk r (Notes entry Full clause old new)
    → OnErr r (new.outgoing.items ≡ old.outgoing.items) → IsDesk new × OnOk r (OffersOne entry clause old new) × OnErr r (told_by new ≡ told_by old)
note_kept (Ok done) old new entry clause is full keeps notes none = let kept = offer_kept old new entry clause is full keeps notes in (kept.0, kept.1, tt)
note_kept (Err failed) old new entry clause is full keeps notes none = (desk_same old new is keeps none, tt, tells_same old new keeps none)
