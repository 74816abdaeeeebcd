-- A push keeps the rule.
use Rattle.std.proofs.Common.{◌≡◌, refl, sym, subst, ap, ◌∙◌, ℕ, ◌+◌, ◌<◌, ◌≤◌, ◌==◌, Bool, true, false, Option, None, Some, IsSome, List, [], ◌∷◌, ◌++◌, length, set, All, append_assoc, length-append, if◌then◌else◌, arith, count_by, sum_by}
use Rattle.std.proofs.lemmas.Bool.{eqb-true}
use Rattle.std.proofs.lemmas.List.{append-nil}
use Rattle.std.proofs.lemmas.List.Elements.{All-push}
use mathlib.Core.Option.{some}
use lib.ListN.{get_elem?}
use Rattle.gp_clause.specs.declared.problem.Problem.{Problem}
use Rattle.gp_derivation.specs.declared.exchange.SharedClause.{SharedClause}
use Rattle.gp_inbox.specs.declared.rule.View.{View}
use Rattle.gp_inbox.specs.History.{history, sent_by}
use Rattle.gp_inbox.specs.Rule.{Fits, Kept, one_that_takes}
use Rattle.gp_inbox.specs.Views.{IsGoodFor, MayPush, NamesOneOf, pushed_one}
use Rattle.gp_base.specs.SumLaws.{one_most, sum_set, two_most}
use Rattle.gp_inbox.proofs.Sending.{sent_append, sent_more, sent_other}
use Rattle.gp_inbox.proofs.Elements.{each_set}

-- a base for which a clause is good is there
pub good_some : (base : Option Problem) (clause : SharedClause) → IsGoodFor base clause → IsSome base
good_some None clause good = absurd good
good_some (Some problem) clause good = refl

pub good_none : (base : Option Problem) (clause : SharedClause) → IsGoodFor base clause → base ≡ None → ⊥
good_none base clause good none = subst (λ (b : Option Problem). IsGoodFor b clause) none good

-- a number under which a view may push is one of the senders
pub is_sender : (held : List SharedClause) (views : List View) (seat : ℕ) (view : View) (number : ℕ) → Kept held views → get_elem? views seat ≡ some view → MayPush view number
    → (senders : List ℕ) → ((n : ℕ) → sum_by (λ (one : View). count_by (◌==◌ n) one.numbers) views ≡ count_by (◌==◌ n) senders) → 0 < count_by (◌==◌ number) senders
is_sender held views seat view number kept at may senders once =
    let most = one_most (λ (one : View). count_by (◌==◌ number) one.numbers) views seat view at in
    let all = once number in omega (arith, most, all, may)

-- the view that pushed
push_own : (base : Option Problem) (senders : List ℕ) (pushes : ℕ → List SharedClause) (got : List SharedClause) (view : View) (clause : SharedClause) → Fits base senders pushes got view
    → IsGoodFor view.base clause → IsGoodFor base clause → MayPush view clause.sender
    → Fits base senders (λ number. pushes number ++ sent_by number (clause ∷ [])) got (pushed_one view clause)
push_own base senders pushes got view clause fits good sound may = record {
  same = fits.same;
  taker = fits.taker;
  other = fits.other;
  idle = λ none. absurd (good_none view.base clause good none);
  busy = fits.busy;
  own = λ number mine. sent_append number view.pushed (clause ∷ []) ∙ ap (λ (l : List SharedClause). l ++ sent_by number (clause ∷ [])) (fits.own number mine);
  none = λ number without.
      sent_append number view.pushed (clause ∷ [])
      ∙ (λ i. fits.none number without i ++ sent_other number clause (λ same. let is : count_by (◌==◌ clause.sender) view.numbers ≡ count_by (◌==◌ number) view.numbers = ap (λ n. count_by (◌==◌ n) view.numbers) same in omega (arith, is, without, may)) i);
  sound = All-push (IsGoodFor base) view.pushed clause fits.sound sound;
}

-- a view that may not push under that number
push_other : (base : Option Problem) (senders : List ℕ) (pushes : ℕ → List SharedClause) (got : List SharedClause) (view : View) (clause : SharedClause) → Fits base senders pushes got view
    → count_by (◌==◌ clause.sender) view.numbers ≡ 0 → Fits base senders (λ number. pushes number ++ sent_by number (clause ∷ [])) got view
push_other base senders pushes got view clause fits without = record {
  same = fits.same;
  taker = fits.taker;
  other = fits.other;
  idle = fits.idle;
  busy = fits.busy;
  own = λ number mine.
      fits.own number mine
      ∙ sym (append-nil (pushes number))
      ∙ ap (λ (l : List SharedClause). pushes number ++ l)
      (sym (sent_other number clause (λ same. let is : count_by (◌==◌ clause.sender) view.numbers ≡ count_by (◌==◌ number) view.numbers = ap (λ n. count_by (◌==◌ n) view.numbers) same in omega (arith, is, without, mine))));
  none = fits.none;
  sound = fits.sound;
}

-- a sender pushed no more than 1,024 clauses, by whether it is the one that pushed
still_short : (number : ℕ) (clause : SharedClause) (before : List SharedClause) → length before ≤ 1024 → (clause.sender ≡ number → length before < 1024)
    → (b : Bool) → (clause.sender == number) ≡ b → length (sent_by number (clause ∷ [])) ≡ (if b then 1 else 0) → length (before ++ sent_by number (clause ∷ [])) ≤ 1024
still_short number clause before short room true same one =
    let few : length before < 1024 = room (eqb-true clause.sender number same) in
    let both : length (before ++ sent_by number (clause ∷ [])) ≡ length before + length (sent_by number (clause ∷ [])) = length-append before (sent_by number (clause ∷ [])) in
    omega (arith, few, both, one)
still_short number clause before short room false other none =
    let both : length (before ++ sent_by number (clause ∷ [])) ≡ length before + length (sent_by number (clause ∷ [])) = length-append before (sent_by number (clause ∷ [])) in
    omega (arith, short, both, none)

pub keeps_push : (held : List SharedClause) (views : List View) (seat : ℕ) (view : View) (clause : SharedClause) → Kept held views → get_elem? views seat ≡ some view
    → IsGoodFor view.base clause → MayPush view clause.sender → length (sent_by clause.sender view.pushed) < 1024
    → Kept (held ++ clause ∷ []) (set views seat (pushed_one view clause))
keeps_push held views seat view clause kept at good may room =
    let mine = kept.fits seat view at in
    let base : view.base ≡ kept.base = (mine.same (good_some view.base clause good)).0 in
    let sound : IsGoodFor kept.base clause = subst (λ (b : Option Problem). IsGoodFor b clause) base good in
    let new : View = pushed_one view clause in
    let pushes : ℕ → List SharedClause = λ number. kept.pushes number ++ sent_by number (clause ∷ []) in
    let longer : history kept.got held ++ clause ∷ [] ≡ history kept.got (held ++ clause ∷ []) = append_assoc kept.got held (clause ∷ []) in
    let named : 0 < count_by (◌==◌ clause.sender) kept.senders = is_sender held views seat view clause.sender kept at may kept.senders kept.once in
    record {
      base = kept.base;
      senders = kept.senders;
      pushes = pushes;
      got = kept.got;
      fits = each_set (Fits kept.base kept.senders pushes kept.got) views seat new (push_own kept.base kept.senders kept.pushes kept.got view clause mine good sound may)
          (λ other one apart there.
          let both = two_most (λ (v : View). count_by (◌==◌ clause.sender) v.numbers) views seat other view one at apart there in
          let all = kept.once clause.sender in
          let once = kept.apart clause.sender in
          push_other kept.base kept.senders kept.pushes kept.got one clause (kept.fits other one there) (omega (arith, both, all, once, may)));
      order = λ number.
          ap (sent_by number) (sym longer)
          ∙ sent_append number (history kept.got held) (clause ∷ [])
          ∙ ap (λ (l : List SharedClause). l ++ sent_by number (clause ∷ [])) (kept.order number);
      good = subst (All (IsGoodFor kept.base)) longer (All-push (IsGoodFor kept.base) (history kept.got held) clause kept.good sound);
      from = subst (All (NamesOneOf kept.senders)) longer (All-push (NamesOneOf kept.senders) (history kept.got held) clause kept.from named);
      once = λ number. let changed = sum_set (λ (v : View). count_by (◌==◌ number) v.numbers) views seat view new at in let all = kept.once number in omega (arith, changed, all);
      apart = kept.apart;
      one = let changed = sum_set one_that_takes views seat view new at in let all = kept.one in omega (arith, changed, all);
      short = λ number.
          still_short number clause (kept.pushes number) (kept.short number)
          (λ same.
          let own : sent_by clause.sender view.pushed ≡ kept.pushes number = mine.own clause.sender may ∙ ap kept.pushes same in
          let long : length (sent_by clause.sender view.pushed) ≡ length (kept.pushes number) = ap length own in
          omega (arith, long, room))
          (clause.sender == number) refl (sent_more number clause [] ∙ ap (λ n. (if clause.sender == number then 1 else 0) + n) refl ∙ plus_zero (if clause.sender == number then 1 else 0));
    }
  where
    plus_zero : (n : ℕ) → n + 0 ≡ n
    plus_zero n = omega arith
