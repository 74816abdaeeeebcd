-- The passes of a worker, one of each inbox, and what changes with one of them.
use Rattle.std.proofs.Common.{◌≡◌, refl, sym, ◌∙◌, ap, subst, ℕ, zero, suc, ◌+◌, ◌<◌, ◌⊎◌, inl, inr, Some, List, [], ◌∷◌, ◌++◌, length, slice_set, get_or, arith}
use Rattle.std.specs.List.{slice_get}
use Rattle.std.proofs.lemmas.Bool.{cases_eq}
use Rattle.std.proofs.lemmas.List.{length-set, map-append}
use Rattle.std.proofs.lemmas.List.Elements.{All-push}
use Rattle.std.proofs.lemmas.Option.{same_Some, slice_get_within}
use Rattle.crossbeam_queue.specs.Passes.{Pass, view}
use Rattle.gp_clause.specs.declared.lit.Lit.{Lit}
use Rattle.gp_clause.specs.declared.problem.Problem.{Problem}
use Rattle.gp_derivation.specs.declared.exchange.SharedClause.{SharedClause}
use Rattle.gp_inbox.specs.declared.inbox.Inbox.{Inbox}
use Rattle.gp_inbox.specs.declared.rule.View.{View}
use Rattle.gp_inbox.specs.Passes.{IsOf}
use Rattle.gp_inbox.specs.Views.{pushed_one, took_one}
use Rattle.gp_workers.specs.Desk.{Knows, PassesAre}

module _ {X : Type 0} where
  -- what stands at a place that was set, and at another place
  pub got_set : (xs : List X) (place : ℕ) (x : X) → place < length xs → slice_get (slice_set xs place x) place ≡ Some x
  got_set [] place x within = absurd (omega (arith, within))
  got_set (y ∷ xs) zero x within = refl
  got_set (y ∷ xs) (suc place) x within = got_set xs place x (omega (arith, within))

  pub got_other : (xs : List X) (place other : ℕ) (x : X) → (other ≡ place → ⊥) → slice_get (slice_set xs place x) other ≡ slice_get xs other
  got_other [] place other x apart = refl
  got_other (y ∷ xs) zero zero x apart = absurd (apart refl)
  got_other (y ∷ xs) zero (suc other) x apart = refl
  got_other (y ∷ xs) (suc place) zero x apart = refl
  got_other (y ∷ xs) (suc place) (suc other) x apart = got_other xs place other x (λ same. apart (ap suc same))

  -- what an index names is there
  pub got_at : (xs : List X) (place : ℕ) (x : X) → place < length xs → x ≡ get_or xs place x → slice_get xs place ≡ Some x
  got_at [] place x within is = absurd (omega (arith, within))
  got_at (y ∷ xs) zero x within is = ap Some (sym is)
  got_at (y ∷ xs) (suc place) x within is = got_at xs place x (omega (arith, within)) is

-- one pass changes
pub passes_set : (inboxes : List Inbox) (knows now : ℕ → View → Type 0) (passes new : List (Pass SharedClause View)) (place : ℕ) (inbox : Inbox) (pass : Pass SharedClause View) → PassesAre inboxes knows passes
    → new ≡ slice_set passes place pass → slice_get inboxes place ≡ Some inbox → IsOf inbox pass → now place (view pass) → ((other : ℕ) (seen : View) → (other ≡ place → ⊥) → knows other seen → now other seen)
    → PassesAre inboxes now new
passes_set inboxes knows now passes new place inbox pass are is there own knowing stays = record {
  len = ap (λ (ps : List (Pass SharedClause View)). length ps) is ∙ length-set passes place pass ∙ are.len;
  each = λ other one seen got_inbox got_pass. at other one seen got_inbox (ap (λ (ps : List (Pass SharedClause View)). slice_get ps other) (sym is) ∙ got_pass) (cases_eq other place);
}
  where
    at : (other : ℕ) (one : Inbox) (seen : Pass SharedClause View) → slice_get inboxes other ≡ Some one → slice_get (slice_set passes place pass) other ≡ Some seen → (other ≡ place) ⊎ (other ≡ place → ⊥)
        → IsOf one seen × now other (view seen)
    at other one seen got_inbox got_pass (inl same) =
        let within : place < length passes = omega (arith, slice_get_within inboxes place inbox there, are.len) in
        let inbox_is : inbox ≡ one = same_Some inbox one (sym there ∙ ap (λ (n : ℕ). slice_get inboxes n) (sym same) ∙ got_inbox) in
        let pass_is : pass ≡ seen = same_Some pass seen (sym (got_set passes place pass within) ∙ ap (λ (n : ℕ). slice_get (slice_set passes place pass) n) (sym same) ∙ got_pass) in (
          subst (λ (b : Inbox). IsOf b seen) inbox_is (subst (λ (p : Pass SharedClause View). IsOf inbox p) pass_is own),
          subst (λ (n : ℕ). now n (view seen)) (sym same) (subst (λ (p : Pass SharedClause View). now place (view p)) pass_is knowing),
        )
    at other one seen got_inbox got_pass (inr apart) =
        let old = are.each other one seen got_inbox (sym (got_other passes place other pass apart) ∙ got_pass) in (old.0, stays other (view seen) apart old.1)

-- the passes know what follows from what they know
pub passes_know : (inboxes : List Inbox) (knows now : ℕ → View → Type 0) (passes : List (Pass SharedClause View)) → PassesAre inboxes knows passes
    → ((place : ℕ) (seen : View) → place < length inboxes → knows place seen → now place seen) → PassesAre inboxes now passes
passes_know inboxes knows now passes are weaker = record {
  len = are.len;
  each = λ place inbox pass got_inbox got_pass. let old = are.each place inbox pass got_inbox got_pass in (old.0, weaker place (view pass) (slice_get_within inboxes place inbox got_inbox) old.1);
}

-- a sender's pass that pushed one more
pub knows_pushed : (problem : Problem) (count own taker : ℕ) (sent all : List (List Lit)) (seen : View) (shared : SharedClause) → Knows problem count own taker sent seen → (taker ≡ own → ⊥)
    → all ≡ sent ++ shared.clause ∷ [] → shared.sender ≡ own + 1 → Knows problem count own taker all (pushed_one seen shared)
knows_pushed problem count own taker sent all seen shared knows apart more sender = record {
  base = knows.base;
  senders = knows.senders;
  taking = λ same. absurd (apart same);
  sending = λ other. record {
    numbers = (knows.sending other).numbers;
    takes = (knows.sending other).takes;
    taken = (knows.sending other).taken;
    pushed = map-append (λ (one : SharedClause). one.clause) seen.pushed (shared ∷ []) ∙ ap (λ (cs : List (List Lit)). cs ++ shared.clause ∷ []) (knows.sending other).pushed ∙ sym more;
    own = All-push (λ (one : SharedClause). one.sender ≡ own + 1) seen.pushed shared (knows.sending other).own sender;
  };
}

-- the taker's pass that took one more
pub knows_taken : (problem : Problem) (count own : ℕ) (sent : List (List Lit)) (seen : View) (shared : SharedClause) → Knows problem count own own sent seen → Knows problem count own own sent (took_one seen shared)
knows_taken problem count own sent seen shared knows = record {
  base = knows.base;
  senders = knows.senders;
  taking = λ same. record { numbers = (knows.taking same).numbers; takes = (knows.taking same).takes; pushed = (knows.taking same).pushed };
  sending = λ apart. absurd (apart refl);
}

-- the taker's pass knows no more of what was sent
pub knows_same : (problem : Problem) (count own taker : ℕ) (sent all : List (List Lit)) (seen : View) → Knows problem count own taker sent seen → taker ≡ own → Knows problem count own taker all seen
knows_same problem count own taker sent all seen knows same = record {
  base = knows.base;
  senders = knows.senders;
  taking = knows.taking;
  sending = λ apart. absurd (apart same);
}
