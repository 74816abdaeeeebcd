-- The inboxes of a post, one renewed after another.
use Rattle.std.proofs.Common.{◌≡◌, refl, sym, ◌∙◌, ap, subst, ℕ, ◌+◌, ◌<◌, Some, List, [], ◌∷◌, ◌++◌, length, take, get_or, arith}
use Rattle.std.specs.Global.{Vec}
use Rattle.std.specs.List.{slice_get}
use Rattle.std.proofs.lemmas.List.{length-take-le, take_more}
use Rattle.std.proofs.lemmas.Option.{slice_get_within}
use Rattle.crossbeam_queue.specs.Passes.{Pass, view}
use Rattle.gp_clause.specs.declared.problem.Problem.{Problem}
use Rattle.gp_derivation.specs.declared.exchange.SharedClause.{SharedClause}
use Rattle.gp_inbox.specs.declared.inbox.Inbox.{Inbox}
use Rattle.gp_inbox.specs.declared.rule.View.{View}
use Rattle.gp_inbox.specs.Passes.{IsOf}
use Rattle.gp_workers.specs.declared.post.Post.{Post}
use Rattle.gp_workers.specs.Desk.{PassesAre}
use Rattle.gp_workers.specs.Inboxes.{AreColumns, IsDealt}
use Rattle.gp_workers.specs.Post.{IsPost, IsWholeOf}
use Rattle.gp_workers.specs.SharedCrew.{IsRow}
use Rattle.gp_workers.proofs.DeskPasses.{got_at}
use Rattle.gp_workers.proofs.InboxColumns.{column_more, next_column}

-- a post without an inbox
pub no_inbox : (count : ℕ) (post : Post) → post.inboxes.items ≡ [] → post.passes.items ≡ [] → IsPost count post
no_inbox count post no_inboxes no_passes = record {
  all = λ some. absurd (omega (arith, some, ap (λ (boxes : List Inbox). length boxes) no_inboxes));
  each = subst (λ (p : List Inbox × List (Pass SharedClause View)). PassesAre p.0 (IsWholeOf count) p.1) (λ i. (sym no_inboxes i, sym no_passes i)) none;
}
  where
    none : PassesAre [] (IsWholeOf count) []
    none = record { len = refl; each = λ place inbox pass got_inbox got_pass. absurd (omega (arith, slice_get_within [] place inbox got_inbox)) }

-- a post with the inboxes of a window
pub some_inboxes : (count : ℕ) (opened : List Inbox) (post : Post) → opened ≡ post.inboxes.items → length post.inboxes.items ≡ count → PassesAre opened (IsWholeOf (length opened)) post.passes.items → IsPost count post
some_inboxes count opened post is counted whole = record {
  all = λ some. counted;
  each = subst (λ (p : List Inbox × ℕ). PassesAre p.0 (IsWholeOf p.1) post.passes.items) (λ i. (is i, (ap (λ (boxes : List Inbox). length boxes) is ∙ counted) i)) whole;
}

-- the next inbox of a post, and its pass
module _ (problem : Problem) (count taker : ℕ) (inboxes : List Inbox) (all left rest : List (Pass SharedClause View)) (inbox : Inbox) (pass : Pass SharedClause View) (within : taker < count) (counted : length inboxes ≡ count)
    (whole : PassesAre inboxes (IsWholeOf count) all) (same : (n : ℕ) → slice_get left n ≡ slice_get all (taker + n)) (is : left ≡ pass ∷ rest) (is_inbox : inbox ≡ get_or inboxes taker inbox) where
  next : (slice_get all taker ≡ Some pass) × ((after place : ℕ) → after ≡ taker + 1 → slice_get rest place ≡ slice_get all (after + place))
  next = next_column all left rest taker pass is same

  pub next_whole : IsOf inbox pass × IsWholeOf count taker (view pass)
  next_whole = whole.each taker inbox pass (got_at inboxes taker inbox (omega (arith, within, counted)) is_inbox) next.0

  -- it is renewed
  pub renewed_more : (columns new : List (Vec (Pass SharedClause View))) (row : List (Pass SharedClause View)) → AreColumns problem count (take taker inboxes) columns → IsRow problem count taker inbox row → length new ≡ length columns
      → ((place : ℕ) (column : Vec (Pass SharedClause View)) → slice_get new place ≡ Some column → IsDealt columns row place column)
      → AreColumns problem count (take (taker + 1) inboxes) new × ((place : ℕ) → slice_get rest place ≡ slice_get all (taker + 1 + place))
  renewed_more columns new row are is_row len dealt = (
    column_more problem count taker (take taker inboxes) (take (taker + 1) inboxes) columns new inbox row are (length-take-le taker inboxes (omega (arith, within, counted))) is_row len
        (take_more inboxes taker inbox (omega (arith, within, counted)) ∙ ap (λ (one : Inbox). take taker inboxes ++ one ∷ []) (sym is_inbox)) dealt,
    λ place. next.1 (taker + 1) place refl,
  )
