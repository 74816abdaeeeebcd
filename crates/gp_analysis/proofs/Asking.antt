-- How far the asks of a subject are listed.
use Rattle.std.proofs.Common.{◌≡◌, ◌∙◌, sym, subst, ap, List, [], ◌∷◌, ◌++◌, map, append-nil}
use Rattle.std.specs.List.{AllByRecursion}
use Rattle.gp_clause.specs.declared.problem.Query.{Query}
use Rattle.gp_instance.specs.declared.instance.Instance.{Instance}
use Rattle.gp_window.specs.declared.schedule.EventId.{EventId}
use Rattle.gp_window.specs.WindowForm.{WindowForm}
use Rattle.gp_analysis.specs.declared.listing.Asked.{Asked}
use Rattle.gp_analysis.specs.Listed.{asked_of, queries_each, query_for}
use Rattle.gp_analysis.specs.Question.{QuestionForm}
use Rattle.gp_analysis.proofs.Lists.{moved, moved_all}

module _ {Subject Shown : Type 0} (question : QuestionForm Subject Shown) (lists : WindowForm → Subject → List EventId → Type 0) (window : WindowForm) (subject : Subject) where
  -- some asks are listed, and with those that are left they are all
  pub record IsListing (asks left : List Instance) (asked : List (Asked Shown)) (before queries : List Query) : Type 0 where
    pub asked_is : asked ++ map (asked_of question window subject) left ≡ map (asked_of question window subject) asks
    pub queries_is : queries ++ queries_each question window subject left ≡ before ++ queries_each question window subject asks
    pub listed : AllByRecursion (λ (ask : Instance). lists window subject ask.events) left

  -- then one more is
  pub next_listed : (asks : List Instance) (ask : Instance) (left old : List Instance) (asked more : List (Asked Shown)) (before queries others : List Query) (one : Asked Shown) → old ≡ ask ∷ left
      → IsListing asks old asked before queries → one ≡ asked_of question window subject ask → more ≡ asked ++ one ∷ []
      → others ≡ queries ++ query_for question window subject ask (question.given window subject ask.events) → IsListing asks left more before others
  next_listed asks ask left old asked more before queries others one is h one_is more_is others_is =
      let at : IsListing asks (ask ∷ left) asked before queries = subst (λ xs. IsListing asks xs asked before queries) is h in
      record {
        asked_is = subst (λ xs. xs ++ map (asked_of question window subject) left ≡ map (asked_of question window subject) asks) (sym (more_is ∙ ap (λ x. asked ++ x ∷ []) one_is))
            (moved asked (asked_of question window subject ask) (map (asked_of question window subject) left) (map (asked_of question window subject) asks) at.asked_is);
        queries_is = subst (λ xs. xs ++ queries_each question window subject left ≡ before ++ queries_each question window subject asks) (sym others_is)
            (moved_all queries (query_for question window subject ask (question.given window subject ask.events)) (queries_each question window subject left)
            (before ++ queries_each question window subject asks) at.queries_is);
        listed = at.listed.1;
      }

  -- which is an ask
  pub next_lists : (asks : List Instance) (ask : Instance) (left old : List Instance) (asked : List (Asked Shown)) (before queries : List Query) → old ≡ ask ∷ left
      → IsListing asks old asked before queries → lists window subject ask.events
  next_lists asks ask left old asked before queries is h =
      let at : IsListing asks (ask ∷ left) asked before queries = subst (λ xs. IsListing asks xs asked before queries) is h in at.listed.0

  -- until all are
  pub all_listed : (asks old : List Instance) (asked : List (Asked Shown)) (before queries : List Query) → old ≡ [] → IsListing asks old asked before queries
      → (asked ≡ map (asked_of question window subject) asks) × (queries ≡ before ++ queries_each question window subject asks)
  all_listed asks old asked before queries is h =
      let at : IsListing asks [] asked before queries = subst (λ xs. IsListing asks xs asked before queries) is h in
      (sym (append-nil asked) ∙ at.asked_is, sym (append-nil queries) ∙ at.queries_is)
