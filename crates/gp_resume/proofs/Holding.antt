-- What is kept holds, and what holds is kept.
use Rattle.std.proofs.Common.{◌≡◌, refl, sym, ap, ◌∙◌, subst, ◌&&◌, Bool, true, false, List, [], Option, Some, None, Result, Ok, Err, cond}
use Rattle.std.specs.Result.{is_ok}
use Rattle.std.proofs.lemmas.Bool.{and_parts, false≢true}
use Rattle.std.proofs.lemmas.Option.{none-some, same_Some}
use Rattle.gp_certificate.specs.declared.step.Step.{Step}
use Rattle.gp_certificate.specs.declared.certificate.Certificate.{Certificate}
use Rattle.gp_certificate.specs.Shared.{RefutesOver, SharedPasses}
use Rattle.gp_clause.specs.declared.problem.Problem.{Problem}
use Rattle.gp_clause.specs.declared.problem.Query.{Query}
use Rattle.gp_constraint.specs.Base.{base_of}
use Rattle.gp_constraint.specs.Query.{query_of}
use Rattle.gp_instance.specs.Matches.{matches_events}
use Rattle.gp_property.specs.PropertyForm.{PropertyForm}
use Rattle.gp_report.specs.ReportForm.{ReportForm}
use Rattle.gp_decided.specs.Refuting.{RefutationsAreDecided, refutes_over, shared_passes}
use Rattle.gp_replay.specs.declared.running.ReplayFault.{ReplayFault}
use Rattle.gp_replay.specs.Feasible.{IsFeasible, ReplayMeansFeasible, end_of}
use Rattle.gp_replay.specs.declared.state.State.{State}
use Rattle.gp_report.specs.Records.{Answer, WindowRecord}
use Rattle.gp_report.specs.declared.record.AnswerOf.TheVariants.{Found, Impossible, Undecided}
use Rattle.gp_window.specs.declared.schedule.EventId.{EventId}
use Rattle.gp_window.specs.WindowForm.{WindowForm}
use Rattle.gp_resume.specs.Kept.{AllIsKept, KeptHolds, kept_answer, shared_kept, where_passes}
use Rattle.gp_resume.specs.Old.{old_answer, old_record, shared_in}
use Rattle.gp_resume.specs.Standing.{is_feasible, stands}

-- what passes is there and passes
where_some : (test : Answer → Bool) (o : Option Answer) (answer : Answer) → where_passes test o ≡ Some answer → test answer ≡ true
where_some test None answer is = absurd (none-some answer is)
where_some test (Some other) answer is = at (test other) refl is
  where
    at : (b : Bool) → test other ≡ b → cond b (Some other) None ≡ Some answer → test answer ≡ true
    at true e same = subst (λ (a : Answer). test a ≡ true) (same_Some other answer same) e
    at false e same = absurd (none-some answer same)

where_keeps : (test : Answer → Bool) (o : Option Answer) (answer : Answer) → o ≡ Some answer → test answer ≡ true → where_passes test o ≡ Some answer
where_keeps test o answer is passes = ap (where_passes test) is ∙ ap (λ b. cond b (Some answer) None) passes

module _ (decided : RefutationsAreDecided) where
  kept_passes : (told : Option WindowRecord) (window : WindowForm) → SharedPasses (base_of window) (shared_kept told window)
  kept_passes told window = at (shared_passes (base_of window) (shared_in told)) refl
    where
      at : (b : Bool) → shared_passes (base_of window) (shared_in told) ≡ b → SharedPasses (base_of window) (cond b (shared_in told) [])
      at true e = (decided.shared (base_of window) (shared_in told)).0 e
      at false e = tt

  -- a list that passes is kept
  passing_kept : (told : Option WindowRecord) (window : WindowForm) → SharedPasses (base_of window) (shared_in told) → shared_kept told window ≡ shared_in told
  passing_kept told window passes = ap (λ b. cond b (shared_in told) []) ((decided.shared (base_of window) (shared_in told)).1 passes)

  kept_refutes : (told : Option WindowRecord) (window : WindowForm) (query : Query) (certificate : Certificate) → refutes_over (base_of window) (shared_in told) query certificate ≡ true
      → RefutesOver (base_of window) (shared_kept told window) query certificate
  kept_refutes told window query certificate is =
      let refutes : RefutesOver (base_of window) (shared_in told) query certificate = (decided.refutes (base_of window) (shared_in told) query certificate).0 is in
      subst (λ (shared : List Step). RefutesOver (base_of window) shared query certificate) (sym (passing_kept told window refutes.checks.shares)) refutes

  -- nothing is refuted over a list that does not pass
  pub not_refuted : (problem : Problem) (shared : List Step) (query : Query) (certificate : Certificate) → shared_passes problem shared ≡ false → false ≡ refutes_over problem shared query certificate
  not_refuted problem shared query certificate fails = at (refutes_over problem shared query certificate) refl
    where
      at : (b : Bool) → refutes_over problem shared query certificate ≡ b → false ≡ b
      at false e = refl
      at true e = absurd (false≢true (sym fails ∙ (decided.shared problem shared).1 ((decided.refutes problem shared query certificate).0 e).checks.shares))

module _ (replay : ReplayMeansFeasible) where
  feasible : (window : WindowForm) (ids : List EventId) → is_feasible window ids ≡ true → IsFeasible window ids
  feasible window ids is = at (end_of window ids) refl is
    where
      at : (ends : Result State ReplayFault) → end_of window ids ≡ ends → is_ok ends ≡ true → IsFeasible window ids
      at (Ok last) e ok = (last, (replay.ends window ids last).0 e)
      at (Err fault) e ok = absurd (false≢true ok)

  replays : (window : WindowForm) (ids : List EventId) → IsFeasible window ids → is_feasible window ids ≡ true
  replays window ids (last, runs) = ap is_ok ((replay.ends window ids last).1 runs)

module _ (old : ReportForm) (window : WindowForm) (property : PropertyForm) (ids : List EventId) where
  abbrev told : Option WindowRecord
  told = old_record old window.number

  -- an answer that is kept stands
  kept_stands : (answer : Answer) → kept_answer old window property ids ≡ Some answer → stands (shared_in (old_record old window.number)) window property ids answer ≡ true
  kept_stands answer is = where_some (stands (shared_in told) window property ids) (old_answer told property.name ids) answer is

pub what_is_kept_holds : RefutationsAreDecided → ReplayMeansFeasible → KeptHolds
what_is_kept_holds decided replay = record {
  shared = λ old window. kept_passes decided (old_record old window.number) window;
  found = λ old window property ids schedule is.
      let parts = and_parts (is_feasible window schedule.events) (matches_events property ids schedule.events) (kept_stands old window property ids (Found schedule) is) in
      (feasible replay window schedule.events parts.0, parts.1);
  impossible = λ old window property ids certificate is.
      kept_refutes decided (old_record old window.number) window (query_of window property ids) certificate (kept_stands old window property ids (Impossible certificate) is);
  decided = λ old window property ids worker from to is. false≢true (kept_stands old window property ids (Undecided worker from to) is);
}

both : (a b : Bool) → a ≡ true → b ≡ true → (a && b) ≡ true
both true b p q = q
both false b p q = p

pub what_holds_is_kept : RefutationsAreDecided → ReplayMeansFeasible → AllIsKept
what_holds_is_kept decided replay = record {
  shared = λ old window passes. passing_kept decided (old_record old window.number) window passes;
  found = λ old window property ids schedule is can matches. where_keeps _ _ (Found schedule) is (both _ _ (replays replay window schedule.events can) matches);
  impossible = λ old window property ids certificate is refutes. where_keeps _ _ (Impossible certificate) is ((decided.refutes _ _ _ certificate).1 refutes);
}
