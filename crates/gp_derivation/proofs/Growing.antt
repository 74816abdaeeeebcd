-- Entries that pass still pass when a log grows.
use Rattle.std.proofs.Common.{◌≡◌, ℕ, ◌+◌, ◌<◌, ◌≤◌, Some, List, [], ◌∷◌, ◌++◌, length, map, All, Contains, ◌⊎◌, inl, inr, sym, ◌∙◌, subst, ap, append_assoc, arith}
use Rattle.std.specs.List.{slice_get}
use Rattle.std.proofs.lemmas.Bool.{cases_lt}
use Rattle.std.proofs.lemmas.List.{map-append, length-append}
use Rattle.std.proofs.lemmas.List.Elements.{All-contains_itself}
use Rattle.std.proofs.lemmas.Option.{same_Some, slice_get_within}
use Rattle.gp_clause.specs.declared.kind.Kind.{Kind}
use Rattle.gp_clause.specs.declared.lit.Lit.{Lit}
use Rattle.gp_clause.specs.declared.problem.Problem.{Problem}
use Rattle.gp_certificate.specs.declared.step.Step.{Step}
use Rattle.gp_derivation.specs.declared.log.LogEntry.{LogEntry}
use Rattle.gp_derivation.specs.declared.log.Origin.{Origin}
use Rattle.gp_derivation.specs.declared.log.Origin.TheVariants.{Learned, Taken}
use Rattle.gp_derivation.specs.Log.{logged, IsUsable, OriginPasses, EntryPasses, LogPasses, LogGrows}
use Rattle.gp_certificate.specs.Step.{named}
use Rattle.gp_base.specs.ListLaws.{got_front, slice_get_front, slice_get_back}
use Rattle.gp_certificate.specs.NamedLaws.{named_all, named_contains}
use Rattle.gp_certificate.specs.PassingLaws.{more_pass}
use Rattle.gp_derivation.proofs.Purity.{some_pass}
use Rattle.gp_derivation.specs.GrowthLaws.{pure_longer}

-- what hints named they name still
named_longer : (problem : Problem) (log more : List LogEntry) (hints : List ℕ) → All (Contains (named (logged problem (log ++ more)) hints)) (named (logged problem log) hints)
named_longer problem log more hints =
    named_all (Contains (named (logged problem (log ++ more)) hints)) (logged problem log) hints (λ hint clause is got. named_contains (logged problem (log ++ more)) hints hint clause is (at hint clause got))
  where
    longer : logged problem log ++ map (λ (entry : LogEntry). entry.step.clause) more ≡ logged problem (log ++ more)
    longer = append_assoc problem.clauses (map (λ (entry : LogEntry). entry.step.clause) log) (map (λ (entry : LogEntry). entry.step.clause) more) ∙ ap (λ xs. problem.clauses ++ xs) (sym (map-append (λ (entry : LogEntry). entry.step.clause) log more))

    at : (hint : ℕ) (clause : List Lit) → slice_get (logged problem log) hint ≡ Some clause → slice_get (logged problem (log ++ more)) hint ≡ Some clause
    at hint clause got = ap (λ xs. slice_get xs hint) (sym longer) ∙ got_front (logged problem log) (map (λ (entry : LogEntry). entry.step.clause) more) hint clause got

pub origin_longer : (problem : Problem) (own : List Kind) (log more : List LogEntry) (began place : ℕ) (step : Step) (origin : Origin) → OriginPasses problem own log began place step origin → OriginPasses problem own (log ++ more) began place step origin
origin_longer problem own log more began place step Learned passes = record {
  hints = passes.hints;
  usable = λ other by. at other (passes.usable other by);
  passes = more_pass problem.edges (problem.kinds ++ own) (named (logged problem log) step.hints) (named (logged problem (log ++ more)) step.hints) step.clause step.clause
      (named_longer problem log more step.hints) (All-contains_itself step.clause) passes.passes.in_range passes.passes;
}
  where
    at : (other : ℕ) → IsUsable problem log began place other → IsUsable problem (log ++ more) began place other
    at other (inl pure) = inl (pure_longer problem log more other pure)
    at other (inr later) = inr later
origin_longer problem own log more began place step (Taken sender certificate) passes = passes

-- an entry of a longer log is one of the log, or the one that was added
entry_cases : (log : List LogEntry) (added : LogEntry) (place : ℕ) (entry : LogEntry) → slice_get (log ++ added ∷ []) place ≡ Some entry → (slice_get log place ≡ Some entry) ⊎ ((place ≡ length log) × (added ≡ entry))
entry_cases log added place entry got = at (cases_lt place (length log))
  where
    at : (place < length log) ⊎ (length log ≤ place) → (slice_get log place ≡ Some entry) ⊎ ((place ≡ length log) × (added ≡ entry))
    at (inl less) = inl (sym (slice_get_front log (added ∷ []) place less) ∙ got)
    at (inr least) =
        let within : place < length (log ++ added ∷ []) = slice_get_within (log ++ added ∷ []) place entry got in
        let it : place ≡ length log + 0 = omega (arith, length-append log (added ∷ [])) in
        let first : slice_get (log ++ added ∷ []) place ≡ Some added = ap (λ k. slice_get (log ++ added ∷ []) k) it ∙ slice_get_back log (added ∷ []) 0 in
        inr (omega arith, same_Some added entry (sym first ∙ got))

pushed : (problem : Problem) (locals : List Kind) (log : List LogEntry) (begins : ℕ) (added : LogEntry) → begins ≤ length log → LogPasses problem locals log begins
    → EntryPasses problem locals log begins (length log) added → LogPasses problem locals (log ++ added ∷ []) begins
pushed problem locals log begins added within passes new = record {
  earlier = λ place entry got before. early place entry before (entry_cases log added place entry got);
  current = λ place entry got after. now place entry after (entry_cases log added place entry got);
}
  where
    early : (place : ℕ) (entry : LogEntry) → place < begins → (slice_get log place ≡ Some entry) ⊎ ((place ≡ length log) × (added ≡ entry))
        → (own : List Kind) × (began : ℕ) × EntryPasses problem own (log ++ added ∷ []) began place entry
    early place entry before (inl got) =
        let some = passes.earlier place entry got before in
        (some.0, some.1, origin_longer problem some.0 log (added ∷ []) some.1 place entry.step entry.origin some.2)
    early place entry before (inr (it, same)) = absurd (omega arith)

    now : (place : ℕ) (entry : LogEntry) → begins ≤ place → (slice_get log place ≡ Some entry) ⊎ ((place ≡ length log) × (added ≡ entry)) → EntryPasses problem locals (log ++ added ∷ []) begins place entry
    now place entry after (inl got) = origin_longer problem locals log (added ∷ []) begins place entry.step entry.origin (passes.current place entry got after)
    now place entry after (inr (it, same)) =
        let P : ℕ → Type 0 = λ k. EntryPasses problem locals (log ++ added ∷ []) begins k added in
        let Q : LogEntry → Type 0 = λ e. EntryPasses problem locals (log ++ added ∷ []) begins place e in
        subst Q same (subst P (sym it) (origin_longer problem locals log (added ∷ []) begins (length log) added.step added.origin new))

next_turn : (problem : Problem) (locals next : List Kind) (log : List LogEntry) (begins : ℕ) → LogPasses problem locals log begins → LogPasses problem next log (length log)
next_turn problem locals next log begins passes = record {
  earlier = λ place entry got before. some_pass problem locals log begins passes place entry got;
  current = λ place entry got after. absurd (let within : place < length log = slice_get_within log place entry got in omega arith);
}

pub growing : LogGrows
growing = record { pushed = pushed; next_turn = next_turn }
