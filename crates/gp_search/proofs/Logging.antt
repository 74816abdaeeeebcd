-- What a learned step is, and what a turn keeps true when it is logged.
use Rattle.std.proofs.Common.{◌≡◌, refl, sym, ◌∙◌, ap, subst, ℕ, ◌+◌, ◌*◌, ◌<◌, ◌≤◌, ◌^◌, Bool, true, false, Option, Some, None, List, [], ◌∷◌, ◌++◌, length, get_or, map, Contains, ◌⊎◌, inl, inr, append_assoc, arith}
use Rattle.std.specs.List.{slice_get}
use Rattle.std.specs.Prelude.{◌↔◌}
use Rattle.std.proofs.lemmas.Bool.{cases_lt}
use Rattle.std.specs.Arc.{arc_value}
use Rattle.std.proofs.lemmas.Option.{same_Some, slice_get-get_or, slice_get_within}
use Rattle.std.proofs.lemmas.List.{map-append, length-append, length_push, get_or_append_left, get_or_push, get_or_past}
use Rattle.std.proofs.lemmas.List.Elements.{All-contains, All-push, All-weaker, Contains-push}
use Rattle.gp_clause.specs.declared.kind.Kind.{Kind}
use Rattle.gp_clause.specs.declared.lit.Lit.{Lit}
use Rattle.gp_clause.specs.declared.problem.Problem.{Problem}
use Rattle.gp_clause.specs.declared.problem.Query.{Query}
use Rattle.gp_clause.specs.Clause.{NamesBelow, IsRising}
use Rattle.gp_derivation.specs.declared.exchange.SharedClause.{SharedClause}
use Rattle.gp_derivation.specs.declared.log.LogEntry.{LogEntry}
use Rattle.gp_certificate.specs.declared.step.Step.{Step}
use Rattle.gp_certificate.specs.Certificate.{clauses_of}
use Rattle.gp_derivation.specs.Exchange.{IsGood}
use Rattle.gp_derivation.specs.Log.{IsLearned, IsPure, LogGrows, LogPasses, LearnedPasses}
use Rattle.gp_derivation.specs.Log.IsPure.{taken, learned}
use Rattle.gp_base.specs.ListLaws.{contains_map, got_front}
use Rattle.gp_derivation.specs.Numbering.{size_of}
use Rattle.gp_derivation.specs.Tester.{TesterForm}
use Rattle.gp_difference.specs.Graph.{GraphForm}
use Rattle.gp_sat.specs.declared.assigned.Assigned.{Assigned}
use Rattle.gp_sat.specs.Stored.{Stored}
use Rattle.gp_sat.specs.State.{SolverForm, assigned, clause_at, no_clause, IsAttached, with_clause}
use Rattle.gp_sat.specs.Standing.{IsFalse, Each}
use Rattle.gp_sat.specs.Sound.{IsSound}
use Rattle.gp_sat.specs.Changes.{Backjumps, MayAttach}
use Rattle.gp_sat.specs.Learning.{HasOnePresent, IsHighestBelow, IsBelowLevel}
use Rattle.gp_sat.specs.SolverLaws.{attached_within}
use Rattle.gp_search.specs.declared.engine.Engine.{Engine}
use Rattle.gp_search.specs.declared.engine.Level.{Level}
use Rattle.gp_search.specs.Inside.{all_kinds, IsPlain, IsMarked, IsStored, IsKeeping, IsPassing, IsTurning, IsReasoned, IsAsserted, IsAssuming, IsGraphOf, IsLevelled, IsTaking, IsTaught, IsTesterOf, most_steps, turn_from, no_level}
use Rattle.gp_search.specs.Mail.{taken_entry}
use Rattle.gp_search.specs.Moves.{IsLesson, RestsOnMarked}
use Rattle.gp_search.proofs.LearnedSteps.{clauses_counted}
use Rattle.gp_search.proofs.Purity.{pure_rests, pure_shorter, pure_within}
use Rattle.gp_search.proofs.Taught.{entry_of, last_got, old_or_last, taught_more, taught_none}
use Rattle.gp_search.proofs.Levels.{back_was, back_stays, begun_same}
use Rattle.gp_derivation.specs.GrowthLaws.{pure_longer}

-- a literal of the level that was left is unassigned
left_free : (old new : SolverForm) (level v : ℕ) (a : Assigned) → Backjumps old new level → assigned old v ≡ Some a → level < a.level → assigned new v ≡ None
left_free old new level v a back is above = at (assigned new v) refl
  where
    at : (o : Option Assigned) → assigned new v ≡ o → o ≡ None
    at None none = refl
    at (Some b) some =
        let was = back_was old new level back v b some in
        let same : b ≡ a = let one : Some b ≡ Some a = sym was.0 ∙ is in same_Some b a one in
        absurd (omega (arith, was.1, above, ap (λ (x : Assigned). x.level) same))

-- the clause of a learned step asserts its literal of the level that was left
pub may_attach : (old new : SolverForm) (clause : List Lit) (level : ℕ) → Backjumps old new level → Each (IsFalse (assigned old)) clause → HasOnePresent old clause → IsHighestBelow old clause level → level < old.level
    → MayAttach new clause
may_attach old new clause level back all_false point highest below = elim highest.reached [
  | inl bottom ↦ inl (back.reached ∙ bottom)
  | inr one ↦ inr (record {
    lit = point.lit;
    within = point.within;
    unassigned = left_free old new level point.lit.variable point.present.0 back point.present.1 (omega (arith, point.present.2, below));
    others = λ other is apart.
        let low : IsBelowLevel old old.level other = point.others other is apart in
        let fell = all_false other is in
        let same : fell.0 ≡ low.0 = let both : Some fell.0 ≡ Some low.0 = sym fell.1 ∙ low.1 in same_Some fell.0 low.0 both in
        (low.0, back_stays old new level back other.variable low.0 low.1 (highest.highest other low.0 is low.1 low.2), sym (ap (λ (x : Assigned). x.positive) same) ∙ fell.2);
    present = (one.0, one.1, (one.2.0, back_stays old new level back one.0.variable one.2.0 one.2.1 (omega (arith, one.2.2)), one.2.2 ∙ sym back.reached));
  })
]

-- the level of a learned step is below the one at which it was learned
pub lesson_below : (s : SolverForm) (clause : List Lit) (level : ℕ) → 0 < s.level → IsHighestBelow s clause level → level < s.level
lesson_below s clause level above highest = elim highest.reached [
  | inl bottom ↦ omega (arith, bottom, above)
  | inr one ↦ one.3
]

plain_longer : (problem : Problem) (log : List LogEntry) (entry : LogEntry) (place : ℕ) → place < length log → IsPlain problem log place → IsPlain problem (log ++ entry ∷ []) place
plain_longer problem log entry place within plain = record {
  pure = pure_longer problem log (entry ∷ []) place plain.pure;
  below = λ own got.
      let first : LogEntry = get_or log place entry in
      let here : slice_get log place ≡ Some first = slice_get-get_or log place entry within in
      let same : first ≡ own = let both : Some first ≡ Some own = sym (got_front log (entry ∷ []) place first here) ∙ got in same_Some first own both in
      let P : LogEntry → Type 0 = λ e. NamesBelow (length problem.kinds) e.step.clause in
      subst P same (plain.below first here);
}

-- the last entry of a log is plain where it is pure and names problem variables alone
pub last_plain : (problem : Problem) (log : List LogEntry) (entry : LogEntry) → IsPure problem (log ++ entry ∷ []) (length log) → NamesBelow (length problem.kinds) entry.step.clause
    → IsPlain problem (log ++ entry ∷ []) (length log)
last_plain problem log entry pure below = record {
  pure = pure;
  below = λ own found.
      let got : slice_get (log ++ entry ∷ []) (length log) ≡ Some entry = last_got log entry (length log) refl in
      let equal : entry ≡ own = let both : Some entry ≡ Some own = sym got ∙ found in same_Some entry own both in
      let P : LogEntry → Type 0 = λ e. NamesBelow (length problem.kinds) e.step.clause in
      subst P equal below;
}

-- a learned entry that rests on marked ones is plain
rests_plain : (problem : Problem) (log : List LogEntry) (marks : List Bool) (step : Step) → IsMarked problem log marks → RestsOnMarked problem marks step → IsPlain problem (log ++ entry_of step ∷ []) (length log)
rests_plain problem log marks step old one =
    last_plain problem log (entry_of step)
    (learned (length log) (entry_of step) (last_got log (entry_of step) (length log) refl) one.below (λ other by. pure_longer problem log (entry_of step ∷ []) other (old.plain other (one.marked other by)).pure)) one.below

-- the marks after one more
marked_more : (problem : Problem) (locals : List Kind) (log : List LogEntry) (begins : ℕ) (marks : List Bool) (entry : LogEntry) (mark : Bool) → LogPasses problem locals log begins → IsMarked problem log marks
    → (mark ≡ true → IsPlain problem (log ++ entry ∷ []) (length log)) → (IsPure problem (log ++ entry ∷ []) (length log) → mark ≡ true) → IsMarked problem (log ++ entry ∷ []) (marks ++ mark ∷ [])
marked_more problem locals log begins marks entry mark passes old plain pure = record {
  size = omega (arith, old.size, length_push marks mark, length_push log entry);
  plain = λ place is. at place is (cases_lt place (length marks));
  pure = λ place is. elim (cases_lt place (length marks)) [
    | inl before ↦
        get_or_append_left marks (mark ∷ []) false place before ∙ old.pure place (pure_shorter problem locals log (entry ∷ []) begins place passes (omega (arith, before, old.size)) is)
    | inr after ↦
        let within : place < length (log ++ entry ∷ []) = pure_within problem (log ++ entry ∷ []) place is in
        let at_end : length marks ≡ place = omega (arith, after, within, old.size, length_push log entry) in
        let last : place ≡ length log = omega (arith, at_end, old.size) in
        get_or_push marks mark false place at_end ∙ pure (subst (λ (n : ℕ). IsPure problem (log ++ entry ∷ []) n) last is)
  ];
}
  where
    at : (place : ℕ) → get_or (marks ++ mark ∷ []) place false ≡ true → (place < length marks) ⊎ (length marks ≤ place) → IsPlain problem (log ++ entry ∷ []) place
    at place is (inl before) =
        plain_longer problem log entry place (omega (arith, before, old.size)) (old.plain place (sym (get_or_append_left marks (mark ∷ []) false place before) ∙ is))
    at place is (inr after) = elim (cases_lt (length marks) place) [
      | inl past ↦ absurd (let none : get_or (marks ++ mark ∷ []) place false ≡ false = get_or_past (marks ++ mark ∷ []) place false (omega (arith, past, length_push marks mark)) in let clash : ⊥ = cc in clash)
      | inr same ↦
          let at_end : length marks ≡ place = omega (arith, after, same) in
          let last : length log ≡ place = omega (arith, at_end, old.size) in
          subst (λ (n : ℕ). IsPlain problem (log ++ entry ∷ []) n) last (plain (sym (get_or_push marks mark false place at_end) ∙ is))
    ]

-- a clause of the solver is an old one or the new one
attached_old : (clauses : List Stored) (new : Stored) (number : ℕ) → IsAttached clauses number → IsAttached (clauses ++ new ∷ []) number
attached_old clauses new number is = ap (λ (s : Stored). s.attached) (get_or_append_left clauses (new ∷ []) no_clause number (attached_within clauses number is)) ∙ is

attached_cases : (clauses : List Stored) (new : Stored) (number : ℕ) → IsAttached (clauses ++ new ∷ []) number
    → (IsAttached clauses number × (clause_at (clauses ++ new ∷ []) number ≡ clause_at clauses number)) ⊎ ((number ≡ length clauses) × (clause_at (clauses ++ new ∷ []) number ≡ new.clause))
attached_cases clauses new number is = elim (cases_lt number (length clauses)) [
  | inl before ↦
      let same : get_or (clauses ++ new ∷ []) number no_clause ≡ get_or clauses number no_clause = get_or_append_left clauses (new ∷ []) no_clause number before in
      inl (sym (ap (λ (s : Stored). s.attached) same) ∙ is, ap (λ (s : Stored). s.clause) same)
  | inr after ↦
      let within : number < length (clauses ++ new ∷ []) = attached_within (clauses ++ new ∷ []) number is in
      let at_end : length clauses ≡ number = omega (arith, after, within, length_push clauses new) in
      inr (sym at_end, ap (λ (s : Stored). s.clause) (get_or_push clauses new no_clause number at_end))
]

-- what stays attached stays so with one entry more
keeping_more : (bases begins : ℕ) (log : List LogEntry) (entry : LogEntry) (marks : List Bool) (mark : Bool) (clauses : List Stored) (clause : List Lit) → length marks ≡ length log → length clauses ≡ bases + length log
    → IsKeeping bases begins (length log) marks clauses → IsKeeping bases begins (length (log ++ entry ∷ [])) (marks ++ mark ∷ []) (clauses ++ record { clause = clause; attached = true } ∷ [])
keeping_more bases begins log entry marks mark clauses clause size counted old = record {
  current = λ place low high. elim (cases_lt place (length log)) [
    | inl before ↦ attached_old clauses new (bases + place) (old.current place low before)
    | inr after ↦ last place (omega (arith, after, high, length_push log entry))
  ];
  marked = λ place is. elim (cases_lt place (length marks)) [
    | inl before ↦ attached_old clauses new (bases + place) (old.marked place (sym (get_or_append_left marks (mark ∷ []) false place before) ∙ is))
    | inr after ↦ elim (cases_lt (length marks) place) [
      | inl past ↦ absurd (let none : get_or (marks ++ mark ∷ []) place false ≡ false = get_or_past (marks ++ mark ∷ []) place false (omega (arith, past, length_push marks mark)) in let clash : ⊥ = cc in clash)
      | inr same ↦ last place (omega (arith, after, same, size))
    ]
  ];
}
  where
    new : Stored
    new = record { clause = clause; attached = true }

    last : (place : ℕ) → place ≡ length log → IsAttached (clauses ++ new ∷ []) (bases + place)
    last place at_end = ap (λ (s : Stored). s.attached) (get_or_push clauses new no_clause (bases + place) (omega (arith, counted, at_end)))

stored_more : (problem : Problem) (begins names : ℕ) (log : List LogEntry) (clauses : List Stored) (entry : LogEntry) → begins ≤ length log → NamesBelow names entry.step.clause → IsStored problem begins names log clauses
    → IsStored problem begins names (log ++ entry ∷ []) (clauses ++ record { clause = entry.step.clause; attached = true } ∷ [])
stored_more problem begins names log clauses entry began below old = record {
  lits = map-append (λ (stored : Stored). stored.clause) clauses (new ∷ []) ∙ (ap (λ (xs : List (List Lit)). xs ++ entry.step.clause ∷ []) old.lits
      ∙ (append_assoc problem.clauses (map (λ (e : LogEntry). e.step.clause) log) (entry.step.clause ∷ []) ∙ ap (λ (xs : List (List Lit)). problem.clauses ++ xs) (sym (map-append (λ (e : LogEntry). e.step.clause) log (entry ∷ [])))));
  base = λ number within. attached_old clauses new number (old.base number within);
  named = λ number is. elim (attached_cases clauses new number is) [
    | inl was ↦ subst (λ (c : List Lit). NamesBelow names c) (sym was.1) (old.named number was.0)
    | inr last ↦ subst (λ (c : List Lit). NamesBelow names c) (sym last.1) below
  ];
  usable = λ other is. elim (attached_cases clauses new (length problem.clauses + other) is) [
    | inl was ↦ elim (old.usable other was.0) [
      | inl plain ↦ inl (plain_longer problem log entry other (omega (arith, attached_within clauses (length problem.clauses + other) was.0, clauses_counted problem log clauses old.lits)) plain)
      | inr later ↦ inr later
    ]
    | inr last ↦ inr (omega (arith, last.0, clauses_counted problem log clauses old.lits, began))
  ];
}
  where
    new : Stored
    new = record { clause = entry.step.clause; attached = true }

-- the state of a turn with one more entry
pub record Logs (old new : Engine) (entry : LogEntry) (mark : Bool) : Type 0 where
  pub order : List ℕ
  pub solver : new.solver ≡ record (with_clause old.solver entry.step.clause) { order = order }
  pub graph : new.graph ≡ old.graph
  pub log : new.log.items ≡ old.log.items ++ entry ∷ []
  pub pure : new.pure.items ≡ old.pure.items ++ mark ∷ []
  pub begins : new.begins ≡ old.begins
  pub tester : new.tester ≡ old.tester
  pub asserted : new.asserted ≡ old.asserted
  pub assumed : new.assumed ≡ old.assumed
  pub levels : new.levels.items ≡ old.levels.items
  pub next : new.next ≡ old.next

-- an entry may come to the end of a log with a mark, in a turn that then learns from a place on
pub record MayLog (problem : Problem) (query : Query) (log : List LogEntry) (begins learned : ℕ) (entry : LogEntry) (mark : Bool) : Type 0 where
  pub passing : IsPassing problem query.locals (log ++ entry ∷ []) begins learned
  pub below : NamesBelow (length (all_kinds problem query)) entry.step.clause
  pub plain : mark ≡ true → IsPlain problem (log ++ entry ∷ []) (length log)
  pub pure : IsPure problem (log ++ entry ∷ []) (length log) → mark ≡ true
  pub taught : IsTaught problem query (log ++ entry ∷ []) (turn_from begins learned (length (log ++ entry ∷ [])))
  pub few : length problem.clauses + most_steps (log ++ entry ∷ []) learned + 1 < 2 ^ 32

-- then the turn goes on
pub logged : (problem : Problem) (query : Query) (old new : Engine) (entry : LogEntry) (mark : Bool) → IsTurning problem query old → IsSound new.solver → Logs old new entry mark
    → MayLog problem query old.log.items old.begins new.learned entry mark → IsTurning problem query new
logged problem query old new entry mark turning sound more may =
    let names : ℕ = length (all_kinds problem query) in
    let s : SolverForm = old.solver in
    let t : SolverForm = record (with_clause s entry.step.clause) { order = more.order } in
    let stored : IsStored problem old.begins names (old.log.items ++ entry ∷ []) t.clauses =
    stored_more problem old.begins names old.log.items s.clauses entry (omega (arith, turning.whole.log.began, turning.whole.log.within)) may.below turning.whole.stored in
    let keeping : IsKeeping (length problem.clauses) old.begins (length (old.log.items ++ entry ∷ [])) (old.pure.items ++ mark ∷ []) t.clauses =
    keeping_more (length problem.clauses) old.begins old.log.items entry old.pure.items mark s.clauses entry.step.clause turning.whole.marked.size (clauses_counted problem old.log.items s.clauses turning.whole.stored.lits) turning.whole.keeping in
    let marked : IsMarked problem (old.log.items ++ entry ∷ []) (old.pure.items ++ mark ∷ []) =
    marked_more problem query.locals old.log.items old.begins old.pure.items entry mark turning.whole.log.passes turning.whole.marked may.plain may.pure in
    let solver_at : (P : SolverForm → Type 0) → P t → P new.solver = λ P is. subst P (sym more.solver) is in
    let values : length new.solver.values ≡ length s.values = ap (λ (x : SolverForm). length x.values) more.solver in
    let reasoned : IsReasoned names t = record {
      attached = λ v a number is reason. attached_old s.clauses (record { clause = entry.step.clause; attached = true }) number (turning.reasoned.attached v a number is reason);
      below = λ v a is. turning.reasoned.below v a is;
    } in
    let asserted : IsAsserted (all_kinds problem query) t old.graph old.asserted = record {
      within = turning.asserted.within;
      kept = turning.asserted.kept;
      present = λ place d above within. turning.asserted.present place d above within;
      room = turning.asserted.room;
    } in
    let levels : IsLevelled (all_kinds problem query) query.assumed t old.levels.items old.next = record {
      counted = turning.levels.counted;
      begun = λ below low. begun_same (all_kinds problem query) query.assumed s t below (get_or old.levels.items below no_level) refl refl (turning.levels.begun below low);
      passed = turning.levels.passed;
    } in
    let assuming : IsAssuming query.assumed t old.assumed = record {
      within = turning.assuming.within;
      decided = λ v a is none low. turning.assuming.decided v a is none low;
      all_true = λ above lit among. turning.assuming.all_true above lit among;
    } in
    record {
      whole = record {
        valid = turning.whole.valid;
        asked = turning.whole.asked;
        few = omega (arith, may.few, ap (λ (xs : List LogEntry). length xs) more.log);
        log = subst (λ (n : ℕ). IsPassing problem query.locals new.log.items n new.learned) (sym more.begins)
            (subst (λ (xs : List LogEntry). IsPassing problem query.locals xs old.begins new.learned) (sym more.log) may.passing);
        stored = subst (λ (n : ℕ). IsStored problem n names new.log.items new.solver.clauses) (sym more.begins)
            (subst (λ (xs : List LogEntry). IsStored problem old.begins names xs new.solver.clauses) (sym more.log)
            (solver_at (λ x. IsStored problem old.begins names (old.log.items ++ entry ∷ []) x.clauses) stored));
        keeping = subst (λ (n : ℕ). IsKeeping (length problem.clauses) n (length new.log.items) new.pure.items new.solver.clauses) (sym more.begins)
            (subst (λ (xs : List LogEntry). IsKeeping (length problem.clauses) old.begins (length xs) new.pure.items new.solver.clauses) (sym more.log)
            (subst (λ (bs : List Bool). IsKeeping (length problem.clauses) old.begins (length (old.log.items ++ entry ∷ [])) bs new.solver.clauses) (sym more.pure)
            (solver_at (λ x. IsKeeping (length problem.clauses) old.begins (length (old.log.items ++ entry ∷ [])) (old.pure.items ++ mark ∷ []) x.clauses) keeping)));
        marked = subst (λ (xs : List LogEntry). IsMarked problem xs new.pure.items) (sym more.log) (subst (λ (bs : List Bool). IsMarked problem (old.log.items ++ entry ∷ []) bs) (sym more.pure) marked);
        graph = subst (λ (g : GraphForm). IsGraphOf problem g) (sym more.graph) turning.whole.graph;
        tester = subst (λ (t : TesterForm). IsTesterOf problem t) (sym more.tester) turning.whole.tester;
        variables = omega (arith, values, turning.whole.variables);
      };
      variables = omega (arith, values, turning.variables);
      used = ap (λ (x : SolverForm). x.used) more.solver ∙ turning.used;
      sound = sound;
      reasoned = solver_at (IsReasoned names) reasoned;
      asserted = subst (λ (n : ℕ). IsAsserted (all_kinds problem query) new.solver new.graph n) (sym more.asserted)
          (subst (λ (g : GraphForm). IsAsserted (all_kinds problem query) new.solver g old.asserted) (sym more.graph)
          (solver_at (λ x. IsAsserted (all_kinds problem query) x old.graph old.asserted) asserted));
      assuming = subst (λ (n : ℕ). IsAssuming query.assumed new.solver n) (sym more.assumed) (solver_at (λ x. IsAssuming query.assumed x old.assumed) assuming);
      levels = subst (λ (n : ℕ). IsLevelled (all_kinds problem query) query.assumed new.solver new.levels.items n) (sym more.next)
          (subst (λ (ls : List Level). IsLevelled (all_kinds problem query) query.assumed new.solver ls old.next) (sym more.levels)
          (solver_at (λ x. IsLevelled (all_kinds problem query) query.assumed x old.levels.items old.next) levels));
      kinds = ap (λ (t : TesterForm). t.kinds) more.tester ∙ turning.kinds;
      taught = subst (λ (n : ℕ). IsTaught problem query new.log.items (turn_from n new.learned (length new.log.items))) (sym more.begins)
          (subst (λ (es : List LogEntry). IsTaught problem query es (turn_from old.begins new.learned (length es))) (sym more.log) may.taught);
    }

-- a log that passes, and one learned entry more
passing_more : (problem : Problem) (locals : List Kind) (log : List LogEntry) (begins from : ℕ) (step : Step) → LogGrows → IsPassing problem locals log begins from
    → LearnedPasses problem locals log begins (length log) step → IsPassing problem locals (log ++ entry_of step ∷ []) begins from
passing_more problem locals log begins from step grows old passes = record {
  began = old.began;
  within = omega (arith, old.within, length_push log (entry_of step));
  small = All-push (λ (e : LogEntry). size_of e ≤ 64) log (entry_of step) old.small (omega arith);
  learned = λ place entry got late. elim (old_or_last log (entry_of step) place entry got) [
    | inl before ↦ old.learned place entry before.1 late
    | inr last ↦ subst (λ (e : LogEntry). IsLearned e.origin) last.1 tt
  ];
  passes = grows.pushed problem locals log begins (entry_of step) (omega (arith, old.began, old.within)) old.passes passes;
}

-- a lesson may come to the end of the log
pub may_learn : (problem : Problem) (query : Query) (engine : Engine) (step : Step) (mark : Bool) → LogGrows → IsTurning problem query engine → ((mark ≡ true) ↔ RestsOnMarked problem engine.pure.items step)
    → IsLesson problem query engine.log.items engine.begins step → IsRising step.clause → length problem.clauses + most_steps engine.log.items engine.learned + 2 < 2 ^ 32
    → MayLog problem query engine.log.items engine.begins engine.learned (entry_of step) mark
may_learn problem query engine step mark grows turning rests lesson rising few = record {
  passing = passing_more problem query.locals engine.log.items engine.begins engine.learned step grows turning.whole.log lesson.passes;
  below = lesson.passes.passes.in_range;
  plain = λ is. rests_plain problem engine.log.items engine.pure.items step turning.whole.marked (rests.0 is);
  pure = λ is. rests.1 (pure_rests problem query.locals engine.log.items engine.begins engine.pure.items step turning.whole.log.passes lesson.passes turning.whole.marked is);
  taught = taught_more problem query engine.log.items engine.begins engine.learned step turning.whole.log turning.taught lesson rising;
  few = omega (arith, few, length_push engine.log.items (entry_of step), turning.whole.log.within);
}

-- a log that passes, and one taken entry more
taken_passing : (problem : Problem) (locals : List Kind) (log : List LogEntry) (begins : ℕ) (shared : SharedClause) → LogGrows → IsPassing problem locals log begins (length log) → IsGood problem shared
    → IsPassing problem locals (log ++ taken_entry shared ∷ []) begins (length (log ++ taken_entry shared ∷ []))
taken_passing problem locals log begins shared grows old good = record {
  began = omega (arith, old.began, length_push log (taken_entry shared));
  within = omega arith;
  small = All-push (λ (e : LogEntry). size_of e ≤ 64) log (taken_entry shared) old.small good.small.steps;
  learned = λ place entry got late. absurd (omega (arith, slice_get_within (log ++ taken_entry shared ∷ []) place entry got, late));
  passes = grows.pushed problem locals log begins (taken_entry shared) old.began old.passes (record { bare = refl; proves = good.proves });
}

-- the clause of a good certificate has problem variables alone
pub good_below : (problem : Problem) (shared : SharedClause) → IsGood problem shared → NamesBelow (length problem.kinds) shared.clause
good_below problem shared good =
    let steps : List Step = (arc_value shared.certificate).steps in
    let last : Step = good.proves.ends.0 in
    let front : List Step = good.proves.ends.1.0 in
    let within : Contains steps last = subst (λ (ss : List Step). Contains ss last) (sym good.proves.ends.1.1) (Contains-push front last) in
    let below : NamesBelow (length problem.kinds) last.clause = All-contains (NamesBelow (length problem.kinds)) (clauses_of steps) last.clause good.small.below (contains_map (λ (s : Step). s.clause) steps last within) in
    subst (λ (c : List Lit). NamesBelow (length problem.kinds) c) good.proves.ends.2 below

-- a clause that is good may come to the end of the log with a mark, as long as nothing was learned
pub may_take : (problem : Problem) (query : Query) (engine : Engine) (shared : SharedClause) → LogGrows → IsTaking problem query engine → IsGood problem shared
    → length problem.clauses + 64 * (length engine.log.items + 1) + 1 < 2 ^ 32
    → MayLog problem query engine.log.items engine.begins (length (engine.log.items ++ taken_entry shared ∷ [])) (taken_entry shared) true
may_take problem query engine shared grows taking good few =
    let log : List LogEntry = engine.log.items in
    let entry : LogEntry = taken_entry shared in
    let below : NamesBelow (length problem.kinds) shared.clause = good_below problem shared good in
    record {
      passing = taken_passing problem query.locals log engine.begins shared grows (subst (λ (n : ℕ). IsPassing problem query.locals log engine.begins n) taking.learned taking.turning.whole.log) good;
      below = All-weaker (λ (lit : Lit). lit.variable < length problem.kinds) (λ (lit : Lit). lit.variable < length (all_kinds problem query)) (λ lit low. omega (arith, low, length-append problem.kinds query.locals)) shared.clause below;
      plain = λ _. last_plain problem log entry (taken (length log) entry (last_got log entry (length log) refl) tt) below;
      pure = λ _. refl;
      taught = taught_none problem query (log ++ entry ∷ []) engine.begins (length (log ++ entry ∷ [])) (omega arith);
      few = omega (arith, few, length_push log entry);
    }
