-- How far the certificates of a window are shared.
use Rattle.std.proofs.Common.{◌≡◌, ◌∙◌, refl, sym, ap, subst, ℕ, suc, ◌+◌, ◌^◌, ◌<◌, ◌≤◌, Bool, true, false, nat_lt, List, [], ◌∷◌, length, Option, Some, None, arith}
use Rattle.std.specs.Prelude.{if◌then◌else◌, drop}
use Rattle.std.specs.List.{AllByRecursion}
use Rattle.std.proofs.lemmas.Bool.Decides.{nat_tests}
use Rattle.std.proofs.lemmas.List.Sums.{fold-append}
use Rattle.gp_certificate.specs.declared.step.Step.{Step}
use Rattle.gp_clause.specs.declared.problem.Problem.{Problem}
use Rattle.gp_clause.specs.declared.problem.Query.{Query}
use Rattle.gp_derivation.specs.declared.record.WorkerRecord.{WorkerRecord}
use Rattle.gp_report.specs.declared.record.AnswerOf.{AnswerOf}
use Rattle.gp_sharing.specs.Compacted.{sizes_in}
use Rattle.gp_sharing.specs.GrownLaws.{begins_length, certificate_adds, certificate_begins}
use Rattle.gp_sharing.specs.Moving.{with_certificate}
use Rattle.gp_workers.specs.declared.work.WorkAnswer.{WorkAnswer}
use Rattle.gp_workers.specs.declared.work.WorkAnswer.TheVariants.{Model, Refuted, Spent}
use Rattle.gp_workers.specs.Work.{AnswerEach, IsAnswerTo}
use Rattle.gp_analysis.specs.declared.listing.Asked.{Asked}
use Rattle.gp_analysis.specs.declared.sharing.Sharing.{Sharing}
use Rattle.gp_analysis.specs.Certificates.{CanBeMade, HasGrown, HasRoom, begun, certificates_all, certificates_ask, certificates_each, certificates_listed, found, left_each, left_listed, with_all, with_counted}
use Rattle.gp_analysis.specs.Recording.{left_after}
use Rattle.gp_analysis.proofs.Evidence.{certified}

pub is_less : (a b : ℕ) → nat_lt a b ≡ true → a < b
is_less a b h = grind (arith, nat_tests)

pub is_not_less : (a b : ℕ) → nat_lt a b ≡ false → b ≤ a
is_not_less a b h = grind (arith, nat_tests)

-- no list with an element is empty
none_is_some : (n : ℕ) → suc n ≡ 0 → ⊥
none_is_some n h = omega arith

not_both : (a b : ℕ) → b ≤ a → a < b → ⊥
not_both a b least less = omega arith

further : (least before after : ℕ) → least ≤ before → before ≤ after → least ≤ after
further least before after h more = omega arith

-- where few are counted, so were those before
fits_further : (clauses before after count more limit : ℕ) → (count < limit → clauses + before ≤ count) → after ≤ before + more → count + more < limit → clauses + after ≤ count + more
fits_further clauses before after count more limit room adds few = let fits : clauses + before ≤ count = room (omega (arith, few)) in omega (arith, fits, adds)

-- the list has room at first
pub room_begun : (problem : Problem) (shared : List Step) → HasRoom (begun (sizes_in problem shared) shared)
room_begun problem shared = record { least = omega arith; most = λ few. omega arith }

-- and with one certificate more
pub room_counted : (sharing : Sharing) (steps : List Step) → HasRoom sharing → HasRoom (with_counted sharing steps)
room_counted sharing steps room = by (nat_lt (sharing.count + length steps) (2 ^ 31)) refl
  where
    by : (b : Bool) → nat_lt (sharing.count + length steps) (2 ^ 31) ≡ b
        → HasRoom (record { sizes = sharing.sizes; list = if b then with_certificate sharing.sizes sharing.list steps else sharing.list; count = sharing.count + length steps })
    by true is =
        let grows = begins_length sharing.list (with_certificate sharing.sizes sharing.list steps) (certificate_begins sharing.sizes sharing.list steps) in
        let adds = certificate_adds sharing.sizes sharing.list steps in
        record {
          least = further sharing.sizes.shared (length sharing.list) (length (with_certificate sharing.sizes sharing.list steps)) room.least grows;
          most = fits_further sharing.sizes.clauses (length sharing.list) (length (with_certificate sharing.sizes sharing.list steps)) sharing.count (length steps) (2 ^ 31) room.most adds;
        }
    by false is =
        let many = is_not_less (sharing.count + length steps) (2 ^ 31) is in
        record { least = room.least; most = λ less. absurd (not_both (sharing.count + length steps) (2 ^ 31) many less) }

pub room_all : (sharing : Sharing) (certificates : List (List Step)) → HasRoom sharing → HasRoom (with_all sharing certificates)
room_all sharing [] room = room
room_all sharing (steps ∷ certificates) room = room_all (with_counted sharing steps) certificates (room_counted sharing steps room)

-- what is found has grown
pub found_grown : (sharing : Sharing) → HasRoom sharing → HasGrown (found sharing)
found_grown sharing room = by (nat_lt sharing.count (2 ^ 31))
  where
    by : (b : Bool) → HasGrown (if b then Some (record { sizes = sharing.sizes; list = sharing.list }) else None)
    by true = room.least
    by false = tt

-- the certificates of answers to queries can be made
pub all_can_be_made : (problem : Problem) (budget : ℕ) (workers : List WorkerRecord) (ticket : ℕ) (queries : List Query) (answers : List WorkAnswer) → AnswerEach problem budget workers ticket queries answers
    → AllByRecursion (CanBeMade (length problem.clauses) workers) answers
all_can_be_made problem budget workers ticket [] [] each = tt
all_can_be_made problem budget workers ticket [] (answer ∷ answers) each = absurd each
all_can_be_made problem budget workers ticket (query ∷ queries) [] each = absurd each
all_can_be_made problem budget workers ticket (query ∷ queries) (answer ∷ answers) each =
    (one answer each.0, all_can_be_made problem budget workers (ticket + 1) queries answers each.1)
  where
    one : (own : WorkAnswer) → IsAnswerTo problem query budget workers ticket own → CanBeMade (length problem.clauses) workers own
    one (Model valuation) is = tt
    one (Refuted worker last) is = certified problem query workers worker last is
    one (Spent worker from to) is = tt

-- what holds of all answers holds of those that are left
pub all_dropped : (P : WorkAnswer → Type 0) (answers : List WorkAnswer) → AllByRecursion P answers → AllByRecursion P (drop 1 answers)
all_dropped P [] all = tt
all_dropped P (answer ∷ answers) all = all.1

all_after : {Shown : Type 0} (P : WorkAnswer → Type 0) (given : Option (AnswerOf Shown)) (answers : List WorkAnswer) → AllByRecursion P answers → AllByRecursion P (left_after given answers)
all_after P (Some given) answers all = all
all_after P None answers all = all_dropped P answers all

pub all_left : {Shown : Type 0} (P : WorkAnswer → Type 0) (asked : List (Asked Shown)) (answers : List WorkAnswer) → AllByRecursion P answers → AllByRecursion P (left_each asked answers)
all_left P [] answers all = all
all_left P (asked ∷ more) answers all = all_left P more (left_after asked.given answers) (all_after P asked.given answers all)

all_left_listed : {Shown : Type 0} (P : WorkAnswer → Type 0) (listed : Option (List (Asked Shown))) (answers : List WorkAnswer) → AllByRecursion P answers → AllByRecursion P (left_listed listed answers)
all_left_listed P None answers all = all
all_left_listed P (Some asked) answers all = all_left P asked answers all

module _ {Shown : Type 0} (clauses gained : ℕ) (workers : List WorkerRecord) where
  -- the asks of a subject are shared but for those that are left, which have these answers
  pub record AreShared (all : List (Asked Shown)) (before : List WorkAnswer) (begins : Sharing) (rest : List (Asked Shown)) (answers : List WorkAnswer) (sharing : Sharing) : Type 0 where
    pub shared : with_all sharing (certificates_each clauses gained workers rest answers) ≡ with_all begins (certificates_each clauses gained workers all before)
    pub left : left_each rest answers ≡ left_each all before
    pub can : AllByRecursion (CanBeMade clauses workers) answers
    pub room : HasRoom sharing

  -- one ask more
  pub one_shared : (all : List (Asked Shown)) (before : List WorkAnswer) (begins : Sharing) (first : Asked Shown) (more rest : List (Asked Shown)) (answers after : List WorkAnswer) (sharing next : Sharing)
      → rest ≡ first ∷ more → next ≡ with_all sharing (certificates_ask clauses gained workers first.given answers) → after ≡ left_after first.given answers
      → AreShared all before begins rest answers sharing → AreShared all before begins more after next
  one_shared all before begins first more rest answers after sharing next is shares leaves h = record {
    shared = (λ i. with_all (shares i) (certificates_each clauses gained workers more (leaves i)))
        ∙ sym (fold-append with_counted sharing (certificates_ask clauses gained workers first.given answers) (certificates_each clauses gained workers more (left_after first.given answers)))
        ∙ ap (λ (asks : List (Asked Shown)). with_all sharing (certificates_each clauses gained workers asks answers)) (sym is) ∙ h.shared;
    left = ap (λ (own : List WorkAnswer). left_each more own) leaves ∙ ap (λ (asks : List (Asked Shown)). left_each asks answers) (sym is) ∙ h.left;
    can = subst (AllByRecursion (CanBeMade clauses workers)) (sym leaves) (all_after (CanBeMade clauses workers) first.given answers h.can);
    room = subst HasRoom (sym shares) (room_all sharing (certificates_ask clauses gained workers first.given answers) h.room);
  }

  -- until none is left
  pub all_shared : (all : List (Asked Shown)) (before : List WorkAnswer) (begins : Sharing) (rest : List (Asked Shown)) (answers : List WorkAnswer) (sharing : Sharing) → length rest ≡ 0
      → AreShared all before begins rest answers sharing → (sharing ≡ with_all begins (certificates_each clauses gained workers all before)) × (answers ≡ left_each all before)
  all_shared all before begins [] answers sharing none h = (h.shared, h.left)
  all_shared all before begins (asked ∷ rest) answers sharing none h = absurd (none_is_some (length rest) none)

  -- the subjects are shared but for those that are left
  pub record SubjectsShared (all : List (Option (List (Asked Shown)))) (before : List WorkAnswer) (begins : Sharing) (rest : List (Option (List (Asked Shown)))) (answers : List WorkAnswer) (sharing : Sharing) : Type 0 where
    pub shared : with_all sharing (certificates_all clauses gained workers rest answers) ≡ with_all begins (certificates_all clauses gained workers all before)
    pub can : AllByRecursion (CanBeMade clauses workers) answers
    pub room : HasRoom sharing

  -- one subject more
  pub subject_shared : (all : List (Option (List (Asked Shown)))) (before : List WorkAnswer) (begins : Sharing) (first : Option (List (Asked Shown))) (more rest : List (Option (List (Asked Shown)))) (answers after : List WorkAnswer) (sharing next : Sharing)
      → rest ≡ first ∷ more → next ≡ with_all sharing (certificates_listed clauses gained workers first answers) → after ≡ left_listed first answers
      → SubjectsShared all before begins rest answers sharing → SubjectsShared all before begins more after next
  subject_shared all before begins first more rest answers after sharing next is shares leaves h = record {
    shared = (λ i. with_all (shares i) (certificates_all clauses gained workers more (leaves i)))
        ∙ sym (fold-append with_counted sharing (certificates_listed clauses gained workers first answers) (certificates_all clauses gained workers more (left_listed first answers)))
        ∙ ap (λ (fs : List (Option (List (Asked Shown)))). with_all sharing (certificates_all clauses gained workers fs answers)) (sym is) ∙ h.shared;
    can = subst (AllByRecursion (CanBeMade clauses workers)) (sym leaves) (all_left_listed (CanBeMade clauses workers) first answers h.can);
    room = subst HasRoom (sym shares) (room_all sharing (certificates_listed clauses gained workers first answers) h.room);
  }

  -- until none is left
  pub subjects_shared : (all : List (Option (List (Asked Shown)))) (before : List WorkAnswer) (begins : Sharing) (rest : List (Option (List (Asked Shown)))) (answers : List WorkAnswer) (sharing : Sharing) → length rest ≡ 0
      → SubjectsShared all before begins rest answers sharing → sharing ≡ with_all begins (certificates_all clauses gained workers all before)
  subjects_shared all before begins [] answers sharing none h = h.shared
  subjects_shared all before begins (listed ∷ rest) answers sharing none h = absurd (none_is_some (length rest) none)
