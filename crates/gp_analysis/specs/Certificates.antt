-- The certificates of a window, one by one in the order of its asks, and which of their steps move into the list of the window.
use Rattle.std.specs.Prelude.{ℕ, ◌+◌, ◌^◌, ◌<◌, ◌≤◌, List, [], ◌∷◌, ◌++◌, Option, Some, None, if◌then◌else◌, flat_map, fold, length, nat_lt}
use Rattle.gp_certificate.specs.declared.step.Step.{Step}
use Rattle.gp_derivation.specs.declared.record.WorkerRecord.{WorkerRecord}
use Rattle.gp_raise.specs.Raised.{raised}
use Rattle.gp_report.specs.declared.record.AnswerOf.{AnswerOf}
use Rattle.gp_report.specs.declared.record.AnswerOf.TheVariants.{Found, Impossible, Undecided}
use Rattle.gp_report.specs.declared.record.EntryOf.{EntryOf}
use Rattle.gp_sharing.specs.declared.sizes.Sizes.{Sizes}
use Rattle.gp_sharing.specs.Moving.{compacted_steps, first_own, with_certificate}
use Rattle.gp_workers.specs.declared.work.WorkAnswer.{WorkAnswer}
use Rattle.gp_workers.specs.declared.work.WorkAnswer.TheVariants.{Model, Refuted, Spent}
use Rattle.gp_workers.specs.Work.{CanBeCertified, certificate_by}
use Rattle.gp_analysis.specs.declared.certifying.Moved.{Moved}
use Rattle.gp_analysis.specs.declared.listing.Asked.{Asked}
use Rattle.gp_analysis.specs.declared.sharing.Sharing.{Sharing}
use Rattle.gp_analysis.specs.Recording.{left_after}

-- the steps of an answer's certificate, if it has one
abbrev pub certificates_given : {Shown : Type 0} → AnswerOf Shown → List (List Step)
certificates_given (Found shown) = []
certificates_given (Impossible certificate) = certificate.steps ∷ []
certificates_given (Undecided worker from to) = []

-- those of some entries
abbrev pub certificates_among : {Shown : Type 0} → List (EntryOf Shown) → List (List Step)
certificates_among {Shown} entries = flat_map (λ (entry : EntryOf Shown). certificates_given entry.answer) entries

-- the certificate of an answer of the workers can be made, if it is a refutation
abbrev pub CanBeMade : ℕ → List WorkerRecord → WorkAnswer → Type 0
CanBeMade clauses workers (Model valuation) = Unit {0}
CanBeMade clauses workers (Refuted worker last) = CanBeCertified clauses workers worker last
CanBeMade clauses workers (Spent worker from to) = Unit {0}

-- the answers that are left after those of these asks
abbrev pub left_each : {Shown : Type 0} → List (Asked Shown) → List WorkAnswer → List WorkAnswer
left_each [] answers = answers
left_each (asked ∷ more) answers = left_each more (left_after asked.given answers)

-- the same where they are listed
abbrev pub left_listed : {Shown : Type 0} → Option (List (Asked Shown)) → List WorkAnswer → List WorkAnswer
left_listed None answers = answers
left_listed (Some asked) answers = left_each asked answers

-- over so many base clauses and shared steps, by what the workers did
module _ (clauses gained : ℕ) (workers : List WorkerRecord) where
  -- the steps of the certificate of an answer of the workers, if it is a refutation
  abbrev pub certificates_worked : WorkAnswer → List (List Step)
  certificates_worked (Model valuation) = []
  certificates_worked (Refuted worker last) = (raised clauses gained (certificate_by clauses workers worker last)).steps ∷ []
  certificates_worked (Spent worker from to) = []

  -- those of the first of some answers
  abbrev pub certificates_first : List WorkAnswer → List (List Step)
  certificates_first [] = []
  certificates_first (answer ∷ answers) = certificates_worked answer

  -- those of an ask: of the answer that it has already, else of the first of these answers
  abbrev pub certificates_ask : {Shown : Type 0} → Option (AnswerOf Shown) → List WorkAnswer → List (List Step)
  certificates_ask (Some given) answers = certificates_given given
  certificates_ask None answers = certificates_first answers

  -- those of these asks, in order
  abbrev pub certificates_each : {Shown : Type 0} → List (Asked Shown) → List WorkAnswer → List (List Step)
  certificates_each [] answers = []
  certificates_each (asked ∷ more) answers = certificates_ask asked.given answers ++ certificates_each more (left_after asked.given answers)

  -- those of the asks of a subject that are listed, if any
  abbrev pub certificates_listed : {Shown : Type 0} → Option (List (Asked Shown)) → List WorkAnswer → List (List Step)
  certificates_listed None answers = []
  certificates_listed (Some asked) answers = certificates_each asked answers

  -- those of all subjects
  abbrev pub certificates_all : {Shown : Type 0} → List (Option (List (Asked Shown))) → List WorkAnswer → List (List Step)
  certificates_all [] answers = []
  certificates_all (listed ∷ more) answers = certificates_listed listed answers ++ certificates_all more (left_listed listed answers)

-- no certificate is shared yet
abbrev pub begun : Sizes → List Step → Sharing
begun sizes shared = record { sizes = sizes; list = shared; count = first_own sizes }

-- one certificate more is counted, and shared while all steps are few
abbrev pub with_counted : Sharing → List Step → Sharing
with_counted sharing steps = record {
  sizes = sharing.sizes;
  list = if nat_lt (sharing.count + length steps) (2 ^ 31) then with_certificate sharing.sizes sharing.list steps else sharing.list;
  count = sharing.count + length steps;
}

-- some certificates more
abbrev pub with_all : Sharing → List (List Step) → Sharing
with_all sharing certificates = fold with_counted sharing certificates

-- the list has the steps that were shared from the start, and while all are few no more steps than are counted
pub record HasRoom (sharing : Sharing) : Type 0 where
  pub least : sharing.sizes.shared ≤ length sharing.list
  pub most : sharing.count < 2 ^ 31 → sharing.sizes.clauses + length sharing.list ≤ sharing.count

-- what moved, unless there are too many steps
abbrev pub found : Sharing → Option Moved
found sharing = if nat_lt sharing.count (2 ^ 31) then Some (record { sizes = sharing.sizes; list = sharing.list }) else None

-- what moves of these certificates into a list of these steps
abbrev pub moved_over : Sizes → List Step → List (List Step) → Option Moved
moved_over sizes shared certificates = found (with_all (begun sizes shared) certificates)

-- the list has the steps that were shared from the start
abbrev pub HasGrown : Option Moved → Type 0
HasGrown None = Unit {0}
HasGrown (Some moved) = moved.sizes.shared ≤ length moved.list

-- the steps of a certificate as they are told
abbrev pub steps_by : Option Moved → List Step → List Step
steps_by None steps = steps
steps_by (Some moved) steps = compacted_steps moved.sizes moved.list steps

-- the steps that are shared in the end
abbrev pub shared_by : Option Moved → List Step → List Step
shared_by None shared = shared
shared_by (Some moved) shared = moved.list
