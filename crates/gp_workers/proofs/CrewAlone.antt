-- What one worker hands back that shares nothing, and what facts of results say.
use Rattle.std.proofs.Common.{◌≡◌, sym, subst, [], ◌∷◌, Result, Ok, Err, All}
use Rattle.std.specs.Prelude.{IfOk}
use Rattle.std.proofs.lemmas.List.Elements.{All-cons, All-nil}
use Rattle.gp_derivation.specs.declared.record.WorkerRecord.{WorkerRecord}
use Rattle.gp_workers.specs.declared.work.WindowWork.{WindowWork}
use Rattle.gp_workers.specs.Sharing.{WorksAlone}
use Rattle.gp_workers.specs.Mail.{taken_entries}

-- a worker offered nothing
abbrev OffersNone : WorkerRecord → Type 0
OffersNone own = own.offered ≡ []

-- a worker took nothing
abbrev TakesNone : WorkerRecord → Type 0
TakesNone own = taken_entries own.log ≡ []

-- where the one worker shares nothing, nothing is shared
pub nothing_shared : {E : Type 0} (own : WorkerRecord) (result : Result WindowWork E) → own.offered ≡ [] → taken_entries own.log ≡ [] → IfOk result (λ work. work.records ≡ own ∷ []) → IfOk result (λ work. work.passes ≡ []) → IfOk result WorksAlone
nothing_shared own (Ok work) offers_none takes_none records passes = record {
  records = record {
    offers = subst (All OffersNone) (sym records) (All-cons OffersNone own [] offers_none (All-nil OffersNone));
    taken = subst (All TakesNone) (sym records) (All-cons TakesNone own [] takes_none (All-nil TakesNone));
  };
  passes = passes;
}
nothing_shared own (Err error) offers_none takes_none records passes = tt

-- the same of a result whose fact is another's
pub same_if_ok : {X E : Type 0} (P Q : X → Type 0) (result : Result X E) → ((x : X) → P x → Q x) → IfOk result P → IfOk result Q
same_if_ok P Q (Ok x) weaker holds = weaker x holds
same_if_ok P Q (Err error) weaker holds = tt

-- the same of two facts
pub both_if_ok : {X E : Type 0} (P Q R : X → Type 0) (result : Result X E) → ((x : X) → P x → Q x → R x) → IfOk result P → IfOk result Q → IfOk result R
both_if_ok P Q R (Ok x) joined one other = joined x one other
both_if_ok P Q R (Err error) joined one other = tt
