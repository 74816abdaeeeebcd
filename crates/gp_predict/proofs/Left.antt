-- What task make leaves, by how its writes ended.
use Rattle.std.proofs.Common.{◌≡◌, ◌≢◌, ℕ, List, ap, inl, inr, true, OnOk, arith}
use Rattle.std.specs.Prelude.{◌⊎◌, Option, None, Some, Result, Ok, Err, IfErr}
use Rattle.gp_files.specs.Writing.{AreAllMade, AreKeptOrMade, AreSomeMade, WhereTold}
use Rattle.gp_outside.specs.Folders.{File}
use Rattle.gp_predict.specs.declared.outcome.Outcome.{Outcome}
use Rattle.gp_predict.specs.declared.stop.Stop.{Stop}
use Rattle.gp_predict.specs.declared.stop.Stop.TheVariants.{Refused, FolderFailed, Memory}
use Rattle.gp_predict.specs.Finished.{IsFinished, told_by}
use Rattle.gp_predict.specs.Making.{LeavesMade, MakingStops}
use Rattle.gp_predict.specs.Refused.{stops_absent}
use Rattle.gp_predict.specs.Told.{IsDone, Told}

-- task make refuses nothing
pub never_absent : {T P : Type 0} (result : Result T Stop) (made : List File) (before after : Option (List File)) → IfErr result (MakingStops made before after)
    → stops_absent result ≡ true → P
never_absent (Ok value) made before after stopped is = absurd (cc)
never_absent (Err (Refused why)) made before after stopped is = absurd stopped
never_absent (Err FolderFailed) made before after stopped is = absurd (cc)
never_absent (Err Memory) made before after stopped is = absurd (cc)

not_four : (status : ℕ) → IsDone status ⊎ (status ≡ 5) ⊎ (status ≡ 6) → status ≢ 4
not_four status (inl (inl least)) four = omega (arith, least, four)
not_four status (inl (inr seven)) four = omega (arith, seven, four)
not_four status (inr (inl five)) four = omega (arith, five, four)
not_four status (inr (inr six)) four = omega (arith, six, four)

-- all was written
all_left : (made : List File) (status : ℕ) (before after : Option (List File)) → status ≢ 4
    → WhereTold before after (AreAllMade made) → LeavesMade made status before after
all_left made status None after unfailed told = told
all_left made status (Some files) after unfailed told =
    (told.0, told.1, record { all = λ zero. told.2; failed = λ four. absurd (unfailed four); others = λ _. told.2.others })

-- a write failed
some_left : (made : List File) (status : ℕ) (before after : Option (List File)) → status ≡ 4
    → WhereTold before after (AreSomeMade made) → LeavesMade made status before after
some_left made status None after is told = told
some_left made status (Some files) after is told =
    (told.0, told.1, record { all = λ zero. absurd (omega (arith, is, zero)); failed = λ four. told.2; others = λ no. absurd (no is) })

-- memory was wanting
part_left : (made : List File) (status : ℕ) (before after : Option (List File)) → status ≡ 6
    → WhereTold before after (AreKeptOrMade made) → LeavesMade made status before after
part_left made status None after is told = told
part_left made status (Some files) after is told =
    (told.0, told.1, record { all = λ zero. absurd (omega (arith, is, zero)); failed = λ four. absurd (omega (arith, is, four)); others = λ no. told.2 })

-- what making came to was told, so that its status says what is left
pub left_made : {T : Type 0} (tells : T → Told) (result : Result T Stop) (made : List File) (outcome : Outcome) (old new : Option (List ℕ)) (faults_before faults_after : ℕ)
    (before after : Option (List File)) → OnOk result (WhereTold before after (AreAllMade made)) → IfErr result (MakingStops made before after)
    → IsFinished (told_by tells result) outcome old new faults_before faults_after → LeavesMade made outcome.status before after
left_made tells (Ok whole) made outcome old new faults_before faults_after before after all stopped finished =
    all_left made outcome.status before after (not_four outcome.status finished.1.range) all
left_made tells (Err (Refused why)) made outcome old new faults_before faults_after before after all stopped finished = absurd stopped
left_made tells (Err FolderFailed) made outcome old new faults_before faults_after before after all stopped finished =
    some_left made outcome.status before after (ap (λ (o : Outcome). o.status) finished.0) stopped
left_made tells (Err Memory) made outcome old new faults_before faults_after before after all stopped finished =
    part_left made outcome.status before after (ap (λ (o : Outcome). o.status) finished.0) stopped
