-- What a scripted write of a folder in memory leaves, in the words of every folder.
use Rattle.gp_outside.proofs.Files.{file_is_written}
use Rattle.gp_outside.specs.Faults.{Rose}
use Rattle.gp_base.specs.Counts.{one_more}
use Rattle.gp_outside.specs.FolderLaws.{same_but_itself}
use Rattle.gp_outside.specs.Folders.{File, Spares, Writes}
use Rattle.gp_outside.specs.MemoryFolders.{FolderState, after_write, fails_next, with_file, write_answer}
use Rattle.gp_outside.specs.declared.folders.WriteFault.TheVariants.{Failed, Memory}
use Rattle.gp_outside.specs.declared.folders.WriteFault.{WriteFault}
use Rattle.std.proofs.Common.{◌≡◌, ◌≢◌, ◌∙◌, Bool, Err, List, Ok, Some, ap, arith, false, refl, sym, true, ℕ}
use Rattle.std.specs.Prelude.{OnOk, Result}

-- a write with this answer, where there was memory for it
pub record IsCall (result : Result (Unit {0}) WriteFault) (old new : FolderState) (name bytes : List ℕ) : Type 0 where
  pub answer : result ≡ write_answer old
  pub after : new ≡ after_write old name bytes

script_passes : (old : FolderState) (done : Unit {0}) (b : Bool) → fails_next old ≡ b → Ok done ≡ write_answer old → fails_next old ≡ false
script_passes old done true e answer = absurd (cc)
script_passes old done false e answer = e

script_fails : (old : FolderState) (b : Bool) → fails_next old ≡ b → Err Failed ≡ write_answer old → fails_next old ≡ true
script_fails old true e answer = e
script_fails old false e answer = absurd (cc)

pub call_written : (result : Result (Unit {0}) WriteFault) (old new : FolderState) (name bytes : List ℕ)
    → (result ≢ Err Memory → IsCall result old new name bytes)
    → OnOk result (Writes (Some old.files) (Some new.files) name bytes)
call_written (Ok done) old new name bytes call =
    let is = call (λ e. cc) in
    let passes = script_passes old done (fails_next old) refl is.answer in
    let files_are : new.files ≡ with_file old.files name bytes =
    ap (λ (folder : FolderState). folder.files) is.after ∙ rw passes refl in
    (with_file old.files name bytes, ap (λ (files : List File). Some files) files_are, file_is_written old.files name bytes)
call_written (Err fault) old new name bytes call = tt

pub call_failed : (result : Result (Unit {0}) WriteFault) (old new : FolderState) (name bytes : List ℕ)
    → (result ≢ Err Memory → IsCall result old new name bytes) → result ≡ Err Failed → Rose old.faults new.faults
call_failed result old new name bytes call failed =
    let is = call (λ e. cc) in
    let fails = script_fails old (fails_next old) refl (sym failed ∙ is.answer) in
    let faults_are : new.faults ≡ one_more old.faults =
    ap (λ (folder : FolderState). folder.faults) is.after ∙ rw fails refl in
    omega (arith, faults_are)

pub call_spared : (result : Result (Unit {0}) WriteFault) (old new : FolderState) (name bytes : List ℕ)
    → (result ≢ Err Memory → IsCall result old new name bytes) → result ≡ Err Failed
    → Spares (Some old.files) (Some new.files) name
call_spared result old new name bytes call failed =
    let is = call (λ e. cc) in
    let fails = script_fails old (fails_next old) refl (sym failed ∙ is.answer) in
    let files_are : new.files ≡ old.files =
    ap (λ (folder : FolderState). folder.files) is.after ∙ rw fails refl in
    (old.files, ap (λ (files : List File). Some files) files_are, same_but_itself name old.files)
