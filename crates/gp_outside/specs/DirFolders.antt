use Rattle.gp_base.specs.Counts.{one_more}
use Rattle.gp_outside.specs.declared.folders.ReadFault.TheVariants.{Absent, Failed, Memory, TooLong}
use Rattle.gp_outside.specs.declared.folders.ReadFault.{ReadFault}
use Rattle.gp_outside.specs.declared.folders.WriteFault.{WriteFault}
use Rattle.std.specs.Prelude.{◌++◌, ◌≡◌, Err, List, None, Ok, Option, Result, Some, ℕ}

-- the count of faults after a read with that answer: a file that is not found counts, and a read that failed
abbrev pub faults_after : Result (Unit {0}) ReadFault → ℕ → ℕ
faults_after (Ok done) faults = faults
faults_after (Err Absent) faults = one_more faults
faults_after (Err TooLong) faults = faults
faults_after (Err Failed) faults = one_more faults
faults_after (Err Memory) faults = faults

-- the count of faults after a write with that answer: each refusal counts
abbrev pub faults_after_write : Result (Unit {0}) WriteFault → ℕ → ℕ
faults_after_write (Ok done) faults = faults
faults_after_write (Err fault) faults = one_more faults

-- where the bytes that an input has left are known, what it lost came to the end of the buffer
abbrev pub Moves : Option (List ℕ) → Option (List ℕ) → List ℕ → List ℕ → Type 0
Moves None left old new = Unit {0}
Moves (Some bytes) None old new = ⊥
Moves (Some bytes) (Some left) old new = old ++ bytes ≡ new ++ left
