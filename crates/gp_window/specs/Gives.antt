-- What a step of reading gave, against what is due by the files.
use Rattle.std.specs.Prelude.{◌≡◌, Option, Some, None, Result, Ok, Err}

-- a fault that says something of the files was due; one that says nothing leaves what is due open
abbrev pub StopsAs : {A C : Type 0} → Option C → Result A C → Type 0
StopsAs (Some cause) due = due ≡ Err cause
StopsAs None due = Unit {0}

-- what was read is what is due, where `cause` gives what a fault says of the files
abbrev pub Gives : {A F C : Type 0} → (F → Option C) → Result A F → Result A C → Type 0
Gives cause (Ok value) due = due ≡ Ok value
Gives cause (Err fault) due = StopsAs (cause fault) due
