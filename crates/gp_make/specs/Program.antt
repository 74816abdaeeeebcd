-- The steps of the simulated program.
use Rattle.std.specs.Prelude.{ℕ, ◌+◌, ◌%◌, min, Bool, false, ◌==◌, ◌&&◌, nat_lt, if◌then◌else◌, List, Option, Some, None, is_none, position, replicate, slice_index, slice_set}
use Rattle.std.specs.List.{slice_index_or}
use Rattle.gp_make.specs.declared.action.Action.{Action}
use Rattle.gp_make.specs.declared.action.Action.TheVariants.{Start, Use, Authorise, Acquire, Release, Read, Write}
use Rattle.gp_make.specs.declared.action.Event.{Event}
use Rattle.gp_make.specs.declared.program.Program.{Program}
use Rattle.gp_make.specs.Draws.{after_draw, drawn}

-- the program before its first step: each variable is 0, and each lock is free
abbrev pub first_program : ℕ → Program
first_program seed = record { generator = record { state = seed }; values = replicate 20 0; holders = replicate 3 None }

-- what the next draw below a bound gives
abbrev pub draw : ℕ → Program → ℕ
draw bound program = drawn bound program.generator

-- the program after a draw
abbrev pub past_draw : Program → Program
past_draw program = record program { generator = after_draw program.generator }

-- a variable is read, with its present value
abbrev pub reads : ℕ → Program → Action × Program
reads variable program = (Read variable (slice_index program.values variable), program)

-- a value is drawn, and written to a variable
abbrev pub writes : ℕ → Program → Action × Program
writes variable program =
    let value = draw 4 program in
    (Write variable value, record (past_draw program) { values = slice_set program.values variable value })

-- a variable is drawn, and then whether it is read or written
unfoldable pub accesses : Program → Action × Program
accesses program =
    let variable = draw 20 program in
    let after = past_draw program in
    if draw 2 after == 0 then reads variable (past_draw after) else writes variable (past_draw after)

-- whether it is this thread that holds a lock
abbrev pub is_held_by : ℕ → Option ℕ → Bool
is_held_by thread None = false
is_held_by thread (Some holder) = holder == thread

-- the lock that a thread holds
abbrev pub lock_of : ℕ → List (Option ℕ) → Option ℕ
lock_of thread holders = position (is_held_by thread) holders

-- a lock becomes free
abbrev pub gives_back : ℕ → Program → Action × Program
gives_back lock program = (Release lock, record program { holders = slice_set program.holders lock None })

-- a lock is drawn: the thread takes it where it is free, and else does without
unfoldable pub wants_lock : ℕ → Program → Action × Program
wants_lock thread program =
    let lock = draw 3 program in
    let after = past_draw program in
    if is_none (slice_index_or program.holders lock None)
    then (Acquire lock, record after { holders = slice_set program.holders lock (Some thread) })
    else accesses after

-- what a thread does by chance, where it holds this lock or none
abbrev pub acts_by : ℕ → ℕ → Option ℕ → Program → Action × Program
acts_by thread chance (Some lock) program = if nat_lt chance 3 then gives_back lock program else accesses program
acts_by thread chance None program = if chance == 0 then wants_lock thread program else accesses program

-- what a thread does that was drawn
unfoldable pub acts : ℕ → Program → Action × Program
acts thread program = acts_by thread (draw 8 program) (lock_of thread program.holders) (past_draw program)

-- what this thread does
abbrev pub by_thread : ℕ → Action × Program → Event × Program
by_thread thread done = (record { thread = thread; action = done.0 }, done.1)

-- one of so many threads is drawn, and acts
abbrev pub drawn_step : ℕ → Program → Event × Program
drawn_step threads program =
    let thread = 1 + draw threads program in
    by_thread thread (acts thread (past_draw program))

-- the event of this number, counted from 0, and the program after it, by the first rule that fits: the other threads are
-- started; at fixed places of a window of 200 events the object is used or authorised; else a thread is drawn
unfoldable pub step : ℕ → ℕ → Program → Event × Program
step threads number program =
    let place = number % 200 in
    if nat_lt number 200 && nat_lt (place + 1) threads then by_thread 1 (Start (place + 2), program)
    else (if place % 28 == 27 then by_thread (min threads 2) (Use, program)
    else (if place % 100 == 50 then by_thread 1 (Authorise, program)
    else drawn_step threads program))
