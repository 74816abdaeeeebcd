-- Small windows, with the stories of schedules.
use Rattle.std.specs.Prelude.{◌≡◌, ℕ, pos, Bool, true, false, List, [], ◌∷◌, Option, Some, None}
use Rattle.gp_trace.specs.declared.event.Event.TheVariants.{Read, Write, Acquire, Release, RAcquire, RRelease, Start, Op}
use Rattle.gp_window.specs.declared.schedule.EventId.{EventId}
use Rattle.gp_window.specs.WindowForm.{WindowForm}
use Rattle.gp_story.specs.declared.story.Part.TheVariants.{Single, Run}
use Rattle.gp_story.specs.declared.story.Source.{Source}
use Rattle.gp_story.specs.declared.story.Source.TheVariants.{Nothing, Beginning, Earlier}
use Rattle.gp_story.specs.declared.story.StoryLine.{StoryLine}
use Rattle.gp_story.specs.Parts.{story_of}

abbrev a : List ℕ
a = 97 ∷ []

abbrev b : List ℕ
b = 98 ∷ []

abbrev c : List ℕ
c = 99 ∷ []

abbrev at : ℕ → ℕ → EventId
at thread index = record { thread = thread; index = index }

abbrev line_with : ℕ → EventId → Source → Option EventId → Bool → Bool → StoryLine
line_with place id source starter is_marked is_shared =
    record { place = place; event = id; source = source; started_by = starter; is_marked = is_marked; is_shared = is_shared }

-- lines of which there is nothing to say, and those of events that other threads see, with what they look back at
abbrev plain : ℕ → EventId → StoryLine
plain place id = line_with place id Nothing None false false

abbrev seen : ℕ → EventId → Source → StoryLine
seen place id source = line_with place id source None false true

abbrev marked : ℕ → EventId → StoryLine
marked place id = line_with place id Nothing None true false

-- thread 1 starts thread 2, works and raises a flag, which thread 2 reads before it works; the flag is up when the window begins
abbrev pub flagged : WindowForm
flagged = record {
  number = 1;
  segments = (Start 2 ∷ Op (a, []) ∷ Write c (pos 1) ∷ []) ∷ (Read c (pos 1) ∷ Op (b, []) ∷ []) ∷ [];
  start_values = (c, pos 1) ∷ [];
  holders = [];
  readers = [];
  started = 1 ∷ [];
  exited = [];
}

-- two threads work under one lock
abbrev pub guarded : WindowForm
guarded = record {
  number = 1;
  segments = (Acquire c ∷ Op (a, []) ∷ Op (b, []) ∷ Release c ∷ []) ∷ (Acquire c ∷ Op (a, []) ∷ Release c ∷ []) ∷ [];
  start_values = [];
  holders = [];
  readers = [];
  started = 1 ∷ 2 ∷ [];
  exited = [];
}

-- two threads read what a third one writes under the same lock, which the third holds when the window begins
abbrev pub read : WindowForm
read = record {
  number = 1;
  segments = (RAcquire c ∷ RRelease c ∷ []) ∷ (RAcquire c ∷ RRelease c ∷ []) ∷ (Release c ∷ Acquire c ∷ []) ∷ [];
  start_values = [];
  holders = (c, 3) ∷ [];
  readers = [];
  started = 1 ∷ 2 ∷ 3 ∷ [];
  exited = [];
}

pub record ExamplesHold : Type 0 where
  -- the read looks back at the write, or at the beginning where it comes first
  pub flag_raised : story_of flagged (at 1 0 ∷ at 1 1 ∷ at 1 2 ∷ at 2 0 ∷ at 2 1 ∷ []) [] ≡ record {
    parts = Single (seen 0 (at 1 0) Nothing) ∷ Single (plain 1 (at 1 1)) ∷ Single (seen 2 (at 1 2) Nothing)
        ∷ Single (line_with 3 (at 2 0) (Earlier (at 1 2)) (Some (at 1 0)) false true) ∷ Single (plain 4 (at 2 1)) ∷ [];
  }
  pub flag_up : story_of flagged (at 1 0 ∷ at 2 0 ∷ at 2 1 ∷ at 1 1 ∷ []) (at 2 1 ∷ at 1 1 ∷ []) ≡ record {
    parts = Single (seen 0 (at 1 0) Nothing) ∷ Single (line_with 1 (at 2 0) Beginning (Some (at 1 0)) false true)
        ∷ Single (marked 2 (at 2 1)) ∷ Single (marked 3 (at 1 1)) ∷ [];
  }
  -- what is done under a lock is folded, but for what is marked
  pub work_folded : story_of guarded (at 1 0 ∷ at 1 1 ∷ at 1 2 ∷ at 1 3 ∷ at 2 0 ∷ at 2 1 ∷ at 2 2 ∷ []) (at 2 1 ∷ []) ≡ record {
    parts = Single (seen 0 (at 1 0) Beginning) ∷ Run (plain 1 (at 1 1) ∷ plain 2 (at 1 2) ∷ []) ∷ Single (seen 3 (at 1 3) Nothing)
        ∷ Single (seen 4 (at 2 0) (Earlier (at 1 3))) ∷ Single (marked 5 (at 2 1)) ∷ Single (seen 6 (at 2 2) Nothing) ∷ [];
  }
  -- a reader looks back at who held the lock alone, and who takes it alone at the last reader
  pub readers_pass : story_of read (at 3 0 ∷ at 1 0 ∷ at 1 1 ∷ at 2 0 ∷ at 2 1 ∷ at 3 1 ∷ []) [] ≡ record {
    parts = Single (seen 0 (at 3 0) Nothing) ∷ Single (seen 1 (at 1 0) (Earlier (at 3 0))) ∷ Single (seen 2 (at 1 1) Nothing)
        ∷ Single (seen 3 (at 2 0) (Earlier (at 3 0))) ∷ Single (seen 4 (at 2 1) Nothing) ∷ Single (seen 5 (at 3 1) (Earlier (at 2 1))) ∷ [];
  }
