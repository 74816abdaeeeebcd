-- With what a window begins.
use Rattle.std.specs.Prelude.{◌≡◌, ◌↔◌, ℕ, true, List, Some}
use Rattle.gp_trace.specs.declared.lock_use.LockMode.TheVariants.{Exclusive, Shared}
use Rattle.gp_window.specs.Formed.{mode_at_start}
use Rattle.gp_window.specs.WindowForm.{IsWindow, WindowForm}
use Rattle.gp_replay.specs.Readers.{is_reader}
use Rattle.gp_replay.specs.Step.{holder_of, start_state}

-- a window begins with its start values, its holders and its readers, just as it tells them; so a thread is the holder or a
-- reader of a lock exactly where it holds the lock in that way
pub record BeginsAsWindow : Type 0 where
  pub values : (window : WindowForm) → IsWindow window → (start_state window).values ≡ window.start_values
  pub holders : (window : WindowForm) → IsWindow window → (start_state window).holders ≡ window.holders
  pub readers : (window : WindowForm) → IsWindow window → (start_state window).readers ≡ window.readers
  pub holds : (window : WindowForm) → IsWindow window → (lock : List ℕ) (thread : ℕ)
      → (holder_of (start_state window) lock ≡ Some thread) ↔ (mode_at_start window thread lock ≡ Some Exclusive)
  pub reads : (window : WindowForm) → IsWindow window → (lock : List ℕ) (thread : ℕ)
      → (is_reader (start_state window).readers lock thread ≡ true) ↔ (mode_at_start window thread lock ≡ Some Shared)
