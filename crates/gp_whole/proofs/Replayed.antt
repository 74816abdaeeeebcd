-- Schedules that link one window after another replay from the recording's very start.
use Rattle.std.proofs.Common.{ℕ, suc, ◌≡◌, ◌+◌, ◌≤◌, ap, ◌∙◌, refl, subst, List, [], ◌∷◌, ◌++◌, length, length-append, map, arith}
use Rattle.std.specs.Prelude.{Option, Some}
use Rattle.std.proofs.lemmas.List.{length-map}
use Rattle.gp_window.specs.declared.schedule.EventId.{EventId}
use Rattle.gp_window.specs.RecordingForm.{IsRecording, RecordingForm}
use Rattle.gp_window.specs.WindowForm.{window_of, WindowForm}
use Rattle.gp_replay.specs.declared.state.State.{State}
use Rattle.gp_replay.specs.Alike.{Alike}
use Rattle.gp_replay.specs.AlikeLaws.{alike_on, alike_runs, alike_turned}
use Rattle.gp_replay.specs.Feasible.{IsFeasible}
use Rattle.gp_replay.specs.Step.{start_state}
use Rattle.gp_whole.specs.Linked.{begun_again, LinksLeadOn}
use Rattle.gp_whole.specs.Whole.{AllLink, EachLinks, FoundSchedulesReplay, LinkedSchedulesReplay, ReplaysFrom}

-- states that tell the same do so where a window begins again
begun_alike : (window : WindowForm) (one other : State) → Alike one other → Alike (begun_again window one) (begun_again window other)
begun_alike window one other a = record { counts = refl; values = a.values; holders = a.holders; readers = a.readers; started = a.started }

pub alike_itself : (state : State) → Alike state state
alike_itself state = record { counts = refl; values = λ variable. refl; holders = λ lock. refl; readers = λ lock thread. refl; started = λ thread. refl }

-- schedules that link windows replay from each state that tells what the first window's start state tells
pub replays_from : LinksLeadOn → (r : RecordingForm) (k : ℕ) (state : State) (schedules : List (List EventId)) (ids : List EventId) (n : ℕ)
    → IsRecording r → 1 ≤ k → n ≡ k + length schedules → n ≤ r.manifest.epochs → Alike (start_state (window_of r k)) state
    → AllLink r k schedules → IsFeasible (window_of r n) ids → ReplaysFrom r k state (schedules ++ ids ∷ [])
replays_from law r k state [] ids n rules first is last alike link feasible =
    let same : n ≡ k = omega (arith, is) in
    let own : IsFeasible (window_of r k) ids = subst (λ m. IsFeasible (window_of r m) ids) same feasible in
    let run = alike_runs (window_of r k) (start_state (window_of r k)) state own.0 ids alike own.1 in
    (run.0, run.1, tt)
replays_from law r k state (schedule ∷ schedules) ids n rules first is last alike link feasible =
    let window : WindowForm = window_of r k in
    let next : WindowForm = window_of r (suc k) in
    let links = link.0 in
    let run = alike_runs window (start_state window) state links.last schedule alike links.runs in
    let on : Alike (begun_again next links.last) (start_state next) = law r k schedule rules first (omega (arith, is, last)) links in
    let later : Alike (start_state next) (begun_again next run.0) =
    alike_on (start_state next) (begun_again next links.last) (begun_again next run.0) (alike_turned (begun_again next links.last) (start_state next) on)
    (begun_alike next links.last run.0 run.2) in (
      run.0,
      run.1,
      replays_from law r (suc k) (begun_again next run.0) schedules ids n rules (omega arith) (omega (arith, is)) last later link.1 feasible,
    )

-- schedules that were found for the first windows link them
links_front : (r : RecordingForm) (k : ℕ) (schedules : List (List EventId)) (rest : List (Option (List EventId)))
    → EachLinks r k (map (λ schedule. Some schedule) schedules ++ rest) → AllLink r k schedules
links_front r k [] rest h = tt
links_front r k (schedule ∷ schedules) rest h = (h.0, links_front r (suc k) schedules rest h.1)

pub found_replay : LinkedSchedulesReplay → FoundSchedulesReplay
found_replay law r found rest schedules ids rules count each is feasible =
    let size : length found ≡ length schedules + length rest =
    ap length is ∙ length-append (map (λ schedule. Some schedule) schedules) rest ∙ ap (λ n. n + length rest) (length-map schedules (λ schedule. Some schedule)) in
    law r schedules ids rules (omega (arith, size, count)) (links_front r 1 schedules rest (subst (EachLinks r 1) is each)) feasible
