-- Laws: how a thread holds a lock when a formed window begins, by the holders and the readers that the window tells.
use Rattle.std.specs.Prelude.{◌≡◌, ◌↔◌, ℕ, Bool, true, false, List, Option, Some, None, if◌then◌else◌}
use Rattle.std.specs.Cmp.Lexicographic.{slice_cmp}
use Rattle.std.specs.Map.{keys_of}
use Rattle.std.specs.Ordering.{nat_cmp}
use Rattle.std.proofs.Common.{refl, ap, ◌∙◌}
use Rattle.std.proofs.lemmas.Bool.{false_from_ne_true}
use Rattle.std.proofs.lemmas.Cmp.{eq_by_cmp_equiv, nat_list_cmp_total}
use Rattle.std.proofs.lemmas.Map.Keys.{IsDistinct-from_sorted}
use Rattle.std.proofs.lemmas.Map.Lookups.{exact_bytes}
use Rattle.std.proofs.lemmas.Map.Views.{Contains-from_lookup, lookup-from_Contains, tells_apart}
use Rattle.gp_base.specs.Table.{value_at}
use Rattle.gp_trace.specs.declared.lock_use.LockMode.{LockMode}
use Rattle.gp_trace.specs.declared.lock_use.LockMode.TheVariants.{Exclusive, Shared}
use Rattle.gp_window.specs.Formed.{IsFormed, mode_at_start, stands_at}
use Rattle.gp_window.specs.HoldersLaws.{stands_from, stands_to}
use Rattle.gp_window.specs.WindowForm.{WindowForm}

-- how a lock is held by who holds it alone and who reads it
abbrev pub mode_by : Bool → Bool → Option LockMode
mode_by alone reads = if alone then Some Exclusive else (if reads then Some Shared else None)

alone_by : (alone reads : Bool) → mode_by alone reads ≡ Some Exclusive → alone ≡ true
alone_by true reads e = refl
alone_by false true e = cc
alone_by false false e = cc

reads_by : (alone reads : Bool) → mode_by alone reads ≡ Some Shared → reads ≡ true
reads_by true reads e = cc
reads_by false true e = refl
reads_by false false e = cc

-- the thread that the window tells as the holder of a lock holds it alone, and no other thread does
pub holds_at_start : (w : WindowForm) → IsFormed w → (lock : List ℕ) (thread : ℕ)
    → (value_at (slice_cmp nat_cmp) w.holders lock ≡ Some thread) ↔ (mode_at_start w thread lock ≡ Some Exclusive)
holds_at_start w formed lock thread = (
  λ found.
      let stands : stands_at w.holders lock thread ≡ true = stands_from w.holders lock thread (Contains-from_lookup (tells_apart exact_bytes) lock thread w.holders found) in
      ap (λ b. mode_by b (stands_at w.readers lock thread)) stands,
  λ mode.
      let stands = alone_by (stands_at w.holders lock thread) (stands_at w.readers lock thread) mode in
      lookup-from_Contains (eq_by_cmp_equiv nat_list_cmp_total) lock thread w.holders (IsDistinct-from_sorted (slice_cmp nat_cmp) (keys_of w.holders) formed.holders)
      (stands_to w.holders lock thread stands),
)

-- the threads that the window tells as the readers of a lock read it, and no others do
pub reads_at_start : (w : WindowForm) → IsFormed w → (lock : List ℕ) (thread : ℕ)
    → (stands_at w.readers lock thread ≡ true) ↔ (mode_at_start w thread lock ≡ Some Shared)
reads_at_start w formed lock thread = (
  λ reads.
      let none : stands_at w.holders lock thread ≡ false =
      false_from_ne_true _ (λ holds. formed.alone lock thread thread (stands_to w.holders lock thread holds) (stands_to w.readers lock thread reads)) in
      ap (λ b. mode_by b (stands_at w.readers lock thread)) none ∙ ap (λ b. mode_by false b) reads,
  λ mode. reads_by (stands_at w.holders lock thread) (stands_at w.readers lock thread) mode,
)
