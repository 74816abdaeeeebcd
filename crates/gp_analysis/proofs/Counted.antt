-- The counts of the runs, collected and added.
use Rattle.std.proofs.Common.{◌≡◌, ◌≢◌, refl, sym, ap, ◌∙◌, subst, ℕ, ◌+◌, ◌*◌, ◌≤◌, Option, None, Some, Bool, true, false, nat_lt, if◌then◌else◌, List, [], ◌∷◌, length, map, flat_map, sum, sum_by, Result, Ok, Err, IfOk, arith}
use Rattle.std.specs.declared.alloc.AllocError.{AllocError}
use Rattle.std.specs.List.{AllZip}
use Rattle.std.specs.Prelude.{MatchResult}
use Rattle.std.proofs.lemmas.List.Sums.{sum-map, sum_by-append, sum_by-cons}
use Rattle.gp_instance.specs.declared.instance.Instance.{Instance}
use Rattle.gp_instance.specs.declared.instance.InstancesFault.{InstancesFault}
use Rattle.gp_report.specs.declared.record.AnswerOf.{AnswerOf}
use Rattle.gp_window.specs.RecordingForm.{RecordingForm}
use Rattle.gp_window.specs.WindowForm.{WindowForm, numbers_from, window_of}
use Rattle.gp_analysis.specs.declared.counting.Counted.{Counted}
use Rattle.gp_analysis.specs.declared.counting.Counted.TheVariants.{Listed}
use Rattle.gp_analysis.specs.declared.question.LeftOut.{LeftOut}
use Rattle.gp_analysis.specs.Question.{QuestionForm}
use Rattle.std.proofs.lemmas.Bool.{le-ltb, ltb-false}
use Rattle.std.proofs.Math.Nat.{mul-le-mul_right}
use Rattle.gp_analysis.specs.declared.runs.Run.{Run}
use Rattle.gp_analysis.specs.Runs.{numbers_of, PartAll, run_count, run_windows}
use Rattle.gp_analysis.specs.Tickets.{asked_in, asked_of, asked_total, listed_count, subjects_count, subjects_tickets, tickets_in, tickets_listed, tickets_of, too_much, total_of, window_asked, window_count}

module _ (count : Run → ℕ) where
  each_counted : (runs : List Run) (counts : List ℕ) → AllZip {B = Result ℕ AllocError} (λ run result. IfOk result (λ n. n ≡ count run)) runs (map Ok counts) → counts ≡ map count runs
  each_counted [] [] each = refl
  each_counted [] (n ∷ counts) each = absurd each
  each_counted (run ∷ runs) [] each = absurd each
  each_counted (run ∷ runs) (n ∷ counts) each = ap (λ m. m ∷ counts) each.0 ∙ ap (λ ns. count run ∷ ns) (each_counted runs counts each.1)

  -- where calls that count each run were all answered, what was collected of them is the counts of the runs
  pub collected : {V F : Type 0} (items : V → List ℕ) (result : Result V F) (given runs : List Run) (calls : List (Result ℕ AllocError)) (Q : F → Type 0) → given ≡ runs → AllZip (λ run call. IfOk call (λ n. n ≡ count run)) given calls
      → MatchResult result (λ v. (ns : List ℕ) × (calls ≡ map Ok ns) × (items v ≡ ns)) Q → IfOk result (λ v. items v ≡ map count runs)
  collected items (Err fault) given runs calls Q same each was = tt
  collected items (Ok v) given runs calls Q same each was =
      was.2 ∙ each_counted given was.0 (subst (AllZip (λ run call. IfOk call (λ n. n ≡ count run)) given) was.1 each) ∙ ap (map count) same

sum_map : {X Y : Type 0} (f : Y → ℕ) (g : X → Y) (xs : List X) → sum_by f (map g xs) ≡ sum_by (λ x. f (g x)) xs
sum_map f g [] = refl
sum_map f g (x ∷ xs) = sum_by-cons f (g x) (map g xs) ∙ ap (λ n. f (g x) + n) (sum_map f g xs) ∙ sym (sum_by-cons (λ y. f (g y)) x xs)

sum_runs : (r : RecordingForm) (f : WindowForm → ℕ) (runs : List Run) → sum_by (λ (run : Run). sum_by f (run_windows r run)) runs ≡ sum_by (λ (k : ℕ). f (window_of r k)) (flat_map numbers_of runs)
sum_runs r f [] = refl
sum_runs r f (run ∷ runs) =
    sum_by-cons (λ (one : Run). sum_by f (run_windows r one)) run runs ∙ ap (λ n. sum_by f (run_windows r run) + n) (sum_runs r f runs)
    ∙ ap (λ n. n + sum_by (λ (k : ℕ). f (window_of r k)) (flat_map numbers_of runs)) (sum_map f (window_of r) (numbers_of run))
    ∙ sym (sum_by-append (λ (k : ℕ). f (window_of r k)) (numbers_of run) (flat_map numbers_of runs))

sum_few : (f g : ℕ → ℕ) (ks : List ℕ) → ((k : ℕ) → f k ≤ g k) → sum_by f ks ≤ sum_by g ks
sum_few f g [] few = omega arith
sum_few f g (k ∷ ks) few =
    let one = few k in
    let rest : sum_by f ks ≤ sum_by g ks = sum_few f g ks few in
    let own : sum_by f (k ∷ ks) ≡ f k + sum_by f ks = sum_by-cons f k ks in
    let other : sum_by g (k ∷ ks) ≡ g k + sum_by g ks = sum_by-cons g k ks in
    omega (arith, one, rest, own, other)

-- one window more is counted
pub one_counted : (f : WindowForm → ℕ) (windows left : List WindowForm) (window : WindowForm) (count own more all : ℕ) → windows ≡ window ∷ left → own ≡ f window → more ≡ count + own → count + sum_by f windows ≡ all
    → more + sum_by f left ≡ all
one_counted f windows left window count own more all first is added so_far =
    let split : sum_by f (window ∷ left) ≡ f window + sum_by f left = sum_by-cons f window left in
    let whole : count + sum_by f (window ∷ left) ≡ all = subst (λ (ws : List WindowForm). count + sum_by f ws ≡ all) first so_far in
    omega (arith, split, whole, is, added)

one_ticket : {Shown : Type 0} (given : Option (AnswerOf Shown)) → tickets_of given ≤ 1
one_ticket None = omega arith
one_ticket (Some given) = omega arith

asked_few : (left : Option LeftOut) (count : ℕ) → asked_of left count ≤ count
asked_few None count = omega arith
asked_few (Some why) count = omega arith

none_asked : (left : Option LeftOut) (count : ℕ) → left ≢ None → asked_of left count ≤ 0
none_asked None count out = absurd (out refl)
none_asked (Some why) count out = omega arith

module _ {Subject Shown : Type 0} (question : QuestionForm Subject Shown) where
  abbrev LargeAreLeftOut : Type 0
  LargeAreLeftOut = (window : WindowForm) → question.is_large window ≡ true → question.left_out window ≢ None

  -- what the runs have together is what all windows have
  pub all_counted : (how : Counted) (r : RecordingForm) (runs : List Run) (counts : List ℕ) → PartAll r.manifest.epochs runs → counts ≡ map (run_count question how r) runs → sum counts ≡ total_of question how r
  all_counted how r runs counts parted is =
      ap sum is ∙ sum-map (run_count question how r) runs ∙ sum_runs r (window_count question how) runs ∙ ap (sum_by (λ (k : ℕ). window_count question how (window_of r k))) parted.all

  few_in : (window : WindowForm) (subject : Subject) (asks : List Instance) → tickets_in question window subject asks ≤ length asks
  few_in window subject [] = omega arith
  few_in window subject (ask ∷ asks) =
      let one : tickets_of (question.given window subject ask.events) ≤ 1 = one_ticket (question.given window subject ask.events) in
      let rest : tickets_in question window subject asks ≤ length asks = few_in window subject asks in
      omega (arith, one, rest)

  few_listed : (window : WindowForm) (subject : Subject) (asks : Result (List Instance) InstancesFault) → tickets_listed question window subject asks ≤ listed_count asks
  few_listed window subject (Ok asks) = few_in window subject asks
  few_listed window subject (Err fault) = omega arith

  few_subjects : (window : WindowForm) (number : ℕ) (subjects : List Subject) → subjects_tickets question window number subjects ≤ subjects_count question window number subjects
  few_subjects window number [] = omega arith
  few_subjects window number (subject ∷ subjects) =
      let one : tickets_listed question window subject (question.asks window subject number) ≤ listed_count (question.asks window subject number) = few_listed window subject (question.asks window subject number) in
      let rest : subjects_tickets question window (number + 1) subjects ≤ subjects_count question window (number + 1) subjects = few_subjects window (number + 1) subjects in
      omega (arith, one, rest)

  few_window : (window : WindowForm) → window_asked question window ≤ subjects_count question window 0 question.subjects
  few_window window =
      let tickets = subjects_tickets question window 0 question.subjects in
      let one : asked_of (question.left_out window) tickets ≤ tickets = asked_few (question.left_out window) tickets in
      let all : tickets ≤ subjects_count question window 0 question.subjects = few_subjects window 0 question.subjects in
      omega (arith, one, all)

  -- of a window that is large none has a ticket
  asked_where : (window : WindowForm) (large : Bool) → (large ≡ true → question.left_out window ≢ None) → window_asked question window ≤ (if large then 0 else subjects_count question window 0 question.subjects)
  asked_where window true out = none_asked (question.left_out window) (subjects_tickets question window 0 question.subjects) (out refl)
  asked_where window false out = few_window window

  -- no more asks have a ticket than are listed
  asked_within : LargeAreLeftOut → (r : RecordingForm) → asked_total question r ≤ total_of question Listed r
  asked_within out r =
      sum_few (asked_in question r) (λ (k : ℕ). window_count question Listed (window_of r k)) (numbers_from 1 r.manifest.epochs)
      (λ k. asked_where (window_of r k) (question.is_large (window_of r k)) (out (window_of r k)))

  -- so where what is listed is not too much, neither is what has a ticket
  pub not_too_much : LargeAreLeftOut → (r : RecordingForm) (budget : ℕ) → nat_lt 1000000 (total_of question Listed r * budget) ≡ false → None ≡ too_much question r budget
  not_too_much out r budget is =
      let few : total_of question Listed r * budget ≤ 1000000 = ltb-false 1000000 (total_of question Listed r * budget) is in
      let within : asked_total question r * budget ≤ total_of question Listed r * budget = mul-le-mul_right budget (asked_within out r) in
      let not_more : nat_lt 1000000 (asked_total question r * budget) ≡ false = le-ltb 1000000 (asked_total question r * budget) (omega (arith, few, within)) in
      sym (ap (λ (more : Bool). if more then Some (asked_total question r) else None) not_more)
