-- The instances that are left of a walk over entries, over properties and over windows: the first, and those after it.
use Rattle.std.proofs.Common.{◌≡◌, refl, sym, ap, ◌∙◌, ℕ, zero, suc, ◌+◌, ◌<◌, ◌≤◌, List, [], ◌∷◌, ◌++◌, Bor, length, get_or, drop, add-one, drop-cons, arith}
use Rattle.std.specs.Prelude.{None, Some, Result, Err, slice_get}
use Rattle.std.specs.Slice.{IsItemAt}
use Rattle.std.proofs.lemmas.Option.{slice_get_read}
use Rattle.gp_certificate.specs.declared.step.Step.{Step}
use Rattle.gp_constraint.specs.Encoded.{base_due}
use Rattle.gp_constraint.specs.declared.fault.BaseFault.{BaseFault}
use Rattle.gp_property.specs.PropertyForm.{PropertyForm}
use Rattle.gp_report.specs.Entries.{entries_in}
use Rattle.gp_report.specs.Records.{Entry, PropertyRecord, WindowRecord}
use Rattle.gp_window.specs.WindowForm.{WindowForm}
use Rattle.gp_show.specs.Answers.{answers_among, answers_from, answers_in, answers_of, answers_over}

-- what is left from a place on, where something stands there
pub left_from : {A : Type 0} (xs : List A) (n : ℕ) (x : A) → n < length xs → x ≡ get_or xs n x → drop n xs ≡ x ∷ drop (n + 1) xs
left_from xs n x below is = rw (add-one, drop-cons xs n x below, ← is) refl

-- nothing is left behind the end
pub none_left : {A : Type 0} (xs : List A) (n : ℕ) → length xs ≤ n → drop n xs ≡ []
none_left [] zero past = refl
none_left [] (suc n) past = refl
none_left (x ∷ xs) zero past = absurd (omega (arith, past))
none_left (x ∷ xs) (suc n) past = none_left xs n (omega (arith, past))

left_at : {A : Type 0} (xs : List A) (n : ℕ) (x : A) → slice_get xs n ≡ Some x → drop n xs ≡ x ∷ drop (n + 1) xs
left_at [] n x got = absurd (cc)
left_at (one ∷ xs) zero x got = let same : one ≡ x = cc in ap (λ y. y ∷ xs) same
left_at (one ∷ xs) (suc n) x got =
    let next : suc (n + 1) ≡ suc n + 1 = omega arith in left_at xs n x got ∙ ap (λ k. x ∷ drop k (one ∷ xs)) next

-- what was lent of a place is what is left first from it on
pub lent_first : {A : Type 0} (xs : List A) (n : ℕ) (x : Bor A) → IsItemAt xs n (Some x) → drop n xs ≡ x.now ∷ drop (n + 1) xs
lent_first xs n x is = left_at xs n x.now (slice_get_read xs (length xs) n x.now refl is.3.0 (is.3.1 x.now))

-- where nothing was lent, nothing is left
pub lent_none : {A : Type 0} (xs : List A) (n : ℕ) → IsItemAt xs n None → drop n xs ≡ []
lent_none xs n is = none_left xs n is.3

-- the first of the entries that are left
pub entry_first : (window : WindowForm) (shared : List Step) (property : PropertyForm) (number : ℕ) (entry : Entry) (left rest : List Entry) → left ≡ entry ∷ rest
    → answers_from window shared property number left
    ≡ (record { window = window; shared = shared; property = property; number = number; entry = entry } ∷ []) ++ answers_from window shared property (number + 1) rest
entry_first window shared property number entry left rest first = ap (answers_from window shared property number) first

-- the first of the properties that are left, with its record
pub property_first : (window : WindowForm) (shared : List Step) (property : PropertyForm) (told : PropertyRecord) (entries : List Entry) (left more : List PropertyForm) (records rest : List PropertyRecord)
    → left ≡ property ∷ more → records ≡ told ∷ rest → entries ≡ entries_in told.body
    → answers_among window shared left records ≡ answers_from window shared property 0 entries ++ answers_among window shared more rest
property_first window shared property told entries left more records rest first second read =
    ap (λ (ps : List PropertyForm). answers_among window shared ps records) first
    ∙ ap (answers_among window shared (property ∷ more)) second
    ∙ ap (λ (es : List Entry). answers_from window shared property 0 es ++ answers_among window shared more rest) (sym read)

-- where no record is left, no instance is
pub no_records : (window : WindowForm) (shared : List Step) (left : List PropertyForm) (records : List PropertyRecord) → records ≡ [] → answers_among window shared left records ≡ []
no_records window shared [] records none = refl
no_records window shared (property ∷ left) records none = ap (answers_among window shared (property ∷ left)) none

-- nor where no property is
pub no_properties : (window : WindowForm) (shared : List Step) (left : List PropertyForm) (records : List PropertyRecord) → left ≡ [] → answers_among window shared left records ≡ []
no_properties window shared left records none = ap (λ (ps : List PropertyForm). answers_among window shared ps records) none

-- the first of the windows that are left, with its record
pub window_first : (properties : List PropertyForm) (window : WindowForm) (told : WindowRecord) (left more : List WindowForm) (records rest : List WindowRecord)
    → left ≡ window ∷ more → records ≡ told ∷ rest
    → answers_of properties left records ≡ answers_in properties window told ++ answers_of properties more rest
window_first properties window told left more records rest first second =
    ap (λ (ws : List WindowForm). answers_of properties ws records) first ∙ ap (answers_of properties (window ∷ more)) second

-- where no window is left, no instance is
pub no_windows : (properties : List PropertyForm) (left : List WindowForm) (records : List WindowRecord) → left ≡ [] → answers_of properties left records ≡ []
no_windows properties left records none = ap (λ (ws : List WindowForm). answers_of properties ws records) none

-- nor where no record is
pub no_window_records : (properties : List PropertyForm) (left : List WindowForm) (records : List WindowRecord) → records ≡ [] → answers_of properties left records ≡ []
no_window_records properties [] records none = refl
no_window_records properties (window ∷ left) records none = ap (answers_of properties (window ∷ left)) none

-- a window that is too large has no instance
pub large_none : (properties : List PropertyForm) (told : WindowRecord) (window : WindowForm) (fault : BaseFault) → ◌≡◌ {A = Result WindowForm BaseFault} (Err fault) (base_due window)
    → answers_in properties window told ≡ []
large_none properties told window fault due = ap (answers_over properties told) (sym due)
