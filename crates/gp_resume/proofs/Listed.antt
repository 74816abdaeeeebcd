-- What is kept of each property, one after another.
use Rattle.std.proofs.Common.{◌≡◌, ◌⊎◌, inl, inr, refl, sym, ap, ◌∙◌, subst, Bool, true, false, ℕ, zero, suc, ◌+◌, ◌<◌, ◌≤◌, List, [], ◌∷◌, ◌++◌, Option, Some, None, Result, Ok, Err, cond, length, Contains, arith}
use Rattle.std.specs.List.{slice_get}
use Rattle.std.proofs.lemmas.List.{append-nil, append_assoc, length_push}
use Rattle.std.proofs.lemmas.Option.{none-some, same_Some, slice_get_within}
use Rattle.gp_base.specs.ListLaws.{slice_get_back, slice_get_front}
use Rattle.gp_certificate.specs.declared.step.Step.{Step}
use Rattle.gp_constraint.specs.Base.{base_of}
use Rattle.gp_decided.specs.Refuting.{shared_passes}
use Rattle.gp_instance.specs.declared.instance.Instance.{Instance}
use Rattle.gp_instance.specs.declared.instance.InstancesFault.{InstancesFault}
use Rattle.gp_instance.specs.Instances.{due_instances}
use Rattle.gp_property.specs.PropertyForm.{PropertyForm}
use Rattle.gp_report.specs.Entries.{properties_in}
use Rattle.gp_report.specs.Records.{Entry, WindowRecord}
use Rattle.gp_window.specs.declared.schedule.EventId.{EventId}
use Rattle.gp_window.specs.WindowForm.{WindowForm}
use Rattle.gp_resume.specs.Kept.{answer_kept, where_passes}
use Rattle.gp_resume.specs.KeptForm.{IsKeptOf, IsListedIn, KeptForm, answer_by, answer_to}
use Rattle.gp_resume.specs.Keeping.{KeepsListed, KeepsStanding, Told, passed}
use Rattle.gp_resume.specs.Old.{answer_in, entries_named}
use Rattle.gp_resume.specs.Standing.{stands}
use Rattle.gp_resume.specs.Table.{answer_at}
use Rattle.gp_resume.specs.TestForm.{TestForm}

same_Ok : {A E : Type 0} (x y : A) → ◌≡◌ {A = Result A E} (Ok x) (Ok y) → x ≡ y
same_Ok {A} {E} x y is = ap (λ (r : Result A E). at r) is
  where
    at : Result A E → A
    at (Ok z) = z
    at (Err e) = x

-- of the instances that are listed those answers are left that are kept
pub listed_kept : (told : WindowRecord) (test : TestForm) (property : PropertyForm) (number : ℕ) (listed : List Instance) (entries : List Entry) (first left : Told) → test.shared ≡ told.shared
    → Ok listed ≡ due_instances test.window property number → entries ≡ entries_named property.name (properties_in told.body) → ((ids : List EventId) → answer_at first ids ≡ answer_in entries ids)
    → KeepsStanding test property listed first left → KeepsListed told test property number left
listed_kept told test property number listed entries first left shared due entries_are first_are keeps ids (listed', instance, due', within, events) =
    let same : listed' ≡ listed = same_Ok {E = InstancesFault} listed' listed (sym due' ∙ sym due) in
    let stays = subst (λ (i : List EventId). passed test property i (answer_at left i) ≡ answer_at left i) events (keeps.stay instance (subst (λ xs. Contains xs instance) same within)) in
    sym stays ∙ keeps.loses_none ids ∙ ap (passed test property ids) (first_are ids ∙ ap (λ (es : List Entry). answer_in es ids) entries_are)
    ∙ ap (λ (steps : List Step). where_passes (stands steps test.window property ids) (answer_in (entries_named property.name (properties_in told.body)) ids)) shared

-- where there are too many none is listed
pub none_listed : (told : WindowRecord) (test : TestForm) (property : PropertyForm) (number : ℕ) (fault : InstancesFault) (answers : Told) → Err fault ≡ due_instances test.window property number
    → KeepsListed told test property number answers
none_listed told test property number fault answers due ids (listed, instance, due', within, events) =
    let clash : ◌≡◌ {A = Result (List Instance) InstancesFault} (Err fault) (Ok listed) = due ∙ due' in absurd cc

front_or_last : {X : Type 0} (xs : List X) (x : X) (k : ℕ) (y : X) → slice_get (xs ++ x ∷ []) k ≡ Some y → (slice_get xs k ≡ Some y) ⊎ ((k ≡ length xs) × (x ≡ y))
front_or_last [] x zero y got = inr (refl, same_Some x y got)
front_or_last [] x (suc k) y got = absurd (none-some y got)
front_or_last (first ∷ xs) x zero y got = inl got
front_or_last (first ∷ xs) x (suc k) y got = elim (front_or_last xs x k y got) [
  | inl before ↦ inl before
  | inr last ↦ inr (ap suc last.0, last.1)
]

at_front : {X : Type 0} (xs : List X) (x : X) (k : ℕ) → k < length xs → slice_get (xs ++ x ∷ []) k ≡ slice_get xs k
at_front xs x k within = slice_get_front xs (x ∷ []) k within

at_last : {X : Type 0} (xs : List X) (x : X) (k : ℕ) → k ≡ length xs → slice_get (xs ++ x ∷ []) k ≡ Some x
at_last xs x k is = ap (λ n. slice_get (xs ++ x ∷ []) n) (omega (arith, is)) ∙ slice_get_back xs (x ∷ []) 0

module _ (told : WindowRecord) (window : WindowForm) (properties : List PropertyForm) where
  -- of the properties before these each has what is kept
  pub record KeptSoFar (left : List PropertyForm) (number : ℕ) (kept : List Told) : Type 0 where
    pub done : List PropertyForm
    pub parted : properties ≡ done ++ left
    pub counted : length done ≡ number
    pub sized : length kept ≡ number
    pub few : number + length left ≤ 64
    pub each : (k : ℕ) (property : PropertyForm) → slice_get done k ≡ Some property
        → (ids : List EventId) → IsListedIn window property k ids → answer_by (slice_get kept k) ids ≡ answer_kept (Some told) window property ids

  pub no_property_yet : length properties ≤ 64 → KeptSoFar properties 0 []
  no_property_yet few = record {
    done = [];
    parted = refl;
    counted = refl;
    sized = refl;
    few = omega (arith, few);
    each = λ k property got. absurd (none-some property got);
  }

  pub property_more : (test : TestForm) (left more : List PropertyForm) (property : PropertyForm) (number : ℕ) (kept : List Told) (answers : Told) → test.window ≡ window → left ≡ property ∷ more
      → KeepsListed told test property number answers → KeptSoFar left number kept → KeptSoFar more (number + 1) (kept ++ answers ∷ [])
  property_more test left more property number kept answers same split keeps far = record {
    done = far.done ++ property ∷ [];
    parted = far.parted ∙ ap (λ xs. far.done ++ xs) split ∙ sym (append_assoc far.done (property ∷ []) more);
    counted = omega (arith, length_push far.done property, far.counted);
    sized = omega (arith, length_push kept answers, far.sized);
    few = omega (arith, far.few, ap (λ (xs : List PropertyForm). length xs) split);
    each = λ k other got ids listed. elim (front_or_last far.done property k other got) [
      | inl before ↦
          let inside : k < length kept = omega (arith, slice_get_within far.done k other before, far.counted, far.sized) in
          ap (λ o. answer_by o ids) (at_front kept answers k inside) ∙ far.each k other before ids listed
      | inr last ↦
          let place : k ≡ length kept = omega (arith, last.0, far.counted, far.sized) in
          let here : number ≡ k = omega (arith, last.0, far.counted) in
          let kept_here : KeepsListed told test property k answers = subst (λ (n : ℕ). KeepsListed told test property n answers) here keeps in
          ap (λ o. answer_by o ids) (at_last kept answers k place)
          ∙ subst (λ (p : PropertyForm). (w : WindowForm) → w ≡ window → IsListedIn w p k ids → answer_at answers ids ≡ answer_kept (Some told) w p ids → answer_at answers ids ≡ answer_kept (Some told) window p ids) last.1
          (λ w is _ told_so. subst (λ (v : WindowForm). answer_at answers ids ≡ answer_kept (Some told) v property ids) is told_so)
          test.window same (subst (λ (v : WindowForm). IsListedIn v other k ids) (sym same) listed)
          (subst (λ (p : PropertyForm). IsListedIn test.window p k ids → answer_at answers ids ≡ answer_kept (Some told) test.window p ids) last.1 (kept_here ids) (subst (λ (v : WindowForm). IsListedIn v other k ids) (sym same) listed))
    ];
  }

  pub all_properties : (test : TestForm) (left : List PropertyForm) (number : ℕ) (kept : List Told) (form : KeptForm) → length left ≡ 0 → test ≡ record { window = window; shared = told.shared }
      → form ≡ record { shared = cond (shared_passes (base_of test.window) test.shared) test.shared []; answers = kept } → KeptSoFar left number kept → IsKeptOf (Some told) window properties form
  all_properties test left number kept form none is made far = record {
    shared = ap (λ (f : KeptForm). f.shared) made ∙ ap (λ (t : TestForm). cond (shared_passes (base_of t.window) t.shared) t.shared []) is;
    answers = λ k property got ids listed.
        let whole : properties ≡ far.done = far.parted ∙ ap (λ xs. far.done ++ xs) (nothing left none) ∙ append-nil far.done in
        ap (λ (f : KeptForm). answer_to f k ids) made ∙ far.each k property (ap (λ (ps : List PropertyForm). slice_get ps k) (sym whole) ∙ got) ids listed;
  }
    where
      nothing : (xs : List PropertyForm) → length xs ≡ 0 → xs ≡ []
      nothing [] e = refl
      nothing (x ∷ xs) e = absurd (omega (arith, e))

-- of a window without an old record nothing is kept
pub nothing_kept : (old : Option WindowRecord) (window : WindowForm) (properties : List PropertyForm) (form : KeptForm) → old ≡ None → form ≡ record { shared = []; answers = [] } → IsKeptOf old window properties form
nothing_kept old window properties form none made =
    subst (λ (o : Option WindowRecord). IsKeptOf o window properties form) (sym none)
    (subst (λ (f : KeptForm). IsKeptOf None window properties f) (sym made) (record { shared = sym (by (shared_passes (base_of window) [])); answers = λ k property got ids listed. refl }))
  where
    by : (b : Bool) → ◌≡◌ {A = List Step} (cond b [] []) []
    by true = refl
    by false = refl
