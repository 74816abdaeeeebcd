-- Answers that stand stay, and those that do not are taken away.
use Rattle.std.proofs.Common.{◌≡◌, ◌⊎◌, inl, inr, refl, sym, ap, ◌∙◌, subst, true, false, List, ◌∷◌, Option, Some, None, cond, length, Contains, arith}
use Rattle.std.proofs.lemmas.List.Elements.{All-tail}
use Rattle.gp_base.specs.ListLaws.{first_or_rest}
use Rattle.gp_instance.specs.declared.instance.Instance.{Instance}
use Rattle.gp_instance.specs.Instance.{is_instance}
use Rattle.gp_instance.specs.ListedLaws.{AreInstances}
use Rattle.gp_property.specs.PropertyForm.{PropertyForm}
use Rattle.gp_report.specs.Records.{Answer}
use Rattle.gp_window.specs.declared.schedule.EventId.{EventId}
use Rattle.gp_resume.specs.Keeping.{KeepsOne, KeepsStanding, LosesNone, Stays, Told, passed}
use Rattle.gp_resume.specs.Standing.{stands}
use Rattle.gp_resume.specs.Table.{answer_at}
use Rattle.gp_resume.specs.TestForm.{TestForm}
use Rattle.gp_resume.proofs.SameIds.{ids_cases}

module _ (test : TestForm) (property : PropertyForm) where
  stays_none : (ids : List EventId) (answer : Option Answer) → answer ≡ None → Stays test property ids answer
  stays_none ids answer none = subst (Stays test property ids) (sym none) refl

  stays_some : (ids : List EventId) (answer : Option Answer) (told : Answer) → answer ≡ Some told → stands test.shared test.window property ids told ≡ true → Stays test property ids answer
  stays_some ids answer told some stand = subst (Stays test property ids) (sym some) (ap (λ b. cond b (Some told) None) stand)

  unchanged : (ids : List EventId) (answers : Told) → Stays test property ids (answer_at answers ids) → KeepsOne test property ids answers answers
  unchanged ids answers stays = record { loses_none = λ other. refl; here = stays; others = λ other stays_there. stays_there }

  -- nothing was there
  pub nothing_there : (ids : List EventId) (answers : Told) → answer_at answers ids ≡ None → KeepsOne test property ids answers answers
  nothing_there ids answers none = unchanged ids answers (stays_none ids (answer_at answers ids) none)

  -- what is there stands
  pub stands_there : (ids : List EventId) (answers : Told) (told : Answer) → answer_at answers ids ≡ Some told → stands test.shared test.window property ids told ≡ true → KeepsOne test property ids answers answers
  stands_there ids answers told some stand = unchanged ids answers (stays_some ids (answer_at answers ids) told some stand)

  -- what was there does not stand, and is taken away
  pub taken_away : (ids : List EventId) (before after : Told) (told : Answer) → answer_at before ids ≡ Some told → stands test.shared test.window property ids told ≡ false → answer_at after ids ≡ None
      → ((other : List EventId) → (ids ≡ other → ⊥) → answer_at after other ≡ answer_at before other) → KeepsOne test property ids before after
  taken_away ids before after told some falls none others = record {
    loses_none = λ other. loses other (ids_cases ids other);
    here = stays_none ids (answer_at after ids) none;
    others = λ other stays. stay other stays (ids_cases ids other);
  }
    where
      loses : (other : List EventId) → (ids ≡ other) ⊎ (ids ≡ other → ⊥) → passed test property other (answer_at after other) ≡ passed test property other (answer_at before other)
      loses other (inl same) =
          subst (λ (i : List EventId). passed test property i (answer_at after i) ≡ passed test property i (answer_at before i)) same
          (ap (passed test property ids) none ∙ sym (ap (passed test property ids) some ∙ ap (λ b. cond b (Some told) None) falls))
      loses other (inr apart) = ap (passed test property other) (others other apart)

      stay : (other : List EventId) → Stays test property other (answer_at before other) → (ids ≡ other) ⊎ (ids ≡ other → ⊥) → Stays test property other (answer_at after other)
      stay other stays (inl same) = subst (λ (i : List EventId). Stays test property i (answer_at after i)) same (stays_none ids (answer_at after ids) none)
      stay other stays (inr apart) = subst (Stays test property other) (sym (others other apart)) stays

  -- of some instances those that are not left have answers that stay
  pub record KeepsSoFar (listed left : List Instance) (before after : Told) : Type 0 where
    pub loses_none : LosesNone test property before after
    pub stay : (instance : Instance) → Contains listed instance → Contains left instance ⊎ Stays test property instance.events (answer_at after instance.events)
    pub instances : AreInstances test.window property left

  pub none_yet : (listed : List Instance) (answers : Told) → AreInstances test.window property listed → KeepsSoFar listed listed answers answers
  none_yet listed answers instances = record { loses_none = λ ids. refl; stay = λ instance within. inl within; instances = instances }

  pub one_more : (listed left more : List Instance) (instance : Instance) (before after next : Told) → left ≡ instance ∷ more → KeepsOne test property instance.events after next
      → KeepsSoFar listed left before after → KeepsSoFar listed more before next
  one_more listed left more instance before after next split keeps far = record {
    loses_none = λ ids. keeps.loses_none ids ∙ far.loses_none ids;
    stay = λ other within. elim (far.stay other within) [
      | inl in_left ↦ elim (first_or_rest instance more other (subst (λ xs. Contains xs other) split in_left)) [
        | inl same ↦ inr (subst (λ (i : Instance). Stays test property i.events (answer_at next i.events)) same keeps.here)
        | inr later ↦ inl later
      ]
      | inr stays ↦ inr (keeps.others other.events stays)
    ];
    instances = All-tail (λ (i : Instance). is_instance test.window property i.events ≡ true) instance more (subst (AreInstances test.window property) split far.instances);
  }

  pub all_of_them : (listed left : List Instance) (before after : Told) → length left ≡ 0 → KeepsSoFar listed left before after → KeepsStanding test property listed before after
  all_of_them listed left before after none far = record {
    loses_none = far.loses_none;
    stay = λ instance within. elim (far.stay instance within) [
      | inl in_left ↦ absurd (let (k, inside, is) = in_left in omega (arith, inside, none))
      | inr stays ↦ stays
    ];
  }
