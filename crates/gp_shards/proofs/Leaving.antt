-- What a cut leaves, by how its writes ended.
use Rattle.std.proofs.Common.{◌≡◌, ◌≢◌, refl, sym, ◌∙◌, subst, inl, inr, ℕ, List, arith}
use Rattle.std.specs.Prelude.{◌⊎◌, Bool, true, false, Option, None, Some, Result, Ok, Err, if◌then◌else◌}
use Rattle.gp_base.specs.Results.{and_then}
use Rattle.gp_files.specs.Writing.{AreMadeInOrder, WhereTold, files_at}
use Rattle.gp_outside.specs.Folders.{File}
use Rattle.gp_predict.specs.declared.reply.Reply.{Reply}
use Rattle.gp_predict.specs.Making as making
use Rattle.gp_words.specs.Sharding.{CutForm}
use Rattle.gp_shards.specs.declared.cutting.Cutting.{Cutting}
use Rattle.gp_shards.specs.Cutting.{cutting_at, cutting_from}
use Rattle.gp_shards.specs.declared.refusal.PartFault.TheVariants.{HoldsRecording}
use Rattle.gp_shards.specs.Leaving.{IsLeft, LeavesPart, made_in}
use Rattle.gp_shards.specs.Refusing.{part_refusal}
use Rattle.gp_shards.specs.Sparing.{holds_recording}

-- a cut whose files were to be written is not refused
pub unrefused : (status : ℕ) → (status ≡ 0) ⊎ (status ≡ 4) ⊎ (status ≡ 5) ⊎ (status ≡ 6) → status ≢ 3
unrefused status (inl zero) three = omega (arith, zero, three)
unrefused status (inr (inl four)) three = omega (arith, four, three)
unrefused status (inr (inr (inl five))) three = omega (arith, five, three)
unrefused status (inr (inr (inr six))) three = omega (arith, six, three)

left_from : (made : List File) (status : ℕ) (before after : List File) → status ≢ 3 → making.IsLeft made status before after → AreMadeInOrder made before after
    → IsLeft made status before after
left_from made status before after other left order = record {
  all = left.all;
  refused = λ three. absurd (other three);
  failed = λ four. inr (left.failed four);
  others = left.others;
  order = order;
}

-- a folder that holds a recording is refused
abbrev spared_where : List ℕ → Bool → Result (Unit {0}) Reply
spared_where out holds = if holds then Err (part_refusal out HoldsRecording) else Ok tt

none_where : (files : List File) (cut : CutForm) (cutting : Cutting) (holds : Bool) → holds ≡ true
    → and_then (spared_where cut.out holds) (λ spared. cutting_from files cut) ≡ Ok cutting → ⊥
none_where files cut cutting true held came = absurd (cc)
none_where files cut cutting false held came = absurd (cc)

none_held : (files : List File) (cut : CutForm) (cutting : Cutting) → holds_recording files cut.out ≡ true → cutting_at files cut ≡ Ok cutting → ⊥
none_held files cut cutting held came = none_where files cut cutting (holds_recording files cut.out) held came

-- two facts of the files that are told hold of the same files
both_told : (P Q : List File → List File → Type 0) (before : List File) (after : Option (List File)) → WhereTold (Some before) after P → WhereTold (Some before) after Q
    → WhereTold (Some before) after (λ old new. P old new × Q old new)
both_told P Q before after one other =
    let same : Some one.0 ≡ Some other.0 = sym one.1 ∙ other.1 in
    (one.0, one.1, (one.2, subst IsFact (sym same) other.2))
  where
    IsFact : Option (List File) → Type 0
    IsFact None = Unit {0}
    IsFact (Some files) = Q before files

-- the files were written, or some of them
pub files_left : (cut : CutForm) (cutting : Cutting) (status : ℕ) (middle before after : Option (List File)) → status ≢ 3 → middle ≡ before
    → ((told : List File) → before ≡ Some told → cutting_at told cut ≡ Ok cutting) → making.LeavesMade (files_at cut.out cutting.files) status middle after
    → WhereTold middle after (AreMadeInOrder (files_at cut.out cutting.files)) → WhereTold before after (LeavesPart cut status)
files_left cut cutting status middle None after other same came left order =
    subst (λ (old : Option (List File)). making.LeavesMade (files_at cut.out cutting.files) status old after) same left
files_left cut cutting status middle (Some told) after other same came left order =
    let made = files_at cut.out cutting.files in
    let both = both_told (making.IsLeft made status) (AreMadeInOrder made) told after
    (subst (λ (old : Option (List File)). making.LeavesMade made status old after) same left)
    (subst (λ (old : Option (List File)). WhereTold old after (AreMadeInOrder made)) same order) in (
      both.0,
      both.1,
      (record {
        left = subst (λ (due : Result Cutting Reply). IsLeft (made_in cut.out due) status told both.0) (sym (came told refl))
            (left_from made status told both.0 other both.2.0 both.2.1);
        spared = λ held. absurd (none_held told cut cutting held (came told refl));
      }),
    )
