use Rattle.std.proofs.Common.{◌≡◌, refl, sym, ap, ◌∙◌, subst, ◌+◌, cond, [], List}
use Rattle.gp_constraint.specs.Base.{base_of}
use Rattle.gp_decided.specs.Refuting.{shared_passes}
use Rattle.gp_resume.specs.Keeping.{Told}
use Rattle.gp_resume.specs.TestForm.{TestForm}
use Rattle.gp_resume.proofs.Listed.{KeptSoFar, all_properties, no_property_yet, property_more}
use Rattle.gp_resume.proofs.keeping.kept_by.Goals as goal

pub loop-property-init : goal.loop-property-init
loop-property-init c =
    let test = c.args.test.now in
    let properties = c.args.properties.now in (
      refl,
      subst (λ (kept : List Told). KeptSoFar c.args.told.now test.window properties properties 0 kept) (sym c.new-kept.ensures) (no_property_yet c.args.told.now test.window properties c.requires.few),
    )

pub kept_answers-requires : goal.kept_answers-requires
kept_answers-requires c = ap (λ (test : TestForm). test.shared) c.loop-property.invariant.0 ∙ c.requires.shared

pub loop-property-preserved : goal.loop-property-preserved
loop-property-preserved c =
    let test = c.args.test.now in
    let properties = c.args.properties.now in
    let more = c.in-Some.more.now in
    let far = c.loop-property.invariant in (
      c.in_ok-kept_answers.ensures.same ∙ far.0,
      subst (λ (kept : List Told). KeptSoFar c.args.told.now test.window properties more (c.loop-property.number + 1) kept) (sym c.in_ok-push.ensures.ok)
          (property_more c.args.told.now test.window properties c.loop-property.test c.loop-property.left.now more c.in-Some.property.now c.loop-property.number c.loop-property.kept
          c.in_ok-kept_answers.field-0 (ap (λ (t : TestForm). t.window) far.0) c.in-Some.ensures.cases.0 c.in_ok-kept_answers.ensures.kept far.1),
    )

pub returns : goal.returns
returns c =
    let test = c.args.test.now in
    let far = c.loop-property.invariant in
    let is : c.loop-property.test ≡ record { window = test.window; shared = c.args.told.now.shared } = far.0 ∙ (λ i. record { window = test.window; shared = c.requires.shared i }) in
    let made : c.new.result ≡ record { shared = cond (shared_passes (base_of c.loop-property.test.window) c.loop-property.test.shared) c.loop-property.test.shared []; answers = c.loop-property.kept } =
    c.new.ensures ∙ (λ i. record { shared = c.kept_shared.ensures i; answers = c.loop-property.kept }) in
    all_properties c.args.told.now test.window c.args.properties.now c.loop-property.test c.loop-property.left.now c.loop-property.number c.loop-property.kept c.new.result c.in_default.ensures.cases is made far.1
