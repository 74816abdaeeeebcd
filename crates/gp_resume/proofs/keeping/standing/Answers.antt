use Rattle.std.proofs.Common.{◌∙◌, subst}
use Rattle.gp_resume.specs.Keeping.{KeepsOne}
use Rattle.gp_resume.specs.TestForm.{TestForm}
use Rattle.gp_resume.proofs.Stayed.{one_more}
use Rattle.gp_resume.proofs.keeping.standing.Goals as goal

-- src/keeping.rt:93:5
pub loop-instance-preserved : goal.loop-instance-preserved
loop-instance-preserved c =
    let test = c.args.test.now in
    let property = c.args.property.now in
    let far = c.loop-instance.invariant in
    let instance = c.in-Some.instance.now in
    let keeps = subst (λ (t : TestForm). KeepsOne t property instance.events c.loop-instance.kept c.in_ok-kept.kept) far.0 c.in_ok-kept.ensures.kept in (
      c.in_ok-kept.ensures.same ∙ far.0,
      one_more test property c.args.listed.now c.loop-instance.left.now c.in-Some.more.now instance c.args.answers c.loop-instance.kept c.in_ok-kept.kept c.in-Some.ensures.cases.0 keeps far.1,
    )
