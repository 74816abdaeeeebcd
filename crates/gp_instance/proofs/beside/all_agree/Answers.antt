-- Each parameter of the shape agrees; where nothing is bound, all agree with it.
use Rattle.std.proofs.Common.{◌∙◌, ap, sym}
use Rattle.gp_instance.specs.Search.{all_agree}
use Rattle.gp_instance.specs.Shape.{bindings_in, terms_of}
use Rattle.gp_instance.proofs.Agreeing.{all_along}
use Rattle.gp_instance.proofs.Pairs.{all_true}
use Rattle.gp_instance.proofs.beside.all_agree.Goals as goal

pub returns-in-Some : goal.returns-in-Some
returns-in-Some c =
    rw c.in-Some.is
    (c.each_agrees.ensures ∙ all_along c.args.bindings.now c.terms_of.result.now c.names_of.result.now ∙ ap (λ terms. all_agree c.args.bindings.now (bindings_in terms c.names_of.result.now)) c.terms_of.ensures ∙ ap (λ names. all_agree c.args.bindings.now (bindings_in (terms_of c.args.shape.now) names)) c.names_of.ensures)

pub returns-in-None : goal.returns-in-None
returns-in-None c = rw c.in-None.is (sym (all_true c.args.bindings.now))
