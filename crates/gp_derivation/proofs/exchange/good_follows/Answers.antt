use Rattle.gp_derivation.proofs.exchange.good_follows.Goals as goal

pub returns : goal.returns
returns c = λ problem clause certificate valid good. c.certificate_follows.ensures.proved problem certificate clause valid good.proves
