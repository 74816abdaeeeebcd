use Rattle.std.proofs.Common.{◌≡◌, sym, subst, ◌-◌, Option, Some, None, List, length, inr, refl, arith, rules}
use Rattle.std.specs.List.{slice_get}
use Rattle.std.proofs.lemmas.Option.{slice_get_read}
use Rattle.gp_certificate.specs.declared.certificate.Certificate.{Certificate}
use Rattle.gp_derivation.specs.declared.log.LogEntry.{LogEntry}
use Rattle.gp_derivation.specs.Fit.{IsFitBy, IsSmallCone}
use Rattle.gp_search.proofs.Offering.{copy_good, last_told, learned_numbered, offered_entry}
use Rattle.gp_search.proofs.engine.Engine.share.Goals as goal

pub small_cone-requires-clause-numbered : goal.small_cone-requires-clause-numbered
small_cone-requires-clause-numbered g c = λ own got.
    learned_numbered c.args.asked.now.problem.now c.args.asked.now.query.now c.args.self.now c.as_slice.result.now (c.len-place.result - 1) own c.requires.turning c.as_slice.ensures.value got (omega (arith, c.requires.last, c.len-place.ensures))

pub returns-in_default-clause-offers : goal.returns-in_default-clause-offers
returns-in_default-clause-offers g c = λ front entry same.
    let none : c.in_ok-certificate.field-0 ≡ None = search rules in
    inr (
      last_told c.args.asked.now.problem.now c.args.self.now.log.items c.as_slice.result.now front entry c.len-place.result None c.as_slice.ensures.value same (omega (arith, c.len-place.ensures))
          (λ e got. subst (λ (o : Option Certificate). IsSmallCone c.args.asked.now.problem.now c.as_slice.result.now e o) none (c.in_ok-certificate.ensures e got)),
      refl,
    )

pub offer-requires-clause-good : goal.offer-requires-clause-good
offer-requires-clause-good g c =
    let some : c.in_ok-certificate.field-0 ≡ Some c.in-Some.certificate = search rules in
    let size : c.len-place.result ≡ length c.args.self.now.log.items = omega (arith, c.len-place.ensures) in
    let got : slice_get c.args.self.now.log.items (c.len-place.result - 1) ≡ Some c.index.result.now =
    slice_get_read c.args.self.now.log.items (length c.args.self.now.log.items) (c.len-place.result - 1) c.index.result.now refl (omega (arith, size, c.requires.last)) c.index.ensures in
    copy_good c.fit_is_good.ensures c.args.asked.now.problem.now (g.M.Mail.problem c.args.mail.now) c.args.asked.now.query.now c.args.self.now c.args.self.now.log.items (c.len-place.result - 1) c.index.result.now c.in-Some.certificate c.sender.result c.in_ok-shared.shared c.requires.turning
    refl c.requires.mail got
    (λ e at. subst (λ (es : List LogEntry). IsFitBy c.args.asked.now.problem.now es e c.in-Some.certificate) c.as_slice.ensures.value
    (subst (λ (o : Option Certificate). IsSmallCone c.args.asked.now.problem.now c.as_slice.result.now e o) some (c.in_ok-certificate.ensures e (subst (λ (es : List LogEntry). slice_get es (c.len-place.result - 1) ≡ Some e) (sym c.as_slice.ensures.value) at))))
    c.in_ok-shared.ensures

pub returns-clause-offers : goal.returns-clause-offers
returns-clause-offers g c = λ front entry same.
    let some : c.in_ok-certificate.field-0 ≡ Some c.in-Some.certificate = search rules in
    let size : c.len-place.result ≡ length c.args.self.now.log.items = omega (arith, c.len-place.ensures) in
    let got : slice_get c.args.self.now.log.items (c.len-place.result - 1) ≡ Some c.index.result.now =
    slice_get_read c.args.self.now.log.items (length c.args.self.now.log.items) (c.len-place.result - 1) c.index.result.now refl (omega (arith, size, c.requires.last)) c.index.ensures in
    offered_entry c.offer.result c.args.asked.now.problem.now c.args.self.now.log.items c.as_slice.result.now front entry c.index.result.now c.len-place.result c.sender.result c.in-Some.certificate c.in_ok-shared.shared (g.M.Mail.told c.args.mail.now)
    (g.M.Mail.told c.offer.new.self) c.as_slice.ensures.value same size (subst (λ (es : List LogEntry). slice_get es (c.len-place.result - 1) ≡ Some c.index.result.now) (sym c.as_slice.ensures.value) got)
    (λ e at. subst (λ (o : Option Certificate). IsSmallCone c.args.asked.now.problem.now c.as_slice.result.now e o) some (c.in_ok-certificate.ensures e at)) c.in_ok-shared.ensures c.offer.ensures.ok
