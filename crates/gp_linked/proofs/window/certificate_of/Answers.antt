-- The certificate can be made, and refutes the problem.
use Rattle.std.proofs.Common.{ℕ, sym, subst, List, [], ◌∷◌}
use Rattle.gp_certificate.specs.Certificate.{Refutes}
use Rattle.gp_constraint.specs.Extended.{nothing_asked}
use Rattle.gp_derivation.specs.declared.record.WorkerRecord.{WorkerRecord}
use Rattle.gp_workers.specs.Work.{CanBeCertified, certificate_by}
use Rattle.gp_linked.proofs.Asked.{certificate_refutes, certified}
use Rattle.gp_linked.proofs.window.certificate_of.Goals as goal

pub certificate_by-requires : goal.certificate_by-requires
certificate_by-requires c =
    let problem = c.args.problem.now in
    let last = c.args.last.now in
    subst (λ (records : List WorkerRecord). CanBeCertified c.len-clauses.result records c.args.worker last) (sym c.from_ref.ensures.value)
    (subst (λ (clauses : ℕ). CanBeCertified clauses (c.args.own.now ∷ []) c.args.worker last) (sym c.len-clauses.ensures)
    (certified problem nothing_asked (c.args.own.now ∷ []) c.args.worker last c.requires.refuted))

pub returns : goal.returns
returns c =
    let problem = c.args.problem.now in
    let last = c.args.last.now in
    subst (Refutes problem nothing_asked) (sym c.in_ok-certificate.ensures)
    (subst (λ (records : List WorkerRecord). Refutes problem nothing_asked (certificate_by c.len-clauses.result records c.args.worker last)) (sym c.from_ref.ensures.value)
    (subst (λ (clauses : ℕ). Refutes problem nothing_asked (certificate_by clauses (c.args.own.now ∷ []) c.args.worker last)) (sym c.len-clauses.ensures)
    (certificate_refutes problem nothing_asked (c.args.own.now ∷ []) c.args.worker last c.requires.refuted)))
