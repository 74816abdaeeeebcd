use Rattle.std.proofs.Common.{rules, ◌≡◌, ◌++◌, ◌-◌, Bool, None, if◌then◌else◌, take, replicate, vec_len, subst, refl}
use Rattle.gp_certificate.proofs.Settling.{resized}
use Rattle.gp_certificate.proofs.assignment.Assignment.resize.Goals as goal

pub returns-clause-kept : goal.returns-clause-kept
returns-clause-kept c =
    let old = c.args.self.now.values in
    let n = c.args.variables in
    let P : Bool → Type 0 = λ b. c.resize.new.self.items ≡ (if b then (take n old.items ++ replicate (n - vec_len old) None) else old.items) in
    resized c.args.self.now _ n (n - vec_len old) c.requires.kept c.requires.none (subst P (c.resize.ensures.succeeds c.requires.values) c.resize.ensures.items)
    (search rules) refl c.requires.trail
