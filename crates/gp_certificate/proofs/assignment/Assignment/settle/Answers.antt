use Rattle.std.proofs.Common.{rules, ◌≡◌, ◌≤◌, take, length, ap, sym, ◌∙◌, subst, arith}
use Rattle.std.proofs.lemmas.List.{take_all}
use Rattle.gp_certificate.specs.Counting.{AreDone}
use Rattle.gp_certificate.specs.Loaded.{LoadedForm}
use Rattle.gp_certificate.proofs.Propagating.{goes_begun, goes_more, found_more, first_on}
use Rattle.gp_certificate.proofs.assignment.Assignment.settle.Goals as goal

pub returns-then-begin-clause-on : goal.returns-then-begin-clause-on
returns-then-begin-clause-on c = goes_begun c.args.self.now c.begin.new.self c.args.loaded.now c.requires.exact c.begin.ensures.extends c.begin.ensures.closing c.begin.ensures.cursor

pub loop-self-init : goal.loop-self-init
loop-self-init c =
    let first : take c.begin.new.self.cursor c.begin.new.self.trail.items ≡ take c.args.self.now.cursor c.args.self.now.trail.items =
    ap (λ n. take n c.begin.new.self.trail.items) c.begin.ensures.cursor ∙ first_on c.args.self.now c.begin.new.self c.args.self.now.cursor c.begin.ensures.extends c.requires.exact.within in (
      goes_begun c.args.self.now c.begin.new.self c.args.loaded.now c.requires.exact c.begin.ensures.extends c.begin.ensures.closing c.begin.ensures.cursor,
      subst (λ ls. AreDone ls c.begin.new.self.values.items c.args.loaded.now.clauses) (sym first) c.if-begin.ensures.gives,
    )

pub returns-then-fall-clause-on : goal.returns-then-fall-clause-on
returns-then-fall-clause-on c = goes_more c.args.self.now c.loop-self.self c.fall.new.self c.args.loaded.now c.loop-self.loaded c.fall.new.loaded c.loop-self.invariant.0 c.fall.ensures.on

pub returns-then-fall-clause-gives : goal.returns-then-fall-clause-gives
returns-then-fall-clause-gives c = found_more c.args.self.now c.loop-self.self c.args.loaded.now c.loop-self.loaded c.loop-self.invariant.0 c.if-fall.ensures.gives

pub loop-self-preserved : goal.loop-self-preserved
loop-self-preserved c = (
  goes_more c.args.self.now c.loop-self.self c.fall.new.self c.args.loaded.now c.loop-self.loaded c.fall.new.loaded c.loop-self.invariant.0 c.fall.ensures.on,
  subst (λ cs. AreDone (take c.fall.new.self.cursor c.fall.new.self.trail.items) c.fall.new.self.values.items cs) (ap (λ (l : LoadedForm). l.clauses) c.loop-self.invariant.0.same) c.if-fall.ensures.gives,
)

pub returns-clause-gives : goal.returns-clause-gives
returns-clause-gives c =
    let end : length c.loop-self.self.trail.items ≤ c.loop-self.self.cursor = search rules in
    record {
      all = omega (arith, end, c.loop-self.invariant.0.exact.within);
      done = subst (λ ls. AreDone ls c.loop-self.self.values.items c.args.loaded.now.clauses) (take_all c.loop-self.self.cursor c.loop-self.self.trail.items end) c.loop-self.invariant.1;
    }
