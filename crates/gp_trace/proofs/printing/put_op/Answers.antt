use Rattle.std.proofs.Common.{◌∙◌, ◌++◌, ◌∷◌, []}
use Rattle.gp_trace.proofs.Texts.{on_if, op_text}
use Rattle.gp_trace.proofs.printing.put_op.Goals as goal

pub returns : goal.returns
returns c =
    on_if c.extend_from_slice-3.result c.extend_from_slice-3.new.self.items (c.put_objects.new.out.items ++ 10 ∷ []) c.put_objects.new.out.items
    (λ e. e ∙ rw (c.in_ok-put_objects.ensures, c.in_ok-extend_from_slice-2.ensures.items, c.as_bytes.ensures.value, c.in_ok-extend_from_slice.ensures.items) (op_text c.args.out.now.items c.args.name.now c.args.objects.now))
    c.extend_from_slice-3.ensures.items
