use Rattle.std.proofs.lemmas.List.{length-map}
use Rattle.gp_drawing.specs.Rows.{row_of}
use Rattle.gp_drawing.proofs.Leading.{row_at}
use Rattle.gp_drawing.proofs.laws.rows_tell_parts.Goals as goal

pub returns : goal.returns
returns c = record {
  many = λ window story. length-map story.parts row_of;
  each = λ window story row part is. row_at story.parts row part is;
}
