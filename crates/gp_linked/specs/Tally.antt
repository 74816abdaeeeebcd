-- How many windows have each kind of answer.
use Rattle.std.specs.Prelude.{◌+◌, List, count_by}
use Rattle.gp_linked.specs.declared.answer.LinkAnswer.{LinkAnswer}
use Rattle.gp_linked.specs.declared.tally.Tally.{Tally}
use Rattle.gp_linked.specs.Kinds.{is_linked, is_too_large, is_undecided, is_unlinkable}

-- a tally with these answers too
abbrev pub with_links : Tally → List LinkAnswer → Tally
with_links tally links = record {
  linked = tally.linked + count_by is_linked links;
  unlinkable = tally.unlinkable + count_by is_unlinkable links;
  undecided = tally.undecided + count_by is_undecided links;
  too_large = tally.too_large + count_by is_too_large links;
}

-- the tally of these answers
abbrev pub tally_of : List LinkAnswer → Tally
tally_of links = with_links (record { linked = 0; unlinkable = 0; undecided = 0; too_large = 0 }) links
