-- The pieces of the head, one behind the other.
use Rattle.gp_show.specs.Show.{page_head}
use Rattle.gp_show.proofs.Pieces.{five_put}
use Rattle.gp_show.proofs.page.put_page_head.Goals as goal

pub returns : goal.returns
unfolding page_head
returns c =
    five_put c.args.text.now.items _ _ _ _ _ _ _ _ _ _ c.in_ok-extend_from_slice.ensures.items c.in_ok-put_style_sheet.ensures c.in_ok-extend_from_slice-2.ensures.items c.in_ok-put_tip.ensures
    c.in_ok-extend_from_slice-3.ensures.items
