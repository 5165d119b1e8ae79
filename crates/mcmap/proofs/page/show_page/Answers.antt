use Rattle.mcmap.proofs.Paged.{page}
use Rattle.mcmap.proofs.page.show_page.Goals as goal

pub returns : goal.returns
returns c = record {
  page = page _ _ _ _ _ _ _ _ c.deref.ensures.value c.in_ok-write_head.ensures c.in_ok-show_all.ensures.maps c.in_ok-write_tail.ensures;
}
