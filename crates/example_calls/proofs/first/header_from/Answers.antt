use Rattle.example_calls.proofs.first.header_from.Goals as goal

pub prepare_page-requires-clause-next : goal.prepare_page-requires-clause-next
prepare_page-requires-clause-next c = c.slabs_of_new-held.ensures.next c.count-class.result
