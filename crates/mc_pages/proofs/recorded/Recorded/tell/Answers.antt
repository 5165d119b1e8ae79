use Rattle.std.proofs.Common.{◌-◌, ◌++◌, vec_len, vec_capacity, [], ◌∷◌, List, append_assoc, refl, sym, ap, ◌∙◌, arith}
use Rattle.mc_pages.specs.declared.ledger.Entry.{Entry}
use Rattle.mc_pages.specs.Base.{Entries}
use Rattle.mc_pages.specs.RecordedInside.{entries_of}
use Rattle.mc_pages.proofs.Roomy.{if_ok}
use Rattle.mc_pages.proofs.Trimmed.{same_entries, told_entries}
use Rattle.mc_pages.proofs.recorded.Recorded.tell.Goals as goal

pub returns : goal.returns
returns c =
    record {
      records =
          let pushed = c.push.ensures.items ∙ if_ok c.push.result _ _ _ c.unwrap.ensures in
          same_entries _ (told_entries (entries_of c.self.inside) c.args.entry _)
          (ap (λ (tail : List Entry). c.self.inside.past.entries ++ tail) pushed ∙ sym (append_assoc c.self.inside.past.entries c.self.inside.tail.items (c.args.entry ∷ []))) refl refl refl
          ∙ ap (λ (entries : Entries). told_entries entries c.args.entry (vec_capacity c.push.new.self - vec_len c.push.new.self)) c.self.view_is;
      room = omega (arith, c.push.ensures.len, c.push.ensures.upper_bound, c.push.ensures.capacity, ap (λ (entries : Entries). entries.room) c.self.view_is);
    }
