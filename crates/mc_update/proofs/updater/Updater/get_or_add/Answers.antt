use Rattle.std.proofs.Common.{◌∙◌, Ok, ap, inl, inr, refl}
use Rattle.mc_update.proofs.updater.Updater.get_or_add.Goals as goal

pub returns-in-Err-clause-gets : goal.returns-in-Err-clause-gets
returns-in-Err-clause-gets g c = λ is. inr (inr (inl (
  c.in-Err.error,
  refl,
  record {
    none = c.get.ensures.none (c.in-Ok-false.is ∙ ap Ok c.in-Ok-false.field-0-test);
    only = record { calls = c.get.ensures.calls is; untouched = c.get.ensures.untouched is };
  },
)))

pub returns-clause-gets : goal.returns-clause-gets
returns-clause-gets g c = λ is. inr (inr (inr (record {
  looked = c.get.new.self;
  none = record {
    none = c.get.ensures.none (c.in-Ok-false.is ∙ ap Ok c.in-Ok-false.field-0-test);
    only = record { calls = c.get.ensures.calls is; untouched = c.get.ensures.untouched is };
  };
  made = c.make.new.arg2.items;
  makes = (c.get.new.into, c.make.new.arg2, c.get.ensures.kept (λ found. absurd (cc)) ∙ c.clear.ensures.items, record { shown = _; shows = refl; left = _; met = c.in_default.ensures; leaves = refl }, refl);
  adds = c.add_made.ensures.adds is;
})))
