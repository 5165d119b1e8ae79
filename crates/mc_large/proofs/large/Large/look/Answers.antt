use Rattle.std.proofs.Common.{◌∙◌, Ok, ap, refl}
use Rattle.mc_update.specs.Updates.{FindsNoValue, OnlyGets}
use Rattle.mc_large.proofs.Gets.{got_part, gets_only, lacks_only}
use Rattle.mc_large.proofs.large.Large.look.Goals as goal

pub returns-in-Ok-Some-clause-only : goal.returns-in-Ok-Some-clause-only
returns-in-Ok-Some-clause-only g c =
    let cache = c.args.cache.now in
    let place = c.args.place.now in
    let before = c.args.worker.now in
    let now = c.get_with_version.new.self in
    let only : OnlyGets cache place before now = record { calls = c.get_with_version.ensures.calls c.requires.place; untouched = c.get_with_version.ensures.untouched c.requires.place } in
    let got = got_part cache place place c.clear.new.self.items c.get_with_version.new.into.items before now c.in-Ok-Some.field-0 c.in-Ok-Some._version refl c.in-Ok-Some.field-0-is c.in-Ok-Some.ensures.value only in
    gets_only cache place got.0 c.in-Ok-Some._version before now got.1

pub returns-in-Ok-None-clause-none : goal.returns-in-Ok-None-clause-none
returns-in-Ok-None-clause-none g c = λ isnt. record {
  none = c.get_with_version.ensures.none (c.in-Ok-None.is ∙ ap Ok c.in-Ok-None.field-0-is);
  only = record { calls = c.get_with_version.ensures.calls c.requires.place; untouched = c.get_with_version.ensures.untouched c.requires.place };
}

pub returns-in-Ok-None-clause-only : goal.returns-in-Ok-None-clause-only
returns-in-Ok-None-clause-only g c =
    let cache = c.args.cache.now in
    let place = c.args.place.now in
    let before = c.args.worker.now in
    let now = c.get_with_version.new.self in
    let lacks : FindsNoValue cache place before now = record {
      none = c.get_with_version.ensures.none (c.in-Ok-None.is ∙ ap Ok c.in-Ok-None.field-0-is);
      only = record { calls = c.get_with_version.ensures.calls c.requires.place; untouched = c.get_with_version.ensures.untouched c.requires.place };
    } in
    lacks_only cache place before now lacks
