use Rattle.std.proofs.Common.{List, ap, arith, inl, refl, subst, sym, ◌≡◌, ◌∙◌, ⊎_elim}
use Rattle.mc_cache.specs.declared.cache.Cache.{Cache}
use Rattle.mc_cache.specs.declared.stats.ClassStats.{ClassStats}
use Rattle.mc_classes.specs.Classes.{Classes}
use Rattle.std.proofs.Common.{length}
use Rattle.mc_cache.specs.Observers.{classes_of}
use Rattle.mc_cache.specs.Stats.{CountsCache}
use Rattle.mc_c.specs.TenderCalls.{WritesClasses}
use Rattle.mc_c.proofs.Acted.{some_same}
use Rattle.mc_c.proofs.tending.stats.Goals as goal

pub returns-in-Ok : goal.returns-in-Ok
returns-in-Ok c =
    let same : c.classes.result.now ≡ c.classes-in-Ok.result.now = some_same c.classes.result.now c.classes-in-Ok.result.now (sym c.classes.ensures.classes ∙ ap classes_of (c.deref.ensures ∙ sym c.deref-in-Ok.ensures) ∙ c.classes-in-Ok.ensures.classes) in
    record {
      codes = inl refl;
      counts = λ code. (
        c.in-Ok.stats,
        c.classes-in-Ok.result.now,
        subst (λ (cache : Cache). CountsCache cache c.in-Ok.stats c.args.client.now.tender c.stats_within.new.self) c.deref-2.ensures c.in-Ok.ensures.counts,
        sym (ap classes_of c.deref-in-Ok.ensures) ∙ c.classes-in-Ok.ensures.classes,
        c.of.ensures,
        c.count-known.ensures.count ∙ ap (λ (table : Classes). length table.sizes) same,
        subst (λ (rows : List ClassStats). WritesClasses c.classes-in-Ok.result.now rows c.args.classes.now c.write_classes.new.into) c.deref-in-Ok-2.ensures.value c.write_classes.ensures,
      );
      held = λ code. absurd (omega (arith, code));
      no_memory = λ code. absurd (omega (arith, code));
      too_small = λ code. absurd (omega (arith, code));
      kept = λ other. absurd (other refl);
      kept_count = λ code. absurd (⊎_elim (λ (is : 0 ≡ 2). omega (arith, is)) (λ (is : 0 ≡ 6). omega (arith, is)) code);
      cache = refl;
    }
