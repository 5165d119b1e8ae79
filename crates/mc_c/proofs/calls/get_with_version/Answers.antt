use Rattle.std.proofs.Common.{Err, List, Ok, Option, ap, refl, subst, sym, ℕ}
use Rattle.std.specs.Arc.{arc_value}
use Rattle.mc_cache.specs.declared.cache.Cache.{Cache}
use Rattle.mc_cache.specs.declared.working.TryGetError.{TryGetError}
use Rattle.mc_cache.specs.Resting.{ActsAgain}
use Rattle.mc_cache.specs.Versions.{GetsVersionWithin}
use Rattle.mc_c.specs.Calls.{WritesValue, is_found, version_or}
use Rattle.mc_c.specs.Codes.{get_code}
use Rattle.mc_c.proofs.calls.get_with_version.Goals as goal

pub returns-in-Ok-None : goal.returns-in-Ok-None
returns-in-Ok-None c = record {
  found = Ok c.in-Ok-None.field-0;
  value = c.get_with_version_within.new.into.items;
  key_length = c.in-Ok-None.ensures.key;
  same = c.in-Ok-None.ensures.same;
  acts = λ key. subst (λ (old : List ℕ). ActsAgain (arc_value c.args.client.now.cache) c.args.key.now (λ hash. GetsVersionWithin c.args.tries hash c.args.key.now old c.get_with_version_within.new.into.items (Ok c.in-Ok-None.field-0)) c.args.client.now.worker c.get_with_version_within.new.self) c.clear.ensures.items
      (subst (λ (cache : Cache). ActsAgain cache c.args.key.now (λ hash. GetsVersionWithin c.args.tries hash c.args.key.now c.clear.new.self.items c.get_with_version_within.new.into.items (Ok c.in-Ok-None.field-0)) c.args.client.now.worker c.get_with_version_within.new.self) c.deref.ensures (c.in-Ok-None.ensures.acts key));
  writes = subst (λ (o : Option ℕ). WritesValue (is_found (Ok o)) c.get_with_version_within.new.into.items 1 c.args.out.now c.args.len.now c.args.out.now c.args.len.now) (sym c.in-Ok-None.field-0-is) (refl, refl, refl);
  version_is = sym (ap (λ (o : Option ℕ). version_or (Ok o) c.args.version.now) c.in-Ok-None.field-0-is);
  cache = refl;
  spare = refl;
}

pub returns-in-Err-NoMemory : goal.returns-in-Err-NoMemory
returns-in-Err-NoMemory c = record {
  found = Err c.in-Err-NoMemory.field-0;
  value = c.get_with_version_within.new.into.items;
  key_length = c.in-Err-NoMemory.ensures.key;
  same = c.in-Err-NoMemory.ensures.same;
  acts = λ key. subst (λ (old : List ℕ). ActsAgain (arc_value c.args.client.now.cache) c.args.key.now (λ hash. GetsVersionWithin c.args.tries hash c.args.key.now old c.get_with_version_within.new.into.items (Err c.in-Err-NoMemory.field-0)) c.args.client.now.worker c.get_with_version_within.new.self) c.clear.ensures.items
      (subst (λ (cache : Cache). ActsAgain cache c.args.key.now (λ hash. GetsVersionWithin c.args.tries hash c.args.key.now c.clear.new.self.items c.get_with_version_within.new.into.items (Err c.in-Err-NoMemory.field-0)) c.args.client.now.worker c.get_with_version_within.new.self) c.deref.ensures (c.in-Err-NoMemory.ensures.acts key));
  writes = (sym (ap (λ (e : TryGetError). get_code (Err e)) c.in-Err-NoMemory.field-0-is), refl, refl);
  version_is = refl;
  cache = refl;
  spare = refl;
}
