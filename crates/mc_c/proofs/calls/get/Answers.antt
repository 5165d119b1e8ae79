use Rattle.std.proofs.Common.{Bool, Err, List, Ok, ap, refl, subst, sym, true, ℕ}
use Rattle.std.specs.Arc.{arc_value}
use Rattle.mc_cache.specs.declared.cache.Cache.{Cache}
use Rattle.mc_cache.specs.declared.working.TryGetError.{TryGetError}
use Rattle.mc_cache.specs.Resting.{ActsAgain}
use Rattle.mc_cache.specs.WorkingWithin.{GetsWithin}
use Rattle.mc_c.specs.Calls.{WritesValue}
use Rattle.mc_c.specs.Codes.{get_code}
use Rattle.mc_c.proofs.calls.get.Goals as goal

pub returns-in-Ok-true : goal.returns-in-Ok-true
returns-in-Ok-true c = record {
  found = Ok c.in-Ok-true.field-0;
  value = c.get_within.new.into.items;
  key_length = c.in-Ok-true.ensures.key;
  same = c.in-Ok-true.ensures.same;
  acts = λ key. subst (λ (old : List ℕ). ActsAgain (arc_value c.args.client.now.cache) c.args.key.now (λ hash. GetsWithin c.args.tries hash c.args.key.now old c.get_within.new.into.items (Ok c.in-Ok-true.field-0)) c.args.client.now.worker c.get_within.new.self) c.clear.ensures.items
      (subst (λ (cache : Cache). ActsAgain cache c.args.key.now (λ hash. GetsWithin c.args.tries hash c.args.key.now c.clear.new.self.items c.get_within.new.into.items (Ok c.in-Ok-true.field-0)) c.args.client.now.worker c.get_within.new.self) c.deref.ensures (c.in-Ok-true.ensures.acts key));
  writes = subst (λ (b : Bool). WritesValue (Ok b) c.get_within.new.into.items c.copy.result c.args.out.now c.args.len.now c.copy.new.out c.copy.new.len) (sym c.in-Ok-true.field-0-test)
      (subst (λ (v : List ℕ). WritesValue (Ok true) v c.copy.result c.args.out.now c.args.len.now c.copy.new.out c.copy.new.len) c.as_slice.ensures.value c.copy.ensures);
  cache = refl;
  spare = refl;
}

pub returns-in-Ok-false : goal.returns-in-Ok-false
returns-in-Ok-false c = record {
  found = Ok c.in-Ok-false.field-0;
  value = c.get_within.new.into.items;
  key_length = c.in-Ok-false.ensures.key;
  same = c.in-Ok-false.ensures.same;
  acts = λ key. subst (λ (old : List ℕ). ActsAgain (arc_value c.args.client.now.cache) c.args.key.now (λ hash. GetsWithin c.args.tries hash c.args.key.now old c.get_within.new.into.items (Ok c.in-Ok-false.field-0)) c.args.client.now.worker c.get_within.new.self) c.clear.ensures.items
      (subst (λ (cache : Cache). ActsAgain cache c.args.key.now (λ hash. GetsWithin c.args.tries hash c.args.key.now c.clear.new.self.items c.get_within.new.into.items (Ok c.in-Ok-false.field-0)) c.args.client.now.worker c.get_within.new.self) c.deref.ensures (c.in-Ok-false.ensures.acts key));
  writes = subst (λ (b : Bool). WritesValue (Ok b) c.get_within.new.into.items 1 c.args.out.now c.args.len.now c.args.out.now c.args.len.now) (sym c.in-Ok-false.field-0-test) (refl, refl, refl);
  cache = refl;
  spare = refl;
}

pub returns-in-Err-NoMemory : goal.returns-in-Err-NoMemory
returns-in-Err-NoMemory c = record {
  found = Err c.in-Err-NoMemory.field-0;
  value = c.get_within.new.into.items;
  key_length = c.in-Err-NoMemory.ensures.key;
  same = c.in-Err-NoMemory.ensures.same;
  acts = λ key. subst (λ (old : List ℕ). ActsAgain (arc_value c.args.client.now.cache) c.args.key.now (λ hash. GetsWithin c.args.tries hash c.args.key.now old c.get_within.new.into.items (Err c.in-Err-NoMemory.field-0)) c.args.client.now.worker c.get_within.new.self) c.clear.ensures.items
      (subst (λ (cache : Cache). ActsAgain cache c.args.key.now (λ hash. GetsWithin c.args.tries hash c.args.key.now c.clear.new.self.items c.get_within.new.into.items (Err c.in-Err-NoMemory.field-0)) c.args.client.now.worker c.get_within.new.self) c.deref.ensures (c.in-Err-NoMemory.ensures.acts key));
  writes = (sym (ap (λ (e : TryGetError). get_code (Err e)) c.in-Err-NoMemory.field-0-is), refl, refl);
  cache = refl;
  spare = refl;
}
